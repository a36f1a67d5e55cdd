-- A pending change, told of the bench: after any run of events from setup, refused ones among it, a change of slot k is pending exactly if a conversion
-- of that run changed the high or low flag while one could be pending, and no write with bit 5 set, no write that leaves the mode and no power came since.
-- Assumes nothing.
use Prim.Native.Nat.{ℕ, ◌<◌}
use mathlib.Core.Path.{◌≡◌, refl, sym, ◌∙◌, ap, subst}
use mathlib.Core.Bool.{true, false, false≢true}
use mathlib.Core.List.{List}
use mathlib.Core.Logic.{⊎_elim}
use lib.ListN.{length}
use Rattle.proof_lists.specs.Each.{every-at}
use Rattle.rules.specs.declared.Event.{Event}
use Rattle.rules.specs.declared.Pair.{Pair}
use Rattle.rules.specs.declared.Slot.{Slot}
use Rattle.rules.specs.Modelled.{slot_count, memory_bytes}
use Rattle.rules.specs.Fresh.{absent_slot, setup_slot, fresh_slot, fresh_sensor}
use Rattle.rules.specs.Pin.{asserted}
use Rattle.rules.specs.Refusals.{kinds_of}
use Rattle.rules.specs.Runs.{Bench, after}
use Rattle.runs.specs.Exchanges.{acts_of, went}
use Rattle.rules.proofs.Memory.Stored.{memory-length-after}
use Rattle.rules.proofs.Range.Kept.{setup-in-range, after-in-range}
use Rattle.rules.proofs.Registers.Pending.{Can}
use Rattle.rules.proofs.Registers.Pinned.{Pended, holds_over, story, told_back, pending-asserts, can-after, stays-asserted}
use Rattle.rules.proofs.Run.Everywhere.{setup-everywhere}
use Rattle.runs.proofs.FromSetup.History as history
use Rattle.runs.proofs.TwoClerks.Alone.{slots_of, slot-went}
use Rattle.runs.proofs.TwoClerks.Demand3.{begun}
use Rattle.runs.proofs.TwoClerks.RunAnswers.{after_kept}

-- setup leaves nothing pending
abbrev Calm : Slot → Type 0
Calm s = s.sensor.pending ≡ false

-- slot k of eight set-up slots, after the events es
module _ (k : ℕ) (below : k < slot_count) (ps : List Pair) (eight : length ps ≡ slot_count) (m : List ℕ) (long : length m ≡ memory_bytes) (es : List Event) where
  abbrev slot : Bench → Slot
  slot x = history.slot k below ps eight m long es x

  abbrev bench : Bench
  bench = after es (begun ps m)

  -- the run, as its acts from the slot that setup made
  abbrev pub Brought : Type 0
  Brought = Pended k (history.made k below ps eight m long es) (history.acts k below ps eight m long es)

  made-calm : Calm (history.made k below ps eight m long es)
  made-calm = every-at Calm k (slots_of (begun ps m)) absent_slot (history.here k below ps eight m long es)
      (setup-everywhere Calm (λ p e. unfold setup_slot fresh_slot fresh_sensor in refl) (unfold absent_slot fresh_slot fresh_sensor in refl) ps)

  pub pending-exactly : (slot bench).sensor.pending ≡ true → Brought
  pending-exactly p =
      ⊎_elim (λ w. absurd (false≢true (sym made-calm ∙ w.0))) (λ w. w)
      (story k _ _ (sym (ap (λ (s : Slot). s.sensor.pending) (history.slot-there k below ps eight m long es)) ∙ p))

  pub exactly-pending : Brought → (slot bench).sensor.pending ≡ true
  exactly-pending w = ap (λ (s : Slot). s.sensor.pending) (history.slot-there k below ps eight m long es) ∙ told_back k _ _ w

  -- then the pin is asserted, and stays so over any further run whose acts do not drop the change
  can-here : Can (slot bench).sensor
  can-here = subst (λ (s : Slot). Can s.sensor) (sym (history.slot-there k below ps eight m long es)) (can-after k _ _ (λ p. absurd (false≢true (sym made-calm ∙ p))))

  pub pending-asserted : (slot bench).sensor.pending ≡ true → asserted (slot bench).sensor ≡ true
  pending-asserted p = pending-asserts (slot bench).sensor can-here p

  pub asserted-stays : (more : List Event) → (slot bench).sensor.pending ≡ true → holds_over k (acts_of (kinds_of bench.bus) more) (slot bench) ≡ true
      → asserted (slot (after more bench)).sensor ≡ true
  asserted-stays more p h =
      let e : after more bench ≡ went (acts_of (kinds_of bench.bus) more) bench
      = after_kept more bench (memory-length-after es (begun ps m) ∙ long) (after-in-range es (begun ps m) (setup-in-range ps)) in
      ap (λ (s : Slot). asserted s.sensor) (ap slot e ∙ slot-went absent_slot k (acts_of (kinds_of bench.bus) more) bench (history.there k below ps eight m long es))
      ∙ stays-asserted k _ (slot bench) can-here p h
