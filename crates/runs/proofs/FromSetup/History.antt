-- The story of a slot, told of the bench: after any run of events from setup, refused ones among it, what an event changes of a slot's
-- protection or bytes was begun earlier in that run.
-- Assumes nothing.
use Rattle.std.specs.Prelude.{Ok, Err}
use Prim.Native.Nat.{ℕ, ◌<◌}
use mathlib.Core.Path.{◌≡◌, refl, sym, ◌∙◌, ap, subst}
use mathlib.Core.Bool.{true, false≢true, not}
use mathlib.Core.List.{List, []}
use lib.ListN.{length}
use Rattle.proof_lists.specs.Each.{every-at}
use Rattle.proof_lists.specs.Tests.{and_left, and_right}
use lib.Dec.{eqb}
use borrow.Author.Tests.{eqb-true, eq-eqb}
use Rattle.rules.specs.declared.Act.{Act}
use Rattle.rules.specs.declared.Act.TheVariants.{Start, Byte, Read, Stop, Timeout, Tick, Power, Apply}
use Rattle.rules.specs.declared.Cut.{Cut}
use Rattle.rules.specs.declared.Event.{Event}
use Rattle.rules.specs.declared.Pair.{Pair}
use Rattle.rules.specs.Refusals.{Ruling}
use Rattle.rules.specs.declared.Slot.{Slot}
use Rattle.rules.specs.Modelled.{slot_count, memory_bytes}
use Rattle.rules.specs.Fresh.{absent_slot, setup_slot, fresh_slot}
use Rattle.rules.specs.Power.{running}
use Rattle.rules.specs.Slot.{slot_next, part_next}
use Rattle.rules.specs.Refusals.{kinds_of}
use Rattle.rules.specs.Runs.{Bench, taken, ruling_on, ruled_next, next, after, slot_after}
use Rattle.runs.specs.Exchanges.{acts_of}
use Rattle.rules.proofs.Range.Kept.{setup-in-range}
use Rattle.rules.proofs.Run.Everywhere.{setup-everywhere}
use Rattle.rules.proofs.Memory.Stored.{ends, storing, finishes}
use Rattle.rules.proofs.Memory.Protection.{number-after}
use Rattle.runs.proofs.FromSetup.Reached.{Reach, reached}
use Rattle.runs.proofs.FromSetup.Story.{CommandBegun, PageBegun, protection-story, bytes-story}
use Rattle.runs.proofs.TwoClerks.Alone.{slots_of, part_of, slot_at, slot-taken, part-taken, slot-went}
use Rattle.runs.proofs.TwoClerks.RunAnswers.{after_kept}
use Rattle.runs.proofs.TwoClerks.Demand3.{begun, setup-number}

-- What ends the cycle of a slot that is s, and not with everything lost: its last tick, or a power cycle while it runs, with a number above 0.
pub data Ended (s : Slot) : Ruling → Type 0 where
  last_tick : s.left ≡ 1 → Ended s (Ok Tick)
  cut_off : (k : Cut) → (k.0 ≡ 0 → ⊥) → (s.left ≡ 0 → ⊥) → Ended s (Ok (Power k))

ended : (a : Act) (s : Slot) → finishes a s ≡ true → Ended s (Ok a)
unfolding finishes ends storing running
ended Start s e = absurd (false≢true e)
ended (Byte b) s e = absurd (false≢true e)
ended (Read more) s e = absurd (false≢true e)
ended Stop s e = absurd (false≢true e)
ended Timeout s e = absurd (false≢true e)
ended Tick s e = last_tick (eqb-true s.left 1 (and_left (eqb s.left 1) true e))
ended (Power k) s e = cut_off k
    (λ z. false≢true (sym (ap not (eq-eqb k.0 0 z)) ∙ and_right (not (eqb s.left 0)) (not (eqb k.0 0)) e))
    (λ z. false≢true (sym (ap not (eq-eqb s.left 0 z)) ∙ and_left (not (eqb s.left 0)) (not (eqb k.0 0)) e))
ended (Apply k x) s e = absurd (false≢true e)

-- what setup leaves to come is what stands, and no cycle runs
abbrev Fresh : Slot → Type 0
Fresh s = (s.coming ≡ s.protection) × (s.left ≡ 0)

-- slot k of eight set-up slots, after the events es
module _ (k : ℕ) (below : k < slot_count) (ps : List Pair) (eight : length ps ≡ slot_count) (m : List ℕ) (long : length m ≡ memory_bytes) (es : List Event) where
  abbrev pub slot : Bench → Slot
  slot x = slot_at absent_slot k x

  -- the slot that setup made, and the acts of the run
  abbrev pub made : Slot
  made = slot (begun ps m)

  abbrev pub acts : List Act
  acts = acts_of (kinds_of (begun ps m).bus) es

  abbrev pub bench : Bench
  bench = after es (begun ps m)

  pub here : k < length (slots_of (begun ps m))
  here = rw (setup-number ps m eight) below

  pub there : k < length (slots_of bench)
  there = rw (number-after es (begun ps m)) here

  pub slot-there : slot bench ≡ slot_after k acts made
  slot-there = ap slot (after_kept es (begun ps m) long (setup-in-range ps)) ∙ slot-went absent_slot k acts (begun ps m) here

  made-reach : Reach made
  made-reach = every-at Reach k (slots_of (begun ps m)) absent_slot here (unfold after in reached ps m [])

  made-fresh : Fresh made
  made-fresh = every-at Fresh k (slots_of (begun ps m)) absent_slot here
      (setup-everywhere Fresh (λ p e. unfold setup_slot fresh_slot in (refl, refl)) (unfold absent_slot fresh_slot in (refl, refl)) ps)

  -- Protection of slot k changes only at the tick or the cut that ends a cycle which an acknowledged protect or clear of this run began, to what that command asked for.
  -- The slot stood in that command from its byte to its stop, and the cycle has run from that stop to this event: there is one such stop and one such byte (`OneStory.one-command`).
  abbrev ProtectionTold : Bench → Ruling → Type 0
  ProtectionTold y r = Ended (slot bench) r × CommandBegun k made acts (slot y).protection

  protection-ruled : (r : Ruling) → ((slot (ruled_next r bench)).protection ≡ (slot bench).protection → ⊥) → ProtectionTold (ruled_next r bench) r
  unfolding ruled_next
  protection-ruled (Err x) ne = absurd (ne refl)
  protection-ruled (Ok a) ne =
      let step : slot (taken a bench) ≡ slot_next k a (slot_after k acts made) = slot-taken absent_slot k a bench there ∙ ap (slot_next k a) slot-there in
      let w = protection-story k made made-reach made-fresh.0 acts a (λ e. ne (ap (λ (s : Slot). s.protection) step ∙ e ∙ sym (ap (λ (s : Slot). s.protection) slot-there))) in
      (subst (λ (s : Slot). Ended s (Ok a)) (sym slot-there) (ended a (slot_after k acts made) w.0), subst (CommandBegun k made acts) (sym (ap (λ (s : Slot). s.protection) step)) w.1)

  pub protection-changes : (e : Event) → ((slot (next e bench)).protection ≡ (slot bench).protection → ⊥) → ProtectionTold (next e bench) (ruling_on e bench)
  unfolding next
  protection-changes e ne = protection-ruled (ruling_on e bench) ne

  -- Bytes of slot k change only at the tick or the cut that ends a page write's cycle which a stop of this run began; the cycle has run from that stop, which is one
  -- (`OneStory.one-page`), to this event.
  abbrev BytesTold : Ruling → Type 0
  BytesTold r = Ended (slot bench) r × PageBegun k made acts (slot bench)

  bytes-ruled : (r : Ruling) → (part_of k (ruled_next r bench) ≡ part_of k bench → ⊥) → BytesTold r
  unfolding ruled_next
  bytes-ruled (Err x) ne = absurd (ne refl)
  bytes-ruled (Ok a) ne =
      let step : part_of k (taken a bench) ≡ part_next a (slot_after k acts made) (part_of k bench) = part-taken absent_slot k a bench there ∙ ap (λ (s : Slot). part_next a s (part_of k bench)) slot-there in
      let w = bytes-story k made made-reach made-fresh.1 acts a (part_of k bench) (λ e. ne (step ∙ e)) in
      (subst (λ (s : Slot). Ended s (Ok a)) (sym slot-there) (ended a (slot_after k acts made) w.0), subst (PageBegun k made acts) (sym slot-there) w.1)

  pub bytes-change : (e : Event) → (part_of k (next e bench) ≡ part_of k bench → ⊥) → BytesTold (ruling_on e bench)
  unfolding next
  bytes-change e ne = bytes-ruled (ruling_on e bench) ne
