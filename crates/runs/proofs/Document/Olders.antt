-- Request P9 over whole runs of events, on any bench, refused ones among them: permanent protection is never lost, and an older module's upper 256 bytes never
-- change.
-- Assumes nothing.
use Rattle.std.specs.Prelude.{Ok, Err}
use Prim.Native.Nat.{ℕ, ◌+◌, ◌*◌, ◌<◌, ◌≤◌}
use mathlib.Core.Path.{◌≡◌, refl, sym, ◌∙◌, ap}
use mathlib.Core.Bool.{true}
use mathlib.Core.List.{List, [], ◌∷◌}
use lib.Dec.{eqb}
use lib.ListN.{length, get_or}
use Rattle.proof_lists.specs.Each.{list_all-at}
use Rattle.proof_lists.specs.Parts.{get_d_part}
use Rattle.rules.specs.declared.Event.{Event}
use Rattle.rules.specs.Refusals.{Ruling}
use Rattle.rules.specs.declared.Slot.{Slot}
use Rattle.rules.specs.Fresh.{absent_slot}
use Rattle.rules.specs.Modelled.{older, slot_bytes}
use Rattle.rules.specs.Refusals.{slot_in_range, in_range}
use Rattle.rules.specs.Runs.{Bench, taken, ruling_on, ruled_next, next, after, slot_after}
use Rattle.rules.proofs.Document.Older.{stays-for-ever, upper-still}
use Rattle.rules.proofs.Memory.Protection.{kind-next, number-next}
use Rattle.rules.proofs.Range.Kept.{facts, next-in-range}
use Rattle.runs.proofs.TwoClerks.Alone.{slots_of, part_of, slot_at, slot-taken, part-taken}

-- slot k of a bench
module _ (k : ℕ) where
  abbrev slot : Bench → Slot
  slot x = slot_at absent_slot k x

  abbrev There : Bench → Type 0
  There x = k < length (slots_of x)

  there-next : (e : Event) (x : Bench) → There x → There (next e x)
  there-next e x h = rw (number-next e x) h

  -- PERMANENT
  permanent-ruled : (r : Ruling) (x : Bench) → There x → (slot x).old.permanent ≡ true → (slot (ruled_next r x)).old.permanent ≡ true
  unfolding ruled_next slot_after
  permanent-ruled (Ok a) x h p = ap (λ (s : Slot). s.old.permanent) (slot-taken absent_slot k a x h) ∙ stays-for-ever k (a ∷ []) (slot x) p
  permanent-ruled (Err n) x h p = p

  pub permanent-never-lost : (es : List Event) (x : Bench) → There x → (slot x).old.permanent ≡ true → (slot (after es x)).old.permanent ≡ true
  unfolding after next
  permanent-never-lost [] x h p = p
  permanent-never-lost (e ∷ es) x h p = permanent-never-lost es (next e x) (there-next e x h) (permanent-ruled (ruling_on e x) x h p)

  -- UPPER BYTES: place i of the slot, from 256 on
  older-ruled : (r : Ruling) (x : Bench) → There x → older (slot x) ≡ true → older (slot (ruled_next r x)) ≡ true
  unfolding ruled_next older
  older-ruled (Ok a) x h o = ap (λ (s : Slot). eqb s.kind 3) (slot-taken absent_slot k a x h) ∙ ap (λ (j : ℕ). eqb j 3) (kind-next k a (slot x)) ∙ o
  older-ruled (Err n) x h o = o

  module _ (i d : ℕ) (upper : 256 ≤ i) (own : i < slot_bytes) where
    abbrev byte : Bench → ℕ
    byte x = get_or x.memory (slot_bytes * k + i) d

    upper-ruled : (r : Ruling) (x : Bench) → There x → in_range x.bus ≡ true → older (slot x) ≡ true → byte (ruled_next r x) ≡ byte x
    unfolding ruled_next in_range
    upper-ruled (Ok a) x h v o =
        let w = facts (slot x) (list_all-at slot_in_range k (slots_of x) absent_slot h v) in
        sym (get_d_part slot_bytes k (taken a x).memory i d own) ∙ ap (λ (m : List ℕ). get_or m i d) (part-taken absent_slot k a x h)
        ∙ upper-still a (slot x) (part_of k x) i d w o upper ∙ get_d_part slot_bytes k x.memory i d own
    upper-ruled (Err n) x h v o = refl

    pub upper-never-changes : (es : List Event) (x : Bench) → There x → in_range x.bus ≡ true → older (slot x) ≡ true → byte (after es x) ≡ byte x
    unfolding after next
    upper-never-changes [] x h v o = refl
    upper-never-changes (e ∷ es) x h v o =
        upper-never-changes es (next e x) (there-next e x h) (next-in-range e x v) (older-ruled (ruling_on e x) x h o)
        ∙ upper-ruled (ruling_on e x) x h v o
