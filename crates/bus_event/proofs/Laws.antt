-- The bus's decisions in the form in which a function's proof asks for them.
-- Assumes nothing.
use Rattle.std.specs.Prelude.{Ok, Err}
use mathlib.Core.Path.{◌≡◌, sym, ◌∙◌, ap}
use mathlib.Core.Bool.{Bool, false, true}
use mathlib.Core.List.{List}
use Prim.Native.Nat.{ℕ}
use borrow.Author.Tests.{eq-eqb, ne_eqb}
use lib.ListN.{length}
use Rattle.std.specs.List.{list_all}
use Rattle.rules.specs.declared.Act.{Act}
use Rattle.rules.specs.declared.Answer.TheVariants as answer
use Rattle.rules.specs.declared.Bus.{Bus}
use Rattle.rules.specs.declared.Event.{Event}
use Rattle.rules.specs.declared.Outcome.{Outcome}
use Rattle.rules.specs.declared.Refusal.{Refusal}
use Rattle.rules.specs.declared.Refusal.TheVariants.{MemoryLength, WrongState}
use Rattle.rules.specs.Refusals.{Ruling}
use Rattle.rules.specs.Modelled.{memory_bytes}
use Rattle.rules.specs.Refusals.{wrong_length, kinds_of, kind_at, slot_in_range, in_range, ruled_for, ruled_by, ruling}
use Rattle.rules.specs.Runs.{taken, given, ruled_next, ruled_answer, ruled_outcome, event_of}
use Rattle.rules.proofs.Range.Rulings.{ruling-by-kinds}
use Rattle.bus_refusals.specs.Kinds.{kinds_in}
use Rattle.bus_slots.specs.Taken.{taken_then}

-- an event by its ruling
module _ (b : Bus) (m : List ℕ) (e : Event) where
  pub event-refused : (r : Outcome) (x : Refusal) → ruling b m e ≡ Err x → r ≡ record { bus = b; answer = answer.Refused x } → event_of b m e ≡ (r, m)
  unfolding event_of ruled_outcome ruled_next ruled_answer
  event-refused r x f g = rw f (ap (λ (o : Outcome). (o, m)) (sym g))

  pub event-taken : (a : Act) (p : Outcome × List ℕ) → ruling b m e ≡ Ok a → taken_then b m a ≡ p → event_of b m e ≡ p
  unfolding event_of ruled_outcome ruled_next ruled_answer taken given taken_then
  event-taken a p f g = rw f g

  pub ruling-short : (length m ≡ memory_bytes → ⊥) → ruling b m e ≡ Err MemoryLength
  unfolding ruling wrong_length
  ruling-short h = rw (ne_eqb (length m) memory_bytes h)

  pub ruling-odd : (q : Bool) → length m ≡ memory_bytes → q ≡ list_all slot_in_range b.slots → q ≡ false → ruling b m e ≡ Err WrongState
  unfolding ruling wrong_length in_range
  ruling-odd q h f g = rw (eq-eqb (length m) memory_bytes h, ← f, g)

  pub ruling-in-range : (k : ℕ) (q p : Ruling) → (in_range b ≡ true) × (length m ≡ memory_bytes) → k ≡ kind_at (kinds_in b.slots) e.slot → q ≡ ruled_for k e → q ≡ p
      → ruling b m e ≡ p
  unfolding kinds_of ruled_by
  ruling-in-range k q p v d f g = ruling-by-kinds b m e v.1 v.0 ∙ sym (ap (λ (x : ℕ). ruled_for x e) d) ∙ sym f ∙ g
