-- What the walk over a list needs: what is left to do at event i, one event more, none left; and that memory and state go on standing.
-- Assumes nothing.
use mathlib.Core.Path.{◌≡◌, refl, sym, ◌∙◌, ap, ap₂}
use mathlib.Core.Bool.{true}
use mathlib.Core.List.{List, [], ◌∷◌, ◌++◌, append_assoc, append-nil}
use Prim.Native.Nat.{ℕ, suc, ◌+◌, ◌<◌, ◌≤◌}
use native.Mathlib.Nat.{le_antisymm}
use native.Mathlib.Numerals.{add-one}
use borrow.Author.Tests.{eqb-true, lt-ltb, le-ltb}
use lib.Dec.{eqb}
use lib.ListN.{length, get_or, set, take, drop, take-append-drop, drop_of_length-le}
use lib.Seq.{drop-cons, take-suc-set, drop-set-lt}
use Rattle.proof_lists.specs.Tests.{and_left, and_right}
use Rattle.rules.specs.declared.Answer.{Answer}
use Rattle.rules.specs.declared.Answer.TheVariants.{Nothing, Refused}
use Rattle.rules.specs.declared.Bus.{Bus}
use Rattle.rules.specs.declared.Event.{Event}
use Rattle.rules.specs.declared.Refusal.TheVariants.{TooShort}
use Rattle.rules.specs.Modelled.{memory_bytes}
use Rattle.rules.specs.Events.{refusal_number, letter_of, value_of}
use Rattle.rules.specs.Refusals.{in_range}
use Rattle.rules.specs.Runs.{Bench, next, answered, after, answers}
use Rattle.list_entry.specs.Lists.{too_few, not_taken, taken, listed, events_of, standing}

-- what is left from event i on, with the answers before it at their places: the bench in the end, and the places
unfoldable pub rest_of : ℕ → Bench → List Answer → List Event → Bench × List Answer
rest_of i x places es = (after (drop i es) x, take i places ++ answers (drop i es) x ++ drop (length es) places)

-- one more event, whose answer goes to place i
module _ (es : List Event) (i : ℕ) (d : Event) (x : Bench) (places : List Answer) (within : i < length es) (room : i < length places) where
  abbrev e : Event
  e = get_or es i d

  -- the places with the answer in them: those before and the answer, and those past the end
  abbrev filled : List Answer
  filled = set places i (answered e x)

  abbrev past : List Answer → List Answer
  past ks = drop (length es) ks

  rest-suc : rest_of (suc i) (next e x) filled es ≡ rest_of i x places es
  unfolding rest_of after answers
  rest-suc =
      let ds : List Event = drop (suc i) es in
      let onward = sym (drop-cons es i d within) in
      ap₂ (λ (y : Bench) (ks : List Answer). (y, ks)) (ap (λ (fs : List Event). after fs x) onward)
      (ap₂ (λ (ks ls : List Answer). ks ++ answers ds (next e x) ++ ls) (take-suc-set places i (answered e x) room) (drop-set-lt (length es) places i (answered e x) within)
      ∙ ap (λ (ks : List Answer). ks ++ past places) (append_assoc (take i places) (answered e x ∷ []) (answers ds (next e x)))
      ∙ ap (λ (fs : List Event). take i places ++ answers fs x ++ past places) onward)

  pub rest_more : rest_of (i + 1) (next e x) filled es ≡ rest_of i x places es
  rest_more = ap (λ (k : ℕ). rest_of k (next e x) filled es) (add-one i) ∙ rest-suc

-- none is left
pub rest-none : (es : List Event) (i : ℕ) (x : Bench) (places : List Answer) → i ≤ length es → length es ≤ i → rest_of i x places es ≡ (x, places)
unfolding rest_of after answers
rest-none es i x places upto over =
    ap (λ (fs : List Event). (after fs x, take i places ++ answers fs x ++ drop (length es) places)) (drop_of_length-le es over)
    ∙ ap (λ (ks : List Answer). (x, ks))
    (ap₂ (λ (ks : List Answer) (n : ℕ). ks ++ drop n places) (append-nil (take i places)) (le_antisymm over upto) ∙ take-append-drop i places)

-- ---- the call, by its two cases
pub not-enough : (b : Bus) (m : List ℕ) (es : List Event) (places : List Answer) → length places < length es → events_of b m es places ≡ (record { bus = b; answer = Refused TooShort }, m, places)
unfolding events_of listed too_few not_taken
not-enough b m es places short = rw (lt-ltb (length places) (length es) short)

-- "An answer list shorter than the event list is refusal 9, before every other check and with nothing changed": whatever memory and state are
pub too-few : (b : Bus) (m : List ℕ) (es : List Event) (places : List Answer) → length places < length es
    → (letter_of (events_of b m es places).0.answer ≡ 0x52) × (value_of (events_of b m es places).0.answer ≡ 9)
    × ((events_of b m es places).0.bus ≡ b) × ((events_of b m es places).1 ≡ m) × ((events_of b m es places).2 ≡ places)
unfolding letter_of value_of refusal_number
too-few b m es places short = rw (not-enough b m es places short) (refl, refl, refl, refl, refl)

-- otherwise the call is not refused, whatever its events are
pub enough : (b : Bus) (m : List ℕ) (es : List Event) (places : List Answer) → length es ≤ length places → events_of b m es places ≡ taken (record { bus = b; memory = m }) es places
unfolding events_of listed too_few
enough b m es places l = rw (le-ltb (length places) (length es) l)

-- and it leaves what is left from the first event on
pub all-run : (b : Bus) (m : List ℕ) (es : List Event) (places : List Answer) (x : Bench) (ks : List Answer) → length es ≤ length places → rest_of 0 (record { bus = b; memory = m }) places es ≡ (x, ks)
    → events_of b m es places ≡ (record { bus = x.bus; answer = Nothing }, x.memory, ks)
unfolding taken rest_of
all-run b m es places x ks l e = enough b m es places l ∙ ap (λ (z : Bench × List Answer). (record { bus = z.0.bus; answer = Nothing }, z.0.memory, z.1)) e

-- memory and state stand: what is judged once
pub judged : (b : Bus) (m : List ℕ) → standing b (length m) ≡ true → (in_range b ≡ true) × (length m ≡ memory_bytes)
unfolding standing
judged b m h = (and_right (eqb (length m) memory_bytes) (in_range b) h, eqb-true (length m) memory_bytes (and_left (eqb (length m) memory_bytes) (in_range b) h))
