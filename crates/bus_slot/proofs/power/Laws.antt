-- The definitions in the form in which a function's proof asks for them: a premise for each fact of the way to a return.
-- Assumes nothing.
use Prim.Native.Nat.{ℕ, ◌+◌, ◌<◌, ◌≤◌}
use native.Mathlib.Numerals.{add-one}
use mathlib.Core.Path.{◌≡◌, refl, sym, ◌∙◌, ap}
use mathlib.Core.Bool.{Bool, true, false, ◌&&◌, ◌||◌}
use mathlib.Core.List.{List}
use lib.Dec.{eqb, ltb}
use lib.ListN.{length, get_or, set}
use borrow.Author.Tests.{eqb-true}
use Rattle.proof_lists.specs.Each.{map_to, map_to-none, map_to-next, map_to-step, map_to-same, map_to-full}
use Rattle.proof_lists.specs.Tests.{or_cases, or_left_false, or_right_false}
use Rattle.rules.specs.declared.Cut.{Cut}
use Rattle.rules.specs.declared.Act.TheVariants.{Power}
use Rattle.rules.specs.declared.Slot.{Slot}
use Rattle.rules.specs.Modelled.{absent, sensing, older}
use Rattle.rules.specs.Fresh.{powered}
use Rattle.rules.specs.Memory.{emptied, permanent_then, brought, ended, stored}
use Rattle.rules.specs.Open.{open-fields, open-refusals}
use Rattle.rules.specs.Power.{running, latched_below, first_of, cut, finished, power_cut, cut_part}
use Rattle.rules.specs.Refusals.{slot_in_range}
use Rattle.rules.specs.Slot.{present_next, slot_next, part_next}
use Rattle.rules.proofs.Document.Cut.{no-cycle, with_none}

-- the first so many are chosen one place a turn, with the number of those below it at hand
abbrev pub chosen : Cut → List Bool → ℕ → Bool → Bool
chosen k marks n marked = marked && ltb (latched_below marks n) k.0

abbrev pub Chosen : Cut → List Bool → ℕ → List Bool → ℕ → Type 0
Chosen k marks i first below = (first ≡ map_to (chosen k marks) 0 i marks) × (below ≡ latched_below marks i)

pub chosen_none : (k : Cut) (marks : List Bool) → Chosen k marks 0 marks 0
unfolding latched_below
chosen_none k marks = (map_to-none (chosen k marks) 0 marks, refl)

module _ (k : Cut) (marks : List Bool) (i : ℕ) (first : List Bool) (below : ℕ) (l : i < length marks) (c : Chosen k marks i first below) where
  -- the next place is still as it was
  next : get_or first i false ≡ get_or marks i false
  next = rw c.0 (map_to-next (chosen k marks) 0 i marks false)

  pub turn-latched : get_or first i false ≡ true → Chosen k marks (i + 1) (set first i (ltb below k.0)) (below + 1)
  unfolding latched_below
  turn-latched f =
      let e : get_or marks i false ≡ true = sym next ∙ f in
      (rw (c.0, c.1) (rw e at (map_to-step (chosen k marks) i marks false l)), ap (◌+ 1) c.1 ∙ add-one (latched_below marks i) ∙ sym (ap (latched_below marks) (add-one i) ∙ rw e))

  pub turn-empty : get_or first i false ≡ false → Chosen k marks (i + 1) first below
  unfolding latched_below
  turn-empty f =
      let e : get_or marks i false ≡ false = sym next ∙ f in
      (c.0 ∙ map_to-same (chosen k marks) i marks false l (rw e), c.1 ∙ sym (ap (latched_below marks) (add-one i) ∙ rw e))

pub chosen-all : (k : Cut) (marks : List Bool) (i : ℕ) (first : List Bool) (below : ℕ) → length marks ≤ i → Chosen k marks i first below → first ≡ first_of k marks
unfolding first_of
chosen-all k marks i first below l c = c.0 ∙ map_to-full (chosen k marks) 0 i marks l

-- a cycle cut short ends as the whole would: no byte is left in the latch
cut-ends : (k : Cut) (s : Slot) → ended (cut k s) ≡ ended s
unfolding ended emptied brought permanent_then older cut open-fields
cut-ends k s = refl

-- it is no further out of range
pub cut-in-range : (k : Cut) (s : Slot) → slot_in_range s ≡ true → slot_in_range (cut k s) ≡ true
unfolding cut open-fields open-refusals sensing older
cut-in-range k s e = e

-- a power cycle: the slot after it, and its bytes
abbrev pub AfterCut : Cut → Slot → List ℕ → Slot → List ℕ → Type 0
AfterCut k s m r q = (r ≡ slot_next 0 (Power k) s) × (q ≡ cut_part k s m)

module _ (k : Cut) (s r : Slot) (m q : List ℕ) where
  abbrev unstored : Bool
  unstored = eqb s.left 0 || eqb k.0 0

  -- no cycle runs, or it is dropped
  pub power-rests : absent s ≡ false → unstored ≡ true → r ≡ powered s → q ≡ m → AfterCut k s m r q
  unfolding part_next running
  power-rests a l e f =
      let u = or_cases (eqb s.left 0) (eqb k.0 0) l (λ z. no-cycle 0 k s m a (rw z)) (λ z. with_none 0 k s m a (eqb-true k.0 0 z)) in
      (e ∙ sym u.0, f ∙ sym u.1)

  -- one is cut short
  pub power-cuts : absent s ≡ false → unstored ≡ false → (x y : Slot) → x ≡ cut k s → y ≡ ended x → q ≡ stored x m → r ≡ powered y → AfterCut k s m r q
  unfolding slot_next present_next power_cut finished cut_part running
  power-cuts a l x y e f g h =
      let runs = or_left_false (eqb s.left 0) (eqb k.0 0) l in (
        rw (a, runs, or_right_false (eqb s.left 0) (eqb k.0 0) l) (h ∙ ap powered (f ∙ ap ended e ∙ cut-ends k s)),
        rw (a, runs) (g ∙ ap (λ (z : Slot). stored z m) e),
      )
