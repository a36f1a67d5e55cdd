-- What row 6 asks of an older module, P9's kind 3: half 0, no protection but bit 0's, and that set if permanent. The end of every cycle keeps it.
-- Assumes nothing.
use Prim.Native.Nat.{ℕ}
use mathlib.Core.Path.{◌≡◌, refl}
use mathlib.Core.Bool.{Bool, true, false, false≢true, not, ◌&&◌, ◌||◌, or-true}
use mathlib.Core.List.{List}
use lib.Dec.{eqb}
use lib.ListN.{get_or}
use borrow.Author.Tests.{eqb-true, eq-eqb, not-true}
use Rattle.proof_lists.specs.Tests.{by-test, and_left, and_right}
use Rattle.rules.specs.declared.Slot.{Slot}
use Rattle.rules.specs.Modelled.{older}
use Rattle.rules.specs.Memory.{permanent_then, brought}
use Rattle.rules.specs.Refusals.{older_in_range}

-- the numbers that it goes by
pub record Alone (half : ℕ) (protection : List Bool) (permanent : Bool) : Type 0 where
  pub first-half : half ≡ 0
  pub no_one : get_or protection 1 false ≡ false
  pub no-two : get_or protection 2 false ≡ false
  pub no-three : get_or protection 3 false ≡ false
  pub set_if : permanent ≡ true → get_or protection 0 false ≡ true

abbrev pub Olds : ℕ → ℕ → List Bool → Bool → Type 0
Olds kind half protection permanent = eqb kind 3 ≡ true → Alone half protection permanent

abbrev set-if-all : Bool → Bool → Bool
set-if-all p z = not p || z

implied : (p z : Bool) → set-if-all p z ≡ true → p ≡ true → z ≡ true
implied true z e h = e
implied false z e h = absurd (false≢true h)

joined : (p z : Bool) → (p ≡ true → z ≡ true) → set-if-all p z ≡ true
joined true z f = f refl
joined false z f = refl

pub olds : (s : Slot) → older_in_range s ≡ true → Olds s.kind s.half s.protection s.old.permanent
unfolding older_in_range older
olds s t o =
    let h : Bool = eqb s.half 0 in
    let p : List Bool = s.protection in
    let a : Bool = not (get_or p 1 false) in
    let b : Bool = not (get_or p 2 false) in
    let c : Bool = not (get_or p 3 false) in
    let d : Bool = set-if-all s.old.permanent (get_or p 0 false) in
    let all : (h && a && b && c && d) ≡ true = rw o at t in
    let t₃ = and_left (h && a && b && c) d all in
    let t₂ = and_left (h && a && b) c t₃ in
    let t₁ = and_left (h && a) b t₂ in
    record {
      first-half = eqb-true s.half 0 (and_left h a t₁);
      no_one = not-true (get_or p 1 false) (and_right h a t₁);
      no-two = not-true (get_or p 2 false) (and_right (h && a) b t₂);
      no-three = not-true (get_or p 3 false) (and_right (h && a && b) c t₃);
      set_if = implied s.old.permanent (get_or p 0 false) (and_right (h && a && b && c) d all);
    }

pub in-range : (s : Slot) → Olds s.kind s.half s.protection s.old.permanent → older_in_range s ≡ true
unfolding older_in_range older
in-range s f = by-test (eqb s.kind 3)
    (λ o. let v = f o in
    rw (o, eq-eqb s.half 0 v.first-half, v.no_one, v.no-two, v.no-three) (joined s.old.permanent (get_or s.protection 0 false) v.set_if))
    (λ o. rw o)

-- what a cycle's end brings
pub brought-alone : (s : Slot) → Olds s.kind s.half s.protection s.old.permanent → Olds s.kind s.half (brought s) (permanent_then s)
unfolding brought older
brought-alone s f o = rw o (record {
  first-half = (f o).first-half;
  no_one = refl;
  no-two = refl;
  no-three = refl;
  set_if = λ e. rw e (or-true (get_or s.coming 0 false));
})
