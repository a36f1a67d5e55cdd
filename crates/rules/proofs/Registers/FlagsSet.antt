-- The pin's flags are document 01's: after a conversion bits 15, 14 and 13 of 05h are the three flags of t; and a change is one of the high or low flag.
-- Assumes nothing.
use Rattle.proof_lists.specs.Tests.{bit-back}
use Prim.Native.Nat.{ℕ, ◌+◌, ◌*◌, ◌/◌, ◌%◌}
use native.Mathlib.Omega.{arith}
use mathlib.Core.Path.{◌≡◌, sym, ◌∙◌, ap}
use mathlib.Core.Bool.{true, false, false≢true}
use borrow.Author.Tests.{eqb-true, eqb-false, eq-eqb, not-false, not-true}
use lib.Dec.{T, eqb}
use lib.IntN.{ℤ, pos, negsuc}
use lib.Signed.{le_z}
use Rattle.proof_lists.specs.Tests.{by-test}
use Rattle.rules.specs.declared.Sensor.{Sensor}
use Rattle.rules.specs.Pin.{critical_set, high_set, low_set, changes}
use Rattle.rules.specs.Sensor.{stepped_of, shut_down, critical_flag, high_flag, low_flag, converted}
use Rattle.rules.proofs.Registers.Told.{converted-tells}

-- the flags that a conversion leaves
pub record Set (x : Sensor) (t : ℤ) (w : ℕ) : Type 0 where
  pub critical : critical_set w ≡ critical_flag x t
  pub high : high_set w ≡ high_flag x t
  pub low : low_set w ≡ low_flag x t

pub flags-set : (x : Sensor) (given : ℤ) → shut_down x ≡ false → T (le_z (negsuc 639) given) → T (le_z given (pos 2000))
    → Set x (stepped_of x given) (converted x given).temperature
unfolding critical_set high_set low_set
flags-set x given awake h k =
    let v = converted-tells x given awake h k in
    let t = stepped_of x given in
    record {
      critical = ap (λ (n : ℕ). eqb n 1) v.critical ∙ bit-back (critical_flag x t);
      high = ap (λ (n : ℕ). eqb n 1) v.high ∙ bit-back (high_flag x t);
      low = ap (λ (n : ℕ). eqb n 1) v.low ∙ bit-back (low_flag x t);
    }

-- two digits that are tested alike are the same
same-bit-back : (m n : ℕ) → eqb (m % 2) 1 ≡ eqb (n % 2) 1 → m % 2 ≡ n % 2
same-bit-back m n e =
    by-test (eqb (m % 2) 1)
    (λ f. eqb-true _ 1 f ∙ sym (eqb-true _ 1 (sym e ∙ f)))
    (λ f. omega (arith, eqb-false (m % 2) 1 f, eqb-false (n % 2) 1 (sym e ∙ f)))

-- bits 14 and 13 as one number
two_digits : (n : ℕ) → n / 8192 % 4 ≡ n / 16384 % 2 * 2 + n / 8192 % 2
two_digits n = omega arith

-- no change: neither flag is another; a change: not both are the same
module _ (before after : ℕ) where
  pub no_change : changes before after ≡ false → (high_set before ≡ high_set after) × (low_set before ≡ low_set after)
  unfolding changes high_set low_set
  no_change e =
      let s : before / 8192 % 4 ≡ after / 8192 % 4 = eqb-true _ _ (not-false _ e) in
      let h : before / 16384 % 2 ≡ after / 16384 % 2 = omega arith in
      let l : before / 8192 % 2 ≡ after / 8192 % 2 = omega arith in
      (ap (λ (n : ℕ). eqb n 1) h, ap (λ (n : ℕ). eqb n 1) l)

  pub a-change : changes before after ≡ true → high_set before ≡ high_set after → low_set before ≡ low_set after → ⊥
  unfolding changes high_set low_set
  a-change e h l =
      let hi = same-bit-back (before / 16384) (after / 16384) h in
      let lo = same-bit-back (before / 8192) (after / 8192) l in
      let s : before / 8192 % 4 ≡ after / 8192 % 4 = two_digits before ∙ rw (hi, lo) (sym (two_digits after)) in
      false≢true (sym (not-true _ e) ∙ eq-eqb _ _ s)
