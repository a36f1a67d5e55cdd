-- Request P7, "round to the nearest step, halves upward": what the definition gives is that multiple and no other, proved once over the step.
-- Assumes nothing.
use Prim.Native.Nat.{ℕ, suc, ◌+◌, ◌-◌, ◌*◌, ◌/◌, ◌%◌, ◌≤◌, ◌<◌}
use native.Mathlib.Nat.{div-add-mod', mod-lt, mul-le-mul_right, lt_of_mul-lt-mul_right, le_antisymm}
use native.Mathlib.Omega.{arith}
use mathlib.Core.Path.{◌≡◌, refl, sym, ap, ◌∙◌}
use mathlib.Core.Bool.{false}
use borrow.Author.Tests.{ltb-true, ltb-false}
use lib.Dec.{T, eqb, ltb}
use lib.IntN.{ℤ, pos, negsuc, suc_ℤ, nat_abs, ◌+ℤ◌, ◌-ℤ◌, ◌*ℤ◌, suc_ℤ-*ℤ}
use lib.Signed.{lt_z, le_z, shr_z}
use Rattle.proof_lists.specs.Tests.{cond_cases, by-test}
use Rattle.rules.specs.declared.Sensor.{Sensor}
use Rattle.rules.specs.Sensor.{step_of, multiple_below, multiple_above, nearest_of, stepped_of}
use Rattle.rules.proofs.Registers.Signed.{up, down, natural, same, plus, less, times, twice, le-to, le_from, lt-to, lt-from, lt-false, size, size-least, size-most}

-- t is a multiple of the step
abbrev pub Multiple : ℕ → ℤ → Type 0
Multiple step t = (q : ℤ) × (t ≡ q *ℤ pos step)

-- the nearest, halves upward: 2t - step <= 2 x given < 2t + step
pub record Nearest (step : ℕ) (given t : ℤ) : Type 0 where
  pub multiple : Multiple step t
  pub least : T (le_z (pos 2 *ℤ t -ℤ pos step) (pos 2 *ℤ given))
  pub below : T (lt_z (pos 2 *ℤ given) (pos 2 *ℤ t +ℤ pos step))

-- the same in words: no multiple is nearer to the given number, and one that is as near is not above t
pub record InWords (step : ℕ) (given t : ℤ) : Type 0 where
  pub multiple : Multiple step t
  pub nearest : (u : ℤ) → Multiple step u → nat_abs (given -ℤ t) ≤ nat_abs (given -ℤ u)
  pub upward : (u : ℤ) → Multiple step u → nat_abs (given -ℤ u) ≡ nat_abs (given -ℤ t) → T (le_z u t)

-- the words alone leave one number
pub words-only : (step : ℕ) (given t u : ℤ) → InWords step given t → InWords step given u → t ≡ u
words-only step given t u a b =
    let e = le_antisymm (a.nearest u b.multiple) (b.nearest t a.multiple) in
    let l = le-to t u (b.upward t a.multiple e) in
    let g = le-to u t (a.upward u b.multiple (sym e)) in
    same t u (omega arith)

-- z stands less than a step above b
pub record Above (step : ℕ) (b z : ℤ) : Type 0 where
  pub rest : ℕ
  pub small : rest < step
  pub apart : up z + down b ≡ up b + down z + rest

module _ (m : ℕ) (some : 0 < m) where
  pub divided : (z : ℤ) → Above m (multiple_below m z) z
  unfolding multiple_below up down
  divided (pos a) = record { rest = a % m; small = mod-lt a some; apart = omega (arith, div-add-mod' a m) }
  divided (negsuc a) =
      let b = times (negsuc (a / m)) m in
      let l = mod-lt a some in
      record { rest = m - suc (a % m); small = omega arith; apart = omega (arith, div-add-mod' a m, b.0, b.1) }

  -- the bounds as facts of naturals, and back
  least-to : (z t : ℤ) → T (le_z (pos 2 *ℤ t -ℤ pos m) (pos 2 *ℤ z)) → 2 * up t + 2 * down z ≤ 2 * up z + 2 * down t + m
  least-to z t h =
      omega (arith, le-to (pos 2 *ℤ t -ℤ pos m) (pos 2 *ℤ z) h, less (pos 2 *ℤ t) (pos m), natural m, twice t, twice z)

  below-to : (z t : ℤ) → T (lt_z (pos 2 *ℤ z) (pos 2 *ℤ t +ℤ pos m)) → 2 * up z + 2 * down t < 2 * up t + 2 * down z + m
  below-to z t h =
      omega (arith, lt-to (pos 2 *ℤ z) (pos 2 *ℤ t +ℤ pos m) h, plus (pos 2 *ℤ t) (pos m), natural m, twice t, twice z)

  pub bounded : (z t : ℤ) → Multiple m t → 2 * up t + 2 * down z ≤ 2 * up z + 2 * down t + m → 2 * up z + 2 * down t < 2 * up t + 2 * down z + m
      → Nearest m z t
  bounded z t q l b =
      record {
        multiple = q;
        least = le_from (pos 2 *ℤ t -ℤ pos m) (pos 2 *ℤ z) (omega (arith, less (pos 2 *ℤ t) (pos m), natural m, twice t, twice z));
        below = lt-from (pos 2 *ℤ z) (pos 2 *ℤ t +ℤ pos m) (omega (arith, plus (pos 2 *ℤ t) (pos m), natural m, twice t, twice z));
      }

  -- the multiple below is nearer where less than half a step is left above it
  nearer : (z b : ℤ) (a : Above m b z) → T (lt_z (z -ℤ b) (b +ℤ pos m -ℤ z)) → 2 * a.rest < m
  nearer z b a h = omega (arith, lt-to (z -ℤ b) (b +ℤ pos m -ℤ z) h, less z b, less (b +ℤ pos m) z, plus b (pos m), natural m, a.apart)

  not-nearer : (z b : ℤ) (a : Above m b z) → lt_z (z -ℤ b) (b +ℤ pos m -ℤ z) ≡ false → m ≤ 2 * a.rest
  not-nearer z b a e = omega (arith, lt-false (z -ℤ b) (b +ℤ pos m -ℤ z) e, less z b, less (b +ℤ pos m) z, plus b (pos m), natural m, a.apart)

  pub nearest-is : (z : ℤ) → Nearest m z (nearest_of m z)
  unfolding nearest_of multiple_above multiple_below
  nearest-is z =
      let b = shr_z z m *ℤ pos m in
      let a = divided z in
      cond_cases (Nearest m z) (lt_z (z -ℤ b) (b +ℤ pos m -ℤ z))
      (λ e.
      let h = nearer z b a (rw e tt) in
      bounded z b (shr_z z m, refl) (omega (arith, a.apart)) (omega (arith, a.apart)))
      (λ e.
      let h = not-nearer z b a e in
      bounded z (b +ℤ pos m) (suc_ℤ (shr_z z m), sym (suc_ℤ-*ℤ (shr_z z m) (pos m)))
      (omega (arith, a.apart, a.small, plus b (pos m), natural m)) (omega (arith, a.apart, a.small, plus b (pos m), natural m)))

  -- two multiples less than a step apart are in order
  parts : (t : ℤ) (q : Multiple m t) → (up t ≡ up q.0 * m) × (down t ≡ down q.0 * m)
  parts t q = (ap up q.1 ∙ (times q.0 m).0, ap down q.1 ∙ (times q.0 m).1)

  in_order : (t u : ℤ) → Multiple m t → Multiple m u → up t + down u < up u + down t + m → up t + down u ≤ up u + down t
  in_order t u q p h =
      let a = up q.0 + down p.0 in
      let b = up p.0 + down q.0 in
      let k : a < b + 1 = lt_of_mul-lt-mul_right m (omega (arith, parts t q, parts u p)) in
      let l : a * m ≤ b * m = mul-le-mul_right m (omega arith) in
      omega (arith, parts t q, parts u p)

  -- t is the only one
  pub nearest-only : (z t u : ℤ) → Nearest m z t → Nearest m z u → t ≡ u
  nearest-only z t u n k =
      let a = least-to z t n.least in
      let b = below-to z t n.below in
      let c = least-to z u k.least in
      let d = below-to z u k.below in
      let l = in_order t u n.multiple k.multiple (omega arith) in
      let g = in_order u t k.multiple n.multiple (omega arith) in
      same t u (omega arith)

  -- rounding passes no multiple
  pub not-below : (z t u : ℤ) → Nearest m z t → Multiple m u → T (le_z u z) → T (le_z u t)
  not-below z t u n q h =
      let b = below-to z t n.below in
      let l = le-to u z h in
      le_from u t (in_order u t q n.multiple (omega arith))

  pub not-above : (z t u : ℤ) → Nearest m z t → Multiple m u → T (le_z z u) → T (le_z t u)
  not-above z t u n q h =
      let a = least-to z t n.least in
      let l = le-to z u h in
      le_from t u (in_order t u n.multiple q (omega arith))

  -- a multiple stays
  pub nearest-self : (t : ℤ) → Multiple m t → nearest_of m t ≡ t
  nearest-self t q = nearest-only t (nearest_of m t) t (nearest-is t) (bounded t t q (omega arith) (omega arith))

  -- of two multiples one is not above the other, or a whole step above it at least
  either : {P : Type 0} (t u : ℤ) → Multiple m t → Multiple m u → (up u + down t ≤ up t + down u → P) → (up t + down u + m ≤ up u + down t → P) → P
  either t u p q f g =
      let a = up u + down t in
      let b = up t + down u + m in
      by-test (ltb a b) (λ e. f (in_order u t q p (ltb-true a b e))) (λ e. g (ltb-false a b e))

  -- in words: t stands at most half a step from the given number, and another multiple a whole step from t
  module _ (z t : ℤ) (n : Nearest m z t) (u : ℤ) (q : Multiple m u) where
    within : (up z + down t ≤ nat_abs (z -ℤ u) + up t + down z) × (up t + down z ≤ nat_abs (z -ℤ u) + up z + down t)
    within =
        let a = least-to z t n.least in
        let b = below-to z t n.below in
        let d = less z u in
        let s = size-least (z -ℤ u) in
        either t u n.multiple q (λ l. either u t q n.multiple (λ g. omega arith) (λ g. omega arith)) (λ l. omega arith)

    no-nearer : nat_abs (z -ℤ t) ≤ nat_abs (z -ℤ u)
    no-nearer =
        let d = less z t in
        let w = within in
        size-most (z -ℤ t) (nat_abs (z -ℤ u)) (omega arith) (omega arith)

    as-near : nat_abs (z -ℤ u) ≡ nat_abs (z -ℤ t) → T (le_z u t)
    as-near e =
        let a = least-to z t n.least in
        let b = below-to z t n.below in
        let c = less z t in
        let d = less z u in
        let s = size-least (z -ℤ u) in
        le_from u t (either t u n.multiple q (λ l. l) (λ l. size (z -ℤ t) (λ k. omega arith) (λ k. omega arith)))

  pub in_words : (z t : ℤ) → Nearest m z t → InWords m z t
  in_words z t n = record { multiple = n.multiple; nearest = no-nearer z t n; upward = as-near z t n }

-- a fact of the four steps
step-cases : (P : ℕ → Type 0) → P 8 → P 4 → P 2 → P 1 → (r : ℕ) → P (step_of r)
unfolding step_of
step-cases P eight four two one r =
    cond_cases P (eqb r 0) (λ e. eight) (λ e. cond_cases P (eqb r 1) (λ e. four) (λ e. cond_cases P (eqb r 2) (λ e. two) (λ e. one)))

module _ (x : Sensor) where
  step-some : 0 < step_of x.resolution
  step-some = step-cases (λ (m : ℕ). 0 < m) (omega arith) (omega arith) (omega arith) (omega arith) x.resolution

  pub stepped-nearest : (given : ℤ) → Nearest (step_of x.resolution) given (stepped_of x given)
  unfolding stepped_of
  stepped-nearest given = nearest-is (step_of x.resolution) step-some given

  pub stepped-in-words : (given : ℤ) → InWords (step_of x.resolution) given (stepped_of x given)
  stepped-in-words given = in_words (step_of x.resolution) step-some given (stepped_of x given) (stepped-nearest given)

  pub stepped-only : (given t : ℤ) → Nearest (step_of x.resolution) given t → t ≡ stepped_of x given
  stepped-only given t n = nearest-only (step_of x.resolution) step-some given t (stepped_of x given) n (stepped-nearest given)

  -- both ends of the given temperature's range are multiples of every step, so t is in it too
  pub stepped-least : (given : ℤ) → T (le_z (negsuc 639) given) → T (le_z (negsuc 639) (stepped_of x given))
  stepped-least given h =
      not-below (step_of x.resolution) step-some given (stepped_of x given) (negsuc 639) (stepped-nearest given)
      (step-cases (λ (m : ℕ). Multiple m (negsuc 639)) (negsuc 79, refl) (negsuc 159, refl) (negsuc 319, refl) (negsuc 639, refl) x.resolution) h

  pub stepped-most : (given : ℤ) → T (le_z given (pos 2000)) → T (le_z (stepped_of x given) (pos 2000))
  stepped-most given h =
      not-above (step_of x.resolution) step-some given (stepped_of x given) (pos 2000) (stepped-nearest given)
      (step-cases (λ (m : ℕ). Multiple m (pos 2000)) (pos 250, refl) (pos 500, refl) (pos 1000, refl) (pos 2000, refl) x.resolution) h

  -- rounding t again gives t
  pub stepped-again : (given : ℤ) → stepped_of x (stepped_of x given) ≡ stepped_of x given
  unfolding stepped_of
  stepped-again given = nearest-self (step_of x.resolution) step-some (stepped_of x given) (stepped-nearest given).multiple
