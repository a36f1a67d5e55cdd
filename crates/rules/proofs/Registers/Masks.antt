-- Laws of masks that lib.Bits lacks: by induction on the binary digits, and for one digit at a time.
-- Assumes nothing.
use mathlib.Core.Path.{◌≡◌, refl, ap, ◌∙◌}
use Prim.Native.Nat.{ℕ, ◌/◌, ◌%◌, ◌^◌, min, max}
use native.Mathlib.Omega.{arith}
use lib.Arith.{bin_ind}
use lib.Bits.{bit_and, bit_or, and_step, or_step, and_shr, or_shr, and_self}

and-odd : (a b : ℕ) → bit_and a b % 2 ≡ min (a % 2) (b % 2)
and-odd a b = rw (and_step a b) (omega arith)

or-odd : (a b : ℕ) → bit_or a b % 2 ≡ max (a % 2) (b % 2)
or-odd a b = rw (or_step a b) (omega arith)

-- the k-th digit
pub and-bit : (k a b : ℕ) → bit_and a b / 2 ^ k % 2 ≡ min (a / 2 ^ k % 2) (b / 2 ^ k % 2)
and-bit k a b = rw (and_shr a b k) (and-odd (a / 2 ^ k) (b / 2 ^ k))

pub or-bit : (k a b : ℕ) → bit_or a b / 2 ^ k % 2 ≡ max (a / 2 ^ k % 2) (b / 2 ^ k % 2)
or-bit k a b = rw (or_shr a b k) (or-odd (a / 2 ^ k) (b / 2 ^ k))

pub and_assoc : (a b c : ℕ) → bit_and (bit_and a b) c ≡ bit_and a (bit_and b c)
and_assoc =
    bin_ind (λ (n : ℕ). (b c : ℕ) → bit_and (bit_and n b) c ≡ bit_and n (bit_and b c)) (λ b c. refl)
    (λ n ih b c. rw (and_step (bit_and n b) c, and_step n (bit_and b c), and_shr n b 1, and_shr b c 1, and-odd n b, and-odd b c, ih (b / 2) (c / 2)) (omega arith))

pub and-or : (a b c : ℕ) → bit_and (bit_or a b) c ≡ bit_or (bit_and a c) (bit_and b c)
and-or =
    bin_ind (λ (n : ℕ). (b c : ℕ) → bit_and (bit_or n b) c ≡ bit_or (bit_and n c) (bit_and b c)) (λ b c. refl)
    (λ n ih b c. rw (and_step (bit_or n b) c, or_step (bit_and n c) (bit_and b c), or_shr n b 1, and_shr n c 1, and_shr b c 1, or-odd n b, and-odd n c, and-odd b c, ih (b / 2) (c / 2)) (omega arith))

-- a masked number is within the mask
pub within : (v m : ℕ) → bit_and (bit_and v m) m ≡ bit_and v m
within v m = and_assoc v m m ∙ ap (λ (x : ℕ). bit_and v x) (and_self m)

-- numbers that are the same under a mask have the same digits where the mask has a one
pub same_bit : (k m a b : ℕ) → m / 2 ^ k % 2 ≡ 1 → bit_and a m ≡ bit_and b m → a / 2 ^ k % 2 ≡ b / 2 ^ k % 2
same_bit k m a b one h = let g = rw (and-bit k a m, and-bit k b m, one) at (ap (λ (n : ℕ). n / 2 ^ k % 2) h) in omega arith
