-- Numbers as the form writes them: a word of two bytes, a byte of bits, and registers that fit in a byte.
-- Assumes nothing.
use Prim.Native.Nat.{ℕ, zero, suc, ◌+◌, ◌*◌, ◌/◌, ◌%◌, ◌^◌, min, ◌≤◌, ◌<◌}
use native.Mathlib.Nat.{pow-suc, mul_comm, div-one, div-div-eq-div-mul}
use native.Mathlib.Omega.{arith}
use mathlib.Core.Path.{◌≡◌, refl, sym, ◌∙◌, ap, ap₂}
use mathlib.Core.Bool.{Bool, true, false, cond}
use mathlib.Core.List.{List, [], ◌∷◌}
use lib.Bits.{bit_and, and_le_r}
use lib.Dec.{eqb}
use lib.ListN.{length, get_or}
use borrow.Author.Tests.{eqb-true, eq-eqb, ne_eqb}
use Rattle.rules.specs.Refusals.{kept_in}
use Rattle.rules.proofs.Registers.Masks.{and-bit}
use Rattle.save_rules.specs.Form.{bits_of, bits_in}

-- "with the high byte first": a word is its two bytes
pub word-of-bytes : (v : ℕ) → 256 * (v / 256) + v % 256 ≡ v
word-of-bytes v = omega arith

-- a list of bits written as a number and read again
pub bits_back : (bs : List Bool) → bits_in (length bs) (bits_of bs) ≡ bs
unfolding bits_in bits_of
bits_back [] = refl
bits_back (true ∷ bs) =
    let n = bits_of bs in
    let r : (1 + 2 * n) % 2 ≡ 1 = omega arith in
    let q : (1 + 2 * n) / 2 ≡ n = omega arith in
    ap₂ ◌∷◌ (eq-eqb _ 1 r) (ap (bits_in (length bs)) q ∙ bits_back bs)
bits_back (false ∷ bs) =
    let n = bits_of bs in
    let r : (0 + 2 * n) % 2 ≡ 1 → ⊥ = λ e. omega arith in
    let q : (0 + 2 * n) / 2 ≡ n = omega arith in
    ap₂ ◌∷◌ (ne_eqb _ 1 r) (ap (bits_in (length bs)) q ∙ bits_back bs)

pub length-bits : (n v : ℕ) → length (bits_in n v) ≡ n
unfolding bits_in
length-bits zero v = refl
length-bits (suc n) v = ap suc (length-bits n (v / 2))

-- "bit b is block b": of what is read, and of what is written
pub block-of-bit : (n v b : ℕ) → b < n → get_or (bits_in n v) b false ≡ eqb (v / 2 ^ b % 2) 1
unfolding bits_in
block-of-bit zero v b h = absurd (omega arith)
block-of-bit (suc n) v zero h = ap (λ (w : ℕ). eqb (w % 2) 1) (sym (div-one v))
block-of-bit (suc n) v (suc b) h = block-of-bit n (v / 2) b (omega arith) ∙ ap (λ (w : ℕ). eqb (w % 2) 1) (div-div-eq-div-mul v 2 (2 ^ b) ∙ ap (v /◌) (mul_comm 2 (2 ^ b) ∙ sym (pow-suc 2 b)))

pub bit-of-block : (bs : List Bool) (b : ℕ) → b < length bs → eqb (bits_of bs / 2 ^ b % 2) 1 ≡ get_or bs b false
bit-of-block bs b h = sym (block-of-bit (length bs) (bits_of bs) b h) ∙ ap (λ (cs : List Bool). get_or cs b false) (bits_back bs)

-- n bits make a number below 2 to the n: so four are at most 15
pub bit-small : (b : Bool) → cond b 1 0 ≤ 1
bit-small true = omega arith
bit-small false = omega arith

pub bits_small : (bs : List Bool) → bits_of bs < 2 ^ length bs
unfolding bits_of
bits_small [] = omega arith
bits_small (b ∷ bs) = let i = bits_small bs in let c = bit-small b in rw pow-suc (omega arith)

-- four blocks of which only the first may be protected: that one tells them, and their byte is it
pub only-first : (bs : List Bool) → length bs ≡ 4 → get_or bs 1 false ≡ false → get_or bs 2 false ≡ false → get_or bs 3 false ≡ false
    → bs ≡ get_or bs 0 false ∷ false ∷ false ∷ false ∷ []
only-first [] l x y z = absurd (omega arith)
only-first (a ∷ []) l x y z = absurd (omega arith)
only-first (a ∷ b ∷ []) l x y z = absurd (omega arith)
only-first (a ∷ b ∷ c ∷ []) l x y z = absurd (omega arith)
only-first (a ∷ b ∷ c ∷ d ∷ []) l x y z = λ i. a ∷ x i ∷ y i ∷ z i ∷ []
only-first (a ∷ b ∷ c ∷ d ∷ e ∷ r) l x y z = absurd (omega arith)

pub first_bit : (b : Bool) → bits_of (b ∷ false ∷ false ∷ false ∷ []) ≡ cond b 1 0
unfolding bits_of
first_bit true = refl
first_bit false = refl

-- a register of which only some bits are kept is no greater than these
pub kept_small : (bits v : ℕ) → kept_in bits v ≡ true → v ≤ bits
unfolding kept_in
kept_small bits v e = let h : bit_and v bits ≤ bits = and_le_r v bits in let f : bit_and v bits ≡ v = eqb-true (bit_and v bits) v e in omega arith

-- and a bit that is not among them is 0
pub not-kept : (bits v k : ℕ) → kept_in bits v ≡ true → bits / 2 ^ k % 2 ≡ 0 → v / 2 ^ k % 2 ≡ 0
unfolding kept_in
not-kept bits v k e h =
    let f : bit_and v bits ≡ v = eqb-true (bit_and v bits) v e in
    let b : v / 2 ^ k % 2 ≡ min (v / 2 ^ k % 2) (bits / 2 ^ k % 2) = ap (λ (n : ℕ). n / 2 ^ k % 2) (sym f) ∙ and-bit k v bits in
    let m : min (v / 2 ^ k % 2) (bits / 2 ^ k % 2) ≡ 0 = rw h (omega arith) in
    b ∙ m
