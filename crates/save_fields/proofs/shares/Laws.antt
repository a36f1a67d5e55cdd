-- Laws of bits, of the registers, and of what is put of a slot's share.
-- Assumes nothing.
use Rattle.std.proofs.Common.{◌≡◌, ℕ, zero, suc, ◌+◌, ◌-◌, ◌*◌, ◌/◌, ◌%◌, ◌^◌, ◌<◌, ◌≤◌, Bool, true, false, cond, List, [], ◌∷◌, eqb, length, get_or, take, drop, refl, sym, ◌∙◌, ap, subst, add-one, arith}
use Rattle.std.proofs.lemmas.List.{take_all, drop_all}
use Rattle.std.proofs.Math.Nat.{pow-suc, div-div-eq-div-mul}
use Rattle.std.proofs.Math.Seq.{drop-cons}
use Rattle.std.proofs.Math.ListN.{length-append}
use Rattle.std.specs.Array.{IsFromFnResultFrom}
use Rattle.std.specs.Fn.{Called}
use denote.Param.Members.{Mut}
use mir.Val.{bool_byte}
use Rattle.script_text.proofs.letters.Laws.{Put, put_on}
use Rattle.rules.specs.declared.Sensor.{Sensor}
use Rattle.rules.specs.Sensor.{register_of}
use Rattle.save_rules.specs.Form.{bits_of, bits_in, word_of, saved_registers, registers_to, sensor_bytes, fields, field_at}
use Rattle.save_fields.specs.Rows.{row_of, field_of}

-- none, or one bit before others
pub bits-none : (on : List Bool) → length on < 1 → (0 ≡ bits_of on) × (0 < 2 ^ length on)
unfolding bits_of
bits-none [] h = (refl, omega arith)
bits-none (b ∷ on) h = absurd (omega arith)

bit-more : (b : Bool) (on : List Bool) (r : ℕ) → (r ≡ bits_of on) × (r < 2 ^ length on) → (bool_byte b + 2 * r ≡ bits_of (b ∷ on)) × (bool_byte b + 2 * r < 2 ^ length (b ∷ on))
unfolding bits_of
bit-more false on r p = (rw p.0, rw pow-suc (omega (arith, p.1)))
bit-more true on r p = (rw p.0, rw pow-suc (omega (arith, p.1)))

pub bits-more : (on : List Bool) (f r : ℕ) → 1 ≤ length on → f ≡ bool_byte (get_or on 0 false)
    → (r ≡ bits_of (take (length on - 1) (drop 1 on))) × (r < 2 ^ length (take (length on - 1) (drop 1 on))) → (f + 2 * r ≡ bits_of on) × (f + 2 * r < 2 ^ length on)
bits-more [] f r h e p = absurd (omega arith)
bits-more (b ∷ on) f r h e p =
    let t : take (length (b ∷ on) - 1) on ≡ on = take_all (length (b ∷ on) - 1) on (omega arith) in
    let q = rw t at p in
    rw e (bit-more b on r q)

-- the bits of a number, one call for each
module _ {F : Type 0} (g : Mut F (ℕ × Unit {0}) Bool) (v : ℕ) (f : F) (ys : List Bool)
    (bit : (i : ℕ) (y : Bool) (q : F) → Called g f (i, tt) y q → (q ≡ f) × (y ≡ eqb (v / 2 ^ i % 2) 1)) where
  bits-onward : (i n : ℕ) → i + n ≡ length ys → IsFromFnResultFrom g f ys i n → drop i ys ≡ bits_in n (v / 2 ^ i)
  unfolding bits_in
  bits-onward i zero l x = drop_all i ys (omega arith)
  bits-onward i (suc n) l (q, y, here, call, rest) =
      let b = bit i y q call in
      let halved : v / 2 ^ (i + 1) ≡ v / 2 ^ i / 2 = rw (add-one i) (ap (λ k. v / k) (pow-suc 2 i) ∙ sym (div-div-eq-div-mul v (2 ^ i) 2)) in
      let others = bits-onward (i + 1) n (omega arith) (subst (λ p. IsFromFnResultFrom g p ys (i + 1) n) b.0 rest) in
      drop-cons ys i false (omega arith) ∙ rw (here.1 false, b.1, ← (add-one i)) (rw (others, halved))

  pub bits-from : (n : ℕ) → length ys ≡ n → IsFromFnResultFrom g f ys 0 n → ys ≡ bits_in n v
  bits-from n l x = bits-onward 0 n (omega arith) x ∙ ap (bits_in n) (omega arith)

-- nothing is put
pub none-put : (out : List ℕ) (at : ℕ) (x : List ℕ) → x ≡ [] → Put out at x at out
none-put out at x e = rw e (omega arith, refl)

-- the registers that are saved, one more at each turn
pub registers-none : (x : Sensor) → registers_to 0 x ≡ []
unfolding registers_to
registers-none x = refl

pub length-registers : (n : ℕ) (x : Sensor) → length (registers_to n x) ≡ 2 * n
unfolding registers_to word_of
length-registers zero x = refl
length-registers (suc n) x = length-append (registers_to n x) (word_of (register_of x (get_or saved_registers n 0))) ∙ rw (length-registers n x) (omega arith)

pub registers-step : (i v at mid end : ℕ) (x : Sensor) (out o p : List ℕ) → v ≡ register_of x (get_or saved_registers i 0)
    → Put out at (registers_to i x) mid o → Put o mid (word_of v) end p → Put out at (registers_to (i + 1) x) end p
unfolding registers_to
registers-step i v at mid end x out o p e f g = rw (add-one, ← e) (put_on out o p at mid end (registers_to i x) (word_of v) f g)

-- a sensor's share
pub length-sensor : (x : Sensor) → length (sensor_bytes x) ≡ 15
unfolding sensor_bytes
length-sensor x = rw (length-registers 7 x)

-- a bit as a byte
pub bit-byte : (b : Bool) → bool_byte b ≡ cond b 1 0
bit-byte false = refl
bit-byte true = refl

-- the field in a row is the one that the table has there
pub field_of-row : (t : ℕ) → field_at (row_of (field_of t)) ≡ field_at t
unfolding field_at fields
field_of-row zero = refl
field_of-row (suc zero) = refl
field_of-row (suc (suc zero)) = refl
field_of-row (suc (suc (suc zero))) = refl
field_of-row (suc (suc (suc (suc zero)))) = refl
field_of-row (suc (suc (suc (suc (suc zero))))) = refl
field_of-row (suc (suc (suc (suc (suc (suc t)))))) = refl
