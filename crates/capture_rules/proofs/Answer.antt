-- A record agrees exactly if the model's answer is the captured one and no refusal; and which number a refused record gives.
-- Assumes nothing.
use Prim.Native.Nat.{ℕ, ◌<◌}
use native.Mathlib.Omega.{arith}
use mathlib.Core.Path.{◌≡◌, refl, sym, ◌∙◌, ap}
use mathlib.Core.Bool.{true, false, false≢true}
use mathlib.Core.List.{List, ◌∷◌}
use borrow.Author.Tests.{eq-eqb, ne_eqb, eqb-true}
use lib.Dec.{eqb}
use Rattle.proof_lists.specs.Tests.{and_left, and_right, both}
use Rattle.rules.specs.declared.Answer.{Answer}
use Rattle.rules.specs.declared.Answer.TheVariants.{Nothing, Ack, Nack, Data, Refused}
use Rattle.rules.specs.Events.{letter_of, value_of}
use Rattle.rules.specs.Runs.{Bench, answered}
use Rattle.rules.proofs.Range.Judged.{Row, refused-at-row}
use Rattle.capture_rules.specs.declared.Seen.{Seen}
use Rattle.capture_rules.specs.declared.Verdict.TheVariants.{Differs}
use Rattle.capture_rules.specs.Capture.{Captured, agrees, verdict_from}
use Rattle.capture_rules.specs.Agreement.{code_of, as_seen, meant, is_refusal, record_of, model_of, seen_of}

pub agree-to : (a : Answer) (s : Seen) → agrees a s ≡ true → (is_refusal a ≡ false) × (as_seen a ≡ meant s)
unfolding agrees is_refusal as_seen meant code_of value_of
agree-to Nothing s h = (refl, rw (eqb-true s.code 0 h))
agree-to Ack s h = (refl, rw (eqb-true s.code 1 h))
agree-to Nack s h = (refl, rw (eqb-true s.code 2 h))
agree-to (Data b) s h =
    (refl, rw (eqb-true s.code 3 (and_left (eqb s.code 3) (eqb s.byte b) h), eqb-true s.byte b (and_right (eqb s.code 3) (eqb s.byte b) h)))
agree-to (Refused r) s h = absurd (false≢true h)

pub agree-from : (a : Answer) (s : Seen) → is_refusal a ≡ false → as_seen a ≡ meant s → agrees a s ≡ true
unfolding agrees is_refusal as_seen meant code_of value_of
agree-from Nothing s t e = eq-eqb s.code 0 (sym (ap (λ (z : Seen). z.code) e))
agree-from Ack s t e = eq-eqb s.code 1 (sym (ap (λ (z : Seen). z.code) e))
agree-from Nack s t e = eq-eqb s.code 2 (sym (ap (λ (z : Seen). z.code) e))
agree-from (Data b) s t e =
    let f : s.code ≡ 3 = sym (ap (λ (z : Seen). z.code) e) in
    let g : b ≡ s.byte = ap (λ (z : Seen). z.byte) e ∙ rw f in
    both (eqb s.code 3) (eqb s.byte b) (eq-eqb s.code 3 f) (eq-eqb s.byte b (sym g))
agree-from (Refused r) s t e = absurd (false≢true (sym t))

-- an answer `R` and a number is that refusal, and agrees with nothing
by-letter : (a : Answer) (s : Seen) (k : ℕ) → letter_of a ≡ 0x52 → value_of a ≡ k → (agrees a s ≡ false) × (as_seen a ≡ record { code = 4; byte = k })
unfolding agrees as_seen code_of letter_of
by-letter Nothing s k l v = absurd (omega (arith, l))
by-letter Ack s k l v = absurd (omega (arith, l))
by-letter Nack s k l v = absurd (omega (arith, l))
by-letter (Data b) s k l v = absurd (omega (arith, l))
by-letter (Refused r) s k l v = (refl, rw v)

-- "A record that the model refuses counts as differing and gives the refusal number.": an event that meets row k of the refusals is named, with 4 for
-- refused and k as the model's answer, whatever was captured
pub refused-differs : (n : ℕ) (x : Bench) (c : Captured) (cs : List Captured) (k : ℕ) → Row x.bus x.memory c.event k
    → (record_of (verdict_from n x (c ∷ cs)) ≡ n) × (as_seen (model_of (verdict_from n x (c ∷ cs))) ≡ record { code = 4; byte = k })
    × (seen_of (verdict_from n x (c ∷ cs)) ≡ c.seen)
unfolding verdict_from record_of model_of seen_of
refused-differs n x c cs k r =
    let a = refused-at-row c.event x k r in
    let d = by-letter (answered c.event x) c.seen k a.letter a.value in
    rw d.0 (refl, d.1, refl)

-- "a code that is none of the five differs too"
unknown : (a : Answer) (s : Seen) → 4 < s.code → agrees a s ≡ false
unfolding agrees
unknown Nothing s h = ne_eqb s.code 0 (λ e. omega (arith, h, e))
unknown Ack s h = ne_eqb s.code 1 (λ e. omega (arith, h, e))
unknown Nack s h = ne_eqb s.code 2 (λ e. omega (arith, h, e))
unknown (Data b) s h = rw (ne_eqb s.code 3 (λ e. omega (arith, h, e)))
unknown (Refused r) s h = refl

pub unknown-differs : (n : ℕ) (x : Bench) (c : Captured) (cs : List Captured) → 4 < c.seen.code
    → verdict_from n x (c ∷ cs) ≡ Differs n (answered c.event x) c.seen
unfolding verdict_from
unknown-differs n x c cs h = rw (unknown (answered c.event x) c.seen h)
