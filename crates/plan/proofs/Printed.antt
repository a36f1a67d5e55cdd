-- The lines that are printed read back as the records that they were printed from.
-- Assumes nothing.
use mathlib.Core.Path.{◌≡◌, refl, sym, ◌∙◌, ap, ap₂}
use mathlib.Core.List.{List, [], ◌∷◌, ◌++◌}
use Prim.Native.Nat.{ℕ, zero, suc, ◌+◌, ◌*◌, ◌/◌, ◌%◌, ◌<◌, ◌≤◌}
use native.Mathlib.Nat.{add-zero}
use native.Mathlib.Omega.{arith}
use borrow.Author.Tests.{lt-ltb, le-ltb, ltb-true, ltb-false}
use lib.Dec.{ltb}
use lib.ListN.{length, get_or, get_or-append}
use lib.Seq.{get_or-append-add}
use Rattle.proof_lists.specs.Tests.{by-test}
use Rattle.rules.specs.declared.Event.{Event}
use Rattle.script_text.specs.Records.{record_at}
use Rattle.script_text.specs.Letters.{hex_digit}
use Rattle.plan_rules.specs.Records.{events_in}
use Rattle.plan_pages.specs.Listing.{hex_byte, record_line, record_lines}
use Rattle.plan_pages.proofs.text.Laws.{lines-nine}
use Rattle.plan.specs.Printed.{digit_in, byte_in, event_in, events_read}

-- a digit, and a byte of two
digit-back : (d : ℕ) → d < 16 → digit_in (hex_digit d) ≡ d
unfolding digit_in hex_digit
digit-back d h = by-test (ltb d 10)
    (λ e. rw (e, lt-ltb (0x30 + d) 0x41 (omega (arith, ltb-true d 10 e))) (omega arith))
    (λ e. rw (e, le-ltb (0x37 + d) 0x41 (omega (arith, ltb-false d 10 e))) (omega arith))

byte-back : (b : ℕ) → b ≤ 255 → 16 * digit_in (hex_digit (b / 16)) + digit_in (hex_digit (b % 16)) ≡ b
byte-back b h = rw (digit-back (b / 16) (omega arith), digit-back (b % 16) (omega arith)) (omega arith)

-- a record's line
line-back : (bs : List ℕ) (at : ℕ) → ((i : ℕ) → i < 4 → get_or bs (at + i) 0 ≤ 255) → event_in (record_line bs at) 0 ≡ record_at bs at
unfolding event_in byte_in record_line hex_byte record_at
line-back bs at h =
    let a : get_or bs at 0 ≤ 255 = rw (add-zero at) at (h 0 (omega arith)) in
    rw (byte-back (get_or bs at 0) a, byte-back (get_or bs (at + 1) 0) (h 1 (omega arith)), byte-back (get_or bs (at + 2) 0) (h 2 (omega arith)), byte-back (get_or bs (at + 3) 0) (h 3 (omega arith)))

-- a line among others: before what follows it, and behind what is in front of it
same_line : (p q : List ℕ) (i j : ℕ) → ((k : ℕ) → k < 8 → get_or p (i + k) 0 ≡ get_or q (j + k) 0) → event_in p i ≡ event_in q j
unfolding event_in
same_line p q i j h =
    let pair : (k : ℕ) → k + 1 < 8 → byte_in p (i + k) ≡ byte_in q (j + k) =
    λ k l. unfold byte_in in ap₂ (λ a b. 16 * digit_in a + digit_in b) (h k (omega (arith, l)))
    (ap (λ n. get_or p n 0) (omega arith) ∙ h (k + 1) l ∙ ap (λ n. get_or q n 0) (omega arith)) in
    let first : byte_in p i ≡ byte_in q j = sym (ap (byte_in p) (add-zero i)) ∙ pair 0 (omega arith) ∙ ap (byte_in q) (add-zero j) in
    λ t. record_at (first t ∷ pair 2 (omega arith) t ∷ pair 4 (omega arith) t ∷ pair 6 (omega arith) t ∷ []) 0

line_first : (p q : List ℕ) (i : ℕ) → i + 8 ≤ length p → event_in (p ++ q) i ≡ event_in p i
line_first p q i h = same_line (p ++ q) p i i (λ k l. get_or-append p q 0 (i + k) (omega arith))

line-behind : (p q : List ℕ) (n : ℕ) → n ≡ length p → event_in (p ++ q) n ≡ event_in q 0
line-behind p q n e = same_line (p ++ q) q n 0 (λ k l. ap (λ m. get_or (p ++ q) m 0) (omega (arith, e)) ∙ get_or-append-add p q k 0 ∙ ap (λ m. get_or q m 0) (omega arith))

lines-first : (p q : List ℕ) (n : ℕ) → 9 * n ≤ length p → events_read (p ++ q) n ≡ events_read p n
unfolding events_read
lines-first p q zero h = refl
lines-first p q (suc n) h = ap₂ (λ (es : List Event) (e : Event). es ++ e ∷ []) (lines-first p q n (omega arith)) (line_first p q (9 * n) (omega arith))

-- all of them
pub lines-back : (bs : List ℕ) (n : ℕ) → ((i : ℕ) → i < 4 * n → get_or bs i 0 ≤ 255) → events_read (record_lines bs n) n ≡ events_in bs n
unfolding record_lines events_read events_in
lines-back bs zero h = refl
lines-back bs (suc n) h =
    let l : length (record_lines bs n) ≡ 9 * n = lines-nine bs n in
    ap₂ (λ (es : List Event) (e : Event). es ++ e ∷ [])
    (lines-first (record_lines bs n) (record_line bs (4 * n)) n (omega arith) ∙ lines-back bs n (λ i k. h i (omega (arith, k))))
    (line-behind (record_lines bs n) (record_line bs (4 * n)) (9 * n) (sym l) ∙ line-back bs (4 * n) (λ i k. h (4 * n + i) (omega (arith, k))))
