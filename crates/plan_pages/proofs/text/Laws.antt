-- Laws of the listing: lines put one after another, how long they are, and each branch of the code in the definition's words.
-- Assumes nothing.
use Rattle.std.proofs.Common.{◌≡◌, refl, sym, ◌∙◌, ap, ℕ, zero, suc, ◌+◌, ◌*◌, ◌≤◌, ◌<◌, List, [], ◌∷◌, ◌++◌, length, get_or, take, drop, append_assoc, append-nil, zero-add, add-zero, add-one, arith, length-append, Result, Ok, Err}
use Rattle.std.proofs.Math.Seq.{take-suc}
use Rattle.std.proofs.lemmas.List.{get_or-take, get_or-drop}
use Rattle.std.proofs.lemmas.List.Edits.{sets}
use Rattle.rules.specs.declared.Answer.TheVariants.{Refused}
use Rattle.rules.specs.declared.Refusal.{Refusal}
use Rattle.script_text.specs.Decimal.{decimal}
use Rattle.script_text.specs.Letters.{line_of}
use Rattle.script_text.proofs.letters.Decimal.{digits-most}
use Rattle.script_text.proofs.letters.Laws.{Put, put_on, at_front, line-length}
use Rattle.plan_rules.specs.Plan.{plan_value}
use Rattle.plan_pages.specs.Listing.{count_line, hex_byte, record_line, record_lines, text_of}

-- the number of records, and the line's end
pub count_by : (n mid end : ℕ) (out o p : List ℕ) → Put out 0 (decimal n) mid o → Put o mid (0x0A ∷ []) end p
    → (end ≡ length (count_line n)) × (p ≡ sets out 0 (count_line n))
unfolding count_line
count_by n mid end out o p f g = at_front out p end (count_line n) (put_on out o p 0 mid end (decimal n) (0x0A ∷ []) f g)

pub count_room : (n : ℕ) → length (count_line n) ≡ length (decimal n) + 1
unfolding count_line
count_room n = length-append (decimal n) (0x0A ∷ [])

-- bytes as hexadecimal digits: one byte more, two digits each, and a record's line of them
abbrev pub hexes : List ℕ → List ℕ
hexes [] = []
hexes (b ∷ bs) = hex_byte b ++ hexes bs

hexes-append : (a b : List ℕ) → hexes (a ++ b) ≡ hexes a ++ hexes b
hexes-append [] b = refl
hexes-append (x ∷ a) b = ap (λ (l : List ℕ). hex_byte x ++ l) (hexes-append a b) ∙ sym (append_assoc (hex_byte x) (hexes a) (hexes b))

pub hexes-more : (r : List ℕ) (i : ℕ) → i < length r → hexes (take i r) ++ hex_byte (get_or r i 0) ≡ hexes (take (i + 1) r)
hexes-more r i h = rw (add-one, take-suc r i 0, hexes-append, append-nil)

pub hexes-two : (r : List ℕ) → length (hexes r) ≡ 2 * length r
unfolding hex_byte
hexes-two [] = refl
hexes-two (b ∷ r) = omega (arith, hexes-two r)

pub line-of : (r : List ℕ) → length r ≡ 4 → hexes r ++ 0x0A ∷ [] ≡ record_line r 0
unfolding record_line hex_byte
line-of [] e = absurd (omega arith)
line-of (a ∷ []) e = absurd (omega arith)
line-of (a ∷ b ∷ []) e = absurd (omega arith)
line-of (a ∷ b ∷ c ∷ []) e = absurd (omega arith)
line-of (a ∷ b ∷ c ∷ d ∷ []) e = refl
line-of (a ∷ b ∷ c ∷ d ∷ x ∷ r) e = absurd (omega arith)

-- the line of a record among the chunks of a buffer
pub line-at : (bs r : List ℕ) (at : ℕ) → r ≡ take 4 (drop at bs) → record_line r 0 ≡ record_line bs at
unfolding record_line
line-at bs r at e = rw (e, byte 0 (omega arith), byte 1 (omega arith), byte 2 (omega arith), byte 3 (omega arith), add-zero)
  where
    byte : (i : ℕ) → i < 4 → get_or (take 4 (drop at bs)) i 0 ≡ get_or bs (at + i) 0
    byte i h = get_or-take 4 (drop at bs) i 0 h ∙ get_or-drop at bs i 0

-- a record's line is nine bytes, and so is each of many
pub line-nine : (bs : List ℕ) (at : ℕ) → length (record_line bs at) ≡ 9
unfolding record_line hex_byte
line-nine bs at = refl

pub lines-nine : (bs : List ℕ) (n : ℕ) → length (record_lines bs n) ≡ 9 * n
unfolding record_lines
lines-nine bs zero = refl
lines-nine bs (suc n) = length-append (record_lines bs n) (record_line bs (4 * n)) ∙ omega (arith, lines-nine bs n, line-nine bs (4 * n))

-- no line yet, and one more
pub lines_none : (bs out : List ℕ) (at : ℕ) → Put out at (record_lines bs 0) at out
unfolding record_lines
lines_none bs out at = (omega arith, refl)

pub lines-more : (bs out o p : List ℕ) (at mid end k : ℕ) → Put out at (record_lines bs k) mid o → Put o mid (record_line bs (4 * k)) end p
    → Put out at (record_lines bs (k + 1)) end p
unfolding record_lines
lines-more bs out o p at mid end k f g = rw add-one (put_on out o p at mid end (record_lines bs k) (record_line bs (4 * k)) f g)

-- the line of a number below ten thousand is at most five bytes
pub count-length : (n : ℕ) → n < 10000 → length (count_line n) ≤ 5
count-length n h = omega (arith, count_room n, digits-most 3 n h)

-- a plan's text, and a refusal's
pub records-by : (n at end : ℕ) (bs out o p : List ℕ) → (at ≡ length (count_line n)) × (o ≡ sets out 0 (count_line n))
    → Put o at (record_lines bs n) end p
    → (end ≡ length (text_of (Ok n) bs)) × (p ≡ sets out 0 (text_of (Ok n) bs))
unfolding text_of
records-by n at end bs out o p a b =
    let f : Put out 0 (count_line n) at o = (a.0 ∙ sym (zero-add (length (count_line n))), a.1) in
    at_front out p end (count_line n ++ record_lines bs n) (put_on out o p 0 at end (count_line n) (record_lines bs n) f b)

pub refused-by : (p : Result ℕ Refusal) (r : Refusal) (end : ℕ) (bs out o : List ℕ) → p ≡ Err r → Put out 0 (line_of (Refused r)) end o
    → (end ≡ length (text_of p bs)) × (o ≡ sets out 0 (text_of p bs))
unfolding text_of
refused-by p r end bs out o e q = rw e (at_front out o end (line_of (Refused r)) q)

-- a result's text is as long as its records make it
pub text-length : (p : Result ℕ Refusal) (bs : List ℕ) → plan_value p < 10000 → length (text_of p bs) ≤ 5 + 9 * plan_value p
unfolding text_of plan_value
text-length (Ok n) bs h = rw (length-append (count_line n) (record_lines bs n)) (omega (arith, count-length n h, lines-nine bs n))
text-length (Err r) bs h = omega (arith, line-length (Refused r))
