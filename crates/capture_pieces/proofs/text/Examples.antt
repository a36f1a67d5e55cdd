-- The lines that the request itself shows, and one of each other sort. Each theorem computes.
-- Assumes nothing.
use mathlib.Core.Path.{◌≡◌, refl}
use mathlib.Core.List.{[], ◌∷◌, map}
use Prim.Native.Nat.{ℕ}
use Rattle.rules.specs.declared.Answer.TheVariants as answer
use Rattle.rules.specs.declared.Refusal.TheVariants.{WrongValue, WrongSetup}
use Rattle.script_text.specs.Open.{open-text}
use Rattle.script_text.specs.Quoted.{quoted}
use Rattle.capture_rules.specs.declared.Seen.{Seen}
use Rattle.capture_rules.specs.declared.Verdict.TheVariants.{Accepted, Differs, Short, Refused}
use Rattle.capture_pieces.specs.Line.{seen_text, difference_line, verdict_line}

-- captured: a code and a byte
abbrev seen_by : ℕ → ℕ → Seen
seen_by c b = record { code = c; byte = b }

pub ack-for-nack : verdict_line (Differs 17 answer.Nack (seen_by 1 0)) ≡ quoted "17 N A\n"
unfolding open-text seen_text difference_line verdict_line
ack-for-nack = refl

pub data-for-refused : verdict_line (Differs 3 (answer.Refused WrongValue) (seen_by 3 0x5A)) ≡ quoted "3 R4 D5A\n"
unfolding open-text seen_text difference_line verdict_line
data-for-refused = refl

-- each code, with a byte that is ignored or shown; a refusal's number that is no refusal's, and a code that is none of the five
pub captured : map seen_text (seen_by 0 9 ∷ seen_by 1 9 ∷ seen_by 2 9 ∷ seen_by 3 9 ∷ seen_by 4 9 ∷ seen_by 4 255 ∷ seen_by 5 9 ∷ seen_by 255 9 ∷ [])
    ≡ map quoted ("-" ∷ "A" ∷ "N" ∷ "D09" ∷ "R9" ∷ "R255" ∷ "?" ∷ "?" ∷ [])
unfolding open-text seen_text
captured = refl

pub others : map verdict_line (Accepted ∷ Short ∷ Refused WrongSetup ∷ []) ≡ map quoted ("OK\n" ∷ "short\n" ∷ "R5\n" ∷ [])
unfolding open-text verdict_line
others = refl
