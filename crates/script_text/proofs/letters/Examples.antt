-- Lines as texts: every digit, every answer. Each theorem computes.
-- Assumes nothing.
use mathlib.Core.Path.{◌≡◌, refl}
use mathlib.Core.List.{List, [], ◌∷◌, map}
use Rattle.rules.specs.declared.Answer.{Answer}
use Rattle.rules.specs.declared.Answer.TheVariants.{Nothing, Ack, Nack, Data, Refused}
use Rattle.rules.specs.declared.Refusal.TheVariants.{MemoryLength, UnknownKind, WrongSlot, WrongValue, WrongSetup, WrongState, ProtectedPage, Busy, TooShort, WrongForm}
use Rattle.script_text.specs.Decimal.{decimal}
use Rattle.script_text.specs.Letters.{hex_digit, line_of, short_line, refusal_line}
use Rattle.script_text.specs.Open.{open-text}
use Rattle.script_text.specs.Quoted.{quoted}

-- the characters that are written, by their bytes
pub characters : quoted "-?.: 09ANDRSs\n" ≡ 0x2D ∷ 0x3F ∷ 0x2E ∷ 0x3A ∷ 0x20 ∷ 0x30 ∷ 0x39 ∷ 0x41 ∷ 0x4E ∷ 0x44 ∷ 0x52 ∷ 0x53 ∷ 0x73 ∷ 0x0A ∷ []
unfolding open-text
characters = refl

-- "two hex digits in capitals"
pub hex-digits : map hex_digit (0 ∷ 1 ∷ 2 ∷ 3 ∷ 4 ∷ 5 ∷ 6 ∷ 7 ∷ 8 ∷ 9 ∷ 10 ∷ 11 ∷ 12 ∷ 13 ∷ 14 ∷ 15 ∷ []) ≡ quoted "0123456789ABCDEF"
unfolding open-text
hex-digits = refl

pub decimals : map decimal (0 ∷ 9 ∷ 10 ∷ 90 ∷ 255 ∷ []) ≡ map quoted ("0" ∷ "9" ∷ "10" ∷ "90" ∷ "255" ∷ [])
unfolding open-text
decimals = refl

-- "One line for each event: `A`, `N`, `D` and two hex digits in capitals, `-`, or `R` and the number. Each line ends with 0Ah."
pub lines : map line_of (Nothing ∷ Ack ∷ Nack ∷ Data 0x5A ∷ Data 0xF0 ∷ Data 0x0E ∷ [])
    ≡ map quoted ("-\n" ∷ "A\n" ∷ "N\n" ∷ "D5A\n" ∷ "DF0\n" ∷ "D0E\n" ∷ [])
unfolding open-text
lines = refl

abbrev refusals : List Answer
refusals = map Refused (MemoryLength ∷ UnknownKind ∷ WrongSlot ∷ WrongValue ∷ WrongSetup ∷ WrongState ∷ ProtectedPage ∷ Busy ∷ TooShort ∷ WrongForm ∷ [])

pub refusal-lines : map line_of refusals ≡ map quoted ("R1\n" ∷ "R2\n" ∷ "R3\n" ∷ "R4\n" ∷ "R5\n" ∷ "R6\n" ∷ "R7\n" ∷ "R8\n" ∷ "R9\n" ∷ "R10\n" ∷ [])
unfolding open-text
refusal-lines = refl

-- of a setup's or a restore's answer, a refusal alone has a line
pub refused-alone : map refusal_line (Nothing ∷ Ack ∷ Nack ∷ Data 0x5A ∷ Refused WrongForm ∷ []) ≡ map quoted ("" ∷ "" ∷ "" ∷ "" ∷ "R10\n" ∷ [])
unfolding open-text
refused-alone = refl

-- "gives the last line `short`"
pub short : short_line ≡ quoted "short\n"
unfolding open-text
short = refl
