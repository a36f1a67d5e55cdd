-- Document 01, "The script program": the line of each answer, and `short`.
-- Assumes nothing.
use Rattle.std.specs.Prelude.{ℕ, ◌+◌, ◌/◌, ◌%◌, cond, List, [], ◌∷◌, ◌++◌, ltb}
use Rattle.rules.specs.declared.Answer.{Answer}
use Rattle.rules.specs.declared.Answer.TheVariants.{Nothing, Ack, Nack, Data, Refused}
use Rattle.rules.specs.Events.{letter_of, refusal_number}
use Rattle.script_text.specs.Decimal.{decimal}

-- "two hex digits in capitals"
unfoldable pub hex_digit : ℕ → ℕ
hex_digit n = cond (ltb n 10) (0x30 + n) (0x37 + n)

unfoldable pub digits_of : Answer → List ℕ
digits_of Nothing = []
digits_of Ack = []
digits_of Nack = []
digits_of (Data b) = hex_digit (b / 16) ∷ hex_digit (b % 16) ∷ []
digits_of (Refused r) = decimal (refusal_number r)

-- "One line for each event: `A`, `N`, `D` and two hex digits in capitals, `-`, or `R` and the number. Each line ends with 0Ah."
abbrev pub answer_text : Answer → List ℕ
answer_text a = letter_of a ∷ digits_of a

unfoldable pub line_of : Answer → List ℕ
line_of a = answer_text a ++ 0x0A ∷ []

-- "An incomplete setup or record gives the last line `short`."
abbrev pub short_line : List ℕ
short_line = 0x73 ∷ 0x68 ∷ 0x6F ∷ 0x72 ∷ 0x74 ∷ 0x0A ∷ []

-- the line of a setup's answer: a refusal has one
unfoldable pub refusal_line : Answer → List ℕ
refusal_line Nothing = []
refusal_line Ack = []
refusal_line Nack = []
refusal_line (Data b) = []
refusal_line (Refused r) = line_of (Refused r)
