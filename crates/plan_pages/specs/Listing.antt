-- The plan program's output: "the number of records on a line, then each record as eight hex digits in capitals on a line; or `R3`, `R5`, `R7`
-- alone".
-- Assumes nothing.
use Rattle.std.specs.Prelude.{ℕ, zero, suc, ◌+◌, ◌*◌, ◌/◌, ◌%◌, List, [], ◌∷◌, ◌++◌, get_or, Result, Ok, Err}
use Rattle.rules.specs.declared.Answer.TheVariants.{Refused}
use Rattle.script_text.specs.Decimal.{decimal}
use Rattle.script_text.specs.Letters.{hex_digit, line_of}
use Rattle.rules.specs.declared.Refusal.{Refusal}

-- "the number of records on a line"
unfoldable pub count_line : ℕ → List ℕ
count_line n = decimal n ++ 0x0A ∷ []

-- "each record as eight hex digits in capitals on a line": a byte, the record that begins at a place, and the first n records of a buffer
unfoldable pub hex_byte : ℕ → List ℕ
hex_byte b = hex_digit (b / 16) ∷ hex_digit (b % 16) ∷ []

unfoldable pub record_line : List ℕ → ℕ → List ℕ
record_line bs at = hex_byte (get_or bs at 0) ++ hex_byte (get_or bs (at + 1) 0) ++ hex_byte (get_or bs (at + 2) 0)
    ++ hex_byte (get_or bs (at + 3) 0) ++ 0x0A ∷ []

unfoldable pub record_lines : List ℕ → ℕ → List ℕ
record_lines bs zero = []
record_lines bs (suc n) = record_lines bs n ++ record_line bs (4 * n)

-- what is written for what the planner gives, with the records at the front of its buffer
unfoldable pub text_of : Result ℕ Refusal → List ℕ → List ℕ
text_of (Ok n) buffer = count_line n ++ record_lines buffer n
text_of (Err r) buffer = line_of (Refused r)
