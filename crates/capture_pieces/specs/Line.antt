-- Request P2, "Checking captures from real chips": the line that the capture program writes for a verdict.
-- Assumes nothing.
use Rattle.std.specs.Prelude.{ℕ, cond, List, [], ◌∷◌, ◌++◌, eqb}
use Rattle.rules.specs.declared.Answer.{Answer}
use Rattle.rules.specs.declared.Answer.TheVariants as answer
use Rattle.script_text.specs.Decimal.{decimal}
use Rattle.script_text.specs.Letters.{answer_text, line_of, short_line}
use Rattle.capture_rules.specs.declared.Seen.{Seen}
use Rattle.capture_rules.specs.declared.Verdict.{Verdict}
use Rattle.capture_rules.specs.declared.Verdict.TheVariants.{Accepted, Differs, Short, Refused}

-- "captured answer as the script writes them", by its "code (0 nothing, 1 ACK, 2 NACK, 3 data, 4 refused) and its byte (the data byte, the refusal's
-- number, else ignored)": a captured refusal's number is any byte; "a code that is none of the five is shown as `?`"
unfoldable pub seen_text : Seen → List ℕ
seen_text s =
    cond (eqb s.code 0) (answer_text answer.Nothing)
    (cond (eqb s.code 1) (answer_text answer.Ack)
    (cond (eqb s.code 2) (answer_text answer.Nack)
    (cond (eqb s.code 3) (answer_text (answer.Data s.byte))
    (cond (eqb s.code 4) (0x52 ∷ decimal s.byte)
    (0x3F ∷ [])))))

-- "number, model's answer and captured answer as the script writes them, parted by spaces"
unfoldable pub difference_line : ℕ → Answer → Seen → List ℕ
difference_line n a s = decimal n ++ 0x20 ∷ [] ++ answer_text a ++ 0x20 ∷ [] ++ seen_text s ++ 0x0A ∷ []

-- "`OK`; `R5`; or number, model's answer and captured answer"; "else `short`"
unfoldable pub verdict_line : Verdict → List ℕ
verdict_line Accepted = 0x4F ∷ 0x4B ∷ 0x0A ∷ []
verdict_line (Differs n a s) = difference_line n a s
verdict_line Short = short_line
verdict_line (Refused r) = line_of (answer.Refused r)
