-- How programs begin with a saved form: what they make of the bytes that were read as its length and as the form.
-- Assumes nothing.
use Rattle.std.specs.Prelude.{ℕ, ◌+◌, ◌*◌, Bool, cond, List, [], ◌∷◌, eqb, ltb, length, get_or, take, drop, Result, Ok, Err}
use Rattle.std.proofs.lemmas.List.Edits.{sets}
use Rattle.rules.specs.declared.Outcome.{Outcome}
use Rattle.rules.specs.Refusals.{empty_bus}
use Rattle.rules.specs.Runs.{Bench}
use Rattle.script_text.specs.Letters.{short_line, refusal_line}
use Rattle.script_turns.specs.Frame.{starting_memory}
use Rattle.save_rules.specs.Reading.{restore_of}

-- "`R10` alone for a form that is refused"
abbrev pub bad_form_line : List ℕ
bad_form_line = 0x52 ∷ 0x31 ∷ 0x30 ∷ 0x0A ∷ []

-- "four bytes with the form's length, high byte first"
unfoldable pub form_bytes : List ℕ → ℕ
form_bytes bs = 16777216 * get_or bs 0 0 + 65536 * get_or bs 1 0 + 256 * get_or bs 2 0 + get_or bs 3 0

-- "A length above 65,535 is `R10` at once"
unfoldable pub too_long : List ℕ → Bool
too_long bs = ltb 65535 (form_bytes bs)

-- so the form that is read has so many bytes
unfoldable pub wanted_bytes : List ℕ → ℕ
wanted_bytes bs = cond (ltb (length bs) 4) 0 (cond (too_long bs) 0 (form_bytes bs))

-- the beginning, where nothing follows the line, and where a form was read: the bench, or where the line ends; then the output
unfoldable pub stopped_by : List ℕ → List ℕ → Result Bench ℕ × List ℕ
stopped_by line out = (Err (length line), sets out 0 line)

unfoldable pub begun_by : Outcome × List ℕ → List ℕ → Result Bench ℕ × List ℕ
begun_by r out =
    let line : List ℕ = refusal_line r.0.answer in
    (cond (eqb (length line) 0) (Ok (record { bus = r.0.bus; memory = r.1 })) (Err (length line)), sets out 0 line)

-- the beginning, from the bytes that were read as the form's length and those read as the form
unfoldable pub begin_of : List ℕ → List ℕ → List ℕ → Result Bench ℕ × List ℕ
begin_of head form out =
    cond (ltb (length head) 4) (stopped_by short_line out)
    (cond (too_long head) (stopped_by bad_form_line out)
    (cond (ltb (length form) (form_bytes head)) (stopped_by short_line out) (begun_by (restore_of empty_bus starting_memory form) out)))

-- "A length above 65,535 is `R10` at once; a form that is cut is `short`", and so is a length that is: what a program that begins so writes for all
-- that it reads, where `k` has what it writes for a form that came whole and for what stands behind it
unfoldable pub opened_by : (List ℕ → List ℕ → List ℕ) → List ℕ → List ℕ
opened_by k bs =
    cond (ltb (length bs) 4) short_line
    (cond (too_long bs) bad_form_line
    (cond (ltb (length (drop 4 bs)) (form_bytes bs)) short_line (k (take (form_bytes bs) (drop 4 bs)) (drop (form_bytes bs) (drop 4 bs)))))
