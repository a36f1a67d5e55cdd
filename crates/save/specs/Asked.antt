-- The save program: what it writes for what it reads.
-- Assumes nothing.
use Rattle.std.specs.Prelude.{ℕ, ◌%◌, cond, List, [], ◌∷◌, eqb, ltb, length, drop, Result, Ok, Err}
use Rattle.std.proofs.lemmas.List.Edits.{sets}
use Rattle.std.specs.List.{list_all}
use Rattle.rules.specs.declared.Answer.TheVariants as answer
use Rattle.rules.specs.declared.Refusal.{Refusal}
use Rattle.rules.specs.Refusals.{good_pair}
use Rattle.rules.specs.Runs.{Bench}
use Rattle.script_text.specs.Records.{pairs_of}
use Rattle.script_text.specs.Letters.{line_of, short_line}
use Rattle.script_turns.specs.Frame.{bad_setup_line}
use Rattle.script_turns.specs.Script.{bench_to, records_in, begun_at}
use Rattle.save_rules.specs.Form.{form_of}
use Rattle.save_rules.specs.Saving.{all_quiet, save_of}
use Rattle.script_streams.specs.Written.{Written, on_output, on_errors}

-- bytes of the longest form, that of eight slots of kind 2, in one of which a change is pending (none is longer: `save_rules/Places.length_most`):
-- five heads of 3, and in them 16, 4,096, 32, 120 and 8
abbrev pub longest_form : ℕ
longest_form = 4287

-- "saving is refused with 8": its line
abbrev pub busy_line : List ℕ
busy_line = 0x52 ∷ 0x38 ∷ 0x0A ∷ []

-- "standard output the form, nothing else; a refusal [..] writes nothing there, a line [..] on standard error". The records leave a bench in range,
-- with its whole memory, and the buffer has room for every form: so 8 is the only refusal
unfoldable pub bench_text : Bench → Written
bench_text x = cond (all_quiet x.bus) (on_output (form_of x.bus x.memory)) (on_errors busy_line)

-- at the input's end, where so many bytes of a record are left over: "`short` before `R8`"
unfoldable pub end_text : Bench → ℕ → Written
end_text x left = cond (eqb left 0) (bench_text x) (on_errors short_line)

-- what the code leaves: how much is written of the output, as a form or as a line, and the output
unfoldable pub saved_answer : Result ℕ Refusal → List ℕ → Result ℕ ℕ × List ℕ
saved_answer (Ok n) buffer = (Ok n, buffer)
saved_answer (Err r) buffer = (Err (length (line_of (answer.Refused r))), sets buffer 0 (line_of (answer.Refused r)))

unfoldable pub answer_of : Bench → ℕ → List ℕ → Result ℕ ℕ × List ℕ
answer_of x left out =
    let s : Result ℕ Refusal × List ℕ = save_of x.bus x.memory out in
    cond (eqb left 0) (saved_answer s.0 s.1) (Err (length short_line), sets out 0 short_line)

-- where either ends
abbrev pub end_of : Result ℕ ℕ → ℕ
end_of (Ok form) = form
end_of (Err line) = line

-- "standard input is a script (setup and records, memory FFh at the start)"; "`R5` before `short` before `R8`"; a setup that is cut is `short`: all
-- that the program writes, for all that it reads
unfoldable pub answer_to : List ℕ → List ℕ → Written
answer_to bs more = end_text (bench_to (begun_at (pairs_of bs)) more (records_in more)) (length more % 4)

unfoldable pub written_for : List ℕ → Written
written_for bs =
    cond (ltb (length bs) 16) (on_errors short_line)
    (cond (list_all good_pair (pairs_of bs)) (answer_to bs (drop 16 bs)) (on_errors bad_setup_line))
