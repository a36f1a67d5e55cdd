-- Request P2, "Checking captures from real chips", in its own words and those of its issue: the verdict on a capture.
-- Assumes nothing.
use Rattle.std.specs.Prelude.{ℕ, zero, suc, ◌+◌, ◌*◌, ◌/◌, ◌%◌, Bool, false, not, cond, ◌&&◌, List, [], ◌∷◌, ◌++◌, eqb, length, get_or}
use Rattle.std.specs.List.{list_all}
use Rattle.rules.specs.declared.Answer.{Answer}
use Rattle.rules.specs.declared.Answer.TheVariants as answer
use Rattle.rules.specs.declared.Event.{Event}
use Rattle.rules.specs.declared.Pair.{Pair}
use Rattle.rules.specs.declared.Refusal.TheVariants.{MemoryLength, WrongSetup}
use Rattle.rules.specs.Refusals.{wrong_length, good_pair, setup_of}
use Rattle.rules.specs.Runs.{Bench, next, answered}
use Rattle.script_text.specs.Records.{record_at}
use Rattle.capture_rules.specs.declared.Seen.{Seen}
use Rattle.capture_rules.specs.declared.Verdict.{Verdict}
use Rattle.capture_rules.specs.declared.Verdict.TheVariants.{Accepted, Differs, Short, Refused}

-- "A capture is a setup, starting memory for all slots, and records of an event with the answer seen."
pub record Captured : Type 0 where
  pub event : Event
  pub seen : Seen

-- "six bytes, the four of a script record, then the answer's code [..] and its byte"
unfoldable pub captured_at : List ℕ → ℕ → Captured
captured_at bs at = record { event = record_at bs at; seen = record { code = get_or bs (at + 4) 0; byte = get_or bs (at + 5) 0 } }

-- the first n records of some bytes, all whole ones, and how many bytes of a cut one are left over
unfoldable pub captured_to : List ℕ → ℕ → List Captured
captured_to bs zero = []
captured_to bs (suc n) = captured_to bs n ++ captured_at bs (6 * n) ∷ []

unfoldable pub captured_in : List ℕ → List Captured
captured_in bs = captured_to bs (length bs / 6)

unfoldable pub left_over : List ℕ → ℕ
left_over bs = length bs % 6

-- "the model gives each of those answers": the model's answer beside the captured one, its "code (0 nothing, 1 ACK, 2 NACK, 3 data, 4 refused)
-- and its byte (the data byte, the refusal's number, else ignored)". "A record that the model refuses counts as
-- differing", whatever was captured.
unfoldable pub agrees : Answer → Seen → Bool
agrees answer.Nothing s = eqb s.code 0
agrees answer.Ack s = eqb s.code 1
agrees answer.Nack s = eqb s.code 2
agrees (answer.Data b) s = eqb s.code 3 && eqb s.byte b
agrees (answer.Refused r) s = false

-- "accepted, or the first record that differs: its number counted from 0, the model's answer, and the captured one": from a bench on, where n
-- records went before. "A capture with no records is accepted."
unfoldable pub verdict_from : ℕ → Bench → List Captured → Verdict
verdict_from n x [] = Accepted
verdict_from n x (c ∷ cs) =
    cond (agrees (answered c.event x) c.seen) (verdict_from (suc n) (next c.event x) cs)
    (Differs n (answered c.event x) c.seen)

-- the bench that such a check leaves: the records that agree have been run, and the one that differs
unfoldable pub bench_from : Bench → List Captured → Bench
bench_from x [] = x
bench_from x (c ∷ cs) = cond (agrees (answered c.event x) c.seen) (bench_from (next c.event x) cs) (next c.event x)

-- where so many bytes of a cut record are left over: "the first difference of the whole records if there is one, else `short`"
unfoldable pub closed : ℕ → Verdict → Verdict
closed left Accepted = cond (eqb left 0) Accepted Short
closed left (Differs k a s) = Differs k a s
closed left Short = Short
closed left (Refused r) = Refused r

-- "from those beginnings"
unfoldable pub start_of : List Pair → List ℕ → Bench
start_of ps m = record { bus = (setup_of ps).bus; memory = m }

-- "refusal 1 for a memory that is not 4,096 bytes, then 5 for a bad setup, both before any record; else accepted, or the first record that differs"
unfoldable pub verdict_of : List Pair → List ℕ → List ℕ → Verdict
verdict_of ps m bs =
    cond (wrong_length m) (Refused MemoryLength)
    (cond (not (list_all good_pair ps)) (Refused WrongSetup)
    (closed (left_over bs) (verdict_from 0 (start_of ps m) (captured_in bs))))
