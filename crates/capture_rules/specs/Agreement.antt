-- What a verdict says of the model, in the words that the theorems of proofs/ use: over the law's own runs (`Runs.after`, `Runs.answers`), and
-- without a look at how a verdict is reached.
-- Assumes nothing.
use Rattle.std.specs.Prelude.{ℕ, ◌+◌, ◌≡◌, Bool, true, false, cond, ◌||◌, List, ◌∷◌, ◌++◌, map, eqb, length}
use Rattle.proof_lists.specs.Each.{Every}
use Rattle.std.specs.List.{list_all}
use Rattle.rules.specs.declared.Answer.{Answer}
use Rattle.rules.specs.declared.Answer.TheVariants as answer
use Rattle.rules.specs.declared.Event.{Event}
use Rattle.rules.specs.declared.Pair.{Pair}
use Rattle.rules.specs.Modelled.{memory_bytes}
use Rattle.rules.specs.Events.{refusal_number, value_of}
use Rattle.rules.specs.Refusals.{good_pair}
use Rattle.rules.specs.Runs.{Bench, after, answered, answers}
use Rattle.capture_rules.specs.declared.Seen.{Seen}
use Rattle.capture_rules.specs.declared.Verdict.{Verdict}
use Rattle.capture_rules.specs.declared.Verdict.TheVariants.{Accepted, Differs, Short, Refused}
use Rattle.capture_rules.specs.Capture.{Captured}

-- a capture's events
unfoldable pub events_of : List Captured → List Event
events_of cs = map (λ c. c.event) cs

-- "0 nothing, 1 ACK, 2 NACK, 3 data, 4 refused": an answer of the model, as a capture has it
unfoldable pub code_of : Answer → ℕ
code_of answer.Nothing = 0
code_of answer.Ack = 1
code_of answer.Nack = 2
code_of (answer.Data b) = 3
code_of (answer.Refused r) = 4

unfoldable pub as_seen : Answer → Seen
as_seen a = record { code = code_of a; byte = value_of a }

-- "the data byte, the refusal's number, else ignored": a captured answer, with 0 for a byte that is ignored
unfoldable pub meant : Seen → Seen
meant s = record { code = s.code; byte = cond (eqb s.code 3 || eqb s.code 4) s.byte 0 }

unfoldable pub is_refusal : Answer → Bool
is_refusal answer.Nothing = false
is_refusal answer.Ack = false
is_refusal answer.Nack = false
is_refusal (answer.Data b) = false
is_refusal (answer.Refused r) = true

-- "the answers of the run are the captured ones, one by one, and none is a refusal"
pub record Alike (x : Bench) (cs : List Captured) : Type 0 where
  pub same : map as_seen (answers (events_of cs) x) ≡ map (λ c. meant c.seen) cs
  pub taken : Every (λ a. is_refusal a ≡ false) (answers (events_of cs) x)

-- "every record before the named one agrees and that one does not": the record with number k, where n records went before all of these; a is the
-- model's answer, and s the captured one
pub record First (n : ℕ) (x : Bench) (cs : List Captured) (k : ℕ) (a : Answer) (s : Seen) : Type 0 where
  pub before : List Captured
  pub here : Captured
  pub behind : List Captured
  pub parts : cs ≡ before ++ here ∷ behind
  pub number : k ≡ n + length before
  pub alike : Alike x before
  pub model : a ≡ answered here.event (after (events_of before) x)
  pub captured : s ≡ here.seen
  pub differs : (is_refusal a ≡ false) × (as_seen a ≡ meant s) → ⊥

-- a capture that nothing is wrong with before its first record: "a memory that is not 4,096 bytes", "a bad setup"
pub record Begins (ps : List Pair) (m : List ℕ) : Type 0 where
  pub memory : length m ≡ memory_bytes
  pub setup : list_all good_pair ps ≡ true

-- a verdict's record, the model's answer there and the captured one; 0, nothing and nothing where no record is named
unfoldable pub record_of : Verdict → ℕ
record_of Accepted = 0
record_of (Differs k a s) = k
record_of Short = 0
record_of (Refused r) = 0

unfoldable pub model_of : Verdict → Answer
model_of Accepted = answer.Nothing
model_of (Differs k a s) = a
model_of Short = answer.Nothing
model_of (Refused r) = answer.Nothing

unfoldable pub seen_of : Verdict → Seen
seen_of Accepted = record { code = 0; byte = 0 }
seen_of (Differs k a s) = s
seen_of Short = record { code = 0; byte = 0 }
seen_of (Refused r) = record { code = 0; byte = 0 }

-- which sort a verdict is of
unfoldable pub is_accepted : Verdict → Bool
is_accepted Accepted = true
is_accepted (Differs k a s) = false
is_accepted Short = false
is_accepted (Refused r) = false

unfoldable pub is_short : Verdict → Bool
is_short Accepted = false
is_short (Differs k a s) = false
is_short Short = true
is_short (Refused r) = false

-- the number of the refusal that a verdict is, and 0 where it is none
unfoldable pub verdict_number : Verdict → ℕ
verdict_number Accepted = 0
verdict_number (Differs k a s) = 0
verdict_number Short = 0
verdict_number (Refused r) = refusal_number r

-- a verdict, and then the one on the records behind it
unfoldable pub onward : Verdict → Verdict → Verdict
onward Accepted v = v
onward (Differs k a s) v = Differs k a s
onward Short v = Short
onward (Refused r) v = Refused r
