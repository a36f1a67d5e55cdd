-- What the list program gives a list from, and what it writes for what is left of it: records as events, and answer places as lines.
-- Assumes nothing.
use Rattle.std.specs.Prelude.{ℕ, zero, suc, ◌+◌, ◌*◌, ◌/◌, Bool, true, false, cond, List, [], ◌∷◌, ◌++◌, pos, length, get_or, replicate}
use Rattle.std.proofs.lemmas.List.Edits.{sets}
use Rattle.proof_lists.specs.Each.{filled}
use Rattle.rules.specs.declared.Answer.{Answer}
use Rattle.rules.specs.declared.Answer.TheVariants.{Nothing, Ack, Nack, Data, Refused}
use Rattle.rules.specs.declared.Event.{Event}
use Rattle.rules.specs.declared.Outcome.{Outcome}
use Rattle.rules.specs.declared.Refusal.{Refusal}
use Rattle.rules.specs.declared.Refusal.TheVariants as refusal
use Rattle.script_text.specs.Records.{record_at}
use Rattle.script_text.specs.Letters.{line_of}
use Rattle.list_lend.specs.declared.text.Told.{Told}

-- "two bytes [..] (high byte first)"
unfoldable pub number_in : List ℕ → ℕ
number_in bs = 256 * get_or bs 0 0 + get_or bs 1 0

-- the first n records of some bytes
unfoldable pub events_in : List ℕ → ℕ → List Event
events_in bs zero = []
events_in bs (suc n) = events_in bs n ++ record_at bs (4 * n) ∷ []

-- an event that stands in an array behind a list, and is not given
abbrev pub no_event : Event
no_event = record { kind = 0; slot = record { 0 = 0 }; value = pos 0 }

-- the whole records of some bytes, at the front of an array
unfoldable pub events_for : List ℕ → List Event
events_for bs = filled (replicate 4096 no_event) (events_in bs (length bs / 4)) (length bs / 4)

-- what a place holds before the list is given: an answer that no event gets, refusal 5 being a setup's alone
abbrev pub blank : Answer
blank = Refused refusal.WrongSetup

unfoldable pub is_setups : Refusal → Bool
is_setups refusal.WrongSetup = true
is_setups refusal.MemoryLength = false
is_setups refusal.UnknownKind = false
is_setups refusal.WrongSlot = false
is_setups refusal.WrongValue = false
is_setups refusal.WrongState = false
is_setups refusal.ProtectedPage = false
is_setups refusal.Busy = false
is_setups refusal.TooShort = false
is_setups refusal.WrongForm = false

unfoldable pub is_blank : Answer → Bool
is_blank (Refused r) = is_setups r
is_blank Nothing = false
is_blank Ack = false
is_blank Nack = false
is_blank (Data b) = false

-- "a line for each answer place, `.` for one that is unchanged"
unfoldable pub place_line : Answer → List ℕ
place_line a = cond (is_blank a) (0x2E ∷ 0x0A ∷ []) (line_of a)

unfoldable pub place_lines : List Answer → List ℕ
place_lines [] = []
place_lines (a ∷ places) = place_line a ++ place_lines places

-- a line for each of some answers, and for each of so many places that are unchanged
unfoldable pub answer_lines : List Answer → List ℕ
answer_lines [] = []
answer_lines (a ∷ given) = line_of a ++ answer_lines given

unfoldable pub dot_lines : ℕ → List ℕ
dot_lines zero = []
dot_lines (suc n) = 0x2E ∷ 0x0A ∷ dot_lines n

-- "`R9` alone, or a line for each answer place"
unfoldable pub list_text : Answer → List Answer → List ℕ
list_text (Refused r) places = line_of (Refused r)
list_text Nothing places = place_lines places
list_text Ack places = place_lines places
list_text Nack places = place_lines places
list_text (Data b) places = place_lines places

-- what the code leaves for what a call gave and left: the bus, where the text ends, and the output
unfoldable pub told_of : Outcome → List Answer → List ℕ → Told × List ℕ
told_of o places out = (record { bus = o.bus; end = length (list_text o.answer places) }, sets out 0 (list_text o.answer places))

-- "more gets a sentence on standard error": `list: more than 4096 records in one list`
abbrev pub too_many_text : List ℕ
too_many_text =
    0x6C ∷ 0x69 ∷ 0x73 ∷ 0x74 ∷ 0x3A ∷ 0x20 ∷ 0x6D ∷ 0x6F ∷ 0x72 ∷ 0x65 ∷ 0x20 ∷ 0x74 ∷ 0x68 ∷ 0x61 ∷ 0x6E ∷ 0x20 ∷ 0x34 ∷ 0x30 ∷ 0x39 ∷ 0x36 ∷ 0x20
    ∷ 0x72 ∷ 0x65 ∷ 0x63 ∷ 0x6F ∷ 0x72 ∷ 0x64 ∷ 0x73 ∷ 0x20 ∷ 0x69 ∷ 0x6E ∷ 0x20 ∷ 0x6F ∷ 0x6E ∷ 0x65 ∷ 0x20 ∷ 0x6C ∷ 0x69 ∷ 0x73 ∷ 0x74 ∷ 0x0A ∷ []
