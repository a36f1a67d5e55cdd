-- What the list program reads and writes, byte by byte. Each theorem computes.
-- Assumes nothing.
use Prim.Native.Nat.{ℕ}
use mathlib.Core.Path.{◌≡◌, refl}
use mathlib.Core.List.{List, [], ◌∷◌, ◌++◌, map}
use lib.IntN.{ℤ, pos, negsuc}
use lib.ListN.{replicate}
use Rattle.proof_lists.specs.Each.{filled}
use Rattle.rules.specs.declared.Answer.{Answer}
use Rattle.rules.specs.declared.Answer.TheVariants.{Nothing, Ack, Nack, Data, Refused}
use Rattle.rules.specs.declared.Event.{Event}
use Rattle.rules.specs.declared.Refusal.TheVariants.{MemoryLength, UnknownKind, WrongSlot, WrongValue, WrongSetup, WrongState, ProtectedPage, Busy, TooShort, WrongForm}
use Rattle.script_text.specs.Open.{open-text}
use Rattle.script_text.specs.Quoted.{quoted}
use Rattle.list_lend.specs.Listed.{number_in, events_in, events_for, blank, is_setups, is_blank, place_line, place_lines, answer_lines, dot_lines, list_text, too_many_text}

-- "two bytes [..] (high byte first)", and what stands behind them is not looked at
pub numbers : map number_in ((0x12 ∷ 0x34 ∷ []) ∷ (0x00 ∷ 0xFF ∷ []) ∷ (0xFF ∷ 0x00 ∷ 7 ∷ []) ∷ []) ≡ 0x1234 ∷ 255 ∷ 65280 ∷ []
unfolding number_in
numbers = refl

-- two records, and three bytes of one that is cut: their events, and these at the front of 4,096
abbrev event : ℕ → ℕ → ℤ → Event
event kind slot value = record { kind = kind; slot = record { 0 = slot }; value = value }

abbrev bytes : List ℕ
bytes = 9 ∷ 5 ∷ 0xFD ∷ 0x80 ∷ 2 ∷ 0 ∷ 0 ∷ 0xA6 ∷ 1 ∷ 0 ∷ 0 ∷ []

abbrev given : List Event
given = event 9 5 (negsuc 639) ∷ event 2 0 (pos 0xA6) ∷ []

pub events : (events_in bytes 2 ≡ given) × (events_for bytes ≡ given ++ replicate 4094 (event 0 0 (pos 0)))
unfolding open-text events_in events_for filled
events = (refl, refl)

-- "a line for each answer place, `.` for one that is unchanged": a setup's refusal is what an unchanged place holds
abbrev answers : List Answer
answers = Nothing ∷ Ack ∷ Nack ∷ Data 0x5A ∷ []

abbrev refusals : List Answer
refusals = map Refused (MemoryLength ∷ UnknownKind ∷ WrongSlot ∷ WrongValue ∷ WrongSetup ∷ WrongState ∷ ProtectedPage ∷ Busy ∷ TooShort ∷ WrongForm ∷ [])

pub places : map place_line (answers ++ refusals)
    ≡ map quoted ("-\n" ∷ "A\n" ∷ "N\n" ∷ "D5A\n" ∷ "R1\n" ∷ "R2\n" ∷ "R3\n" ∷ "R4\n" ∷ ".\n" ∷ "R6\n" ∷ "R7\n" ∷ "R8\n" ∷ "R9\n" ∷ "R10\n" ∷ [])
unfolding open-text is_setups is_blank place_line
places = refl

pub lines : (place_lines (answers ++ blank ∷ blank ∷ []) ≡ quoted "-\nA\nN\nD5A\n.\n.\n") × (answer_lines answers ++ dot_lines 2 ≡ quoted "-\nA\nN\nD5A\n.\n.\n")
unfolding open-text is_setups is_blank place_line place_lines answer_lines dot_lines
lines = (refl, refl)

-- "`R9` alone, or a line for each answer place"
pub texts : map (λ (a : Answer). list_text a (Ack ∷ blank ∷ [])) (Refused TooShort ∷ answers)
    ≡ map quoted ("R9\n" ∷ "A\n.\n" ∷ "A\n.\n" ∷ "A\n.\n" ∷ "A\n.\n" ∷ [])
unfolding open-text is_setups is_blank place_line place_lines list_text
texts = refl

-- "more gets a sentence on standard error"
pub too_many : too_many_text ≡ quoted "list: more than 4096 records in one list\n"
unfolding open-text
too_many = refl
