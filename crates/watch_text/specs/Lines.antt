-- The line of a slot, and the lines of all slots whose numbers changed: what `watch` writes of a bench.
-- Assumes nothing.
use Rattle.std.specs.Prelude.{ℕ, zero, suc, cond, ◌||◌, List, [], ◌∷◌, ◌++◌, get_or}
use Prim.Native.String.{String}
use Rattle.proof_lists.specs.Same.{same}
use Rattle.rules.specs.declared.Bus.{Bus}
use Rattle.rules.specs.declared.Slot.{Slot}
use Rattle.rules.specs.Modelled.{slot_count, absent, sensing, older}
use Rattle.rules.specs.Fresh.{absent_slot}
use Rattle.rules.specs.Refusals.{empty_bus}
use Rattle.script_text.specs.Decimal.{decimal}
use Rattle.script_text.specs.Quoted.{quoted}
use Rattle.watch_text.specs.Numbers.{numbers_of}

-- the names of the numbers that every slot has, in their order
unfoldable pub common_names : List String
common_names =
    "kind" ∷ "length" ∷ "left" ∷ "half" ∷ "counter" ∷ "place" ∷ "voltage" ∷ "phase"
    ∷ "protection0" ∷ "protection1" ∷ "protection2" ∷ "protection3"
    ∷ "coming0" ∷ "coming1" ∷ "coming2" ∷ "coming3"
    ∷ "latch0" ∷ "latch1" ∷ "latch2" ∷ "latch3" ∷ "latch4" ∷ "latch5" ∷ "latch6" ∷ "latch7"
    ∷ "latch8" ∷ "latch9" ∷ "latch10" ∷ "latch11" ∷ "latch12" ∷ "latch13" ∷ "latch14" ∷ "latch15"
    ∷ "mark0" ∷ "mark1" ∷ "mark2" ∷ "mark3" ∷ "mark4" ∷ "mark5" ∷ "mark6" ∷ "mark7"
    ∷ "mark8" ∷ "mark9" ∷ "mark10" ∷ "mark11" ∷ "mark12" ∷ "mark13" ∷ "mark14" ∷ "mark15"
    ∷ "pointer" ∷ "configuration" ∷ "high" ∷ "low" ∷ "critical" ∷ "temperature" ∷ "resolution" ∷ "timeout" ∷ "word" ∷ []

-- and of those that it has by its kind: the EVENT pin's, and an older module's
unfoldable pub pin_names : List String
pin_names = "asserted" ∷ "level" ∷ "pending" ∷ []

unfoldable pub older_names : List String
older_names = "permanent" ∷ "lasting" ∷ "write-protect" ∷ []

unfoldable pub kind_names : Slot → List String
kind_names s = cond (sensing s) pin_names (cond (older s) older_names [])

unfoldable pub names : Slot → List String
names s = common_names ++ kind_names s

-- names as they stand in a line: each behind a space, with a sign behind it for its number to follow
unfoldable pub signed : List String → List ℕ
signed [] = []
signed (name ∷ more) = 0x20 ∷ quoted name ++ 0x3D ∷ signed more

-- "`name=number`", behind a space
unfoldable pub number_text : String → ℕ → List ℕ
number_text name n = 0x20 ∷ quoted name ++ 0x3D ∷ decimal n

unfoldable pub number_texts : List String → List ℕ → List ℕ
number_texts [] ns = []
number_texts (name ∷ more) [] = []
number_texts (name ∷ more) (n ∷ ns) = number_text name n ++ number_texts more ns

-- the same of names by their bytes, as the code has them
unfoldable pub text_of : List ℕ → ℕ → List ℕ
text_of name n = 0x20 ∷ name ++ 0x3D ∷ decimal n

unfoldable pub texts_of : List (List ℕ) → List ℕ → List ℕ
texts_of [] ns = []
texts_of (name ∷ more) [] = []
texts_of (name ∷ more) (n ∷ ns) = text_of name n ++ texts_of more ns

-- "the slot, and `name=number` for each field in a fixed order"
unfoldable pub slot_line : ℕ → Slot → List ℕ
slot_line n s = decimal n ++ (number_texts (names s) (numbers_of s) ++ 0x0A ∷ [])

-- "a line for each present slot whose numbers changed"
unfoldable pub change_line : ℕ → Slot → Slot → List ℕ
change_line n was is = cond (absent is || same (numbers_of was) (numbers_of is)) [] (slot_line n is)

-- slots 0 to n - 1
unfoldable pub change_lines_to : ℕ → List Slot → List Slot → List ℕ
change_lines_to zero was is = []
change_lines_to (suc n) was is = change_lines_to n was is ++ change_line n (get_or was n absent_slot) (get_or is n absent_slot)

unfoldable pub change_lines : List Slot → List Slot → List ℕ
change_lines was is = change_lines_to slot_count was is

-- "for all of them": where there was none, each present slot has changed
unfoldable pub bench_lines : Bus → List ℕ
bench_lines b = change_lines empty_bus.slots b.slots
