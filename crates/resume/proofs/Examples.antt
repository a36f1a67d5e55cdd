-- What the program reads and writes, byte by byte. The tables compute.
-- Assumes nothing.
use Prim.Native.Nat.{ℕ}
use Prim.Native.String.{String}
use mathlib.Core.Path.{◌≡◌, refl}
use mathlib.Core.List.{List, [], ◌∷◌, ◌++◌, map}
use lib.ListN.{take, replicate}
use Rattle.script_text.specs.Quoted.{quoted}
use Rattle.script_turns.specs.Open.{open-script}
use Rattle.save_rules.specs.Open.{open-saved}
use Rattle.save_opening.specs.Opening.{form_bytes, too_long, opened_by}
use Rattle.resume.specs.Asked.{resumed, written_for}

-- the form of a bench with a memory of length 1 in slot 0, 544 bytes: its counter is 7, and its bytes are A5h but the one there
abbrev length : List ℕ
length = 0 ∷ 0 ∷ 0x02 ∷ 0x20 ∷ []

abbrev form : List ℕ
form =
    (0x01 ∷ 0x00 ∷ 0x10 ∷ 1 ∷ 1 ∷ replicate 14 0)
    ++ (0x02 ∷ 0x02 ∷ 0x00 ∷ replicate 7 0xA5 ++ 0x5A ∷ replicate 504 0xA5)
    ++ (0x03 ∷ 0x00 ∷ 0x04 ∷ 0 ∷ 0 ∷ 7 ∷ 0 ∷ [])
    ++ (0x04 ∷ 0x00 ∷ 0x00 ∷ [])

-- records: start, A1h, a read that the master acknowledges, one that it does not, stop
abbrev records : List ℕ
records = 1 ∷ 0 ∷ 0 ∷ 0 ∷ 2 ∷ 0 ∷ 0 ∷ 0xA1 ∷ 3 ∷ 0 ∷ 0 ∷ 1 ∷ 3 ∷ 0 ∷ 0 ∷ 0 ∷ 4 ∷ 0 ∷ 0 ∷ 0 ∷ []

-- what is read, and what is written for it
abbrev table : List (List ℕ × String)
table =
    (length ++ form ++ records, "-\nA\nD5A\nDA5\n-\n")
    ∷ (length ++ form, "")
    ∷ (length ++ form ++ take 7 records, "-\nshort\n")
    -- "`R10` alone for a form that is refused, whatever follows": tag 5 for 4
    ∷ (length ++ take 541 form ++ 5 ∷ 0 ∷ 0 ∷ records, "R10\n")
    ∷ (0 ∷ 1 ∷ 0 ∷ 0 ∷ records, "R10\n")
    -- "a form that is cut is `short`", and so is a length that is
    ∷ (length ++ take 543 form, "short\n")
    ∷ (length, "short\n")
    ∷ (0 ∷ 0 ∷ 2 ∷ [], "short\n")
    ∷ ([], "short\n")
    ∷ []

pub resumptions : map (λ (c : List ℕ × String). written_for c.0) table ≡ map (λ (c : List ℕ × String). quoted c.1) table
unfolding open-script open-saved form_bytes too_long opened_by resumed written_for
resumptions = refl
