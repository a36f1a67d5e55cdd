-- Lists in full: the bytes that are read, and the text that is written, and where. The table computes.
-- Assumes nothing.
use Prim.Native.Nat.{ℕ}
use mathlib.Core.Path.{◌≡◌, refl}
use mathlib.Core.List.{List, [], ◌∷◌, ◌++◌, map}
use lib.ListN.{take, replicate}
use Rattle.script_text.specs.Quoted.{quoted}
use Rattle.script_turns.specs.Open.{open-script}
use Rattle.script_streams.specs.Written.{Written, on_output, on_errors}
use Rattle.list_lend.specs.Listed.{number_in, events_in, answer_lines, dot_lines}
use Rattle.list.specs.Asked.{lines_for, too_many, is_cut, list_for, end_for, written_for}

-- "setup 16 bytes": a memory of length 1 in slot 0; start, A0h acknowledged, a kind that there is not
abbrev setup : List ℕ
setup = 1 ∷ 1 ∷ replicate 14 0

abbrev records : List ℕ
records = (1 ∷ 0 ∷ 0 ∷ 0 ∷ []) ++ (2 ∷ 0 ∷ 0 ∷ 0xA0 ∷ []) ++ (11 ∷ 0 ∷ 0 ∷ 0 ∷ [])

-- P9: an older module of length 1 in slot 0, and its write-protect pin: on; a value that is neither 0 nor 1; the pin of a slot that is absent; start,
-- A0h, 00h and a data byte, which gets NACK; off
abbrev older : List ℕ
older = 3 ∷ 1 ∷ replicate 14 0

abbrev pins : List ℕ
pins =
    (10 ∷ 0 ∷ 0 ∷ 1 ∷ []) ++ (10 ∷ 0 ∷ 0 ∷ 2 ∷ []) ++ (10 ∷ 1 ∷ 0 ∷ 2 ∷ [])
    ++ (1 ∷ 0 ∷ 0 ∷ 0 ∷ []) ++ (2 ∷ 0 ∷ 0 ∷ 0xA0 ∷ []) ++ (2 ∷ 0 ∷ 0 ∷ 0 ∷ []) ++ (2 ∷ 0 ∷ 0 ∷ 7 ∷ [])
    ++ (10 ∷ 0 ∷ 0 ∷ 0 ∷ [])

-- "two bytes number of answer places"
abbrev places : ℕ → List ℕ
places n = 0 ∷ n ∷ []

-- what is read, and what is written for it
abbrev table : List (List ℕ × Written)
table =
    (setup ++ places 3 ++ records, on_output (quoted "-\nA\nR2\n"))
    ∷ (setup ++ places 5 ++ records, on_output (quoted "-\nA\nR2\n.\n.\n"))
    ∷ (older ++ places 8 ++ pins, on_output (quoted "-\nR4\nR3\n-\nA\nA\nN\n-\n"))
    ∷ (setup ++ places 0, on_output [])
    ∷ (setup ++ places 2 ++ records, on_output (quoted "R9\n"))
    -- "`R5`, then too many records, then `short`, then `R9`"
    ∷ (setup ++ places 2 ++ take 11 records, on_output (quoted "short\n"))
    ∷ (setup ++ 0 ∷ [], on_output (quoted "short\n"))
    ∷ (setup, on_output (quoted "short\n"))
    ∷ (take 15 setup, on_output (quoted "short\n"))
    ∷ (setup ++ places 2 ++ replicate 16387 0, on_output (quoted "short\n"))
    ∷ (setup ++ places 2 ++ replicate 16388 0, on_errors (quoted "list: more than 4096 records in one list\n"))
    ∷ (4 ∷ take 15 setup ++ places 2 ++ replicate 16388 0, on_output (quoted "R5\n"))
    ∷ []

pub lists : map (λ (c : List ℕ × Written). written_for c.0) table ≡ map (λ (c : List ℕ × Written). c.1) table
unfolding open-script number_in events_in answer_lines dot_lines lines_for too_many is_cut list_for end_for written_for
lists = refl
