-- Savings in full: the bytes that are read, and what is written, and where. The table computes.
-- Assumes nothing.
use Prim.Native.Nat.{ℕ}
use mathlib.Core.Path.{◌≡◌, refl}
use mathlib.Core.List.{List, [], ◌∷◌, ◌++◌, map}
use lib.ListN.{take, replicate}
use Rattle.script_text.specs.Quoted.{quoted}
use Rattle.script_turns.specs.Open.{open-script}
use Rattle.script_streams.specs.Written.{Written, on_output, on_errors}
use Rattle.save_rules.specs.Open.{open-saved}
use Rattle.save.specs.Asked.{bench_text, end_text, answer_to, written_for}

-- a memory of length 3 in slot 2; start, A4h, 7Fh and stop, which leave its counter at 7Fh; and a start alone
abbrev setup : List ℕ
setup = replicate 4 0 ++ 1 ∷ 3 ∷ replicate 10 0

abbrev start : List ℕ
start = 1 ∷ 0 ∷ 0 ∷ 0 ∷ []

abbrev exchange : List ℕ
exchange = start ++ (2 ∷ 0 ∷ 0 ∷ 0xA4 ∷ []) ++ (2 ∷ 0 ∷ 0 ∷ 0x7F ∷ []) ++ (4 ∷ 0 ∷ 0 ∷ 0 ∷ [])

-- its form: setup, memory "FFh at the start", state
abbrev form : ℕ → List ℕ
form counter =
    (0x01 ∷ 0x00 ∷ 0x10 ∷ []) ++ setup
    ++ (0x02 ∷ 0x02 ∷ 0x00 ∷ []) ++ replicate 512 0xFF
    ++ (0x03 ∷ 0x00 ∷ 0x04 ∷ 0 ∷ 0 ∷ counter ∷ 0 ∷ [])
    ++ (0x04 ∷ 0x00 ∷ 0x00 ∷ [])

-- what is read, and what is written for it
abbrev table : List (List ℕ × Written)
table =
    (setup, on_output (form 0x00))
    ∷ (setup ++ exchange, on_output (form 0x7F))
    ∷ (setup ++ exchange ++ start, on_errors (quoted "R8\n"))
    -- "`R5` before `short` before `R8`"
    ∷ (setup ++ exchange ++ start ++ take 3 start, on_errors (quoted "short\n"))
    ∷ (take 15 setup, on_errors (quoted "short\n"))
    ∷ (3 ∷ take 15 setup ++ take 3 start, on_errors (quoted "R5\n"))
    ∷ []

pub savings : map (λ (c : List ℕ × Written). written_for c.0) table ≡ map (λ (c : List ℕ × Written). c.1) table
unfolding open-script open-saved bench_text end_text answer_to written_for
savings = refl
