-- Captures in full: the bytes that are read, and the text that is written. The table computes.
-- Assumes nothing.
use Prim.Native.Nat.{ℕ}
use Prim.Native.String.{String}
use mathlib.Core.Path.{◌≡◌, refl}
use mathlib.Core.List.{List, [], ◌∷◌, ◌++◌, map}
use lib.ListN.{set, take, replicate}
use Rattle.script_text.specs.Quoted.{quoted}
use Rattle.capture_rules.specs.Open.{open-capture}
use Rattle.capture_pieces.specs.Line.{seen_text, difference_line, verdict_line}
use Rattle.capture.specs.Asked.{written_for}

-- "setup 16 bytes, memory 4,096 bytes": a memory of length 1 in slot 3, whose first byte is 5Ah
abbrev setup : List ℕ
setup = replicate 6 0 ++ 1 ∷ 1 ∷ replicate 8 0

abbrev memory : List ℕ
memory = set (replicate 4096 0xFF) 1536 0x5A

-- "records of six bytes": start; A7h acknowledged, and not; a read of 5Ah
abbrev start : List ℕ
start = 1 ∷ 0 ∷ 0 ∷ 0 ∷ 0 ∷ 7 ∷ []

abbrev acked : List ℕ
acked = 2 ∷ 0 ∷ 0 ∷ 0xA7 ∷ 1 ∷ 9 ∷ []

abbrev nacked : List ℕ
nacked = 2 ∷ 0 ∷ 0 ∷ 0xA7 ∷ 2 ∷ 0x5B ∷ []

abbrev read : List ℕ
read = 3 ∷ 0 ∷ 0 ∷ 1 ∷ 3 ∷ 0x5A ∷ []

-- what is read, and what is written for it
abbrev table : List (List ℕ × String)
table =
    (setup ++ memory, "OK\n")
    ∷ (setup ++ memory ++ start ++ acked ++ read, "OK\n")
    ∷ (setup ++ memory ++ start ++ acked ++ read ++ read ++ read, "3 DFF D5A\n")
    ∷ (setup ++ memory ++ start ++ nacked ++ read, "1 A N\n")
    -- "Where the input ends inside setup, memory or a record: the first difference of the whole records if there is one, else `short`."
    ∷ (setup ++ memory ++ start ++ acked ++ take 5 read, "short\n")
    ∷ (setup ++ memory ++ start ++ nacked ++ take 5 read, "1 A N\n")
    ∷ (setup ++ take 4095 memory, "short\n")
    ∷ (take 15 setup, "short\n")
    -- "sixteen setup bytes with a bad pair give `R5` whatever follows or is missing"
    ∷ (9 ∷ take 15 setup, "R5\n")
    ∷ (9 ∷ take 15 setup ++ memory ++ start ++ acked, "R5\n")
    ∷ []

pub captures : map (λ (c : List ℕ × String). written_for c.0) table ≡ map (λ (c : List ℕ × String). quoted c.1) table
unfolding open-capture seen_text difference_line verdict_line written_for
captures = refl
