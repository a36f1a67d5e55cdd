-- Plans in full: the bytes that are read, and the text that is written. The table computes.
-- Assumes nothing.
use Prim.Native.Nat.{ℕ}
use Prim.Native.String.{String}
use mathlib.Core.Path.{◌≡◌, refl}
use mathlib.Core.List.{List, [], ◌∷◌, ◌++◌, map}
use lib.ListN.{take, replicate}
use Rattle.script_text.specs.Quoted.{quoted}
use Rattle.script_turns.specs.Open.{open-script}
use Rattle.plan_rules.proofs.Tables.{open-plan}
use Rattle.plan_pages.specs.Listing.{count_line, hex_byte, record_line, record_lines, text_of}
use Rattle.plan.specs.Asked.{plan_text, last_text, asked_bench, answer_to, written_for}

-- "setup 16 bytes, memory 4,096 bytes, slot one byte, image 512 bytes": a memory of length 2 in slot 3, whose bytes are 33h, among others of 44h
abbrev setup : List ℕ
setup = replicate 6 0 ++ 1 ∷ 2 ∷ replicate 8 0

-- and the same with an older module in slot 6
abbrev older : List ℕ
older = replicate 6 0 ++ 1 ∷ 2 ∷ replicate 4 0 ++ 3 ∷ 5 ∷ replicate 2 0

abbrev memory : List ℕ
memory = replicate 1536 0x44 ++ replicate 512 0x33 ++ replicate 2048 0x44

-- the image has another last page, in half 1
abbrev image : List ℕ
image = replicate 496 0x33 ++ replicate 15 0xAB ++ 0xCD ∷ []

-- "then records to the end of the input, which are run first": 6Eh selects half 1
abbrev half : List ℕ
half = (1 ∷ 0 ∷ 0 ∷ 0 ∷ []) ++ (2 ∷ 0 ∷ 0 ∷ 0x6E ∷ []) ++ (4 ∷ 0 ∷ 0 ∷ 0 ∷ [])

-- what is read, and what is written for it
abbrev table : List (List ℕ × String)
table =
    (setup ++ memory ++ 3 ∷ replicate 512 0x33, "5\n06000000\n06000000\n06000000\n06000000\n06000000\n")
    ∷ (setup ++ memory ++ 3 ∷ image ++ half, "27\n06000000\n06000000\n06000000\n06000000\n06000000\n01000000\n020000A6\n020000F0\n020000AB\n020000AB\n020000AB\n020000AB\n020000AB\n020000AB\n020000AB\n020000AB\n020000AB\n020000AB\n020000AB\n020000AB\n020000AB\n020000AB\n020000AB\n020000CD\n04000000\n06000000\n06000000\n")
    ∷ (setup ++ memory ++ 2 ∷ image, "R3\n")
    -- P9: "3 is given [..] by P1 for a kind 3 slot"; beside one a plan is what it was
    ∷ (older ++ memory ++ 6 ∷ image, "R3\n")
    ∷ (older ++ memory ++ 3 ∷ replicate 512 0x33, "5\n06000000\n06000000\n06000000\n06000000\n06000000\n")
    -- "`short` alone where the input ends before the image does" or "inside a record"; "`short` comes before `R3` and `R7`"
    ∷ (setup ++ memory ++ 2 ∷ take 511 image, "short\n")
    ∷ (setup ++ memory ++ 2 ∷ image ++ take 3 half, "short\n")
    ∷ (take 15 setup, "short\n")
    -- "sixteen setup bytes with a bad pair give `R5` whatever follows or is missing"
    ∷ (9 ∷ take 15 setup ++ memory, "R5\n")
    ∷ []

pub plans : map (λ (c : List ℕ × String). written_for c.0) table ≡ map (λ (c : List ℕ × String). quoted c.1) table
unfolding open-script open-plan count_line hex_byte record_line record_lines text_of plan_text last_text asked_bench answer_to written_for
plans = refl
