-- Scripts in full: the bytes that are read, and the text that is written. The table computes.
-- Assumes nothing.
use Prim.Native.Nat.{ℕ}
use Prim.Native.String.{String}
use mathlib.Core.Path.{◌≡◌, refl}
use mathlib.Core.List.{List, [], ◌∷◌, ◌++◌, map}
use lib.ListN.{replicate}
use Rattle.script_text.specs.Quoted.{quoted}
use Rattle.script_turns.specs.Open.{open-script}
use Rattle.script_turns.specs.Script.{script_of}

-- a memory of length 1 in slot 0; and behind it a memory with sensor of length 5 in slot 1
abbrev memory : List ℕ
memory = 1 ∷ 1 ∷ replicate 14 0

abbrev with_sensor : List ℕ
with_sensor = 1 ∷ 1 ∷ 2 ∷ 5 ∷ replicate 12 0

-- records: start, a byte, a read that the master acknowledges, one that it does not, stop, tick
abbrev start : List ℕ
start = 1 ∷ 0 ∷ 0 ∷ 0 ∷ []

abbrev byte : ℕ → List ℕ
byte b = 2 ∷ 0 ∷ 0 ∷ b ∷ []

abbrev more : List ℕ
more = 3 ∷ 0 ∷ 0 ∷ 1 ∷ []

abbrev last : List ℕ
last = 3 ∷ 0 ∷ 0 ∷ 0 ∷ []

abbrev stop : List ℕ
stop = 4 ∷ 0 ∷ 0 ∷ 0 ∷ []

abbrev tick : List ℕ
tick = 6 ∷ 0 ∷ 0 ∷ 0 ∷ []

-- "start, A0h, 00h, 5Ah, stop, start, A0h, tick, start, A0h"
abbrev whole_case : List ℕ
whole_case = start ++ byte 0xA0 ++ byte 0x00 ++ byte 0x5A ++ stop ++ start ++ byte 0xA0 ++ tick ++ start ++ byte 0xA0

-- what is read, and what is written for it
abbrev table : List (List ℕ × String)
table =
    -- "Whole case"
    (memory ++ whole_case, "-\nA\nA\nA\n-\n-\nN\n-\n-\nA\n")
    -- and then the byte that was written, and the next one: "Memory starts as FFh"
    ∷ (memory ++ whole_case ++ byte 0x00 ++ start ++ byte 0xA1 ++ more ++ last ++ last ++ stop, "-\nA\nA\nA\n-\n-\nN\n-\n-\nA\nA\n-\nA\nD5A\nDFF\nDFF\n-\n")
    -- the last byte of all: slot 7, half 1, counter FFh
    ∷ (replicate 14 0 ++ 1 ∷ 5 ∷ start ++ byte 0x6E ++ start ++ byte 0xAE ++ byte 0xFF ++ start ++ byte 0xAF ++ last, "-\nA\n-\nA\nA\n-\nA\nDFF\n")
    -- `R` and the number: kinds 0 and 11; slot 2, which is absent, and slot 0, which has no sensor; a byte of 256, and -641, 2001 and the two ends
    ∷ (with_sensor ++ (0 ∷ 0 ∷ 0 ∷ 0 ∷ []) ++ (11 ∷ 0 ∷ 0 ∷ 0 ∷ []), "R2\nR2\n")
    ∷ (with_sensor ++ (7 ∷ 2 ∷ 0 ∷ 1 ∷ []) ++ (9 ∷ 0 ∷ 0 ∷ 0 ∷ []) ++ (7 ∷ 1 ∷ 0 ∷ 1 ∷ []), "R3\nR3\n-\n")
    ∷ (with_sensor ++ (2 ∷ 0 ∷ 1 ∷ 0 ∷ []) ++ (9 ∷ 1 ∷ 0xFD ∷ 0x7F ∷ []) ++ (9 ∷ 1 ∷ 0x07 ∷ 0xD1 ∷ []) ++ (9 ∷ 1 ∷ 0xFD ∷ 0x80 ∷ []) ++ (9 ∷ 1 ∷ 0x07 ∷ 0xD0 ∷ []), "R4\nR4\nR4\n-\n-\n")
    -- P9: the write-protect pin of slot 1, which has none, and of an older module in slot 0: 2, 1, and then a byte that it refuses
    ∷ (3 ∷ 1 ∷ 2 ∷ 5 ∷ replicate 12 0 ++ (10 ∷ 1 ∷ 0 ∷ 1 ∷ []) ++ (10 ∷ 0 ∷ 0 ∷ 2 ∷ []) ++ (10 ∷ 0 ∷ 0 ∷ 1 ∷ []) ++ start ++ byte 0xA0 ++ byte 0x00 ++ byte 0x5A, "R3\nR4\n-\n-\nA\nA\nN\n")
    -- no record, and "An incomplete setup or record gives the last line `short`."
    ∷ (memory, "")
    ∷ (memory ++ start ++ byte 0xA0 ++ 4 ∷ 0 ∷ 0 ∷ [], "-\nA\nshort\n")
    ∷ (memory ++ 4 ∷ [], "short\n")
    ∷ ([], "short\n")
    ∷ (replicate 15 9, "short\n")
    -- "A bad setup gives `R5` alone.": kind 4, lengths 0 and 6, in the first slot and in the last
    ∷ (4 ∷ 1 ∷ replicate 14 0 ++ start ++ start, "R5\n")
    ∷ (1 ∷ 0 ∷ replicate 14 0 ++ start, "R5\n")
    ∷ (replicate 14 0 ++ 2 ∷ 6 ∷ 1 ∷ [], "R5\n")
    ∷ []

pub scripts : map (λ (c : List ℕ × String). script_of c.0) table ≡ map (λ (c : List ℕ × String). quoted c.1) table
unfolding open-script
scripts = refl
