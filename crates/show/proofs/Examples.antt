-- What the program reads and writes, byte by byte. The table computes.
-- Assumes nothing.
use Prim.Native.Nat.{ℕ}
use Prim.Native.String.{String}
use mathlib.Core.Path.{◌≡◌, refl}
use mathlib.Core.List.{List, [], ◌∷◌, ◌++◌, map}
use lib.ListN.{take, replicate}
use Rattle.script_text.specs.Quoted.{quoted}
use Rattle.save_rules.specs.Open.{open-saved}
use Rattle.save_opening.specs.Opening.{form_bytes, too_long, opened_by}
use Rattle.watch_streams.specs.Open.{open-watch}
use Rattle.show.specs.Asked.{shown, written_for}

-- the form of a bench without slots, 28 bytes, and that of one with a memory with sensor in slot 0, of length 3, 559 bytes: its configuration is of some
-- low byte
abbrev none : List ℕ
none = (0x01 ∷ 0x00 ∷ 0x10 ∷ replicate 16 0) ++ (0x02 ∷ 0x00 ∷ 0x00 ∷ 0x03 ∷ 0x00 ∷ 0x00 ∷ 0x04 ∷ 0x00 ∷ 0x00 ∷ [])

abbrev form : ℕ → List ℕ
form low =
    (0x01 ∷ 0x00 ∷ 0x10 ∷ 2 ∷ 3 ∷ replicate 14 0)
    ++ (0x02 ∷ 0x02 ∷ 0x00 ∷ replicate 512 0xFF)
    ++ (0x03 ∷ 0x00 ∷ 0x04 ∷ 0x06 ∷ 1 ∷ 0x80 ∷ 1 ∷ [])
    ++ (0x04 ∷ 0x00 ∷ 0x0F ∷ 0x09 ∷ 0x02 ∷ low ∷ 0x05 ∷ 0x00 ∷ 0x01 ∷ 0x04 ∷ 0x06 ∷ 0x40 ∷ 0xC1 ∷ 0x90 ∷ 0x00 ∷ 0x03 ∷ 0x00 ∷ 0x00 ∷ [])

-- the same with a change pending, in interrupt mode: 563 bytes
abbrev pending : List ℕ
pending = form 0x49 ++ 0x05 ∷ 0x00 ∷ 0x01 ∷ 1 ∷ []

-- the form of a bench with an older module in slot 0, of length 1, protected for ever and with its write-protect pin on: 292 bytes
abbrev older : List ℕ
older =
    (0x01 ∷ 0x00 ∷ 0x10 ∷ 3 ∷ 1 ∷ replicate 14 0)
    ++ (0x02 ∷ 0x01 ∷ 0x00 ∷ replicate 256 0xFF)
    ++ (0x03 ∷ 0x00 ∷ 0x04 ∷ 0x01 ∷ 0 ∷ 0x80 ∷ 0 ∷ [])
    ++ (0x04 ∷ 0x00 ∷ 0x00 ∷ [])
    ++ (0x06 ∷ 0x00 ∷ 0x01 ∷ 0x03 ∷ [])

abbrev older_line : String → List String
older_line pin =
    "0 kind=3 length=1 left=0 half=0 counter=128 place=0 voltage=0 phase=0"
    ∷ " protection0=1 protection1=0 protection2=0 protection3=0 coming0=1 coming1=0 coming2=0 coming3=0 latch0=0 latch1=0 latch2=0 latch3=0 latch4=0 latch5=0 latch6=0 latch7=0 latch8=0 latch9=0 latch10=0 latch11=0 latch12=0 latch13=0 latch14=0 latch15=0 mark0=0 mark1=0 mark2=0 mark3=0 mark4=0 mark5=0 mark6=0 mark7=0 mark8=0 mark9=0 mark10=0 mark11=0 mark12=0 mark13=0 mark14=0 mark15=0"
    ∷ " pointer=0 configuration=0 high=0 low=0 critical=0 temperature=0 resolution=1 timeout=1 word=0 permanent=1 lasting=0 write-protect=" ∷ pin ∷ "\n" ∷ []

abbrev line : String → String → String → List String
line phase configuration pin =
    "0 kind=2 length=3 left=0 half=1 counter=128 place=0 voltage=1 phase=" ∷ phase
    ∷ " protection0=0 protection1=1 protection2=1 protection3=0 coming0=0 coming1=1 coming2=1 coming3=0 latch0=0 latch1=0 latch2=0 latch3=0 latch4=0 latch5=0 latch6=0 latch7=0 latch8=0 latch9=0 latch10=0 latch11=0 latch12=0 latch13=0 latch14=0 latch15=0 mark0=0 mark1=0 mark2=0 mark3=0 mark4=0 mark5=0 mark6=0 mark7=0 mark8=0 mark9=0 mark10=0 mark11=0 mark12=0 mark13=0 mark14=0 mark15=0 pointer=9 configuration="
    ∷ configuration ∷ " high=1280 low=260 critical=1600 temperature=49552 resolution=3 timeout=0 word=0 asserted=" ∷ pin ∷ "\n" ∷ []

abbrev lines : List String → List ℕ
lines [] = []
lines (s ∷ ss) = quoted s ++ lines ss

-- what is read, and what is written for it
abbrev table : List (List ℕ × List String)
table =
    (0 ∷ 0 ∷ 0x02 ∷ 0x2F ∷ form 0x41, line "0" "577" "0 level=1 pending=0")
    -- with a change pending; then a tick, which changes no slot, a start, and a record that is cut
    ∷ (0 ∷ 0 ∷ 0x02 ∷ 0x33 ∷ pending, line "0" "585" "1 level=0 pending=1")
    ∷ (
      0 ∷ 0 ∷ 0x02 ∷ 0x33 ∷ pending ++ 6 ∷ 0 ∷ 0 ∷ 0 ∷ 1 ∷ 0 ∷ 0 ∷ 0 ∷ 4 ∷ [],
      line "0" "585" "1 level=0 pending=1" ++ "-\n" ∷ "-\n" ∷ line "1" "585" "1 level=0 pending=1" ++ "short\n" ∷ [],
    )
    -- an older module; then its pin goes off, and stays so
    ∷ (0 ∷ 0 ∷ 0x01 ∷ 0x24 ∷ older ++ 10 ∷ 0 ∷ 0 ∷ 0 ∷ 10 ∷ 0 ∷ 0 ∷ 0 ∷ [], older_line "1" ++ "-\n" ∷ older_line "0" ++ "-\n" ∷ [])
    ∷ (0 ∷ 0 ∷ 0 ∷ 28 ∷ none, [])
    ∷ (0 ∷ 0 ∷ 0 ∷ 28 ∷ none ++ 1 ∷ 0 ∷ 0 ∷ 0 ∷ 9 ∷ 0 ∷ 0 ∷ 0 ∷ [], "-\n" ∷ "R3\n" ∷ [])
    ∷ (0 ∷ 0 ∷ 0 ∷ 28 ∷ none ++ 1 ∷ 0 ∷ 0 ∷ [], "short\n" ∷ [])
    -- tag 5 for 4, whatever follows; a length that is too large
    ∷ (0 ∷ 0 ∷ 0 ∷ 28 ∷ take 25 none ++ 5 ∷ 0 ∷ 0 ∷ 1 ∷ 0 ∷ 0 ∷ 0 ∷ [], "R10\n" ∷ [])
    ∷ (0 ∷ 1 ∷ 0 ∷ 0 ∷ none, "R10\n" ∷ [])
    -- a form and a length that are cut
    ∷ (0 ∷ 0 ∷ 0 ∷ 28 ∷ take 27 none, "short\n" ∷ [])
    ∷ (0 ∷ 0 ∷ 2 ∷ [], "short\n" ∷ [])
    ∷ ([], "short\n" ∷ [])
    ∷ []

pub showings : map (λ (c : List ℕ × List String). written_for c.0) table ≡ map (λ (c : List ℕ × List String). lines c.1) table
unfolding open-watch open-saved form_bytes too_long opened_by shown written_for
showings = refl
