-- What `watch` writes for whole inputs, byte by byte. Each theorem computes.
-- Assumes nothing.
use Prim.Native.Nat.{ℕ}
use Prim.Native.String.{String}
use mathlib.Core.Path.{◌≡◌, refl}
use mathlib.Core.List.{List, [], ◌∷◌, ◌++◌, map}
use lib.ListN.{replicate}
use Rattle.script_text.specs.Quoted.{quoted}
use Rattle.watch_streams.specs.Open.{open-watch}
use Rattle.watch.specs.Watch.{watch_of}

-- a memory in slot 0 with a write cycle of two ticks, and a memory with sensor in slot 7 with one of five
abbrev setup : List ℕ
setup = 1 ∷ 2 ∷ replicate 12 0 ++ 2 ∷ 5 ∷ []

-- the numbers of a slot in no exchange, from its protection to its marks: all 0, but for block 0's of protection and of what is coming
abbrev still : String → String → List String
still now then = " protection0=" ∷ now ∷ " protection1=0 protection2=0 protection3=0 coming0=" ∷ then ∷ " coming1=0 coming2=0 coming3=0 latch0=0 latch1=0 latch2=0 latch3=0 latch4=0 latch5=0 latch6=0 latch7=0 latch8=0 latch9=0 latch10=0 latch11=0 latch12=0 latch13=0 latch14=0 latch15=0 mark0=0 mark1=0 mark2=0 mark3=0 mark4=0 mark5=0 mark6=0 mark7=0 mark8=0 mark9=0 mark10=0 mark11=0 mark12=0 mark13=0 mark14=0 mark15=0" ∷ []

-- the sensor's numbers at their defaults, and at a temperature of 100 sixteenths of a degree, which is above all limits
abbrev cold : String
cold = " pointer=0 configuration=0 high=0 low=0 critical=0 temperature=0 resolution=1 timeout=1 word=0"

abbrev warm : String
warm = " pointer=0 configuration=0 high=0 low=0 critical=0 temperature=49252 resolution=1 timeout=1 word=0"

-- the lines of the two slots: the first ends where it has no pin
abbrev memory : String → List String
memory phase = "0 kind=1 length=2 left=0 half=0 counter=0 place=0 voltage=0 phase=" ∷ phase ∷ still "0" "0" ++ cold ∷ "\n" ∷ []

abbrev sensor : String → String → String → List String
sensor phase registers pin =
    "7 kind=2 length=5 left=0 half=0 counter=0 place=0 voltage=0 phase=" ∷ phase ∷ still "0" "0" ++ registers ∷ " asserted=" ∷ pin ∷ "\n" ∷ []

abbrev released : String
released = "0 level=1 pending=0"

abbrev lines : List String → List ℕ
lines [] = []
lines (s ∷ ss) = quoted s ++ lines ss

abbrev first : List String
first = memory "0" ++ sensor "0" cold released

-- inputs, and what is written for them: a setup that is cut, a bad one with records behind it, one of which the record is cut; records that change
-- both slots (a start), one of them (a temperature), and none (a tick, a slot that is not there, an unknown kind)
abbrev table : List (List ℕ × List String)
table =
    ([], "short\n" ∷ [])
    ∷ (replicate 15 1, "short\n" ∷ [])
    ∷ (4 ∷ 1 ∷ replicate 14 0 ++ 1 ∷ 0 ∷ 0 ∷ 0 ∷ [], "R5\n" ∷ [])
    ∷ (replicate 16 0, [])
    ∷ (setup, first)
    ∷ (
      setup ++ 6 ∷ 0 ∷ 0 ∷ 0 ∷ 9 ∷ 7 ∷ 0 ∷ 100 ∷ 7 ∷ 9 ∷ 0 ∷ 1 ∷ 1 ∷ 0 ∷ 0 ∷ 0 ∷ 12 ∷ [],
      first ++ "-\n"
          ∷ "-\n" ∷ sensor "0" warm released
          ++ "R3\n"
          ∷ "-\n" ∷ memory "1" ++ sensor "1" warm released
          ++ "short\n" ∷ [],
    )
    ∷ []

pub watched : map (λ (c : List ℕ × List String). watch_of c.0) table ≡ map (λ (c : List ℕ × List String). lines c.1) table
unfolding open-watch watch_of
watched = refl

-- The pin of a sensor alone: a start, 3Eh, and 0009h written to register 01h, which enables it in interrupt mode; a temperature that sets the critical
-- and the high flag, so that a change is pending; and a word of it with bit 5 set, which leaves the pin to the critical flag
abbrev alone : List ℕ
alone = replicate 14 0 ++ 2 ∷ 5 ∷ []

abbrev exchange : ℕ → List ℕ
exchange low = 1 ∷ 0 ∷ 0 ∷ 0 ∷ 2 ∷ 0 ∷ 0 ∷ 0x3E ∷ 2 ∷ 0 ∷ 0 ∷ 1 ∷ 2 ∷ 0 ∷ 0 ∷ 0 ∷ 2 ∷ 0 ∷ 0 ∷ low ∷ []

abbrev enabled : String
enabled = " pointer=1 configuration=9 high=0 low=0 critical=0 temperature=0 resolution=1 timeout=1 word=0"

abbrev hot : String
hot = " pointer=1 configuration=9 high=0 low=0 critical=0 temperature=49252 resolution=1 timeout=1 word=0"

abbrev pointed : String
pointed = " pointer=1 configuration=0 high=0 low=0 critical=0 temperature=0 resolution=1 timeout=1 word=0"

pub pin-watched : watch_of (alone ++ exchange 0x09 ++ 9 ∷ 7 ∷ 0 ∷ 100 ∷ exchange 0x29)
    ≡ lines
    (sensor "0" cold released
    ++ "-\n" ∷ sensor "1" cold released
    ++ "A\n" ∷ sensor "10" cold released
    ++ "A\n" ∷ sensor "11" pointed released
    ++ "A\n" ∷ sensor "12" pointed released
    ++ "A\n" ∷ sensor "2" enabled released
    ++ "-\n" ∷ sensor "2" hot "1 level=0 pending=1"
    ++ "-\n" ∷ sensor "1" hot "1 level=0 pending=1"
    ++ "A\n" ∷ sensor "10" hot "1 level=0 pending=1"
    ++ "A\n" ∷ sensor "11" hot "1 level=0 pending=1"
    ++ "A\n" ∷ sensor "12" hot "1 level=0 pending=1"
    ++ "A\n" ∷ sensor "2" hot "1 level=0 pending=0")
unfolding open-watch watch_of
pin-watched = refl

-- An older module in slot 5 with a write cycle of one tick: a start, 6Ah, which is its own select with a write bit, two bytes and a stop, and the tick
-- that ends the cycle protect it for ever; its write-protect pin comes on, and is on already. Then 6Ah gets NACK, as every 0110 byte; a pin of another
-- slot, and neither on nor off
abbrev older : String → String → String → String → String → List String
older left phase now then own =
    "5 kind=3 length=1 left=" ∷ left ∷ " half=0 counter=0 place=0 voltage=0 phase=" ∷ phase ∷ still now then ++ cold ∷ " permanent=" ∷ own ∷ "\n" ∷ []

pub older-watched : watch_of (replicate 10 0 ++ 3 ∷ 1 ∷ replicate 4 0
    ++ 1 ∷ 0 ∷ 0 ∷ 0 ∷ 2 ∷ 0 ∷ 0 ∷ 0x6A ∷ 2 ∷ 0 ∷ 0 ∷ 0 ∷ 2 ∷ 0 ∷ 0 ∷ 0 ∷ 4 ∷ 0 ∷ 0 ∷ 0 ∷ 6 ∷ 0 ∷ 0 ∷ 0
    ∷ 10 ∷ 5 ∷ 0 ∷ 1 ∷ 10 ∷ 5 ∷ 0 ∷ 1 ∷ 1 ∷ 0 ∷ 0 ∷ 0 ∷ 2 ∷ 0 ∷ 0 ∷ 0x6A ∷ 10 ∷ 4 ∷ 0 ∷ 1 ∷ 10 ∷ 5 ∷ 0 ∷ 2 ∷ [])
    ≡ lines
    (older "0" "0" "0" "0" "0 lasting=0 write-protect=0"
    ++ "-\n" ∷ older "0" "1" "0" "0" "0 lasting=0 write-protect=0"
    ++ "A\n" ∷ older "0" "7" "0" "1" "0 lasting=1 write-protect=0"
    ++ "A\n" ∷ older "0" "8" "0" "1" "0 lasting=1 write-protect=0"
    ++ "A\n" ∷ older "0" "9" "0" "1" "0 lasting=1 write-protect=0"
    ++ "-\n" ∷ older "1" "0" "0" "1" "0 lasting=1 write-protect=0"
    ++ "-\n" ∷ older "0" "0" "1" "1" "1 lasting=0 write-protect=0"
    ++ "-\n" ∷ older "0" "0" "1" "1" "1 lasting=0 write-protect=1"
    ++ "-\n"
    ∷ "-\n" ∷ older "0" "1" "1" "1" "1 lasting=0 write-protect=1"
    ++ "N\n" ∷ older "0" "2" "1" "1" "1 lasting=0 write-protect=1"
    ++ "R3\n" ∷ "R4\n" ∷ [])
unfolding open-watch watch_of
older-watched = refl
