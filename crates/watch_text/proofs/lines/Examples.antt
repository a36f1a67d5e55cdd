-- A slot's line and the lines of changes, in full. Each theorem computes, but for the last, which is of every slot.
-- Assumes nothing.
use Prim.Native.Nat.{ℕ, zero, suc}
use mathlib.Core.Path.{◌≡◌, refl, sym}
use mathlib.Core.Bool.{Bool, true, false, false≢true}
use mathlib.Core.List.{List, [], ◌∷◌, ◌++◌, map}
use native.Mathlib.Omega.{arith}
use borrow.Author.Tests.{ne_eqb}
use lib.Dec.{eqb}
use lib.ListN.{replicate}
use Rattle.rules.specs.declared.Phase.TheVariants.{SensorReadHigh}
use Rattle.rules.specs.declared.Older.{Older}
use Rattle.rules.specs.declared.Slot.{Slot}
use Rattle.rules.specs.Modelled.{absent}
use Rattle.rules.specs.Fields.{with_left, with_sensor, with_pending, with_old, with_pin}
use Rattle.rules.specs.Fresh.{fresh_slot, absent_slot}
use Rattle.script_text.specs.Quoted.{quoted}
use Rattle.watch_text.specs.Lines.{slot_line, change_line, change_lines}
use Rattle.watch_text.specs.Open.{open-lines}

-- no two numbers here are the same where they could be mistaken for one another: a slot of some kind, with a change pending or none, and
-- with what an older module has
abbrev sample : ℕ → Bool → Older → Slot
sample kind pending old = record {
  kind = kind;
  length = 5;
  left = 3;
  half = 1;
  counter = 200;
  protection = true ∷ false ∷ false ∷ true ∷ [];
  coming = false ∷ true ∷ false ∷ false ∷ [];
  voltage = true;
  phase = SensorReadHigh;
  latch = 100 ∷ 101 ∷ 102 ∷ 103 ∷ 104 ∷ 105 ∷ 106 ∷ 107 ∷ 108 ∷ 109 ∷ 110 ∷ 111 ∷ 112 ∷ 113 ∷ 114 ∷ 115 ∷ [];
  marks = true ∷ true ∷ false ∷ true ∷ false ∷ false ∷ true ∷ false ∷ false ∷ false ∷ true ∷ false ∷ false ∷ false ∷ false ∷ true ∷ [];
  place = 15;
  sensor = record { pointer = 7; configuration = 1993; high = 8188; low = 4096; critical = 8184; temperature = 65535; resolution = 4; timeout = 0; word = 1000; pending = pending };
  old = old;
}

abbrev plain : Older
plain = record { permanent = false; lasting = false; pin = false }

-- its line, from its length to its word
abbrev middle : List ℕ
middle =
    quoted " length=5 left=3 half=1 counter=200 place=15 voltage=1 phase=13 protection0=1 protection1=0 protection2=0 protection3=1"
    ++ quoted " coming0=0 coming1=1 coming2=0 coming3=0 latch0=100 latch1=101 latch2=102 latch3=103 latch4=104 latch5=105 latch6=106 latch7=107"
    ++ quoted " latch8=108 latch9=109 latch10=110 latch11=111 latch12=112 latch13=113 latch14=114 latch15=115"
    ++ quoted " mark0=1 mark1=1 mark2=0 mark3=1 mark4=0 mark5=0 mark6=1 mark7=0 mark8=0 mark9=0 mark10=1 mark11=0 mark12=0 mark13=0 mark14=0 mark15=1"
    ++ quoted " pointer=7 configuration=1993 high=8188 low=4096 critical=8184 temperature=65535 resolution=4 timeout=0 word=1000"

-- with a change pending, in interrupt mode and active low; without one, asserted by the critical flag; and without a sensor, which has no EVENT pin
pub sample-line : slot_line 6 (sample 2 true plain) ≡ quoted "6 kind=2" ++ middle ++ quoted " asserted=1 level=0 pending=1\n"
unfolding open-lines
sample-line = refl

pub critical-line : slot_line 6 (sample 2 false plain) ≡ quoted "6 kind=2" ++ middle ++ quoted " asserted=1 level=0 pending=0\n"
unfolding open-lines
critical-line = refl

pub plain-line : slot_line 6 (sample 1 false plain) ≡ quoted "6 kind=1" ++ middle ++ quoted "\n"
unfolding open-lines
plain-line = refl

-- an older module: each of its three alone; and of the slots of other kinds, which say nothing of them
pub older-lines : map (slot_line 6) (sample 3 false (record { permanent = true; lasting = false; pin = false })
    ∷ sample 3 false (record { permanent = false; lasting = true; pin = false })
    ∷ sample 3 true (record { permanent = false; lasting = false; pin = true })
    ∷ sample 1 false (record { permanent = true; lasting = true; pin = true })
    ∷ sample 2 false (record { permanent = true; lasting = true; pin = true })
    ∷ [])
    ≡ (quoted "6 kind=3" ++ middle ++ quoted " permanent=1 lasting=0 write-protect=0\n")
    ∷ (quoted "6 kind=3" ++ middle ++ quoted " permanent=0 lasting=1 write-protect=0\n")
    ∷ (quoted "6 kind=3" ++ middle ++ quoted " permanent=0 lasting=0 write-protect=1\n")
    ∷ (quoted "6 kind=1" ++ middle ++ quoted "\n")
    ∷ (quoted "6 kind=2" ++ middle ++ quoted " asserted=1 level=0 pending=0\n")
    ∷ []
unfolding open-lines
older-lines = refl

-- Of eight slots the second, the seventh and the last changed, the last two in their last number alone; the third is as it was; the first, which is
-- absent, changed too and has no line
abbrev pended : Slot → Slot
pended s = with_sensor (with_pending true s.sensor) s

abbrev pinned : Slot → Slot
pinned s = with_old (with_pin true s.old) s

abbrev was : List Slot
was = absent_slot ∷ fresh_slot 1 3 ∷ fresh_slot 2 4 ∷ replicate 3 absent_slot ++ fresh_slot 3 2 ∷ fresh_slot 2 1 ∷ []

abbrev is : List Slot
is = with_left 2 absent_slot ∷ with_left 2 (fresh_slot 1 3) ∷ fresh_slot 2 4 ∷ replicate 3 absent_slot ++ pinned (fresh_slot 3 2) ∷ pended (fresh_slot 2 1) ∷ []

pub changed-alone : change_lines was is ≡ slot_line 1 (with_left 2 (fresh_slot 1 3)) ++ slot_line 6 (pinned (fresh_slot 3 2)) ++ slot_line 7 (pended (fresh_slot 2 1))
unfolding open-lines
changed-alone = refl

pub unchanged : change_lines was was ≡ []
unfolding open-lines
unchanged = refl

-- BEHIND THE SETUP: where there was none, each present slot is told
pub first-told : (n : ℕ) (s : Slot) → absent s ≡ false → change_line n absent_slot s ≡ slot_line n s
unfolding open-lines
first-told n s e =
    let f : eqb 0 s.kind ≡ false = swap s.kind e in
    rw (e, f)
  where
    swap : (k : ℕ) → eqb k 0 ≡ false → eqb 0 k ≡ false
    swap zero h = absurd (false≢true (sym h))
    swap (suc k) h = ne_eqb 0 (suc k) (λ e. omega arith)
