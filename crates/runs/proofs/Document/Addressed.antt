-- To which slot an exchange is addressed decides what demand 3 strikes out. Two exchanges that are shared, so that no slot's run loses them; each is
-- computed, with what striking it out would do to a slot that it reaches.
-- Assumes nothing.
use Prim.Native.Nat.{ℕ}
use mathlib.Core.Path.{◌≡◌, refl}
use mathlib.Core.Bool.{Bool, false, not}
use mathlib.Core.List.{List, [], ◌∷◌, ◌++◌, map}
use lib.Dec.{eqb}
use lib.ListN.{get_or, replicate}
use Rattle.rules.specs.declared.Applied.{Applied}
use Rattle.rules.specs.declared.SlotNo.{SlotNo}
use Rattle.rules.specs.declared.Cut.{Cut}
use Rattle.rules.specs.Fresh.{absent_slot}
use Rattle.rules.specs.Refusals.{setup_of}
use Rattle.rules.specs.Runs.{Bench}
use Rattle.runs.specs.Exchanges as Exchanges
use Rattle.runs.specs.Exchanges.{went, flatten, stray_byte, stray_read, stray_stop, timeout, tick, power, apply, struck_gap, struck, again, byte, Item, exchange}
use Rattle.rules.specs.Open.{open-all}

unfoldable open-items : Unit {0}
unfolding open-all Exchanges.controls Exchanges.names Exchanges.mute Exchanges.some_of Exchanges.addressed Exchanges.to_none Exchanges.to_other Exchanges.struck Exchanges.inside_act Exchanges.up_to_stop Exchanges.item_acts Exchanges.flatten Exchanges.went
open-items = tt

-- slots 0 and 1 with memory, FFh everywhere
abbrev bench : Bench
bench = record { bus = (setup_of (replicate 2 (record { kind = 1; length = 1 }) ++ replicate 6 (record { kind = 0; length = 0 }))).bus; memory = replicate 4096 0xFF }

-- half 1 and half 0 selected; A0h with 00h and then, after a repeated start, A2h with 05h
abbrev half1 : Item
half1 = exchange (byte 0x6E ∷ [])

abbrev half0 : Item
half0 = exchange (byte 0x6C ∷ [])

abbrev calls-two : Item
calls-two = exchange (byte 0xA0 ∷ byte 0x00 ∷ again ∷ byte 0xA2 ∷ byte 0x05 ∷ [])

-- after a run: slot 0's half, and slot 1's counter
abbrev half_after : List Item → ℕ
half_after is = (get_or (went (flatten is) bench).bus.slots 0 absent_slot).half

abbrev counter_after : List Item → ℕ
counter_after is = (get_or (went (flatten is) bench).bus.slots 1 absent_slot).counter

-- what must hold of an exchange that reaches slot k: it is not struck out for k, for with it and without it k ends otherwise
pub record Reaches (k : ℕ) (i : Item) (ends : List Item → ℕ) (before : List Item) (with without : ℕ) : Type 0 where
  pub kept : struck k i ≡ false
  pub done : ends (before ++ i ∷ []) ≡ with
  pub undone : ends before ≡ without

-- 6Ch is no exchange of slot 6, whose number its bits 3:1 have: slot 0 hears it, and is in half 0 again
pub command-reaches-all : Reaches 0 half0 half_after (half1 ∷ []) 0 1
unfolding open-items
command-reaches-all = record { kept = refl; done = refl; undone = refl }

-- an exchange with a second control byte for another slot is not its first one's alone: slot 1's counter is set by it
pub second-control-byte : Reaches 1 calls-two counter_after [] 0x05 0x00
unfolding open-items
second-control-byte = record { kept = refl; done = refl; undone = refl }

-- "the pin and temperature events of other slots", P9's pin among them, are struck out between exchanges, and nothing else: shared events keep their place, and so do
-- stray bytes, reads and stops, for every slot
pub between-exchanges : (s : ℕ) (k : SlotNo) (on : Bool) (j : Cut) (x : Applied)
    → map (struck_gap s) (stray_byte 0xA0 ∷ stray_read on ∷ stray_stop ∷ timeout ∷ tick ∷ power j ∷ apply k x ∷ [])
    ≡ false ∷ false ∷ false ∷ false ∷ false ∷ false ∷ not (eqb k.0 s) ∷ []
unfolding struck_gap
between-exchanges s k on j x = refl
