-- One whole plan, computed: every byte of the buffer, for a slot of two ticks that stands in half 1, with a page to be written in each half.
-- Assumes nothing.
use Rattle.std.proofs.Common.{Ok}
use Prim.Native.Nat.{ℕ}
use mathlib.Core.Path.{◌≡◌, refl}
use mathlib.Core.List.{List, [], ◌∷◌, ◌++◌}
use lib.ListN.{replicate}
use Rattle.rules.specs.declared.Bus.{Bus}
use Rattle.rules.specs.Fields.{in_half}
use Rattle.rules.specs.Fresh.{fresh_slot, absent_slot}
use Rattle.plan_rules.specs.Plan.{plan_of}
use Rattle.plan_rules.proofs.Tables.{open-plan}

-- a memory in slot 2, all FFh, and a sensor in slot 5; the bytes of the others are 00h
abbrev bus : Bus
bus = record { slots = absent_slot ∷ absent_slot ∷ in_half 1 (fresh_slot 1 2) ∷ absent_slot ∷ absent_slot ∷ fresh_slot 2 5 ∷ absent_slot ∷ absent_slot ∷ [] }

abbrev memory : List ℕ
memory = replicate 1024 0x00 ++ replicate 512 0xFF ++ replicate 2560 0x00

-- the image differs in the page at 030h and in the last page, at 1F0h; the last byte of each is FFh as before
abbrev image : List ℕ
image =
    replicate 48 0xFF
    ++ 0x00 ∷ 0x01 ∷ 0x02 ∷ 0x03 ∷ 0x04 ∷ 0x05 ∷ 0x06 ∷ 0x07 ∷ 0x08 ∷ 0x09 ∷ 0x0A ∷ 0x0B ∷ 0x0C ∷ 0x0D ∷ 0x0E ∷ 0xFF ∷ []
    ++ replicate 432 0xFF
    ++ 0xF0 ∷ 0xF1 ∷ 0xF2 ∷ 0xF3 ∷ 0xF4 ∷ 0xF5 ∷ 0xF6 ∷ 0xF7 ∷ 0xF8 ∷ 0xF9 ∷ 0xFA ∷ 0xFB ∷ 0xFC ∷ 0xFD ∷ 0xFE ∷ 0xFF ∷ []

-- records as bytes: kind, slot, value
abbrev start : List ℕ
start = 1 ∷ 0 ∷ 0 ∷ 0 ∷ []

abbrev byte : ℕ → List ℕ
byte b = 2 ∷ 0 ∷ 0 ∷ b ∷ []

abbrev stop : List ℕ
stop = 4 ∷ 0 ∷ 0 ∷ 0 ∷ []

abbrev tick : List ℕ
tick = 6 ∷ 0 ∷ 0 ∷ 0 ∷ []

pub whole-plan : plan_of bus memory (record { 0 = 2 }) image (replicate 4096 0xEE) ≡ (
  Ok 55,
  tick ++ tick ++ tick ++ tick ++ tick
      ++ start ++ byte 0x6C ++ stop
      ++ start ++ byte 0xA4 ++ byte 0x30
      ++ byte 0x00 ++ byte 0x01 ++ byte 0x02 ++ byte 0x03 ++ byte 0x04 ++ byte 0x05 ++ byte 0x06 ++ byte 0x07
      ++ byte 0x08 ++ byte 0x09 ++ byte 0x0A ++ byte 0x0B ++ byte 0x0C ++ byte 0x0D ++ byte 0x0E ++ byte 0xFF
      ++ stop ++ tick ++ tick
      ++ start ++ byte 0x6E ++ stop
      ++ start ++ byte 0xA4 ++ byte 0xF0
      ++ byte 0xF0 ++ byte 0xF1 ++ byte 0xF2 ++ byte 0xF3 ++ byte 0xF4 ++ byte 0xF5 ++ byte 0xF6 ++ byte 0xF7
      ++ byte 0xF8 ++ byte 0xF9 ++ byte 0xFA ++ byte 0xFB ++ byte 0xFC ++ byte 0xFD ++ byte 0xFE ++ byte 0xFF
      ++ stop ++ tick ++ tick
      ++ replicate 3876 0xEE,
)
unfolding open-plan
whole-plan = refl
