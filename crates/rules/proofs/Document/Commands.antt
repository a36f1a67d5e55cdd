-- Document 01's table of control bytes: what each byte asks for, which slot acknowledges it, and what the ACK does. The families for every byte,
-- the 0110 rows one by one; each table computes.
-- Assumes nothing.
use Prim.Native.Nat.{ℕ, ◌/◌, ◌%◌}
use native.Mathlib.Omega.{arith}
use mathlib.Core.Path.{◌≡◌, refl}
use mathlib.Core.Bool.{Bool, true, false, not, ◌&&◌, and-false}
use mathlib.Core.List.{List, [], ◌∷◌, map}
use lib.Dec.{eqb}
use lib.ListN.{get_or, set}
use borrow.Author.Tests.{eq-eqb, ne_eqb}
use Rattle.rules.specs.declared.BlockNo.{BlockNo}
use Rattle.rules.specs.declared.Heard.TheVariants.{Memory, Sensor, Protect, ClearAll, ReadProtection, SelectHalf, ReadHalf, Nothing}
use Rattle.rules.specs.declared.Phase.TheVariants.{Deaf, MemoryCounter, MemoryRead, HalfSelected, CommandAddress, SensorPointer, SensorReadHigh}
use Rattle.rules.specs.declared.Slot.{Slot}
use Rattle.rules.specs.declared.SlotNo.{SlotNo}
use Rattle.rules.specs.Modelled.{sensing, older}
use Rattle.rules.specs.Open.{open-all}
use Rattle.rules.specs.Fields.{in_phase, in_half, with_left, protecting, expecting, with_voltage, holding}
use Rattle.rules.specs.Fresh.{fresh_slot}
use Rattle.rules.specs.Pin.{read_of}
use Rattle.rules.specs.Control.{select_of, is_read, command_of, heard_of, acks_heard, acks_control, obeyed, controlled, heard_by, older_command}

-- "1010: memory; select bits must equal the slot number." "0011: sensor; the same, kind 2 slots only." "others: no slot.", for every byte
module _ (b : ℕ) where
  abbrev named : SlotNo
  named = record { 0 = b / 2 % 8 }

  pub memory-family : b / 16 ≡ 0xA → heard_of b ≡ Memory named (eqb (b % 2) 1)
  unfolding heard_of select_of is_read
  memory-family e = rw e

  pub sensor-family : b / 16 ≡ 0x3 → heard_of b ≡ Sensor named (eqb (b % 2) 1)
  unfolding heard_of select_of is_read
  sensor-family e = rw e

  pub no-family : (b / 16 ≡ 0xA → ⊥) → (b / 16 ≡ 0x3 → ⊥) → (b / 16 ≡ 0x6 → ⊥) → heard_of b ≡ Nothing
  unfolding heard_of
  no-family x y z = rw (ne_eqb (b / 16) 0xA x, ne_eqb (b / 16) 0x3 y, ne_eqb (b / 16) 0x6 z)

  -- P9: only the 0110 bytes of an older module are read otherwise
  pub heard-alike : (n : ℕ) (s : Slot) → (b / 16 ≡ 0x6 → ⊥) → heard_by n b s ≡ heard_of b
  unfolding heard_by
  heard-alike n s ne = rw (ne_eqb (b / 16) 0x6 ne, and-false (older s))

  pub newer-heard : (n : ℕ) (s : Slot) → older s ≡ false → heard_by n b s ≡ heard_of b
  unfolding heard_by
  newer-heard n s e = rw e

  pub older-heard : (n : ℕ) (s : Slot) → older s ≡ true → b / 16 ≡ 0x6 → heard_by n b s ≡ older_command n b s
  unfolding heard_by
  older-heard n s o e = rw (o, e)

  -- which slot n acknowledges them, in no write cycle
  module _ (n : ℕ) (s : Slot) (free : s.left ≡ 0) where
    pub memory-acked : b / 16 ≡ 0xA → acks_control n b s ≡ eqb (b / 2 % 8) n
    unfolding acks_control acks_heard
    memory-acked e = rw (eq-eqb s.left 0 free, heard-alike n s (λ f. omega (arith, e, f)), memory-family e)

    pub sensor-acked : b / 16 ≡ 0x3 → acks_control n b s ≡ eqb (b / 2 % 8) n && eqb s.kind 2
    unfolding acks_control acks_heard sensing
    sensor-acked e = rw (eq-eqb s.left 0 free, heard-alike n s (λ f. omega (arith, e, f)), sensor-family e)

    pub none-acked : (b / 16 ≡ 0xA → ⊥) → (b / 16 ≡ 0x3 → ⊥) → (b / 16 ≡ 0x6 → ⊥) → acks_control n b s ≡ false
    unfolding acks_control acks_heard
    none-acked x y z = rw (eq-eqb s.left 0 free, heard-alike n s z, no-family x y z)

abbrev block : ℕ → BlockNo
block n = record { 0 = n }

abbrev slot : ℕ → SlotNo
slot n = record { 0 = n }

-- the table's sixteen bytes
abbrev codes : List ℕ
codes = 0x60 ∷ 0x61 ∷ 0x62 ∷ 0x63 ∷ 0x64 ∷ 0x65 ∷ 0x66 ∷ 0x67 ∷ 0x68 ∷ 0x69 ∷ 0x6A ∷ 0x6B ∷ 0x6C ∷ 0x6D ∷ 0x6E ∷ 0x6F ∷ []

pub commands : map heard_of codes
    ≡ Protect (block 3) ∷ ReadProtection (block 3) ∷ Protect (block 0) ∷ ReadProtection (block 0) ∷ Nothing ∷ Nothing ∷ ClearAll ∷ Nothing
    ∷ Protect (block 1) ∷ ReadProtection (block 1) ∷ Protect (block 2) ∷ ReadProtection (block 2) ∷ SelectHalf 0 ∷ ReadHalf ∷ SelectHalf 1 ∷ Nothing ∷ []
unfolding open-all
commands = refl

-- the ends of the families, and their neighbours
pub families : map heard_of (0x2F ∷ 0x30 ∷ 0x31 ∷ 0x3E ∷ 0x3F ∷ 0x40 ∷ 0x5F ∷ 0x70 ∷ 0x9F ∷ 0xA0 ∷ 0xA1 ∷ 0xAE ∷ 0xAF ∷ 0xB0 ∷ [])
    ≡ Nothing ∷ Sensor (slot 0) false ∷ Sensor (slot 0) true ∷ Sensor (slot 7) false ∷ Sensor (slot 7) true ∷ Nothing ∷ Nothing ∷ Nothing ∷ Nothing
    ∷ Memory (slot 0) false ∷ Memory (slot 0) true ∷ Memory (slot 7) false ∷ Memory (slot 7) true ∷ Nothing ∷ []
unfolding open-all
families = refl

-- "ACK from a slot": a slot with its voltage, its four blocks' protection and its half
abbrev standing_at : Bool → List Bool → ℕ → Slot
standing_at voltage blocks half = in_half half (with_voltage voltage (expecting blocks (protecting blocks (fresh_slot 2 1))))

abbrev A : Bool
A = true

abbrev N : Bool
N = false

abbrev none : List Bool
none = false ∷ false ∷ false ∷ false ∷ []

abbrev outer : List Bool
outer = true ∷ false ∷ false ∷ true ∷ []

abbrev inner : List Bool
inner = false ∷ true ∷ true ∷ false ∷ []

abbrev acked : Slot → List Bool
acked s = map (λ b. acks_control 5 b s) codes

pub without-voltage-acks : acked (standing_at false none 0) ≡ N ∷ A ∷ N ∷ A ∷ N ∷ N ∷ N ∷ N ∷ N ∷ A ∷ N ∷ A ∷ A ∷ A ∷ A ∷ N ∷ []
unfolding open-all
without-voltage-acks = refl

pub with-voltage-acks : acked (standing_at true none 0) ≡ A ∷ A ∷ A ∷ A ∷ N ∷ N ∷ A ∷ N ∷ A ∷ A ∷ A ∷ A ∷ A ∷ A ∷ A ∷ N ∷ []
unfolding open-all
with-voltage-acks = refl

pub outer-protected-acks : acked (standing_at true outer 1) ≡ N ∷ N ∷ N ∷ N ∷ N ∷ N ∷ A ∷ N ∷ A ∷ A ∷ A ∷ A ∷ A ∷ N ∷ A ∷ N ∷ []
unfolding open-all
outer-protected-acks = refl

pub inner-protected-acks : acked (standing_at true inner 0) ≡ A ∷ A ∷ A ∷ A ∷ N ∷ N ∷ A ∷ N ∷ N ∷ N ∷ N ∷ N ∷ A ∷ A ∷ A ∷ N ∷ []
unfolding open-all
inner-protected-acks = refl

-- "A slot in a write cycle acknowledges none, sensor included (bench)."
pub in-cycle-acks : map (λ b. acks_control 0 b (with_left 1 (standing_at true none 0))) (0xA0 ∷ 0xA1 ∷ 0x30 ∷ 0x31 ∷ 0x66 ∷ 0x6C ∷ 0x6D ∷ []) ≡ N ∷ N ∷ N ∷ N ∷ N ∷ N ∷ N ∷ []
unfolding open-all
in-cycle-acks = refl

-- what the ACK does: the phase after each byte (slot 0, high voltage on, nothing protected)
pub phases-after : map (λ b. (controlled 0 b (standing_at true none 0)).phase) (0xA0 ∷ 0xA1 ∷ 0xA2 ∷ 0x30 ∷ 0x31 ∷ 0x32 ∷ 0x00 ∷ codes)
    ≡ MemoryCounter ∷ MemoryRead ∷ Deaf ∷ SensorPointer ∷ SensorReadHigh ∷ Deaf ∷ Deaf
    ∷ CommandAddress ∷ Deaf ∷ CommandAddress ∷ Deaf ∷ Deaf ∷ Deaf ∷ CommandAddress ∷ Deaf
    ∷ CommandAddress ∷ Deaf ∷ CommandAddress ∷ Deaf ∷ HalfSelected ∷ Deaf ∷ HalfSelected ∷ Deaf ∷ []
unfolding open-all
phases-after = refl

-- the protection that a protect or a clear will bring, and the half that is selected at once
pub brought : map (λ b. (controlled 0 b (standing_at true none 0)).coming) (0x62 ∷ 0x68 ∷ 0x6A ∷ 0x60 ∷ [])
    ≡ (true ∷ false ∷ false ∷ false ∷ []) ∷ (false ∷ true ∷ false ∷ false ∷ []) ∷ (false ∷ false ∷ true ∷ false ∷ []) ∷ (false ∷ false ∷ false ∷ true ∷ []) ∷ []
unfolding open-all
brought = refl

pub brought-beside : map (λ b. (controlled 0 b (standing_at true outer 0)).coming) (0x68 ∷ 0x66 ∷ []) ≡ (true ∷ true ∷ false ∷ true ∷ []) ∷ none ∷ []
unfolding open-all
brought-beside = refl

pub halves : map (λ b. (controlled 0 b (standing_at false none 1)).half) (0x6C ∷ 0x6E ∷ []) ≡ 0 ∷ 1 ∷ []
unfolding open-all
halves = refl

-- For every slot: "A slot that doesn't acknowledge is deaf until the next start."; an ACK does what the byte asks for
module _ (n b : ℕ) (s : Slot) where
  pub unacked-deaf : acks_control n b s ≡ false → controlled n b s ≡ in_phase Deaf s
  unfolding controlled
  unacked-deaf e = rw e

  pub acked-obeyed : acks_control n b s ≡ true → controlled n b s ≡ obeyed (heard_by n b s) s
  unfolding controlled
  acked-obeyed e = rw e

-- the ACK column, and what the ACK does, row by row for every slot n in no write cycle
module _ (n : ℕ) (s : Slot) (free : s.left ≡ 0) where
  pub acks-free : (b : ℕ) → acks_control n b s ≡ acks_heard (heard_by n b s) n s
  unfolding acks_control
  acks-free b = rw (eq-eqb s.left 0 free)

  abbrev unprotected : ℕ → Bool
  unprotected k = not (get_or s.protection k false)

  -- "62h 68h 6Ah 60h | protect block 0, 1, 2, 3 | high voltage on and block not protected"
  pub protect-acks : map (λ b. acks_heard (heard_of b) n s) (0x62 ∷ 0x68 ∷ 0x6A ∷ 0x60 ∷ []) ≡ map (λ k. s.voltage && unprotected k) (0 ∷ 1 ∷ 2 ∷ 3 ∷ [])
  unfolding open-all
  protect-acks = refl

  -- "66h | clear all four | high voltage on"
  pub clear-acks : acks_heard (heard_of 0x66) n s ≡ s.voltage
  unfolding open-all
  clear-acks = refl

  -- "63h 69h 6Bh 61h | read protection 0, 1, 2, 3 | block not protected"
  pub read-protection-acks : map (λ b. acks_heard (heard_of b) n s) (0x63 ∷ 0x69 ∷ 0x6B ∷ 0x61 ∷ []) ≡ map unprotected (0 ∷ 1 ∷ 2 ∷ 3 ∷ [])
  unfolding open-all
  read-protection-acks = refl

  -- "6Ch, 6Eh | select half 0, half 1 | always", "6Dh | read selected half | half 0 selected", "64h 65h 67h 6Fh | none | never"
  pub half-acks : map (λ b. acks_heard (heard_of b) n s) (0x6C ∷ 0x6E ∷ 0x6D ∷ 0x64 ∷ 0x65 ∷ 0x67 ∷ 0x6F ∷ []) ≡ true ∷ true ∷ eqb s.half 0 ∷ false ∷ false ∷ false ∷ false ∷ []
  unfolding open-all
  half-acks = refl

-- what an ACK does: the phase, the protection to come, the half; "Read: both bytes are fixed at the control byte's ACK"
pub obeys : (s : Slot)
    → map (λ b. obeyed (heard_of b) s) (0xA0 ∷ 0xA1 ∷ 0x30 ∷ 0x31 ∷ 0x62 ∷ 0x68 ∷ 0x6A ∷ 0x60 ∷ 0x66 ∷ 0x63 ∷ 0x69 ∷ 0x6B ∷ 0x61 ∷ 0x6C ∷ 0x6E ∷ 0x6D ∷ [])
    ≡ in_phase MemoryCounter s ∷ in_phase MemoryRead s ∷ in_phase SensorPointer s ∷ in_phase SensorReadHigh (holding (read_of s.sensor s.sensor.pointer) s)
    ∷ in_phase CommandAddress (expecting (set s.protection 0 true) s)
    ∷ in_phase CommandAddress (expecting (set s.protection 1 true) s)
    ∷ in_phase CommandAddress (expecting (set s.protection 2 true) s)
    ∷ in_phase CommandAddress (expecting (set s.protection 3 true) s)
    ∷ in_phase CommandAddress (expecting none s)
    ∷ in_phase Deaf s ∷ in_phase Deaf s ∷ in_phase Deaf s ∷ in_phase Deaf s
    ∷ in_phase HalfSelected (in_half 0 s) ∷ in_phase HalfSelected (in_half 1 s) ∷ in_phase Deaf s ∷ []
unfolding heard_of command_of select_of is_read obeyed
obeys s = refl
