-- Document 01, "Fresh state and power cycle", and what setup makes.
-- Assumes nothing.
use Rattle.std.specs.Prelude.{ℕ, Bool, false, cond, List, eqb, replicate}
use Rattle.rules.specs.declared.Phase.TheVariants.{Idle}
use Rattle.rules.specs.declared.Older.{Older}
use Rattle.rules.specs.declared.Pair.{Pair}
use Rattle.rules.specs.declared.Sensor.{Sensor}
use Rattle.rules.specs.declared.Slot.{Slot}
use Rattle.rules.specs.Fields.{in_half, at_counter, protecting, expecting, with_voltage, with_sensor, with_word, with_old}

-- "08h resolution, default 0001h; 09h timeout, default 0001h. The others start at 0000h." "Pointer after power: 00h."
unfoldable pub fresh_sensor : Sensor
fresh_sensor =
    record {
      pointer = 0x00;
      configuration = 0x0000;
      high = 0x0000;
      low = 0x0000;
      critical = 0x0000;
      temperature = 0x0000;
      resolution = 0x01;
      timeout = 0x01;
      word = 0x0000;
      pending = false;
    }

-- P9: nothing permanent, and the write-protect pin off
unfoldable pub fresh_older : Older
fresh_older = record { permanent = false; lasting = false; pin = false }

-- an empty page latch, and four blocks without protection
abbrev pub no_bytes : List ℕ
no_bytes = replicate 16 0

abbrev pub no_marks : List Bool
no_marks = replicate 16 false

abbrev pub no_blocks : List Bool
no_blocks = replicate 4 false

-- "After setup: no protection, no write cycle, selected half 0, counter 0, high voltage off, sensor at defaults, temperature register 0000h, every
-- slot idle."
unfoldable pub fresh_slot : ℕ → ℕ → Slot
fresh_slot kind length =
    record {
      kind = kind;
      length = length;
      left = 0;
      half = 0;
      counter = 0;
      protection = no_blocks;
      coming = no_blocks;
      voltage = false;
      phase = Idle;
      latch = no_bytes;
      marks = no_marks;
      place = 0;
      sensor = fresh_sensor;
      old = fresh_older;
    }

-- "the length of an absent slot is ignored and kept as 0"
unfoldable pub setup_slot : Pair → Slot
setup_slot p = fresh_slot p.kind (cond (eqb p.kind 0) 0 p.length)

unfoldable pub absent_slot : Slot
absent_slot = fresh_slot 0 0

-- "A power cycle does the same, but keeps memory, protection and the high-voltage levels." P9: permanent protection is protection, and "Power keeps
-- the pin." What it leaves of a running write cycle: specs/Power.
unfoldable pub powered : Slot → Slot
powered s =
    with_voltage s.voltage (expecting s.protection (protecting s.protection (with_old s.old (fresh_slot s.kind s.length))))

-- a slot at rest, idle and in no cycle: what it is made of, and nothing else ("every slot idle", "no write cycle")
unfoldable pub at_rest : ℕ → ℕ → ℕ → ℕ → List Bool → Bool → Sensor → Older → Slot
at_rest kind length half counter protection voltage registers old =
    in_half half (at_counter counter
    (with_voltage voltage (expecting protection (protecting protection
    (with_sensor (with_word 0x0000 registers) (with_old old (fresh_slot kind length)))))))
