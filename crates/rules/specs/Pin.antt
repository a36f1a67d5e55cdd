-- Request P8, "The EVENT pin": when it is asserted, its level, a change that is pending, and what registers 01h and 05h have to do with it. "New
-- part, for kind 2 slots": a slot of another kind has none, and in it nothing is ever pending.
-- Assumes nothing.
use Rattle.std.specs.Prelude.{ℕ, ◌/◌, ◌%◌, Bool, not, cond, ◌&&◌, ◌||◌, eqb, ℤ}
use Rattle.std.specs.Int.Bits.{bit_or}
use Rattle.rules.specs.declared.Pin.{Pin}
use Rattle.rules.specs.declared.Sensor.{Sensor}
use Rattle.rules.specs.Fields.{with_pending}
use Rattle.rules.specs.Sensor.{register_of, configured, written, converted}

-- "Configuration bit 3 enables the pin, bit 2 limits it to the critical flag, bit 1 at 1 makes it active high, bit 0 at 1 selects interrupt mode."
unfoldable pub pin_enabled : ℕ → Bool
pin_enabled c = eqb (c / 8 % 2) 1

unfoldable pub critical_alone : ℕ → Bool
critical_alone c = eqb (c / 4 % 2) 1

unfoldable pub active_high : ℕ → Bool
active_high c = eqb (c / 2 % 2) 1

unfoldable pub interrupting : ℕ → Bool
interrupting c = eqb (c % 2) 1

-- the flags of register 05h: "bit 15", "bit 14", "bit 13" of document 01
unfoldable pub critical_set : ℕ → Bool
critical_set w = eqb (w / 32768 % 2) 1

unfoldable pub high_set : ℕ → Bool
high_set w = eqb (w / 16384 % 2) 1

unfoldable pub low_set : ℕ → Bool
low_set w = eqb (w / 8192 % 2) 1

-- "a flag that counts is set": any of the three, or with bit 2 at 1 the critical flag alone
unfoldable pub flag_counts : Sensor → Bool
flag_counts x =
    critical_set x.temperature || not (critical_alone x.configuration) && (high_set x.temperature || low_set x.temperature)

-- "Comparator mode: asserted while a flag that counts is set. Interrupt mode: a change of the high or low flag asserts it until a write with bit 5
-- set; the critical flag keeps comparator behaviour." "disabled means not asserted"
unfoldable pub asserted : Sensor → Bool
asserted x =
    pin_enabled x.configuration && cond (interrupting x.configuration) (x.pending || critical_set x.temperature) (flag_counts x)

-- the level, whether it is high: "bit 1 at 1 makes it active high", at 0 it is active low; not asserted, disabled too, it is the other one
unfoldable pub level_of : Sensor → Bool
level_of x = cond (asserted x) (active_high x.configuration) (not (active_high x.configuration))

unfoldable pub pin_of : Sensor → Pin
pin_of x = record { asserted = asserted x; level = level_of x }

-- "A change is pending only while the pin is enabled in interrupt mode with bit 2 at 0"
unfoldable pub can_pend : ℕ → Bool
can_pend c = pin_enabled c && interrupting c && not (critical_alone c)

-- "a change of the high or low flag": bits 14 and 13 of register 05h are not, after a conversion, what they were before it
unfoldable pub changes : ℕ → ℕ → Bool
changes before after = not (eqb (before / 8192 % 4) (after / 8192 % 4))

-- a conversion: a change is pending from then on, if one can be; what was pending stays, whatever the flags do
unfoldable pub converted_with_pin : Sensor → ℤ → Sensor
converted_with_pin x given =
    with_pending (x.pending || can_pend x.configuration && changes x.temperature (converted x given).temperature) (converted x given)

-- "a write with bit 5 set"
unfoldable pub clearing : ℕ → Bool
clearing v = eqb (v / 32 % 2) 1

-- a write of v to register p: one to 01h leaves a change pending only if it has not bit 5 set and one can be pending behind it
unfoldable pub pending_after : Sensor → ℕ → ℕ → Bool
pending_after x p v = cond (eqb p 0x01) (x.pending && can_pend (configured x.configuration v) && not (clearing v)) x.pending

unfoldable pub written_with_pin : Sensor → ℕ → ℕ → Sensor
written_with_pin x p v = with_pending (pending_after x p v) (written x p v)

-- what register p reads: "Bit 5 reads 0 and bit 4 reads whether the pin is asserted (saved as 0); a write cannot set it." (Neither is among the kept
-- bits, 07CFh.)
unfoldable pub read_of : Sensor → ℕ → ℕ
read_of x p = cond (eqb p 0x01 && asserted x) (bit_or x.configuration 0x0010) (register_of x p)
