-- Document 01, "Sensor", with request P7's rounding: registers, what a write keeps, what a temperature does. A signed number is a ℤ, in sixteenths
-- of a degree.
-- Assumes nothing.
use Rattle.std.specs.Prelude.{ℕ, ◌+◌, ◌-◌, ◌/◌, ◌%◌, Bool, true, false, cond, ◌||◌, ltb, eqb, ℤ, pos, negsuc, ◌+ℤ◌, ◌-ℤ◌, ◌*ℤ◌}
use Rattle.std.specs.Int.Bits.{bit_and, bit_or}
use Rattle.std.specs.Int.Signed.{lt_z, le_z, shr_z}
use Rattle.rules.specs.declared.Sensor.{Sensor}
use Rattle.rules.specs.Fields.{with_configuration, with_high, with_low, with_critical, with_temperature, with_resolution, with_timeout}

-- "Registers, 16 bits [..]: 00h capability 00EFh; 01h configuration; 02h high; 03h low; 04h critical; 05h temperature; 06h 104Ah; 07h 2201h; 08h
-- resolution [..]; 09h timeout"
unfoldable pub register_of : Sensor → ℕ → ℕ
register_of x p =
    cond (eqb p 0x00) 0x00EF
    (cond (eqb p 0x01) x.configuration
    (cond (eqb p 0x02) x.high
    (cond (eqb p 0x03) x.low
    (cond (eqb p 0x04) x.critical
    (cond (eqb p 0x05) x.temperature
    (cond (eqb p 0x06) 0x104A
    (cond (eqb p 0x07) 0x2201
    (cond (eqb p 0x08) x.resolution
    (cond (eqb p 0x09) x.timeout
    0x0000)))))))))

-- "Kept bits: 01h 07CFh; limits 1FFCh; 08h 0003h; 09h 0001h."
abbrev pub configuration_bits : ℕ
configuration_bits = 0x07CF

abbrev pub limit_bits : ℕ
limit_bits = 0x1FFC

abbrev pub resolution_bits : ℕ
resolution_bits = 0x0003

abbrev pub timeout_bits : ℕ
timeout_bits = 0x0001

-- "Configuration: [..] 8 shutdown; 7 locks register 04h; 6 locks 02h and 03h."
unfoldable pub shut_down : Sensor → Bool
shut_down x = eqb (x.configuration / 256 % 2) 1

unfoldable pub critical_locked : ℕ → Bool
critical_locked c = eqb (c / 128 % 2) 1

unfoldable pub limits_locked : ℕ → Bool
limits_locked c = eqb (c / 64 % 2) 1

-- "Locks hold until power is cycled; the other may still be set. While either lock was set before a write, bits 10:9 and 3:0 keep, and bit 8 can
-- only be cleared."
unfoldable pub locked_write : ℕ → ℕ → ℕ
locked_write old v = bit_or (bit_or (bit_and old 0x060F) (bit_and (bit_and old v) 0x0100)) (bit_and (bit_or old v) 0x00C0)

unfoldable pub configured : ℕ → ℕ → ℕ
configured old v = cond (critical_locked old || limits_locked old) (locked_write old v) (bit_and v configuration_bits)

-- a write of v to register p: "00h, 05h, 06h, 07h and locked registers ignore writes, yet acknowledge."
unfoldable pub written : Sensor → ℕ → ℕ → Sensor
written x p v =
    cond (eqb p 0x01) (with_configuration (configured x.configuration v) x)
    (cond (eqb p 0x02) (cond (limits_locked x.configuration) x (with_high (bit_and v limit_bits) x))
    (cond (eqb p 0x03) (cond (limits_locked x.configuration) x (with_low (bit_and v limit_bits) x))
    (cond (eqb p 0x04) (cond (critical_locked x.configuration) x (with_critical (bit_and v limit_bits) x))
    (cond (eqb p 0x08) (with_resolution (bit_and v resolution_bits) x)
    (cond (eqb p 0x09) (with_timeout (bit_and v timeout_bits) x)
    x)))))

-- "Bits 12:0 hold t in two's complement; limits are read so too."
unfoldable pub bits_of : ℤ → ℕ
bits_of (pos n) = n % 8192
bits_of (negsuc n) = 8191 - n % 8192

unfoldable pub signed_of : ℕ → ℤ
signed_of v = cond (ltb (v % 8192) 4096) (pos (v % 8192)) (negsuc (8191 - v % 8192))

-- "Resolution 0..3 means steps of 8, 4, 2, 1 sixteenths"
unfoldable pub step_of : ℕ → ℕ
step_of r = cond (eqb r 0) 8 (cond (eqb r 1) 4 (cond (eqb r 2) 2 1))

-- Request P7, "Rounding of temperature", in the place of document 01's "the value t is the greatest multiple not above the given one". Around the
-- given number stand "the multiple below" (shr_z divides and rounds down; a multiple stands below itself) and the one above.
unfoldable pub multiple_below : ℕ → ℤ → ℤ
multiple_below step given = shr_z given step *ℤ pos step

unfoldable pub multiple_above : ℕ → ℤ → ℤ
multiple_above step given = multiple_below step given +ℤ pos step

-- "Newer sensors round to the nearest step, halves upward": the one below where it is nearer, else the one above. That this is the nearest of all
-- multiples, and that no other number is, is proved: proofs/Registers/Rounding.
unfoldable pub nearest_of : ℕ → ℤ → ℤ
nearest_of step given =
    cond (lt_z (given -ℤ multiple_below step given) (multiple_above step given -ℤ given)) (multiple_below step given) (multiple_above step given)

-- "the value t", of which the flags below are judged
unfoldable pub stepped_of : Sensor → ℤ → ℤ
stepped_of x given = nearest_of (step_of x.resolution) given

-- "bits 10:9 hysteresis h = 0, 24, 48, 96 sixteenths"
unfoldable pub hysteresis_of : ℕ → ℕ
hysteresis_of c =
    cond (eqb (c / 512 % 4) 0) 0 (cond (eqb (c / 512 % 4) 1) 24 (cond (eqb (c / 512 % 4) 2) 48 96))

-- a limit less h
unfoldable pub lowered_of : Sensor → ℕ → ℤ
lowered_of x limit = signed_of limit -ℤ pos (hysteresis_of x.configuration)

-- "otherwise each stays"
unfoldable pub flag_of : Bool → Bool → Bool → Bool
flag_of set cleared was = cond set true (cond cleared false was)

-- "Flags: bit 15 is set when t >= critical and cleared when t < critical - h"
unfoldable pub critical_flag : Sensor → ℤ → Bool
critical_flag x t = flag_of (le_z (signed_of x.critical) t) (lt_z t (lowered_of x x.critical)) (eqb (x.temperature / 32768 % 2) 1)

-- "bit 14 is set when t > high and cleared when t <= high - h"
unfoldable pub high_flag : Sensor → ℤ → Bool
high_flag x t = flag_of (lt_z (signed_of x.high) t) (le_z t (lowered_of x x.high)) (eqb (x.temperature / 16384 % 2) 1)

-- "bit 13 is set when t < low - h and cleared when t >= low"
unfoldable pub low_flag : Sensor → ℤ → Bool
low_flag x t = flag_of (lt_z t (lowered_of x x.low)) (le_z (signed_of x.low) t) (eqb (x.temperature / 8192 % 2) 1)

unfoldable pub reading : Sensor → ℤ → ℕ
reading x t = cond (critical_flag x t) 32768 0 + cond (high_flag x t) 16384 0 + cond (low_flag x t) 8192 0 + bits_of t

-- "A temperature event converts at once unless shut down; in shutdown it changes nothing."
unfoldable pub converted : Sensor → ℤ → Sensor
converted x given = cond (shut_down x) x (with_temperature (reading x (stepped_of x given)) x)
