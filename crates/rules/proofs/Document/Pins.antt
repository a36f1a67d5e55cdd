-- Request P8 held against the law: its sentences as tables, over every configuration and every set of flags. Each theorem of the tables computes.
-- Assumes nothing.
use Prim.Native.Nat.{ℕ, ◌-◌}
use mathlib.Core.Path.{◌≡◌, refl}
use mathlib.Core.Bool.{Bool, true, false, not, ◌&&◌, ◌||◌}
use mathlib.Core.List.{List, [], ◌∷◌, ◌++◌, map}
use lib.IntN.{ℤ, pos}
use lib.ListN.{replicate}
use Rattle.rules.specs.declared.Sensor.{Sensor}
use Rattle.rules.specs.Fields.{with_configuration, with_high, with_low, with_critical, with_temperature, with_pending}
use Rattle.rules.specs.Fresh.{fresh_sensor}
use Rattle.rules.specs.Open.{open-all}
use Rattle.rules.specs.Pin.{pin_enabled, critical_alone, active_high, interrupting, critical_set, high_set, low_set, flag_counts, asserted, level_of, can_pend, changes, clearing, converted_with_pin, written_with_pin, read_of}
use Rattle.rules.specs.Sensor.{written, converted}

-- a sensor with a configuration, flags, and a change pending or not
abbrev sensor : ℕ → ℕ → Bool → Sensor
sensor c flags on = with_pending on (with_temperature flags (with_configuration c fresh_sensor))

-- bits 3:0 of the configuration; flags as 05h has them: none, low, high, both, and the same with critical
abbrev configurations : List ℕ
configurations = 0x0 ∷ 0x1 ∷ 0x2 ∷ 0x3 ∷ 0x4 ∷ 0x5 ∷ 0x6 ∷ 0x7 ∷ 0x8 ∷ 0x9 ∷ 0xA ∷ 0xB ∷ 0xC ∷ 0xD ∷ 0xE ∷ 0xF ∷ []

abbrev flagged : List ℕ
flagged = 0x0000 ∷ 0x2000 ∷ 0x4000 ∷ 0x6000 ∷ 0x8000 ∷ 0xA000 ∷ 0xC000 ∷ 0xE000 ∷ []

abbrev never : List Bool
never = replicate 8 false

abbrev any_flag : List Bool
any_flag = false ∷ replicate 7 true

abbrev critical_only : List Bool
critical_only = replicate 4 false ++ replicate 4 true

-- which bit each of these looks at, and at no other: with one bit set, and with one bit clear
abbrev bits : List ℕ
bits = 0x0001 ∷ 0x0002 ∷ 0x0004 ∷ 0x0008 ∷ 0x0010 ∷ 0x0020 ∷ 0x0040 ∷ 0x0080 ∷ 0x0100 ∷ 0x0200 ∷ 0x0400 ∷ 0x0800 ∷ 0x1000 ∷ 0x2000 ∷ 0x4000 ∷ 0x8000 ∷ []

abbrev tests : List (ℕ → Bool)
tests = interrupting ∷ active_high ∷ critical_alone ∷ pin_enabled ∷ clearing ∷ low_set ∷ high_set ∷ critical_set ∷ []

abbrev only : Bool → ℕ → List Bool
only b n = replicate n (not b) ++ b ∷ replicate (15 - n) (not b)

pub one-bit-set : map (λ (f : ℕ → Bool). map f bits) tests ≡ map (only true) (0 ∷ 1 ∷ 2 ∷ 3 ∷ 5 ∷ 13 ∷ 14 ∷ 15 ∷ [])
unfolding open-all
one-bit-set = refl

pub one-bit-clear : map (λ (f : ℕ → Bool). map (λ n. f (0xFFFF - n)) bits) tests ≡ map (only false) (0 ∷ 1 ∷ 2 ∷ 3 ∷ 5 ∷ 13 ∷ 14 ∷ 15 ∷ [])
unfolding open-all
one-bit-clear = refl

-- "Configuration bit 3 enables the pin, bit 2 limits it to the critical flag, [..] bit 0 at 1 selects interrupt mode. Comparator mode: asserted while
-- a flag that counts is set. [..] the critical flag keeps comparator behaviour": with nothing pending
pub asserts : map (λ c. map (λ w. asserted (sensor c w false)) flagged) configurations
    ≡ replicate 8 never ++ any_flag ∷ critical_only ∷ any_flag ∷ critical_only ∷ replicate 4 critical_only
unfolding open-all
asserts = refl

-- "Interrupt mode: a change of the high or low flag asserts it": one is pending, whatever the flags are now
pub asserts-pending : map (λ c. map (λ w. asserted (sensor c w true)) flagged) (0x9 ∷ 0xB ∷ []) ≡ replicate 2 (replicate 8 true)
unfolding open-all
asserts-pending = refl

-- "bit 1 at 1 makes it active high": the level, true for high; not asserted, disabled too, it is the other one
pub levels : map (λ c. map (λ w. level_of (sensor c w false)) (0x0000 ∷ 0x8000 ∷ [])) (0x8 ∷ 0xA ∷ 0x9 ∷ 0xB ∷ 0x0 ∷ 0x2 ∷ [])
    ≡ (true ∷ false ∷ []) ∷ (false ∷ true ∷ []) ∷ (true ∷ false ∷ []) ∷ (false ∷ true ∷ []) ∷ (true ∷ true ∷ []) ∷ (false ∷ false ∷ []) ∷ []
unfolding open-all
levels = refl

-- "A change is pending only while the pin is enabled in interrupt mode with bit 2 at 0", whatever the other bits
pub pendings : map can_pend configurations ≡ replicate 9 false ++ true ∷ false ∷ true ∷ replicate 4 false
unfolding open-all
pendings = refl

pub pendings-else : map can_pend (0x07C9 ∷ 0x07CB ∷ 0x07C6 ∷ []) ≡ true ∷ true ∷ false ∷ []
unfolding open-all
pendings-else = refl

-- "a change of the high or low flag": set or cleared, one or both; the critical flag and the number are none
pub changed : map (λ (p : ℕ × ℕ). changes p.0 p.1)
    ((0x0000, 0x4000) ∷ (0x4000, 0x0000) ∷ (0x0000, 0x2000) ∷ (0x2000, 0x0000) ∷ (0x2000, 0x4000) ∷ (0x6000, 0x0000) ∷ (0x0000, 0x8000) ∷ (0x8000, 0x0000) ∷ (0x4190, 0xC514) ∷ (0x7D80, 0x6000) ∷ [])
    ≡ replicate 6 true ++ replicate 4 false
unfolding open-all
changed = refl

-- a sensor with high 1280, low 256 and critical 1600 in interrupt mode, and the flags before: what is pending behind a temperature. "the critical flag"
-- alone brings nothing; in shutdown nothing converts; in another mode nothing pends; what is pending stays, though the flags change back
abbrev limited : ℕ → ℕ → Bool → Sensor
limited c flags on = with_high 0x0500 (with_low 0x0100 (with_critical 0x0640 (sensor c flags on)))

abbrev warmed : ℕ → ℕ → Bool → List Bool
warmed c flags on = map (λ t. (converted_with_pin (limited c flags on) t).pending) (pos 200 ∷ pos 400 ∷ pos 1300 ∷ pos 1700 ∷ [])

pub brought : warmed 0x9 0x0000 false ∷ warmed 0x9 0x4000 false ∷ warmed 0x9 0x2000 false ∷ warmed 0xB 0xC000 false ∷ warmed 0x0109 0x0000 false ∷ warmed 0x8 0x0000 false ∷ warmed 0x1 0x0000 false ∷ warmed 0xD 0x0000 false ∷ warmed 0x9 0x4000 true ∷ warmed 0x0109 0x4000 true ∷ []
    ≡ (true ∷ false ∷ true ∷ true ∷ []) ∷ (true ∷ true ∷ false ∷ false ∷ []) ∷ (false ∷ true ∷ true ∷ true ∷ []) ∷ (true ∷ true ∷ false ∷ false ∷ [])
    ∷ replicate 4 (replicate 4 false) ++ replicate 2 (replicate 4 true)
unfolding open-all
brought = refl

-- "until a write with bit 5 set"; "A change is pending only while [..]": a word written to 01h over 0009h, with a change pending, and then the
-- configuration and what is pending. Bit 4 is not kept and drops nothing; bit 5 may come with other bits
abbrev rewritten : ℕ → ℕ → ℕ × Bool
rewritten c v = let x = written_with_pin (sensor c 0x0000 true) 0x01 v in (x.configuration, x.pending)

pub writes : map (rewritten 0x0009) (0x0009 ∷ 0x0029 ∷ 0x0020 ∷ 0x002B ∷ 0x000B ∷ 0x0019 ∷ 0x0109 ∷ 0x0008 ∷ 0x0001 ∷ 0x000D ∷ 0x0000 ∷ [])
    ≡ (0x0009, true) ∷ (0x0009, false) ∷ (0x0000, false) ∷ (0x000B, false) ∷ (0x000B, true) ∷ (0x0009, true) ∷ (0x0109, true) ∷ (0x0008, false) ∷ (0x0001, false) ∷ (0x000D, false) ∷ (0x0000, false) ∷ []
unfolding open-all
writes = refl

-- under either lock bits 3:0 keep, so that only bit 5 drops it ("bit 5 is not among the bits that keep")
pub writes-locked : map (λ c. map (rewritten c) (0x0000 ∷ 0x0008 ∷ 0x000D ∷ 0x0020 ∷ 0x0029 ∷ [])) (0x0049 ∷ 0x0089 ∷ [])
    ≡ map (λ c. (c, true) ∷ (c, true) ∷ (c, true) ∷ (c, false) ∷ (c, false) ∷ []) (0x0049 ∷ 0x0089 ∷ [])
unfolding open-all
writes-locked = refl

-- a write to another register drops nothing, whatever bit 5 of its word
pub writes-elsewhere : map (λ p. (written_with_pin (sensor 0x0009 0x0000 true) p 0x0020).pending) (0x00 ∷ 0x02 ∷ 0x03 ∷ 0x04 ∷ 0x05 ∷ 0x06 ∷ 0x07 ∷ 0x08 ∷ 0x09 ∷ []) ≡ replicate 9 true
unfolding open-all
writes-elsewhere = refl

-- "Bit 5 reads 0 and bit 4 reads whether the pin is asserted", whatever bit 1 is; the other registers read as they stand
pub reads : map (λ x. read_of x 0x01) (sensor 0x0008 0x2000 false ∷ sensor 0x000A 0x2000 false ∷ sensor 0x0008 0x0000 false ∷ sensor 0x000A 0x0000 false ∷ sensor 0x0009 0x0000 true ∷ sensor 0x0007 0xE000 false ∷ sensor 0x07CF 0x8000 false ∷ sensor 0x07CF 0x6000 false ∷ [])
    ≡ 0x0018 ∷ 0x001A ∷ 0x0008 ∷ 0x000A ∷ 0x0019 ∷ 0x0007 ∷ 0x07DF ∷ 0x07CF ∷ []
unfolding open-all
reads = refl

pub reads-elsewhere : map (read_of (sensor 0x0009 0xE190 true)) (0x00 ∷ 0x02 ∷ 0x03 ∷ 0x04 ∷ 0x05 ∷ 0x06 ∷ 0x07 ∷ 0x08 ∷ 0x09 ∷ [])
    ≡ 0x00EF ∷ 0x0000 ∷ 0x0000 ∷ 0x0000 ∷ 0xE190 ∷ 0x104A ∷ 0x2201 ∷ 0x0001 ∷ 0x0001 ∷ []
unfolding open-all
reads-elsewhere = refl

-- For every sensor: the two modes, and the pin disabled.
module _ (x : Sensor) where
  pub comparator : interrupting x.configuration ≡ false → asserted x ≡ (pin_enabled x.configuration && flag_counts x)
  unfolding asserted
  comparator e = rw e

  pub interrupt : interrupting x.configuration ≡ true → asserted x ≡ (pin_enabled x.configuration && (x.pending || critical_set x.temperature))
  unfolding asserted
  interrupt e = rw e

  pub disabled : pin_enabled x.configuration ≡ false → asserted x ≡ false
  unfolding asserted
  disabled e = rw e

  -- no other register moves: a write and a temperature do what document 01 says, and the rest is what is pending
  pub written-else : (p v : ℕ) (on : Bool) → with_pending on (written_with_pin x p v) ≡ with_pending on (written x p v)
  unfolding written_with_pin with_pending
  written-else p v on = refl

  pub converted-else : (t : ℤ) (on : Bool) → with_pending on (converted_with_pin x t) ≡ with_pending on (converted x t)
  unfolding converted_with_pin with_pending
  converted-else t on = refl
