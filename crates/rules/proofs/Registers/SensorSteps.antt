-- What can happen to a slot's sensor: a relation that each change of a sensor respects is respected by every step of the slot, save power, and by every run of such steps.
-- Assumes nothing.
use mathlib.Core.Path.{◌≡◌, refl, sym, ◌∙◌}
use mathlib.Core.Bool.{Bool, true, false, false≢true, not, ◌&&◌}
use mathlib.Core.List.{List, [], ◌∷◌}
use Prim.Native.Nat.{ℕ, ◌+◌, ◌*◌, ◌/◌}
use borrow.Author.Tests.{not-true}
use lib.Bits.{bit_and}
use lib.Dec.{eqb, leb}
use lib.IntN.{ℤ}
use Rattle.std.specs.List.{list_all}
use Rattle.proof_lists.specs.Tests.{cond_cases, and_left, and_right}
use Rattle.rules.specs.declared.Act.{Act}
use Rattle.rules.specs.declared.Applied.TheVariants.{Voltage, Temperature, WriteProtect}
use Rattle.rules.specs.declared.Act.TheVariants.{Start, Byte, Read, Stop, Timeout, Tick, Power, Apply}
use Rattle.rules.specs.declared.Heard.{Heard}
use Rattle.rules.specs.declared.Heard.TheVariants as heard
use Rattle.rules.specs.declared.Phase.{Phase}
use Rattle.rules.specs.declared.Phase.TheVariants.{Idle, Control, Deaf, MemoryCounter, MemoryData, MemoryRead, HalfSelected, CommandAddress, CommandData, CommandStop, SensorPointer, SensorHigh, SensorLow, SensorReadHigh, SensorReadLow}
use Rattle.rules.specs.declared.Sensor.{Sensor}
use Rattle.rules.specs.declared.Slot.{Slot}
use Rattle.rules.specs.Control.{acks_control, obeyed, heard_by}
use Rattle.rules.specs.Fields.{with_sensor, pointing, with_word, with_configuration, with_high, with_low, with_critical, with_resolution, with_timeout, with_pending}
use Rattle.rules.specs.Fresh.{fresh_sensor, fresh_slot, powered}
use Rattle.rules.specs.Memory.{guarded, any_mark, pin_on}
use Rattle.rules.specs.Open.{open-fields, open-memory, open-control, open-slot}
use Rattle.rules.specs.Sensor.{limit_bits, resolution_bits, timeout_bits, critical_locked, limits_locked, configured, written, converted}
use Rattle.rules.specs.Modelled.{older}
use Rattle.rules.specs.Pin.{written_with_pin, converted_with_pin}
use Rattle.rules.specs.Runs.{slot_after}
use Rattle.rules.specs.Power.{power_cut}
use Rattle.rules.specs.Slot.{standing, commanding, let_go, lost, byte_in, read_in, stop_in, present_next, slot_next, switched, applied, shielded, endures}
use Rattle.rules.proofs.Run.Cases.{next-cases, heated-cases, let-go-cases}

-- a write replaces one register, no locked one, or changes nothing
pub written-cases : (P : Sensor → Type 0) (x : Sensor) (p v : ℕ)
    → P x
    → P (with_configuration (configured x.configuration v) x)
    → (limits_locked x.configuration ≡ false → P (with_high (bit_and v limit_bits) x))
    → (limits_locked x.configuration ≡ false → P (with_low (bit_and v limit_bits) x))
    → (critical_locked x.configuration ≡ false → P (with_critical (bit_and v limit_bits) x))
    → P (with_resolution (bit_and v resolution_bits) x)
    → P (with_timeout (bit_and v timeout_bits) x)
    → P (written x p v)
unfolding written
written-cases P x p v same configuration high low critical resolution timeout =
    cond_cases P (eqb p 0x01) (λ e. configuration)
    (λ e. cond_cases P (eqb p 0x02) (λ e. cond_cases P (limits_locked x.configuration) (λ e. same) high)
    (λ e. cond_cases P (eqb p 0x03) (λ e. cond_cases P (limits_locked x.configuration) (λ e. same) low)
    (λ e. cond_cases P (eqb p 0x04) (λ e. cond_cases P (critical_locked x.configuration) (λ e. same) critical)
    (λ e. cond_cases P (eqb p 0x08) (λ e. resolution)
    (λ e. cond_cases P (eqb p 0x09) (λ e. timeout)
    (λ e. same))))))

-- a relation that does not look at what is pending goes by document 01's write and conversion alone
module _ (R : Sensor → Sensor → Type 0) (joined : (x y z : Sensor) → R x y → R y z → R x z) (pinned : (on : Bool) (x : Sensor) → R x (with_pending on x)) where
  pub wrote : (x : Sensor) (p v : ℕ) → R x (written x p v) → R x (written_with_pin x p v)
  unfolding written_with_pin
  wrote x p v f = joined x (written x p v) _ f (pinned _ (written x p v))

  pub sensed : (x : Sensor) (t : ℤ) → R x (converted x t) → R x (converted_with_pin x t)
  unfolding converted_with_pin
  sensed x t f = joined x (converted x t) _ f (pinned _ (converted x t))

-- R x y relates the sensor x to the sensor y that it becomes: every change that an exchange makes respects it, also one after another
pub record Respected (R : Sensor → Sensor → Type 0) : Type 0 where
  pub same : (x : Sensor) → R x x
  pub joined : (x y z : Sensor) → R x y → R y z → R x z
  pub worded : (v : ℕ) (x : Sensor) → R x (with_word v x)
  pub pointed : (b : ℕ) (x : Sensor) → leb b 0x09 ≡ true → R x (pointing b x)
  pub writes : (x : Sensor) (p v : ℕ) → R x (written_with_pin x p v)

unfoldable pub is_power : Act → Bool
is_power Start = false
is_power (Byte b) = false
is_power (Read more) = false
is_power Stop = false
is_power Timeout = false
is_power Tick = false
is_power (Power k) = true
is_power (Apply k x) = false

unfoldable pub is_heat : Act → Bool
is_heat Start = false
is_heat (Byte b) = false
is_heat (Read more) = false
is_heat Stop = false
is_heat Timeout = false
is_heat Tick = false
is_heat (Power k) = false
is_heat (Apply k (Voltage on)) = false
is_heat (Apply k (Temperature t)) = true
is_heat (Apply k (WriteProtect on)) = false

unfoldable pub without_power : List Act → Bool
without_power r = list_all (λ a. not (is_power a)) r

-- what no exchange changes of a sensor but the word that it holds: what a slot lets go, what the ACK of a control byte does, reads and stops
module _ (R : Sensor → Sensor → Type 0) (same : (x : Sensor) → R x x) (worded : (v : ℕ) (x : Sensor) → R x (with_word v x)) where
  -- from the slot s to the slot t
  abbrev Goes : Slot → Slot → Type 0
  Goes s t = R s.sensor t.sensor

  still : (s : Slot) → Goes s s
  still s = same s.sensor

  -- what an exchange lets go of the sensor is the word it held
  pub gone : (p : Phase) (s : Slot) → Goes s (let_go p s)
  unfolding open-fields open-memory
  gone p s = let-go-cases (Goes s) p s (worded 0x0000 s.sensor) (still s) (still s) (still s)

  pub obeyed-goes : (h : Heard) (s : Slot) → Goes s (obeyed h s)
  unfolding open-fields obeyed
  obeyed-goes (heard.Memory k false) s = still s
  obeyed-goes (heard.Memory k true) s = still s
  obeyed-goes (heard.Sensor k false) s = still s
  obeyed-goes (heard.Sensor k true) s = worded _ s.sensor
  obeyed-goes (heard.Protect k) s = still s
  obeyed-goes heard.ClearAll s = still s
  obeyed-goes (heard.ReadProtection k) s = still s
  obeyed-goes (heard.SelectHalf h) s = still s
  obeyed-goes heard.ReadHalf s = still s
  obeyed-goes heard.ProtectForEver s = still s
  obeyed-goes heard.Nothing s = still s

  pub read_goes : (p : Phase) (more : Bool) (s : Slot) → Goes s (read_in p more s)
  unfolding open-fields open-memory open-slot
  read_goes Idle more s = still s
  read_goes Control more s = still s
  read_goes Deaf more s = still s
  read_goes MemoryCounter more s = gone MemoryCounter s
  read_goes MemoryData more s = gone MemoryData s
  read_goes MemoryRead more s = still s
  read_goes HalfSelected more s = gone HalfSelected s
  read_goes CommandAddress more s = gone CommandAddress s
  read_goes CommandData more s = gone CommandData s
  read_goes CommandStop more s = gone CommandStop s
  read_goes SensorPointer more s = gone SensorPointer s
  read_goes SensorHigh more s = gone SensorHigh s
  read_goes SensorLow more s = gone SensorLow s
  read_goes SensorReadHigh more s = cond_cases (Goes s) more (λ e. still s) (λ e. gone SensorReadHigh s)
  read_goes SensorReadLow more s = gone SensorReadLow s

  pub stop_goes : (p : Phase) (s : Slot) → Goes s (stop_in p s)
  unfolding open-fields open-memory open-slot
  stop_goes Idle s = still s
  stop_goes Control s = still s
  stop_goes Deaf s = still s
  stop_goes MemoryCounter s = still s
  stop_goes MemoryData s = cond_cases (Goes s) (any_mark s.marks) (λ e. still s) (λ e. still s)
  stop_goes MemoryRead s = still s
  stop_goes HalfSelected s = still s
  stop_goes CommandAddress s = gone CommandAddress s
  stop_goes CommandData s = gone CommandData s
  stop_goes CommandStop s = cond_cases (Goes s) (pin_on s) (λ e. still s) (λ e. still s)
  stop_goes SensorPointer s = gone SensorPointer s
  stop_goes SensorHigh s = gone SensorHigh s
  stop_goes SensorLow s = gone SensorLow s
  stop_goes SensorReadHigh s = gone SensorReadHigh s
  stop_goes SensorReadLow s = gone SensorReadLow s

module _ (R : Sensor → Sensor → Type 0) (every : Respected R) where
  abbrev Becomes : Slot → Slot → Type 0
  Becomes s t = R s.sensor t.sensor

  as_is : (s : Slot) → Becomes s s
  as_is s = every.same s.sensor

  leaves : (p : Phase) (s : Slot) → Becomes s (let_go p s)
  leaves = gone R every.same every.worded

  byte-goes : (p : Phase) (n b : ℕ) (s : Slot) → Becomes s (byte_in p n b s)
  unfolding open-fields open-memory open-slot open-control
  byte-goes Idle n b s = as_is s
  byte-goes Control n b s = cond_cases (Becomes s) (acks_control n b s) (λ e. obeyed-goes R every.same every.worded (heard_by n b s) s) (λ e. as_is s)
  byte-goes Deaf n b s = as_is s
  byte-goes MemoryCounter n b s = as_is s
  byte-goes MemoryData n b s = cond_cases (Becomes s) (guarded s) (λ e. as_is s) (λ e. as_is s)
  byte-goes MemoryRead n b s = leaves MemoryRead s
  byte-goes HalfSelected n b s = as_is s
  byte-goes CommandAddress n b s = as_is s
  byte-goes CommandData n b s = as_is s
  byte-goes CommandStop n b s = leaves CommandStop s
  byte-goes SensorPointer n b s =
      cond_cases (Becomes s) (leb b 0x09) (λ e. every.pointed b s.sensor e) (λ e. leaves SensorPointer s)
  byte-goes SensorHigh n b s = every.worded (b * 256) s.sensor
  byte-goes SensorLow n b s =
      let p = s.sensor.pointer in
      let v = s.sensor.word / 256 * 256 + b in
      let x = written_with_pin s.sensor p v in
      every.joined s.sensor x _ (every.writes s.sensor p v) (leaves SensorLow (with_sensor x s))
  byte-goes SensorReadHigh n b s = leaves SensorReadHigh s
  byte-goes SensorReadLow n b s = leaves SensorReadLow s

  present-goes : (n : ℕ) (a : Act) (s : Slot) → (is_power a ≡ true → R s.sensor fresh_sensor) → ((t : ℤ) → is_heat a ≡ true → R s.sensor (converted_with_pin s.sensor t))
      → Becomes s (present_next n a s)
  unfolding is_power is_heat present_next applied switched shielded power_cut powered fresh_slot lost open-fields open-memory
  present-goes n Start s fresh hot = leaves (standing s) s
  present-goes n (Byte b) s fresh hot = byte-goes (standing s) n b s
  present-goes n (Read more) s fresh hot = read_goes R every.same every.worded (standing s) more s
  present-goes n Stop s fresh hot = stop_goes R every.same every.worded (standing s) s
  present-goes n Timeout s fresh hot = leaves (standing s) s
  present-goes n Tick s fresh hot = cond_cases (Becomes s) (eqb s.left 1) (λ e. as_is s) (λ e. as_is s)
  present-goes n (Power k) s fresh hot = fresh refl
  present-goes n (Apply k (Voltage on)) s fresh hot =
      cond_cases (Becomes s) (eqb k.0 n)
      (λ e. cond_cases (Becomes s) (commanding (standing s) && s.voltage && not on && not (endures s)) (λ e. leaves (standing s) s) (λ e. as_is s))
      (λ e. as_is s)
  present-goes n (Apply k (Temperature t)) s fresh hot =
      cond_cases (Becomes s) (eqb k.0 n) (λ e. heated-cases (Becomes s) t s (hot t refl) (as_is s)) (λ e. as_is s)
  present-goes n (Apply k (WriteProtect on)) s fresh hot =
      cond_cases (Becomes s) (eqb k.0 n) (λ e. cond_cases (Becomes s) (older s) (λ e. as_is s) (λ e. as_is s)) (λ e. as_is s)

  -- power puts the sensor at its defaults, and a temperature converts: what these must respect is asked of the caller
  pub step-respects : (n : ℕ) (a : Act) (s : Slot) → (is_power a ≡ true → R s.sensor fresh_sensor) → ((t : ℤ) → is_heat a ≡ true → R s.sensor (converted_with_pin s.sensor t))
      → R s.sensor (slot_next n a s).sensor
  step-respects n a s fresh hot = next-cases (Becomes s) n a s (λ e. as_is s) (λ e. present-goes n a s fresh hot)

  module _ (converts : (x : Sensor) (t : ℤ) → R x (converted_with_pin x t)) where
    pub step-without-power : (n : ℕ) (a : Act) (s : Slot) → is_power a ≡ false → R s.sensor (slot_next n a s).sensor
    step-without-power n a s h = step-respects n a s (λ e. absurd (false≢true (sym h ∙ e))) (λ t e. converts s.sensor t)

    pub run-without-power : (n : ℕ) (r : List Act) (s : Slot) → without_power r ≡ true → R s.sensor (slot_after n r s).sensor
    unfolding slot_after without_power
    run-without-power n [] s h = as_is s
    run-without-power n (a ∷ r) s h =
        let t = slot_next n a s in
        every.joined s.sensor t.sensor (slot_after n r t).sensor
        (step-without-power n a s (not-true (is_power a) (and_left (not (is_power a)) (without_power r) h)))
        (run-without-power n r t (and_right (not (is_power a)) (without_power r) h))

-- "Only it [a temperature event] and power change 05h; a write to a limit doesn't."
abbrev Cool : Sensor → Sensor → Type 0
Cool x y = y.temperature ≡ x.temperature

cool : Respected Cool
unfolding open-fields
cool = record { same = λ x. refl; joined = λ x y z f g. g ∙ f; worded = λ v x. refl; pointed = λ b x l. refl; writes = cool-writes }
  where
    cool-writes : (x : Sensor) (p v : ℕ) → Cool x (written_with_pin x p v)
    cool-writes x p v = wrote Cool (λ x y z f g. g ∙ f) (λ on x. refl) x p v (written-cases (Cool x) x p v refl refl (λ e. refl) (λ e. refl) (λ e. refl) refl refl)

pub only-heat-and-power : (n : ℕ) (a : Act) (s : Slot) → is_power a ≡ false → is_heat a ≡ false → (slot_next n a s).sensor.temperature ≡ s.sensor.temperature
only-heat-and-power n a s p h = step-respects Cool cool n a s (λ e. absurd (false≢true (sym p ∙ e))) (λ t e. absurd (false≢true (sym h ∙ e)))
