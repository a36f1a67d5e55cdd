-- Nothing of the memory looks at the sensor: what a slot is but for its sensor, and its bytes, after any run, whatever registers, pin and pending
-- change it began with.
-- Assumes nothing.
use Prim.Native.Nat.{ℕ}
use mathlib.Core.Path.{◌≡◌, refl, ◌∙◌, ap}
use mathlib.Core.Bool.{Bool, true, false, not, cond, ◌&&◌}
use mathlib.Core.List.{List, [], ◌∷◌}
use lib.Dec.{eqb, leb}
use Rattle.rules.specs.declared.Act.{Act}
use Rattle.rules.specs.declared.Applied.{Applied}
use Rattle.rules.specs.declared.Applied.TheVariants.{Voltage, Temperature, WriteProtect}
use Rattle.rules.specs.declared.Act.TheVariants.{Start, Byte, Read, Stop, Timeout, Tick, Power, Apply}
use Rattle.rules.specs.declared.Heard.{Heard}
use Rattle.rules.specs.declared.Heard.TheVariants as heard
use Rattle.rules.specs.declared.Phase.{Phase}
use Rattle.rules.specs.declared.Phase.TheVariants.{Idle, Control, Deaf, MemoryCounter, MemoryData, MemoryRead, HalfSelected, CommandAddress, CommandData, CommandStop, SensorPointer, SensorHigh, SensorLow, SensorReadHigh, SensorReadLow}
use Rattle.rules.specs.declared.Sensor.{Sensor}
use Rattle.rules.specs.declared.Slot.{Slot}
use Rattle.rules.specs.Control.{acks_heard, acks_control, obeyed, controlled, protects, heard_by, older_command}
use Rattle.rules.specs.Fields.{in_phase, with_voltage, with_sensor}
use Rattle.rules.specs.Fresh.{fresh_slot, powered}
use Rattle.rules.specs.Memory.{guarded, any_mark, ended, stored, ticked_part, pin_on}
use Rattle.rules.specs.Modelled.{absent, sensing, address_of, block_of, page_of, older}
use Rattle.rules.specs.Open.{open-fields, open-memory, open-power, open-slot}
use Rattle.rules.specs.Power.{finished}
use Rattle.rules.specs.Runs.{slot_after, part_after}
use Rattle.rules.specs.Slot.{with_sensor_in, commanding, taking, standing, let_go, lost, byte_in, read_in, stop_in, switched, heated, present_next, slot_next, part_next, applied, shielded, endures}

-- two slots that are the same but for their sensors
abbrev pub Alike : Slot → Slot → Type 0
Alike s t = (x : Sensor) → with_sensor x s ≡ with_sensor x t

-- what is done to both alike
phased : (p : Phase) (s t : Slot) → Alike s t → Alike (in_phase p s) (in_phase p t)
unfolding open-fields
phased p s t f x = ap (in_phase p) (f x)

volted : (on : Bool) (s t : Slot) → Alike s t → Alike (with_voltage on s) (with_voltage on t)
unfolding open-fields
volted on s t f x = ap (with_voltage on) (f x)

powered-alike : (s t : Slot) → Alike s t → Alike (powered s) (powered t)
unfolding powered fresh_slot open-fields
powered-alike s t f x = ap (λ (u : Slot). with_sensor x (powered u)) (f x)

module _ (y : Sensor) (s : Slot) where
  abbrev other : Slot
  other = with_sensor y s

  both_ways : (b : Bool) (p q u v : Slot) → Alike p q → Alike u v → Alike (cond b p u) (cond b q v)
  both_ways true p q u v f g = f
  both_ways false p q u v f g = g

  stands : standing other ≡ standing s
  unfolding standing absent sensing with_sensor
  stands = refl

  gone : (p : Phase) → Alike (let_go p other) (let_go p s)
  unfolding let_go open-fields open-memory
  gone p = both_ways (with_sensor_in p) _ _ _ _ (λ x. refl) (both_ways (commanding p) _ _ _ _ (λ x. refl) (both_ways (taking p) _ _ _ _ (λ x. refl) (λ x. refl)))

  acks-alike : (h : Heard) (n : ℕ) → acks_heard h n other ≡ acks_heard h n s
  unfolding acks_heard sensing protects with_sensor
  acks-alike (heard.Memory k r) n = refl
  acks-alike (heard.Sensor k r) n = refl
  acks-alike (heard.Protect k) n = refl
  acks-alike heard.ClearAll n = refl
  acks-alike (heard.ReadProtection k) n = refl
  acks-alike (heard.SelectHalf h) n = refl
  acks-alike heard.ReadHalf n = refl
  acks-alike heard.ProtectForEver n = refl
  acks-alike heard.Nothing n = refl

  obeyed-alike : (h : Heard) → Alike (obeyed h other) (obeyed h s)
  unfolding obeyed open-fields
  obeyed-alike (heard.Memory k false) x = refl
  obeyed-alike (heard.Memory k true) x = refl
  obeyed-alike (heard.Sensor k false) x = refl
  obeyed-alike (heard.Sensor k true) x = refl
  obeyed-alike (heard.Protect k) x = refl
  obeyed-alike heard.ClearAll x = refl
  obeyed-alike (heard.ReadProtection k) x = refl
  obeyed-alike (heard.SelectHalf h) x = refl
  obeyed-alike heard.ReadHalf x = refl
  obeyed-alike heard.ProtectForEver x = refl
  obeyed-alike heard.Nothing x = refl

  control-alike : (n b : ℕ) → Alike (controlled n b other) (controlled n b s)
  unfolding controlled acks_control heard_by older_command older open-fields
  control-alike n b = rw (acks-alike (heard_by n b s) n) (both_ways (eqb s.left 0 && acks_heard (heard_by n b s) n s) _ _ _ _ (obeyed-alike (heard_by n b s)) (λ x. refl))

  byte-alike : (p : Phase) (n b : ℕ) → Alike (byte_in p n b other) (byte_in p n b s)
  unfolding open-slot open-fields open-memory guarded pin_on older address_of block_of protects
  byte-alike Idle n b x = refl
  byte-alike Control n b x = control-alike n b x
  byte-alike Deaf n b x = refl
  byte-alike MemoryCounter n b x = refl
  byte-alike MemoryData n b x = both_ways (guarded s) _ _ _ _ (λ x. refl) (λ x. refl) x
  byte-alike MemoryRead n b x = refl
  byte-alike HalfSelected n b x = refl
  byte-alike CommandAddress n b x = refl
  byte-alike CommandData n b x = refl
  byte-alike CommandStop n b x = refl
  byte-alike SensorPointer n b x = both_ways (leb b 0x09) _ _ _ _ (λ x. refl) (λ x. refl) x
  byte-alike SensorHigh n b x = refl
  byte-alike SensorLow n b x = refl
  byte-alike SensorReadHigh n b x = refl
  byte-alike SensorReadLow n b x = refl

  read_alike : (p : Phase) (more : Bool) → Alike (read_in p more other) (read_in p more s)
  unfolding open-slot open-fields open-memory
  read_alike Idle more x = refl
  read_alike Control more x = refl
  read_alike Deaf more x = refl
  read_alike MemoryCounter more x = refl
  read_alike MemoryData more x = refl
  read_alike MemoryRead more x = refl
  read_alike HalfSelected more x = refl
  read_alike CommandAddress more x = refl
  read_alike CommandData more x = refl
  read_alike CommandStop more x = refl
  read_alike SensorPointer more x = refl
  read_alike SensorHigh more x = refl
  read_alike SensorLow more x = refl
  read_alike SensorReadHigh more x = both_ways more _ _ _ _ (λ x. refl) (λ x. refl) x
  read_alike SensorReadLow more x = refl

  stop-alike : (p : Phase) → Alike (stop_in p other) (stop_in p s)
  unfolding open-slot open-fields open-memory pin_on older
  stop-alike Idle x = refl
  stop-alike Control x = refl
  stop-alike Deaf x = refl
  stop-alike MemoryCounter x = refl
  stop-alike MemoryData x = both_ways (any_mark s.marks) _ _ _ _ (λ x. refl) (λ x. refl) x
  stop-alike MemoryRead x = refl
  stop-alike HalfSelected x = refl
  stop-alike CommandAddress x = refl
  stop-alike CommandData x = refl
  stop-alike CommandStop x = both_ways (pin_on s) _ _ _ _ (λ x. refl) (λ x. refl) x
  stop-alike SensorPointer x = refl
  stop-alike SensorHigh x = refl
  stop-alike SensorLow x = refl
  stop-alike SensorReadHigh x = refl
  stop-alike SensorReadLow x = refl

  applied-alike : (z : Applied) → Alike (applied z other) (applied z s)
  unfolding applied switched heated shielded endures lost standing absent sensing older open-fields
  applied-alike (Voltage on) x =
      let going : Bool = commanding (standing s) && s.voltage && not on && not (endures s) in
      let lose : Slot → Slot = λ t. cond going (lost (standing s) t) t in
      volted on (lose other) (lose s) (both_ways going _ _ other s (phased Deaf (let_go (standing s) other) (let_go (standing s) s) (gone (standing s))) (λ x. refl)) x
  applied-alike (Temperature t) x = both_ways (eqb s.kind 2) _ _ _ _ (λ x. refl) (λ x. refl) x
  applied-alike (WriteProtect on) x = both_ways (eqb s.kind 3) _ _ _ _ (λ x. refl) (λ x. refl) x

  present-alike : (n : ℕ) (a : Act) → Alike (present_next n a other) (present_next n a s)
  unfolding present_next standing lost open-fields open-memory open-power absent sensing older
  present-alike n Start x = phased Control (let_go (standing s) other) (let_go (standing s) s) (gone (standing s)) x
  present-alike n (Byte b) x = byte-alike (standing s) n b x
  present-alike n (Read more) x = read_alike (standing s) more x
  present-alike n Stop x = phased Idle (stop_in (standing s) other) (stop_in (standing s) s) (stop-alike (standing s)) x
  present-alike n Timeout x = phased Idle (let_go (standing s) other) (let_go (standing s) s) (gone (standing s)) x
  present-alike n Tick x = both_ways (eqb s.left 1) _ _ _ _ (λ x. refl) (λ x. refl) x
  present-alike n (Power k) x = powered-alike (cond (finished k s) (ended other) other) (cond (finished k s) (ended s) s) (both_ways (finished k s) _ _ other s (λ x. refl) (λ x. refl)) x
  present-alike n (Apply k y) x = both_ways (eqb k.0 n) _ _ _ _ (applied-alike y) (λ x. refl) x

  pub next-alike : (n : ℕ) (a : Act) → Alike (slot_next n a other) (slot_next n a s)
  unfolding slot_next absent with_sensor
  next-alike n a = both_ways (eqb s.kind 0) _ _ _ _ (λ x. refl) (present-alike n a)

  pub part-alike : (a : Act) (m : List ℕ) → part_next a other m ≡ part_next a s m
  unfolding part_next ticked_part open-power stored address_of page_of absent with_sensor open-fields
  part-alike Start m = refl
  part-alike (Byte b) m = refl
  part-alike (Read more) m = refl
  part-alike Stop m = refl
  part-alike Timeout m = refl
  part-alike Tick m = refl
  part-alike (Power k) m = refl
  part-alike (Apply k x) m = refl

-- so it is over any run: the same slot with the sensor that it then has, and the same bytes
again : (s t : Slot) → Alike s t → s ≡ with_sensor s.sensor t
unfolding with_sensor
again s t f = f s.sensor

pub slot_apart : (n : ℕ) (r : List Act) (y : Sensor) (s : Slot) → Alike (slot_after n r (with_sensor y s)) (slot_after n r s)
unfolding slot_after
slot_apart n [] y s x = unfold with_sensor in refl
slot_apart n (a ∷ r) y s x =
    let t = slot_next n a (with_sensor y s) in
    ap (λ (u : Slot). with_sensor x (slot_after n r u)) (again t (slot_next n a s) (next-alike y s n a)) ∙ slot_apart n r t.sensor (slot_next n a s) x

pub part_apart : (n : ℕ) (r : List Act) (y : Sensor) (s : Slot) (m : List ℕ) → part_after n r (with_sensor y s) m ≡ part_after n r s m
unfolding part_after
part_apart n [] y s m = refl
part_apart n (a ∷ r) y s m =
    let t = slot_next n a (with_sensor y s) in
    ap (λ (u : Slot). part_after n r u (part_next a (with_sensor y s) m)) (again t (slot_next n a s) (next-alike y s n a))
    ∙ part_apart n r t.sensor (slot_next n a s) (part_next a (with_sensor y s) m)
    ∙ ap (part_after n r (slot_next n a s)) (part-alike y s a m)
