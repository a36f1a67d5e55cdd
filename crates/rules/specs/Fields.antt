-- A slot and a sensor with some of their fields replaced: what the other files say by name.
-- Assumes nothing.
use Rattle.std.specs.Prelude.{ℕ, Bool, false, List}
use Rattle.rules.specs.declared.Phase.{Phase}
use Rattle.rules.specs.declared.Slot.{Slot}
use Rattle.rules.specs.declared.Older.{Older}
use Rattle.rules.specs.declared.Sensor.{Sensor}

unfoldable pub lasts : Bool → Older → Older
lasts p x = record { permanent = p; lasting = x.lasting; pin = x.pin }

unfoldable pub to_last : Bool → Older → Older
to_last l x = record { permanent = x.permanent; lasting = l; pin = x.pin }

unfoldable pub with_pin : Bool → Older → Older
with_pin on x = record { permanent = x.permanent; lasting = x.lasting; pin = on }

unfoldable pub in_phase : Phase → Slot → Slot
in_phase p s = record { kind = s.kind; length = s.length; left = s.left; half = s.half; counter = s.counter; protection = s.protection; coming = s.coming; voltage = s.voltage; phase = p; latch = s.latch; marks = s.marks; place = s.place; sensor = s.sensor; old = s.old }

unfoldable pub at_counter : ℕ → Slot → Slot
at_counter n s = record { kind = s.kind; length = s.length; left = s.left; half = s.half; counter = n; protection = s.protection; coming = s.coming; voltage = s.voltage; phase = s.phase; latch = s.latch; marks = s.marks; place = s.place; sensor = s.sensor; old = s.old }

unfoldable pub in_half : ℕ → Slot → Slot
in_half h s = record { kind = s.kind; length = s.length; left = s.left; half = h; counter = s.counter; protection = s.protection; coming = s.coming; voltage = s.voltage; phase = s.phase; latch = s.latch; marks = s.marks; place = s.place; sensor = s.sensor; old = s.old }

unfoldable pub with_left : ℕ → Slot → Slot
with_left n s = record { kind = s.kind; length = s.length; left = n; half = s.half; counter = s.counter; protection = s.protection; coming = s.coming; voltage = s.voltage; phase = s.phase; latch = s.latch; marks = s.marks; place = s.place; sensor = s.sensor; old = s.old }

unfoldable pub protecting : List Bool → Slot → Slot
protecting p s = record { kind = s.kind; length = s.length; left = s.left; half = s.half; counter = s.counter; protection = p; coming = s.coming; voltage = s.voltage; phase = s.phase; latch = s.latch; marks = s.marks; place = s.place; sensor = s.sensor; old = s.old }

-- what is to come: a protection, and whether it will be permanent
unfoldable pub to_come : List Bool → Bool → Slot → Slot
to_come p l s = record { kind = s.kind; length = s.length; left = s.left; half = s.half; counter = s.counter; protection = s.protection; coming = p; voltage = s.voltage; phase = s.phase; latch = s.latch; marks = s.marks; place = s.place; sensor = s.sensor; old = to_last l s.old }

-- a protection, which will not be
unfoldable pub expecting : List Bool → Slot → Slot
expecting p s = record { kind = s.kind; length = s.length; left = s.left; half = s.half; counter = s.counter; protection = s.protection; coming = p; voltage = s.voltage; phase = s.phase; latch = s.latch; marks = s.marks; place = s.place; sensor = s.sensor; old = to_last false s.old }

unfoldable pub with_voltage : Bool → Slot → Slot
with_voltage v s = record { kind = s.kind; length = s.length; left = s.left; half = s.half; counter = s.counter; protection = s.protection; coming = s.coming; voltage = v; phase = s.phase; latch = s.latch; marks = s.marks; place = s.place; sensor = s.sensor; old = s.old }

unfoldable pub latched : List ℕ → List Bool → Slot → Slot
latched l m s = record { kind = s.kind; length = s.length; left = s.left; half = s.half; counter = s.counter; protection = s.protection; coming = s.coming; voltage = s.voltage; phase = s.phase; latch = l; marks = m; place = s.place; sensor = s.sensor; old = s.old }

unfoldable pub placed : ℕ → Slot → Slot
placed n s = record { kind = s.kind; length = s.length; left = s.left; half = s.half; counter = s.counter; protection = s.protection; coming = s.coming; voltage = s.voltage; phase = s.phase; latch = s.latch; marks = s.marks; place = n; sensor = s.sensor; old = s.old }

unfoldable pub with_sensor : Sensor → Slot → Slot
with_sensor x s = record { kind = s.kind; length = s.length; left = s.left; half = s.half; counter = s.counter; protection = s.protection; coming = s.coming; voltage = s.voltage; phase = s.phase; latch = s.latch; marks = s.marks; place = s.place; sensor = x; old = s.old }

unfoldable pub with_old : Older → Slot → Slot
with_old x s = record { kind = s.kind; length = s.length; left = s.left; half = s.half; counter = s.counter; protection = s.protection; coming = s.coming; voltage = s.voltage; phase = s.phase; latch = s.latch; marks = s.marks; place = s.place; sensor = s.sensor; old = x }

unfoldable pub pointing : ℕ → Sensor → Sensor
pointing n x = record { pointer = n; configuration = x.configuration; high = x.high; low = x.low; critical = x.critical; temperature = x.temperature; resolution = x.resolution; timeout = x.timeout; word = x.word; pending = x.pending }

unfoldable pub with_configuration : ℕ → Sensor → Sensor
with_configuration v x = record { pointer = x.pointer; configuration = v; high = x.high; low = x.low; critical = x.critical; temperature = x.temperature; resolution = x.resolution; timeout = x.timeout; word = x.word; pending = x.pending }

unfoldable pub with_high : ℕ → Sensor → Sensor
with_high v x = record { pointer = x.pointer; configuration = x.configuration; high = v; low = x.low; critical = x.critical; temperature = x.temperature; resolution = x.resolution; timeout = x.timeout; word = x.word; pending = x.pending }

unfoldable pub with_low : ℕ → Sensor → Sensor
with_low v x = record { pointer = x.pointer; configuration = x.configuration; high = x.high; low = v; critical = x.critical; temperature = x.temperature; resolution = x.resolution; timeout = x.timeout; word = x.word; pending = x.pending }

unfoldable pub with_critical : ℕ → Sensor → Sensor
with_critical v x = record { pointer = x.pointer; configuration = x.configuration; high = x.high; low = x.low; critical = v; temperature = x.temperature; resolution = x.resolution; timeout = x.timeout; word = x.word; pending = x.pending }

unfoldable pub with_temperature : ℕ → Sensor → Sensor
with_temperature v x = record { pointer = x.pointer; configuration = x.configuration; high = x.high; low = x.low; critical = x.critical; temperature = v; resolution = x.resolution; timeout = x.timeout; word = x.word; pending = x.pending }

unfoldable pub with_resolution : ℕ → Sensor → Sensor
with_resolution v x = record { pointer = x.pointer; configuration = x.configuration; high = x.high; low = x.low; critical = x.critical; temperature = x.temperature; resolution = v; timeout = x.timeout; word = x.word; pending = x.pending }

unfoldable pub with_timeout : ℕ → Sensor → Sensor
with_timeout v x = record { pointer = x.pointer; configuration = x.configuration; high = x.high; low = x.low; critical = x.critical; temperature = x.temperature; resolution = x.resolution; timeout = v; word = x.word; pending = x.pending }

unfoldable pub with_word : ℕ → Sensor → Sensor
with_word v x = record { pointer = x.pointer; configuration = x.configuration; high = x.high; low = x.low; critical = x.critical; temperature = x.temperature; resolution = x.resolution; timeout = x.timeout; word = v; pending = x.pending }

unfoldable pub with_pending : Bool → Sensor → Sensor
with_pending on x = record { pointer = x.pointer; configuration = x.configuration; high = x.high; low = x.low; critical = x.critical; temperature = x.temperature; resolution = x.resolution; timeout = x.timeout; word = x.word; pending = on }

-- what the slot's exchange with its sensor holds
unfoldable pub holding : ℕ → Slot → Slot
holding v s = with_sensor (with_word v s.sensor) s
