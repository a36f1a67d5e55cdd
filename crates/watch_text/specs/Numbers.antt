-- Every number of a slot, in the order of its line. A later request puts its numbers behind the last.
-- Assumes nothing.
use Rattle.std.specs.Prelude.{ℕ, ◌-◌, Bool, cond, List, [], ◌∷◌, ◌++◌, map, length, replicate}
use Rattle.rules.specs.declared.Older.{Older}
use Rattle.rules.specs.declared.Phase.{Phase}
use Rattle.rules.specs.declared.Phase.TheVariants.{Idle, Control, Deaf, MemoryCounter, MemoryData, MemoryRead, HalfSelected, CommandAddress, CommandData, CommandStop, SensorPointer, SensorHigh, SensorLow, SensorReadHigh, SensorReadLow}
use Rattle.rules.specs.declared.Sensor.{Sensor}
use Rattle.rules.specs.declared.Slot.{Slot}
use Rattle.rules.specs.Modelled.{sensing, older}
use Rattle.rules.specs.Pin.{asserted, level_of}

-- what is on or off is 1 or 0
unfoldable pub bit : Bool → ℕ
bit b = cond b 1 0

-- a phase is its place among the phases
unfoldable pub phase_number : Phase → ℕ
phase_number Idle = 0
phase_number Control = 1
phase_number Deaf = 2
phase_number MemoryCounter = 3
phase_number MemoryData = 4
phase_number MemoryRead = 5
phase_number HalfSelected = 6
phase_number CommandAddress = 7
phase_number CommandData = 8
phase_number CommandStop = 9
phase_number SensorPointer = 10
phase_number SensorHigh = 11
phase_number SensorLow = 12
phase_number SensorReadHigh = 13
phase_number SensorReadLow = 14

-- those that are no arrays and not the sensor's
unfoldable pub plain_numbers : Slot → List ℕ
plain_numbers s =
    s.kind ∷ s.length ∷ s.left ∷ s.half ∷ s.counter ∷ s.place ∷ bit s.voltage ∷ phase_number s.phase ∷ []

unfoldable pub sensor_numbers : Sensor → List ℕ
sensor_numbers x =
    x.pointer ∷ x.configuration ∷ x.high ∷ x.low ∷ x.critical ∷ x.temperature ∷ x.resolution ∷ x.timeout ∷ x.word ∷ []

-- "`asserted=`, `level=` and `pending=`, each 0 or 1"
unfoldable pub pin_numbers : Sensor → List ℕ
pin_numbers x = bit (asserted x) ∷ bit (level_of x) ∷ bit x.pending ∷ []

-- an older module's: whether its protection is permanent, whether what is to come will be, and its write-protect pin
unfoldable pub older_numbers : Older → List ℕ
older_numbers x = bit x.permanent ∷ bit x.lasting ∷ bit x.pin ∷ []

-- those that a slot has by its kind: the EVENT pin's "at the end of a sensor's line", an older module's at the end of its own, and in no other
unfoldable pub kind_numbers : Slot → List ℕ
kind_numbers s = cond (sensing s) (pin_numbers s.sensor) (cond (older s) (older_numbers s.old) [])

-- all: protection and what is coming block by block, the page latch byte by byte, and which of its bytes were written; those of its kind behind the
-- others
unfoldable pub numbers_of : Slot → List ℕ
numbers_of s =
    plain_numbers s ++ (map bit s.protection ++ (map bit s.coming ++ (s.latch ++ (map bit s.marks ++ (sensor_numbers s.sensor
    ++ kind_numbers s)))))

-- numbers with noughts behind them, so that there are as many whatever a slot's kind: three of its kind, and sixty in all
unfoldable pub three : List ℕ → List ℕ
three ns = ns ++ replicate (3 - length ns) 0

unfoldable pub sixty : List ℕ → List ℕ
sixty ns = ns ++ replicate (60 - length ns) 0
