-- The swap is sharp: passing a shared command, a tick, a power cycle, an exchange or a temperature of its own slot changes what an exchange does.
-- Each is computed: the same two neighbours in both orders, and what differs after them.
-- Assumes nothing.
use Prim.Native.Nat.{ℕ}
use mathlib.Core.Path.{◌≡◌, refl}
use mathlib.Core.Bool.{true, false}
use mathlib.Core.List.{List, [], ◌∷◌}
use lib.IntN.{pos}
use lib.ListN.{get_or, replicate}
use Rattle.rules.specs.declared.Applied.TheVariants.{Temperature}
use Rattle.rules.specs.declared.Answer.{Answer}
use Rattle.rules.specs.declared.Answer.TheVariants.{Nothing, Ack, Data}
use Rattle.rules.specs.Fresh.{absent_slot}
use Rattle.rules.specs.Refusals.{setup_of}
use Rattle.rules.specs.Runs.{Bench}
use Rattle.runs.specs.Exchanges.{went, told, inside_act, gap_act, up_to_stop, item_acts, flatten, controls, names, some_of, addressed, own, own_told, again, byte, read, Item, exchange, between, tick, power, apply}
use Rattle.rules.specs.Open.{open-all}

-- slot 0 with memory and sensor, its cycle a tick long, and FFh everywhere
abbrev bench : Bench
bench = record { bus = (setup_of (record { kind = 2; length = 1 } ∷ replicate 7 (record { kind = 0; length = 0 }))).bus; memory = replicate 4096 0xFF }

-- an exchange of slot 0: write 5Ah at a place; another; its sensor's register 05h read
abbrev writes : ℕ → Item
writes at = exchange (byte 0xA0 ∷ byte at ∷ byte 0x5A ∷ [])

abbrev points : ℕ → Item
points at = exchange (byte 0xA0 ∷ byte at ∷ [])

abbrev reads : Item
reads = exchange (byte 0x30 ∷ byte 0x05 ∷ again ∷ byte 0x31 ∷ read true ∷ read false ∷ [])

abbrev half1 : Item
half1 = exchange (byte 0x6E ∷ [])

-- after a run: the byte at a place of the memory, and slot 0's counter
abbrev byte_at : ℕ → List Item → ℕ
byte_at at is = get_or (went (flatten is) bench).memory at 0

abbrev counter_after : List Item → ℕ
counter_after is = (get_or (went (flatten is) bench).bus.slots 0 absent_slot).counter

-- a shared command: the byte lands in another half
pub past-a-command : (byte_at 0 (writes 0 ∷ half1 ∷ between tick ∷ []) ≡ 0x5A) × (byte_at 0 (half1 ∷ writes 0 ∷ between tick ∷ []) ≡ 0xFF)
unfolding open-all went flatten item_acts up_to_stop inside_act gap_act
past-a-command = (refl, refl)

-- a tick: the cycle is over, or runs still
pub past-a-tick : (byte_at 0 (writes 0 ∷ between tick ∷ []) ≡ 0x5A) × (byte_at 0 (between tick ∷ writes 0 ∷ []) ≡ 0xFF)
unfolding open-all went flatten item_acts up_to_stop inside_act gap_act
past-a-tick = (refl, refl)

-- a power cycle: the counter is 0, or where the exchange put it; and its number counts: the byte is stored, or lost
abbrev lost : ℕ → Item
lost n = between (power (record { 0 = n }))

pub past-a-power-cycle : (counter_after (points 5 ∷ lost 0 ∷ []) ≡ 0) × (counter_after (lost 0 ∷ points 5 ∷ []) ≡ 5)
unfolding open-all went flatten item_acts up_to_stop inside_act gap_act
past-a-power-cycle = (refl, refl)

pub the-number-counts : (byte_at 0 (writes 0 ∷ lost 1 ∷ []) ≡ 0x5A) × (byte_at 0 (writes 0 ∷ lost 0 ∷ []) ≡ 0xFF) × (byte_at 0 (lost 1 ∷ writes 0 ∷ []) ≡ 0xFF)
unfolding open-all went flatten item_acts up_to_stop inside_act gap_act
the-number-counts = (refl, refl, refl)

-- an exchange of the same slot
pub past-its-own : (counter_after (points 5 ∷ points 6 ∷ []) ≡ 6) × (counter_after (points 6 ∷ points 5 ∷ []) ≡ 5)
unfolding open-all went flatten item_acts up_to_stop inside_act gap_act
past-its-own = (refl, refl)

-- a temperature of the same slot: its own exchange gets another answer
abbrev shows : ℕ → ℕ → List (List Answer)
shows high low = (Nothing ∷ Ack ∷ Ack ∷ Nothing ∷ Ack ∷ Data high ∷ Data low ∷ Nothing ∷ []) ∷ []

abbrev warm : Item
warm = between (apply (record { 0 = 0 }) (Temperature (pos 400)))

pub past-its-temperature : (own_told 0 (reads ∷ warm ∷ []) bench ≡ shows 0x00 0x00) × (own_told 0 (warm ∷ reads ∷ []) bench ≡ shows 0xC1 0x90)
unfolding open-all went told own_told own addressed some_of names controls flatten item_acts up_to_stop inside_act gap_act
past-its-temperature = (refl, refl)
