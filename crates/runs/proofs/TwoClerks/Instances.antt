-- The hypotheses of demand 3 and of the swap can be met: two clerks at one bench, on raw events with rubbish among them, from setup.
-- Each instance is computed, or is the theorem applied to values that are.
-- Assumes nothing.
use Prim.Native.Nat.{ℕ, ◌+◌}
use native.Mathlib.Omega.{arith}
use mathlib.Core.Path.{◌≡◌, refl}
use mathlib.Core.Bool.{true, false}
use mathlib.Core.List.{List, [], ◌∷◌, ◌++◌}
use lib.IntN.{ℤ, pos}
use lib.ListN.{get_or, replicate}
use Rattle.rules.specs.declared.Applied.TheVariants.{Voltage, Temperature}
use Rattle.rules.specs.declared.Answer.{Answer}
use Rattle.rules.specs.declared.Answer.TheVariants.{Nothing, Ack, Data, Refused}
use Rattle.rules.specs.declared.Event.{Event}
use Rattle.rules.specs.declared.Pair.{Pair}
use Rattle.rules.specs.declared.Refusal.TheVariants.{UnknownKind, WrongSlot, WrongValue}
use Rattle.rules.specs.Runs.{Bench, after, answers}
use Rattle.runs.specs.Exchanges as Exchanges
use Rattle.runs.specs.Exchanges.{Inside, Item, exchange, between, again, byte, read, tick, controls, addressed, own_told, apply}
use Rattle.rules.specs.Open.{open-all}
use Rattle.runs.proofs.TwoClerks.Demand3.{Parts, slot, Same, begun, demand3-from-setup}
use Rattle.runs.proofs.TwoClerks.Stretches.{Moved, swap-from-setup}

-- a parse, a striking out and a run of items on known values compute
unfoldable pub open-clerks : Unit {0}
unfolding open-all Exchanges.kept_by Exchanges.acts_of Exchanges.items_of Exchanges.within Exchanges.onto Exchanges.opened Exchanges.closed Exchanges.more Exchanges.controls Exchanges.names Exchanges.mute Exchanges.some_of Exchanges.addressed Exchanges.to_none Exchanges.to_other Exchanges.shared Exchanges.struck_gap Exchanges.struck Exchanges.strike Exchanges.own Exchanges.inside_act Exchanges.gap_act Exchanges.up_to_stop Exchanges.item_acts Exchanges.flatten Exchanges.went Exchanges.told Exchanges.own_told
open-clerks = tt

-- the bench: slot 0 a memory with a write cycle of one tick, slot 1 a memory with sensor and a cycle of two, the others absent;
-- FFh everywhere, or 00h from slot 1 on
abbrev pairs : List Pair
pairs = record { kind = 1; length = 1 } ∷ record { kind = 2; length = 2 } ∷ replicate 6 (record { kind = 0; length = 0 })

abbrev blank : List ℕ
blank = replicate 4096 0xFF

abbrev other_memory : List ℕ
other_memory = replicate 512 0xFF ++ replicate 3584 0x00

abbrev bench : Bench
bench = begun pairs blank

-- raw events
abbrev event : ℕ → ℕ → ℤ → Event
event kind number value = record { kind = kind; slot = record { 0 = number }; value = value }

abbrev start : Event
start = event 1 0 (pos 0)

abbrev send : ℕ → Event
send b = event 2 0 (pos b)

abbrev fetch : Event
fetch = event 3 0 (pos 0)

abbrev stop : Event
stop = event 4 0 (pos 0)

abbrev pass : Event
pass = event 6 0 (pos 0)

abbrev high : Event
high = event 7 1 (pos 1)

abbrev warm : Event
warm = event 9 1 (pos 400)

-- and rubbish: a kind that there is not, a byte of 999, the temperature of a slot without sensor, the pin of a slot that there is not
abbrev no_kind : Event
no_kind = event 200 0 (pos 0)

abbrev no_byte : Event
no_byte = event 2 0 (pos 999)

abbrev no_sensor : Event
no_sensor = event 9 0 (pos 400)

abbrev no_slot : Event
no_slot = event 7 9 (pos 1)

-- The first clerk writes 5Ah to slot 0 at 00h, the second C3h to slot 1 at 10h; before it slot 1 gets warm; after it two ticks pass, the first
-- clerk reads its byte back, half 1 is selected for all, and the first clerk reads on. Refused events stand inside the exchanges and between them.
abbrev early : List Event
early = no_kind ∷ warm ∷ []

abbrev first : List Event
first = start ∷ no_kind ∷ send 0xA0 ∷ no_byte ∷ send 0x00 ∷ send 0x5A ∷ stop ∷ []

abbrev second : List Event
second = start ∷ send 0xA2 ∷ send 0x10 ∷ no_sensor ∷ send 0xC3 ∷ stop ∷ no_slot ∷ []

abbrev read_back : List Event
read_back = start ∷ send 0xA0 ∷ send 0x00 ∷ start ∷ no_byte ∷ send 0xA1 ∷ fetch ∷ stop ∷ []

abbrev half1 : List Event
half1 = start ∷ send 0x6E ∷ no_kind ∷ stop ∷ []

abbrev read_on : List Event
read_on = start ∷ send 0xA1 ∷ fetch ∷ stop ∷ []

abbrev late : List Event
late = (pass ∷ no_byte ∷ pass ∷ []) ++ read_back ++ half1 ++ read_on

abbrev run : List Event
run = early ++ first ++ second ++ late

-- what they are made of
abbrev writes0 : List Inside
writes0 = byte 0xA0 ∷ byte 0x00 ∷ byte 0x5A ∷ []

abbrev writes1 : List Inside
writes1 = byte 0xA2 ∷ byte 0x10 ∷ byte 0xC3 ∷ []

abbrev before : List Item
before = between (apply (record { 0 = 1 }) (Temperature (pos 400))) ∷ []

abbrev reads : List Item
reads = exchange (byte 0xA0 ∷ byte 0x00 ∷ again ∷ byte 0xA1 ∷ read false ∷ []) ∷ exchange (byte 0x6E ∷ []) ∷ exchange (byte 0xA1 ∷ read false ∷ []) ∷ []

abbrev later : List Item
later = between tick ∷ between tick ∷ reads

-- ONE RUN: rubbish and all, it is made of these whole exchanges and events between them; it gets these answers, and both bytes are stored
pub run-parts : Parts bench run (before ++ exchange writes0 ∷ exchange writes1 ∷ later)
unfolding open-clerks
run-parts = refl

abbrev first_shows : List Answer
first_shows = Nothing ∷ Refused UnknownKind ∷ Ack ∷ Refused WrongValue ∷ Ack ∷ Ack ∷ Nothing ∷ []

abbrev second_shows : List Answer
second_shows = Nothing ∷ Ack ∷ Ack ∷ Refused WrongSlot ∷ Ack ∷ Nothing ∷ Refused WrongSlot ∷ []

abbrev late_shows : List Answer
late_shows =
    (Nothing ∷ Refused WrongValue ∷ Nothing ∷ [])
    ++ (Nothing ∷ Ack ∷ Ack ∷ Nothing ∷ Refused WrongValue ∷ Ack ∷ Data 0x5A ∷ Nothing ∷ [])
    ++ (Nothing ∷ Ack ∷ Refused UnknownKind ∷ Nothing ∷ [])
    ++ (Nothing ∷ Ack ∷ Data 0xFF ∷ Nothing ∷ [])

pub run-answered : answers run bench ≡ (Refused UnknownKind ∷ Nothing ∷ []) ++ first_shows ++ second_shows ++ late_shows
unfolding open-clerks
run-answered = refl

pub run-stored : (get_or (after run bench).memory 0x00 0 ≡ 0x5A) × (get_or (after run bench).memory (512 + 0x10) 0 ≡ 0xC3)
unfolding open-clerks
run-stored = (refl, refl)

-- A PAIR OF RUNS for slot 0. In the second, on a bench with other bytes in slot 1, the second clerk works otherwise: its slot gets voltage, it writes
-- no byte, it reads between the ticks and after the command, and somebody calls 50h, which no slot hears. The refused events are others too.
abbrev other_run : List Event
other_run =
    (no_slot ∷ high ∷ start ∷ send 0x50 ∷ no_slot ∷ stop ∷ [])
    ++ (start ∷ send 0xA0 ∷ send 0x00 ∷ no_sensor ∷ send 0x5A ∷ stop ∷ [])
    ++ (pass ∷ start ∷ send 0xA3 ∷ fetch ∷ stop ∷ pass ∷ [])
    ++ read_back
    ++ half1
    ++ (start ∷ send 0xA2 ∷ send 0x20 ∷ start ∷ send 0xA3 ∷ fetch ∷ stop ∷ [])
    ++ read_on

abbrev items : List Item
items = before ++ exchange writes0 ∷ exchange writes1 ∷ later

abbrev other_items : List Item
other_items =
    between (apply (record { 0 = 1 }) (Voltage true))
    ∷ exchange (byte 0x50 ∷ [])
    ∷ exchange writes0
    ∷ between tick
    ∷ exchange (byte 0xA3 ∷ read false ∷ [])
    ∷ between tick
    ∷ exchange (byte 0xA0 ∷ byte 0x00 ∷ again ∷ byte 0xA1 ∷ read false ∷ [])
    ∷ exchange (byte 0x6E ∷ [])
    ∷ exchange (byte 0xA2 ∷ byte 0x20 ∷ again ∷ byte 0xA3 ∷ read false ∷ [])
    ∷ exchange (byte 0xA1 ∷ read false ∷ [])
    ∷ []

abbrev other_bench : Bench
other_bench = begun pairs other_memory

-- all that demand 3 asks for is met, and so it holds: slot 0, its bytes and the answers to its own exchanges are the same
pub two-clerks : Same 0 bench other_bench run other_run items other_items
unfolding open-clerks
two-clerks = demand3-from-setup 0 (omega arith) pairs refl blank other_memory refl refl refl run other_run items other_items refl refl refl

-- those answers, in both runs: the write, the byte read back, and the read in half 1
abbrev own_shows : List (List Answer)
own_shows =
    (Nothing ∷ Ack ∷ Ack ∷ Ack ∷ Nothing ∷ [])
    ∷ (Nothing ∷ Ack ∷ Ack ∷ Nothing ∷ Ack ∷ Data 0x5A ∷ Nothing ∷ [])
    ∷ (Nothing ∷ Ack ∷ Data 0xFF ∷ Nothing ∷ [])
    ∷ []

pub own-answers : (own_told 0 items bench ≡ own_shows) × (own_told 0 other_items other_bench ≡ own_shows)
unfolding open-clerks
own-answers = (refl, refl)

-- while the two benches are not the same: slot 1's counter is not
pub not-slot1 : ((slot 1 (after run bench)).counter ≡ 0x11) × ((slot 1 (after other_run other_bench)).counter ≡ 0x21)
unfolding open-clerks
not-slot1 = (refl, refl)

-- A SWAP: in the run above the two clerks' writes change places, with the refused events that stand in them
pub writes-swapped : Moved bench early first second late before (exchange writes0) (exchange writes1) later
unfolding open-clerks
writes-swapped = swap-from-setup pairs blank refl refl 0 1 writes0 writes1 (λ e. omega arith) refl refl before later early first second late refl refl refl refl

-- the answers of the swapped run: the two stretches' answers have changed places, and all others are where they were
pub swapped-answered : answers (early ++ second ++ first ++ late) bench ≡ (Refused UnknownKind ∷ Nothing ∷ []) ++ second_shows ++ first_shows ++ late_shows
unfolding open-clerks
swapped-answered = refl
