-- Document 01's whole case and its marked bench cases: one table, run on the definitions of the whole bus from setup, under one theorem. Cases of
-- requests P3 and P9 in the same form: a second and a third table, under others.
-- Assumes nothing.
use Prim.Native.Nat.{ℕ, zero, suc, ◌%◌}
use mathlib.Core.Path.{◌≡◌, refl, sym, ◌∙◌, ap₂}
use mathlib.Core.List.{List, [], ◌∷◌, ◌++◌, map}
use lib.IntN.{ℤ, pos, negsuc}
use lib.ListN.{get_or, set, replicate}
use Rattle.rules.specs.declared.Answer.{Answer}
use Rattle.rules.specs.declared.Event.{Event}
use Rattle.rules.specs.declared.Pair.{Pair}
use Rattle.rules.specs.Refusals.{Ruling}
use Rattle.rules.specs.Events.{letter_of, value_of, refusal_number}
use Rattle.rules.specs.Fresh.{absent_slot}
use Rattle.rules.specs.Refusals.{setup_of}
use Rattle.rules.specs.Runs.{Bench, ruling_on, ruled_next, ruled_answer, next, answered, after, answers}
use Rattle.rules.specs.Open.{open-all}

-- a case: what it starts from and what is done; the answers in order, by the paper's letters and values, every byte of the memory that has
-- changed after it (place, byte), and bits 12:0 of register 05h (slot, bits)
pub record Case : Type 0 where
  pub setup : List Pair
  pub memory : List ℕ
  pub run : List Event
  pub shows : List (ℕ × ℕ)
  pub bytes : List (ℕ × ℕ)
  pub bits : List (ℕ × ℕ)

-- the events' records
abbrev event : ℕ → ℕ → ℤ → Event
event kind slot value = record { kind = kind; slot = record { 0 = slot }; value = value }

abbrev start : Event
start = event 1 0 (pos 0)

abbrev byte : ℕ → Event
byte b = event 2 0 (pos b)

-- with the master's ACK, and with its NACK
abbrev more : Event
more = event 3 0 (pos 1)

abbrev last : Event
last = event 3 0 (pos 0)

abbrev stop : Event
stop = event 4 0 (pos 0)

abbrev tick : Event
tick = event 6 0 (pos 0)

abbrev high_voltage : Event
high_voltage = event 7 0 (pos 1)

abbrev power : ℕ → Event
power n = event 8 0 (pos n)

abbrev temperature : ℤ → Event
temperature t = event 9 0 t

-- the paper's letters for answers, each with its value
abbrev Said : Type 0
Said = ℕ × ℕ

abbrev Nothing : Said
Nothing = (0x2D, 0)

abbrev Ack : Said
Ack = (0x41, 0)

abbrev Nack : Said
Nack = (0x4E, 0)

abbrev Data : ℕ → Said
Data b = (0x44, b)

-- an exchange of bytes, and its answers; the answers of a stretch of events that answer nothing
abbrev sent : List ℕ → List Event
sent bs = start ∷ map byte bs ++ stop ∷ []

abbrev acked : List ℕ → List Said
acked bs = Nothing ∷ map (λ b. Ack) bs ++ Nothing ∷ []

abbrev silent : ℕ → List Said
silent n = replicate n Nothing

-- register 05h of slot 0 read over the bus, and its answers
abbrev thermometer : List Event
thermometer = start ∷ byte 0x30 ∷ byte 0x05 ∷ start ∷ byte 0x31 ∷ more ∷ last ∷ stop ∷ []

abbrev shown_as : ℕ → ℕ → List Said
shown_as high low = Nothing ∷ Ack ∷ Ack ∷ Nothing ∷ Ack ∷ Data high ∷ Data low ∷ Nothing ∷ []

-- slot 0 of a kind and a length, the others absent; memory of FFh
abbrev alone : ℕ → ℕ → List Pair
alone kind length = record { kind = kind; length = length } ∷ replicate 7 (record { kind = 0; length = 0 })

abbrev blank : List ℕ
blank = replicate 4096 0xFF

abbrev in_memory : ℕ → List Event → List Said → List (ℕ × ℕ) → Case
in_memory length run shows bytes = record { setup = alone 1 length; memory = blank; run = run; shows = shows; bytes = bytes; bits = [] }

abbrev heated : ℤ → ℕ → Case
heated t bits = record { setup = alone 2 1; memory = blank; run = temperature t ∷ []; shows = silent 1; bytes = []; bits = (0, bits) ∷ [] }

abbrev up_to17 : List ℕ
up_to17 = 1 ∷ 2 ∷ 3 ∷ 4 ∷ 5 ∷ 6 ∷ 7 ∷ 8 ∷ 9 ∷ 10 ∷ 11 ∷ 12 ∷ 13 ∷ 14 ∷ 15 ∷ 16 ∷ 17 ∷ []

-- n places from one on, with values that go up by one
pub paired_from : ℕ → ℕ → ℕ → List (ℕ × ℕ)
paired_from place zero value = []
paired_from place (suc n) value = (place, value) ∷ paired_from (suc place) n (suc value)

-- protect block 0, protect block 3, clear all: each with its two bytes, stop and tick
abbrev command : ℕ → List Event
command b = sent (b ∷ 0 ∷ 0 ∷ []) ++ tick ∷ []

abbrev commanded : List Said
commanded = acked (0 ∷ 0 ∷ 0 ∷ []) ++ silent 1

abbrev table : List Case
table =
    -- the whole case
    in_memory 1
    (start ∷ byte 0xA0 ∷ byte 0x00 ∷ byte 0x5A ∷ stop ∷ start ∷ byte 0xA0 ∷ tick ∷ start ∷ byte 0xA0 ∷ [])
    (Nothing ∷ Ack ∷ Ack ∷ Ack ∷ Nothing ∷ Nothing ∷ Nack ∷ Nothing ∷ Nothing ∷ Ack ∷ [])
    ((0, 0x5A) ∷ [])
    -- 1. "Write from 1Eh: 1, 2, 3 land at 1Eh, 1Fh, 10h."
    ∷ in_memory 1 (sent (0xA0 ∷ 0x1E ∷ 1 ∷ 2 ∷ 3 ∷ []) ++ tick ∷ []) (acked (0 ∷ 0 ∷ 0 ∷ 0 ∷ 0 ∷ []) ++ silent 1)
    ((0x1E, 1) ∷ (0x1F, 2) ∷ (0x10, 3) ∷ [])
    -- 2. "Seventeen bytes from 20h: the 17th stands at 20h, the 2nd at 21h."
    ∷ in_memory 1 (sent (0xA0 ∷ 0x20 ∷ up_to17) ++ tick ∷ []) (acked (0 ∷ 0 ∷ up_to17) ++ silent 1)
    ((0x20, 17) ∷ paired_from 0x21 15 2)
    -- 3. "Counter FFh, half 1: reads address 511, then 256."
    ∷ record {
      setup = alone 1 1;
      memory = set (set blank 511 0x11) 256 0x22;
      run = sent (0x6E ∷ []) ++ start ∷ byte 0xA0 ∷ byte 0xFF ∷ start ∷ byte 0xA1 ∷ more ∷ last ∷ stop ∷ [];
      shows = acked (0 ∷ []) ++ Nothing ∷ Ack ∷ Ack ∷ Nothing ∷ Ack ∷ Data 0x11 ∷ Data 0x22 ∷ Nothing ∷ [];
      bytes = [];
      bits = [];
    }
    -- 4. "Data, repeated start, stop: memory unchanged."
    ∷ in_memory 1 (start ∷ byte 0xA0 ∷ byte 0x00 ∷ byte 0x5A ∷ start ∷ stop ∷ tick ∷ []) (Nothing ∷ Ack ∷ Ack ∷ Ack ∷ silent 3)
    []
    -- 5. "Length 3: NACK after two ticks, ACK after three."
    ∷ in_memory 3
    (sent (0xA0 ∷ 0x00 ∷ 0x5A ∷ []) ++ tick ∷ tick ∷ start ∷ byte 0xA0 ∷ tick ∷ start ∷ byte 0xA0 ∷ [])
    (acked (0 ∷ 0 ∷ 0 ∷ []) ++ silent 3 ++ Nack ∷ silent 2 ++ Ack ∷ [])
    ((0, 0x5A) ∷ [])
    -- 6. "Protected block: ACK, ACK, NACK."
    ∷ in_memory 1
    (high_voltage ∷ command 0x62 ++ start ∷ byte 0xA0 ∷ byte 0x00 ∷ byte 0x5A ∷ stop ∷ tick ∷ [])
    (Nothing ∷ commanded ++ Nothing ∷ Ack ∷ Ack ∷ Nack ∷ silent 2)
    []
    -- 7. "66h with blocks 0 and 3 protected: both clear."
    ∷ in_memory 1
    (high_voltage ∷ command 0x62 ++ command 0x60 ++ start ∷ byte 0x63 ∷ start ∷ byte 0x61 ∷ stop ∷ command 0x66 ++ start ∷ byte 0x63 ∷ start ∷ byte 0x61 ∷ stop ∷ [])
    (Nothing ∷ commanded ++ commanded ++ Nothing ∷ Nack ∷ Nothing ∷ Nack ∷ Nothing ∷ commanded ++ Nothing ∷ Ack ∷ Nothing ∷ Ack ∷ Nothing ∷ [])
    []
    -- 8. "6Dh with half 1: NACK."
    ∷ in_memory 1 (sent (0x6E ∷ []) ++ start ∷ byte 0x6D ∷ stop ∷ []) (acked (0 ∷ []) ++ Nothing ∷ Nack ∷ Nothing ∷ []) []
    -- 9. "Given -1, step 4: bits 12:0 of 05h are", by request P7, "0000h"
    ∷ heated (negsuc 0) 0x0000
    -- 10. "Bits 12:0, given -640: 1D80h; 2000: 07D0h; 400: 0190h."
    ∷ heated (negsuc 639) 0x1D80
    ∷ heated (pos 2000) 0x07D0
    ∷ heated (pos 400) 0x0190
    -- 11. "High 0500h, critical 0640h, low 0, configuration 0200h: 1284, 1260, 1256 give 4504h, 44ECh, 04E8h."
    ∷ record {
      setup = alone 2 1;
      memory = blank;
      run =
          sent (0x30 ∷ 0x02 ∷ 0x05 ∷ 0x00 ∷ []) ++ sent (0x30 ∷ 0x04 ∷ 0x06 ∷ 0x40 ∷ []) ++ sent (0x30 ∷ 0x03 ∷ 0x00 ∷ 0x00 ∷ [])
          ++ sent (0x30 ∷ 0x01 ∷ 0x02 ∷ 0x00 ∷ [])
          ++ temperature (pos 1284) ∷ thermometer
          ++ temperature (pos 1260) ∷ thermometer
          ++ temperature (pos 1256) ∷ thermometer;
      shows =
          acked (0 ∷ 0 ∷ 0 ∷ 0 ∷ []) ++ acked (0 ∷ 0 ∷ 0 ∷ 0 ∷ []) ++ acked (0 ∷ 0 ∷ 0 ∷ 0 ∷ []) ++ acked (0 ∷ 0 ∷ 0 ∷ 0 ∷ [])
          ++ Nothing ∷ shown_as 0x45 0x04
          ++ Nothing ∷ shown_as 0x44 0xEC
          ++ Nothing ∷ shown_as 0x04 0xE8;
      bytes = [];
      bits = [];
    }
    ∷ []

-- request P3
abbrev cuts : List Case
cuts =
    -- "Chips on our bench came back with half a page new."
    in_memory 5 (sent (0xA0 ∷ 0x20 ∷ up_to17) ++ tick ∷ tick ∷ power 8 ∷ []) (acked (0 ∷ 0 ∷ up_to17) ++ silent 3) ((0x20, 17) ∷ paired_from 0x21 7 2)
    -- "in ascending page offset": of four bytes sent from 2Eh on, the two that were sent last
    ∷ in_memory 1 (sent (0xA0 ∷ 0x2E ∷ 1 ∷ 2 ∷ 3 ∷ 4 ∷ []) ++ power 2 ∷ tick ∷ []) (acked (0 ∷ 0 ∷ 0 ∷ 0 ∷ 0 ∷ 0 ∷ []) ++ silent 2) ((0x20, 3) ∷ (0x21, 4) ∷ [])
    -- two slots in their cycles: each its own first two
    ∷ record {
      setup = record { kind = 1; length = 2 } ∷ record { kind = 2; length = 3 } ∷ replicate 6 (record { kind = 0; length = 0 });
      memory = blank;
      run = sent (0xA0 ∷ 0x00 ∷ 1 ∷ 2 ∷ 3 ∷ []) ++ sent (0xA2 ∷ 0x1F ∷ 4 ∷ 5 ∷ 6 ∷ []) ++ power 2 ∷ [];
      shows = acked (0 ∷ 0 ∷ 0 ∷ 0 ∷ 0 ∷ []) ++ acked (0 ∷ 0 ∷ 0 ∷ 0 ∷ 0 ∷ []) ++ silent 1;
      bytes = (0, 1) ∷ (1, 2) ∷ (0x210, 5) ∷ (0x211, 6) ∷ [];
      bits = [];
    }
    -- "For protect and clear, 0 keeps the old protection": the byte is acknowledged; "any other number brings the new": it is not
    ∷ in_memory 1
    (high_voltage ∷ sent (0x62 ∷ 0 ∷ 0 ∷ []) ++ power 0 ∷ start ∷ byte 0xA0 ∷ byte 0x00 ∷ byte 0x5A ∷ [])
    (Nothing ∷ acked (0 ∷ 0 ∷ 0 ∷ []) ++ silent 2 ++ Ack ∷ Ack ∷ Ack ∷ [])
    []
    ∷ in_memory 1
    (high_voltage ∷ sent (0x62 ∷ 0 ∷ 0 ∷ []) ++ power 1 ∷ start ∷ byte 0xA0 ∷ byte 0x00 ∷ byte 0x5A ∷ [])
    (Nothing ∷ acked (0 ∷ 0 ∷ 0 ∷ []) ++ silent 2 ++ Ack ∷ Ack ∷ Nack ∷ [])
    []
    -- "Without a running cycle the number has no effect.": an open write is abandoned
    ∷ in_memory 1 (start ∷ byte 0xA0 ∷ byte 0x00 ∷ byte 0x5A ∷ power 16 ∷ stop ∷ tick ∷ []) (Nothing ∷ Ack ∷ Ack ∷ Ack ∷ silent 3) []
    -- "outside that refusal 4": and the cycle goes on
    ∷ in_memory 1 (sent (0xA0 ∷ 0x00 ∷ 0x5A ∷ []) ++ power 17 ∷ tick ∷ []) (acked (0 ∷ 0 ∷ 0 ∷ []) ++ (0x52, 4) ∷ silent 1) ((0, 0x5A) ∷ [])
    ∷ []

-- request P9: slot 0 a memory, slots 1 and 6 older modules
abbrev pair_of : ℕ → Pair
pair_of kind = record { kind = kind; length = 1 }

abbrev with_older : List Event → List Said → List (ℕ × ℕ) → Case
with_older run shows bytes = record {
  setup = pair_of 1 ∷ pair_of 3 ∷ replicate 4 (pair_of 0) ++ pair_of 3 ∷ pair_of 0 ∷ [];
  memory = blank;
  run = run;
  shows = shows;
  bytes = bytes;
  bits = [];
}

abbrev refused : ℕ → Said
refused n = (0x52, n)

-- one byte to counter c of a slot by its control byte, with the tick that stores it; and so many of its three ACKs
abbrev stored : ℕ → ℕ → List Event
stored b c = sent (b ∷ c ∷ 0x5A ∷ []) ++ tick ∷ []

abbrev barred : List Said
barred = Nothing ∷ Ack ∷ Ack ∷ Nack ∷ silent 2

abbrev olders : List Case
olders =
    -- a protect of block 0 that is meant for slot 0 alone is the lasting form of slot 1, whose voltage is off: both are then protected, slot 1 for ever
    with_older (high_voltage ∷ command 0x62 ++ stored 0xA0 0x00 ++ stored 0xA2 0x7F ++ stored 0xA2 0x80 ++ command 0x66 ++ stored 0xA0 0x00 ++ stored 0xA2 0x00)
    (Nothing ∷ commanded ++ barred ++ barred ++ commanded ++ commanded ++ commanded ++ barred) ((0x280, 0x5A) ∷ (0, 0x5A) ∷ [])
    -- 6Ch with two bytes protects slot 6 for ever; without them, or with one, it does no harm
    ∷ with_older (sent (0x6C ∷ []) ++ tick ∷ sent (0x6C ∷ 0 ∷ []) ++ tick ∷ stored 0xAC 0x00 ++ command 0x6C ++ stored 0xAC 0x01)
    (acked (0 ∷ []) ++ silent 1 ++ acked (0 ∷ 0 ∷ []) ++ silent 1 ++ commanded ++ commanded ++ barred) ((0xC00, 0x5A) ∷ [])
    -- 6Eh moves slot 0 to half 1, and slot 1, which has none, not: the byte after counter 255 is the one at 0
    ∷ with_older (sent (0x6E ∷ []) ++ stored 0xA0 0x00 ++ stored 0xA2 0x00 ++ sent (0xA2 ∷ 0xFF ∷ []) ++ start ∷ byte 0xA3 ∷ more ∷ last ∷ [])
    (acked (0 ∷ []) ++ commanded ++ commanded ++ acked (0 ∷ 0 ∷ []) ++ Nothing ∷ Ack ∷ Data 0xFF ∷ Data 0x5A ∷ []) ((0x100, 0x5A) ∷ (0x200, 0x5A) ∷ [])
    -- the pin: "3 is given for kind 10 on a slot not of kind 3"; "the pin's value is 0 or 1, else 4"; and it bars slot 1 alone
    ∷ with_older (event 10 0 (pos 1) ∷ event 10 2 (pos 1) ∷ event 10 1 (pos 2) ∷ event 11 1 (pos 1) ∷ event 9 1 (pos 0) ∷ event 10 1 (pos 1) ∷ stored 0xA2 0x00 ++ stored 0xAC 0x00)
    (refused 3 ∷ refused 3 ∷ refused 4 ∷ refused 2 ∷ refused 3 ∷ Nothing ∷ barred ++ commanded) ((0xC00, 0x5A) ∷ [])
    ∷ []

-- what the definitions give for a case
abbrev begun : Case → Bench
begun c = record { bus = (setup_of c.setup).bus; memory = c.memory }

-- an answer by the paper's letter and value
abbrev said : Answer → Said
said a = (letter_of a, value_of a)

-- the memory with some bytes changed, and no other
pub changed : List (ℕ × ℕ) → List ℕ → List ℕ
changed [] m = m
changed (p ∷ ps) m = changed ps (set m p.0 p.1)

abbrev bits_at : Bench → ℕ × ℕ → ℕ
bits_at x p = (get_or x.bus.slots p.0 absent_slot).sensor.temperature % 8192

abbrev told : List (ℕ × ℕ) → List Answer → Bench → List Said × List ℕ × List ℕ
told bits ys x = (map said ys, x.memory, map (bits_at x) bits)

abbrev got : Case → List Said × List ℕ × List ℕ
got c = told c.bits (answers c.run (begun c)) (after c.run (begun c))

abbrev wanted : Case → List Said × List ℕ × List ℕ
wanted c = (c.shows, changed c.bytes c.memory, map (λ p. p.1) c.bits)

-- a run's answers and the bench after it at once, so that each event is computed but once: `done es x k` is what k makes of the two
done_as : {A : Type 0} → Ruling → Bench → (Answer → Bench → A) → A
done_as r x k = k (ruled_answer r x) (ruled_next r x)

done : {A : Type 0} → List Event → Bench → (List Answer → Bench → A) → A
done [] x k = k [] x
done (e ∷ es) x k = done_as (ruling_on e x) x (λ y z. done es z (λ ys. k (y ∷ ys)))

done-is : {A : Type 0} (es : List Event) (x : Bench) (k : List Answer → Bench → A) → done es x k ≡ k (answers es x) (after es x)
unfolding done done_as answers after answered next
done-is [] x k = refl
done-is (e ∷ es) x k = done-is es (next e x) (λ ys. k (answered e x ∷ ys))

computed : Case → List Said × List ℕ × List ℕ
computed c = done c.run (begun c) (told c.bits)

got-computed : (cs : List Case) → map got cs ≡ map computed cs
unfolding computed
got-computed [] = refl
got-computed (c ∷ cs) = ap₂ ◌∷◌ (sym (done-is c.run (begun c) (told c.bits))) (got-computed cs)

all-computed : (map computed table ≡ map wanted table) × (map computed cuts ≡ map wanted cuts) × (map computed olders ≡ map wanted olders)
unfolding open-all letter_of value_of refusal_number changed paired_from done done_as computed
all-computed = (refl, refl, refl)

pub marked-cases : map got table ≡ map wanted table
marked-cases = got-computed table ∙ all-computed.0

pub cut-cases : map got cuts ≡ map wanted cuts
cut-cases = got-computed cuts ∙ all-computed.1

pub older-cases : map got olders ≡ map wanted olders
older-cases = got-computed olders ∙ all-computed.2
