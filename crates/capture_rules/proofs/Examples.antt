-- Captures as bytes, and the verdicts on them. The tables compute.
-- Assumes nothing.
use Prim.Native.Nat.{ℕ}
use mathlib.Core.Path.{◌≡◌, refl}
use mathlib.Core.Bool.{Bool, true, false}
use mathlib.Core.List.{List, [], ◌∷◌, ◌++◌, map}
use lib.ListN.{set, replicate}
use Rattle.rules.specs.declared.Answer.TheVariants as answer
use Rattle.rules.specs.declared.Pair.{Pair}
use Rattle.rules.specs.declared.Refusal.TheVariants.{MemoryLength, WrongSlot, WrongSetup}
use Rattle.capture_rules.specs.declared.Seen.{Seen}
use Rattle.capture_rules.specs.declared.Verdict.{Verdict}
use Rattle.capture_rules.specs.declared.Verdict.TheVariants.{Accepted, Differs, Short, Refused}
use Rattle.capture_rules.specs.Capture.{closed, verdict_of}
use Rattle.capture_rules.specs.Agreement.{as_seen, meant, record_of, model_of, seen_of, is_accepted, is_short, verdict_number}
use Rattle.capture_rules.specs.Open.{open-capture}

abbrev seen : ℕ → ℕ → Seen
seen code byte = record { code = code; byte = byte }

-- a memory of length 1 in slot 3, whose first byte is 5Ah
abbrev setup : List Pair
setup = replicate 3 (record { kind = 0; length = 0 }) ++ record { kind = 1; length = 1 } ∷ replicate 4 (record { kind = 0; length = 0 })

abbrev memory : List ℕ
memory = set (replicate 4096 0xFF) 1536 0x5A

-- records: start, with a byte that is ignored; A7h acknowledged, and not; a read of 5Ah, and of another byte; high voltage on slot 2, which is absent
abbrev start : List ℕ
start = 1 ∷ 0 ∷ 0 ∷ 0 ∷ 0 ∷ 7 ∷ []

abbrev acked : List ℕ
acked = 2 ∷ 0 ∷ 0 ∷ 0xA7 ∷ 1 ∷ 9 ∷ []

abbrev nacked : List ℕ
nacked = 2 ∷ 0 ∷ 0 ∷ 0xA7 ∷ 2 ∷ 0x5B ∷ []

abbrev read : List ℕ
read = 3 ∷ 0 ∷ 0 ∷ 1 ∷ 3 ∷ 0x5A ∷ []

abbrev otherwise : List ℕ
otherwise = 3 ∷ 0 ∷ 0 ∷ 1 ∷ 3 ∷ 0xA5 ∷ []

abbrev refused : List ℕ
refused = 7 ∷ 2 ∷ 0 ∷ 1 ∷ 4 ∷ 3 ∷ []

-- the records of a capture, and the verdict on them
abbrev table : List (List ℕ × Verdict)
table =
    ([], Accepted)
    ∷ (start ++ acked, Accepted)
    ∷ (start ++ acked ++ read ++ read, Differs 3 (answer.Data 0xFF) (seen 3 0x5A))
    ∷ (start ++ acked ++ read, Accepted)
    ∷ (start ++ nacked, Differs 1 answer.Ack (seen 2 0x5B))
    ∷ (start ++ nacked ++ acked ++ read, Differs 1 answer.Ack (seen 2 0x5B))
    ∷ (start ++ acked ++ otherwise ++ start, Differs 2 (answer.Data 0x5A) (seen 3 0xA5))
    ∷ (start ++ (2 ∷ 0 ∷ 0 ∷ 0xA5 ∷ 1 ∷ 0 ∷ []), Differs 1 answer.Nack (seen 1 0))
    ∷ ((1 ∷ 0 ∷ 0 ∷ 0 ∷ 5 ∷ 0 ∷ []), Differs 0 answer.Nothing (seen 5 0))
    ∷ (refused, Differs 0 (answer.Refused WrongSlot) (seen 4 3))
    -- a record that is cut
    ∷ (start ++ acked ++ 3 ∷ 0 ∷ 0 ∷ 1 ∷ 3 ∷ [], Short)
    ∷ (start ++ acked ++ 3 ∷ [], Short)
    ∷ (start ++ nacked ++ 3 ∷ [], Differs 1 answer.Ack (seen 2 0x5B))
    ∷ []

pub verdicts : map (λ (c : List ℕ × Verdict). verdict_of setup memory c.0) table ≡ map (λ (c : List ℕ × Verdict). c.1) table
unfolding open-capture
verdicts = refl

-- P9: an older module of length 1 in slot 3. Data bytes get NACK while its write-protect pin is on. Its voltage is off, so 66h is its lasting form, after
-- whose cycle every 0110 byte gets NACK, and which has none with the pin on at the stop; 62h it does not hear. Slot 2 has no such pin.
abbrev older_setup : List Pair
older_setup = set setup 3 (record { kind = 3; length = 1 })

abbrev pin : ℕ → ℕ → List ℕ
pin slot on = 10 ∷ slot ∷ 0 ∷ on ∷ 0 ∷ 0 ∷ []

abbrev byte : ℕ → ℕ → List ℕ
byte b code = 2 ∷ 0 ∷ 0 ∷ b ∷ code ∷ 0 ∷ []

abbrev stopped : List ℕ
stopped = (4 ∷ 0 ∷ 0 ∷ 0 ∷ 0 ∷ 0 ∷ []) ++ (6 ∷ 0 ∷ 0 ∷ 0 ∷ 0 ∷ 0 ∷ [])

abbrev lasting : List ℕ
lasting = start ++ byte 0x66 1 ++ byte 0 1 ++ byte 0 1 ++ stopped

abbrev older_table : List (List ℕ × Verdict)
older_table =
    (pin 3 1 ++ start ++ byte 0xA6 1 ++ byte 0 1 ++ byte 7 2 ++ pin 3 0 ++ start ++ byte 0xA6 1 ++ byte 0 1 ++ byte 7 1, Accepted)
    ∷ (lasting ++ start ++ byte 0x66 2, Accepted)
    ∷ (pin 3 1 ++ lasting ++ start ++ byte 0x66 2, Differs 8 answer.Ack (seen 2 0))
    ∷ (start ++ byte 0x62 1, Differs 1 answer.Nack (seen 1 0))
    ∷ (pin 2 1, Differs 0 (answer.Refused WrongSlot) (seen 0 0))
    ∷ []

pub older-verdicts : map (λ (c : List ℕ × Verdict). verdict_of older_setup memory c.0) older_table ≡ map (λ (c : List ℕ × Verdict). c.1) older_table
unfolding open-capture
older-verdicts = refl

-- before any record: memory of another length, then a bad pair, in the last slot
abbrev bad : List Pair
bad = replicate 7 (record { kind = 0; length = 0 }) ++ record { kind = 1; length = 6 } ∷ []

pub beginnings : map (λ (c : List Pair × List ℕ). verdict_number (verdict_of c.0 c.1 (start ++ nacked)))
    ((setup, replicate 4095 0xFF) ∷ (setup, replicate 4097 0xFF) ∷ (bad, []) ∷ (bad, memory) ∷ (setup, memory) ∷ [])
    ≡ 1 ∷ 1 ∷ 1 ∷ 5 ∷ 0 ∷ []
unfolding open-capture
beginnings = refl

-- what bytes that are left over, none or some, make of each sort of verdict
abbrev all : List Verdict
all = Accepted ∷ Short ∷ Refused MemoryLength ∷ Differs 17 (answer.Data 0x5A) (seen 2 9) ∷ []

pub closings : (map (closed 0) all ≡ all) × (map (closed 1) all ≡ set all 0 Short)
unfolding open-capture
closings = (refl, refl)

-- The paper's numbers for each sort of verdict: whether it accepts, whether it is short, the refusal's number, the record, the model's answer and the captured one.
abbrev numbers_of : Verdict → Bool × Bool × ℕ × ℕ × Seen × Seen
numbers_of v = (is_accepted v, is_short v, verdict_number v, record_of v, as_seen (model_of v), seen_of v)

pub sorts : map numbers_of (Accepted ∷ Short ∷ Refused MemoryLength ∷ Refused WrongSetup ∷ Differs 17 (answer.Data 0x5A) (seen 2 9) ∷ [])
    ≡ (true, false, 0, 0, seen 0 0, seen 0 0) ∷ (false, true, 0, 0, seen 0 0, seen 0 0) ∷ (false, false, 1, 0, seen 0 0, seen 0 0)
    ∷ (false, false, 5, 0, seen 0 0, seen 0 0) ∷ (false, false, 0, 17, seen 3 0x5A, seen 2 9) ∷ []
unfolding open-capture
sorts = refl

-- "0 nothing, 1 ACK, 2 NACK, 3 data, 4 refused", "the data byte, the refusal's number, else ignored": the model's answers, and captured ones
pub codes : map as_seen (answer.Nothing ∷ answer.Ack ∷ answer.Nack ∷ answer.Data 0x5A ∷ answer.Refused WrongSlot ∷ [])
    ≡ seen 0 0 ∷ seen 1 0 ∷ seen 2 0 ∷ seen 3 0x5A ∷ seen 4 3 ∷ []
unfolding open-capture
codes = refl

pub meanings : map meant (seen 0 9 ∷ seen 1 9 ∷ seen 2 9 ∷ seen 3 9 ∷ seen 4 9 ∷ seen 5 9 ∷ [])
    ≡ seen 0 0 ∷ seen 1 0 ∷ seen 2 0 ∷ seen 3 9 ∷ seen 4 9 ∷ seen 5 0 ∷ []
unfolding open-capture
meanings = refl
