-- Request P9, "Older 2-Kbit modules", sentence by sentence: which 0110 bytes an older module acknowledges, for every slot number; what its commands and its
-- write-protect pin do, as runs of one slot that compute; and what never happens, for every state.
-- Assumes nothing.
use Prim.Native.Nat.{ℕ, ◌+◌, ◌*◌, ◌/◌, ◌%◌, ◌<◌, ◌≤◌}
use native.Mathlib.Omega.{arith}
use mathlib.Core.Path.{◌≡◌, refl, ◌∙◌, ap}
use mathlib.Core.Bool.{Bool, true, false, not, cond, ◌&&◌, ◌||◌}
use mathlib.Core.List.{List, [], ◌∷◌, ◌++◌, map}
use lib.Dec.{eqb}
use lib.ListN.{get_or, set, replicate}
use Rattle.proof_lists.specs.Tests.{cond_cases, by-test}
use Rattle.rules.specs.declared.Act.{Act}
use Rattle.rules.specs.declared.Act.TheVariants.{Start, Byte, Read, Stop, Timeout, Tick, Power, Apply}
use Rattle.rules.specs.declared.Applied.TheVariants.{Voltage, WriteProtect}
use Rattle.rules.specs.declared.Carried.{Carried}
use Rattle.rules.specs.declared.Carried.TheVariants as carries
use Rattle.rules.specs.declared.Heard.{Heard}
use Rattle.rules.specs.declared.Phase.TheVariants.{Deaf, CommandAddress}
use Rattle.rules.specs.declared.Slot.{Slot}
use Rattle.rules.specs.declared.SlotNo.{SlotNo}
use Rattle.rules.specs.Control.{acks_control, obeyed, protects, acks_heard, raised_command, older_command, own_command, select_of, is_read}
use Rattle.rules.specs.Events.{carried}
use Rattle.rules.specs.Fields.{in_phase, to_come}
use Rattle.rules.specs.Fresh.{fresh_slot}
use Rattle.rules.specs.Memory.{permanent_then, guarded}
use Rattle.rules.specs.Modelled.{older, address_of, block_of, page_of, absent}
use Rattle.rules.specs.Open.{open-all}
use Rattle.rules.specs.Power.{first_of}
use Rattle.rules.specs.Runs.{slot_after}
use Rattle.rules.specs.Slot.{slot_next, part_next, acks}
use Rattle.rules.proofs.Document.Commands.{acks-free, older-heard}
use Rattle.rules.proofs.Memory.Protection.{permanent-next}
use Rattle.rules.proofs.Memory.Stored.{finishes, ends, storing, page_start, part-stored, put-elsewhere}
use Rattle.rules.proofs.Range.Kept.{InRange}

-- In every slot n and every state of it in which no cycle runs: the ACK to a 0110 byte b.
module _ (n b : ℕ) (s : Slot) (o : older s ≡ true) (family : b / 16 ≡ 0x6) (free : s.left ≡ 0) where
  abbrev protected : Bool
  protected = get_or s.protection 0 false

  asked : acks_control n b s ≡ acks_heard (older_command n b s) n s
  asked = acks-free n s free b ∙ ap (λ (h : Heard). acks_heard h n s) (older-heard b n s o family)

  -- "after which every 0110 byte gets NACK": for ever is for ever
  pub for-ever-nack : s.old.permanent ≡ true → acks_control n b s ≡ false
  unfolding acks_heard older_command
  for-ever-nack p = asked ∙ rw p

  -- "With high voltage on, 62h protects and 66h clears [..] With the read bit, the same three forms get ACK exactly if the block is unprotected; other 0110
  -- bytes get NACK. On a protected block 62h gets NACK; the clear [is] acknowledged unless protection is permanent"
  pub high-acks : s.old.permanent ≡ false → s.voltage ≡ true
      → acks_control n b s ≡ cond (eqb b 0x62) (not protected) (cond (eqb b 0x66) true (cond (eqb b 0x63 || eqb b 0x67) (not protected) false))
  unfolding acks_heard older_command raised_command protects
  high-acks p v = asked ∙ ap (λ (h : Heard). acks_heard h n s) reads ∙ (
      by-test (eqb b 0x62) (λ e. rw e (ap (λ (x : Bool). x && not protected) v)) λ e. rw e (
      by-test (eqb b 0x66) (λ f. rw f v) λ f. rw f (by-test (eqb b 0x63 || eqb b 0x67) (λ g. rw g) (λ g. rw g))))
    where
      reads : older_command n b s ≡ raised_command b
      reads = rw (p, v)

  -- "With it off at the control byte, 0110, the slot's select number and a write bit protects for ever": acknowledged "unless protection is permanent"
  pub low-acks : s.old.permanent ≡ false → s.voltage ≡ false
      → acks_control n b s ≡ cond (eqb (b / 2 % 8) n) (cond (eqb (b % 2) 1) (not protected) true) false
  unfolding acks_heard older_command own_command select_of is_read protects
  low-acks p v = asked ∙ rw (p, v) (by-test (eqb (b / 2 % 8) n) (λ e. rw e (by-test (eqb (b % 2) 1) (λ f. rw f) (λ f. rw f))) (λ e. rw e))

-- What the ACK does, of the three commands and of a read form: what is to come, and the phase.
pub commands-asked : (s : Slot) (n : ℕ)
    → map (λ (h : Heard). obeyed h s) (raised_command 0x62 ∷ raised_command 0x66 ∷ raised_command 0x63 ∷ raised_command 0x67 ∷ own_command 2 0x64 ∷ own_command 2 0x65 ∷ [])
    ≡ in_phase CommandAddress (to_come (set s.protection 0 true) false s) ∷ in_phase CommandAddress (to_come (replicate 4 false) false s)
    ∷ in_phase Deaf s ∷ in_phase Deaf s ∷ in_phase CommandAddress (to_come (set s.protection 0 true) true s) ∷ in_phase Deaf s ∷ []
unfolding open-all
commands-asked s n = refl

-- RUNS of slot 2 that compute: the ACKs to its bytes in order, then whether bit 0 is protected, whether for ever, and the ticks that are left.
pub acks_for : ℕ → Carried → Slot → List Bool
acks_for n (carries.Byte b) s = acks n b s ∷ []
acks_for n (carries.Read more) s = []
acks_for n carries.Nothing s = []

pub shown_over : ℕ → List Act → Slot → List Bool
shown_over n [] s = []
shown_over n (a ∷ r) s = acks_for n (carried a) s ++ shown_over n r (slot_next n a s)

abbrev two : SlotNo
two = record { 0 = 2 }

abbrev high : Bool → Act
high on = Apply two (Voltage on)

abbrev pin : Bool → Act
pin on = Apply two (WriteProtect on)

-- a command with both its bytes and its stop, and the tick that ends its cycle
abbrev sent : ℕ → List Act
sent b = Start ∷ Byte b ∷ Byte 0 ∷ Byte 0 ∷ Stop ∷ []

abbrev done : ℕ → List Act
done b = sent b ++ Tick ∷ []

abbrev cut : ℕ → Act
cut n = Power (record { 0 = n })

-- a write of one byte to counter c, before its stop
abbrev writes : ℕ → List Act
writes c = Start ∷ Byte 0xA4 ∷ Byte c ∷ Byte 0x5A ∷ []

pub record Run : Type 0 where
  pub acts : List Act
  pub acked : List Bool
  pub ends : Bool × Bool × ℕ

abbrev run : List Act → List Bool → Bool → Bool → ℕ → Run
run acts acked protected permanent left = record { acts = acts; acked = acked; ends = (protected, permanent, left) }

abbrev A : List Bool
A = true ∷ true ∷ true ∷ []

abbrev N : List Bool
N = false ∷ false ∷ false ∷ []

abbrev table : List Run
table =
    -- "With high voltage on, 62h protects", when its cycle ends
    run (high true ∷ done 0x62) A true false 0
    ∷ run (high true ∷ sent 0x62) A false false 1
    -- "On a protected block 62h gets NACK"
    ∷ run (high true ∷ done 0x62 ++ sent 0x62) (A ++ N) true false 0
    -- "and 66h clears", and on an unprotected block it has its cycle all the same
    ∷ run (high true ∷ done 0x62 ++ done 0x66) (A ++ A) false false 0
    ∷ run (high true ∷ sent 0x66) A false false 1
    -- "With it off at the control byte, 0110, the slot's select number and a write bit protects for ever", when its cycle ends, and as a protect for P3
    ∷ run (done 0x64) A true true 0
    ∷ run (sent 0x64) A false false 1
    ∷ run (sent 0x64 ++ cut 0 ∷ []) A false false 0
    ∷ run (sent 0x64 ++ cut 1 ∷ []) A true true 0
    -- on a block that 62h protected too
    ∷ run (high true ∷ done 0x62 ++ high false ∷ done 0x64) (A ++ A) true true 0
    ∷ run (high true ∷ done 0x62 ++ high false ∷ sent 0x64 ++ cut 0 ∷ []) (A ++ A) true false 0
    -- "after which every 0110 byte gets NACK"; power does not undo it
    ∷ run (done 0x64 ++ sent 0x64 ++ high true ∷ sent 0x62 ++ sent 0x66 ++ cut 16 ∷ sent 0x66) (A ++ N ++ N ++ N ++ N) true true 0
    -- the others' bytes, and the half commands, are none of its commands: it stays in half 0
    ∷ run (sent 0x62 ++ sent 0x66 ++ sent 0x6C ++ sent 0x6E ++ high true ∷ sent 0x64 ++ sent 0x6E) (N ++ N ++ N ++ N ++ N ++ N) false false 0
    -- "High voltage going off before the stop cancels, deaf.": 62h and 66h, and never the lasting form
    ∷ run (high true ∷ Start ∷ Byte 0x62 ∷ Byte 0 ∷ high false ∷ Byte 0 ∷ Stop ∷ Tick ∷ []) (true ∷ true ∷ false ∷ []) false false 0
    ∷ run (high true ∷ done 0x62 ++ Start ∷ Byte 0x66 ∷ Byte 0 ∷ Byte 0 ∷ high false ∷ Stop ∷ Tick ∷ []) (A ++ A) true false 0
    ∷ run (Start ∷ Byte 0x64 ∷ high true ∷ Byte 0 ∷ high false ∷ Byte 0 ∷ high false ∷ Stop ∷ Tick ∷ []) A true true 0
    -- "a third byte gets NACK and cancels", fewer do nothing, and a start, a read, a timeout cancel
    ∷ run (Start ∷ Byte 0x64 ∷ Byte 0 ∷ Byte 0 ∷ Byte 0 ∷ Stop ∷ Tick ∷ []) (A ++ false ∷ []) false false 0
    ∷ run (Start ∷ Byte 0x64 ∷ Byte 0 ∷ Stop ∷ Tick ∷ []) (true ∷ true ∷ []) false false 0
    ∷ run (Start ∷ Byte 0x64 ∷ Byte 0 ∷ Byte 0 ∷ Start ∷ Stop ∷ Tick ∷ []) A false false 0
    ∷ run (Start ∷ Byte 0x64 ∷ Byte 0 ∷ Byte 0 ∷ Read true ∷ Stop ∷ Tick ∷ []) A false false 0
    ∷ run (Start ∷ Byte 0x64 ∷ Byte 0 ∷ Byte 0 ∷ Timeout ∷ Tick ∷ []) A false false 0
    -- a lasting form that was cancelled makes no later protect last
    ∷ run (Start ∷ Byte 0x64 ∷ Byte 0 ∷ Stop ∷ high true ∷ done 0x62) (true ∷ true ∷ A) true false 0
    -- protection "covers the lower 128 bytes"
    ∷ run (done 0x64 ++ writes 0x7F) (A ++ true ∷ true ∷ false ∷ []) true true 0
    ∷ run (done 0x64 ++ writes 0x80 ++ Stop ∷ []) (A ++ A) true true 1
    -- the pin: "while it is on, data bytes get NACK", also above the block, and what was latched before is lost; the counter byte is acknowledged
    ∷ run (pin true ∷ writes 0x00 ++ Stop ∷ []) (true ∷ true ∷ false ∷ []) false false 0
    ∷ run (pin true ∷ writes 0xFF ++ Stop ∷ []) (true ∷ true ∷ false ∷ []) false false 0
    ∷ run (writes 0x00 ++ pin true ∷ Byte 0x5B ∷ pin false ∷ Stop ∷ []) (A ++ false ∷ []) false false 0
    -- a write whose bytes were all acknowledged is stored, and a running cycle is not touched
    ∷ run (writes 0x00 ++ pin true ∷ Stop ∷ []) A false false 1
    ∷ run (writes 0x00 ++ Stop ∷ pin true ∷ []) A false false 1
    ∷ run (sent 0x64 ++ pin true ∷ Tick ∷ []) A true true 0
    -- "the commands are acknowledged as with it off, without cycle or effect if it is on at the stop": at the stop alone
    ∷ run (pin true ∷ done 0x64) A false false 0
    ∷ run (pin true ∷ high true ∷ done 0x62) A false false 0
    ∷ run (Start ∷ Byte 0x64 ∷ Byte 0 ∷ Byte 0 ∷ pin true ∷ Stop ∷ Tick ∷ []) A false false 0
    ∷ run (pin true ∷ Start ∷ Byte 0x64 ∷ Byte 0 ∷ Byte 0 ∷ pin false ∷ Stop ∷ Tick ∷ []) A true true 0
    -- "Power keeps the pin."
    ∷ run (pin true ∷ cut 0 ∷ writes 0x00) (true ∷ true ∷ false ∷ []) false false 0
    ∷ []

-- of a module with a cycle of one tick
abbrev told : Run → List Bool × Bool × Bool × ℕ
told r =
    let s : Slot = slot_after 2 r.acts (fresh_slot 3 1) in
    (shown_over 2 r.acts (fresh_slot 3 1), get_or s.protection 0 false, s.old.permanent, s.left)

abbrev wanted : Run → List Bool × Bool × Bool × ℕ
wanted r = (r.acked, r.ends.0, r.ends.1, r.ends.2)

pub older-runs : map told table ≡ map wanted table
unfolding open-all slot_after shown_over acks_for
older-runs = refl

-- FOR EVERY STATE. "protects for ever": whatever acts follow, power and its cuts among them
pub stays-for-ever : (n : ℕ) (r : List Act) (s : Slot) → s.old.permanent ≡ true → (slot_after n r s).old.permanent ≡ true
unfolding slot_after permanent_then
stays-for-ever n [] s p = p
stays-for-ever n (a ∷ r) s p = stays-for-ever n r (slot_next n a s)
    (permanent-next n a s ∙ cond_cases (λ (x : Bool). x ≡ true) (finishes a s && not (absent s)) (λ e. rw p) (λ e. p))

-- and the lower 128 bytes take no byte: "Protection is bit 0 alone, set if permanent, and covers the lower 128 bytes"
pub for-ever-guards : (s : Slot) → InRange s → older s ≡ true → s.old.permanent ≡ true → s.counter < 128 → guarded s ≡ true
unfolding guarded protects block_of address_of older
for-ever-guards s v o p l =
    let a = v.olders o in
    let here : (256 * s.half + s.counter) / 128 ≡ 0 = let h = a.first-half in omega (arith, h, l) in
    rw here (rw (a.set_if p))

-- "blocks 2 and 3 never touched": an act leaves every byte from 256 on
pub upper-still : (a : Act) (s : Slot) (m : List ℕ) (i d : ℕ) → InRange s → older s ≡ true → 256 ≤ i → get_or (part_next a s m) i d ≡ get_or m i d
unfolding address_of page_of older
upper-still a s m i d v o l =
    let h = (v.olders o).first-half in
    let c = v.counters in
    ap (λ (l : List ℕ). get_or l i d) (part-stored a s m)
    ∙ cond_cases (λ (l : List ℕ). get_or l i d ≡ get_or m i d) (absent s) (λ e. refl) λ e.
    cond_cases (λ (l : List ℕ). get_or l i d ≡ get_or m i d) (ends a s)
    (λ e. put-elsewhere s.latch (first_of (storing a) s.marks) (page_start s) m i d 16 (λ p q. omega (arith, h, c, l, p, q))) (λ e. refl)
