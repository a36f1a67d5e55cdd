-- The loop over the slots, in the form in which its proof asks for it.
-- Assumes nothing.
use mathlib.Core.Path.{◌≡◌, refl, sym, ◌∙◌, ap}
use mathlib.Core.Bool.{Bool, false, true, cond, ◌||◌, or-false}
use mathlib.Core.List.{List, ◌++◌}
use Prim.Native.Nat.{ℕ, ◌+◌, ◌-◌, ◌*◌, ◌≤◌, ◌<◌}
use native.Mathlib.Omega.{arith}
use lib.ListN.{length, get_or, set, take, drop}
use Rattle.std.specs.Prelude.{Option, Some, None}
use Rattle.std.specs.Option.{option_or, unwrap_or}
use Rattle.proof_lists.specs.Each.{map_from, map_to, map_to-none, map_to-next, map_to-step, map_to-same, map_to-full, any_from, any_from-step, any_from-none, first_from, first_from-step, first_from-none}
use Rattle.proof_lists.specs.Parts.{part, part-flat, parts_to, parts_to-none, parts_to-next, parts_to-step, parts_to-same, parts_to-all}
use Rattle.rules.specs.declared.Act.{Act}
use Rattle.rules.specs.declared.Carried.{Carried}
use Rattle.rules.specs.declared.Carried.TheVariants as carries
use Rattle.rules.specs.declared.Answer.{Answer}
use Rattle.rules.specs.declared.Answer.TheVariants as answer
use Rattle.rules.specs.declared.Phase.{Phase}
use Rattle.rules.specs.declared.Slot.{Slot}
use Rattle.rules.specs.Fields.{in_phase}
use Rattle.rules.specs.Events.{carried}
use Rattle.rules.specs.Bus.{bus_next, memory_next, any_ack, read_byte, shown_for, shown}
use Rattle.rules.specs.Slot.{slot_next, drives, driven, part_next}
use Rattle.rules.proofs.Memory.Stored.{length-part_next, memory-parts}
use Rattle.bus_slots.specs.declared.foreseen.Change.{Change}
use Rattle.bus_slots.specs.declared.foreseen.Change.TheVariants as change
use Rattle.bus_slots.specs.declared.step.Step.{Step}
use Rattle.bus_slots.specs.Foreseen.{acks_for, drives_for, Silent, Foreseen}
use Rattle.bus_slots.specs.Stepped.{driven_for, stepped}
use Rattle.rules.proofs.Past.{no_slot}
use Rattle.bus_slots.specs.Shown.{answer_for}
use Rattle.bus_slots.specs.Taken.{taken_then}

-- what the loop does with slot n at an act: its step, what it shows, its part of the memory as the code cuts it out
abbrev pub doing : Act → ℕ → Slot → Slot
doing a n s = slot_next n a s

abbrev pub acked : Carried → ℕ → Slot → Bool
acked c n s = acks_for c n s

abbrev pub drove : Carried → ℕ → Slot → Bool
drove c n s = drives_for c s

abbrev pub byte_of : Carried → List ℕ → ℕ → Slot → ℕ
byte_of c m n s = driven_for c (take 512 (drop (512 * n) m)) s

-- what i turns leave: the slots, the memory, whether one acknowledged, and the byte of the first that drove one
pub record Turned (a : Act) (ss : List Slot) (m : List ℕ) (i : ℕ) (all : List Slot) (mem : List ℕ) (ack : Bool) (byte : Option ℕ) : Type 0 where
  pub slots : all ≡ map_to (doing a) 0 i ss
  pub memory : mem ≡ parts_to 512 (part_next a) i ss m
  pub acks : (ack || any_from (acked (carried a)) i (drop i ss)) ≡ any_from (acked (carried a)) 0 ss
  pub bytes : unwrap_or byte (first_from (drove (carried a)) (byte_of (carried a) m) 255 i (drop i ss)) ≡ first_from (drove (carried a)) (byte_of (carried a) m) 255 0 ss

pub turned_none : (a : Act) (ss : List Slot) (m : List ℕ) → Turned a ss m 0 ss m false None
turned_none a ss m = record { slots = map_to-none (doing a) 0 ss; memory = parts_to-none 512 (part_next a) ss m; acks = refl; bytes = refl }

-- one turn of the first byte, by whether one was driven before
first-step : (p : ℕ → Slot → Bool) (q : ℕ → Slot → ℕ) (k : ℕ) (ss : List Slot) (t : Option ℕ) → k < length ss
    → unwrap_or t (first_from p q 255 k (drop k ss))
    ≡ unwrap_or (option_or t (cond (p k (get_or ss k no_slot)) (Some (q k (get_or ss k no_slot))) None)) (first_from p q 255 (k + 1) (drop (k + 1) ss))
first-step p q k ss (Some v) h = refl
first-step p q k ss None h =
    first_from-step p q 255 k ss no_slot false 0 h
    ∙ chosen (p k (get_or ss k no_slot)) (q k (get_or ss k no_slot)) (first_from p q 255 (k + 1) (drop (k + 1) ss))
  where
    chosen : (b : Bool) (v w : ℕ) → cond b v w ≡ unwrap_or (cond b (Some v) None) w
    chosen true v w = refl
    chosen false v w = refl

first-none : (p : ℕ → Slot → Bool) (q : ℕ → Slot → ℕ) (k : ℕ) (ss : List Slot) (t : Option ℕ) → length ss ≤ k
    → unwrap_or t (first_from p q 255 k (drop k ss)) ≡ unwrap_or t 255
first-none p q k ss (Some v) h = refl
first-none p q k ss None h = first_from-none p q 255 k ss false 0 h

no_byte : (t : Option ℕ) (x : ℕ) → unwrap_or (option_or t None) x ≡ unwrap_or t x
no_byte (Some v) x = refl
no_byte None x = refl

module _ (a : Act) (ss : List Slot) (m : List ℕ) (i : ℕ) (l : i < length ss) (room : 512 * (i + 1) ≤ length m) (all : List Slot) (mem : List ℕ) (ack : Bool) (byte : Option ℕ)
    (t : Turned a ss m i all mem ack byte) where
  pub old : get_or all i no_slot ≡ get_or ss i no_slot
  old = rw t.slots (map_to-next (doing a) 0 i ss no_slot)

  acks-on : (k : Bool) → k ≡ acked (carried a) i (get_or ss i no_slot) → ((ack || k) || any_from (acked (carried a)) (i + 1) (drop (i + 1) ss)) ≡ any_from (acked (carried a)) 0 ss
  acks-on k e = rw e (sym (any_from-step (acked (carried a)) i ss no_slot ack l) ∙ t.acks)

  bytes_on : (b : Option ℕ) → b ≡ cond (drove (carried a) i (get_or ss i no_slot)) (Some (byte_of (carried a) m i (get_or ss i no_slot))) None
      → unwrap_or (option_or byte b) (first_from (drove (carried a)) (byte_of (carried a) m) 255 (i + 1) (drop (i + 1) ss)) ≡ first_from (drove (carried a)) (byte_of (carried a) m) 255 0 ss
  bytes_on b e = rw e (sym (first-step (drove (carried a)) (byte_of (carried a) m) i ss byte l) ∙ t.bytes)

  -- a slot that shows nothing and leaves its bytes
  quietly : (next : List Slot) → next ≡ map_to (doing a) 0 (i + 1) ss → Silent i a (get_or ss i no_slot) → Turned a ss m (i + 1) next mem ack byte
  quietly next e z =
      record {
        slots = e;
        memory = t.memory ∙ parts_to-same 512 (part_next a) (length-part_next a) i ss m no_slot l room z.kept;
        acks = rw or-false at (acks-on false (sym z.mute));
        bytes = sym (no_byte byte (first_from (drove (carried a)) (byte_of (carried a) m) 255 (i + 1) (drop (i + 1) ss))) ∙ bytes_on None (rw z.still);
      }

  -- one turn, by what was foreseen
  pub turn-nothing : (c : Change) → Foreseen c i a (get_or all i no_slot) → c ≡ change.Nothing → Turned a ss m (i + 1) all mem ack byte
  unfolding Foreseen
  turn-nothing c f e =
      let g = rw (e, old) at f in
      quietly all (t.slots ∙ map_to-same (doing a) i ss no_slot l g.0) g.1

  pub turn-to : (c : Change) (p : Phase) (r : Slot) → Foreseen c i a (get_or all i no_slot) → c ≡ change.To p → r ≡ in_phase p (get_or all i no_slot)
      → Turned a ss m (i + 1) (set all i r) mem ack byte
  unfolding Foreseen
  turn-to c p r f e q =
      let g = rw (e, old) at f in
      quietly (set all i r) (rw (q, old, ← g.0, t.slots) (map_to-step (doing a) i ss no_slot l)) g.1

  pub turn_more : (from to : ℕ) (x : Step) (q : List ℕ) → from ≡ 512 * i → to - from ≡ 512
      → x ≡ stepped i a (take (to - from) (drop from mem)) (get_or all i no_slot) → q ≡ part_next a (get_or all i no_slot) (take (to - from) (drop from mem))
      → Turned a ss m (i + 1) (set all i x.slot) (take from mem ++ (q ++ drop (to - from) (drop from mem))) (ack || x.ack) (option_or byte x.byte)
  unfolding stepped
  turn_more from to x q ef et e g =
      let part : take (to - from) (drop from mem) ≡ take 512 (drop (512 * i) m) = rw (et, ef, t.memory, parts_to-next 512 (part_next a) (length-part_next a) i ss m (omega arith)) in
      record {
        slots = rw (e, old, t.slots) (map_to-step (doing a) i ss no_slot l);
        memory = rw (g, old, t.memory) (parts_to-step 512 (part_next a) (length-part_next a) i from to ss m no_slot ef et l room);
        acks = acks-on x.ack (rw (e, old));
        bytes = bytes_on x.byte (rw (e, old, part));
      }

-- after the last turn
part_of : (m : List ℕ) (ss : List Slot) (more : Bool)
    → first_from (drove (carries.Read more)) (byte_of (carries.Read more) m) 255 0 ss ≡ first_from (λ n s. drives s) (λ n s. driven (part 512 n m) s) 255 0 ss
part_of m ss more = ap (λ (f : ℕ → Slot → ℕ). first_from (λ n s. drives s) f 255 0 ss) (λ i n s. driven (sym (part-flat 512 n m) i) s)

told : (c : Carried) (ss : List Slot) (m : List ℕ) → answer_for c (any_from (acked c) 0 ss) (first_from (drove c) (byte_of c m) 255 0 ss) ≡ shown_for c (record { slots = ss }) m
unfolding shown_for any_ack read_byte
told (carries.Byte v) ss m = refl
told (carries.Read more) ss m = ap answer.Data (part_of m ss more)
told carries.Nothing ss m = refl

pub turned-all : (a : Act) (ss : List Slot) (m : List ℕ) (i : ℕ) (all : List Slot) (mem : List ℕ) (ack : Bool) (byte : Option ℕ) (last : ℕ) (r : Answer) → i ≡ length ss
    → Turned a ss m i all mem ack byte → last ≡ unwrap_or byte 255 → r ≡ answer_for (carried a) ack last
    → taken_then (record { slots = ss }) m a ≡ (record { bus = record { slots = all }; answer = r }, mem)
unfolding taken_then bus_next shown
turned-all a ss m i all mem ack byte last r e t f g =
    let s : all ≡ map_from (doing a) 0 ss = t.slots ∙ map_to-full (doing a) 0 i ss (omega arith) in
    let o : mem ≡ memory_next a (record { slots = ss }) m = t.memory ∙ ap (λ (n : ℕ). parts_to 512 (part_next a) n ss m) e ∙ parts_to-all 512 (part_next a) ss m ∙ sym (memory-parts a (record { slots = ss }) m) in
    let k : ack ≡ any_from (acked (carried a)) 0 ss = sym (any_from-none (acked (carried a)) i ss ack (omega arith)) ∙ t.acks in
    let b : last ≡ first_from (drove (carried a)) (byte_of (carried a) m) 255 0 ss = f ∙ sym (first-none (drove (carried a)) (byte_of (carried a) m) i ss byte (omega arith)) ∙ t.bytes in
    let w : r ≡ shown a (record { slots = ss }) m = g ∙ ap (λ (x : Bool). answer_for (carried a) x last) k ∙ ap (λ (x : ℕ). answer_for (carried a) (any_from (acked (carried a)) 0 ss) x) b ∙ told (carried a) ss m in
    ap (λ (z : List Slot). (record { bus = record { slots = z }; answer = shown a (record { slots = ss }) m }, memory_next a (record { slots = ss }) m)) (sym s)
    ∙ ap (λ (z : Answer). (record { bus = record { slots = all }; answer = z }, memory_next a (record { slots = ss }) m)) (sym w)
    ∙ ap (λ (z : List ℕ). (record { bus = record { slots = all }; answer = r }, z)) (sym o)
