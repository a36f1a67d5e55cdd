-- Which events reach the memory, and which bytes: a tick and a power cycle, and of each slot whose write cycle it ends the latched bytes of its
-- page, at a power cycle the first so many of them.
-- Assumes nothing.
use Rattle.std.specs.Prelude.{Ok, Err}
use Prim.Native.Nat.{ℕ, zero, suc, ◌+◌, ◌-◌, ◌*◌, ◌<◌, ◌≤◌}
use native.Mathlib.Omega.{arith}
use mathlib.Core.Path.{◌≡◌, refl, sym, ap, ap₂, ◌∙◌}
use mathlib.Core.Bool.{Bool, true, false, false≢true, not, cond, ◌&&◌}
use mathlib.Core.List.{List}
use lib.Dec.{eqb, leb, ltb}
use lib.ListN.{length, get_or, set, length-set}
use lib.Seq.{get_or-set_same, get_or-set_other}
use borrow.Author.Tests.{eq-eqb, eqb-true, eqb-false, leb-true, ltb-true, le-leb, lt-ltb}
use Rattle.proof_lists.specs.Tests.{cond_cases, cond_same, by-test, cond-ap, and_left, and_right, both}
use Rattle.proof_lists.specs.Parts.{part, length_part, get_d_part, each_part, each_part-same, length-each_part, part-each_part}
use Rattle.rules.specs.declared.Act.{Act}
use Rattle.rules.specs.declared.Act.TheVariants.{Start, Byte, Read, Stop, Timeout, Tick, Power, Apply}
use Rattle.rules.specs.declared.Bus.{Bus}
use Rattle.rules.specs.declared.Cut.{Cut}
use Rattle.rules.specs.declared.Event.{Event}
use Rattle.rules.specs.Refusals.{Ruling}
use Rattle.rules.specs.declared.Slot.{Slot}
use Rattle.rules.specs.Modelled.{absent, slot_bytes, address_of, page_of}
use Rattle.rules.specs.Memory.{put_up_to, stored, ticked_part}
use Rattle.rules.specs.Power.{running, first_of, cut, cut_part}
use Rattle.rules.specs.Slot.{part_next}
use Rattle.rules.specs.Bus.{memory_next}
use Rattle.rules.specs.Runs.{Bench, taken, ruling_on, ruled_next, next, after}
use Rattle.rules.specs.Open.{open-fields}
use Rattle.rules.proofs.Run.Unchanged.{same_next, same_after}
use Rattle.rules.proofs.Memory.First.{first-none, first-all}

-- where the slot's page begins
abbrev pub page_start : Slot → ℕ
page_start s = (page_of (address_of s)).0

-- the act ends the slot's write cycle: its last tick, and a power cycle at any moment of it
unfoldable pub ends : Act → Slot → Bool
ends Start s = false
ends (Byte v) s = false
ends (Read more) s = false
ends Stop s = false
ends Timeout s = false
ends Tick s = eqb s.left 1
ends (Power k) s = running s
ends (Apply k x) s = false

-- how many of the latched bytes a cycle that the act ends may store
unfoldable pub storing : Act → Cut
storing Start = record { 0 = 0 }
storing (Byte v) = record { 0 = 0 }
storing (Read more) = record { 0 = 0 }
storing Stop = record { 0 = 0 }
storing Timeout = record { 0 = 0 }
storing Tick = record { 0 = 16 }
storing (Power k) = k
storing (Apply k x) = record { 0 = 0 }

-- the act ends the slot's write cycle, and not with everything lost
unfoldable pub finishes : Act → Slot → Bool
finishes a s = ends a s && not (eqb (storing a).0 0)

-- only a cycle that runs is ended
pub ends-runs : (a : Act) (s : Slot) → ends a s ≡ true → s.left ≡ 0 → ⊥
unfolding ends running
ends-runs Start s e z = false≢true e
ends-runs (Byte v) s e z = false≢true e
ends-runs (Read more) s e z = false≢true e
ends-runs Stop s e z = false≢true e
ends-runs Timeout s e z = false≢true e
ends-runs Tick s e z = let one = eqb-true s.left 1 e in omega (arith, one, z)
ends-runs (Power k) s e z = false≢true (sym (ap not (eq-eqb s.left 0 z)) ∙ e)
ends-runs (Apply k x) s e z = false≢true e

pub finishes-runs : (a : Act) (s : Slot) → finishes a s ≡ true → s.left ≡ 0 → ⊥
unfolding finishes
finishes-runs a s e z = ends-runs a s (and_left (ends a s) (not (eqb (storing a).0 0)) e) z

-- marks that agree on the page store the same, and where none is, nothing
pub put-alike : (latch : List ℕ) (p q : List Bool) (at n : ℕ) (m : List ℕ) → ((j : ℕ) → j < n → get_or p j false ≡ get_or q j false)
    → put_up_to latch p at n m ≡ put_up_to latch q at n m
unfolding put_up_to
put-alike latch p q at zero m h = refl
put-alike latch p q at (suc n) m h = rw (h n (omega arith), put-alike latch p q at n m (λ j l. h j (omega arith)))

pub put-none : (latch : List ℕ) (p : List Bool) (at n : ℕ) (m : List ℕ) → ((j : ℕ) → get_or p j false ≡ false) → put_up_to latch p at n m ≡ m
unfolding put_up_to
put-none latch p at zero m h = refl
put-none latch p at (suc n) m h = rw (h n) (put-none latch p at n m h)

-- What an act does to a slot's bytes, whatever the act: where it ends the slot's write cycle, the first so many of the latched bytes are stored.
pub part-stored : (a : Act) (s : Slot) (m : List ℕ)
    → part_next a s m ≡ cond (absent s) m (cond (ends a s) (put_up_to s.latch (first_of (storing a) s.marks) (page_start s) 16 m) m)
unfolding part_next ticked_part stored ends storing cut_part cut open-fields address_of
part-stored Start s m = sym (cond_same (absent s) m)
part-stored (Byte v) s m = sym (cond_same (absent s) m)
part-stored (Read more) s m = sym (cond_same (absent s) m)
part-stored Stop s m = sym (cond_same (absent s) m)
part-stored Timeout s m = sym (cond_same (absent s) m)
part-stored Tick s m =
    ap (λ (l : List ℕ). cond (absent s) m (cond (eqb s.left 1) l m))
    (put-alike s.latch s.marks (first_of (record { 0 = 16 }) s.marks) (page_start s) 16 m (λ j l. sym (first-all (record { 0 = 16 }) s.marks j l)))
part-stored (Power k) s m = refl
part-stored (Apply k x) s m = sym (cond_same (absent s) m)

-- an absent slot's bytes are not touched
pub absent-part : (a : Act) (s : Slot) (m : List ℕ) → absent s ≡ true → part_next a s m ≡ m
absent-part a s m e = part-stored a s m ∙ rw e

-- an act that stores none leaves every byte: every act but a tick and a power cycle with a number above 0
pub part-still : (a : Act) (s : Slot) (m : List ℕ) → (storing a).0 ≡ 0 → part_next a s m ≡ m
part-still a s m h = part-stored a s m
    ∙ ap (λ (l : List ℕ). cond (absent s) m (cond (ends a s) l m))
    (put-none s.latch (first_of (storing a) s.marks) (page_start s) 16 m (λ j. first-none (storing a) s.marks j h))
    ∙ ap (cond (absent s) m) (cond_same (ends a s) m)
    ∙ cond_same (absent s) m

-- the memory after an act is each slot's own part after it
pub memory-parts : (a : Act) (b : Bus) (m : List ℕ) → memory_next a b m ≡ each_part slot_bytes (part_next a) b.slots m
unfolding memory_next part_next
memory-parts Start b m = sym (each_part-same slot_bytes (part_next Start) (λ s p. refl) b.slots m)
memory-parts (Byte v) b m = sym (each_part-same slot_bytes (part_next (Byte v)) (λ s p. refl) b.slots m)
memory-parts (Read more) b m = sym (each_part-same slot_bytes (part_next (Read more)) (λ s p. refl) b.slots m)
memory-parts Stop b m = sym (each_part-same slot_bytes (part_next Stop) (λ s p. refl) b.slots m)
memory-parts Timeout b m = sym (each_part-same slot_bytes (part_next Timeout) (λ s p. refl) b.slots m)
memory-parts Tick b m = refl
memory-parts (Power k) b m = refl
memory-parts (Apply k x) b m = sym (each_part-same slot_bytes (part_next (Apply k x)) (λ s p. refl) b.slots m)

-- "Which events can change memory": a tick, and a power cycle with a number above 0
pub memory-still : (a : Act) (b : Bus) (m : List ℕ) → (storing a).0 ≡ 0 → memory_next a b m ≡ m
memory-still a b m h = memory-parts a b m ∙ each_part-same slot_bytes (part_next a) (λ s p. part-still a s p h) b.slots m

memory-still-ruled : (r : Ruling) (x : Bench) → ((a : Act) → r ≡ Ok a → (storing a).0 ≡ 0) → (ruled_next r x).memory ≡ x.memory
unfolding ruled_next taken
memory-still-ruled (Err r) x h = refl
memory-still-ruled (Ok a) x h = memory-still a x.bus x.memory (h a refl)

pub memory-still-next : (e : Event) (x : Bench) → ((a : Act) → ruling_on e x ≡ Ok a → (storing a).0 ≡ 0) → (next e x).memory ≡ x.memory
unfolding next
memory-still-next e x h = memory-still-ruled (ruling_on e x) x h

-- no byte is added and none is lost
pub length-put_up_to : (latch : List ℕ) (marks : List Bool) (at n : ℕ) (m : List ℕ) → length (put_up_to latch marks at n m) ≡ length m
unfolding put_up_to
length-put_up_to latch marks at zero m = refl
length-put_up_to latch marks at (suc n) m =
    cond_cases (λ (l : List ℕ). length l ≡ length m) (get_or marks n false)
    (λ e. length-set (put_up_to latch marks at n m) (at + n) (get_or latch n 0) ∙ length-put_up_to latch marks at n m)
    (λ e. length-put_up_to latch marks at n m)

pub length-part_next : (a : Act) (s : Slot) (m : List ℕ) → length (part_next a s m) ≡ length m
length-part_next a s m = ap length (part-stored a s m)
    ∙ cond_cases (λ (l : List ℕ). length l ≡ length m) (absent s) (λ e. refl) λ e.
    cond_cases (λ (l : List ℕ). length l ≡ length m) (ends a s)
    (λ e. length-put_up_to s.latch (first_of (storing a) s.marks) (page_start s) 16 m) (λ e. refl)

memory-length : (a : Act) (x : Bench) → length (taken a x).memory ≡ length x.memory
unfolding taken
memory-length a x = ap length (memory-parts a x.bus x.memory) ∙ length-each_part slot_bytes (part_next a) (length-part_next a) x.bus.slots x.memory

pub memory-length-next : (e : Event) (x : Bench) → length (next e x).memory ≡ length x.memory
memory-length-next = same_next (λ (x : Bench). length x.memory) memory-length

pub memory-length-after : (es : List Event) (x : Bench) → length (after es x).memory ≡ length x.memory
memory-length-after = same_after (λ (x : Bench). length x.memory) memory-length

-- slot k's own part of the memory, after an act
pub part-next : (a : Act) (b : Bus) (m : List ℕ) (k : ℕ) (z : Slot) → k < length b.slots
    → part slot_bytes k (memory_next a b m) ≡ part_next a (get_or b.slots k z) (part slot_bytes k m)
part-next a b m k z h = ap (part slot_bytes k) (memory-parts a b m) ∙ part-each_part slot_bytes (part_next a) (length-part_next a) b.slots m k z h

-- a is one of the n places from `at` on
unfoldable pub within : ℕ → ℕ → ℕ → Bool
within at n a = leb at a && ltb a (at + n)

within-true : (at n a : ℕ) → within at n a ≡ true → (at ≤ a) × (a < at + n)
unfolding within
within-true at n a e = (leb-true at a (and_left (leb at a) (ltb a (at + n)) e), ltb-true a (at + n) (and_right (leb at a) (ltb a (at + n)) e))

within-false : (at n a : ℕ) → within at n a ≡ false → at ≤ a → a < at + n → ⊥
unfolding within
within-false at n a e p q = false≢true (sym e ∙ both (leb at a) (ltb a (at + n)) (le-leb at a p) (lt-ltb a (at + n) q))

module _ (latch : List ℕ) (marks : List Bool) (at : ℕ) (m : List ℕ) (a d : ℕ) where
  put-beside : (n : ℕ) → (a ≡ at + n → ⊥) → get_or (put_up_to latch marks at (suc n) m) a d ≡ get_or (put_up_to latch marks at n m) a d
  unfolding put_up_to
  put-beside n h =
      cond_cases (λ (l : List ℕ). get_or l a d ≡ get_or (put_up_to latch marks at n m) a d) (get_or marks n false)
      (λ e. get_or-set_other (put_up_to latch marks at n m) (at + n) a (get_or latch n 0) d h) (λ e. refl)

  pub put-elsewhere : (n : ℕ) → (at ≤ a → a < at + n → ⊥) → get_or (put_up_to latch marks at n m) a d ≡ get_or m a d
  unfolding put_up_to
  put-elsewhere zero h = refl
  put-elsewhere (suc n) h = put-beside n (λ e. h (omega arith) (omega arith)) ∙ put-elsewhere n (λ p q. h p (omega arith))

  pub put-here : (n : ℕ) → at ≤ a → a < at + n → a < length m
      → get_or (put_up_to latch marks at n m) a d ≡ cond (get_or marks (a - at) false) (get_or latch (a - at) 0) (get_or m a d)
  unfolding put_up_to
  put-here zero p q h = absurd (omega arith)
  put-here (suc n) p q h = by-test (eqb a (at + n))
      (λ e. let f : a - at ≡ n = omega (arith, eqb-true) in
      let g : at + n ≡ a = omega arith in
      let old = put_up_to latch marks at n m in
      rw (f, g) (cond-ap (λ (l : List ℕ). get_or l a d) (get_or marks n false) (set old a (get_or latch n 0)) old
      ∙ ap₂ (cond (get_or marks n false)) (get_or-set_same old a (get_or latch n 0) d (rw length-put_up_to h)) (put-elsewhere n (λ p q. omega arith))))
      (λ e. put-beside n (eqb-false a (at + n) e) ∙ put-here n p (omega (arith, eqb-false a (at + n) e)) h)

  -- at each place the latch's byte if it is marked, else the old one
  pub put-at : (n : ℕ) → a < length m
      → get_or (put_up_to latch marks at n m) a d ≡ cond (within at n a && get_or marks (a - at) false) (get_or latch (a - at) 0) (get_or m a d)
  put-at n h = by-test (within at n a)
      (λ e. let w = within-true at n a e in rw e (put-here n w.0 w.1 h)) (λ e. rw e (put-elsewhere n (within-false at n a e)))

-- an act puts a byte at the slot's place i: the slot is there, its write cycle ends, i is in the page, and its byte is one of those stored
unfoldable pub lands_at : Act → Slot → ℕ → Bool
lands_at a s i = not (absent s) && ends a s && within (page_start s) 16 i && get_or (first_of (storing a) s.marks) (i - page_start s) false

-- the byte at the slot's place i after an act, where `old` stood: the latched one or the old one
unfoldable pub byte_after : Act → Slot → ℕ → ℕ → ℕ
byte_after a s i old = cond (lands_at a s i) (get_or s.latch (i - page_start s) 0) old

pub part-byte : (a : Act) (s : Slot) (m : List ℕ) (i d : ℕ) → i < length m → get_or (part_next a s m) i d ≡ byte_after a s i (get_or m i d)
unfolding byte_after lands_at
part-byte a s m i d h = ap (λ (l : List ℕ). get_or l i d) (part-stored a s m) ∙ by-test (absent s) (λ e. rw e) λ e.
    by-test (ends a s) (λ f. rw (e, f) (put-at s.latch (first_of (storing a) s.marks) (page_start s) m i d 16 h)) (λ f. rw (e, f))

-- place i of slot k in the bus's memory
pub act-byte : (a : Act) (b : Bus) (m : List ℕ) (k i d : ℕ) (z : Slot) → k < length b.slots → i < slot_bytes → slot_bytes * k + i < length m
    → get_or (memory_next a b m) (slot_bytes * k + i) d ≡ byte_after a (get_or b.slots k z) i (get_or m (slot_bytes * k + i) d)
act-byte a b m k i d z h l n =
    let s = get_or b.slots k z in
    let own = part slot_bytes k m in
    sym (get_d_part slot_bytes k (memory_next a b m) i d l)
    ∙ ap (λ (p : List ℕ). get_or p i d) (part-next a b m k z h)
    ∙ part-byte a s own i d (rw length_part (omega arith))
    ∙ ap (byte_after a s i) (get_d_part slot_bytes k m i d l)

-- the same of an event
pub next-byte : (e : Event) (x : Bench) (a : Act) (k i d : ℕ) (z : Slot) → ruling_on e x ≡ Ok a
    → k < length x.bus.slots → i < slot_bytes → slot_bytes * k + i < length x.memory
    → get_or (next e x).memory (slot_bytes * k + i) d ≡ byte_after a (get_or x.bus.slots k z) i (get_or x.memory (slot_bytes * k + i) d)
unfolding next ruled_next taken
next-byte e x a k i d z t h l n =
    ap (λ (r : Ruling). get_or (ruled_next r x).memory (slot_bytes * k + i) d) t ∙ act-byte a x.bus x.memory k i d z h l n
