-- Request P3, "Power lost in a write cycle", sentence by sentence, of every slot that can be handed in, and of the bus.
-- Assumes nothing.
use Rattle.std.specs.Prelude.{Ok}
use Prim.Native.Nat.{ℕ, zero, suc, ◌+◌, ◌-◌, ◌*◌, ◌<◌, ◌≤◌}
use native.Mathlib.Nat.{zero-add, suc-add}
use native.Mathlib.Omega.{arith}
use mathlib.Core.Path.{◌≡◌, refl, sym, ap, ap₂, ◌∙◌}
use mathlib.Core.Logic.{◌⊎◌, inl, inr, ⊎_elim}
use mathlib.Core.Bool.{Bool, true, false, not, cond, ◌&&◌, and-false}
use mathlib.Core.List.{List, [], ◌∷◌, ◌++◌, map}
use lib.Dec.{eqb}
use lib.ListN.{length, get_or, take, drop, replicate}
use borrow.Author.Tests.{eq-eqb, ne_eqb}
use Rattle.proof_lists.specs.Tests.{cond-true, cond-false, by-test, and_left, and_right, both}
use Rattle.proof_lists.specs.Parts.{part, length_part, get_d_part}
use Rattle.rules.specs.declared.Act.TheVariants.{Tick, Power}
use Rattle.rules.specs.declared.Cut.{Cut}
use Rattle.rules.specs.declared.Event.{Event}
use Rattle.rules.specs.Refusals.{Ruling}
use Rattle.rules.specs.declared.Slot.{Slot}
use Rattle.rules.specs.Modelled.{absent, slot_bytes, address_of, older}
use Rattle.rules.specs.Fields.{at_counter, with_left, expecting, latched}
use Rattle.rules.specs.Fresh.{fresh_slot, powered}
use Rattle.rules.specs.Memory.{stored}
use Rattle.rules.specs.Power.{running, latched_below, first_of, cut, power_cut, cut_part, finished}
use Rattle.rules.specs.Slot.{present_next, slot_next, part_next}
use Rattle.rules.specs.Bus.{memory_next}
use Rattle.rules.specs.Runs.{Bench, taken, ruling_on, ruled_next, next, slot_after, part_after}
use Rattle.rules.specs.Open.{open-fields, open-memory, open-all}
use Rattle.rules.proofs.Run.Cases.{present-next}
use Rattle.rules.proofs.Run.Joined.{slots-joined, parts-joined}
use Rattle.rules.proofs.Memory.First.{below-at-most, were-latched, among, first-enough}
use Rattle.rules.proofs.Memory.Stored.{page_start, ends, storing, put-alike, put-at, part-still, part-next, within, lands_at, byte_after, part-byte}
use Rattle.rules.proofs.Document.Cycle.{ticks, idle-slot, idle-part, waiting, waiting-part}
use Rattle.rules.proofs.Document.Cycle as cycle

-- P3 with its numbers, on one slot that is handed in: bytes latched at 1h, 3h, Eh and Fh of the page at 20h, where 11h stood, and block 2 to be
-- protected beside them. The page after a cut with 0, 1, 2, 3, 4, 5 and 16, and with 4 where no cycle runs
abbrev cutting : ℕ → Slot
cutting left =
    with_left left (expecting (false ∷ false ∷ true ∷ false ∷ []) (at_counter 0x24
    (latched (0x00 ∷ 0xA1 ∷ 0x00 ∷ 0xA3 ∷ 0x00 ∷ 0x00 ∷ 0x00 ∷ 0x00 ∷ 0x00 ∷ 0x00 ∷ 0x00 ∷ 0x00 ∷ 0x00 ∷ 0x00 ∷ 0xAE ∷ 0xAF ∷ [])
    (false ∷ true ∷ false ∷ true ∷ false ∷ false ∷ false ∷ false ∷ false ∷ false ∷ false ∷ false ∷ false ∷ false ∷ true ∷ true ∷ []) (fresh_slot 1 3))))

abbrev page_left : ℕ × ℕ → List ℕ
page_left p = take 16 (drop 0x20 (part_next (Power (record { 0 = p.0 })) (cutting p.1) (replicate 0x40 0x11)))

pub pages : map page_left ((0, 3) ∷ (1, 3) ∷ (2, 3) ∷ (3, 2) ∷ (4, 1) ∷ (5, 1) ∷ (16, 1) ∷ (4, 0) ∷ [])
    ≡ (0x11 ∷ 0x11 ∷ 0x11 ∷ 0x11 ∷ 0x11 ∷ 0x11 ∷ 0x11 ∷ 0x11 ∷ 0x11 ∷ 0x11 ∷ 0x11 ∷ 0x11 ∷ 0x11 ∷ 0x11 ∷ 0x11 ∷ 0x11 ∷ [])
    ∷ (0x11 ∷ 0xA1 ∷ 0x11 ∷ 0x11 ∷ 0x11 ∷ 0x11 ∷ 0x11 ∷ 0x11 ∷ 0x11 ∷ 0x11 ∷ 0x11 ∷ 0x11 ∷ 0x11 ∷ 0x11 ∷ 0x11 ∷ 0x11 ∷ [])
    ∷ (0x11 ∷ 0xA1 ∷ 0x11 ∷ 0xA3 ∷ 0x11 ∷ 0x11 ∷ 0x11 ∷ 0x11 ∷ 0x11 ∷ 0x11 ∷ 0x11 ∷ 0x11 ∷ 0x11 ∷ 0x11 ∷ 0x11 ∷ 0x11 ∷ [])
    ∷ (0x11 ∷ 0xA1 ∷ 0x11 ∷ 0xA3 ∷ 0x11 ∷ 0x11 ∷ 0x11 ∷ 0x11 ∷ 0x11 ∷ 0x11 ∷ 0x11 ∷ 0x11 ∷ 0x11 ∷ 0x11 ∷ 0xAE ∷ 0x11 ∷ [])
    ∷ (0x11 ∷ 0xA1 ∷ 0x11 ∷ 0xA3 ∷ 0x11 ∷ 0x11 ∷ 0x11 ∷ 0x11 ∷ 0x11 ∷ 0x11 ∷ 0x11 ∷ 0x11 ∷ 0x11 ∷ 0x11 ∷ 0xAE ∷ 0xAF ∷ [])
    ∷ (0x11 ∷ 0xA1 ∷ 0x11 ∷ 0xA3 ∷ 0x11 ∷ 0x11 ∷ 0x11 ∷ 0x11 ∷ 0x11 ∷ 0x11 ∷ 0x11 ∷ 0x11 ∷ 0x11 ∷ 0x11 ∷ 0xAE ∷ 0xAF ∷ [])
    ∷ (0x11 ∷ 0xA1 ∷ 0x11 ∷ 0xA3 ∷ 0x11 ∷ 0x11 ∷ 0x11 ∷ 0x11 ∷ 0x11 ∷ 0x11 ∷ 0x11 ∷ 0x11 ∷ 0x11 ∷ 0x11 ∷ 0xAE ∷ 0xAF ∷ [])
    ∷ (0x11 ∷ 0x11 ∷ 0x11 ∷ 0x11 ∷ 0x11 ∷ 0x11 ∷ 0x11 ∷ 0x11 ∷ 0x11 ∷ 0x11 ∷ 0x11 ∷ 0x11 ∷ 0x11 ∷ 0x11 ∷ 0x11 ∷ 0x11 ∷ [])
    ∷ []
unfolding open-all part_next
pages = refl

-- and the protection after it
abbrev protection_left : ℕ × ℕ → List Bool
protection_left p = (slot_next 0 (Power (record { 0 = p.0 })) (cutting p.1)).protection

pub protections : map protection_left ((0, 3) ∷ (1, 3) ∷ (16, 1) ∷ (1, 0) ∷ [])
    ≡ (false ∷ false ∷ false ∷ false ∷ []) ∷ (false ∷ false ∷ true ∷ false ∷ []) ∷ (false ∷ false ∷ true ∷ false ∷ []) ∷ (false ∷ false ∷ false ∷ false ∷ []) ∷ []
unfolding open-all
protections = refl

-- "Without a running cycle the number has no effect.": the slot is as document 01's power cycle leaves it, and its bytes stay
pub no-cycle : (n : ℕ) (k : Cut) (s : Slot) (m : List ℕ) → absent s ≡ false → running s ≡ false → (slot_next n (Power k) s ≡ powered s) × (part_next (Power k) s m ≡ m)
unfolding present_next power_cut finished part_next cut_part
no-cycle n k s m a e = (present-next n (Power k) s a ∙ rw e, rw (a, e))

-- "of the bytes latched in a running cycle, in ascending page offset, the first so many are stored and the rest are lost": at the place i of the
-- slot, in the page and out of it. That they are so many, and the first: `Memory/First.so-many`, `in_order`.
pub cut-byte : (k : Cut) (s : Slot) (m : List ℕ) (i d : ℕ) → i < length m → absent s ≡ false → running s ≡ true
    → get_or (part_next (Power k) s m) i d
    ≡ cond (within (page_start s) 16 i && get_or (first_of k s.marks) (i - page_start s) false) (get_or s.latch (i - page_start s) 0) (get_or m i d)
unfolding byte_after lands_at ends storing
cut-byte k s m i d l a e = part-byte (Power k) s m i d l ∙ rw (a, e)

-- a number that is not below that of the latched bytes stores them all: it is the end of the cycle
pub enough : (k : Cut) (s : Slot) (m : List ℕ) → absent s ≡ false → running s ≡ true → latched_below s.marks 16 ≤ k.0 → part_next (Power k) s m ≡ stored s m
unfolding part_next cut_part stored cut open-fields address_of
enough k s m a e l = rw (a, e) (put-alike s.latch (first_of k s.marks) s.marks (page_start s) 16 m (λ j h. first-enough k s.marks 16 j l h))

-- the bytes stored for a number are among those for every higher one
pub more-stored : (k l : Cut) (s : Slot) (i : ℕ) → k.0 ≤ l.0 → lands_at (Power k) s i ≡ true → lands_at (Power l) s i ≡ true
unfolding lands_at ends storing
more-stored k l s i h e =
    let here : Bool = not (absent s) && running s && within (page_start s) 16 i in
    let j : ℕ = i - page_start s in
    both here (get_or (first_of l s.marks) j false) (and_left here (get_or (first_of k s.marks) j false) e)
    (among k l s.marks j h (and_right here (get_or (first_of k s.marks) j false) e))

-- what the end of the cycle would put there
stored-byte : (s : Slot) (m : List ℕ) (i d : ℕ) → i < length m
    → get_or (stored s m) i d ≡ cond (within (page_start s) 16 i && get_or s.marks (i - page_start s) false) (get_or s.latch (i - page_start s) 0) (get_or m i d)
unfolding stored
stored-byte s m i d l = put-at s.latch s.marks (page_start s) m i d 16 l

-- "After a cut at any moment each byte of the page is old or new and every other byte is old.": the moment is any state of the slot, and new is
-- what the end of its cycle would put there
pub old-or-new : (k : Cut) (s : Slot) (m : List ℕ) (i d : ℕ) → i < length m
    → (get_or (part_next (Power k) s m) i d ≡ get_or m i d) ⊎ ((within (page_start s) 16 i ≡ true) × (get_or (part_next (Power k) s m) i d ≡ get_or (stored s m) i d))
unfolding byte_after lands_at storing
old-or-new k s m i d l = by-test (lands_at (Power k) s i)
    (λ e. let here : Bool = not (absent s) && ends (Power k) s in
    let j : ℕ = i - page_start s in
    let w : within (page_start s) 16 i ≡ true = and_right here (within (page_start s) 16 i) (and_left (here && within (page_start s) 16 i) (get_or (first_of k s.marks) j false) e) in
    let f : get_or s.marks j false ≡ true = were-latched k s.marks j (and_right (here && within (page_start s) 16 i) (get_or (first_of k s.marks) j false) e) in
    inr (w, part-byte (Power k) s m i d l ∙ cond-true (lands_at (Power k) s i) _ _ e ∙ sym (stored-byte s m i d l ∙ cond-true _ _ _ (both (within (page_start s) 16 i) (get_or s.marks j false) w f))))
    (λ e. inl (part-byte (Power k) s m i d l ∙ cond-false (lands_at (Power k) s i) _ _ e))

-- the same of an event, on the bench: place i of slot q
pub cut-bench : (e : Event) (x : Bench) (k : Cut) (q i d : ℕ) (z : Slot) → ruling_on e x ≡ Ok (Power k)
    → q < length x.bus.slots → i < slot_bytes → slot_bytes * q + i < length x.memory
    → let s : Slot = get_or x.bus.slots q z in
    let old : ℕ = get_or x.memory (slot_bytes * q + i) d in
    let after : ℕ = get_or (next e x).memory (slot_bytes * q + i) d in
    (after ≡ old) ⊎ ((within (page_start s) 16 i ≡ true) × (after ≡ get_or (stored s (part slot_bytes q x.memory)) i d))
unfolding next ruled_next taken
cut-bench e x k q i d z r h l n =
    let s : Slot = get_or x.bus.slots q z in
    let own : List ℕ = part slot_bytes q x.memory in
    let same : get_or (next e x).memory (slot_bytes * q + i) d ≡ get_or (part_next (Power k) s own) i d =
    ap (λ (y : Ruling). get_or (ruled_next y x).memory (slot_bytes * q + i) d) r
    ∙ sym (get_d_part slot_bytes q (memory_next (Power k) x.bus x.memory) i d l)
    ∙ ap (λ (p : List ℕ). get_or p i d) (part-next (Power k) x.bus x.memory q z h) in
    ⊎_elim (λ f. inl (same ∙ f ∙ get_d_part slot_bytes q x.memory i d l)) (λ f. inr (f.0, same ∙ f.1)) (old-or-new k s own i d (rw length_part (omega arith)))

-- with 0 it is document 01's power cycle: the running cycle is dropped, the old protection and the old bytes stay
pub with_none : (n : ℕ) (k : Cut) (s : Slot) (m : List ℕ) → absent s ≡ false → k.0 ≡ 0 → (slot_next n (Power k) s ≡ powered s) × (part_next (Power k) s m ≡ m)
unfolding present_next power_cut finished storing
with_none n k s m a z = (
  present-next n (Power k) s a ∙ rw (eq-eqb k.0 0 z, and-false (running s)),
  part-still (Power k) s m z,
)

ticks-more : (l d : ℕ) → ticks (l + d) ≡ ticks l ++ ticks d
ticks-more zero d = rw zero-add
ticks-more (suc l) d = rw suc-add (ap (Tick ∷◌) (ticks-more l d))

-- with 16 it is the end of the cycle, at the last of the ticks that are left, and then document 01's power cycle; so with every number from 16 on
module _ (n : ℕ) (k none : Cut) (enough16 : 16 ≤ k.0) (nothing : none.0 ≡ 0) where
  all-slot : (l : ℕ) (s : Slot) → s.left ≡ l → absent s ≡ false → slot_next n (Power k) s ≡ slot_next n (Power none) (slot_after n (ticks l) s)
  unfolding slot_after present_next power_cut powered finished running absent open-fields open-memory
  all-slot zero s e a =
      let rests : running s ≡ false = rw (eq-eqb s.left 0 e) in
      (no-cycle n k s [] a rests).0 ∙ sym (no-cycle n none s [] a rests).0
  all-slot (suc j) s e a =
      let runs : eqb s.left 0 ≡ false = ne_eqb s.left 0 (λ z. omega arith) in
      let some : eqb k.0 0 ≡ false = ne_eqb k.0 0 (λ z. omega arith) in
      let over : slot_after n (ticks (suc j)) s ≡ _ = cycle.ends n j s a e in
      present-next n (Power k) s a ∙ rw (runs, some) (sym (ap (slot_next n (Power none)) over ∙ present-next n (Power none) _ a))

  all-part : (l : ℕ) (s : Slot) (m : List ℕ) → s.left ≡ l → absent s ≡ false → part_next (Power k) s m ≡ part_after n (ticks l) s m
  unfolding part_after running
  all-part zero s m e a = (no-cycle n k s m a (rw (eq-eqb s.left 0 e))).1
  all-part (suc j) s m e a =
      let most = below-at-most s.marks 16 in
      enough k s m a (rw (ne_eqb s.left 0 (λ z. omega arith))) (omega arith) ∙ sym (cycle.ends-part n j s m a e)

  pub with_all : (s : Slot) (m : List ℕ) → absent s ≡ false
      → (slot_next n (Power k) s ≡ slot_next n (Power none) (slot_after n (ticks s.left) s)) × (part_next (Power k) s m ≡ part_after n (ticks s.left) s m)
  with_all s m a = (all-slot s.left s refl a, all-part s.left s m refl a)

  -- and further ticks, which find no cycle, make no difference
  over : (l : ℕ) (s : Slot) → s.left ≡ l → absent s ≡ false → (slot_after n (ticks l) s).left ≡ 0
  unfolding slot_after open-fields open-memory
  over zero s e a = e
  over (suc j) s e a = ap (λ (r : Slot). r.left) (cycle.ends n j s a e)

  pub with-all-later : (d : ℕ) (s : Slot) (m : List ℕ) → absent s ≡ false
      → (slot_next n (Power k) s ≡ slot_next n (Power none) (slot_after n (ticks (s.left + d)) s)) × (part_next (Power k) s m ≡ part_after n (ticks (s.left + d)) s m)
  with-all-later d s m a =
      let left : ℕ = s.left in
      let o = over left s refl a in
      rw (ticks-more left d) (
        all-slot left s refl a ∙ ap (slot_next n (Power none)) (sym (slots-joined n (ticks left) (ticks d) s ∙ idle-slot n d _ o)),
        all-part left s m refl a ∙ sym (parts-joined n (ticks left) (ticks d) s m ∙ idle-part n d _ _ o),
      )

-- "at any moment": ticks that do not end the cycle make no difference to what a cut leaves
pub at-any-moment : (n : ℕ) (k : Cut) (j : ℕ) (s : Slot) (m : List ℕ) → absent s ≡ false → j < s.left
    → (slot_next n (Power k) (slot_after n (ticks j) s) ≡ slot_next n (Power k) s)
    × (part_next (Power k) (slot_after n (ticks j) s) (part_after n (ticks j) s m) ≡ part_next (Power k) s m)
unfolding present_next power_cut powered finished running part_next cut_part cut stored address_of absent older open-fields open-memory
at-any-moment n k j s m a l =
    let rest : ℕ = s.left - suc j in
    let e : s.left ≡ j + suc rest = omega arith in
    let runs : running s ≡ true = rw (ne_eqb s.left 0 (λ z. omega arith)) in
    let still : running (with_left (suc rest) s) ≡ true = rw (ne_eqb (suc rest) 0 (λ z. omega arith)) in (
      ap (slot_next n (Power k)) (waiting n rest j s a e) ∙ present-next n (Power k) _ a ∙ rw still (by-test (not (eqb k.0 0)) (λ z. rw z (sym (present-next n (Power k) s a ∙ rw (runs, z)))) (λ z. rw z (sym (present-next n (Power k) s a ∙ rw (runs, z))))),
      ap₂ (part_next (Power k)) (waiting n rest j s a e) (waiting-part n rest j s m a e) ∙ rw (a, still, runs),
    )
