-- A whole page written: from any phase, a start, the slot's control byte, the page's first counter, sixteen bytes, a stop, the slot's ticks. One lemma
-- about one slot, for every slot in no cycle, every page of its standing half in a block without protection, and every sixteen bytes.
-- Assumes nothing.
use Prim.Native.Nat.{ℕ, suc, ◌+◌, ◌-◌, ◌*◌, ◌/◌, ◌%◌, ◌<◌, ◌≤◌}
use native.Mathlib.Omega.{arith}
use native.Mathlib.Nat.{add-zero}
use mathlib.Core.Path.{◌≡◌, refl, sym, ◌∙◌, ap, subst}
use mathlib.Core.Bool.{Bool, true, false, or-false}
use mathlib.Core.List.{List, [], ◌∷◌, ◌++◌, map, append-nil}
use lib.Dec.{eqb}
use lib.ListN.{length, get_or, set, replicate, drop_of_length-le}
use lib.Seq.{sets, sets-eq}
use borrow.Author.Tests.{eq-eqb}
use Rattle.proof_lists.specs.Each.{any_from}
use Rattle.rules.specs.declared.Act.{Act}
use Rattle.rules.specs.declared.Act.TheVariants.{Start, Byte, Stop, Tick}
use Rattle.rules.specs.declared.Heard.TheVariants.{Memory}
use Rattle.rules.specs.declared.Phase.{Phase}
use Rattle.rules.specs.declared.Phase.TheVariants.{Idle, Control, MemoryCounter, MemoryData}
use Rattle.rules.specs.declared.Slot.{Slot}
use Rattle.rules.specs.Modelled.{slot_count, absent, older, address_of, block_of, page_of}
use Rattle.rules.specs.Open.{open-fields, open-memory}
use Rattle.rules.specs.Fields.{in_phase, in_half, at_counter, with_left, expecting, latched, placed}
use Rattle.rules.specs.Control.{protects, select_of, heard_of, acks_control, obeyed, controlled}
use Rattle.rules.specs.Memory.{abandoned, cancelled, up_in_page, pin_on, guarded, any_mark, ended, put_up_to, stored}
use Rattle.rules.specs.Slot.{with_sensor_in, standing, let_go, byte_in, acks_in, present_next, slot_next, part_next, acks}
use Rattle.runs.specs.Exchanges.{alone_for, shown_alone}
use Rattle.rules.proofs.Run.Cases.{let-go-cases, present-next, byte_next}
use Rattle.rules.proofs.Document.Exchange.{counter-byte, data-byte, stop-begins}
use Rattle.rules.proofs.Document.Commands.{memory-family, memory-acked, heard-alike}
use Rattle.plan_rules.specs.Plan.{page_half, page_block, page_counter}
use Rattle.plan_rules.specs.Effect.{leaving, rested}
use Rattle.plan_rules.proofs.LetGo.{let-go-lasts}
use Rattle.plan_rules.proofs.Ran.{Ran, due_for, due_to, ran-none, ran-joined, ran_on, ran_begins, ran-ticks}

-- what a page can be written to: a present slot, no older module, in no cycle, that stands in the page's half, with its arrays, and the page's block
-- without protection (over the fields, so that a step which replaces others needs no word)
pub record FreeAt (wanted block kind count left half' : ℕ) (protection : List Bool) (latch : List ℕ) (marks' : List Bool) : Type 0 where
  pub present : eqb kind 0 ≡ false
  pub newer : eqb kind 3 ≡ false
  pub no-ticks : left ≡ 0
  pub lasts : count ≡ 0 → ⊥
  pub half : half' ≡ wanted
  pub unguarded : get_or protection block false ≡ false
  pub bytes : length latch ≡ 16
  pub marks : length marks' ≡ 16

abbrev pub FreeIn : ℕ → ℕ → Slot → Type 0
FreeIn wanted block s = FreeAt wanted block s.kind s.length s.left s.half s.protection s.latch s.marks

abbrev pub Free : ℕ → Slot → Type 0
Free p s = FreeIn (p / 16) (p / 8) s

-- what is let go is none of that
pub let-go-free : (h b : ℕ) (s : Slot) → FreeIn h b s → FreeIn h b (let_go (standing s) s)
unfolding open-memory open-fields
let-go-free h b s f = let-go-cases (FreeIn h b) (standing s) s f f (record { present = f.present; newer = f.newer; no-ticks = f.no-ticks; lasts = f.lasts; half = f.half; unguarded = f.unguarded; bytes = refl; marks = refl }) f

-- the acts of a page
abbrev pub bytes_acts : List ℕ → List Act
bytes_acts bs = map Byte bs

abbrev pub page_acts : ℕ → ℕ → List ℕ → ℕ → List Act
page_acts k c bs count = Start ∷ Byte (0xA0 + 2 * k) ∷ Byte c ∷ bytes_acts bs ++ Stop ∷ replicate count Tick

-- an acknowledged byte shows as one
pub acked : (n b : ℕ) (s : Slot) (m : List ℕ) → acks n b s ≡ true → shown_alone n (Byte b) s m ≡ due_to (Byte b)
unfolding shown_alone alone_for due_for
acked n b s m e = rw e

-- a slot that takes data: at the counter c, with so much latched
abbrev taking : ℕ → List ℕ → List Bool → Slot → Slot
taking c latch marks u = in_phase MemoryData (placed (c % 16) (at_counter c (latched latch marks u)))

-- what the page's cycle stores: sixteen bytes, all marked, at the page's place
abbrev pub page_put : ℕ → List ℕ → List ℕ → List ℕ
page_put p bs m = put_up_to bs (map (λ b. true) bs) (16 * p) 16 m

-- the slot when the page p is written, from the slot u that has let go what it held
abbrev written : ℕ → Slot → Slot
written p u = with_left 0 (cancelled (abandoned (at_counter (page_counter p) (in_half (page_half p) (in_phase Idle u)))))

module _ (k p : ℕ) (u : Slot) (f : Free p u) where
  -- the counter after j bytes of the page: it goes up, and wraps after the sixteenth
  abbrev counter_at : ℕ → ℕ
  counter_at j = page_counter p + j % 16

  taking-stands : (c : ℕ) (l : List ℕ) (w : List Bool) → standing (taking c l w u) ≡ MemoryData
  unfolding standing absent open-fields
  taking-stands c l w = rw f.present

  taking-open : (j : ℕ) (l : List ℕ) (w : List Bool) → guarded (taking (counter_at j) l w u) ≡ false
  unfolding guarded pin_on older protects block_of address_of page_block page_counter page_half open-fields
  taking-open j l w =
      let e : (256 * u.half + counter_at j) / 128 ≡ p / 8 = rw f.half (omega arith) in
      rw (e, f.unguarded, f.newer)

  goes-up : (j : ℕ) → j < 16 → up_in_page (counter_at j) ≡ counter_at (suc j)
  unfolding up_in_page page_counter
  goes-up j h = omega arith

  offset : (j : ℕ) → j < 16 → counter_at j % 16 ≡ j
  unfolding page_counter
  offset j h = omega arith

  -- one byte, and the bytes one after the other
  taken-byte : (b j : ℕ) (l : List ℕ) (w : List Bool) → j < 16
      → slot_next k (Byte b) (taking (counter_at j) l w u) ≡ taking (counter_at (suc j)) (set l j b) (set w j true) u
  unfolding open-fields
  taken-byte b j l w h =
      (data-byte k b (taking (counter_at j) l w u) (taking-stands (counter_at j) l w) (taking-open j l w)).1
      ∙ rw (goes-up j h, offset j h)

  taken-bytes : (bs : List ℕ) (j : ℕ) (l : List ℕ) (w : List Bool) (m : List ℕ) → j + length bs ≤ 16
      → Ran k (bytes_acts bs) (taking (counter_at j) l w u) m (taking (counter_at (j + length bs)) (sets l j bs) (sets w j (map (λ b. true) bs)) u) m []
  unfolding part_next open-fields
  taken-bytes [] j l w m h = subst (λ (i : ℕ). Ran k [] (taking (counter_at j) l w u) m (taking (counter_at i) l w u) m []) (sym (add-zero j)) (ran-none k _ m)
  taken-bytes (b ∷ bs) j l w m h =
      ran_on k (Byte b) (taken-byte b j l w (omega arith)) refl
      (acked k b (taking (counter_at j) l w u) m (data-byte k b (taking (counter_at j) l w u) (taking-stands (counter_at j) l w) (taking-open j l w)).0)
      f.no-ticks
      (subst (λ (i : ℕ). Ran k (bytes_acts bs) (taking (counter_at (suc j)) (set l j b) (set w j true) u) m (taking (counter_at i) (sets (set l j b) (suc j) bs) (sets (set w j true) (suc j) (map (λ b. true) bs)) u) m []) (omega arith)
      (taken-bytes bs (suc j) (set l j b) (set w j true) m (omega arith)))

  -- all sixteen: the latch is the page, and every place of it is marked
  module _ (bs : List ℕ) (sixteen : length bs ≡ 16) where
    abbrev all_marked : List Bool
    all_marked = map (λ b. true) bs

    overwritten : {A : Type 0} (l vs : List A) → length l ≡ 16 → length vs ≡ 16 → sets l 0 vs ≡ vs
    overwritten l vs e g =
        sets-eq vs l 0 (omega arith) ∙ ap (vs ++◌) (drop_of_length-le l {i = 0 + length vs} (omega arith)) ∙ append-nil vs

    marked-length : (l : List ℕ) → length (map (λ b. true) l) ≡ length l
    marked-length [] = refl
    marked-length (x ∷ l) = ap suc (marked-length l)

    pub page-taken : (m : List ℕ) → Ran k (bytes_acts bs) (taking (page_counter p) u.latch u.marks u) m (taking (page_counter p) bs all_marked u) m []
    page-taken m =
        let begin : counter_at 0 ≡ page_counter p = omega arith in
        let end : counter_at (0 + length bs) ≡ page_counter p = rw sixteen (omega arith) in
        let all : Ran k (bytes_acts bs) (taking (counter_at 0) u.latch u.marks u) m (taking (counter_at (0 + length bs)) (sets u.latch 0 bs) (sets u.marks 0 all_marked) u) m []
        = taken-bytes bs 0 u.latch u.marks m (omega arith) in
        rw (begin, end, overwritten u.latch bs f.bytes sixteen, overwritten u.marks all_marked f.marks (marked-length bs ∙ sixteen)) at all

    -- the stop and the ticks
    abbrev begun_slot : Slot
    begun_slot = in_phase Idle (with_left u.length (placed 0 (expecting u.protection (taking (page_counter p) bs all_marked u))))

    some-mark : (l : List ℕ) → (length l ≡ 0 → ⊥) → any_mark (map (λ b. true) l) ≡ true
    unfolding any_mark any_from
    some-mark [] e = absurd (e refl)
    some-mark (x ∷ l) e = refl

    page-begun : slot_next k Stop (taking (page_counter p) bs all_marked u) ≡ begun_slot
    unfolding open-fields
    page-begun = stop-begins k (taking (page_counter p) bs all_marked u) (taking-stands (page_counter p) bs all_marked) (some-mark bs (λ e. omega arith))

    begun-address : (address_of begun_slot).0 ≡ 16 * p
    unfolding address_of page_counter open-fields
    begun-address = rw f.half (omega arith)

    begun-stored : (m : List ℕ) → stored begun_slot m ≡ page_put p bs m
    unfolding stored page_of open-fields
    begun-stored m = ap (λ (n : ℕ). put_up_to bs all_marked n 16 m) (ap (λ (n : ℕ). n / 16 * 16) begun-address ∙ omega arith)

    ended-slot : ended begun_slot ≡ written p u
    unfolding page_half older open-memory open-fields
    ended-slot = rw (f.newer, or-false u.old.permanent, ← f.half)

    ticks-run : (m : List ℕ) → Ran k (replicate u.length Tick) begun_slot m (written p u) (page_put p bs m) []
    unfolding absent open-fields
    ticks-run m =
        let e : u.length ≡ suc (u.length - 1) = omega (arith, f.lasts) in
        let r : Ran k (replicate (suc (u.length - 1)) Tick) begun_slot m (ended begun_slot) (stored begun_slot m) []
        = ran-ticks k (u.length - 1) begun_slot m f.present e in
        subst (λ (n : ℕ). Ran k (replicate n Tick) begun_slot m (written p u) (page_put p bs m) []) (sym e)
        (rw (ended-slot, begun-stored m) at r)

    -- from the stop on, and from the data bytes on
    stop-run : (m : List ℕ) → Ran k (Stop ∷ replicate u.length Tick) (taking (page_counter p) bs all_marked u) m (written p u) (page_put p bs m) (p ∷ [])
    unfolding part_next shown_alone alone_for due_for open-fields
    stop-run m =
        let page : (address_of begun_slot).0 / 16 ≡ p = ap (λ (n : ℕ). n / 16) begun-address ∙ omega arith in
        let r = ran_begins k Stop page-begun refl refl f.no-ticks f.lasts (ticks-run m) in
        rw page at r

-- a slot that waits in the phase q, after a start and on
pub stands-in : (q : Phase) (u : Slot) → eqb u.kind 0 ≡ false → with_sensor_in q ≡ false → standing (in_phase q u) ≡ q
unfolding standing absent open-fields
stands-in q u e h = rw (e, h)

-- the slot's own control byte
module _ (k : ℕ) (below : k < slot_count) where
  abbrev own : ℕ
  own = 0xA0 + 2 * k

  own-family : own / 16 ≡ 0xA
  own-family = omega arith

  own-select : (select_of own).0 ≡ k
  unfolding select_of
  own-select = omega arith

  pub own-heard : heard_of own ≡ Memory (record { 0 = k }) false
  unfolding select_of
  own-heard =
      let write : own % 2 ≡ 0 = omega arith in
      memory-family own own-family ∙ rw (own-select, write)

  module _ (u : Slot) (here : eqb u.kind 0 ≡ false) (rests : u.left ≡ 0) where
    own-acked : acks_control k own (in_phase Control u) ≡ true
    unfolding select_of open-fields
    own-acked = memory-acked own k (in_phase Control u) rests own-family ∙ rw own-select (eq-eqb k k refl)

    pub own-acks : acks k own (in_phase Control u) ≡ true
    unfolding acks acks_in
    own-acks = ap (λ (q : Phase). acks_in q k own (in_phase Control u)) (stands-in Control u here refl) ∙ own-acked

    pub own-obeyed : slot_next k (Byte own) (in_phase Control u) ≡ in_phase MemoryCounter u
    unfolding byte_in controlled obeyed open-fields
    own-obeyed =
        byte_next k own (in_phase Control u) ∙ ap (λ (q : Phase). byte_in q k own (in_phase Control u)) (stands-in Control u here refl)
        ∙ rw (own-acked, heard-alike own k (in_phase Control u) (λ e. omega (arith, own-family, e)), own-heard)

-- the whole exchange, and its cycle
module _ (k p : ℕ) (below : k < slot_count) (bs : List ℕ) (sixteen : length bs ≡ 16) where
  data-run : (u : Slot) (f : Free p u) (m : List ℕ)
      → Ran k (Byte (0xA0 + 2 * k) ∷ Byte (page_counter p) ∷ bytes_acts bs ++ Stop ∷ replicate u.length Tick) (in_phase Control u) m
      (written p u) (page_put p bs m) (p ∷ [])
  unfolding part_next open-fields
  data-run u f m =
      let loads = counter-byte k (page_counter p) (in_phase MemoryCounter u) (stands-in MemoryCounter u f.present refl) in
      ran_on k (Byte (0xA0 + 2 * k)) (own-obeyed k below u f.present f.no-ticks) refl (acked k _ _ m (own-acks k below u f.present f.no-ticks)) f.no-ticks
      (ran_on k (Byte (page_counter p)) loads.1 refl (acked k _ _ m loads.0) f.no-ticks
      (ran-joined k (page-taken k p u f bs sixteen m) (stop-run k p u f bs sixteen m)))

  -- a whole page, from any phase
  pub page-run : (s : Slot) (m : List ℕ) → Free p s
      → Ran k (page_acts k (page_counter p) bs s.length) s m (rested (page_half p) (page_counter p) s) (page_put p bs m) (p ∷ [])
  unfolding rested leaving shown_alone alone_for due_for part_next present_next absent open-fields
  page-run s m f =
      let u : Slot = let_go (standing s) s in
      let g : Free p u = let-go-free (p / 16) (p / 8) s f in
      ran_on k Start (present-next k Start s f.present) refl refl g.no-ticks
      (subst (λ (n : ℕ). Ran k (Byte (0xA0 + 2 * k) ∷ Byte (page_counter p) ∷ bytes_acts bs ++ Stop ∷ replicate n Tick) (in_phase Control u) m (rested (page_half p) (page_counter p) s) (page_put p bs m) (p ∷ [])) (let-go-lasts s).length
      (data-run u g m))
