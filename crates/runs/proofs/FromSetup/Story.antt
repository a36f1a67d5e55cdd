-- Over runs: protection changes only at the end of a cycle that an acknowledged protect or clear began, to what that command asked for;
-- bytes change only at the end of a page write's cycle. The cycle that ends is the one that the stop began, and the stop is the one that ended that command's exchange.
-- A cycle ends at its last tick, or where power is lost. Of one slot alone, and a run of acts; `History` carries it to the bench.
-- Assumes nothing.
use Prim.Native.Nat.{ℕ, zero, suc}
use native.Mathlib.Omega.{arith}
use mathlib.Core.Path.{◌≡◌, refl, sym, ◌∙◌, ap, subst}
use mathlib.Core.Logic.{◌⊎◌, inl, inr, ⊎_elim}
use mathlib.Core.Bool.{Bool, true, false, false≢true, not, cond, ◌&&◌}
use mathlib.Core.List.{List, [], ◌∷◌, ◌++◌, append-nil, append_assoc}
use lib.Dec.{eqb}
use lib.ListN.{get_or, set, replicate}
use borrow.Author.Tests.{eqb-true, eqb-false, ne_eqb}
use Rattle.proof_lists.specs.Each.{any_from}
use Rattle.proof_lists.specs.Tests.{cond_cases, by-test, and_left, cond-true, cond-false}
use Rattle.rules.specs.declared.Act.{Act}
use Rattle.rules.specs.declared.Act.TheVariants.{Start, Byte, Read, Stop, Timeout, Tick, Power, Apply}
use Rattle.rules.specs.declared.BlockNo.{BlockNo}
use Rattle.rules.specs.declared.Heard.{Heard}
use Rattle.rules.specs.declared.Heard.TheVariants as heard
use Rattle.rules.specs.declared.Phase.{Phase}
use Rattle.rules.specs.declared.Phase.TheVariants.{Idle, Control, MemoryData, CommandStop}
use Rattle.rules.specs.declared.Slot.{Slot}
use Rattle.rules.specs.Modelled.{absent, older}
use Rattle.rules.specs.Open.{open-fields, open-memory, open-slot}
use Rattle.rules.specs.Fields.{in_phase, with_voltage}
use Rattle.rules.specs.Fresh.{no_blocks, no_marks, fresh_slot, powered, absent_slot}
use Rattle.rules.specs.Control.{acks_heard, acks_control, controlled, heard_by}
use Rattle.rules.specs.Memory.{any_mark, pin_on, brought}
use Rattle.rules.specs.Power.{first_of, power_cut}
use Rattle.rules.specs.Slot.{commanding, standing, let_go, lost, byte_in, read_in, stop_in, acks_in, acks, present_next, slot_next, part_next}
use Rattle.rules.specs.Runs.{slot_after}
use Rattle.rules.proofs.Run.Cases.{next-cases, apply-cases, stands}
use Rattle.rules.proofs.Run.Joined.{slots-joined}
use Rattle.rules.proofs.Memory.First.{first-at}
use Rattle.rules.proofs.Memory.Stored.{page_start, storing, finishes, finishes-runs, part-stored, part-still, put-none}
use Rattle.rules.proofs.Memory.Stored as stored
use Rattle.rules.proofs.Memory.Protection.{Decided, as_before, as_stands, by_protect, by_clear, by_lasting, Cycle, as_was, page_begins, command_begins, goes_on, power_ends, protection-next, coming-next, cycle-next}
use Rattle.runs.proofs.FromSetup.Reached.{Outside, by-outside, Reach, none, some, slot-reach}
use Rattle.runs.proofs.FromSetup.Lasting.{brings}
use Rattle.runs.proofs.FromSetup.Together.{ticks-outside, taking-steady, command-stands, command-bare, cycle-marks}

-- what a cycle stores, and where, is the same in both
abbrev pub SamePage : Slot → Slot → Type 0
SamePage s r = (r.latch ≡ s.latch) × (r.marks ≡ s.marks) × (r.counter ≡ s.counter) × (r.half ≡ s.half)

-- the slot stands in a protect or clear, and a slot's cycle runs
abbrev pub Commanded : Slot → Type 0
Commanded s = commanding (standing s) ≡ true

abbrev pub Cycling : Slot → Type 0
Cycling s = s.left ≡ 0 → ⊥

-- P holds of slot n alone, which is s, and of it after each act of a run from there.
unfoldable pub Throughout : (Slot → Type 0) → ℕ → List Act → Slot → Type 0
Throughout P n [] s = P s
Throughout P n (a ∷ r) s = P s × Throughout P n r (slot_next n a s)

throughout-snoc : (P : Slot → Type 0) (n : ℕ) (r : List Act) (a : Act) (s : Slot) → Throughout P n r s → P (slot_next n a (slot_after n r s)) → Throughout P n (r ++ a ∷ []) s
unfolding Throughout slot_after
throughout-snoc P n [] a s h p = (h, p)
throughout-snoc P n (b ∷ r) a s h p = (h.0, throughout-snoc P n r a (slot_next n b s) h.1 p)

throughout-last : (P : Slot → Type 0) (n : ℕ) (r : List Act) (s : Slot) → Throughout P n r s → P (slot_after n r s)
unfolding Throughout slot_after
throughout-last P n [] s h = h
throughout-last P n (a ∷ r) s h = throughout-last P n r (slot_next n a s) h.1

-- a run that grows at its end
snoc-induction : (P : List Act → Type 0) → P [] → ((r : List Act) (a : Act) → P r → P (r ++ a ∷ [])) → (r : List Act) → P r
snoc-induction P base step r = go [] r base
  where
    go : (q r : List Act) → P q → P (q ++ r)
    go q [] h = subst P (sym (append-nil q)) h
    go q (a ∷ r) h = subst P (append_assoc q (a ∷ []) r) (go (q ++ a ∷ []) r (step q a h))

slot-snoc : (n : ℕ) (r : List Act) (a : Act) (s : Slot) → slot_after n (r ++ a ∷ []) s ≡ slot_next n a (slot_after n r s)
unfolding slot_after
slot-snoc n r a s = slots-joined n r (a ∷ []) s

pub run-reach : (n : ℕ) (r : List Act) (s : Slot) → Reach s → Reach (slot_after n r s)
unfolding slot_after
run-reach n [] s h = h
run-reach n (a ∷ r) s h = run-reach n r (slot_next n a s) (slot-reach n a s h)

-- a control byte is acknowledged only outside a cycle, and a stop is no byte
acked-free : (n b : ℕ) (s : Slot) → standing s ≡ Control → acks n b s ≡ true → eqb s.left 0 ≡ true
unfolding acks acks_in acks_control
acked-free n b s p k = and_left (eqb s.left 0) (acks_heard (heard_by n b s) n s) (sym (ap (λ (q : Phase). acks_in q n b s) p) ∙ k)

stop-no-byte : (b : ℕ) → Stop ≡ Byte b → ⊥
stop-no-byte b e = let z : ◌≡◌ {A = ℕ} 0 1 = cc in omega arith

-- outside an exchange a slot stands outside it
pub stands-outside : (s : Slot) → Outside s.phase → Outside (standing s)
stands-outside s o = stands Outside s (inr (inl refl)) o

-- an act ends a running cycle, and nothing is to come any more, or the cycle runs on and keeps its page
abbrev RunsOn : Slot → Slot → Type 0
RunsOn s r = Cycling r × SamePage s r

abbrev Runs : Slot → Slot → Type 0
Runs s r = ((r.left ≡ 0) × (r.coming ≡ r.protection)) ⊎ RunsOn s r

module _ (n : ℕ) (s : Slot) (o : Outside (standing s)) (l : Cycling s) where
  same : RunsOn s s
  same = (l, (refl, refl, refl, refl))

  -- these fields, of a slot that differs in others
  unheard : (b : ℕ) → RunsOn s (controlled n b s)
  unfolding controlled acks_control open-fields
  unheard b = rw (ne_eqb s.left 0 l) same

  present_runs : (a : Act) → Runs s (present_next n a s)
  unfolding open-fields open-memory open-slot power_cut powered fresh_slot
  present_runs Start = inr (by-outside (λ p. RunsOn s (let_go p s)) (standing s) same same same o)
  present_runs (Byte b) = inr (by-outside (λ p. RunsOn s (byte_in p n b s)) (standing s) same same (unheard b) o)
  present_runs (Read more) = inr (by-outside (λ p. RunsOn s (read_in p more s)) (standing s) same same same o)
  present_runs Stop = inr (by-outside (λ p. RunsOn s (stop_in p s)) (standing s) same same same o)
  present_runs Timeout = inr (by-outside (λ p. RunsOn s (let_go p s)) (standing s) same same same o)
  present_runs Tick = cond_cases (Runs s) (eqb s.left 1) (λ e. inl (refl, refl)) (λ e. inr (λ z. omega (arith, l, eqb-false s.left 1 e), same.1))
  present_runs (Power k) = inl (refl, refl)
  present_runs (Apply k x) = inr (apply-cases (RunsOn s) s n k x same (λ on. same) (λ on e. by-outside (λ p. RunsOn s (with_voltage on (lost p s))) (standing s) same same same o) (λ t e. same) (λ on e. same))

running : (n : ℕ) (a : Act) (s : Slot) → Outside s.phase → Cycling s → Runs s (slot_next n a s)
running n a s o l = next-cases (Runs s) n a s (λ e. inr (l, (refl, refl, refl, refl))) (λ e. present_runs n s (stands-outside s o) l a)

-- the stop that begins a cycle keeps the page, and a command's keeps its latch empty
stop-next : (P : Slot → Type 0) (n : ℕ) (a : Act) (s : Slot) (p : Phase) → a ≡ Stop → standing s ≡ p → P s → P (in_phase Idle (stop_in p s)) → P (slot_next n a s)
unfolding present_next
stop-next P n a s p e q w h = subst (λ (b : Act). P (slot_next n b s)) (sym e)
    (next-cases P n Stop s (λ f. w) (λ f. subst (λ (r : Phase). P (in_phase Idle (stop_in r s))) (sym q) h))

stop-page : (n : ℕ) (a : Act) (s : Slot) → a ≡ Stop → standing s ≡ MemoryData → any_mark s.marks ≡ true → SamePage s (slot_next n a s)
unfolding stop_in open-memory open-fields
stop-page n a s e p m = stop-next (SamePage s) n a s MemoryData e p (refl, refl, refl, refl) (rw m (refl, refl, refl, refl))

stop-bare : (n : ℕ) (a : Act) (s : Slot) → a ≡ Stop → standing s ≡ CommandStop → s.marks ≡ no_marks → (slot_next n a s).marks ≡ no_marks
unfolding stop_in open-memory open-fields
stop-bare n a s e p m = stop-next (λ (r : Slot). r.marks ≡ no_marks) n a s CommandStop e p m (cond_cases (λ (r : Slot). r.marks ≡ no_marks) (pin_on s) (λ f. m) (λ f. m))

none-marked : any_mark no_marks ≡ false
unfolding any_mark any_from
none-marked = refl

-- an act that changes the slot's bytes finishes a cycle, with something marked
none-latched : (n j : ℕ) → get_or (replicate n false) j false ≡ false
none-latched zero j = refl
none-latched (suc n) zero = refl
none-latched (suc n) (suc j) = none-latched n j

stores : (a : Act) (s : Slot) (m : List ℕ) → (part_next a s m ≡ m → ⊥) → (finishes a s ≡ true) × (s.marks ≡ no_marks → ⊥)
unfolding finishes
stores a s m ne = by-test (absent s) (λ e. absurd (ne (part-stored a s m ∙ rw e))) λ e.
    by-test (stored.ends a s) (λ f. (
      by-test (eqb (storing a).0 0) (λ z. absurd (ne (part-still a s m (eqb-true (storing a).0 0 z)))) (λ z. rw (f, z)),
      λ u. ne (part-stored a s m ∙ rw (e, f) (put-none s.latch (first_of (storing a) s.marks) (page_start s) 16 m (λ j. first-at (storing a) s.marks j ∙ rw (u, none-latched 16 j)))),
    )) (λ f. absurd (ne (part-stored a s m ∙ rw (e, f))))

-- what a cycle's end brings of a slot that a run from setup reaches is what was to come
reach-brings : (s : Slot) → Reach s → brought s ≡ s.coming
reach-brings s (none e) = subst (λ (r : Slot). brought r ≡ r.coming) (sym e) (unfold brought older absent_slot fresh_slot in refl)
reach-brings s (some k l h w) = brings s w

-- What a command asks for, of the protection that stands when it is acknowledged.
pub data Asks : Heard → List Bool → List Bool → Type 0 where
  protect : (k : BlockNo) (p : List Bool) → Asks (heard.Protect k) p (set p k.0 true)
  clear : (p : List Bool) → Asks heard.ClearAll p no_blocks
  lasting : (p : List Bool) → Asks heard.ProtectForEver p (set p 0 true)

module _ (n : ℕ) (s₀ : Slot) where
  abbrev at : List Act → Slot
  at r = slot_after n r s₀

  -- In the run r the slot acknowledged a protect or clear that asks for q, and it has stood in that command since, to r's end.
  pub record Asked (r : List Act) (q : List Bool) : Type 0 where
    pub earlier : List Act
    pub byte : ℕ
    pub later : List Act
    pub parts : r ≡ earlier ++ Byte byte ∷ later
    pub awaited : standing (at earlier) ≡ Control
    pub acked : acks n byte (at earlier) ≡ true
    pub asks : Asks (heard_by n byte (at earlier)) (at earlier).protection q
    pub stood : Throughout Commanded n later (slot_next n (Byte byte) (at earlier))

  -- In the run r a stop ended such a command's exchange, which had both its bytes, and the cycle that it began has run since, to r's end.
  pub record CommandBegun (r : List Act) (q : List Bool) : Type 0 where
    pub earlier : List Act
    pub later : List Act
    pub parts : r ≡ earlier ++ Stop ∷ later
    pub asked : Asked earlier q
    pub ready : standing (at earlier) ≡ CommandStop
    pub ran : Throughout Cycling n later (slot_next n Stop (at earlier))

  -- In the run r, after which the slot is s, a stop began a cycle for a page, which has run since, to r's end: its latched bytes, and where they go, are still
  -- those of the stop.
  pub record PageBegun (r : List Act) (s : Slot) : Type 0 where
    pub earlier : List Act
    pub later : List Act
    pub parts : r ≡ earlier ++ Stop ∷ later
    pub taking : standing (at earlier) ≡ MemoryData
    pub page : SamePage (at earlier) s
    pub ran : Throughout Cycling n later (slot_next n Stop (at earlier))

  more : (a : Act) (e : List Act) (b : Act) (l r : List Act) → r ≡ e ++ b ∷ l → r ++ a ∷ [] ≡ e ++ b ∷ (l ++ a ∷ [])
  more a e b l r p = ap (◌++ a ∷ []) p ∙ append_assoc e (b ∷ l) (a ∷ [])

  -- what has held since the act b, behind the run e, holds at the end of the whole run r, and goes on where the next act leaves it
  at-end : (e : List Act) (b : Act) (l r : List Act) → r ≡ e ++ b ∷ l → at r ≡ slot_after n l (slot_next n b (at e))
  unfolding slot_after
  at-end e b l r p = ap at p ∙ slots-joined n e (b ∷ l) s₀

  since-end : (P : Slot → Type 0) (e : List Act) (b : Act) (l r : List Act) → r ≡ e ++ b ∷ l → Throughout P n l (slot_next n b (at e)) → P (at r)
  since-end P e b l r p h = subst P (sym (at-end e b l r p)) (throughout-last P n l (slot_next n b (at e)) h)

  since-on : (P : Slot → Type 0) (a : Act) (e : List Act) (b : Act) (l r : List Act) → r ≡ e ++ b ∷ l → Throughout P n l (slot_next n b (at e)) → P (slot_next n a (at r))
      → Throughout P n (l ++ a ∷ []) (slot_next n b (at e))
  since-on P a e b l r p h q = throughout-snoc P n l a (slot_next n b (at e)) h (subst (λ (s : Slot). P (slot_next n a s)) (at-end e b l r p) q)

  asked-on : (a : Act) {r : List Act} {q : List Bool} → Asked r q → Commanded (slot_next n a (at r)) → Asked (r ++ a ∷ []) q
  asked-on a {r} h c = record {
    earlier = h.earlier;
    byte = h.byte;
    later = h.later ++ a ∷ [];
    parts = more a h.earlier (Byte h.byte) h.later r h.parts;
    awaited = h.awaited;
    acked = h.acked;
    asks = h.asks;
    stood = since-on Commanded a h.earlier (Byte h.byte) h.later r h.parts h.stood c;
  }

  begun-on : (a : Act) {r : List Act} {q : List Bool} → CommandBegun r q → Cycling (slot_next n a (at r)) → CommandBegun (r ++ a ∷ []) q
  begun-on a {r} h c = record {
    earlier = h.earlier;
    later = h.later ++ a ∷ [];
    parts = more a h.earlier Stop h.later r h.parts;
    asked = h.asked;
    ready = h.ready;
    ran = since-on Cycling a h.earlier Stop h.later r h.parts h.ran c;
  }

  -- A protection to come that does not stand was asked for by an acknowledged command, which awaits its stop, or whose cycle runs.
  abbrev Told : List Act → Slot → Type 0
  Told r s = (s.coming ≡ s.protection → ⊥) → ((s.left ≡ 0) × Asked r s.coming) ⊎ CommandBegun r s.coming

  -- what an act decides, by the cases of `coming-next` and `cycle-next`, where what is to come after it does not stand
  module _ (r : List Act) (a : Act) (reach : Reach (at r)) (told : Told r (at r)) (ne : (slot_next n a (at r)).coming ≡ (slot_next n a (at r)).protection → ⊥) where
    abbrev t : Slot
    t = slot_next n a (at r)

    abbrev Tells : Type 0
    Tells = ((t.left ≡ 0) × Asked (r ++ a ∷ []) t.coming) ⊎ CommandBegun (r ++ a ∷ []) t.coming

    -- so with no ticks left it stands in a command
    in-command : t.left ≡ 0 → Commanded t
    in-command z = command-stands t (slot-reach n a (at r) reach) ne z

    -- nothing decided: the command goes on, or its stop begins the cycle
    begins : ((at r).coming ≡ (at r).protection → ⊥) → (at r).left ≡ 0 → Asked r t.coming → Cycling t → Cycle a (at r) t.left → Tells
    unfolding Throughout
    begins d z w l (as_was f) = absurd (l (f ∙ z))
    begins d z w l (page_begins e p m f) = absurd (d (taking-steady (at r) reach p))
    begins d z w l (command_begins e p g f) = inr (record {
      earlier = r;
      later = [];
      parts = ap (λ (b : Act). r ++ b ∷ []) e;
      asked = w;
      ready = p;
      ran = subst (λ (b : Act). Cycling (slot_next n b (at r))) e l;
    })
    begins d z w l (goes_on e f) = absurd (l (f ∙ omega (arith, z)))
    begins d z w l (power_ends k e f) = absurd (l f)

    waits : ((at r).coming ≡ (at r).protection → ⊥) → (at r).left ≡ 0 → Asked r t.coming → Tells
    waits d z w = by-test (eqb t.left 0) (λ e. let none : t.left ≡ 0 = eqb-true t.left 0 e in inl (none, asked-on a w (in-command none)))
        (λ e. begins d z w (eqb-false t.left 0 e) (cycle-next n a (at r)))

    -- or the cycle runs on
    still : Cycling (at r) → Cycling t
    still l = ⊎_elim (λ e. absurd (ne e.1)) (λ q. q.0) (running n a (at r) (ticks-outside (at r) reach l) l)

    goes : t.coming ≡ (at r).coming → ((at r).coming ≡ (at r).protection → ⊥) → Tells
    goes same d = ⊎_elim (λ w. waits d w.0 (subst (Asked r) (sym same) w.1))
        (λ w. inr (begun-on a (subst (CommandBegun r) (sym same) w) (still (since-end Cycling w.earlier Stop w.later r w.parts w.ran)))) (told d)

    -- a command acknowledged: the byte is the run's last act, and no cycle runs
    asked-now : (b : ℕ) → a ≡ Byte b → standing (at r) ≡ Control → acks n b (at r) ≡ true → Asks (heard_by n b (at r)) (at r).protection t.coming → Tells
    unfolding Throughout
    asked-now b e p k q =
        let none : t.left ≡ 0 = none_left (cycle-next n a (at r)) in
        inl (
          none,
          record {
            earlier = r;
            byte = b;
            later = [];
            parts = ap (λ (c : Act). r ++ c ∷ []) e;
            awaited = p;
            acked = k;
            asks = q;
            stood = subst (λ (c : Act). Commanded (slot_next n c (at r))) e (in-command none);
          },
        )
      where
        free : (at r).left ≡ 0
        free = eqb-true (at r).left 0 (acked-free n b (at r) p k)

        none_left : Cycle a (at r) t.left → t.left ≡ 0
        none_left (as_was l) = l ∙ free
        none_left (page_begins f q m l) = absurd (stop-no-byte b (sym f ∙ e))
        none_left (command_begins f q g l) = absurd (stop-no-byte b (sym f ∙ e))
        none_left (goes_on f l) = l ∙ omega (arith, free)
        none_left (power_ends k f l) = l

    decides : Decided n a (at r) t.protection t.coming t.old.lasting → Tells
    decides (as_stands e _) = absurd (ne e)
    decides (by_protect b k e p f h c _) =
        asked-now b e p f (subst (λ (x : Heard). Asks x (at r).protection t.coming) (sym h) (subst (Asks (heard.Protect k) (at r).protection) (sym c) (protect k (at r).protection)))
    decides (by_lasting b e p f h c _) =
        asked-now b e p f (subst (λ (x : Heard). Asks x (at r).protection t.coming) (sym h) (subst (Asks heard.ProtectForEver (at r).protection) (sym c) (lasting (at r).protection)))
    decides (by_clear b e p f h c _) =
        asked-now b e p f (subst (λ (x : Heard). Asks x (at r).protection t.coming) (sym h) (subst (Asks heard.ClearAll (at r).protection) (sym c) (clear (at r).protection)))
    decides (as_before e _) = by-test ends (λ f. absurd (ne (e ∙ sym (q ∙ cond-true ends _ _ f)))) (λ f. goes e (λ c. ne (e ∙ c ∙ sym (q ∙ cond-false ends _ _ f))))
      where
        ends : Bool
        ends = finishes a (at r) && not (absent (at r))

        q : t.protection ≡ cond ends (at r).coming (at r).protection
        q = protection-next n a (at r) ∙ ap (λ (p : List Bool). cond ends p (at r).protection) (reach-brings (at r) reach)

  told-snoc : Reach s₀ → (r : List Act) (a : Act) → Told r (at r) → Told (r ++ a ∷ []) (at (r ++ a ∷ []))
  told-snoc reach r a told = subst (Told (r ++ a ∷ [])) (sym (slot-snoc n r a s₀))
      (λ ne. decides r a (run-reach n r s₀ reach) told ne (coming-next n a (at r)))

  pub told : Reach s₀ → s₀.coming ≡ s₀.protection → (r : List Act) → Told r (at r)
  unfolding slot_after
  told reach calm = snoc-induction (λ (r : List Act). Told r (at r)) (λ ne. absurd (ne calm)) (told-snoc reach)

  -- Protection changes only at the tick or the cut that ends a cycle which an acknowledged protect or clear began, to what that command asked for: the cycle runs
  -- since the stop that ended the exchange in which the command stood since its byte.
  pub protection-story : Reach s₀ → s₀.coming ≡ s₀.protection → (r : List Act) (a : Act)
      → ((slot_next n a (at r)).protection ≡ (at r).protection → ⊥)
      → (finishes a (at r) ≡ true) × CommandBegun r (slot_next n a (at r)).protection
  protection-story reach calm r a ne = by-test ends
      (λ e. let done : finishes a (at r) ≡ true = and_left (finishes a (at r)) (not (absent (at r))) e in
      let q : (slot_next n a (at r)).protection ≡ (at r).coming = protection-next n a (at r) ∙ cond-true ends _ _ e ∙ reach-brings (at r) (run-reach n r s₀ reach) in (
        done,
        ⊎_elim (λ w. absurd (finishes-runs a (at r) done w.0)) (λ w. subst (CommandBegun r) (sym q) w) (told reach calm r (λ c. ne (q ∙ c))),
      ))
      (λ e. absurd (ne (protection-next n a (at r) ∙ cond-false ends _ _ e)))
    where
      ends : Bool
      ends = finishes a (at r) && not (absent (at r))

  -- Latched bytes in a running cycle are those of the stop that began it.
  abbrev Pages : List Act → Slot → Type 0
  Pages r s = Cycling s → any_mark s.marks ≡ true → PageBegun r s

  page-on : (a : Act) (r : List Act) → PageBegun r (at r) → RunsOn (at r) (slot_next n a (at r)) → PageBegun (r ++ a ∷ []) (slot_next n a (at r))
  page-on a r h (c, q) = record {
    earlier = h.earlier;
    later = h.later ++ a ∷ [];
    parts = more a h.earlier Stop h.later r h.parts;
    taking = h.taking;
    page = (q.0 ∙ h.page.0, q.1 ∙ h.page.1, q.2 ∙ h.page.2, q.3 ∙ h.page.3);
    ran = since-on Cycling a h.earlier Stop h.later r h.parts h.ran c;
  }

  -- a cycle that runs goes on, or one begins
  pages-next : (r : List Act) (a : Act) → Reach (at r) → Pages r (at r) → Pages (r ++ a ∷ []) (slot_next n a (at r))
  unfolding Throughout
  pages-next r a reach pages l m = by-test (eqb s.left 0) (λ z. starts (eqb-true s.left 0 z) (cycle-next n a s)) (λ z. ⊎_elim (λ none. absurd (l none.0)) (λ q. page-on a r (pages (eqb-false s.left 0 z) (sym (ap any_mark q.1.1) ∙ m)) q) (running n a s (ticks-outside s reach (eqb-false s.left 0 z)) (eqb-false s.left 0 z)))
    where
      s : Slot
      s = at r

      t : Slot
      t = slot_next n a s

      starts : s.left ≡ 0 → Cycle a s t.left → PageBegun (r ++ a ∷ []) t
      starts z (as_was e) = absurd (l (e ∙ z))
      starts z (goes_on f e) = absurd (l (e ∙ omega (arith, z)))
      starts z (power_ends k f e) = absurd (l e)
      starts z (command_begins f p g e) = absurd (false≢true (sym none-marked ∙ sym (ap any_mark (stop-bare n a s f p (command-bare s reach p))) ∙ m))
      starts z (page_begins f p k e) = record { earlier = r; later = []; parts = ap (λ (b : Act). r ++ b ∷ []) f; taking = p; page = stop-page n a s f p k; ran = subst (λ (b : Act). Cycling (slot_next n b s)) f l }

  pub pages : Reach s₀ → s₀.left ≡ 0 → (r : List Act) → Pages r (at r)
  unfolding slot_after
  pages reach calm = snoc-induction (λ (r : List Act). Pages r (at r)) (λ l m. absurd (l calm))
      (λ r a h. subst (Pages (r ++ a ∷ [])) (sym (slot-snoc n r a s₀)) (pages-next r a (run-reach n r s₀ reach) h))

  -- Bytes change only at the tick or the cut that ends a page write's cycle, which a stop with at least one latched byte began.
  pub bytes-story : Reach s₀ → s₀.left ≡ 0 → (r : List Act) (a : Act) (m : List ℕ) → (part_next a (at r) m ≡ m → ⊥)
      → (finishes a (at r) ≡ true) × PageBegun r (at r)
  bytes-story reach calm r a m ne =
      let w = stores a (at r) m ne in
      let runs : Cycling (at r) = finishes-runs a (at r) w.0 in
      (w.0, ⊎_elim (λ e. pages reach calm r runs e) (λ e. absurd (w.1 e)) (cycle-marks (at r) (run-reach n r s₀ reach) runs))
