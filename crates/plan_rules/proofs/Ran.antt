-- A run of acts at one slot alone, with its 512 bytes: where it leads, what it says, and the cycles that it begins, put together from shorter runs.
-- Assumes nothing.
use Prim.Native.Nat.{ℕ, zero, suc, ◌-◌, ◌/◌}
use native.Mathlib.Omega.{arith}
use mathlib.Core.Path.{◌≡◌, refl, sym, ◌∙◌, ap, ap₂}
use mathlib.Core.Bool.{Bool, true, false, not, cond, ◌&&◌}
use mathlib.Core.List.{List, [], ◌∷◌, ◌++◌, map, append_assoc}
use lib.Dec.{eqb}
use lib.ListN.{replicate}
use borrow.Author.Tests.{eq-eqb, ne_eqb}
use Rattle.rules.specs.declared.Act.{Act}
use Rattle.rules.specs.declared.Carried.{Carried}
use Rattle.rules.specs.declared.Carried.TheVariants as carries
use Rattle.rules.specs.declared.Act.TheVariants.{Tick}
use Rattle.rules.specs.declared.Answer.{Answer}
use Rattle.rules.specs.declared.Answer.TheVariants.{Nothing, Ack}
use Rattle.rules.specs.declared.Slot.{Slot}
use Rattle.rules.specs.Modelled.{absent, address_of}
use Rattle.rules.specs.Fields.{with_left}
use Rattle.rules.specs.Memory.{stored, ended}
use Rattle.rules.specs.Events.{carried}
use Rattle.rules.specs.Slot.{slot_next, part_next}
use Rattle.rules.specs.Runs.{slot_after, part_after}
use Rattle.runs.specs.Exchanges.{alone_for, shown_alone, told_alone}
use Rattle.rules.proofs.Document.Exchange.{other-tick}
use Rattle.rules.proofs.Document.Cycle.{ends, ends-part}
use Rattle.rules.proofs.Run.Joined.{slots-joined, parts-joined}
use Rattle.plan_rules.specs.Effect.{begun_pages}

-- what a plan's acts are to be answered
unfoldable pub due_for : Carried → Answer
due_for (carries.Byte v) = Ack
due_for (carries.Read more) = Nothing
due_for carries.Nothing = Nothing

abbrev pub due_to : Act → Answer
due_to a = due_for (carried a)

-- from s with the bytes m to t with the bytes q; the slot itself acknowledges every byte, and begins a cycle for each of the pages
pub record Ran (n : ℕ) (r : List Act) (s : Slot) (m : List ℕ) (t : Slot) (q : List ℕ) (pages : List ℕ) : Type 0 where
  pub slot : slot_after n r s ≡ t
  pub part : part_after n r s m ≡ q
  pub said : told_alone n r s m ≡ map due_to r
  pub begins : begun_pages n r s ≡ pages

module _ (n : ℕ) where
  pub ran-none : (s : Slot) (m : List ℕ) → Ran n [] s m s m []
  unfolding slot_after part_after told_alone begun_pages
  ran-none s m = record { slot = refl; part = refl; said = refl; begins = refl }

  -- two runs one after the other
  pub told-joined : (r v : List Act) (s : Slot) (m : List ℕ) → told_alone n (r ++ v) s m ≡ told_alone n r s m ++ told_alone n v (slot_after n r s) (part_after n r s m)
  unfolding slot_after part_after told_alone
  told-joined [] v s m = refl
  told-joined (a ∷ r) v s m = ap (shown_alone n a s m ∷◌) (told-joined r v (slot_next n a s) (part_next a s m))

  begun-joined : (r v : List Act) (s : Slot) → begun_pages n (r ++ v) s ≡ begun_pages n r s ++ begun_pages n v (slot_after n r s)
  unfolding slot_after begun_pages
  begun-joined [] v s = refl
  begun-joined (a ∷ r) v s =
      let now : List ℕ = cond (eqb s.left 0 && not (eqb (slot_next n a s).left 0)) ((address_of (slot_next n a s)).0 / 16 ∷ []) [] in
      ap (now ++◌) (begun-joined r v (slot_next n a s)) ∙ sym (append_assoc now (begun_pages n r (slot_next n a s)) (begun_pages n v (slot_after n r (slot_next n a s))))

  due-joined : (r v : List Act) → map due_to r ++ map due_to v ≡ map due_to (r ++ v)
  due-joined [] v = refl
  due-joined (a ∷ r) v = ap (due_to a ∷◌) (due-joined r v)

  pub ran-joined : {r v : List Act} {s t u : Slot} {m q o : List ℕ} {ps qs : List ℕ} → Ran n r s m t q ps → Ran n v t q u o qs → Ran n (r ++ v) s m u o (ps ++ qs)
  ran-joined {r} {v} {s} {t} {u} {m} {q} {o} a b = record {
    slot = slots-joined n r v s ∙ ap (slot_after n v) a.slot ∙ b.slot;
    part = parts-joined n r v s m ∙ ap₂ (part_after n v) a.slot a.part ∙ b.part;
    said = told-joined r v s m ∙ ap₂ ◌++◌ a.said (ap₂ (told_alone n v) a.slot a.part ∙ b.said) ∙ due-joined r v;
    begins = begun-joined r v s ∙ ap₂ ◌++◌ a.begins (ap (begun_pages n v) a.slot ∙ b.begins);
  }

  -- one act more in front, at which no byte changes: no cycle begins, or one does
  module _ (a : Act) {r : List Act} {s t u : Slot} {m o : List ℕ} {ps : List ℕ} (step : slot_next n a s ≡ t) (still : part_next a s m ≡ m) (shows : shown_alone n a s m ≡ due_to a) where
    front : (now : List ℕ) → cond (eqb s.left 0 && not (eqb t.left 0)) ((address_of t).0 / 16 ∷ []) [] ≡ now
        → Ran n r t m u o ps → Ran n (a ∷ r) s m u o (now ++ ps)
    unfolding slot_after part_after told_alone begun_pages
    front now e d = record {
      slot = ap (slot_after n r) step ∙ d.slot;
      part = ap₂ (part_after n r) step still ∙ d.part;
      said = ap₂ ◌∷◌ shows (ap₂ (told_alone n r) step still ∙ d.said);
      begins = ap (λ (w : Slot). cond (eqb s.left 0 && not (eqb w.left 0)) ((address_of w).0 / 16 ∷ []) [] ++ begun_pages n r w) step ∙ ap₂ ◌++◌ e d.begins;
    }

    pub ran_on : t.left ≡ 0 → Ran n r t m u o ps → Ran n (a ∷ r) s m u o ps
    ran_on z d = front [] (rw (eq-eqb t.left 0 z) (none (eqb s.left 0))) d
      where
        none : (b : Bool) → cond (b && false) ((address_of t).0 / 16 ∷ []) [] ≡ []
        none true = refl
        none false = refl

    pub ran_begins : s.left ≡ 0 → (t.left ≡ 0 → ⊥) → Ran n r t m u o ps → Ran n (a ∷ r) s m u o ((address_of t).0 / 16 ∷ ps)
    ran_begins z y d = front ((address_of t).0 / 16 ∷ []) (rw (eq-eqb s.left 0 z, ne_eqb t.left 0 y)) d

  -- the ticks of a cycle to its end
  said-ticks : (j : ℕ) (s : Slot) (m : List ℕ) → told_alone n (replicate j Tick) s m ≡ map due_to (replicate j Tick)
  unfolding told_alone shown_alone alone_for due_for
  said-ticks zero s m = refl
  said-ticks (suc j) s m = ap (Nothing ∷◌) (said-ticks j (slot_next n Tick s) _)

  begun-ticks : (j : ℕ) (s : Slot) → absent s ≡ false → s.left ≡ suc j → begun_pages n (replicate (suc j) Tick) s ≡ []
  unfolding begun_pages with_left absent
  begun-ticks zero s a e = rw (ne_eqb s.left 0 (λ z. omega arith))
  begun-ticks (suc j) s a e = rw (ne_eqb s.left 0 (λ z. omega arith), other-tick n s a (λ f. omega arith)) (begun-ticks j (with_left (s.left - 1) s) a (omega arith))

  pub ran-ticks : (j : ℕ) (s : Slot) (m : List ℕ) → absent s ≡ false → s.left ≡ suc j
      → Ran n (replicate (suc j) Tick) s m (ended s) (stored s m) []
  ran-ticks j s m a e = record { slot = ends n j s a e; part = ends-part n j s m a e; said = said-ticks (suc j) s m; begins = begun-ticks j s a e }
