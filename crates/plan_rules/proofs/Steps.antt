-- A plan's pages one after the other, at the slot itself and at every other slot: the run of pages 0 to p - 1, for every p.
-- Assumes nothing.
use Prim.Native.Nat.{ℕ, zero, suc, ◌/◌, ◌<◌, ◌≤◌}
use native.Mathlib.Omega.{arith}
use mathlib.Core.Path.{◌≡◌, refl, sym, ◌∙◌, ap, subst}
use mathlib.Core.Bool.{true, false, cond, or-true, or-false}
use mathlib.Core.List.{List, [], ◌∷◌, ◌++◌, append-nil}
use lib.Dec.{eqb}
use lib.ListN.{length, get_or}
use borrow.Author.Tests.{eqb-true}
use Rattle.proof_lists.specs.Tests.{by-test, cond_cases}
use Rattle.rules.specs.declared.Act.{Act}
use Rattle.rules.specs.declared.Phase.TheVariants.{Idle}
use Rattle.rules.specs.declared.Slot.{Slot}
use Rattle.rules.specs.Modelled.{slot_count, absent}
use Rattle.rules.specs.Open.{open-fields, open-memory}
use Rattle.rules.specs.Fields.{in_phase, in_half, at_counter, with_left}
use Rattle.rules.specs.Memory.{abandoned, cancelled}
use Rattle.runs.proofs.TwoClerks.Struck.{idle-same, idle-let-go}
use Rattle.plan_rules.specs.Plan.{page_at, page_half, page_counter, differs, half_before}
use Rattle.plan_rules.specs.Effect.{leaving, feels, rested, differing, touched, counter_before, felt_before, own_before, other_before}
use Rattle.plan_rules.proofs.LetGo.{let-go-lasts}
use Rattle.plan_rules.proofs.Ran.{Ran, ran-none, ran-joined}
use Rattle.plan_rules.proofs.Page.{FreeIn, let-go-free, page_acts, page_put, page-run}
use Rattle.plan_rules.proofs.Half.{half_acts, half-run, half-passed}
use Rattle.plan_rules.proofs.Felt.{feels-cases, felt-keeps, felt-idle, felt-none}
use Rattle.plan_rules.proofs.Others.{Passed, passed_none, passed-joined, page-passed}
use Rattle.plan_rules.proofs.Pages.{page-length, bytes_before}

-- a slot that has left its exchange leaves none
leaving-idle : (t : Slot) → t.phase ≡ Idle → leaving t ≡ t
unfolding leaving
leaving-idle t e = ap (in_phase Idle) (idle-let-go t e) ∙ idle-same t e

pub rested-again : (h c h' c' : ℕ) (s : Slot) → rested h c (rested h' c' s) ≡ rested h c s
unfolding rested open-memory open-fields
rested-again h c h' c' s = ap (λ (r : Slot). with_left 0 (cancelled (abandoned (at_counter c (in_half h r))))) (leaving-idle (rested h' c' s) (unfold leaving in refl))

rested-half : (h c h' : ℕ) (s : Slot) → rested h c (in_half h' (leaving s)) ≡ rested h c s
unfolding rested open-memory open-fields
rested-half h c h' s = ap (λ (r : Slot). with_left 0 (cancelled (abandoned (at_counter c (in_half h r))))) (leaving-idle (in_half h' (leaving s)) (unfold leaving in refl))

-- both can be written to
rested-free : (h b h' c : ℕ) (s : Slot) → FreeIn h' b s → FreeIn h b (rested h c s)
unfolding rested leaving open-memory open-fields
rested-free h b h' c s f =
    let g = let-go-free h' b s f in
    record { present = g.present; newer = g.newer; no-ticks = refl; lasts = g.lasts; half = refl; unguarded = g.unguarded; bytes = refl; marks = refl }

half-free : (h b h' : ℕ) (s : Slot) → FreeIn h' b s → FreeIn h b (in_half h (leaving s))
unfolding leaving open-fields
half-free h b h' s f =
    let g = let-go-free h' b s f in
    record { present = g.present; newer = g.newer; no-ticks = g.no-ticks; lasts = g.lasts; half = refl; unguarded = g.unguarded; bytes = g.bytes; marks = g.marks }

-- the acts of half h where `now` stands, and of one page
unfoldable pub select_acts : ℕ → ℕ → List Act
select_acts now h = cond (eqb h now) [] (half_acts h)

-- one page at the slot itself, with its half selected where another stands
module _ (k : ℕ) (below : k < slot_count) (p : ℕ) (within : p < 32) (bs : List ℕ) (sixteen : length bs ≡ 16) where
  one-page : (now : ℕ) (s : Slot) (m : List ℕ) → FreeIn now (p / 8) s
      → Ran k (select_acts now (page_half p) ++ page_acts k (page_counter p) bs s.length) s m (rested (page_half p) (page_counter p) s) (page_put p bs m) (p ∷ [])
  unfolding select_acts
  one-page now s m f = by-test (eqb (page_half p) now)
      (λ e. rw e (page-run k p below bs sixteen s m
      (record { present = f.present; newer = f.newer; no-ticks = f.no-ticks; lasts = f.lasts; half = f.half ∙ sym (eqb-true (page_half p) now e) ∙ unfold page_half in refl; unguarded = f.unguarded; bytes = f.bytes; marks = f.marks })))
      (λ e. rw e (subst (λ (n : ℕ). Ran k (half_acts (page_half p) ++ page_acts k (page_counter p) bs n) s m (rested (page_half p) (page_counter p) s) (page_put p bs m) (p ∷ [])) selected-length
      (subst (λ (t : Slot). Ran k (half_acts (page_half p) ++ page_acts k (page_counter p) bs selected.length) s m t (page_put p bs m) (p ∷ [])) (rested-half (page_half p) (page_counter p) (page_half p) s)
      (ran-joined k (half-run k (page_half p) (unfold page_half in omega arith) s m f.present f.newer f.no-ticks) (page-run k p below bs sixteen selected m selected-free)))))
    where
      selected : Slot
      selected = in_half (page_half p) (leaving s)

      selected-length : selected.length ≡ s.length
      selected-length = unfold leaving open-fields in (let-go-lasts s).length

      selected-free : FreeIn (p / 16) (p / 8) selected
      selected-free = unfold page_half in half-free (p / 16) (p / 8) now s f

module _ (old image : List ℕ) (s : Slot) where
  -- the acts of pages 0 to p - 1 at slot k
  unfoldable pub acts_before : ℕ → ℕ → List Act
  acts_before k zero = []
  acts_before k (suc p) =
      acts_before k p ++ cond (differs old image p) (select_acts (half_before old image s p) (page_half p) ++ page_acts k (page_counter p) (page_at p image) s.length) []

  -- the slot itself, one page on
  own-step : (p : ℕ) → own_before old image s (suc p) ≡ cond (differs old image p) (rested (page_half p) (page_counter p) (own_before old image s p)) (own_before old image s p)
  unfolding own_before touched half_before counter_before
  own-step p = by-test (differs old image p)
      (λ d. rw (d, or-true (touched old image p)) (by-test (touched old image p)
      (λ t. rw t (sym (rested-again (page_half p) (page_counter p) (half_before old image s p) (counter_before old image s p) s)))
      (λ t. rw t)))
      (λ d. rw (d, or-false (touched old image p)))

  -- a page can be written to it wherever one could at first
  module _ (base : (b : ℕ) → get_or s.protection b false ≡ false → FreeIn s.half b s) where
    pub own-free : (p b : ℕ) → get_or s.protection b false ≡ false → FreeIn (half_before old image s p) b (own_before old image s p)
    unfolding half_before
    own-free zero b e = unfold own_before touched in base b e
    own-free (suc p) b e = rw (own-step p) (by-test (differs old image p)
        (λ d. rw d (rested-free (page_half p) b (half_before old image s p) (page_counter p) (own_before old image s p) (own-free p b e)))
        (λ d. rw d (own-free p b e)))

    own-length : (p : ℕ) → (own_before old image s p).length ≡ s.length
    unfolding own_before rested leaving open-memory open-fields
    own-length p = cond_cases (λ (t : Slot). t.length ≡ s.length) (touched old image p) (λ e. (let-go-lasts s).length) (λ e. refl)

    module _ (k : ℕ) (below : k < slot_count) (whole : length old ≡ 512) (wanted : length image ≡ 512)
        (allowed : (p : ℕ) → p < 32 → differs old image p ≡ true → get_or s.protection (p / 8) false ≡ false) where
      pub own-run : (p : ℕ) → p ≤ 32 → Ran k (acts_before k p) s old (own_before old image s p) (bytes_before old image p) (differing old image p)
      unfolding acts_before bytes_before differing
      own-run zero h = unfold own_before touched in ran-none k s old
      own-run (suc p) h = rw (own-step p) (by-test (differs old image p)
          (λ d. rw d (ran-joined k (own-run p (omega arith))
          (subst (λ (n : ℕ). Ran k (select_acts (half_before old image s p) (page_half p) ++ page_acts k (page_counter p) (page_at p image) n) (own_before old image s p) (bytes_before old image p) (rested (page_half p) (page_counter p) (own_before old image s p)) (page_put p (page_at p image) (bytes_before old image p)) (p ∷ [])) (own-length p)
          (one-page k below p (omega arith) (page_at p image) (page-length p image wanted (omega arith)) (half_before old image s p) (own_before old image s p) (bytes_before old image p)
          (own-free p (p / 8) (allowed p (omega arith) d))))))
          (λ d. rw (d, append-nil (acts_before k p), append-nil (differing old image p)) (own-run p (omega arith))))

  -- another slot n, present and in no cycle, one page on: it leaves the exchange it stood in, and feels a half that is selected
  module _ (n : ℕ) (t : Slot) where
    -- where the half stands already, and where it is selected
    other-left : (p : ℕ) → felt_before old image s n (leaving t) p ≡ leaving (other_before old image s n t p)
    unfolding other_before
    other-left p = by-test (touched old image p)
        (λ e. rw e (sym (leaving-idle (felt_before old image s n (leaving t) p) (felt-idle old image s n (leaving t) p (unfold leaving open-fields in refl)))))
        (λ e. rw e (felt-none old image s n (leaving t) p e))

    abbrev one_on : ℕ → Slot
    one_on p = cond (eqb (page_half p) (half_before old image s p)) (leaving (other_before old image s n t p)) (feels n (page_half p) (leaving (other_before old image s n t p)))

    other_step : (p : ℕ) → other_before old image s n t (suc p) ≡ cond (differs old image p) (one_on p) (other_before old image s n t p)
    unfolding other_before touched felt_before
    other_step p = by-test (differs old image p)
        (λ d. rw (d, or-true (touched old image p)) (by-test (eqb (page_half p) (half_before old image s p))
        (λ e. rw e (unfold other_before in other-left p))
        (λ e. rw e (unfold other_before in ap (feels n (page_half p)) (other-left p)))))
        (λ d. rw (d, or-false (touched old image p)))

    module _ (here : absent t ≡ false) (rests : t.left ≡ 0) where
      abbrev Kept : Slot → Type 0
      Kept w = (eqb w.kind 0 ≡ false) × (w.left ≡ 0)

      left-kept : (w : Slot) → Kept w → Kept (leaving w)
      unfolding leaving open-fields
      left-kept w h = (rw (let-go-lasts w).kind h.0, (let-go-lasts w).left ∙ h.1)

      felt-kept : (h : ℕ) (w : Slot) → Kept w → Kept (feels n h w)
      unfolding open-memory open-fields
      felt-kept h w e = feels-cases Kept n h w e e e

      other-kept : (p : ℕ) → Kept (other_before old image s n t p)
      unfolding other_before absent open-memory open-fields
      other-kept p = cond_cases Kept (touched old image p)
          (λ e. felt-keeps old image s n Kept (λ w h. h) (λ j w h. h) (leaving t) p (left-kept t (here, rests))) (λ e. (here, rests))

      module _ (k : ℕ) (below : k < slot_count) (other : n ≡ k → ⊥) where
        page-on : (p : ℕ) (bs : List ℕ) (count : ℕ) (w : Slot) (m : List ℕ) (now : ℕ) → p < 32 → Kept w
            → Passed n (select_acts now (page_half p) ++ page_acts k (page_counter p) bs count) w m (cond (eqb (page_half p) now) (leaving w) (feels n (page_half p) (leaving w)))
        unfolding select_acts absent
        page-on p bs count w m now l a = by-test (eqb (page_half p) now)
            (λ e. rw e (page-passed k below n other (page_counter p) bs count w m a.0 a.1))
            (λ e. rw e (subst (λ (r : Slot). Passed n (half_acts (page_half p) ++ page_acts k (page_counter p) bs count) w m r) (leaving-idle selected selected-idle)
            (passed-joined (half-passed n (page_half p) (unfold page_half in omega arith) w m a.0 a.1) (page-passed k below n other (page_counter p) bs count selected m selected-kept.0 selected-kept.1))))
          where
            selected : Slot
            selected = feels n (page_half p) (leaving w)

            selected-kept : Kept selected
            selected-kept = felt-kept (page_half p) (leaving w) (left-kept w a)

            selected-idle : selected.phase ≡ Idle
            selected-idle = unfold leaving open-memory open-fields in feels-cases (λ (r : Slot). r.phase ≡ Idle) n (page_half p) (leaving w) refl refl refl

        pub other-run : (p : ℕ) (m : List ℕ) → p ≤ 32 → Passed n (acts_before k p) t m (other_before old image s n t p)
        unfolding acts_before
        other-run zero m h = unfold other_before touched in passed_none n t m
        other-run (suc p) m h = rw (other_step p) (by-test (differs old image p)
            (λ d. rw d (passed-joined (other-run p m (omega arith))
            (page-on p (page_at p image) s.length (other_before old image s n t p) m (half_before old image s p) (omega arith) (other-kept p))))
            (λ d. rw (d, append-nil (acts_before k p)) (other-run p m (omega arith))))
