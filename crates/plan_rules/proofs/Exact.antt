-- Request P1, theorem 3: the pages written are those that differ, in order, each once; a half is selected exactly where another stands; refusal 7 is given
-- exactly when a page that differs lies in a block that is protected after the five ticks.
-- Assumes nothing.
use Prim.Native.Nat.{ℕ, zero, suc, ◌<◌, ◌≤◌}
use native.Mathlib.Omega.{arith}
use mathlib.Core.Path.{◌≡◌, refl, sym, ◌∙◌, ap, subst}
use mathlib.Core.Bool.{Bool, true, false, false≢true, cond, ◌&&◌, ◌||◌, or-false, or-true}
use mathlib.Core.List.{List, [], ◌∷◌, ◌++◌, append-nil}
use lib.Dec.{eqb, ltb}
use borrow.Author.Tests.{eqb-true, eqb-false, eq-eqb, ltb-true, ltb-false, lt-ltb, le-ltb}
use Rattle.proof_lists.specs.Each.{Every}
use Rattle.proof_lists.specs.Tests.{by-test, and_left, and_right, or_cases, or_left_false, or_right_false}
use Rattle.rules.specs.declared.Slot.{Slot}
use Rattle.rules.specs.Open.{open-fields, open-memory}
use Rattle.rules.specs.Control.{protects}
use Rattle.rules.specs.Refusals.{kinds_of}
use Rattle.rules.specs.Runs.{Bench, after}
use Rattle.runs.specs.Exchanges.{acts_of}
use Rattle.plan_rules.specs.Plan.{five_ticks, settled, slot_at, bytes_at, page_count, page_block, differs, barred, barred_before, half_before, pages_before, forbidden}
use Rattle.plan_rules.specs.Effect.{begun_pages, differing, touched, rested, own_before}
use Rattle.plan_rules.proofs.Acted.{acted-acts}
use Rattle.plan_rules.proofs.Carried.{Asked, own, acted, own-slot}

-- the list of pages: one is listed exactly if it differs, and they ascend
abbrev pub listed : ℕ → List ℕ → Bool
listed p [] = false
listed p (q ∷ ps) = eqb p q || listed p ps

abbrev pub Ascending : List ℕ → Type 0
Ascending [] = Unit {0}
Ascending (p ∷ ps) = Every (λ q. p < q) ps × Ascending ps

listed-joined : (p : ℕ) (ps qs : List ℕ) → listed p (ps ++ qs) ≡ listed p ps || listed p qs
listed-joined p [] qs = refl
listed-joined p (q ∷ ps) qs = by-test (eqb p q) (λ e. rw e) (λ e. rw e (listed-joined p ps qs))

every-joined : (P : ℕ → Type 0) (ps : List ℕ) (n : ℕ) → Every P ps → P n → Every P (ps ++ n ∷ [])
every-joined P [] n h e = (e, tt)
every-joined P (q ∷ ps) n h e = (h.0, every-joined P ps n h.1 e)

every-weaker : (P Q : ℕ → Type 0) → ((n : ℕ) → P n → Q n) → (ps : List ℕ) → Every P ps → Every Q ps
every-weaker P Q f [] h = tt
every-weaker P Q f (q ∷ ps) h = (f q h.0, every-weaker P Q f ps h.1)

ascending-joined : (ps : List ℕ) (n : ℕ) → Ascending ps → Every (λ q. q < n) ps → Ascending (ps ++ n ∷ [])
ascending-joined [] n a h = (tt, tt)
ascending-joined (q ∷ ps) n a h = (every-joined (λ r. q < r) ps n a.0 h.0, ascending-joined ps n a.1 h.1)

module _ (old image : List ℕ) where
  below : (p : ℕ) → Every (λ q. q < p) (differing old image p)
  unfolding differing
  below zero = tt
  below (suc p) =
      let smaller : Every (λ q. q < suc p) (differing old image p) = every-weaker (λ q. q < p) (λ q. q < suc p) (λ n l. omega (arith, l)) (differing old image p) (below p) in
      by-test (differs old image p) (λ d. rw d (every-joined (λ q. q < suc p) (differing old image p) p smaller (omega arith))) (λ d. rw (d, append-nil (differing old image p)) smaller)

  pub ascending : (p : ℕ) → Ascending (differing old image p)
  unfolding differing
  ascending zero = tt
  ascending (suc p) = by-test (differs old image p)
      (λ d. rw d (ascending-joined (differing old image p) p (ascending p) (below p))) (λ d. rw (d, append-nil (differing old image p)) (ascending p))

  pub listed-exactly : (p q : ℕ) → listed q (differing old image p) ≡ ltb q p && differs old image q
  unfolding differing
  listed-exactly zero q = rw (le-ltb q 0 (omega arith))
  listed-exactly (suc p) q =
      listed-joined q (differing old image p) (cond (differs old image p) (p ∷ []) []) ∙ ap (λ (b : Bool). b || listed q (cond (differs old image p) (p ∷ []) [])) (listed-exactly p q)
      ∙ by-test (eqb q p)
      (λ e. let f : q ≡ p = eqb-true q p e in rw (f, le-ltb p p (omega arith), lt-ltb p (suc p) (omega arith)) (last (differs old image p) p))
      (λ e. let ne : q ≡ p → ⊥ = eqb-false q p e in
      let t : ltb q (suc p) ≡ ltb q p = by-test (ltb q p) (λ a. rw a (lt-ltb q (suc p) (omega (arith, ltb-true q p a)))) (λ a. rw a (le-ltb q (suc p) (omega (arith, ne, ltb-false q p a)))) in
      rw t (other (differs old image p) (ltb q p && differs old image q) e ∙ or-false _))
    where
      last : (b : Bool) (n : ℕ) → listed n (cond b (n ∷ []) []) ≡ b
      last true n = rw (eq-eqb n n refl)
      last false n = refl

      other : (b c : Bool) → eqb q p ≡ false → (c || listed q (cond b (p ∷ []) [])) ≡ (c || false)
      other true c e = rw e
      other false c e = refl

  module _ (s : Slot) where
    -- where no page was written the half is still the slot's own
    half-none : (p : ℕ) → touched old image p ≡ false → half_before old image s p ≡ s.half
    unfolding touched half_before
    half-none zero e = refl
    half-none (suc p) e = rw (or_right_false (touched old image p) (differs old image p) e) (half-none p (or_left_false (touched old image p) (differs old image p) e))

    own-half : (p : ℕ) → (own_before old image s p).half ≡ half_before old image s p
    unfolding own_before rested open-memory open-fields
    own-half p = by-test (touched old image p) (λ e. rw e) (λ e. rw e (sym (half-none p e)))

    -- a page that bars the plan, and its number
    pub record Bars (p : ℕ) : Type 0 where
      pub page : ℕ
      pub among : page < p
      pub unlike : differs old image page ≡ true
      pub protected : protects (page_block page) s ≡ true

    pub barred-page : (p : ℕ) → barred_before old image s p ≡ true → Bars p
    unfolding barred_before barred
    barred-page zero e = absurd (false≢true e)
    barred-page (suc p) e = or_cases (barred_before old image s p) (barred old image s p) e
        (λ b. let r = barred-page p b in record { page = r.page; among = omega (arith, r.among); unlike = r.unlike; protected = r.protected })
        (λ b. record { page = p; among = omega arith; unlike = and_left (differs old image p) (protects (page_block p) s) b; protected = and_right (differs old image p) (protects (page_block p) s) b })

    pub page-barred : (p : ℕ) → Bars p → barred_before old image s p ≡ true
    unfolding barred_before barred
    page-barred zero b = absurd (let l = b.among in omega arith)
    page-barred (suc p) b = by-test (eqb b.page p)
        (λ e. let f : b.page ≡ p = eqb-true b.page p e in
        let u : differs old image p ≡ true = subst (λ n. differs old image n ≡ true) f b.unlike in
        let v : protects (page_block p) s ≡ true = subst (λ n. protects (page_block n) s ≡ true) f b.protected in
        rw (u, v) (or-true (barred_before old image s p)))
        (λ e. let ne = eqb-false b.page p e in
        let i = page-barred p (record { page = b.page; among = let l = b.among in omega (arith, ne, l); unlike = b.unlike; protected = b.protected }) in rw i)

-- "Refusal 7, exactly when a page that differs lies in a protected block", both ways, of any bench and any image
module _ (k : ℕ) (x : Bench) (image : List ℕ) where
  abbrev pub Forbids : Type 0
  Forbids = Bars (bytes_at k (settled x)) image (slot_at k (settled x)) page_count

  pub forbidden-then : forbidden k x image ≡ true → Forbids
  unfolding forbidden
  forbidden-then e = barred-page (bytes_at k (settled x)) image (slot_at k (settled x)) page_count e

  pub then-forbidden : Forbids → forbidden k x image ≡ true
  unfolding forbidden
  then-forbidden b = page-barred (bytes_at k (settled x)) image (slot_at k (settled x)) page_count b

module _ (k : ℕ) (x : Bench) (image : List ℕ) (asked : Asked k x image) where
  -- "Only pages that then differ are written, each once": the cycles that slot k begins in the run after the five ticks are those of the pages that differ
  pub writes-exactly :
      begun_pages k (acts_of (kinds_of x.bus) (pages_before (bytes_at k (settled x)) image (slot_at k (settled x)) k page_count)) (slot_at k (settled x))
      ≡ differing (bytes_at k (settled x)) image page_count
  writes-exactly =
      ap (λ r. begun_pages k r (slot_at k (settled x))) (acted-acts (kinds_of x.bus) (acted k x image asked 32 (omega arith))) ∙ (own k x image asked 32 (omega arith)).begins

  -- "only when needed": where page p is planned, the half that it is compared with is the one that stands by the law
  pub half-stands : (p : ℕ) → p ≤ page_count
      → (slot_at k (after (five_ticks ++ pages_before (bytes_at k (settled x)) image (slot_at k (settled x)) k p) x)).half ≡ half_before (bytes_at k (settled x)) image (slot_at k (settled x)) p
  half-stands p h = ap (λ (s : Slot). s.half) (own-slot k x image asked p h) ∙ own-half (bytes_at k (settled x)) image (slot_at k (settled x)) p
