-- The definitions in the form in which a function's proof asks for them: a premise for each fact of the way to a return.
-- Assumes nothing.
use Rattle.std.proofs.Common.{◌≡◌, refl, ◌∙◌, ap, ℕ, ◌+◌, ◌*◌, ◌<◌, ◌≤◌, Bool, true, false, List, [], ◌∷◌, ◌++◌, map, length, append_assoc, append-nil, add-one, arith, length-append}
use Rattle.rules.specs.declared.Event.{Event}
use Rattle.rules.specs.declared.Slot.{Slot}
use Rattle.rules.specs.Modelled.{slot_bytes}
use Rattle.plan_rules.specs.Plan.{start, byte, stop, ticks, page_count, page_at, page_half, page_counter, selecting, writing, differs, half_before, page_events, pages_before}
use Rattle.plan_rules.proofs.Count.{length-writing}
use Rattle.plan_rules.proofs.Pages.{page-length}
use Rattle.plan_pages.specs.declared.records.Plan.{Plan}
use Rattle.plan_pages.specs.Laid.{with_laid, exchanging}
use Rattle.plan_pages.proofs.records.Laws.{laid_none, laid_then, laid-sizes, length-selecting}

-- a page: its half, its write, its ticks
pub page-by : (k c count stands half : ℕ) (bytes sent : List ℕ) (p : Plan) → sent ≡ c ∷ bytes
    → with_laid (ticks count) (with_laid (exchanging (0xA0 + 2 * k) sent) (with_laid (selecting stands half) p))
    ≡ with_laid (selecting stands half ++ writing k c bytes count) p
unfolding exchanging writing
page-by k c count stands half bytes sent p e =
    let x : List Event = start ∷ byte (0xA0 + 2 * k) ∷ byte c ∷ map byte bytes ++ stop ∷ [] in
    let t : x ++ ticks count ≡ start ∷ byte (0xA0 + 2 * k) ∷ byte c ∷ map byte bytes ++ stop ∷ ticks count =
    ap (λ (l : List Event). start ∷ byte (0xA0 + 2 * k) ∷ byte c ∷ l) (append_assoc (map byte bytes) (stop ∷ []) (ticks count)) in
    ap (λ (l : List ℕ). with_laid (ticks count) (with_laid (start ∷ byte (0xA0 + 2 * k) ∷ map byte l ++ stop ∷ []) (with_laid (selecting stands half) p))) e
    ∙ laid_then x (ticks count) (with_laid (selecting stands half) p) ∙ laid_then (selecting stands half) (x ++ ticks count) p
    ∙ ap (λ (l : List Event). with_laid (selecting stands half ++ l) p) t

-- how many bytes are sent, and at most 28 records
pub sent-length : (x image : List ℕ) (c p : ℕ) → p < page_count → length image ≡ slot_bytes → x ≡ c ∷ page_at p image → length x ≡ 17
sent-length x image c p h l e = ap length e ∙ omega (arith, page-length p image l h)

most-records : (k c count stands half : ℕ) (bytes : List ℕ) → length bytes ≡ 16 → count ≤ 5 → length (selecting stands half ++ writing k c bytes count) ≤ 28
most-records k c count stands half bytes l h =
    rw (length-append (selecting stands half) (writing k c bytes count)) (omega (arith, length-writing k c bytes count, length-selecting stands half))

pub most-page : (k c count stands half p : ℕ) (image : List ℕ) (o q : Plan) → p < page_count → length image ≡ slot_bytes → count ≤ 5
    → q ≡ with_laid (selecting stands half ++ writing k c (page_at p image) count) o → q.count ≤ o.count + 28
most-page k c count stands half p image o q h l f e =
    let s = laid-sizes (selecting stands half ++ writing k c (page_at p image) count) o q e in
    omega (arith, most-records k c count stands half (page_at p image) (page-length p image l h) f)

-- no page, a page that differs, and one that does not: the half that stands then, and the records
module _ (old image : List ℕ) (s : Slot) where
  pub half-none : s.half ≡ half_before old image s 0
  unfolding half_before
  half-none = refl

  module _ (p : ℕ) (t : Bool) (judged : t ≡ differs old image p) where
    pub half-more : t ≡ true → page_half p ≡ half_before old image s (p + 1)
    unfolding half_before
    half-more e = rw (add-one, ← judged, e)

    pub half-same : (h : ℕ) → t ≡ false → h ≡ half_before old image s p → h ≡ half_before old image s (p + 1)
    unfolding half_before
    half-same h e f = rw (add-one, ← judged, e) f

  module _ (k : ℕ) (b : Plan) where
    pub pages-none : b ≡ with_laid (pages_before old image s k 0) b
    unfolding pages_before
    pages-none = laid_none b

    module _ (p : ℕ) (t : Bool) (judged : t ≡ differs old image p) (o : Plan) (laid : o ≡ with_laid (pages_before old image s k p) b) where
      pub pages-more : (h : ℕ) (q : Plan) → t ≡ true → h ≡ half_before old image s p
          → q ≡ with_laid (selecting h (page_half p) ++ writing k (page_counter p) (page_at p image) s.length) o
          → q ≡ with_laid (pages_before old image s k (p + 1)) b
      unfolding pages_before page_events
      pages-more h q e f g =
          rw (add-one, ← judged, e)
          (g ∙ ap (λ (j : ℕ). with_laid (selecting j (page_half p) ++ writing k (page_counter p) (page_at p image) s.length) o) f
          ∙ ap (with_laid (page_events old image s k p)) laid ∙ laid_then (pages_before old image s k p) _ b)

      pub pages-same : t ≡ false → o ≡ with_laid (pages_before old image s k (p + 1)) b
      unfolding pages_before
      pages-same e = rw (add-one, ← judged, e, append-nil) laid
