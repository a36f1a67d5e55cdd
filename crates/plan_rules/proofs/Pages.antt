-- The slot's bytes page by page: what one page's cycle stores, and what stands when pages 0 to p - 1 are done.
-- Assumes nothing.
use Prim.Native.Nat.{ℕ, zero, suc, ◌+◌, ◌-◌, ◌*◌, ◌<◌, ◌≤◌}
use native.Mathlib.Omega.{arith}
use mathlib.Core.Path.{◌≡◌, refl, sym, ◌∙◌, ap₂}
use mathlib.Core.Bool.{true, false, false≢true, cond}
use mathlib.Core.List.{List, [], ◌∷◌, map}
use lib.Dec.{eqb, ltb}
use lib.ListN.{length, get_or}
use lib.Seq.{ext_get_or}
use borrow.Author.Tests.{eqb-true, eqb-false, eq-eqb, ltb-true, ltb-false, lt-ltb, le-ltb, not-false}
use Rattle.std.proofs.lemmas.Slice.Eq.{bytes_eq-Decides}
use Rattle.proof_lists.specs.Tests.{by-test, cond_cases, and_left, and_right}
use Rattle.proof_lists.specs.Parts.{length_part, get_d_part, parts-ext}
use Rattle.rules.proofs.Memory.Stored.{length-put_up_to, put-elsewhere, put-here}
use Rattle.plan_rules.proofs.Page.{page_put}
use Rattle.plan_rules.specs.Plan.{page_at, page_count, same, differs}

-- a page of 512 bytes has sixteen
pub page-length : (q : ℕ) (m : List ℕ) → length m ≡ 512 → q < 32 → length (page_at q m) ≡ 16
unfolding page_at
page-length q m l h = length_part 16 q m ∙ rw l (omega arith)

marked : (bs : List ℕ) (i : ℕ) → i < length bs → get_or (map (λ b. true) bs) i false ≡ true
marked [] i h = absurd (omega arith)
marked (b ∷ bs) zero h = refl
marked (b ∷ bs) (suc i) h = marked bs i (omega arith)

-- what the cycle of page p stores is that page, and no other is touched
module _ (p : ℕ) (bs : List ℕ) (sixteen : length bs ≡ 16) (m : List ℕ) (whole : length m ≡ 512) (below : p < 32) where
  pub put-length : length (page_put p bs m) ≡ 512
  put-length = length-put_up_to bs (map (λ b. true) bs) (16 * p) 16 m ∙ whole

  pub put-page : page_at p (page_put p bs m) ≡ bs
  unfolding page_at
  put-page = ext_get_or 0 _ _ (page-length p (page_put p bs m) put-length below ∙ sym sixteen) λ i h.
      let j : i < 16 = rw (page-length p (page_put p bs m) put-length below) at h in
      let o : 16 * p + i - 16 * p ≡ i = omega arith in
      get_d_part 16 p (page_put p bs m) i 0 j
      ∙ put-here bs (map (λ b. true) bs) (16 * p) m (16 * p + i) 0 16 (omega arith) (omega arith) (omega arith)
      ∙ rw (o, marked bs i (omega arith))

  pub put-beside : (q : ℕ) → q < 32 → (q ≡ p → ⊥) → page_at q (page_put p bs m) ≡ page_at q m
  unfolding page_at
  put-beside q l ne = ext_get_or 0 _ _ (page-length q (page_put p bs m) put-length l ∙ sym (page-length q m whole l)) λ i h.
      let j : i < 16 = rw (page-length q (page_put p bs m) put-length l) at h in
      get_d_part 16 q (page_put p bs m) i 0 j
      ∙ put-elsewhere bs (map (λ b. true) bs) (16 * p) m (16 * q + i) 0 16 (λ a b. ne (omega arith))
      ∙ sym (get_d_part 16 q m i 0 j)

module _ (old image : List ℕ) where
  -- the bytes when pages 0 to p - 1 are done
  unfoldable pub bytes_before : ℕ → List ℕ
  bytes_before zero = old
  bytes_before (suc p) = cond (differs old image p) (page_put p (page_at p image) (bytes_before p)) (bytes_before p)

  module _ (whole : length old ≡ 512) (wanted : length image ≡ 512) where
    pub bytes-length : (p : ℕ) → p ≤ 32 → length (bytes_before p) ≡ 512
    unfolding bytes_before
    bytes-length zero h = whole
    bytes-length (suc p) h = cond_cases (λ (l : List ℕ). length l ≡ 512) (differs old image p)
        (λ e. put-length p (page_at p image) (page-length p image wanted (omega arith)) (bytes_before p) (bytes-length p (omega arith)) (omega arith))
        (λ e. bytes-length p (omega arith))

    -- a page that does not differ
    alike : (p : ℕ) → differs old image p ≡ false → page_at p old ≡ page_at p image
    unfolding differs
    alike p d = (bytes_eq-Decides (page_at p old) (page_at p image)).0 (not-false (same (page_at p old) (page_at p image)) d)

    -- the pages done are the image's, and the others are as they were
    pub pages-done : (p q : ℕ) → p ≤ 32 → q < 32 → page_at q (bytes_before p) ≡ cond (ltb q p) (page_at q image) (page_at q old)
    unfolding bytes_before
    pages-done zero q h l = rw (le-ltb q 0 (omega arith))
    pages-done (suc p) q h l = by-test (eqb q p)
        (λ e. let f : q ≡ p = eqb-true q p e in
        rw (f, lt-ltb p (suc p) (omega arith)) (by-test (differs old image p)
        (λ d. rw d (put-page p (page_at p image) (page-length p image wanted (omega arith)) (bytes_before p) (bytes-length p (omega arith)) (omega arith)))
        (λ d. rw d (pages-done p p (omega arith) (omega arith) ∙ rw (le-ltb p p (omega arith)) (alike p d)))))
        (λ e. let ne : q ≡ p → ⊥ = eqb-false q p e in
        let t : ltb q (suc p) ≡ ltb q p = by-test (ltb q p) (λ a. rw a (lt-ltb q (suc p) (omega (arith, ltb-true q p a)))) (λ a. rw a (le-ltb q (suc p) (omega (arith, ne, ltb-false q p a)))) in
        rw t (by-test (differs old image p)
        (λ d. rw d (put-beside p (page_at p image) (page-length p image wanted (omega arith)) (bytes_before p) (bytes-length p (omega arith)) (omega arith) q l ne ∙ pages-done p q (omega arith) l))
        (λ d. rw d (pages-done p q (omega arith) l))))

    -- and when all are done, the image stands
    pub image-stands : bytes_before page_count ≡ image
    unfolding page_at
    image-stands = parts-ext 16 32 (bytes_before 32) image (bytes-length 32 (omega arith)) wanted
        (λ q l. pages-done 32 q (omega arith) l ∙ rw (lt-ltb q 32 l))
