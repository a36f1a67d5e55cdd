-- Bytes stored over the front of one part of a buffer: that part then begins with these and goes on as it did, and every other part is as it was.
-- Assumes nothing.
use Rattle.std.specs.Prelude.{ℕ, zero, suc, ◌+◌, ◌-◌, ◌*◌, ◌≤◌, ◌<◌, ◌≡◌, refl, List, [], ◌∷◌, ◌++◌, ltb, length, get_or, set, drop}
use Rattle.std.proofs.Common.{add-zero, add-suc, suc-add, mul-suc, mul-le-mul_left, arith, sym, ◌∙◌, ap, ltb-true, ltb-false, length-set, length-append, length-drop, get_or-set_same, get_or-set_other, get_or-append-add, get_or-drop, ext_get_or}
use Rattle.std.proofs.Math.ListN.{get_or-append}
use Rattle.std.proofs.lemmas.List.Edits.{sets}
use Rattle.std.proofs.Math.Seq.{length-sets}
use Rattle.proof_lists.specs.Tests.{by-test}
use Rattle.proof_lists.specs.Parts.{part, length_part, get_d_part}

-- byte by byte
pub get_d_sets_before : (l : List ℕ) (i : ℕ) (vs : List ℕ) (a d : ℕ) → a < i → get_or (sets l i vs) a d ≡ get_or l a d
get_d_sets_before l i [] a d h = refl
get_d_sets_before l i (v ∷ vs) a d h = get_d_sets_before (set l i v) (suc i) vs a d (omega arith) ∙ get_or-set_other l i a v d (λ e. omega arith)

pub get_d-sets-behind : (l : List ℕ) (i : ℕ) (vs : List ℕ) (a d : ℕ) → i + length vs ≤ a → get_or (sets l i vs) a d ≡ get_or l a d
get_d-sets-behind l i [] a d h = refl
get_d-sets-behind l i (v ∷ vs) a d h = get_d-sets-behind (set l i v) (suc i) vs a d (omega arith) ∙ get_or-set_other l i a v d (λ e. omega arith)

pub get_d-sets-at : (l : List ℕ) (i : ℕ) (vs : List ℕ) (j d : ℕ) → j < length vs → i + length vs ≤ length l
    → get_or (sets l i vs) (i + j) d ≡ get_or vs j d
get_d-sets-at l i (v ∷ vs) zero d h g =
    rw add-zero (get_d_sets_before (set l i v) (suc i) vs i d (omega arith) ∙ get_or-set_same l i v d (omega arith))
get_d-sets-at l i (v ∷ vs) (suc j) d h g =
    ap (λ (n : ℕ). get_or (sets (set l i v) (suc i) vs) n d) (add-suc i j ∙ sym (suc-add i j))
    ∙ get_d-sets-at (set l i v) (suc i) vs j d (omega arith) (rw length-set (omega arith))
get_d-sets-at l i [] j d h g = elim h [ ]

module _ (w k : ℕ) (l vs : List ℕ) (within : length vs ≤ w) (fits : w * k + w ≤ length l) where
  pub part-laid : part w k (sets l (w * k) vs) ≡ vs ++ drop (length vs) (part w k l)
  part-laid =
      let n : length (part w k (sets l (w * k) vs)) ≡ w = rw (length_part, length-sets) (omega arith) in
      let o : length (part w k l) ≡ w = rw length_part (omega arith) in
      let s : length (vs ++ drop (length vs) (part w k l)) ≡ w = rw (length-append, length-drop) (omega arith) in
      ext_get_or 0 (part w k (sets l (w * k) vs)) (vs ++ drop (length vs) (part w k l)) (n ∙ sym s)
      (λ i h. get_d_part w k (sets l (w * k) vs) i 0 (omega arith)
      ∙ by-test (ltb i (length vs))
      (λ e. get_d-sets-at l (w * k) vs i 0 (ltb-true i (length vs) e) (omega arith) ∙ sym (get_or-append vs _ 0 i (ltb-true i (length vs) e)))
      (λ e.
      let f : length vs ≤ i = ltb-false i (length vs) e in
      let j : length vs + (i - length vs) ≡ i = omega arith in
      get_d-sets-behind l (w * k) vs (w * k + i) 0 (omega arith)
      ∙ sym (get_d_part w k l i 0 (omega arith))
      ∙ ap (λ (a : ℕ). get_or (part w k l) a 0) (sym j)
      ∙ sym (get_or-drop (length vs) (part w k l) (i - length vs) 0)
      ∙ sym (get_or-append-add vs (drop (length vs) (part w k l)) (i - length vs) 0)
      ∙ ap (λ (a : ℕ). get_or (vs ++ drop (length vs) (part w k l)) a 0) j))

  pub part-beside : (j : ℕ) → (j ≡ k → ⊥) → part w j (sets l (w * k) vs) ≡ part w j l
  part-beside j ne =
      let n : length (part w j (sets l (w * k) vs)) ≡ length (part w j l) = length_part w j (sets l (w * k) vs)
      ∙ rw length-sets (sym (length_part w j l)) in
      let o : length (part w j (sets l (w * k) vs)) ≤ w = rw (length_part, length-sets) (omega arith) in
      ext_get_or 0 (part w j (sets l (w * k) vs)) (part w j l) n
      (λ i h. get_d_part w j (sets l (w * k) vs) i 0 (omega arith)
      ∙ by-test (ltb j k)
      (λ e.
      let a : w * suc j ≤ w * k = mul-le-mul_left w (ltb-true j k e) in
      let b : w * suc j ≡ w * j + w = mul-suc w j in
      get_d_sets_before l (w * k) vs (w * j + i) 0 (omega arith))
      (λ e.
      let f : k ≤ j = ltb-false j k e in
      let a : w * suc k ≤ w * j = mul-le-mul_left w (omega (arith, ne)) in
      let b : w * suc k ≡ w * k + w = mul-suc w k in
      get_d-sets-behind l (w * k) vs (w * j + i) 0 (omega arith))
      ∙ sym (get_d_part w j l i 0 (omega arith)))
