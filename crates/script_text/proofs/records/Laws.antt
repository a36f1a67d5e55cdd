-- Laws of the setup's pairs, of two's complement, and of records in pieces of their bytes.
-- Assumes nothing.
use mathlib.Core.Path.{◌≡◌, refl, sym, ◌∙◌, ap, ap₂, subst}
use mathlib.Core.List.{List, [], ◌∷◌, ◌++◌}
use Prim.Native.Nat.{ℕ, zero, suc, ◌+◌, ◌-◌, ◌*◌, ◌≤◌, ◌<◌}
use native.Mathlib.Nat.{zero-add, add-zero}
use native.Mathlib.Omega.{arith}
use borrow.Author.Tests.{ltb-true, ltb-false}
use lib.IntN.{pos, negsuc, ◌-ℤ◌}
use lib.Dec.{ltb}
use lib.ListN.{length, get_or, drop, length-append, get_or-append}
use lib.Seq.{get_or_at, get_or-drop}
use mir.Syntax.{w16}
use mir.Val.{to_z}
use mir.Facts.{to_z_pos, to_z-neg}
use Rattle.std.specs.Array.{IsFromFnResultFrom, IsFromFnResult}
use Rattle.std.proofs.lemmas.List.FromFn.{fill_by_all}
use Rattle.std.specs.Fn.{Called}
use denote.Param.Members.{Mut}
use Rattle.proof_lists.specs.Tests.{by-test}
use Rattle.rules.specs.declared.Pair.{Pair}
use Rattle.rules.specs.Modelled.{slot_count}
use Rattle.script_text.specs.Records.{pair_at, pairs_to, pairs_of, value_at, record_at}

-- one below zero, and so many more
pub below-zero : (m : ℕ) → negsuc 0 -ℤ pos m ≡ negsuc m
below-zero zero = refl
below-zero (suc m) = ap (λ (n : ℕ). negsuc (suc n)) (zero-add m)

-- two bytes read as a number with a sign
pub value-signed : (high low : ℕ) → high < 256 → low < 256 → to_z w16 (high * 256 + low) ≡ value_at high low
unfolding value_at
value-signed high low h l =
    by-test (ltb high 128)
    (λ e. let f : high < 128 = ltb-true high 128 e in to_z_pos w16 {n = high * 256 + low} (omega arith) ∙ rw e)
    (λ e.
    let f : 128 ≤ high = ltb-false high 128 e in
    let k = 65535 - (high * 256 + low) in
    let n : 65536 - suc k ≡ high * 256 + low = omega arith in
    ap (to_z w16) (sym n) ∙ to_z-neg w16 k (omega arith) ∙ rw e)

-- the setup's pairs
pub length_pairs : (bs : List ℕ) (n : ℕ) → length (pairs_to bs n) ≡ n
unfolding pairs_to
length_pairs bs zero = refl
length_pairs bs (suc n) = length-append (pairs_to bs n) (pair_at bs (2 * n) ∷ []) ∙ omega (arith, length_pairs bs n)

pub pairs-at : (bs : List ℕ) (n k : ℕ) (z : Pair) → k < n → get_or (pairs_to bs n) k z ≡ pair_at bs (2 * k)
unfolding pairs_to
pairs-at bs zero k z h = absurd (none h)
  where
    none : {i : ℕ} → i < 0 → ⊥
    none h = omega arith
pairs-at bs (suc n) k z h =
    by-test (ltb k n)
    (λ e. get_or-append (pairs_to bs n) (pair_at bs (2 * n) ∷ []) z k (rw (length_pairs bs n) (ltb-true k n e)) ∙ pairs-at bs n k z (ltb-true k n e))
    (λ e.
    let f : n ≡ k = let g : n ≤ k = ltb-false k n e in omega arith in
    get_or_at (pairs_to bs n) (pair_at bs (2 * n)) [] z k (length_pairs bs n ∙ f) ∙ ap (λ i. pair_at bs (2 * i)) f)

-- a list made from calls at each number, none of which changes what is called
made_from : {F B : Type 0} (g : Mut F (ℕ × Unit {0}) B) (h : ℕ → B) (f : F) → ((i : ℕ) (y : B) (q : F) → Called g f (i, tt) y q → (y ≡ h i) × (q ≡ f))
    → (ys : List B) (n i : ℕ) → IsFromFnResultFrom g f ys i n → (k j : ℕ) (d : B) → k < n → i + k ≡ j → get_or ys j d ≡ h j
made_from g h f step ys zero i m k j d l e = absurd (omega arith)
made_from g h f step ys (suc n) i m zero j d l e = let here : i ≡ j = omega arith in rw (← here) (m.2.1 d ∙ (step i m.1 m.0 m.3).0)
made_from g h f step ys (suc n) i m (suc k) j d l e =
    made_from g h f step ys n (i + 1) (subst (λ q. IsFromFnResultFrom g q ys (i + 1) n) (step i m.1 m.0 m.3).1 m.4) k j d (omega arith) (omega arith)

-- and the setup's eight pairs so
pub pairs-made : {F : Type 0} (g : Mut F (ℕ × Unit {0}) Pair) (f : F) (bs : List ℕ) (ps : List Pair)
    → ((i : ℕ) (p : Pair) (q : F) → Called g f (i, tt) p q → (p ≡ pair_at bs (2 * i)) × (q ≡ f)) → IsFromFnResult g f ps 8 → ps ≡ pairs_of bs
unfolding pairs_of pairs_to
pairs-made g f bs ps step m = fill_by_all (λ i. pair_at bs (2 * i)) ps 8 (pair_at bs 0) m.long (λ k h. made_from g (λ i. pair_at bs (2 * i)) f step ps 8 0 m.each k k _ h (omega arith))

-- a record is its four bytes
pub same-record : (p q : List ℕ) (i j : ℕ) → ((k : ℕ) → k < 4 → get_or p (i + k) 0 ≡ get_or q (j + k) 0) → record_at p i ≡ record_at q j
unfolding record_at
same-record p q i j h =
    let a : get_or p i 0 ≡ get_or q j 0 = sym (ap (λ n. get_or p n 0) (add-zero i)) ∙ h 0 (omega arith) ∙ ap (λ n. get_or q n 0) (add-zero j) in
    λ t. record { kind = a t; slot = record { 0 = h 1 (omega arith) t }; value = value_at (h 2 (omega arith) t) (h 3 (omega arith) t) }

-- records of a first piece, and records further on
pub record-first : (p q : List ℕ) (i : ℕ) → i + 4 ≤ length p → record_at (p ++ q) i ≡ record_at p i
record-first p q i h = same-record (p ++ q) p i i (λ k l. get_or-append p q 0 (i + k) (omega arith))

pub record-later : (p : List ℕ) (n i : ℕ) → record_at (drop n p) i ≡ record_at p (n + i)
record-later p n i = same-record (drop n p) p i (n + i) (λ k l. get_or-drop n p (i + k) 0 ∙ ap (λ m. get_or p m 0) (omega arith))

-- the setup's pairs stand in the first sixteen bytes
pairs_first : (p q : List ℕ) (n : ℕ) → 2 * n ≤ length p → pairs_to (p ++ q) n ≡ pairs_to p n
unfolding pairs_to pair_at
pairs_first p q zero h = refl
pairs_first p q (suc n) h =
    let a : get_or (p ++ q) (2 * n) 0 ≡ get_or p (2 * n) 0 = get_or-append p q 0 (2 * n) (omega arith) in
    let b : get_or (p ++ q) (2 * n + 1) 0 ≡ get_or p (2 * n + 1) 0 = get_or-append p q 0 (2 * n + 1) (omega arith) in
    ap₂ ◌++◌ (pairs_first p q n (omega arith)) (λ t. record { kind = a t; length = b t } ∷ [])

pub pairs-of : (head more : List ℕ) → length head ≡ 16 → pairs_of (head ++ more) ≡ pairs_of head
unfolding pairs_of
pairs-of head more l = pairs_first head more slot_count (omega arith)
