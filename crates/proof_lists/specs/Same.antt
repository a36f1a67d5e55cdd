-- Two lists of numbers compared, and a list looked for at a place of another.
-- Assumes nothing.
use Rattle.std.specs.Prelude.{◌≡◌, refl, List, [], ◌∷◌, ◌++◌, Bool, true, false, ◌&&◌, ℕ, ◌+◌, ◌≤◌, ◌<◌, eqb, length, get_or, take, drop}
use Rattle.std.proofs.Common.{sym, ◌∙◌, ap, ap₂, add-one, arith, eqb-true, eq-eqb, length-append, length-take, length-drop, take_all, take-add, take-suc, drop-drop, get_or-drop, length-take-le}
use Rattle.std.proofs.lemmas.Bool.{false≢true}
use Rattle.std.proofs.Math.Bool.{and_assoc, and-true}
use Rattle.std.proofs.Math.Nat.{suc_inj}
use Rattle.std.proofs.Math.Seq.{take-length}
use Rattle.proof_lists.specs.Tests.{and_left, and_right, both}

-- the same numbers, and as many
unfoldable pub same : List ℕ → List ℕ → Bool
same [] [] = true
same [] (y ∷ ys) = false
same (x ∷ xs) [] = false
same (x ∷ xs) (y ∷ ys) = eqb x y && same xs ys

pub same_refl : (xs : List ℕ) → same xs xs ≡ true
unfolding same
same_refl [] = refl
same_refl (x ∷ xs) = both (eqb x x) (same xs xs) (eq-eqb x x refl) (same_refl xs)

pub same-eq : (xs ys : List ℕ) → same xs ys ≡ true → xs ≡ ys
unfolding same
same-eq [] [] e = refl
same-eq [] (y ∷ ys) e = absurd (false≢true e)
same-eq (x ∷ xs) [] e = absurd (false≢true e)
same-eq (x ∷ xs) (y ∷ ys) e = ap₂ ◌∷◌ (eqb-true x y (and_left (eqb x y) (same xs ys) e)) (same-eq xs ys (and_right (eqb x y) (same xs ys) e))

-- lists that are as long in front are the same in front and behind
pub same-append : (xs zs ys vs : List ℕ) → length xs ≡ length ys → same (xs ++ zs) (ys ++ vs) ≡ (same xs ys && same zs vs)
unfolding same
same-append [] zs [] vs h = refl
same-append [] zs (y ∷ ys) vs h = absurd (omega arith)
same-append (x ∷ xs) zs [] vs h = absurd (omega arith)
same-append (x ∷ xs) zs (y ∷ ys) vs h = ap (λ (b : Bool). eqb x y && b) (same-append xs zs ys vs (suc_inj h))
    ∙ sym (and_assoc (eqb x y) (same xs ys) (same zs vs))

-- a list stands in another from a place on
unfoldable pub stands : List ℕ → List ℕ → ℕ → Bool
stands xs ys at = same xs (take (length xs) (drop at ys))

-- and two, one behind the other
pub stands-append : (xs zs ys : List ℕ) (at : ℕ) → at + length xs ≤ length ys
    → stands (xs ++ zs) ys at ≡ (stands xs ys at && stands zs ys (at + length xs))
unfolding stands
stands-append xs zs ys at h =
    let e : length xs ≡ length (take (length xs) (drop at ys)) = sym (length-take (length xs) (drop at ys) ∙ rw length-drop (omega arith)) in
    ap (λ (n : ℕ). same (xs ++ zs) (take n (drop at ys))) (length-append xs zs)
    ∙ ap (same (xs ++ zs)) (take-add (length xs) (length zs) (drop at ys) ∙ ap (λ (l : List ℕ). take (length xs) (drop at ys) ++ take (length zs) l)
    (drop-drop (length xs) at ys))
    ∙ same-append xs zs (take (length xs) (drop at ys)) (take (length zs) (drop (at + length xs) ys)) e

-- none stands everywhere, and a list where it was taken from
pub stands-none : (ys : List ℕ) (at : ℕ) → stands [] ys at ≡ true
unfolding stands same
stands-none ys at = refl

pub stands-there : (n : ℕ) (ys : List ℕ) (at : ℕ) → at + n ≤ length ys → stands (take n (drop at ys)) ys at ≡ true
unfolding stands
stands-there n ys at h =
    let e : length (take n (drop at ys)) ≡ n = length-take n (drop at ys) ∙ rw length-drop (omega arith) in
    rw e (same_refl (take n (drop at ys)))

-- of two that are as long, one stands at the other's beginning where they are the same
pub stands-whole : (xs ys : List ℕ) → length xs ≡ length ys → stands xs ys 0 ≡ same xs ys
unfolding stands
stands-whole xs ys h = ap (same xs) (take_all (length xs) ys (omega arith))

-- looked at one by one, as code does it
pub stands-step : (xs ys : List ℕ) (at i : ℕ) → i < length xs → at + length xs ≤ length ys
    → same (take (i + 1) xs) (take (i + 1) (drop at ys)) ≡ (same (take i xs) (take i (drop at ys)) && eqb (get_or xs i 0) (get_or ys (at + i) 0))
unfolding same
stands-step xs ys at i h g =
    let l : i < length (drop at ys) = rw length-drop (omega arith) in
    let e : length (take i xs) ≡ length (take i (drop at ys)) = length-take-le i xs (omega arith)
    ∙ sym (length-take-le i (drop at ys) (omega arith)) in
    rw (add-one, take-suc xs i 0 h, take-suc (drop at ys) i 0 l, get_or-drop at ys i 0)
    (same-append (take i xs) (get_or xs i 0 ∷ []) (take i (drop at ys)) (get_or ys (at + i) 0 ∷ []) e
    ∙ ap (λ (b : Bool). same (take i xs) (take i (drop at ys)) && b) (and-true (eqb (get_or xs i 0) (get_or ys (at + i) 0))))

pub stands-start : (xs ys : List ℕ) (at : ℕ) → true ≡ same (take 0 xs) (take 0 (drop at ys))
unfolding same
stands-start xs ys at = refl

pub stands-end : (xs ys : List ℕ) (at i : ℕ) → i ≡ length xs → same (take i xs) (take i (drop at ys)) ≡ stands xs ys at
unfolding stands
stands-end xs ys at i e = rw e (ap (λ (l : List ℕ). same l (take (length xs) (drop at ys))) (take-length xs))
