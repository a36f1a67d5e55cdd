-- A buffer in parts of w bytes, and a loop that works on it part by part: turn k on the w bytes from w * k on, with the kth element of a list.
-- Assumes nothing.
use Rattle.std.specs.Prelude.{◌≡◌, get_or}
use Rattle.std.proofs.Math.Path.{refl, ap, ap₂, sym}
use Rattle.std.proofs.Common.{◌∙◌, mul-suc, zero-add, add_comm, add_assoc, add-one, length-append, drop_of_length-le, take_at, drop_at, take_all, get_or-take, get_or-drop}
use mathlib.Core.List.{List, [], ◌∷◌, ◌++◌, append_assoc, append-nil}
use Prim.Native.Nat.{ℕ, zero, suc, ◌+◌, ◌-◌, ◌*◌, ◌<◌, ◌≤◌, suc-le-suc, min}
use Rattle.std.proofs.Math.Nat.{mul-zero, sub-zero}
use native.Mathlib.Omega.{arith}
use Rattle.std.proofs.Math.ListN.{length, take, drop, length-take, length-drop, take-append-drop}
use Rattle.std.proofs.Math.Seq.{take-append-add, drop-append-add, drop-drop}

-- the kth part
unfoldable pub part : ℕ → ℕ → List ℕ → List ℕ
part w zero m = take w m
part w (suc k) m = part w k (drop w m)

-- the bytes before the part k + 1
before-suc : (w k : ℕ) → w * suc k ≡ w + w * k
before-suc w k = mul-suc w k ∙ add_comm (w * k) w

pub length_part : (w k : ℕ) (m : List ℕ) → length (part w k m) ≡ min w (length m - w * k)
unfolding part
length_part w zero m = rw (mul-zero, sub-zero) (length-take w m)
length_part w (suc k) m = rw (length_part w k (drop w m), length-drop, before-suc) (omega arith)

-- the part k as the code cuts it out
pub part-flat : (w k : ℕ) (m : List ℕ) → part w k m ≡ take w (drop (w * k) m)
unfolding part
part-flat w zero m = rw mul-zero
part-flat w (suc k) m = rw before-suc (part-flat w k (drop w m) ∙ ap (take w) (drop-drop (w * k) w m))

-- the byte i of the part k
pub get_d_part : (w k : ℕ) (m : List ℕ) (i d : ℕ) → i < w → get_or (part w k m) i d ≡ get_or m (w * k + i) d
unfolding part
get_d_part w zero m i d h = rw (mul-zero, zero-add) (get_or-take w m i d h)
get_d_part w (suc k) m i d h = rw (before-suc, add_assoc) (get_d_part w k (drop w m) i d h ∙ get_or-drop w m (w * k + i) d)

length_rest : (w n : ℕ) (m : List ℕ) → length m ≡ w * suc n → length (drop w m) ≡ w * n
length_rest w n m h = rw (length-drop, h, before-suc) (omega arith)

-- a buffer is its parts
pub parts-ext : (w n : ℕ) (m o : List ℕ) → length m ≡ w * n → length o ≡ w * n → ((k : ℕ) → k < n → part w k m ≡ part w k o) → m ≡ o
unfolding part
parts-ext w zero m o f g h = empty m (f ∙ mul-zero w) ∙ sym (empty o (g ∙ mul-zero w))
  where
    empty : (l : List ℕ) → length l ≡ 0 → l ≡ []
    empty l e = drop_of_length-le l {i = 0} (omega arith)
parts-ext w (suc n) m o f g h =
    sym (take-append-drop w m)
    ∙ ap₂ ◌++◌ (h 0 (omega arith)) (parts-ext w n (drop w m) (drop w o) (length_rest w n m f) (length_rest w n o g) (λ k l. h (suc k) (suc-le-suc l)))
    ∙ take-append-drop w o

-- of n bytes, the first part and the others
seam : (w n : ℕ) (p q : List ℕ) → length p ≡ min w n → length q ≡ n - w → (take w (p ++ q) ≡ p) × (drop w (p ++ q) ≡ q)
seam w n p [] h g = rw append-nil (take_all w p (omega arith), drop_of_length-le p {i = w} (omega arith))
seam w n p (y ∷ q) h g = (take_at p (y ∷ q) w (omega arith), drop_at p (y ∷ q) w (omega arith))

module _ {A : Type 0} (w : ℕ) (f : A → List ℕ → List ℕ) where
  -- each element on its own w bytes; what is over stays
  unfoldable pub each_part : List A → List ℕ → List ℕ
  each_part [] m = m
  each_part (x ∷ xs) m = f x (take w m) ++ each_part xs (drop w m)

  -- the same of the first k elements
  unfoldable pub parts_to : ℕ → List A → List ℕ → List ℕ
  parts_to zero xs m = m
  parts_to (suc k) [] m = m
  parts_to (suc k) (x ∷ xs) m = f x (take w m) ++ parts_to k xs (drop w m)

  pub parts_to-none : (xs : List A) (m : List ℕ) → m ≡ parts_to 0 xs m
  unfolding parts_to
  parts_to-none xs m = refl

  pub parts_to-all : (xs : List A) (m : List ℕ) → parts_to (length xs) xs m ≡ each_part xs m
  unfolding parts_to each_part
  parts_to-all [] m = refl
  parts_to-all (x ∷ xs) m = ap (λ (l : List ℕ). f x (take w m) ++ l) (parts_to-all xs (drop w m))

  -- where no part is changed
  pub each_part-same : ((x : A) (p : List ℕ) → f x p ≡ p) → (xs : List A) (m : List ℕ) → each_part xs m ≡ m
  unfolding each_part
  each_part-same e [] m = refl
  each_part-same e (x ∷ xs) m = ap₂ ◌++◌ (e x (take w m)) (each_part-same e xs (drop w m)) ∙ take-append-drop w m

  module _ (keeps : (x : A) (p : List ℕ) → length (f x p) ≡ length p) where
    pub length-parts_to : (k : ℕ) (xs : List A) (m : List ℕ) → length (parts_to k xs m) ≡ length m
    unfolding parts_to
    length-parts_to zero xs m = refl
    length-parts_to (suc k) [] m = refl
    length-parts_to (suc k) (x ∷ xs) m =
        simp (length-append, keeps, length-parts_to k xs (drop w m), length-take, length-drop) (omega arith)

    -- the next part is still the old one
    pub parts_to-next : (k : ℕ) (xs : List A) (m : List ℕ) → w * k ≤ length m → drop (w * k) (parts_to k xs m) ≡ drop (w * k) m
    unfolding parts_to
    parts_to-next zero xs m h = refl
    parts_to-next (suc k) [] m h = refl
    parts_to-next (suc k) (x ∷ xs) m h =
        let e : w * suc k ≡ w + w * k = before-suc w k in
        let p : length (f x (take w m)) ≡ w = keeps x (take w m) ∙ length-take w m ∙ omega arith in
        let i : w * k ≤ length (drop w m) = rw length-drop (omega arith) in
        rw e
        (sym (ap (λ (n : ℕ). drop (n + w * k) (f x (take w m) ++ parts_to k xs (drop w m))) p)
        ∙ drop-append-add (f x (take w m)) (parts_to k xs (drop w m)) (w * k)
        ∙ parts_to-next k xs (drop w m) i
        ∙ drop-drop (w * k) w m)

    parts_to-suc : (k : ℕ) (xs : List A) (m : List ℕ) (d : A) → k < length xs → w * suc k ≤ length m
        → take (w * k) (parts_to k xs m) ++ (f (get_or xs k d) (take w (drop (w * k) (parts_to k xs m))) ++ drop w (drop (w * k) (parts_to k xs m)))
        ≡ parts_to (suc k) xs m
    unfolding parts_to
    parts_to-suc zero (x ∷ xs) m d l h = rw mul-zero
    parts_to-suc (suc k) (x ∷ xs) m d (suc-le-suc l) h =
        let e : w * suc k ≡ w + w * k = before-suc w k in
        let e' : w * suc (suc k) ≡ w + w * suc k = before-suc w (suc k) in
        let P = f x (take w m) in
        let R = parts_to k xs (drop w m) in
        let p : length P ≡ w = keeps x (take w m) ∙ length-take w m ∙ omega arith in
        let i : w * suc k ≤ length (drop w m) = rw length-drop (omega arith) in
        let t : take (w + w * k) (P ++ R) ≡ P ++ take (w * k) R = sym (ap (λ (n : ℕ). take (n + w * k) (P ++ R)) p) ∙ take-append-add P R (w * k) in
        let q : drop (w + w * k) (P ++ R) ≡ drop (w * k) R = sym (ap (λ (n : ℕ). drop (n + w * k) (P ++ R)) p) ∙ drop-append-add P R (w * k) in
        rw (e, t, q, append_assoc) (ap (λ (l : List ℕ). P ++ l) (parts_to-suc k xs (drop w m) d l i))
    parts_to-suc zero [] m d l h = elim l [ ]
    parts_to-suc (suc k) [] m d l h = elim l [ ]

    -- one turn, as the code has it: the part from a to e was lent and came back
    pub parts_to-step : (k a e : ℕ) (xs : List A) (m : List ℕ) (d : A) → a ≡ w * k → e - a ≡ w → k < length xs → w * (k + 1) ≤ length m
        → take a (parts_to k xs m) ++ (f (get_or xs k d) (take (e - a) (drop a (parts_to k xs m))) ++ drop (e - a) (drop a (parts_to k xs m)))
        ≡ parts_to (k + 1) xs m
    parts_to-step k a e xs m d ha he l h = rw (he, ha, add-one) (parts_to-suc k xs m d l (rw (← add-one) h))

    -- one turn that leaves its part
    pub parts_to-same : (k : ℕ) (xs : List A) (m : List ℕ) (d : A) → k < length xs → w * (k + 1) ≤ length m → ((p : List ℕ) → f (get_or xs k d) p ≡ p)
        → parts_to k xs m ≡ parts_to (k + 1) xs m
    parts_to-same k xs m d l h e =
        let P = parts_to k xs m in
        let i : w * suc k ≤ length m = rw (← add-one) h in
        sym (take-append-drop (w * k) P)
        ∙ ap (λ (q : List ℕ). take (w * k) P ++ q)
        (sym (take-append-drop w (drop (w * k) P)) ∙ ap (λ (q : List ℕ). q ++ drop w (drop (w * k) P)) (sym (e (take w (drop (w * k) P)))))
        ∙ parts_to-suc k xs m d l i
        ∙ ap (λ (n : ℕ). parts_to n xs m) (sym (add-one k))

    pub length-each_part : (xs : List A) (m : List ℕ) → length (each_part xs m) ≡ length m
    length-each_part xs m = ap length (sym (parts_to-all xs m)) ∙ length-parts_to (length xs) xs m

    seam-each_part : (x : A) (xs : List A) (m : List ℕ)
        → (take w (each_part (x ∷ xs) m) ≡ f x (take w m)) × (drop w (each_part (x ∷ xs) m) ≡ each_part xs (drop w m))
    unfolding each_part
    seam-each_part x xs m =
        seam w (length m) (f x (take w m)) (each_part xs (drop w m)) (keeps x (take w m) ∙ length-take w m)
        (length-each_part xs (drop w m) ∙ length-drop w m)

    -- each part is changed by its own element, and by nothing else
    pub part-each_part : (xs : List A) (m : List ℕ) (k : ℕ) (d : A) → k < length xs → part w k (each_part xs m) ≡ f (get_or xs k d) (part w k m)
    unfolding part
    part-each_part (x ∷ xs) m zero d h = (seam-each_part x xs m).0
    part-each_part (x ∷ xs) m (suc k) d (suc-le-suc h) = ap (part w k) (seam-each_part x xs m).1 ∙ part-each_part xs (drop w m) k d h
    part-each_part [] m k d h = elim h [ ]
