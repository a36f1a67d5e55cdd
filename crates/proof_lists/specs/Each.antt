-- A loop that replaces each element of an array, one a turn; and one that asks something of each.
-- Assumes nothing.
use Rattle.std.specs.Prelude.{◌≡◌, Bool, ◌&&◌, ◌||◌, eqb, length, get_or, set, take, drop, replicate}
use Rattle.std.specs.List.{list_all}
use Rattle.std.proofs.Math.Path.{refl, ap, ap₂}
use Rattle.std.proofs.Common.{sym, ◌∙◌, suc-add, zero-add, add-one, arith, eq-eqb, ne_eqb, take_all, length-take-le}
use mathlib.Core.List.{List, [], ◌∷◌, ◌++◌, map, append-nil}
use Rattle.std.proofs.Math.Bool.{true, false, cond, or_assoc, and_assoc, or-false, and-true, and-eq-true_iff, or-true}
use Prim.Native.Nat.{ℕ, zero, suc, ◌+◌, ◌<◌, ◌≤◌, suc-le-suc}
use Rattle.std.proofs.Math.Nat.{add-suc, add-zero, suc_inj}
use Rattle.std.proofs.Math.ListN.{drop_of_length-le}
use Rattle.std.proofs.Math.Seq.{drop-cons, take-suc, set_at, append_snoc}
use Rattle.std.proofs.lemmas.List.{set-get_or}

module _ {A : Type 0} where
  -- each element x at its place n becomes f n x; the first place is n
  unfoldable pub map_from : (ℕ → A → A) → ℕ → List A → List A
  map_from f n [] = []
  map_from f n (x ∷ xs) = f n x ∷ map_from f (suc n) xs

  -- the same of the first k elements, and the others as they are
  unfoldable pub map_to : (ℕ → A → A) → ℕ → ℕ → List A → List A
  map_to f n zero xs = xs
  map_to f n (suc k) [] = []
  map_to f n (suc k) (x ∷ xs) = f n x ∷ map_to f (suc n) k xs

  -- some element does
  unfoldable pub any_from : (ℕ → A → Bool) → ℕ → List A → Bool
  any_from p n [] = false
  any_from p n (x ∷ xs) = p n x || any_from p (suc n) xs

  pub map_to-none : (f : ℕ → A → A) (n : ℕ) (xs : List A) → xs ≡ map_to f n 0 xs
  unfolding map_to
  map_to-none f n xs = refl

  pub length-map_to : (f : ℕ → A → A) (n k : ℕ) (xs : List A) → length (map_to f n k xs) ≡ length xs
  unfolding map_to
  length-map_to f n zero xs = refl
  length-map_to f n (suc k) [] = refl
  length-map_to f n (suc k) (x ∷ xs) = ap suc (length-map_to f (suc n) k xs)

  -- the next element is still the old one
  pub map_to-next : (f : ℕ → A → A) (n k : ℕ) (xs : List A) (d : A) → get_or (map_to f n k xs) k d ≡ get_or xs k d
  unfolding map_to
  map_to-next f n zero xs d = refl
  map_to-next f n (suc k) [] d = refl
  map_to-next f n (suc k) (x ∷ xs) d = map_to-next f (suc n) k xs d

  -- one turn: the element at k is replaced
  map_to-suc : (f : ℕ → A → A) (n k : ℕ) (xs : List A) (d : A) → k < length xs
      → set (map_to f n k xs) k (f (n + k) (get_or xs k d)) ≡ map_to f n (suc k) xs
  unfolding map_to
  map_to-suc f n zero (x ∷ xs) d h = rw add-zero
  map_to-suc f n (suc k) (x ∷ xs) d (suc-le-suc h) = rw (add-suc, ← suc-add) (ap (λ (l : List A). f n x ∷ l) (map_to-suc f (suc n) k xs d h))
  map_to-suc f n zero [] d h = elim h [ ]
  map_to-suc f n (suc k) [] d h = elim h [ ]

  pub map_to-all : (f : ℕ → A → A) (n : ℕ) (xs : List A) → map_to f n (length xs) xs ≡ map_from f n xs
  unfolding map_to map_from
  map_to-all f n [] = refl
  map_to-all f n (x ∷ xs) = ap (λ (l : List A). f n x ∷ l) (map_to-all f (suc n) xs)

  pub map_to-step : (f : ℕ → A → A) (k : ℕ) (xs : List A) (d : A) → k < length xs
      → set (map_to f 0 k xs) k (f k (get_or xs k d)) ≡ map_to f 0 (k + 1) xs
  map_to-step f k xs d h = rw add-one (rw zero-add at (map_to-suc f 0 k xs d h))

  -- one turn that leaves its element
  pub map_to-same : (f : ℕ → A → A) (k : ℕ) (xs : List A) (d : A) → k < length xs → f k (get_or xs k d) ≡ get_or xs k d
      → map_to f 0 k xs ≡ map_to f 0 (k + 1) xs
  map_to-same f k xs d h e =
      sym (set-get_or (map_to f 0 k xs) k d) ∙ ap (λ (x : A). set (map_to f 0 k xs) k x) (map_to-next f 0 k xs d ∙ sym e) ∙ map_to-step f k xs d h

  -- some element of those not yet asked
  pub any_from-step : (p : ℕ → A → Bool) (k : ℕ) (xs : List A) (d : A) (a : Bool) → k < length xs
      → (a || any_from p k (drop k xs)) ≡ ((a || p k (get_or xs k d)) || any_from p (k + 1) (drop (k + 1) xs))
  unfolding any_from
  any_from-step p k xs d a h = rw (add-one, drop-cons xs k d, or_assoc)

  pub any_from-none : (p : ℕ → A → Bool) (k : ℕ) (xs : List A) (a : Bool) → length xs ≤ k → (a || any_from p k (drop k xs)) ≡ a
  unfolding any_from
  any_from-none p k xs a h = rw (drop_of_length-le xs h, or-false)

  pub list_all-step : (p : A → Bool) (k : ℕ) (xs : List A) (d : A) (a : Bool) → k < length xs
      → (a && list_all p (drop k xs)) ≡ ((a && p (get_or xs k d)) && list_all p (drop (k + 1) xs))
  list_all-step p k xs d a h = rw (add-one, drop-cons xs k d, and_assoc)

  pub list_all-none : (p : A → Bool) (k : ℕ) (xs : List A) (a : Bool) → length xs ≤ k → (a && list_all p (drop k xs)) ≡ a
  list_all-none p k xs a h = rw (drop_of_length-le xs h, and-true)

  -- a loop that asks each of the n elements, after i turns: `ok` and those not yet asked say what all say
  pub record AllTo (p : A → Bool) (n : ℕ) (xs : List A) (i : ℕ) (ok : Bool) : Type 0 where
    pub within : i ≤ n
    pub number : length xs ≡ n
    pub says : (ok && list_all p (drop i xs)) ≡ list_all p xs

  pub all_to-none : {p : A → Bool} {n : ℕ} {xs : List A} → length xs ≡ n → AllTo p n xs 0 true
  all_to-none h = record { within = omega arith; number = h; says = refl }

  pub all_to-step : {p : A → Bool} {n : ℕ} {xs : List A} {i : ℕ} {ok a : Bool} (d : A) → AllTo p n xs i ok → i < n → a ≡ p (get_or xs i d)
      → AllTo p n xs (i + 1) (ok && a)
  all_to-step {p} {n} {xs} {i} {ok} d t h e =
      let l : i < length xs = omega arith in
      record { within = omega arith; number = t.number; says = rw e (sym (list_all-step p i xs d ok l) ∙ t.says) }

  pub all_to-full : {p : A → Bool} {n : ℕ} {xs : List A} {i : ℕ} {ok : Bool} → AllTo p n xs i ok → n ≤ i → ok ≡ list_all p xs
  all_to-full {p} {n} {xs} {i} {ok} t h = sym (list_all-none p i xs ok (omega arith)) ∙ t.says

  -- the value of the first element that has one, or d
  unfoldable pub first_from : {B : Type 0} → (ℕ → A → Bool) → (ℕ → A → B) → B → ℕ → List A → B
  first_from p q e n [] = e
  first_from p q e n (x ∷ xs) = cond (p n x) (q n x) (first_from p q e (suc n) xs)

  -- one turn: t says whether one was found, and v is its value
  pub first_from-step : {B : Type 0} (p : ℕ → A → Bool) (q : ℕ → A → B) (e : B) (k : ℕ) (xs : List A) (d : A) (t : Bool) (v : B) → k < length xs
      → cond t v (first_from p q e k (drop k xs))
      ≡ cond (t || p k (get_or xs k d)) (cond t v (q k (get_or xs k d))) (first_from p q e (k + 1) (drop (k + 1) xs))
  unfolding first_from
  first_from-step p q e k xs d true v h = refl
  first_from-step p q e k xs d false v h = rw (add-one, drop-cons xs k d)

  pub first_from-none : {B : Type 0} (p : ℕ → A → Bool) (q : ℕ → A → B) (e : B) (k : ℕ) (xs : List A) (t : Bool) (v : B) → length xs ≤ k
      → cond t v (first_from p q e k (drop k xs)) ≡ cond t v e
  unfolding first_from
  first_from-none p q e k xs t v h = rw (drop_of_length-le xs h)

  -- after the last turn
  pub map_to-full : (f : ℕ → A → A) (n k : ℕ) (xs : List A) → length xs ≤ k → map_to f n k xs ≡ map_from f n xs
  unfolding map_to map_from
  map_to-full f n zero [] h = refl
  map_to-full f n (suc k) [] h = refl
  map_to-full f n (suc k) (x ∷ xs) (suc-le-suc h) = ap (λ (l : List A). f n x ∷ l) (map_to-full f (suc n) k xs h)
  map_to-full f n zero (x ∷ xs) h = elim h [ ]

  pub length-map_from : (f : ℕ → A → A) (n : ℕ) (xs : List A) → length (map_from f n xs) ≡ length xs
  unfolding map_from
  length-map_from f n [] = refl
  length-map_from f n (x ∷ xs) = ap suc (length-map_from f (suc n) xs)

  -- the element at k is changed by its own number, and by nothing else
  pub map_from-at : (f : ℕ → A → A) (n : ℕ) (xs : List A) (k : ℕ) (d : A) → k < length xs → get_or (map_from f n xs) k d ≡ f (n + k) (get_or xs k d)
  unfolding map_from
  map_from-at f n (x ∷ xs) zero d h = rw add-zero
  map_from-at f n (x ∷ xs) (suc k) d (suc-le-suc h) = rw (add-suc, ← suc-add) (map_from-at f (suc n) xs k d h)
  map_from-at f n [] k d h = elim h [ ]

  -- what no change alters of an element, all of them together leave
  pub map-map_from : {B : Type 0} (g : A → B) (f : ℕ → A → A) → ((n : ℕ) (x : A) → g (f n x) ≡ g x) → (n : ℕ) (xs : List A)
      → map g (map_from f n xs) ≡ map g xs
  unfolding map_from
  map-map_from g f k n [] = refl
  map-map_from g f k n (x ∷ xs) = ap₂ ◌∷◌ (k n x) (map-map_from g f k (suc n) xs)

  -- what each change keeps, all of them keep
  pub list_all-map_from : (p : A → Bool) (f : ℕ → A → A) → ((n : ℕ) (x : A) → p x ≡ true → p (f n x) ≡ true)
      → (n : ℕ) (xs : List A) → list_all p xs ≡ true → list_all p (map_from f n xs) ≡ true
  unfolding map_from
  list_all-map_from p f k n [] h = refl
  list_all-map_from p f k n (x ∷ xs) h =
      let t = (and-eq-true_iff (p x) (list_all p xs)).0 h in
      (and-eq-true_iff (p (f n x)) (list_all p (map_from f (suc n) xs))).1 (k n x t.0, list_all-map_from p f k (suc n) xs t.1)

  -- what holds of all holds of each
  pub list_all-at : (p : A → Bool) (k : ℕ) (xs : List A) (d : A) → k < length xs → list_all p xs ≡ true → p (get_or xs k d) ≡ true
  list_all-at p zero (x ∷ xs) d l h = ((and-eq-true_iff (p x) (list_all p xs)).0 h).0
  list_all-at p (suc k) (x ∷ xs) d (suc-le-suc l) h = list_all-at p k xs d l ((and-eq-true_iff (p x) (list_all p xs)).0 h).1
  list_all-at p zero [] d l h = elim l [ ]
  list_all-at p (suc k) [] d l h = elim l [ ]

  -- a fact about every element
  abbrev pub Every : (A → Type 0) → List A → Type 0
  Every P [] = Unit {0}
  Every P (x ∷ xs) = P x × Every P xs

  pub every-map_from : (P : A → Type 0) (f : ℕ → A → A) → ((n : ℕ) (x : A) → P x → P (f n x)) → (n : ℕ) (xs : List A) → Every P xs
      → Every P (map_from f n xs)
  unfolding map_from
  every-map_from P f k n [] h = tt
  every-map_from P f k n (x ∷ xs) h = (k n x h.0, every-map_from P f k (suc n) xs h.1)

  pub every-replicate : (P : A → Type 0) (n : ℕ) (x : A) → P x → Every P (replicate n x)
  every-replicate P zero x h = tt
  every-replicate P (suc n) x h = (h, every-replicate P n x h)

  pub every-at : (P : A → Type 0) (k : ℕ) (xs : List A) (d : A) → k < length xs → Every P xs → P (get_or xs k d)
  every-at P zero (x ∷ xs) d l h = h.0
  every-at P (suc k) (x ∷ xs) d (suc-le-suc l) h = every-at P k xs d l h.1
  every-at P zero [] d l h = elim l [ ]
  every-at P (suc k) [] d l h = elim l [ ]

  -- one element replaced, as a change of all
  abbrev pub one_at : (A → A) → ℕ → ℕ → A → A
  one_at f k n x = cond (eqb k n) (f x) x

  past-from : (f : A → A) (k n : ℕ) (xs : List A) → k < n → map_from (one_at f k) n xs ≡ xs
  unfolding map_from
  past-from f k n [] h = refl
  past-from f k n (x ∷ xs) h = rw (ne_eqb k n (omega arith), past-from f k (suc n) xs (omega arith))

  one_from : (f : A → A) (k n j : ℕ) (xs : List A) (d : A) → k ≡ n + j → j < length xs → set xs j (f (get_or xs j d)) ≡ map_from (one_at f k) n xs
  unfolding map_from
  one_from f k n zero (x ∷ xs) d e h = rw (eq-eqb k n (omega arith), past-from f k (suc n) xs (omega arith))
  one_from f k n (suc j) (x ∷ xs) d e (suc-le-suc h) =
      rw (ne_eqb k n (omega arith)) (ap (λ (l : List A). x ∷ l) (one_from f k (suc n) j xs d (omega arith) h))
  one_from f k n zero [] d e h = elim h [ ]
  one_from f k n (suc j) [] d e h = elim h [ ]

  pub map_from-one : (f : A → A) (k : ℕ) (xs : List A) (d : A) → k < length xs → set xs k (f (get_or xs k d)) ≡ map_from (one_at f k) 0 xs
  map_from-one f k xs d h = one_from f k 0 k xs d (omega arith) h

  none_from : (f : A → A) (k n : ℕ) (xs : List A) → n + length xs ≤ k → xs ≡ map_from (one_at f k) n xs
  unfolding map_from
  none_from f k n [] h = refl
  none_from f k n (x ∷ xs) h = rw (ne_eqb k n (omega arith)) (ap (λ (l : List A). x ∷ l) (none_from f k (suc n) xs (omega arith)))

  pub map_from-past : (f : A → A) (k : ℕ) (xs : List A) → length xs ≤ k → xs ≡ map_from (one_at f k) 0 xs
  map_from-past f k xs h = none_from f k 0 xs (omega arith)

  -- an array filled from the front: the first n elements of s, and then what stood there
  unfoldable pub filled : List A → List A → ℕ → List A
  filled d s n = take n s ++ drop n d

  pub filled_none : (d s : List A) → d ≡ filled d s 0
  unfolding filled
  filled_none d s = refl

  pub filled-step : (d s : List A) (k : ℕ) (z : A) → k < length d → k < length s → set (filled d s k) k (get_or s k z) ≡ filled d s (k + 1)
  unfolding filled
  filled-step d s k z hd hs =
      rw (
        add-one,
        drop-cons d k z,
        set_at (take k s) (get_or d k z) (drop (suc k) d) (get_or s k z) k (length-take-le k s (omega arith)),
        take-suc s k z,
      )
      (sym (append_snoc (take k s) (get_or s k z) (drop (suc k) d)))

  pub filled-full : (d s : List A) (n : ℕ) → length d ≤ n → length s ≤ n → filled d s n ≡ s
  unfolding filled
  filled-full d s n hd hs = rw (take_all n s hs, drop_of_length-le d hd, append-nil)

  -- none has a value, and none but the kth
  pub first_from-no : {B : Type 0} (p : ℕ → A → Bool) (q : ℕ → A → B) (e : B) (n : ℕ) (xs : List A) (d : A)
      → ((i : ℕ) → i < length xs → p (n + i) (get_or xs i d) ≡ false) → first_from p q e n xs ≡ e
  unfolding first_from
  first_from-no p q e n [] d h = refl
  first_from-no p q e n (x ∷ xs) d h =
      rw (rw add-zero at (h 0 (omega arith))) (first_from-no p q e (suc n) xs d (λ i l. rw (suc-add, ← add-suc) (h (suc i) (suc-le-suc l))))

  pub first_from-one : {B : Type 0} (p : ℕ → A → Bool) (q : ℕ → A → B) (e : B) (n : ℕ) (xs : List A) (d : A) (k : ℕ) → k < length xs
      → ((i : ℕ) → i < length xs → (i ≡ k → ⊥) → p (n + i) (get_or xs i d) ≡ false)
      → first_from p q e n xs ≡ cond (p (n + k) (get_or xs k d)) (q (n + k) (get_or xs k d)) e
  unfolding first_from
  first_from-one p q e n (x ∷ xs) d zero l h =
      rw (first_from-no p q e (suc n) xs d (λ i m. rw (suc-add, ← add-suc) (h (suc i) (suc-le-suc m) (λ z. omega arith))), add-zero)
  first_from-one p q e n (x ∷ xs) d (suc k) (suc-le-suc l) h =
      rw (rw add-zero at (h 0 (omega arith) (λ z. omega arith)), add-suc, ← suc-add)
      (first_from-one p q e (suc n) xs d k l (λ i m ne. rw (suc-add, ← add-suc) (h (suc i) (suc-le-suc m) (λ z. ne (suc_inj z)))))
  first_from-one {B = B} p q e n [] d k l h = elim l [ ]

  -- the kth has one, and none before it
  pub first_from-at : {B : Type 0} (p : ℕ → A → Bool) (q : ℕ → A → B) (e : B) (n : ℕ) (xs : List A) (d : A) (k : ℕ) → k < length xs
      → p (n + k) (get_or xs k d) ≡ true → ((i : ℕ) → i < k → p (n + i) (get_or xs i d) ≡ false)
      → first_from p q e n xs ≡ q (n + k) (get_or xs k d)
  unfolding first_from
  first_from-at p q e n (x ∷ xs) d zero l f h = rw (rw add-zero at f, add-zero)
  first_from-at p q e n (x ∷ xs) d (suc k) (suc-le-suc l) f h =
      rw (rw add-zero at (h 0 (omega arith)), add-suc, ← suc-add)
      (first_from-at p q e (suc n) xs d k l (rw (suc-add, ← add-suc) f) (λ i m. rw (suc-add, ← add-suc) (h (suc i) (suc-le-suc m))))
  first_from-at {B = B} p q e n [] d k l f h = elim l [ ]

  -- some element does, as a first value
  any-first : (p : ℕ → A → Bool) (n : ℕ) (xs : List A) → any_from p n xs ≡ first_from p (λ i x. true) false n xs
  unfolding any_from first_from
  any-first p n [] = refl
  any-first p n (x ∷ xs) = go (p n x) (any-first p (suc n) xs)
    where
      go : (b : Bool) {c d : Bool} → c ≡ d → (b || c) ≡ cond b true d
      go true e = refl
      go false e = e

  pub any_from-one : (p : ℕ → A → Bool) (n : ℕ) (xs : List A) (d : A) (k : ℕ) → k < length xs
      → ((i : ℕ) → i < length xs → (i ≡ k → ⊥) → p (n + i) (get_or xs i d) ≡ false)
      → any_from p n xs ≡ p (n + k) (get_or xs k d)
  any_from-one p n xs d k l h = any-first p n xs ∙ first_from-one p (λ i x. true) false n xs d k l h ∙ same (p (n + k) (get_or xs k d))
    where
      same : (b : Bool) → cond b true false ≡ b
      same true = refl
      same false = refl

  -- one that does is enough, and without one none does
  pub any_from-some : (p : ℕ → A → Bool) (n : ℕ) (xs : List A) (d : A) (k : ℕ) → k < length xs
      → p (n + k) (get_or xs k d) ≡ true → any_from p n xs ≡ true
  unfolding any_from
  any_from-some p n (x ∷ xs) d zero l f = rw (rw add-zero at f)
  any_from-some p n (x ∷ xs) d (suc k) (suc-le-suc l) f = rw (any_from-some p (suc n) xs d k l (rw (suc-add, ← add-suc) f)) (or-true (p n x))
  any_from-some p n [] d k l f = elim l [ ]

  pub any_from-no : (p : ℕ → A → Bool) (n : ℕ) (xs : List A) (d : A) → ((i : ℕ) → i < length xs → p (n + i) (get_or xs i d) ≡ false)
      → any_from p n xs ≡ false
  any_from-no p n xs d h = any-first p n xs ∙ first_from-no p (λ i x. true) false n xs d h

  -- an element that is there, whatever stands for one that is not
  pub get_d_any : (xs : List A) (k : ℕ) (d e : A) → k < length xs → get_or xs k d ≡ get_or xs k e
  get_d_any (x ∷ xs) zero d e h = refl
  get_d_any (x ∷ xs) (suc k) d e (suc-le-suc h) = get_d_any xs k d e h
  get_d_any [] k d e h = elim h [ ]
