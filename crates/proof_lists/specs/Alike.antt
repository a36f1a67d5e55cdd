-- What holds of every element of a list: one by one, under a weaker fact, and from a test; and first values that are alike.
-- Assumes nothing.
use Rattle.std.specs.Prelude.{◌≡◌, Bool, true, ℕ, suc, ◌+◌, ◌<◌, length, get_or}
use Rattle.std.proofs.Math.Path.{refl}
use mathlib.Core.List.{List, [], ◌∷◌, map}
use Rattle.std.proofs.Common.{suc-le-suc, add-suc, suc-add, arith}
use Rattle.std.proofs.Math.Nat.{add-zero}
use Rattle.proof_lists.specs.Each.{Every, first_from}
use Rattle.std.specs.List.{list_all}
use Rattle.proof_lists.specs.Tests.{by-test, and_left, and_right, both}

module _ {A : Type 0} where
  pub every-from : (P : A → Type 0) (d : A) (xs : List A) → ((k : ℕ) → k < length xs → P (get_or xs k d)) → Every P xs
  every-from P d [] h = tt
  every-from P d (x ∷ xs) h = (h 0 (omega arith), every-from P d xs (λ k l. h (suc k) (suc-le-suc l)))

  -- what follows from the fact about each element, or of what becomes of it
  pub every-so : (P Q : A → Type 0) → ((x : A) → P x → Q x) → (xs : List A) → Every P xs → Every Q xs
  every-so P Q f [] h = tt
  every-so P Q f (x ∷ xs) h = (f x h.0, every-so P Q f xs h.1)

  pub every_map : {B : Type 0} (g : A → B) (P : A → Type 0) (Q : B → Type 0) → ((x : A) → P x → Q (g x)) → (xs : List A) → Every P xs
      → Every Q (map g xs)
  every_map g P Q f [] h = tt
  every_map g P Q f (x ∷ xs) h = (f x h.0, every_map g P Q f xs h.1)

  -- a test of all
  pub every-all : (p : A → Bool) (xs : List A) → list_all p xs ≡ true → Every (λ (x : A). p x ≡ true) xs
  every-all p [] h = tt
  every-all p (x ∷ xs) h = (and_left (p x) (list_all p xs) h, every-all p xs (and_right (p x) (list_all p xs) h))

  pub list_all-map : {B : Type 0} (g : A → B) (p : A → Bool) (q : B → Bool) → ((x : A) → p x ≡ true → q (g x) ≡ true) → (xs : List A)
      → list_all p xs ≡ true
      → list_all q (map g xs) ≡ true
  list_all-map g p q f [] h = refl
  list_all-map g p q f (x ∷ xs) h = both (q (g x)) (list_all q (map g xs)) (f x (and_left (p x) (list_all p xs) h))
      (list_all-map g p q f xs (and_right (p x) (list_all p xs) h))

  -- first values that are the same wherever there is one
  pub first_alike : {B : Type 0} (p : ℕ → A → Bool) (q r : ℕ → A → B) (e : B) (d : A) (n : ℕ) (xs : List A)
      → ((i : ℕ) → i < length xs → p (n + i) (get_or xs i d) ≡ true → q (n + i) (get_or xs i d) ≡ r (n + i) (get_or xs i d))
      → first_from p q e n xs ≡ first_from p r e n xs
  unfolding first_from
  first_alike p q r e d n [] h = refl
  first_alike p q r e d n (x ∷ xs) h = by-test (p n x)
      (λ t. rw t (rw add-zero at (h 0 (omega arith) (rw add-zero t))))
      (λ t. rw t (first_alike p q r e d (suc n) xs (λ i l. rw (suc-add, ← add-suc) (h (suc i) (suc-le-suc l)))))
