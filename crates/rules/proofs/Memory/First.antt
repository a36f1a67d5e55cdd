-- The first so many of the latched bytes: which they are, how many, and that none before them is left out.
-- Assumes nothing.
use Prim.Native.Nat.{ℕ, zero, suc, ◌+◌, ◌-◌, ◌<◌, ◌≤◌, min}
use native.Mathlib.Nat.{add-zero, add-suc, suc-add, zero-add}
use native.Mathlib.Omega.{arith}
use mathlib.Core.Path.{◌≡◌, refl, sym, ◌∙◌}
use mathlib.Core.Bool.{Bool, true, false, ◌&&◌, and-false}
use mathlib.Core.List.{List, [], ◌∷◌}
use lib.Dec.{ltb}
use lib.ListN.{get_or}
use borrow.Author.Tests.{ltb-true, ltb-false, lt-ltb, le-ltb}
use Rattle.proof_lists.specs.Each.{map_from}
use Rattle.proof_lists.specs.Tests.{cond_cases, by-test, and_left, and_right, both}
use Rattle.rules.specs.declared.Cut.{Cut}
use Rattle.rules.specs.Power.{latched_below, first_of}

-- each element by its own number, and past the end what stands for nothing
each_at : (f : ℕ → Bool → Bool) → ((n : ℕ) → f n false ≡ false) → (n : ℕ) (xs : List Bool) (j : ℕ) → get_or (map_from f n xs) j false ≡ f (n + j) (get_or xs j false)
unfolding map_from
each_at f h n [] j = sym (h (n + j))
each_at f h n (x ∷ xs) zero = rw add-zero
each_at f h n (x ∷ xs) (suc j) = rw (add-suc, ← suc-add) (each_at f h (suc n) xs j)

-- the byte at offset j is one of the first k: it is latched, and fewer than k are below it
pub first-at : (k : Cut) (marks : List Bool) (j : ℕ) → get_or (first_of k marks) j false ≡ (get_or marks j false && ltb (latched_below marks j) k.0)
unfolding first_of
first-at k marks j = rw zero-add at (each_at (λ n marked. marked && ltb (latched_below marks n) k.0) (λ n. refl) 0 marks j)

-- one byte more is looked at
below_suc : (marks : List Bool) (n : ℕ) → (latched_below marks n ≤ latched_below marks (suc n)) × (latched_below marks (suc n) ≤ suc (latched_below marks n))
unfolding latched_below
below_suc marks n =
    cond_cases (λ (c : ℕ). (latched_below marks n ≤ c) × (c ≤ suc (latched_below marks n))) (get_or marks n false) (λ e. (omega arith, omega arith)) (λ e. (omega arith, omega arith))

-- at most as many as there are places
pub below-at-most : (marks : List Bool) (n : ℕ) → latched_below marks n ≤ n
unfolding latched_below
below-at-most marks zero = omega arith
below-at-most marks (suc n) = let h = below-at-most marks n in let u = (below_suc marks n).1 in omega arith

-- and more, further up: of two latched offsets, the higher has more below it
pub below_more : (marks : List Bool) (j d : ℕ) → latched_below marks j ≤ latched_below marks (d + j)
below_more marks j zero = rw zero-add (omega arith)
below_more marks j (suc d) = rw suc-add (let h = below_more marks j d in let u = (below_suc marks (d + j)).0 in omega arith)

below-latched : (marks : List Bool) (j n : ℕ) → get_or marks j false ≡ true → j < n → latched_below marks j < latched_below marks n
unfolding latched_below
below-latched marks j n e l =
    let up : latched_below marks (suc j) ≡ suc (latched_below marks j) = rw e in
    let d : ℕ = n - suc j in
    let f : d + suc j ≡ n = omega arith in
    let h : latched_below marks (suc j) ≤ latched_below marks n = rw f at (below_more marks (suc j) d) in
    omega arith

-- "the first so many": k of them, or all where fewer are latched
pub so-many : (k : Cut) (marks : List Bool) (n : ℕ) → latched_below (first_of k marks) n ≡ min k.0 (latched_below marks n)
unfolding latched_below
so-many k marks zero = omega arith
so-many k marks (suc n) =
    let h = so-many k marks n in
    let c = latched_below marks n in
    rw first-at (by-test (get_or marks n false)
    (λ e. by-test (ltb c k.0) (λ l. let g = ltb-true c k.0 l in rw (e, l) (omega arith)) (λ l. let g = ltb-false c k.0 l in rw (e, l) (omega arith)))
    (λ e. rw e h))

-- "in ascending page offset": where a byte is among them, so is every latched byte below it
pub in_order : (k : Cut) (marks : List Bool) (i j : ℕ) → get_or (first_of k marks) i false ≡ true → j < i → get_or marks j false ≡ true → get_or (first_of k marks) j false ≡ true
in_order k marks i j e l h =
    let f : (get_or marks i false && ltb (latched_below marks i) k.0) ≡ true = sym (first-at k marks i) ∙ e in
    let c = ltb-true (latched_below marks i) k.0 (and_right (get_or marks i false) (ltb (latched_below marks i) k.0) f) in
    let u = below-latched marks j i h l in
    first-at k marks j ∙ both (get_or marks j false) (ltb (latched_below marks j) k.0) h (lt-ltb (latched_below marks j) k.0 (omega arith))

-- what is among the first k was latched, and is among the first of any higher number
pub were-latched : (k : Cut) (marks : List Bool) (j : ℕ) → get_or (first_of k marks) j false ≡ true → get_or marks j false ≡ true
were-latched k marks j e = and_left (get_or marks j false) (ltb (latched_below marks j) k.0) (sym (first-at k marks j) ∙ e)

pub among : (k l : Cut) (marks : List Bool) (j : ℕ) → k.0 ≤ l.0 → get_or (first_of k marks) j false ≡ true → get_or (first_of l marks) j false ≡ true
among k l marks j h e =
    let c = latched_below marks j in
    let f : (get_or marks j false && ltb c k.0) ≡ true = sym (first-at k marks j) ∙ e in
    let g = ltb-true c k.0 (and_right (get_or marks j false) (ltb c k.0) f) in
    first-at l marks j ∙ both (get_or marks j false) (ltb c l.0) (and_left (get_or marks j false) (ltb c k.0) f) (lt-ltb c l.0 (omega arith))

-- of none, none
pub first-none : (k : Cut) (marks : List Bool) (j : ℕ) → k.0 ≡ 0 → get_or (first_of k marks) j false ≡ false
first-none k marks j e = first-at k marks j ∙ rw (le-ltb (latched_below marks j) k.0 (omega arith), and-false)

-- and of as many as are latched below n, all below n; so of n
pub first-enough : (k : Cut) (marks : List Bool) (n j : ℕ) → latched_below marks n ≤ k.0 → j < n → get_or (first_of k marks) j false ≡ get_or marks j false
first-enough k marks n j h l = first-at k marks j ∙ by-test (get_or marks j false)
    (λ e. let u = below-latched marks j n e l in rw (e, lt-ltb (latched_below marks j) k.0 (omega arith))) (λ e. rw e)

pub first-all : (k : Cut) (marks : List Bool) (j : ℕ) → j < k.0 → get_or (first_of k marks) j false ≡ get_or marks j false
first-all k marks j l = first-enough k marks k.0 j (below-at-most marks k.0) l
