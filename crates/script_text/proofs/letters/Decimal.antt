-- The decimal digits of a number are those of the number: read back they give it, and the first is 0 only where all of it is. How many there are,
-- and how they are put: those of a tenth of it, and then the last.
-- Assumes nothing.
use mathlib.Core.Path.{◌≡◌, refl, sym, ◌∙◌, ap}
use mathlib.Core.List.{List, [], ◌∷◌, ◌++◌}
use Prim.Native.Nat.{ℕ, zero, suc, ◌+◌, ◌-◌, ◌*◌, ◌/◌, ◌^◌, ◌≤◌, ◌<◌}
use native.Mathlib.Nat.{pow-suc}
use native.Mathlib.Omega.{arith}
use borrow.Author.Tests.{lt-ltb, le-ltb, ltb-true, ltb-false}
use lib.Dec.{ltb}
use lib.ListN.{length, get_or, length-append, get_or-append}
use Rattle.proof_lists.specs.Tests.{by-test}
use Rattle.std.specs.Fmt.{decimal as std_decimal}
use Rattle.std.proofs.lemmas.Fmt.{AppendsLastDigit, decimal_from_appends, length-decimal-le_succ}
use Rattle.script_text.specs.Decimal.{digit, decimal_in, decimal}

-- a single digit, with any number of steps
one-digit : (k n : ℕ) → n < 10 → decimal_in k n ≡ digit n ∷ []
unfolding decimal_in
one-digit zero n h = refl
one-digit (suc k) n h = rw (lt-ltb n 10 h)

-- the digits of a tenth, and then the last
more-digits : (k n : ℕ) → 10 ≤ n → decimal_in (suc k) n ≡ decimal_in k (n / 10) ++ digit n ∷ []
unfolding decimal_in
more-digits k n h = rw (le-ltb n 10 h)

-- any two numbers of steps that are enough give the same
pub enough : (k j n : ℕ) → n ≤ k → n ≤ j → decimal_in k n ≡ decimal_in j n
enough zero j n h g = one-digit zero n (omega arith) ∙ sym (one-digit j n (omega arith))
enough (suc k) zero n h g = one-digit (suc k) n (omega arith) ∙ sym (one-digit zero n (omega arith))
enough (suc k) (suc j) n h g = by-test (ltb n 10) (λ e. small (ltb-true n 10 e)) (λ e. large (enough k j (n / 10)) (ltb-false n 10 e))
  where
    small : n < 10 → decimal_in (suc k) n ≡ decimal_in (suc j) n
    small l = one-digit (suc k) n l ∙ sym (one-digit (suc j) n l)

    large : (n / 10 ≤ k → n / 10 ≤ j → decimal_in k (n / 10) ≡ decimal_in j (n / 10)) → 10 ≤ n → decimal_in (suc k) n ≡ decimal_in (suc j) n
    large f l = more-digits k n l ∙ ap (λ (ds : List ℕ). ds ++ digit n ∷ []) (f (omega arith) (omega arith)) ∙ sym (more-digits j n l)

-- so a number is put as its only digit, or as a tenth of it and its last digit
pub decimal-one : (n : ℕ) → n < 10 → decimal n ≡ digit n ∷ []
unfolding decimal
decimal-one n h = one-digit n n h

pub decimal-more : (n : ℕ) → 10 ≤ n → decimal n ≡ decimal (n / 10) ++ digit n ∷ []
unfolding decimal
decimal-more n h = enough n (suc n) n (omega arith) (omega arith) ∙ more-digits n n h ∙ ap (λ (ds : List ℕ). ds ++ digit n ∷ []) (enough n (n / 10) (n / 10) (omega arith) (omega arith))

-- what holds of a digit, and of every number of whose tenth it holds, holds of all
by_digits : (P : ℕ → Type 0) → ((n : ℕ) → n < 10 → P n) → ((n : ℕ) → 10 ≤ n → P (n / 10) → P n) → (n : ℕ) → P n
by_digits P one more n = go n n (omega arith)
  where
    go : (k n : ℕ) → n ≤ k → P n
    go zero n h = one n (omega arith)
    go (suc k) n h = by-test (ltb n 10) (λ e. one n (ltb-true n 10 e)) (λ e. let l : 10 ≤ n = ltb-false n 10 e in more n l (go k (n / 10) (omega arith)))

-- digits read from the left, behind those that are read already
abbrev pub read_on : ℕ → List ℕ → ℕ
read_on n [] = n
read_on n (d ∷ ds) = read_on (10 * n + (d - 0x30)) ds

read_more : (n : ℕ) (ds : List ℕ) (d : ℕ) → read_on n (ds ++ d ∷ []) ≡ 10 * read_on n ds + (d - 0x30)
read_more n [] d = refl
read_more n (e ∷ ds) d = read_more (10 * n + (e - 0x30)) ds d

pub read_back : (n : ℕ) → read_on 0 (decimal n) ≡ n
unfolding digit
read_back = by_digits (λ n. read_on 0 (decimal n) ≡ n) (λ n h. rw (decimal-one n h) (omega arith)) (λ n h e. rw (decimal-more n h) (read_more 0 (decimal (n / 10)) (digit n) ∙ omega (arith, e)))

-- there is a digit, and the first of several is that of a tenth
pub some-digit : (n : ℕ) → 0 < length (decimal n)
some-digit = by_digits (λ n. 0 < length (decimal n)) (λ n h. rw (decimal-one n h) (omega arith)) (λ n h l. rw (decimal-more n h, length-append) (omega arith))

pub first-digit : (n : ℕ) → get_or (decimal n) 0 0 ≡ 0x30 → n ≡ 0
unfolding digit
first-digit =
    by_digits (λ n. get_or (decimal n) 0 0 ≡ 0x30 → n ≡ 0) (λ n h. rw (decimal-one n h) (λ e. omega arith))
    (λ n h f. rw (decimal-more n h, get_or-append (decimal (n / 10)) (digit n ∷ []) 0 0 (some-digit (n / 10))) (λ e. omega (arith, f e)))

-- a number below the power of ten has at most so many digits
tenth : (n p : ℕ) → n < p * 10 → n / 10 < p
tenth n p h = omega arith

pub digits-most : (k n : ℕ) → n < 10 ^ suc k → length (decimal n) ≤ suc k
digits-most zero n h = rw (decimal-one n (omega arith)) (omega arith)
digits-most (suc k) n h = by-test (ltb n 10) (λ e. one (ltb-true n 10 e)) (λ e. more (ltb-false n 10 e) (digits-most k (n / 10) (tenth n (10 ^ suc k) (rw pow-suc at h))))
  where
    one : n < 10 → length (decimal n) ≤ suc (suc k)
    one l = rw (decimal-one n l) (omega arith)

    more : 10 ≤ n → length (decimal (n / 10)) ≤ suc k → length (decimal n) ≤ suc (suc k)
    more l m = rw (decimal-more n l, length-append) (omega arith)

-- what std writes of a number are the same digits
appended : AppendsLastDigit decimal_in
unfolding digit
appended = record { one = λ k n h. one-digit (suc k) n h ∙ ap (λ (d : ℕ). d ∷ []) (omega arith); more = more-digits }

pub decimal-std : (n : ℕ) → n < 2 ^ 64 → std_decimal n ≡ decimal n
unfolding decimal
decimal-std n h = sym (enough n (suc n) n (omega arith) (omega arith) ∙ decimal_from_appends decimal_in appended (suc n) n h (omega (arith, length-decimal-le_succ n h)))
