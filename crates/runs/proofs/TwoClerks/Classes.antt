-- Each exchange is exactly one of: addressed to one slot, addressed to none, shared; and what is struck out for a slot is never its own.
-- Assumes nothing.
use Prim.Native.Nat.{ℕ, ◌/◌, ◌<◌}
use native.Mathlib.Omega.{arith}
use mathlib.Core.Path.{◌≡◌, refl, sym, ◌∙◌, subst}
use mathlib.Core.Bool.{Bool, true, false, false≢true, not, ◌&&◌, ◌||◌, and-false, or-true}
use mathlib.Core.List.{List, [], ◌∷◌}
use lib.Dec.{eqb}
use borrow.Author.Tests.{eqb-true, eq-eqb, ne_eqb}
use Rattle.std.specs.List.{list_all}
use Rattle.proof_lists.specs.Tests.{by-test, and_left, and_right}
use Rattle.rules.specs.Modelled.{slot_count}
use Rattle.rules.specs.Control.{select_of}
use Rattle.runs.specs.Exchanges.{Inside, Item, exchange, between, controls, names, mute, some_of, addressed, to_none, to_other, shared, struck, own}

-- of two tests of which the first shuts out the second, the second shuts out the first
excluded : (a b : Bool) → (a ≡ true → b ≡ false) → b ≡ true → a ≡ false
excluded true b f e = sym e ∙ f refl
excluded false b f e = refl

-- an exchange addressed to t has a control byte
some_byte : (t : ℕ) → addressed t [] ≡ true → ⊥
unfolding addressed some_of
some_byte t e = false≢true e

-- the first one has select t, and some slot hears it
first-named : (t c : ℕ) (cs : List ℕ) → addressed t (c ∷ cs) ≡ true → names t c ≡ true
unfolding addressed some_of
first-named t c cs e = and_left (names t c) (list_all (names t) cs) e

first-select : (t c : ℕ) (cs : List ℕ) → addressed t (c ∷ cs) ≡ true → (select_of c).0 ≡ t
unfolding names
first-select t c cs e =
    let family : Bool = eqb (c / 16) 0xA || eqb (c / 16) 0x3 in
    eqb-true (select_of c).0 t (and_right family (eqb (select_of c).0 t) (first-named t c cs e))

named-heard : (t c : ℕ) → names t c ≡ true → mute c ≡ false
unfolding names mute
named-heard t c e = heard (eqb (c / 16) 0xA) (eqb (c / 16) 0x3) (eqb (c / 16) 0x6) (eqb (select_of c).0 t) e
  where
    heard : (memory sensor command chosen : Bool) → (memory || sensor) && chosen ≡ true → not memory && not sensor && not command ≡ false
    heard true sensor command chosen e = refl
    heard false true command chosen e = refl
    heard false false command chosen e = absurd (false≢true e)

-- so it is not addressed to none
pub addressed-not-none : (t : ℕ) (cs : List ℕ) → addressed t cs ≡ true → to_none cs ≡ false
unfolding to_none
addressed-not-none t [] e = absurd (some_byte t e)
addressed-not-none t (c ∷ cs) e = rw (named-heard t c (first-named t c cs e))

-- nor shared
pub addressed-not-shared : (t : ℕ) (cs : List ℕ) → addressed t cs ≡ true → shared cs ≡ false
unfolding shared
addressed-not-shared t [] e = refl
addressed-not-shared t (c ∷ cs) e = rw (first-select t c cs e, e) (and-false (not (to_none (c ∷ cs))))

-- nor addressed to another slot
pub addressed-one : (t u : ℕ) (cs : List ℕ) → addressed t cs ≡ true → addressed u cs ≡ true → t ≡ u
addressed-one t u [] e f = absurd (some_byte t e)
addressed-one t u (c ∷ cs) e f = sym (first-select t c cs e) ∙ first-select u c cs f

-- and t is one of the bus's slots
pub addressed-below : (t : ℕ) (cs : List ℕ) → addressed t cs ≡ true → t < slot_count
unfolding select_of
addressed-below t [] e = absurd (some_byte t e)
addressed-below t (c ∷ cs) e = subst (λ n. n < slot_count) (first-select t c cs e) (omega arith)

-- an exchange addressed to none is not shared
pub none-not-shared : (cs : List ℕ) → to_none cs ≡ true → shared cs ≡ false
unfolding shared
none-not-shared [] e = refl
none-not-shared (c ∷ cs) e = rw e

-- exactly one of the three, and of the slots at most one, by the control bytes
pub data Class (cs : List ℕ) : Type 0 where
  to_one : (t : ℕ) → t < slot_count → addressed t cs ≡ true → ((u : ℕ) → addressed u cs ≡ true → t ≡ u) → to_none cs ≡ false → shared cs ≡ false → Class cs
  to-none : ((t : ℕ) → addressed t cs ≡ false) → to_none cs ≡ true → shared cs ≡ false → Class cs
  to-several : ((t : ℕ) → addressed t cs ≡ false) → to_none cs ≡ false → shared cs ≡ true → Class cs

module _ (cs : List ℕ) where
  one_class : (t : ℕ) → addressed t cs ≡ true → Class cs
  one_class t e = to_one t (addressed-below t cs e) e (λ u f. addressed-one t u cs e f) (addressed-not-none t cs e) (addressed-not-shared t cs e)

  none-class : to_none cs ≡ true → Class cs
  none-class e = to-none (λ t. excluded (addressed t cs) (to_none cs) (addressed-not-none t cs) e) e (none-not-shared cs e)

  shared-class : shared cs ≡ true → Class cs
  shared-class e =
      to-several (λ t. excluded (addressed t cs) (shared cs) (addressed-not-shared t cs) e) (excluded (to_none cs) (shared cs) (none-not-shared cs) e) e

pub classed : (cs : List ℕ) → Class cs
classed [] = none-class [] (unfold to_none in refl)
classed (c ∷ cs) =
    by-test (to_none (c ∷ cs)) (λ e. none-class (c ∷ cs) e) λ e.
    by-test (addressed (select_of c).0 (c ∷ cs)) (λ f. one_class (c ∷ cs) (select_of c).0 f) λ f.
    shared-class (c ∷ cs) (unfold shared in rw (e, f))

-- an exchange addressed to t is struck out for every other slot
pub addressed-other : (t k : ℕ) → (t ≡ k → ⊥) → (cs : List ℕ) → addressed t cs ≡ true → to_other k cs ≡ true
unfolding to_other
addressed-other t k ne [] e = absurd (some_byte t e)
addressed-other t k ne (c ∷ cs) e = rw (first-select t c cs e, ne_eqb t k ne) e

pub addressed-struck : (t k : ℕ) (xs : List Inside) → (t ≡ k → ⊥) → addressed t (controls true xs) ≡ true → struck k (exchange xs) ≡ true
unfolding struck
addressed-struck t k xs ne e = rw (addressed-other t k ne (controls true xs) e) (or-true (to_none (controls true xs)))

-- and not for t
addressed-not-other : (t : ℕ) (cs : List ℕ) → addressed t cs ≡ true → to_other t cs ≡ false
unfolding to_other
addressed-not-other t [] e = refl
addressed-not-other t (c ∷ cs) e = rw (eq-eqb (select_of c).0 t (first-select t c cs e))

pub own-not-struck : (k : ℕ) (i : Item) → own k i ≡ true → struck k i ≡ false
unfolding own struck
own-not-struck k (exchange xs) e = rw (addressed-not-none k (controls true xs) e, addressed-not-other k (controls true xs) e)
own-not-struck k (between g) e = absurd (false≢true e)

pub struck-not-own : (k : ℕ) (i : Item) → struck k i ≡ true → own k i ≡ false
struck-not-own k i e = excluded (own k i) (struck k i) (own-not-struck k i) e
