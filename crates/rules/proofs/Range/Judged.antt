-- The refusals: each is given exactly when its row says so and none before it in the order, under the paper's number and letter.
-- Assumes nothing.
use Rattle.std.specs.Prelude.{Ok, Err}
use mathlib.Core.Path.{◌≡◌, refl, sym, ◌∙◌, ap}
use mathlib.Core.Bool.{true, false, not, cond}
use mathlib.Core.List.{List, map}
use Prim.Native.Nat.{ℕ}
use native.Mathlib.Omega.{arith}
use lib.Dec.{eqb}
use lib.ListN.{replicate}
use borrow.Author.Tests.{not-true, not-false}
use Rattle.std.specs.List.{list_all}
use Rattle.proof_lists.specs.Tests.{cond_cases, by-test}
use Rattle.rules.specs.declared.Bus.{Bus}
use Rattle.rules.specs.declared.Carried.{Carried}
use Rattle.rules.specs.declared.Carried.TheVariants as carries
use Rattle.rules.specs.declared.Event.{Event}
use Rattle.rules.specs.declared.Pair.{Pair}
use Rattle.rules.specs.declared.Refusal.{Refusal}
use Rattle.rules.specs.declared.Refusal.TheVariants.{MemoryLength, UnknownKind, WrongSlot, WrongValue, WrongSetup, WrongState, ProtectedPage, Busy, TooShort, WrongForm}
use Rattle.rules.specs.Refusals.{Ruling}
use Rattle.rules.specs.Modelled.{slot_count}
use Rattle.rules.specs.Events.{act_of, carried, refusal_number, letter_of, value_of}
use Rattle.rules.specs.Fresh.{setup_slot, absent_slot}
use Rattle.rules.specs.Bus.{any_ack, shown_for, shown}
use Rattle.rules.specs.Refusals.{wrong_length, unknown_kind, kinds_of, kind_at, wrong_slot, wrong_value, good_pair, in_range, ruled_for, ruled_by, ruling, empty_bus, setup_of}
use Rattle.rules.specs.Runs.{Bench, given, ruling_on, ruled_next, ruled_answer, next, answered}

-- The paper's number tells the refusal.
abbrev pub refusal_of : ℕ → Refusal
refusal_of n =
    cond (eqb n 1) MemoryLength (cond (eqb n 2) UnknownKind (cond (eqb n 3) WrongSlot (cond (eqb n 4) WrongValue (cond (eqb n 5) WrongSetup (cond (eqb n 6) WrongState (cond (eqb n 7) ProtectedPage (cond (eqb n 8) Busy (cond (eqb n 9) TooShort WrongForm))))))))

pub numbered : (r : Refusal) → refusal_of (refusal_number r) ≡ r
unfolding refusal_number
numbered MemoryLength = refl
numbered UnknownKind = refl
numbered WrongSlot = refl
numbered WrongValue = refl
numbered WrongSetup = refl
numbered WrongState = refl
numbered ProtectedPage = refl
numbered Busy = refl
numbered TooShort = refl
numbered WrongForm = refl

-- The rows as conditions on what is handed in, each with those before it in the order 1, 6, 2, 3, 4 not met; a refusal is known by the paper's
-- number for it.
pub data Judged (b : Bus) (m : List ℕ) (e : Event) : Ruling → Type 0 where
  row-1 : {r : Refusal} → refusal_number r ≡ 1 → wrong_length m ≡ true → Judged b m e (Err r)
  row-6 : {r : Refusal} → refusal_number r ≡ 6 → wrong_length m ≡ false → in_range b ≡ false → Judged b m e (Err r)
  row-2 : {r : Refusal} → refusal_number r ≡ 2 → wrong_length m ≡ false → in_range b ≡ true → unknown_kind e ≡ true → Judged b m e (Err r)
  row-3 : {r : Refusal} → refusal_number r ≡ 3
      → wrong_length m ≡ false → in_range b ≡ true → unknown_kind e ≡ false → wrong_slot (kind_at (kinds_of b) e.slot) e ≡ true → Judged b m e (Err r)
  row-4 : {r : Refusal} → refusal_number r ≡ 4
      → wrong_length m ≡ false → in_range b ≡ true → unknown_kind e ≡ false → wrong_slot (kind_at (kinds_of b) e.slot) e ≡ false → wrong_value e ≡ true
      → Judged b m e (Err r)
  no_row :
      wrong_length m ≡ false → in_range b ≡ true → unknown_kind e ≡ false → wrong_slot (kind_at (kinds_of b) e.slot) e ≡ false → wrong_value e ≡ false
      → Judged b m e (Ok (act_of e))

pub judged : (b : Bus) (m : List ℕ) (e : Event) → Judged b m e (ruling b m e)
unfolding ruling ruled_by ruled_for refusal_number
judged b m e =
    cond_cases (Judged b m e) (wrong_length m) (λ h. row-1 refl h) λ h.
    cond_cases (Judged b m e) (not (in_range b)) (λ i. row-6 refl h (not-true (in_range b) i)) λ i.
    cond_cases (Judged b m e) (unknown_kind e) (λ j. row-2 refl h (not-false (in_range b) i) j) λ j.
    cond_cases (Judged b m e) (wrong_slot (kind_at (kinds_of b) e.slot) e) (λ k. row-3 refl h (not-false (in_range b) i) j k) λ k.
    cond_cases (Judged b m e) (wrong_value e) (λ l. row-4 refl h (not-false (in_range b) i) j k l) (λ l. no_row h (not-false (in_range b) i) j k l)

-- and no other ruling meets a row: what is judged so is the ruling
abbrev refuse : Refusal → Ruling
refuse = Err

by_number : (r : Refusal) (n : ℕ) → refusal_number r ≡ n → refuse r ≡ refuse (refusal_of n)
by_number r n e = ap refuse (sym (numbered r) ∙ ap refusal_of e)

pub only-ruling : (b : Bus) (m : List ℕ) (e : Event) (r : Ruling) → Judged b m e r → r ≡ ruling b m e
unfolding ruling ruled_by ruled_for
only-ruling b m e (Err r) (row-1 n h) = by_number r 1 n ∙ rw h
only-ruling b m e (Err r) (row-6 n h i) = by_number r 6 n ∙ rw (h, i)
only-ruling b m e (Err r) (row-2 n h i j) = by_number r 2 n ∙ rw (h, i, j)
only-ruling b m e (Err r) (row-3 n h i j k) = by_number r 3 n ∙ rw (h, i, j, k)
only-ruling b m e (Err r) (row-4 n h i j k l) = by_number r 4 n ∙ rw (h, i, j, k, l)
only-ruling b m e (Ok a) (no_row h i j k l) = rw (h, i, j, k, l)

-- "The answer holds the number; state and memory stay.": an event that meets row n is answered `R` and n, and changes nothing.
pub record Refusing (e : Event) (x : Bench) (n : ℕ) : Type 0 where
  pub letter : letter_of (answered e x) ≡ 0x52
  pub value : value_of (answered e x) ≡ n
  pub unchanged : next e x ≡ x

ruled-refusing : (e : Event) (x : Bench) (r : Refusal) (n : ℕ) → refusal_number r ≡ n → ruling_on e x ≡ Err r → Refusing e x n
unfolding answered next ruled_answer ruled_next letter_of value_of
ruled-refusing e x r n f h = record {
  letter = ap (λ (q : Ruling). letter_of (ruled_answer q x)) h;
  value = ap (λ (q : Ruling). value_of (ruled_answer q x)) h ∙ f;
  unchanged = ap (λ (q : Ruling). ruled_next q x) h;
}

-- the refusals that an event can meet, by their numbers
pub data Row (b : Bus) (m : List ℕ) (e : Event) (n : ℕ) : Type 0 where
  row : (r : Refusal) → refusal_number r ≡ n → Judged b m e (Err r) → Row b m e n

pub refused-at-row : (e : Event) (x : Bench) (n : ℕ) → Row x.bus x.memory e n → Refusing e x n
unfolding ruling_on
refused-at-row e x n (row r f j) = ruled-refusing e x r n f (sym (only-ruling x.bus x.memory e (Err r) j))

-- and no other event is answered `R`
shown-letter : (c : Carried) (b : Bus) (m : List ℕ) → letter_of (shown_for c b m) ≡ 0x52 → ⊥
unfolding shown_for letter_of
shown-letter (carries.Byte v) b m e = by-test (any_ack v b) (λ h. let f : ◌≡◌ {A = ℕ} 0x41 0x52 = rw h at e in omega (arith, f)) (λ h. let f : ◌≡◌ {A = ℕ} 0x4E 0x52 = rw h at e in omega (arith, f))
shown-letter (carries.Read more) b m e = omega (arith, e)
shown-letter carries.Nothing b m e = omega (arith, e)

row_of : (e : Event) (x : Bench) (r : Ruling) → Judged x.bus x.memory e r → letter_of (ruled_answer r x) ≡ 0x52 → Row x.bus x.memory e (value_of (ruled_answer r x))
unfolding ruled_answer given shown letter_of value_of
row_of e x (Ok a) j l = absurd (shown-letter (carried a) x.bus x.memory l)
row_of e x (Err r) j l = row r refl j

pub row-at-refused : (e : Event) (x : Bench) → letter_of (answered e x) ≡ 0x52 → Row x.bus x.memory e (value_of (answered e x))
unfolding answered ruling_on
row-at-refused e x l = row_of e x (ruling_on e x) (judged x.bus x.memory e) l

-- "5 | setup: a slot kind not 0..2, or a present slot's length not 1..5", "a refused setup yields a bus of eight absent slots": `R` and 5, exactly then
pub setup-good : (ps : List Pair) → list_all good_pair ps ≡ true → (letter_of (setup_of ps).answer ≡ 0x2D) × ((setup_of ps).bus.slots ≡ map setup_slot ps)
unfolding setup_of letter_of
setup-good ps e = (rw e, rw e)

pub setup-bad : (ps : List Pair) → list_all good_pair ps ≡ false
    → (letter_of (setup_of ps).answer ≡ 0x52) × (value_of (setup_of ps).answer ≡ 5) × ((setup_of ps).bus.slots ≡ replicate slot_count absent_slot)
unfolding setup_of letter_of value_of refusal_number empty_bus
setup-bad ps e = (rw e, rw e, rw e)
