-- What the rows' proofs share.
-- Assumes nothing.
use Rattle.std.proofs.Common.{◌≡◌, ◌≢◌, refl, sym, ◌∙◌, ap, subst, ℕ, zero, suc, ◌<◌, ◌≤◌, Bool, true, false, not, cond, ◌||◌, eqb, ltb, Result, Ok, Err, ℤ, pos, negsuc, nat_abs, arith}
use Rattle.std.proofs.Math.Bool.{or-true, or-false, true≢false}
use Rattle.std.proofs.lemmas.Result.{err_from_is_err_and}
use Rattle.std.specs.Prelude.{IsErrAnd}
use Rattle.std.specs.Int.{FitsUnsignedBits}
use borrow.Author.Tests.{eqb-true, lt-ltb, le-ltb, ltb-false}
use Rattle.proof_lists.specs.Tests.{by-test, or_right_false}
use Rattle.rules.specs.declared.Event.{Event}
use Rattle.rules.specs.declared.Refusal.{Refusal}
use Rattle.rules.specs.declared.Refusal.TheVariants.{UnknownKind, WrongSlot, WrongValue}
use Rattle.rules.specs.declared.SlotNo.{SlotNo}
use Rattle.rules.specs.Events.{is_one, act_of}
use Rattle.rules.specs.Refusals.{Ruling, unknown_kind, wrong_slot, outside, wrong_value, ruled_for}
use Rattle.bus_refusals.specs.declared.ruling.Kind.{Kind}
use Rattle.bus_refusals.specs.declared.ruling.Kind.TheVariants.{Start, Byte, Read, Stop, Timeout, Tick, Voltage, Power, Temperature, WriteProtect}
use Rattle.bus_refusals.specs.Kinds.{number_of, kind_of, Decodes, event_with}

-- a number in a range that begins with 0
pub number-in : (most : ℕ) (v : ℤ) → FitsUnsignedBits 8 v → nat_abs v ≤ most → outside (pos 0) (pos most) v ≡ false
unfolding outside
number-in most (pos n) f h = rw (le-ltb n 0 (omega arith), le-ltb most n h)
number-in most (negsuc n) f h = absurd f

pub number-over : (most : ℕ) (v : ℤ) → FitsUnsignedBits 8 v → most < nat_abs v → outside (pos 0) (pos most) v ≡ true
unfolding outside
number-over most (pos n) f h = rw (le-ltb n 0 (omega arith), lt-ltb most n h)
number-over most (negsuc n) f h = absurd f

pub number-none : (most : ℕ) (v : ℤ) → most ≤ 255 → (FitsUnsignedBits 8 v → ⊥) → outside (pos 0) (pos most) v ≡ true
unfolding outside
number-none most (pos n) l f =
    by-test (ltb most n)
    (λ t. rw (le-ltb n 0 (omega arith), t))
    (λ t. absurd (f (omega (arith, ltb-false most n t))))
number-none most (negsuc n) l f = refl

-- on for 1, off for 0
pub switched : (v : ℤ) → outside (pos 0) (pos 1) v ≡ false → eqb (nat_abs v) 1 ≡ is_one v
unfolding outside is_one
switched (pos zero) h = refl
switched (pos (suc zero)) h = refl
switched (pos (suc (suc n))) h = absurd (none (ltb-false 1 (suc (suc n)) (or_right_false (ltb (suc (suc n)) 0) (ltb 1 (suc (suc n))) h)))
  where
    none : {i : ℕ} → suc (suc i) ≤ 1 → ⊥
    none h = omega arith
switched (negsuc n) h = absurd (true≢false h)

ok-not-err : {A : Type 0} {x : A} {e : Refusal} → ◌≡◌ {A = Result A Refusal} (Ok x) (Err e) → ⊥
ok-not-err h = grind arith

same-ok : {A : Type 0} {x y : A} → ◌≡◌ {A = Result A Refusal} (Ok x) (Ok y) → x ≡ y
same-ok h = grind arith

same-err : {A : Type 0} {d e : Refusal} → ◌≡◌ {A = Result A Refusal} (Err d) (Err e) → d ≡ e
same-err h = grind arith

-- a value that is refused, which `?` hands on, and one that is not
module _ {A : Type 0} (bad : Bool) (x : A) (n : Result A Refusal) (is : n ≡ cond bad (Err WrongValue) (Ok x)) where
  refused-as : (e : Refusal) → n ≡ Err e → (bad ≡ true) × (e ≡ WrongValue)
  refused-as e was =
      by-test bad (λ t. (t, same-err (sym was ∙ is ∙ ap (λ (b : Bool). cond b (Err WrongValue) (Ok x)) t)))
      (λ t. absurd (ok-not-err (sym (ap (λ (b : Bool). cond b (Err WrongValue) (Ok x)) t) ∙ sym is ∙ was)))

  pub err-by : {B : Type 0} (y : B) (e : Refusal) (r : Result B Refusal) → n ≡ Err e → IsErrAnd r (λ f. f ≡ e) → r ≡ cond bad (Err WrongValue) (Ok y)
  err-by y e r was on =
      let given = err_from_is_err_and r on in
      let why = refused-as e was in
      given.1 ∙ rw why.0 (ap Err (given.2 ∙ why.1))

  pub ok-by : (a : A) → n ≡ Ok a → (bad ≡ false) × (a ≡ x)
  ok-by a was = by-test bad
      (λ t. absurd (ok-not-err (sym was ∙ is ∙ ap (λ (b : Bool). cond b (Err WrongValue) (Ok x)) t)))
      (λ t. (t, same-ok (sym was ∙ is ∙ ap (λ (b : Bool). cond b (Err WrongValue) (Ok x)) t)))

-- a kind of slot that is not there is none of the others
none-else : (a : Bool) (k m : ℕ) → eqb 0 m ≡ false → a || not (eqb k m) ≡ (a || eqb k 0) || not (eqb k m)
none-else a k m d = by-test (eqb k 0)
    (λ t. rw (eqb-true k 0 t, d) (or-true a ∙ sym (or-true (a || true))))
    (λ t. rw (t, or-false))

-- row 3, kind by kind
module _ (kind : ℕ) (n : SlotNo) where
  pub wrong-voltage : ltb 7 n.0 || eqb kind 0 ≡ wrong_slot kind (event_with Voltage n (pos 0))
  unfolding wrong_slot
  wrong-voltage = sym (or-false _) ∙ sym (or-false _)

  pub wrong-temperature : ltb 7 n.0 || not (eqb kind 2) ≡ wrong_slot kind (event_with Temperature n (pos 0))
  unfolding wrong_slot
  wrong-temperature = rw or-false (none-else (ltb 7 n.0) kind 2 refl)

  pub wrong-pin : ltb 7 n.0 || not (eqb kind 3) ≡ wrong_slot kind (event_with WriteProtect n (pos 0))
  unfolding wrong_slot
  wrong-pin = none-else (ltb 7 n.0) kind 3 refl ∙ ap (λ (b : Bool). b || not (eqb kind 3)) (sym (or-false _))

  pub no-slot : (k : Kind) → k ≢ Voltage → k ≢ Temperature → k ≢ WriteProtect → false ≡ wrong_slot kind (event_with k n (pos 0))
  unfolding wrong_slot
  no-slot Start a b c = refl
  no-slot Byte a b c = refl
  no-slot Read a b c = refl
  no-slot Stop a b c = refl
  no-slot Timeout a b c = refl
  no-slot Tick a b c = refl
  no-slot Voltage a b c = absurd (a refl)
  no-slot Power a b c = refl
  no-slot Temperature a b c = absurd (b refl)
  no-slot WriteProtect a b c = absurd (c refl)

-- an event whose number no kind has
pub ruled-unknown : (kind : ℕ) (e : Event) (why : Refusal) (r : Ruling) → (why ≡ UnknownKind) × (ltb e.kind 1 || ltb 10 e.kind ≡ true) → IsErrAnd r (λ f. f ≡ why) → r ≡ ruled_for kind e
unfolding ruled_for unknown_kind
ruled-unknown kind e why r u on = let given = err_from_is_err_and r on in given.1 ∙ rw u.1 (ap Err (given.2 ∙ u.0))

-- and one of a kind that there is
known-kind : (k : Kind) (n : SlotNo) (v : ℤ) → unknown_kind (event_with k n v) ≡ false
unfolding unknown_kind
known-kind Start n v = refl
known-kind Byte n v = refl
known-kind Read n v = refl
known-kind Stop n v = refl
known-kind Timeout n v = refl
known-kind Tick n v = refl
known-kind Voltage n v = refl
known-kind Power n v = refl
known-kind Temperature n v = refl
known-kind WriteProtect n v = refl

module _ (kind : ℕ) (k : Kind) (e : Event) (named : number_of k ≡ e.kind) where
  abbrev it : Event
  it = event_with k e.slot e.value

  same : it ≡ e
  same = λ i. record { kind = named i; slot = e.slot; value = e.value }

  -- row 3 doesn't look at the value
  blind : wrong_slot kind it ≡ wrong_slot kind (event_with k e.slot (pos 0))
  unfolding wrong_slot
  blind = refl

  pub ruled-slot : wrong_slot kind (event_with k e.slot (pos 0)) ≡ true → ◌≡◌ {A = Ruling} (Err WrongSlot) (ruled_for kind e)
  unfolding ruled_for
  ruled-slot w = subst (λ (z : Event). ◌≡◌ {A = Ruling} (Err WrongSlot) (ruled_for kind z)) same (rw (known-kind k e.slot e.value, blind ∙ w))

  pub ruled-value : wrong_slot kind (event_with k e.slot (pos 0)) ≡ false → cond (wrong_value it) (Err WrongValue) (Ok (act_of it)) ≡ ruled_for kind e
  unfolding ruled_for
  ruled-value w = subst (λ (z : Event). cond (wrong_value it) (Err WrongValue) (Ok (act_of it)) ≡ ruled_for kind z) same (rw (known-kind k e.slot e.value, blind ∙ w))

-- the kind that has a number decodes it
no-number : (k n : ℕ) → k ≤ 10 → 10 < n → eqb k n ≡ false
no-number k n l h = by-test (eqb k n) (λ t. absurd (below (eqb-true k n t))) (λ f. f)
  where
    below : k ≡ n → ⊥
    below e = omega (arith, l, h)

over : (n : ℕ) → 10 < n → Decodes n (kind_of n)
over n h =
    let is-not = λ (k : ℕ). λ (l : k ≤ 10). no-number k n l h in
    rw (is-not 1 (omega arith), is-not 2 (omega arith), is-not 3 (omega arith), is-not 4 (omega arith), is-not 5 (omega arith), is-not 6 (omega arith), is-not 7 (omega arith), is-not 8 (omega arith), is-not 9 (omega arith), is-not 10 (omega arith), lt-ltb 10 n h)
    (refl, or-true (ltb n 1))

pub decodes : (n : ℕ) → Decodes n (kind_of n)
decodes zero = (refl, refl)
decodes (suc zero) = refl
decodes (suc (suc zero)) = refl
decodes (suc (suc (suc zero))) = refl
decodes (suc (suc (suc (suc zero)))) = refl
decodes (suc (suc (suc (suc (suc zero))))) = refl
decodes (suc (suc (suc (suc (suc (suc zero)))))) = refl
decodes (suc (suc (suc (suc (suc (suc (suc zero))))))) = refl
decodes (suc (suc (suc (suc (suc (suc (suc (suc zero)))))))) = refl
decodes (suc (suc (suc (suc (suc (suc (suc (suc (suc zero))))))))) = refl
decodes (suc (suc (suc (suc (suc (suc (suc (suc (suc (suc zero)))))))))) = refl
decodes (suc (suc (suc (suc (suc (suc (suc (suc (suc (suc (suc n))))))))))) = over (suc (suc (suc (suc (suc (suc (suc (suc (suc (suc (suc n))))))))))) (omega arith)

pub decoded-unknown : (n : ℕ) (why : Refusal) → Err why ≡ kind_of n → (why ≡ UnknownKind) × (ltb n 1 || ltb 10 n ≡ true)
decoded-unknown n why h = subst (Decodes n) (sym h) (decodes n)

pub decoded : (n : ℕ) (k : Kind) → Ok k ≡ kind_of n → number_of k ≡ n
decoded n k h = subst (Decodes n) (sym h) (decodes n)
