-- Request P2, put together: when each verdict is given, of whatever is handed in. Each is given exactly then.
-- Assumes nothing.
use Prim.Native.Nat.{ℕ, suc, ◌/◌}
use native.Mathlib.Nat.{zero-add}
use native.Mathlib.Omega.{arith}
use mathlib.Core.Path.{◌≡◌, refl, sym, ◌∙◌, ap, ap₂}
use mathlib.Core.Bool.{false, false≢true}
use mathlib.Core.List.{List, [], ◌++◌}
use borrow.Author.Tests.{eq-eqb, ne_eqb, eqb-true, eqb-false}
use lib.Dec.{eqb}
use lib.ListN.{length}
use Rattle.std.specs.List.{list_all}
use Rattle.proof_lists.specs.Tests.{cond_cases, by-test}
use Rattle.rules.specs.declared.Answer.{Answer}
use Rattle.rules.specs.declared.Pair.{Pair}
use Rattle.rules.specs.declared.Refusal.TheVariants.{MemoryLength, WrongSetup}
use Rattle.rules.specs.Modelled.{memory_bytes}
use Rattle.rules.specs.Events.{refusal_number}
use Rattle.rules.specs.Refusals.{wrong_length, good_pair}
use Rattle.capture_rules.specs.declared.Seen.{Seen}
use Rattle.capture_rules.specs.declared.Verdict.{Verdict}
use Rattle.capture_rules.specs.declared.Verdict.TheVariants.{Accepted, Differs, Short, Refused}
use Rattle.capture_rules.specs.Capture.{captured_to, captured_in, left_over, verdict_from, bench_from, closed, start_of, verdict_of}
use Rattle.capture_rules.specs.Agreement.{Alike, First, Begins, is_accepted, is_short, verdict_number, onward}
use Rattle.capture_rules.proofs.Cut.{not-accepted}
use Rattle.capture_rules.proofs.Pieces.{left-pieces, verdict-pieces}
use Rattle.capture_rules.proofs.First.{accepted-to, accepted-from, differs-to, differs-from, decided}

-- what a verdict was before the bytes left over were looked at
closed-accepted : (left : ℕ) (v : Verdict) → closed left v ≡ Accepted → (left ≡ 0) × (v ≡ Accepted)
unfolding closed is_accepted
closed-accepted left Accepted h =
    by-test (eqb left 0) (λ e. (eqb-true left 0 e, refl)) (λ e. absurd (false≢true (ap is_accepted (rw e at h))))
closed-accepted left (Differs k a s) h = absurd (false≢true (ap is_accepted h))
closed-accepted left Short h = absurd (false≢true (ap is_accepted h))
closed-accepted left (Refused r) h = absurd (false≢true (ap is_accepted h))

not_short : {k : ℕ} {a : Answer} {s : Seen} → Short ≡ Differs k a s → ⊥
unfolding is_short
not_short e = false≢true (sym (ap is_short e))

closed-differs : (left : ℕ) (v : Verdict) (k : ℕ) (a : Answer) (s : Seen) → closed left v ≡ Differs k a s → v ≡ Differs k a s
unfolding closed
closed-differs left Accepted k a s h =
    by-test (eqb left 0) (λ e. absurd (not-accepted (sym (rw e at h)))) (λ e. absurd (not_short (rw e at h)))
closed-differs left (Differs j b t) k a s h = h
closed-differs left Short k a s h = h
closed-differs left (Refused r) k a s h = h

module _ (ps : List Pair) (m : List ℕ) where
  -- a memory of another length, a bad setup, and otherwise the verdict on the records
  pub at-memory : (bs : List ℕ) → (length m ≡ memory_bytes → ⊥) → verdict_of ps m bs ≡ Refused MemoryLength
  unfolding verdict_of wrong_length
  at-memory bs h = rw (ne_eqb (length m) memory_bytes h)

  pub at-setup : (bs : List ℕ) → length m ≡ memory_bytes → list_all good_pair ps ≡ false → verdict_of ps m bs ≡ Refused WrongSetup
  unfolding verdict_of wrong_length
  at-setup bs h g = rw (eq-eqb (length m) memory_bytes h, g)

  begun : Begins ps m → (bs : List ℕ) → verdict_of ps m bs ≡ closed (left_over bs) (verdict_from 0 (start_of ps m) (captured_in bs))
  unfolding verdict_of wrong_length
  begun b bs = rw (eq-eqb (length m) memory_bytes b.memory, b.setup)

  -- "refusal 1 for a memory that is not 4,096 bytes, then 5 for a bad setup, both before any record"
  pub refused-memory : (bs : List ℕ) → (length m ≡ memory_bytes → ⊥) → verdict_number (verdict_of ps m bs) ≡ 1
  unfolding verdict_number refusal_number
  refused-memory bs h = ap verdict_number (at-memory bs h)

  pub refused-setup : (bs : List ℕ) → length m ≡ memory_bytes → list_all good_pair ps ≡ false → verdict_number (verdict_of ps m bs) ≡ 5
  unfolding verdict_number refusal_number
  refused-setup bs h g = ap verdict_number (at-setup bs h g)

  -- and for nothing else
  pub begins : (bs : List ℕ) → verdict_number (verdict_of ps m bs) ≡ 0 → Begins ps m
  begins bs h =
      by-test (eqb (length m) memory_bytes)
      (λ e.
      by-test (list_all good_pair ps) (λ g. record { memory = eqb-true (length m) memory_bytes e; setup = g })
      (λ g. absurd (none (sym h ∙ refused-setup bs (eqb-true (length m) memory_bytes e) g))))
      (λ e. absurd (none (sym h ∙ refused-memory bs (eqb-false (length m) memory_bytes e))))
    where
      none : {n : ℕ} → 0 ≡ suc n → ⊥
      none e = omega (arith, e)

  -- "A capture with no records is accepted."
  pub no-records : Begins ps m → verdict_of ps m [] ≡ Accepted
  unfolding left_over captured_in captured_to verdict_from closed
  no-records b = begun b []

  module _ (bs : List ℕ) where
    -- "accepts exactly if the model gives each of those answers from those beginnings"
    pub accepted-exactly : verdict_of ps m bs ≡ Accepted → Begins ps m × (left_over bs ≡ 0) × Alike (start_of ps m) (captured_in bs)
    unfolding verdict_number
    accepted-exactly h =
        let b : Begins ps m = begins bs (ap verdict_number h) in
        let c : (left_over bs ≡ 0) × (verdict_from 0 (start_of ps m) (captured_in bs) ≡ Accepted) = closed-accepted (left_over bs) _ (sym (begun b bs) ∙ h) in
        (b, c.0, accepted-to 0 (start_of ps m) (captured_in bs) c.1)

    pub exactly-accepted : Begins ps m → left_over bs ≡ 0 → Alike (start_of ps m) (captured_in bs) → verdict_of ps m bs ≡ Accepted
    unfolding closed
    exactly-accepted b l r = begun b bs ∙ rw (l, accepted-from 0 (start_of ps m) (captured_in bs) r)

    -- "otherwise it names the first record that differs, the model's answer and the captured one"
    pub differs-exactly : (k : ℕ) (a : Answer) (s : Seen) → verdict_of ps m bs ≡ Differs k a s
        → Begins ps m × First 0 (start_of ps m) (captured_in bs) k a s
    unfolding verdict_number
    differs-exactly k a s h =
        let b : Begins ps m = begins bs (ap verdict_number h) in
        (b, differs-to 0 (start_of ps m) (captured_in bs) k a s (closed-differs (left_over bs) _ k a s (sym (begun b bs) ∙ h)))

    pub exactly-differs : (k : ℕ) (a : Answer) (s : Seen) → Begins ps m → First 0 (start_of ps m) (captured_in bs) k a s → verdict_of ps m bs ≡ Differs k a s
    unfolding closed
    exactly-differs k a s b r = begun b bs ∙ rw (differs-from 0 (start_of ps m) (captured_in bs) k a s r)

    -- where the bytes end inside a record: "the first difference of the whole records if there is one, else `short`"
    pub exactly-short : Begins ps m → (left_over bs ≡ 0 → ⊥) → Alike (start_of ps m) (captured_in bs) → verdict_of ps m bs ≡ Short
    unfolding closed
    exactly-short b l r = begun b bs ∙ rw (accepted-from 0 (start_of ps m) (captured_in bs) r, ne_eqb (left_over bs) 0 l)

    pub short-exactly : verdict_of ps m bs ≡ Short → Begins ps m × (left_over bs ≡ 0 → ⊥) × Alike (start_of ps m) (captured_in bs)
    unfolding verdict_number closed is_short
    short-exactly h =
        let b : Begins ps m = begins bs (ap verdict_number h) in
        let e : closed (left_over bs) (verdict_from 0 (start_of ps m) (captured_in bs)) ≡ Short = sym (begun b bs) ∙ h in
        decided 0 (start_of ps m) (captured_in bs)
        (λ f. (b, λ l. false≢true (ap is_short (rw (f, l) at e)), accepted-to 0 (start_of ps m) (captured_in bs) f))
        (λ k a s f. absurd (not_short (sym (rw f at e))))

    -- nothing is refused but for the two reasons
    pub not-refused : Begins ps m → verdict_number (verdict_of ps m bs) ≡ 0
    unfolding verdict_number closed
    not-refused b =
        ap verdict_number (begun b bs)
        ∙ decided 0 (start_of ps m) (captured_in bs) (λ f. rw f (cond_cases (λ v. verdict_number v ≡ 0) (eqb (left_over bs) 0) (λ e. refl) (λ e. refl))) (λ k a s f. rw f)

  -- "the verdict over pieces, cut between any two records, is the verdict over the whole"
  pub in_pieces : Begins ps m → (p q : List ℕ) → left_over p ≡ 0
      → verdict_of ps m (p ++ q)
      ≡ closed (left_over q)
      (onward (verdict_from 0 (start_of ps m) (captured_in p)) (verdict_from (length p / 6) (bench_from (start_of ps m) (captured_in p)) (captured_in q)))
  in_pieces b p q h =
      begun b (p ++ q)
      ∙ ap₂ closed (left-pieces p q h)
      (verdict-pieces p q h 0 (start_of ps m)
      ∙ ap (λ k. onward (verdict_from 0 (start_of ps m) (captured_in p)) (verdict_from k (bench_from (start_of ps m) (captured_in p)) (captured_in q))) (zero-add (length p / 6)))
