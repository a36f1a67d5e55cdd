-- Accepted exactly if the run's answers are the captured ones and none is a refusal; otherwise the first record that differs is named, and no
-- other could be.
-- Assumes nothing.
use Prim.Native.Nat.{ℕ, suc, ◌+◌}
use native.Mathlib.Nat.{add-zero}
use native.Mathlib.Omega.{arith}
use mathlib.Core.Path.{◌≡◌, refl, sym, ◌∙◌, ap, ap₂}
use mathlib.Core.Bool.{true, false, false≢true}
use mathlib.Core.List.{List, [], ◌∷◌, head-eq_of_cons-eq, tail-eq_of_cons-eq}
use lib.ListN.{length}
use Rattle.proof_lists.specs.Tests.{by-test}
use Rattle.rules.specs.declared.Answer.{Answer}
use Rattle.rules.specs.Runs.{Bench, next, answered, after, answers}
use Rattle.capture_rules.specs.declared.Seen.{Seen}
use Rattle.capture_rules.specs.declared.Verdict.TheVariants.{Accepted, Differs}
use Rattle.capture_rules.specs.Capture.{Captured, agrees, verdict_from, bench_from}
use Rattle.capture_rules.specs.Agreement.{events_of, as_seen, meant, is_refusal, Alike, First, record_of, model_of, seen_of, onward}
use Rattle.capture_rules.proofs.Cut.{not-accepted, verdict-cut, bench-cut}
use Rattle.capture_rules.proofs.Answer.{agree-to, agree-from}

-- one record in front
alike-cons : (x : Bench) (c : Captured) (cs : List Captured) → agrees (answered c.event x) c.seen ≡ true → Alike (next c.event x) cs → Alike x (c ∷ cs)
unfolding events_of answers
alike-cons x c cs e r =
    let t : (is_refusal (answered c.event x) ≡ false) × (as_seen (answered c.event x) ≡ meant c.seen) = agree-to (answered c.event x) c.seen e in
    record { same = ap₂ ◌∷◌ t.1 r.same; taken = (t.0, r.taken) }

first-agrees : (x : Bench) (c : Captured) (cs : List Captured) → Alike x (c ∷ cs) → agrees (answered c.event x) c.seen ≡ true
unfolding events_of answers
first-agrees x c cs r = agree-from (answered c.event x) c.seen r.taken.0 (head-eq_of_cons-eq r.same)

alike-rest : (x : Bench) (c : Captured) (cs : List Captured) → Alike x (c ∷ cs) → Alike (next c.event x) cs
unfolding events_of answers
alike-rest x c cs r = record { same = tail-eq_of_cons-eq r.same; taken = r.taken.1 }

-- "accepted exactly if the answers of the run are the captured ones, one by one, and none is a refusal"
pub accepted-to : (n : ℕ) (x : Bench) (cs : List Captured) → verdict_from n x cs ≡ Accepted → Alike x cs
unfolding verdict_from events_of answers
accepted-to n x [] h = record { same = refl; taken = tt }
accepted-to n x (c ∷ cs) h =
    by-test (agrees (answered c.event x) c.seen) (λ e. alike-cons x c cs e (accepted-to (suc n) (next c.event x) cs (rw e at h)))
    (λ e. absurd (not-accepted (rw e at h)))

pub accepted-from : (n : ℕ) (x : Bench) (cs : List Captured) → Alike x cs → verdict_from n x cs ≡ Accepted
unfolding verdict_from
accepted-from n x [] r = refl
accepted-from n x (c ∷ cs) r = rw (first-agrees x c cs r) (accepted-from (suc n) (next c.event x) cs (alike-rest x c cs r))

-- the bench is then the one after the run
pub bench-after : (x : Bench) (cs : List Captured) → Alike x cs → bench_from x cs ≡ after (events_of cs) x
unfolding bench_from events_of after
bench-after x [] r = refl
bench-after x (c ∷ cs) r = rw (first-agrees x c cs r) (bench-after (next c.event x) cs (alike-rest x c cs r))

-- a record that differs at once
at_once : (n : ℕ) (x : Bench) (c : Captured) (cs : List Captured) (k : ℕ) (a : Answer) (s : Seen) → agrees (answered c.event x) c.seen ≡ false
    → Differs n (answered c.event x) c.seen ≡ Differs k a s → First n x (c ∷ cs) k a s
unfolding record_of model_of seen_of events_of after answers
at_once n x c cs k a s e h =
    let f : a ≡ answered c.event x = sym (ap model_of h) in
    let g : s ≡ c.seen = sym (ap seen_of h) in
    record {
      before = [];
      here = c;
      behind = cs;
      parts = refl;
      number = sym (ap record_of h) ∙ sym (add-zero n);
      alike = record { same = refl; taken = tt };
      model = f;
      captured = g;
      differs = λ p. false≢true (sym e ∙ ap₂ agrees (sym f) (sym g) ∙ agree-from a s p.0 p.1);
    }

-- "otherwise every record before the named one agrees and that one does not"
pub differs-to : (n : ℕ) (x : Bench) (cs : List Captured) (k : ℕ) (a : Answer) (s : Seen) → verdict_from n x cs ≡ Differs k a s → First n x cs k a s
unfolding verdict_from events_of after
differs-to n x [] k a s h = absurd (not-accepted (sym h))
differs-to n x (c ∷ cs) k a s h =
    by-test (agrees (answered c.event x) c.seen)
    (λ e.
    let r : First (suc n) (next c.event x) cs k a s = differs-to (suc n) (next c.event x) cs k a s (rw e at h) in
    record {
      before = c ∷ r.before;
      here = r.here;
      behind = r.behind;
      parts = ap (c ∷◌) r.parts;
      number = r.number ∙ omega arith;
      alike = alike-cons x c r.before e r.alike;
      model = r.model;
      captured = r.captured;
      differs = r.differs;
    })
    (λ e. at_once n x c cs k a s e (rw e at h))

-- the named record does not agree
at_named : (n : ℕ) (x : Bench) (cs : List Captured) (k : ℕ) (a : Answer) (s : Seen) (r : First n x cs k a s)
    → agrees (answered r.here.event (after (events_of r.before) x)) r.here.seen ≡ false
at_named n x cs k a s r =
    by-test (agrees (answered r.here.event (after (events_of r.before) x)) r.here.seen)
    (λ t. absurd (r.differs (agree-to a s (ap₂ agrees r.model r.captured ∙ t)))) (λ t. t)

pub differs-from : (n : ℕ) (x : Bench) (cs : List Captured) (k : ℕ) (a : Answer) (s : Seen) → First n x cs k a s → verdict_from n x cs ≡ Differs k a s
unfolding verdict_from onward
differs-from n x cs k a s r =
    let c : Captured = r.here in
    let e = at_named n x cs k a s r in
    ap (verdict_from n x) r.parts ∙ verdict-cut n x r.before (c ∷ r.behind)
    ∙ ap₂ (λ v z. onward v (verdict_from (n + length r.before) z (c ∷ r.behind))) (accepted-from n x r.before r.alike) (bench-after x r.before r.alike)
    ∙ rw (e, ← r.number, ← r.model, ← r.captured)

-- the check has then run the records before it, and that one
pub bench-named : (n : ℕ) (x : Bench) (cs : List Captured) (k : ℕ) (a : Answer) (s : Seen) (r : First n x cs k a s)
    → bench_from x cs ≡ next r.here.event (after (events_of r.before) x)
unfolding bench_from
bench-named n x cs k a s r =
    ap (bench_from x) r.parts ∙ bench-cut n x r.before (r.here ∷ r.behind) (accepted-from n x r.before r.alike)
    ∙ ap (λ (z : Bench). bench_from z (r.here ∷ r.behind)) (bench-after x r.before r.alike) ∙ rw (at_named n x cs k a s r)

-- "so no other number could be named", and neither another answer
pub first-only : (n : ℕ) (x : Bench) (cs : List Captured) (k j : ℕ) (a b : Answer) (s t : Seen) → First n x cs k a s → First n x cs j b t
    → (k ≡ j) × (a ≡ b) × (s ≡ t)
unfolding record_of model_of seen_of
first-only n x cs k j a b s t p q =
    let e : Differs k a s ≡ Differs j b t = sym (differs-from n x cs k a s p) ∙ differs-from n x cs j b t q in
    (ap record_of e, ap model_of e, ap seen_of e)

-- one of the two always holds
pub decided {ℓ} : {P : Type ℓ} (n : ℕ) (x : Bench) (cs : List Captured) → (verdict_from n x cs ≡ Accepted → P)
    → ((k : ℕ) (a : Answer) (s : Seen) → verdict_from n x cs ≡ Differs k a s → P) → P
unfolding verdict_from
decided n x [] f g = f refl
decided n x (c ∷ cs) f g =
    by-test (agrees (answered c.event x) c.seen)
    (λ e. decided (suc n) (next c.event x) cs (λ h. f (rw e h)) (λ k a s h. g k a s (rw e h)))
    (λ e. g n (answered c.event x) c.seen (rw e))
