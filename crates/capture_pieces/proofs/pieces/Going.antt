-- The state of a check after k records that agree, one record more, and its end.
-- Assumes nothing.
use Prim.Native.Nat.{ℕ, zero, suc, ◌+◌, ◌-◌, ◌*◌, ◌/◌, ◌<◌}
use native.Mathlib.Nat.{add-zero, add-suc}
use native.Mathlib.Numerals.{add-one}
use native.Mathlib.Omega.{arith}
use mathlib.Core.Path.{◌≡◌, refl, sym, ◌∙◌, ap, ap₂}
use mathlib.Core.Bool.{true, false}
use mathlib.Core.List.{List, [], ◌∷◌}
use lib.ListN.{length, get_or, take, drop}
use Rattle.std.proofs.lemmas.List.{get_or-take, get_or-drop}
use Rattle.rules.specs.declared.Answer.{Answer}
use Rattle.rules.specs.declared.Bus.{Bus}
use Rattle.rules.specs.declared.Event.{Event}
use Rattle.rules.specs.declared.Outcome.{Outcome}
use Rattle.rules.specs.Modelled.{memory_bytes}
use Rattle.rules.specs.Refusals.{in_range}
use Rattle.rules.specs.Runs.{Bench, next, answered, event_of}
use Rattle.rules.proofs.Range.Kept.{next-in-range}
use Rattle.rules.proofs.Memory.Stored.{memory-length-next}
use Rattle.script_text.specs.Records.{record_at}
use Rattle.capture_rules.specs.declared.Seen.{Seen}
use Rattle.capture_rules.specs.declared.Verdict.TheVariants.{Accepted, Differs}
use Rattle.capture_rules.specs.Capture.{Captured, captured_at, captured_to, captured_in, agrees, verdict_from, bench_from}
use Rattle.capture_rules.specs.Agreement.{onward}
use Rattle.bus_event.proofs.Onward.{event-bench, event-answer}
use Rattle.capture_rules.proofs.Cut.{verdict-cut, bench-cut, bench-ended}
use Rattle.capture_rules.proofs.Pieces.{captured-length}
use Rattle.capture_pieces.specs.Piece.{piece_of}

-- a record by itself is the one that stands at a place
pub captured-record : (bs r : List ℕ) (at : ℕ) → r ≡ take 6 (drop at bs) → captured_at r 0 ≡ captured_at bs at
unfolding captured_at record_at
captured-record bs r at e =
    rw (e, byte 0 (omega arith), byte 1 (omega arith), byte 2 (omega arith), byte 3 (omega arith), byte 4 (omega arith), byte 5 (omega arith), add-zero)
  where
    byte : (i : ℕ) → i < 6 → get_or (take 6 (drop at bs)) i 0 ≡ get_or bs (at + i) 0
    byte i h = get_or-take 6 (drop at bs) i 0 h ∙ get_or-drop at bs i 0

-- bus b and memory m, after k records of bs that agree, from the bench x, where n records went before
pub record Going (x : Bench) (n : ℕ) (bs : List ℕ) (k : ℕ) (b : Bus) (m : List ℕ) : Type 0 where
  pub ranged : in_range b ≡ true
  pub sized : length m ≡ memory_bytes
  pub bench : record { bus = b; memory = m } ≡ bench_from x (captured_to bs k)
  pub agreed : verdict_from n x (captured_to bs k) ≡ Accepted

pub going-none : (b : Bus) (m : List ℕ) (n : ℕ) (bs : List ℕ) → in_range b ≡ true → length m ≡ memory_bytes → Going (record { bus = b; memory = m }) n bs 0 b m
unfolding captured_to bench_from verdict_from
going-none b m n bs r s = record { ranged = r; sized = s; bench = refl; agreed = refl }

module _ (x : Bench) (n : ℕ) (bs : List ℕ) where
  -- a record that differs stays the first one, whatever follows it
  stays : (j d k : ℕ) (a : Answer) (s : Seen) → verdict_from n x (captured_to bs j) ≡ Differs k a s
      → (verdict_from n x (captured_to bs (j + d)) ≡ Differs k a s) × (bench_from x (captured_to bs (j + d)) ≡ bench_from x (captured_to bs j))
  unfolding captured_to onward
  stays j zero k a s h = rw add-zero (h, refl)
  stays j (suc d) k a s h =
      let r : (verdict_from n x (captured_to bs (j + d)) ≡ Differs k a s) × (bench_from x (captured_to bs (j + d)) ≡ bench_from x (captured_to bs j)) = stays j d k a s h in
      let c : List Captured = captured_at bs (6 * (j + d)) ∷ [] in
      rw add-suc (
        verdict-cut n x (captured_to bs (j + d)) c ∙ rw r.0,
        bench-ended n x (captured_to bs (j + d)) c k a s r.0 ∙ r.1,
      )

  module _ (k : ℕ) (b : Bus) (m : List ℕ) (g : Going x n bs k b m) where
    -- one record more is one from here
    abbrev here : Bench
    here = record { bus = b; memory = m }

    verdict-next : verdict_from n x (captured_to bs (k + 1)) ≡ verdict_from (n + k) here (captured_at bs (6 * k) ∷ [])
    unfolding captured_to onward
    verdict-next =
        ap (λ j. verdict_from n x (captured_to bs j)) (add-one k) ∙ verdict-cut n x (captured_to bs k) (captured_at bs (6 * k) ∷ [])
        ∙ rw (g.agreed, captured-length bs k, ← g.bench)

    bench-next : bench_from x (captured_to bs (k + 1)) ≡ bench_from here (captured_at bs (6 * k) ∷ [])
    unfolding captured_to
    bench-next =
        ap (λ j. bench_from x (captured_to bs j)) (add-one k) ∙ bench-cut n x (captured_to bs k) (captured_at bs (6 * k) ∷ []) g.agreed
        ∙ rw (← g.bench)

    module _ (e : Event) (f : e ≡ record_at bs (6 * k)) (s : Seen) (t : s ≡ (captured_at bs (6 * k)).seen) (y : Outcome) (q : List ℕ) (p : event_of b m e ≡ (y, q)) where
      answer-here : y.answer ≡ answered (record_at bs (6 * k)) here
      answer-here = event-answer b m e y q p ∙ ap (λ z. answered z here) f

      bench-here : record { bus = y.bus; memory = q } ≡ next (record_at bs (6 * k)) here
      bench-here = event-bench b m e y q p ∙ ap (λ z. next z here) f

      pub going_on : agrees y.answer s ≡ true → Going x n bs (k + 1) y.bus q
      unfolding verdict_from bench_from captured_at
      going_on h =
          let v : agrees (answered (record_at bs (6 * k)) here) (captured_at bs (6 * k)).seen ≡ true = sym (ap₂ agrees answer-here t) ∙ h in
          record {
            ranged = ap (λ (z : Bench). in_range z.bus) bench-here ∙ next-in-range (record_at bs (6 * k)) here g.ranged;
            sized = ap (λ (z : Bench). length z.memory) bench-here ∙ memory-length-next (record_at bs (6 * k)) here ∙ g.sized;
            bench = bench-here ∙ sym (bench-next ∙ rw v);
            agreed = verdict-next ∙ rw v;
          }

      -- or it differs
      pub going-differs : agrees y.answer s ≡ false → k < length bs / 6
          → piece_of x.bus x.memory n bs ≡ (record { bus = y.bus; verdict = Differs (n + k) y.answer s }, q)
      unfolding verdict_from bench_from captured_at piece_of captured_in
      going-differs h l =
          let v : agrees (answered (record_at bs (6 * k)) here) (captured_at bs (6 * k)).seen ≡ false = sym (ap₂ agrees answer-here t) ∙ h in
          let d : verdict_from n x (captured_to bs (k + 1)) ≡ Differs (n + k) y.answer s = verdict-next ∙ rw (v, ← answer-here, ← t) in
          let z : bench_from x (captured_to bs (k + 1)) ≡ record { bus = y.bus; memory = q } = bench-next ∙ rw v (sym bench-here) in
          let j : k + 1 + (length bs / 6 - (k + 1)) ≡ length bs / 6 = omega (arith, l) in
          let r : (verdict_from n x (captured_to bs (length bs / 6)) ≡ Differs (n + k) y.answer s) × (bench_from x (captured_to bs (length bs / 6)) ≡ bench_from x (captured_to bs (k + 1))) =
          rw j at (stays (k + 1) (length bs / 6 - (k + 1)) (n + k) y.answer s d) in
          let w : bench_from x (captured_to bs (length bs / 6)) ≡ record { bus = y.bus; memory = q } = r.1 ∙ z in
          λ i. (record { bus = (w i).bus; verdict = r.0 i }, (w i).memory)

    -- after the last whole record
    pub going-ended : k ≡ length bs / 6 → piece_of x.bus x.memory n bs ≡ (record { bus = b; verdict = Accepted }, m)
    unfolding piece_of captured_in
    going-ended e =
        let p : bench_from x (captured_to bs (length bs / 6)) ≡ here = ap (λ j. bench_from x (captured_to bs j)) (sym e) ∙ sym g.bench in
        let v : verdict_from n x (captured_to bs (length bs / 6)) ≡ Accepted = ap (λ j. verdict_from n x (captured_to bs j)) (sym e) ∙ g.agreed in
        λ i. (record { bus = (p i).bus; verdict = v i }, (p i).memory)
