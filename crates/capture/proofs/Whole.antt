-- The program writes `written_for` of its input: the verdict on all of it, whichever pieces it was checked in, and however much of it was read.
-- Assumes nothing.
use Prim.Native.Nat.{ℕ, ◌+◌, ◌/◌, ◌<◌, ◌≤◌}
use native.Mathlib.Omega.{arith}
use mathlib.Core.Path.{◌≡◌, refl, sym, ◌∙◌, ap, ap₂}
use mathlib.Core.Bool.{true, false, cond, ◌&&◌}
use mathlib.Core.List.{List, [], ◌∷◌, ◌++◌, append-nil}
use borrow.Author.Tests.{lt-ltb, le-ltb, ltb-true, ltb-false, eq-eqb}
use lib.Dec.{eqb, ltb}
use lib.ListN.{length, take, drop, length-append}
use lib.Seq.{length-take-le, take_all, take_at, drop_at, drop-drop}
use Rattle.std.specs.List.{list_all}
use Rattle.proof_lists.specs.Tests.{by-test}
use Rattle.rules.specs.declared.Bus.{Bus}
use Rattle.rules.specs.Modelled.{memory_bytes}
use Rattle.rules.specs.Refusals.{wrong_length, good_pair, setup_of}
use Rattle.rules.specs.Runs.{Bench}
use Rattle.script_text.specs.Records.{pairs_of}
use Rattle.script_text.proofs.records.Laws.{pairs-of}
use Rattle.bus_bench.specs.Beginning.{begun as opened}
use Rattle.script_turns.specs.Frame.{cut_setup, first_line, goes_on, begin_of}
use Rattle.script_turns.specs.Program.{followed}
use Rattle.script_turns.proofs.frame.Onward.{first-none}
use Rattle.script_turns.proofs.frame.Laws.{first-length, written}
use Rattle.capture_rules.specs.declared.Verdict.{Verdict}
use Rattle.capture_rules.specs.declared.Verdict.TheVariants.{Accepted, Differs, Short, Refused}
use Rattle.capture_rules.specs.Capture.{captured_in, left_over, verdict_from, bench_from, closed, start_of, verdict_of}
use Rattle.capture_rules.specs.Agreement.{is_accepted, onward}
use Rattle.capture_rules.proofs.First.{decided}
use Rattle.capture_rules.proofs.Pieces.{left-pieces, verdict-pieces}
use Rattle.capture_pieces.specs.Line.{verdict_line}
use Rattle.capture_pieces.specs.Piece.{piece_of}
use Rattle.capture.specs.Asked.{written_for}
use Rattle.capture.specs.Program.{Going, piece_bytes, step_of, steps_of, begun, served_with, Ended, Served, serve_writes, Wrote, capture_writes, InPieces, joined}
use Rattle.capture.proofs.Onward.{steps_on, steps-off}

-- bytes without a cut record
closed_none : (v : Verdict) → closed 0 v ≡ v
unfolding closed
closed_none Accepted = refl
closed_none (Differs k a s) = refl
closed_none Short = refl
closed_none (Refused r) = refl

-- a full piece has whole records
whole : (r : List ℕ) → length r ≡ piece_bytes → left_over r ≡ 0
unfolding left_over
whole r e = rw e

-- the bench that a check stands at
abbrev bench_of : Going → List ℕ → Bench
bench_of g m = record { bus = g.bus; memory = m }

-- FROM ANY PIECE ON, the verdict is the one on all that comes
pub steps-verdict : (g : Going) (m : List ℕ) (rs : List (List ℕ)) → g.on ≡ true → InPieces rs
    → (steps_of g m rs).0.verdict ≡ closed (left_over (joined rs)) (verdict_from g.number (bench_of g m) (captured_in (joined rs)))
unfolding InPieces joined steps_of step_of piece_of is_accepted onward closed
steps-verdict g m [] o p = absurd p
steps-verdict g m (r ∷ []) o p = ap (λ (z : Going × List ℕ). z.0.verdict) (steps_on g m r [] o) ∙ rw (append-nil r)
steps-verdict g m (r ∷ s ∷ rs) o p =
    let x : Bench = bench_of g m in
    let q : List ℕ = joined (s ∷ rs) in
    let l : left_over r ≡ 0 = whole r p.0 in
    let k : closed (left_over r) (verdict_from g.number x (captured_in r)) ≡ verdict_from g.number x (captured_in r) =
    ap (λ i. closed i (verdict_from g.number x (captured_in r))) l ∙ closed_none (verdict_from g.number x (captured_in r)) in
    let h = ap (λ (z : Going × List ℕ). z.0.verdict) (steps_on g m r (s ∷ rs) o) in
    decided g.number x (captured_in r)
    (λ a.
    let t : (step_of g m r).0.on ≡ true = ap (λ v. is_accepted v && eqb (length r) piece_bytes) (k ∙ a) ∙ eq-eqb (length r) piece_bytes p.0 in
    h ∙ steps-verdict (step_of g m r).0 (step_of g m r).1 (s ∷ rs) t p.1
    ∙ sym (ap₂ closed (left-pieces r q l) (verdict-pieces r q l g.number x ∙ ap (λ v. onward v (verdict_from (g.number + length r / 6) (bench_from x (captured_in r)) (captured_in q))) a)))
    (λ j b c a.
    let t : (step_of g m r).0.on ≡ false = ap (λ v. is_accepted v && eqb (length r) piece_bytes) (k ∙ a) in
    h ∙ ap (λ (z : Going × List ℕ). z.0.verdict) (steps-off (step_of g m r).0 (step_of g m r).1 (s ∷ rs) t)
    ∙ k ∙ a
    ∙ sym (ap (closed (left_over (r ++ q))) (verdict-pieces r q l g.number x ∙ ap (λ v. onward v (verdict_from (g.number + length r / 6) (bench_from x (captured_in r)) (captured_in q))) a)))

-- what is written is the first line, and where it goes on what follows
writes-by : (head m out : List ℕ) (rs : List (List ℕ)) → 6 ≤ length out
    → capture_writes head m rs out ≡ first_line head ++ cond (goes_on head) (serve_writes (setup_of (pairs_of head)).bus m rs) []
unfolding capture_writes begin_of followed opened
writes-by head m out rs room =
    by-test (goes_on head)
    (λ g. rw (g, first-none head g))
    (λ g. rw g (written out (first_line head) (omega (arith, first-length head)) ∙ sym (append-nil (first_line head))))

-- AN INPUT THAT ENDS IN THE SETUP
pub writes-cut-setup : (head m out : List ℕ) (rs : List (List ℕ)) → length head < 16 → 6 ≤ length out → capture_writes head m rs out ≡ written_for head
unfolding first_line goes_on cut_setup written_for
writes-cut-setup head m out rs l room = writes-by head m out rs room ∙ rw (lt-ltb (length head) 16 l)

-- AN INPUT THAT ENDS IN THE MEMORY
pub writes-cut : (head m out : List ℕ) (rs : List (List ℕ)) → length head ≡ 16 → length m < 4096 → 6 ≤ length out
    → capture_writes head m rs out ≡ written_for (head ++ m)
unfolding first_line goes_on cut_setup written_for serve_writes served_with verdict_line
writes-cut head m out rs l c room =
    let n : length (head ++ m) ≡ 16 + length m = length-append head m ∙ rw l in
    let a : ltb (length (head ++ m)) 16 ≡ false = le-ltb (length (head ++ m)) 16 (omega arith) in
    let b : ltb (length (head ++ m)) 4112 ≡ true = lt-ltb (length (head ++ m)) 4112 (omega arith) in
    let d : ltb (length head) 16 ≡ false = le-ltb (length head) 16 (omega arith) in
    by-test (list_all good_pair (pairs_of head))
    (λ g. writes-by head m out rs room ∙ rw (pairs-of head m l, a, b, d, g, lt-ltb (length m) 4096 c))
    (λ g. writes-by head m out rs room ∙ rw (pairs-of head m l, a, b, d, g))

-- ANY OTHER: setup and memory are whole, and what is written is `written_for` of it all
pub writes-whole : (head m out : List ℕ) (rs : List (List ℕ)) → length head ≡ 16 → length m ≡ 4096 → InPieces rs → 6 ≤ length out
    → capture_writes head m rs out ≡ written_for (head ++ (m ++ joined rs))
unfolding first_line goes_on cut_setup written_for serve_writes served_with verdict_of wrong_length start_of
writes-whole head m out rs lh lm p room =
    let more : List ℕ = joined rs in
    let bs : List ℕ = head ++ (m ++ more) in
    let n : length bs ≡ 4112 + length more = length-append head (m ++ more) ∙ rw (length-append m more, lh, lm) (omega arith) in
    let a : ltb (length bs) 16 ≡ false = le-ltb (length bs) 16 (omega arith) in
    let b : ltb (length bs) 4112 ≡ false = le-ltb (length bs) 4112 (omega arith) in
    let d : ltb (length head) 16 ≡ false = le-ltb (length head) 16 (omega arith) in
    let c : ltb (length m) 4096 ≡ false = le-ltb (length m) 4096 (omega arith) in
    let q : pairs_of bs ≡ pairs_of head = pairs-of head (m ++ more) lh in
    let d₁ : drop 16 bs ≡ m ++ more = drop_at head (m ++ more) 16 lh in
    let d₂ : drop 4112 bs ≡ more = sym (drop-drop 4096 16 bs) ∙ ap (drop 4096) d₁ ∙ drop_at m more 4096 lm in
    let t : take 4096 (drop 16 bs) ≡ m = ap (take 4096) d₁ ∙ take_at m more 4096 lm in
    by-test (list_all good_pair (pairs_of head))
    (λ g. writes-by head m out rs room
    ∙ rw (a, b, d, c, q, g, d₂, t, eq-eqb (length m) memory_bytes lm) (ap verdict_line (steps-verdict (begun (setup_of (pairs_of head)).bus) m rs refl p)))
    (λ g. writes-by head m out rs room ∙ rw (a, b, d, q, g))

-- WHAT THE CODE DOES BEHIND THE SETUP (`serve` and its contract): of the bytes that came as memory, and of some pieces, this is written
pub served : (b : Bus) (out o : List ℕ) (end : ℕ) (s : Served b out end o) → end ≤ length out → Wrote b (take s.came s.memory) (take end o)
unfolding serve_writes served_with steps_of
served b out o end s room =
    let v : Verdict = served_with s.came s.verdict in
    let w : take end o ≡ verdict_line v =
    ap₂ take s.put.0 s.put.1 ∙ written out (verdict_line v) (omega (arith, s.put.0, room)) in
    by-test (ltb s.came 4096)
    (λ c.
    let l : length (take s.came s.memory) ≡ s.came = length-take-le s.came s.memory (omega (arith, ltb-true s.came 4096 c, s.size)) in
    record { pieces = []; wrote = w ∙ rw (l, c) })
    (λ c.
    let h : 4096 ≤ s.came = ltb-false s.came 4096 c in
    let u : take s.came s.memory ≡ s.memory = take_all s.came s.memory (omega (arith, h, s.size)) in
    let e : Ended b s.memory s.verdict = s.ended h in
    record {
      pieces = e.reached.pieces;
      wrote = w ∙ rw (c, u, le-ltb (length s.memory) 4096 (omega (arith, s.size))) (ap verdict_line (e.verdict ∙ sym (ap (λ (z : Going × List ℕ). z.0.verdict) e.reached.steps)));
    })
