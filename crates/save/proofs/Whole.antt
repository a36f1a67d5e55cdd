-- The program writes `written_for` of its input, in whatever reads that comes.
-- Assumes nothing.
use mathlib.Core.Path.{◌≡◌, refl, sym, ◌∙◌, ap, ap₂}
use mathlib.Core.Bool.{true, false, cond}
use mathlib.Core.List.{List, [], ◌++◌}
use Prim.Native.Nat.{ℕ, ◌%◌, ◌<◌, ◌≤◌}
use native.Mathlib.Omega.{arith}
use borrow.Author.Tests.{lt-ltb, le-ltb, eq-eqb}
use lib.Dec.{eqb, ltb}
use lib.ListN.{length, drop, length-append, length-replicate}
use lib.Seq.{sets, take-append_seam, drop_at}
use Rattle.std.specs.Prelude.{Err}
use Rattle.std.specs.List.{list_all}
use Rattle.proof_lists.specs.Tests.{by-test}
use Rattle.std.proofs.Common.{Result}
use Rattle.rules.specs.declared.Bus.{Bus}
use Rattle.rules.specs.declared.Refusal.TheVariants.{Busy}
use Rattle.rules.specs.Events.{letter_of, refusal_number}
use Rattle.rules.specs.Modelled.{memory_bytes}
use Rattle.rules.specs.Refusals.{wrong_length, in_range, good_pair}
use Rattle.rules.specs.Runs.{Bench}
use Rattle.rules.proofs.Range.Kept.{setup-in-range}
use Rattle.script_text.specs.Records.{pairs_of}
use Rattle.script_text.proofs.records.Laws.{pairs-of}
use Rattle.script_text.specs.Decimal.{digit, decimal_in, decimal}
use Rattle.script_text.specs.Letters.{digits_of, line_of, short_line}
use Rattle.bus_bench.specs.Beginning.{begun as opened}
use Rattle.script_turns.specs.Frame.{starting_memory, cut_setup, first_line, goes_on, begin_of}
use Rattle.script_turns.proofs.frame.Onward.{first-none}
use Rattle.script_turns.proofs.frame.Laws.{first-length, written}
use Rattle.script_turns.specs.Script.{records_in, bench_to, begun_at}
use Rattle.script_turns.specs.Program.{Read, input_of}
use Rattle.script_turns.proofs.turns.Onward.{bench-in-range, bench-length}
use Rattle.script_streams.specs.Reading.{Ran, begun}
use Rattle.script_streams.proofs.reading.Whole.{turns-left}
use Rattle.save_rules.specs.Form.{form_of}
use Rattle.save_rules.specs.Saving.{all_quiet, save_of}
use Rattle.save_rules.proofs.Back.{saves-form}
use Rattle.save_rules.proofs.Places.{length-form_of, length_most}
use Rattle.script_streams.specs.Written.{on_output, on_errors}
use Rattle.save.specs.Asked.{longest_form, busy_line, bench_text, end_text, saved_answer, answer_of, answer_to, written_for}
use Rattle.save.specs.Program.{Served, fronted, serve_writes, followed, save_writes}

-- a bench in range with its whole memory: it is saved, or refused with 8
saved-busy : (b : Bus) (m out : List ℕ) → length m ≡ memory_bytes → in_range b ≡ true → all_quiet b ≡ false → save_of b m out ≡ (Err Busy, out)
unfolding save_of wrong_length
saved-busy b m out l r q = rw (eq-eqb (length m) memory_bytes l, r, q)

-- so the answer is what is said of the input's end
pub answer-text : (x : Bench) (left : ℕ) (out : List ℕ) → in_range x.bus ≡ true → length x.memory ≡ memory_bytes → length out ≡ longest_form
    → fronted (answer_of x left out).0 (answer_of x left out).1 ≡ end_text x left
unfolding answer_of end_text bench_text fronted saved_answer line_of digits_of letter_of refusal_number decimal decimal_in digit
answer-text x left out r l room =
    let form : List ℕ = form_of x.bus x.memory in
    by-test (eqb left 0)
    (λ z. by-test (all_quiet x.bus)
    (λ q. rw (z, q, saves-form x.bus x.memory out l r q (omega (arith, length-form_of x.bus x.memory l, length_most x.bus.slots))) (ap on_output (take-append_seam form (drop (length form) out))))
    (λ q. rw (z, q, saved-busy x.bus x.memory out l r q) (ap on_errors (written out busy_line (omega arith)))))
    (λ z. rw z (ap on_errors (written out short_line (omega arith))))

-- what is written after a good setup and the records
serve-ends : (x : Bench) (buf lines out : List ℕ) (rs : List Read) → in_range x.bus ≡ true → length x.memory ≡ memory_bytes → length out ≡ longest_form
    → serve_writes x rs buf lines out ≡ end_text (bench_to x (input_of rs) (records_in (input_of rs))) (length (input_of rs) % 4)
unfolding serve_writes
serve-ends x buf lines out rs r l room =
    let t = turns-left (begun x buf lines) [] rs refl (omega arith) refl in
    let more : List ℕ = input_of rs in
    let n : ℕ = records_in more in
    ap₂ (λ (z : Bench) (i : ℕ). fronted (answer_of z i out).0 (answer_of z i out).1) t.0 t.1
    ∙ answer-text (bench_to x more n) (length more % 4) out (bench-in-range x more n r) (bench-length x more n ∙ l) room

-- what is written is the first line, or where it goes on what follows
writes-by : (head buf lines out : List ℕ) (rs : List Read) → 6 ≤ length out
    → save_writes head rs buf lines out
    ≡ cond (goes_on head) (serve_writes (begun_at (pairs_of head)) rs buf lines (sets out 0 (first_line head))) (on_errors (first_line head))
unfolding save_writes begin_of followed begun_at starting_memory opened
writes-by head buf lines out rs room =
    by-test (goes_on head)
    (λ g. rw (g, first-none head g))
    (λ g. rw g (ap on_errors (written out (first_line head) (omega (arith, first-length head)))))

-- AN INPUT THAT ENDS IN THE SETUP
pub writes-cut : (head buf lines out : List ℕ) (rs : List Read) → length head < 16 → 6 ≤ length out → save_writes head rs buf lines out ≡ written_for head
unfolding first_line goes_on cut_setup written_for
writes-cut head buf lines out rs l room = writes-by head buf lines out rs room ∙ rw (lt-ltb (length head) 16 l)

-- ANY OTHER: the setup is whole, the records come in reads of any sizes, and what is written, and where, is `written_for` of it all
pub writes-whole : (head buf lines out : List ℕ) (rs : List Read) → length head ≡ 16 → length out ≡ longest_form
    → save_writes head rs buf lines out ≡ written_for (head ++ input_of rs)
unfolding first_line goes_on cut_setup written_for answer_to begun_at starting_memory
writes-whole head buf lines out rs l room =
    let more : List ℕ = input_of rs in
    let bs : List ℕ = head ++ more in
    let a : ltb (length bs) 16 ≡ false = le-ltb (length bs) 16 (rw (length-append head more) (omega arith)) in
    let d : ltb (length head) 16 ≡ false = le-ltb (length head) 16 (omega arith) in
    let p : pairs_of bs ≡ pairs_of head = pairs-of head more l in
    let e : drop 16 bs ≡ more = drop_at head more 16 l in
    by-test (list_all good_pair (pairs_of head))
    (λ g. writes-by head buf lines out rs (omega arith)
    ∙ rw (a, d, p, g, e) (serve-ends (begun_at (pairs_of head)) buf lines out rs (setup-in-range (pairs_of head)) (length-replicate {A = ℕ} memory_bytes 0xFF) room))
    (λ g. writes-by head buf lines out rs (omega arith) ∙ rw (a, d, p, g))

-- WHAT THE CODE DOES BEHIND THE SETUP (`serve` and its contract): of some reads, this is written
pub served : (x : Bench) (out o : List ℕ) (r : Result ℕ ℕ) (s : Served x out r o)
    → fronted r o ≡ serve_writes x s.ended.reached.reads s.ended.buf s.lines out
unfolding serve_writes
served x out o r s =
    sym
    (ap (λ (z : Ran). fronted (answer_of z.bench z.held out).0 (answer_of z.bench z.held out).1) s.ended.reached.turned
    ∙ ap (λ (i : ℕ). fronted (answer_of s.bench i out).0 (answer_of s.bench i out).1) (sym s.ended.told)
    ∙ ap (λ (z : Result ℕ ℕ × List ℕ). fronted z.0 z.1) s.answered)
