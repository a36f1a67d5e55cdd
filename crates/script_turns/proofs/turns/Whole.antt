-- The program writes `script_of` of its input, in whatever reads that comes.
-- Assumes nothing.
use mathlib.Core.Path.{◌≡◌, refl, sym, ◌∙◌, ap, ap₂}
use mathlib.Core.Bool.{false, cond}
use mathlib.Core.List.{List, [], ◌∷◌, ◌++◌, append-nil, append_assoc}
use Prim.Native.Nat.{ℕ, ◌+◌, ◌/◌, ◌%◌, ◌<◌, ◌≤◌}
use native.Mathlib.Nat.{add-zero}
use native.Mathlib.Omega.{arith}
use borrow.Author.Tests.{lt-ltb, le-ltb}
use lib.Dec.{ltb}
use lib.ListN.{length, take, drop, length-append}
use lib.Seq.{sets, length-sets, take-append_seam, take-append-add, drop-append-add}
use Rattle.std.specs.List.{list_all}
use Rattle.proof_lists.specs.Tests.{by-test}
use Rattle.rules.specs.declared.Pair.{Pair}
use Rattle.rules.specs.Refusals.{good_pair}
use Rattle.rules.specs.Runs.{Bench}
use Rattle.bus_bench.specs.Beginning.{begun}
use Rattle.script_turns.specs.declared.turns.Turned.{Turned}
use Rattle.script_text.specs.Records.{pairs_of}
use Rattle.script_text.proofs.records.Laws.{pairs-of}
use Rattle.script_turns.specs.Script.{records_in, left_of, bench_to, lines_to, ending, begun_at, script_of}
use Rattle.script_turns.specs.Frame.{bad_setup_line, starting_memory, cut_setup, first_line, goes_on, begin_of, last_line, finish_of}
use Rattle.script_turns.specs.Steps.{run_of, turn_of}
use Rattle.script_turns.specs.Program.{Read, read_into, input_of, Fits, turns_write, followed, program_writes}
use Rattle.script_turns.proofs.turns.Laws.{lines-length, left-length}
use Rattle.script_turns.proofs.frame.Laws.{first-length, last-length, written}
use Rattle.script_turns.proofs.frame.Onward.{first-none}
use Rattle.script_turns.proofs.turns.Cut.{lines_cut, ending-cut}

-- fewer than four bytes are no record
no_record : (x : Bench) (h : List ℕ) → length h < 4 → lines_to x h (records_in h) ≡ []
unfolding records_in lines_to
no_record x h l = let e : length h / 4 ≡ 0 = omega arith in ap (lines_to x h) e

-- the bytes that have come are those held and those read
come : (buf h : List ℕ) (r : Read) → take (length h) buf ≡ h → take (length h + length r.came) (read_into buf (length h) r) ≡ h ++ r.came
unfolding read_into
come buf h r e =
    ap (λ (f : List ℕ). take (length h + length r.came) (f ++ (r.came ++ r.behind))) e
    ∙ take-append-add h (r.came ++ r.behind) (length r.came)
    ∙ ap (h ++◌) (take-append_seam r.came r.behind)

-- so a turn is one over these
abbrev pub After : Type 0
After = Turned × Bench × List ℕ × List ℕ

pub turn-come : (x : Bench) (buf h out : List ℕ) (r : Read) → take (length h) buf ≡ h
    → turn_of x (read_into buf (length h) r) (length h) (length r.came) out
    ≡ (
      record {
        end = length (lines_to x (h ++ r.came) (records_in (h ++ r.came)));
        held = length (left_of (h ++ r.came));
      },
      bench_to x (h ++ r.came) (records_in (h ++ r.came)),
      left_of (h ++ r.came) ++ drop (length (left_of (h ++ r.came))) (read_into buf (length h) r),
      sets out 0 (lines_to x (h ++ r.came) (records_in (h ++ r.came))),
    )
unfolding turn_of run_of
turn-come x buf h out r e =
    ap (λ (bs : List ℕ). (
      record { end = length (lines_to x bs (records_in bs)); held = length (left_of bs) },
      bench_to x bs (records_in bs),
      left_of bs ++ drop (length (left_of bs)) (read_into buf (length h) r),
      sets out 0 (lines_to x bs (records_in bs)),
    ))
    (come buf h r e)

-- from any turn on: the lines of what is held and of all that comes, and the last line
pub turns-whole : (x : Bench) (buf h out : List ℕ) (rs : List Read) → length h < 4 → take (length h) buf ≡ h → 6 ≤ length out → Fits (length out) (length h) rs
    → turns_write x buf (length h) out rs
    ≡ lines_to x (h ++ input_of rs) (records_in (h ++ input_of rs)) ++ ending (h ++ input_of rs)
unfolding turns_write input_of Fits finish_of ending records_in
turns-whole x buf h out [] l e room f =
    let k : length h % 4 ≡ length h = omega arith in
    written out (last_line (length h)) (omega (arith, last-length (length h))) ∙ rw (append-nil h, no_record x h l, k)
turns-whole x buf h out (r ∷ rs) l e room f =
    let bs : List ℕ = h ++ r.came in
    let y : Bench = bench_to x bs (records_in bs) in
    let ls : List ℕ = lines_to x bs (records_in bs) in
    let kept : List ℕ = left_of bs ++ drop (length (left_of bs)) (read_into buf (length h) r) in
    let n : length bs ≡ length h + length r.came = length-append h r.came in
    let more : List ℕ = input_of rs in
    let fits : length ls ≤ length out = omega (arith, lines-length x bs (records_in bs), f.0) in
    let room₁ : 6 ≤ length (sets out 0 ls) = rw (length-sets out 0 ls) room in
    let f₁ : Fits (length (sets out 0 ls)) (length (left_of bs)) rs = rw (length-sets out 0 ls, left-length bs, n) f.1 in
    ap (λ (t : After). take t.0.end t.3 ++ turns_write t.1 t.2 t.0.held t.3 rs) (turn-come x buf h out r e)
    ∙ ap₂ ◌++◌ (written out ls fits)
    (turns-whole y kept (left_of bs) (sets out 0 ls) rs (omega (arith, left-length bs)) (take-append_seam (left_of bs) (drop (length (left_of bs)) (read_into buf (length h) r))) room₁ f₁)
    ∙ sym (append_assoc ls (lines_to y (left_of bs ++ more) (records_in (left_of bs ++ more))) (ending (left_of bs ++ more)))
    ∙ ap₂ ◌++◌ (sym (lines_cut x bs more)) (sym (ending-cut bs more))
    ∙ ap (λ (z : List ℕ). lines_to x z (records_in z) ++ ending z) (append_assoc h r.came more)

-- what is written is the first line, and where it goes on what follows
writes-by : (head buf out : List ℕ) (rs : List Read) → 6 ≤ length out
    → program_writes head rs buf out ≡ first_line head ++ cond (goes_on head) (turns_write (begun_at (pairs_of head)) buf 0 (sets out 0 (first_line head)) rs) []
unfolding program_writes begin_of followed begun_at begun starting_memory
writes-by head buf out rs room =
    by-test (goes_on head)
    (λ g. rw (g, first-none head g))
    (λ g. rw g (written out (first_line head) (omega (arith, first-length head)) ∙ sym (append-nil (first_line head))))

-- AN INPUT OF FEWER THAN SIXTEEN BYTES: all of it is read as setup, and what is written is the script's output for it
pub writes-cut : (head buf out : List ℕ) (rs : List Read) → length head < 16 → 6 ≤ length out → program_writes head rs buf out ≡ script_of head
unfolding first_line goes_on cut_setup script_of
writes-cut head buf out rs l room = writes-by head buf out rs room ∙ rw (lt-ltb (length head) 16 l)

-- the script's output for a whole setup and what follows it
script-after : (head more : List ℕ) → length head ≡ 16
    → script_of (head ++ more)
    ≡ cond (list_all good_pair (pairs_of head)) (lines_to (begun_at (pairs_of head)) more (records_in more) ++ ending more) bad_setup_line
unfolding script_of
script-after head more l =
    let long : ltb (length (head ++ more)) 16 ≡ false = le-ltb (length (head ++ more)) 16 (rw (length-append head more) (omega arith)) in
    let d : drop 16 (head ++ more) ≡ more = sym (ap (λ n. drop n (head ++ more)) (add-zero (length head) ∙ l)) ∙ drop-append-add head more 0 in
    rw (long, pairs-of head more l, d)

-- a bad setup, whatever follows it
pub script-bad : (head more : List ℕ) → length head ≡ 16 → list_all good_pair (pairs_of head) ≡ false → script_of (head ++ more) ≡ bad_setup_line
script-bad head more l g = script-after head more l ∙ rw g

-- ANY OTHER: sixteen bytes are read as setup, the rest comes in reads of any sizes that fit the buffers, and the output is the script's
pub writes-whole : (head buf out : List ℕ) (rs : List Read) → length head ≡ 16 → 6 ≤ length out → Fits (length out) 0 rs
    → program_writes head rs buf out ≡ script_of (head ++ input_of rs)
unfolding first_line goes_on cut_setup
writes-whole head buf out rs l room f =
    let ps : List Pair = pairs_of head in
    let c : ltb (length head) 16 ≡ false = le-ltb (length head) 16 (omega arith) in
    by-test (list_all good_pair ps)
    (λ g. writes-by head buf out rs room ∙ rw (script-after head (input_of rs) l, c, g) (turns-whole (begun_at ps) buf [] out rs (omega arith) refl room f))
    (λ g. writes-by head buf out rs room ∙ rw (script-after head (input_of rs) l, c, g))
