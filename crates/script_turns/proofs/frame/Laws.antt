-- What each branch of the code gives is what the step's definition says; how long what is written can be; and the move to the front.
-- Assumes nothing.
use mathlib.Core.Path.{◌≡◌, refl, sym, ◌∙◌, ap}
use mathlib.Core.Bool.{Bool, false, true, false≢true}
use mathlib.Core.List.{List}
use Prim.Native.Nat.{ℕ, ◌+◌, ◌≤◌, ◌<◌}
use native.Mathlib.Nat.{zero-add}
use native.Mathlib.Omega.{arith}
use borrow.Author.Tests.{lt-ltb, le-ltb, eq-eqb, ne_eqb}
use lib.Dec.{eqb, ltb}
use lib.ListN.{length, take, drop}
use lib.Seq.{sets, sets-eq, take-append_seam}
use Rattle.std.proofs.Common.{Result, Ok, Err}
use Rattle.std.specs.List.{list_all}
use Rattle.proof_lists.specs.Tests.{by-test, cond_cases}
use Rattle.rules.specs.declared.Answer.TheVariants as answer
use Rattle.rules.specs.declared.Refusal.{Refusal}
use Rattle.rules.specs.declared.Refusal.TheVariants.{WrongSetup}
use Rattle.rules.specs.Events.{letter_of, refusal_number}
use Rattle.rules.specs.Refusals.{good_pair, setup_of}
use Rattle.rules.specs.Runs.{Bench}
use Rattle.bus_bench.specs.Beginning.{begun, set_up_of}
use Rattle.script_text.specs.Records.{pairs_of}
use Rattle.script_text.specs.Decimal.{digit, decimal_in, decimal}
use Rattle.script_text.specs.Letters.{line_of, digits_of, short_line}
use Rattle.script_turns.specs.Frame.{bad_setup_line, cut_setup, first_line, goes_on, begin_of, last_line, finish_of}

-- a bench is no refusal
is_bench : Result Bench Refusal → Bool
is_bench (Ok x) = true
is_bench (Err r) = false

why_of : Result Bench Refusal → Refusal
why_of (Ok x) = WrongSetup
why_of (Err r) = r

bench_in : Result Bench Refusal → Bench → Bench
bench_in (Ok x) y = x
bench_in (Err r) y = y

-- refusal 5's line
bad-line : line_of (answer.Refused WrongSetup) ≡ bad_setup_line
unfolding line_of letter_of digits_of refusal_number decimal decimal_in digit
bad-line = refl

-- the beginning: a setup that is cut
pub begin-cut : (bs out o : List ℕ) (end : ℕ) → length bs < 16 → (end ≡ 6) × (o ≡ sets out 0 short_line) → begin_of bs out ≡ (Err end, o)
unfolding begin_of first_line goes_on cut_setup
begin-cut bs out o end h p = rw (lt-ltb (length bs) 16 h, p.0, p.1)

-- a whole one that is good, and one that is not
pub begin-good : (bs out : List ℕ) (x : Bench) → 16 ≤ length bs → Ok x ≡ set_up_of (pairs_of bs) → begin_of bs out ≡ (Ok x, out)
unfolding begin_of first_line goes_on cut_setup set_up_of is_bench bench_in
begin-good bs out x h e =
    let c : ltb (length bs) 16 ≡ false = le-ltb (length bs) 16 h in
    by-test (list_all good_pair (pairs_of bs))
    (λ g. let f : Ok x ≡ Ok (begun (setup_of (pairs_of bs)).bus) = rw g at e in rw (c, g) (λ i. (Ok (bench_in (sym f i) x), out)))
    (λ g. let f : Ok x ≡ Err WrongSetup = rw g at e in absurd (false≢true (sym (ap is_bench f))))

pub begin-bad : (bs out o : List ℕ) (r : Refusal) (end : ℕ) → 16 ≤ length bs → Err r ≡ set_up_of (pairs_of bs)
    → (end ≡ 0 + length (line_of (answer.Refused r))) × (o ≡ sets out 0 (line_of (answer.Refused r))) → begin_of bs out ≡ (Err end, o)
unfolding begin_of first_line goes_on cut_setup set_up_of is_bench why_of
begin-bad bs out o r end h e p =
    let c : ltb (length bs) 16 ≡ false = le-ltb (length bs) 16 h in
    by-test (list_all good_pair (pairs_of bs))
    (λ g. let f : Err r ≡ Ok (begun (setup_of (pairs_of bs)).bus) = rw g at e in absurd (false≢true (ap is_bench f)))
    (λ g.
    let f : Err r ≡ Err WrongSetup = rw g at e in
    let l : line_of (answer.Refused r) ≡ bad_setup_line = ap (λ z. line_of (answer.Refused z)) (ap why_of f) ∙ bad-line in
    let q : end ≡ length bad_setup_line = p.0 ∙ zero-add (length (line_of (answer.Refused r))) ∙ ap length l in
    rw (c, g) (λ i. (Err (sym q i), sym (p.1 ∙ ap (sets out 0) l) i)))

-- the input's end
pub finish-none : (held : ℕ) (out : List ℕ) → held ≡ 0 → finish_of held out ≡ (0, out)
unfolding finish_of last_line
finish-none held out e = rw (eq-eqb held 0 e)

pub finish-short : (held : ℕ) (out o : List ℕ) (end : ℕ) → (held ≡ 0 → ⊥) → (end ≡ 6) × (o ≡ sets out 0 short_line) → finish_of held out ≡ (end, o)
unfolding finish_of last_line
finish-short held out o end h p = rw (ne_eqb held 0 h, p.0, p.1)

-- the first line and the last are at most six bytes
pub first-length : (bs : List ℕ) → length (first_line bs) ≤ 6
unfolding first_line
first-length bs =
    cond_cases (λ (l : List ℕ). length l ≤ 6) (cut_setup bs) (λ e. omega arith)
    (λ e. cond_cases (λ (l : List ℕ). length l ≤ 6) (list_all good_pair (pairs_of bs)) (λ e. omega arith) (λ e. omega arith))

pub last-length : (n : ℕ) → length (last_line n) ≤ 6
unfolding last_line
last-length n = by-test (eqb n 0) (λ e. rw e (omega arith)) (λ e. rw e (omega arith))

-- what was put at the front of the output and is written from there
pub written : (out ls : List ℕ) → length ls ≤ length out → take (length ls) (sets out 0 ls) ≡ ls
written out ls h = ap (take (length ls)) (sets-eq ls out 0 (omega arith)) ∙ take-append_seam ls (drop (0 + length ls) out)
