-- What whoever goes on from the beginning, or the end, needs of it: what is to be written lies in the output; and how it begins.
-- Assumes nothing.
use mathlib.Core.Path.{◌≡◌, sym, ◌∙◌, ap}
use mathlib.Core.Bool.{Bool, true, false, false≢true}
use mathlib.Core.List.{List, []}
use Prim.Native.Nat.{ℕ, ◌≤◌}
use native.Mathlib.Omega.{arith}
use lib.ListN.{length}
use lib.Seq.{sets}
use Rattle.std.proofs.Common.{Result, Ok, Err}
use Rattle.std.specs.List.{list_all}
use Rattle.proof_lists.specs.Tests.{by-test}
use Rattle.rules.specs.Refusals.{good_pair}
use Rattle.rules.specs.Runs.{Bench}
use Rattle.bus_bench.specs.Beginning.{begun}
use Rattle.script_text.specs.Records.{pairs_of}
use Rattle.script_turns.specs.Frame.{starting_memory, cut_setup, first_line, goes_on, begin_of, last_line, finish_of}
use Rattle.script_turns.specs.Script.{begun_at}
use Rattle.script_turns.proofs.frame.Laws.{first-length, last-length}

end_of : Result Bench ℕ → ℕ
end_of (Ok x) = 0
end_of (Err n) = n

good : Result Bench ℕ → Bool
good (Ok x) = true
good (Err n) = false

bench_of : Result Bench ℕ → Bench → Bench
bench_of (Ok x) y = x
bench_of (Err n) y = y

-- where records follow nothing is put
pub first-none : (bs : List ℕ) → goes_on bs ≡ true → first_line bs ≡ []
unfolding first_line goes_on
first-none bs e =
    by-test (cut_setup bs)
    (λ c. absurd (false≢true (rw c at e)))
    (λ c. let g : list_all good_pair (pairs_of bs) ≡ true = rw c at e in rw (c, g))

pub begin-onward : (bs out o : List ℕ) (end : ℕ) → begin_of bs out ≡ (Err end, o) → 6 ≤ length out → end ≤ length out
unfolding begin_of end_of
begin-onward bs out o end e h =
    by-test (goes_on bs)
    (λ g. let k : 0 ≡ end = rw g at (ap (λ (z : Result Bench ℕ × List ℕ). end_of z.0) e) in omega arith)
    (λ g. let k : length (first_line bs) ≡ end = rw g at (ap (λ (z : Result Bench ℕ × List ℕ). end_of z.0) e) in omega (arith, first-length bs))

-- a bench: of a whole and good setup, with the output as it was
pub begin-goes : (bs out o : List ℕ) (x : Bench) → begin_of bs out ≡ (Ok x, o) → (goes_on bs ≡ true) × (x ≡ begun_at (pairs_of bs)) × (o ≡ out)
unfolding begin_of good bench_of begun_at begun starting_memory
begin-goes bs out o x e =
    by-test (goes_on bs)
    (λ g.
    let k : begun_at (pairs_of bs) ≡ x = rw g at (ap (λ (z : Result Bench ℕ × List ℕ). bench_of z.0 x) e) in
    let p : sets out 0 (first_line bs) ≡ o = ap (λ (z : Result Bench ℕ × List ℕ). z.1) e in
    (g, sym k, sym p ∙ ap (sets out 0) (first-none bs g)))
    (λ g. absurd (false≢true (rw g at (ap (λ (z : Result Bench ℕ × List ℕ). good z.0) e))))

-- none: of a setup that is cut or bad, with its line at the front of the output
pub begin-stops : (bs out o : List ℕ) (end : ℕ) → begin_of bs out ≡ (Err end, o)
    → (goes_on bs ≡ false) × (end ≡ length (first_line bs)) × (o ≡ sets out 0 (first_line bs))
unfolding begin_of good end_of
begin-stops bs out o end e =
    by-test (goes_on bs)
    (λ g. absurd (false≢true (sym (rw g at (ap (λ (z : Result Bench ℕ × List ℕ). good z.0) e)))))
    (λ g.
    let k : length (first_line bs) ≡ end = rw g at (ap (λ (z : Result Bench ℕ × List ℕ). end_of z.0) e) in
    (g, sym k, sym (ap (λ (z : Result Bench ℕ × List ℕ). z.1) e)))

pub finish-onward : (held : ℕ) (out o : List ℕ) (end : ℕ) → finish_of held out ≡ (end, o) → 6 ≤ length out → end ≤ length out
unfolding finish_of
finish-onward held out o end e h =
    let k : length (last_line held) ≡ end = ap (λ (z : ℕ × List ℕ). z.0) e in
    omega (arith, last-length held)
