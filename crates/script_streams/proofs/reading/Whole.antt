-- All records of the input have been run, in whatever reads that comes.
-- Assumes nothing.
use mathlib.Core.Path.{◌≡◌, refl, sym, ◌∙◌, ap}
use mathlib.Core.Bool.{Bool, true, false, false≢true}
use mathlib.Core.List.{List, [], ◌∷◌, ◌++◌, append-nil, append_assoc}
use Prim.Native.Nat.{ℕ, ◌/◌, ◌%◌, ◌<◌}
use native.Mathlib.Omega.{arith}
use lib.Dec.{ltb}
use lib.ListN.{length, take, drop, length-append}
use lib.Seq.{sets, length-sets, take-append_seam}
use Rattle.std.proofs.Common.{Option, Some, None}
use Rattle.std.specs.Prelude.{IfSome, IsSome}
use Rattle.rules.specs.Runs.{Bench}
use Rattle.script_turns.specs.Frame.{last_line, finish_of}
use Rattle.script_turns.specs.Script.{records_in, left_of, bench_to, lines_to, ending}
use Rattle.script_turns.specs.Steps.{turn_of}
use Rattle.script_turns.specs.Program.{Read, read_into, input_of, turns_write}
use Rattle.script_turns.proofs.turns.Laws.{left-length}
use Rattle.script_turns.proofs.turns.Cut.{bench-cut}
use Rattle.script_turns.proofs.turns.Whole.{After, turn-come, turns-whole}
use Rattle.script_streams.specs.Reading.{Ran, turns_leave, turns_put, begun, UpToLast, Exhausted, most_reads, Ended, finished_by, finish_put, Served, served_put}

-- from any turn on: all records of what is held and of what comes have been run, and what is left of them is held
pub turns-left : (q : Ran) (h : List ℕ) (rs : List Read) → q.held ≡ length h → length h < 4 → take (length h) q.buf ≡ h
    → ((turns_leave q rs).bench ≡ bench_to q.bench (h ++ input_of rs) (records_in (h ++ input_of rs)))
    × ((turns_leave q rs).held ≡ length (h ++ input_of rs) % 4)
    × (length (turns_leave q rs).out ≡ length q.out)
unfolding turns_leave input_of records_in bench_to
turns-left q h [] k l e =
    let z : length h / 4 ≡ 0 = omega arith in
    let n : q.held ≡ length h % 4 = omega arith in
    rw append-nil (sym (ap (bench_to q.bench h) z), n, refl)
turns-left q h (r ∷ rs) k l e =
    let x : Bench = q.bench in
    let bs : List ℕ = h ++ r.came in
    let ls : List ℕ = lines_to x bs (records_in bs) in
    let kept : List ℕ = left_of bs ++ drop (length (left_of bs)) (read_into q.buf (length h) r) in
    let more : List ℕ = input_of rs in
    let o : Bool = ltb 0 (length r.came) in
    let y : Ran = record { bench = bench_to x bs (records_in bs); buf = kept; held = length (left_of bs); came = o; out = sets q.out 0 ls } in
    let t =
    ap (λ (i : ℕ). turns_leave (turned x q.buf q.out r i) rs) k
    ∙ ap (λ (t : After). turns_leave (record { bench = t.1; buf = t.2; held = t.0.held; came = o; out = t.3 }) rs) (turn-come x q.buf h q.out r e) in
    let i = turns-left y (left_of bs) rs refl (omega (arith, left-length bs)) (take-append_seam (left_of bs) (drop (length (left_of bs)) (read_into q.buf (length h) r))) in (
      ap (λ (q : Ran). q.bench) t ∙ i.0 ∙ sym (bench-cut x bs more) ∙ ap (λ (z : List ℕ). bench_to x z (records_in z)) (append_assoc h r.came more),
      ap (λ (q : Ran). q.held) t ∙ i.1
          ∙ rw (length-append (left_of bs) more, left-length bs, length-append h (r.came ++ more), length-append r.came more, length-append h r.came) (omega arith),
      ap (λ (q : Ran). length q.out) t ∙ i.2 ∙ length-sets q.out 0 ls,
    )
  where
    turned : Bench → List ℕ → List ℕ → Read → ℕ → Ran
    turned x buf out r held =
        let t : After = turn_of x (read_into buf held r) held (length r.came) out in
        record { bench = t.1; buf = t.2; held = t.0.held; came = ltb 0 (length r.came); out = t.3 }

-- WHAT THE CODE LEAVES (`run_records` and its contract): the bench after all records of what came, and what is left of them is held
pub ended-left : (x : Bench) (out : List ℕ) (end : Option ℕ) (y : Bench) (written : List ℕ) (e : Ended x out end y written)
    → (y ≡ bench_to x (input_of e.reached.reads) (records_in (input_of e.reached.reads)))
    × (e.held ≡ length (input_of e.reached.reads) % 4)
ended-left x out end y written e =
    let t = turns-left (begun x e.buf out) [] e.reached.reads refl (omega arith) refl in
    (sym (ap (λ (z : Ran). z.bench) e.reached.turned) ∙ t.0, sym (ap (λ (z : Ran). z.held) e.reached.turned) ∙ t.1)

-- It has read until a read brought nothing, and no further, unless a write failed or that many reads were made.
last-came : (q : Ran) (r : Read) (rs : List Read) → UpToLast (r ∷ rs) → (turns_leave q (r ∷ rs)).came ≡ false → Exhausted (r ∷ rs)
unfolding turns_leave UpToLast Exhausted
last-came q r [] u e = e
last-came q r (s ∷ rs) u e = (u.0, last-came (turns_leave q (r ∷ [])) s rs u.1 e)

pub ended-exhausted : (x : Bench) (out : List ℕ) (end : Option ℕ) (y : Bench) (written : List ℕ) (e : Ended x out end y written)
    → IsSome end → (length e.reached.reads ≡ most_reads → ⊥) → Exhausted e.reached.reads
unfolding turns_leave
ended-exhausted x out end y written e t n =
    let c : e.came ≡ false = nothing e.came (λ c. n (e.over t c)) in
    exhausted (begun x e.buf out) e.reached.reads e.before refl (ap (λ (z : Ran). z.came) e.reached.turned ∙ c)
  where
    nothing : (b : Bool) → (b ≡ true → ⊥) → b ≡ false
    nothing true h = absurd (h refl)
    nothing false h = refl

    exhausted : (q : Ran) (rs : List Read) → UpToLast rs → q.came ≡ true → (turns_leave q rs).came ≡ false → Exhausted rs
    exhausted q [] u o c = absurd (false≢true (sym c ∙ o))
    exhausted q (r ∷ rs) u o c = last-came q r rs u c

-- WHAT `serve` PUTS AT THE FRONT OF THE OUTPUT, of its contract: turn after turn and at the end, what the program's composition of the steps writes
puts-write : (q : Ran) (rs : List Read)
    → turns_write q.bench q.buf q.held q.out rs
    ≡ turns_put q rs ++ take (finish_of (turns_leave q rs).held (turns_leave q rs).out).0 (finish_of (turns_leave q rs).held (turns_leave q rs).out).1
unfolding turns_write turns_put turns_leave
puts-write q [] = refl
puts-write q (r ∷ rs) =
    let t : After = turn_of q.bench (read_into q.buf q.held r) q.held (length r.came) q.out in
    ap (take t.0.end t.3 ++◌) (puts-write (turns_leave q (r ∷ [])) rs) ∙ sym (append_assoc (take t.0.end t.3) _ _)

-- where all was told, the last line is of what is held
finish-told : (end : Option ℕ) (held : ℕ) (left written : List ℕ) → IsSome end → IfSome end (λ h. h ≡ held) → written ≡ finished_by end left
    → (finish_put end written ≡ take (finish_of held left).0 (finish_of held left).1) × (written ≡ (finish_of held left).1)
unfolding finished_by finish_put finish_of
finish-told (Some h) held left written t e f = (rw (f, e), f ∙ ap (λ i. sets left 0 (last_line i)) e)
finish-told None held left written t e f = absurd (false≢true t)

pub served-puts : (x : Bench) (out : List ℕ) (y : Bench) (written : List ℕ) (s : Served x out y written) → IsSome s.end
    → served_put x out y written s ≡ turns_write x s.ended.buf 0 out s.ended.reached.reads
unfolding served_put
served-puts x out y written s t =
    let q : Ran = begun x s.ended.buf out in
    let ps : List ℕ = turns_put q s.ended.reached.reads in
    ap (ps ++◌) (finish-told s.end s.ended.held s.left written t s.ended.told s.finished).0
    ∙ sym (puts-write q s.ended.reached.reads ∙ ap (λ (z : Ran). ps ++ take (finish_of z.held z.out).0 (finish_of z.held z.out).1) s.ended.reached.turned)

-- so these are the lines of what came
pub served-writes : (x : Bench) (out : List ℕ) (y : Bench) (written : List ℕ) (s : Served x out y written) → length out ≡ 65536
    → turns_write x s.ended.buf 0 out s.ended.reached.reads
    ≡ lines_to x (input_of s.ended.reached.reads) (records_in (input_of s.ended.reached.reads)) ++ ending (input_of s.ended.reached.reads)
served-writes x out y written s l =
    turns-whole x s.ended.buf [] out s.ended.reached.reads (omega arith) refl (omega arith) (rw l s.ended.fits)

-- and what is left: that bench, and where no write failed the last line of what came at the front of the output
pub served-left : (x : Bench) (out : List ℕ) (y : Bench) (written : List ℕ) (s : Served x out y written)
    → (y ≡ bench_to x (input_of s.ended.reached.reads) (records_in (input_of s.ended.reached.reads)))
    × (IsSome s.end → written ≡ sets s.left 0 (ending (input_of s.ended.reached.reads)))
unfolding finish_of ending
served-left x out y written s =
    let t = ended-left x out s.end y s.left s.ended in
    (t.0, λ e. (finish-told s.end s.ended.held s.left written e s.ended.told s.finished).1 ∙ ap (λ (i : ℕ). sets s.left 0 (last_line i)) t.1)
