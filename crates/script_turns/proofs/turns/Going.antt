-- The state of a run after k records, and one record more.
-- Assumes nothing.
use Prim.Native.Nat.{ℕ, ◌+◌, ◌*◌, ◌/◌, ◌<◌, ◌≤◌}
use native.Mathlib.Nat.{zero-add, add-zero}
use native.Mathlib.Omega.{arith}
use mathlib.Core.Path.{◌≡◌, refl, sym, ◌∙◌, ap, ap₂}
use mathlib.Core.List.{List, ◌++◌}
use lib.ListN.{length, drop, length-append, length-drop}
use lib.Seq.{sets, drop-append_seam, drop-drop}
use Rattle.proof_lists.specs.Stores.{sets-append}
use Rattle.rules.specs.declared.Answer.{Answer}
use Rattle.rules.specs.declared.Event.{Event}
use Rattle.rules.specs.Runs.{Bench, next, answered}
use Rattle.script_text.specs.Records.{record_at}
use Rattle.script_text.specs.Letters.{line_of}
use Rattle.script_turns.specs.Script.{records_in, bench_to, lines_to}
use Rattle.script_turns.specs.Steps.{run_of}
use Rattle.script_text.proofs.letters.Laws.{line-length}
use Rattle.script_text.proofs.records.Laws.{record-first, record-later}
use Rattle.script_turns.proofs.turns.Laws.{bench-step, lines_step}

-- bench y, output out and its end, and the bytes that are left, after k records of bs from the bench x and the output o
pub record Going (x : Bench) (bs o : List ℕ) (k : ℕ) (y : Bench) (out : List ℕ) (end : ℕ) (rest : List ℕ) : Type 0 where
  pub bench : y ≡ bench_to x bs k
  pub ends : end ≡ length (lines_to x bs k)
  pub most : end ≤ 4 * k
  pub wrote : out ≡ sets o 0 (lines_to x bs k)
  pub left : rest ≡ drop (4 * k) bs
  pub room : 4 * k ≤ length bs

pub going-none : (x y : Bench) (bs out : List ℕ) → y ≡ x → Going x bs out 0 y out 0 bs
unfolding bench_to lines_to
going-none x y bs out e = record { bench = e; ends = refl; most = omega arith; wrote = refl; left = refl; room = omega arith }

module _ (x : Bench) (bs o : List ℕ) (k : ℕ) (y : Bench) (out : List ℕ) (end : ℕ) (rest : List ℕ) (g : Going x bs o k y out end rest) where
  -- what has been run and what is left are all of the bytes
  going-room : length rest + 4 * k ≡ length bs
  going-room = ap (λ r. length r + 4 * k) g.left ∙ ap (◌+ (4 * k)) (length-drop (4 * k) bs) ∙ omega (arith, g.room)

  left-more : (four more : List ℕ) → rest ≡ four ++ more → length four ≡ 4 → length rest ≡ 4 + length more
  left-more four more f h = ap length f ∙ length-append four more ∙ ap (◌+ length more) h

  -- and then its line has room
  pub going-next : (four more : List ℕ) → rest ≡ four ++ more → length four ≡ 4 → (room : ℕ) → length bs ≤ room → end + 4 ≤ room
  going-next four more f h room r = omega (arith, g.most, going-room, left-more four more f h)

  pub going_on : (four more : List ℕ) → rest ≡ four ++ more → length four ≡ 4
      → (e : Event) → e ≡ record_at four 0 → (z : Bench) → z ≡ next e y → (a : Answer) → a ≡ answered e y
      → (stop : ℕ) (wrote : List ℕ) → (stop ≡ end + length (line_of a)) × (wrote ≡ sets out end (line_of a))
      → Going x bs o (k + 1) z wrote stop more
  going_on four more f h e r z n a w stop wrote q =
      let i : e ≡ record_at bs (4 * k) =
      r ∙ sym (record-first four more 0 (omega arith)) ∙ ap (λ u. record_at u 0) (sym f ∙ g.left) ∙ record-later bs (4 * k) 0 ∙ ap (record_at bs) (add-zero (4 * k)) in
      let v : a ≡ answered (record_at bs (4 * k)) (bench_to x bs k) = w ∙ ap₂ answered i g.bench in
      let l : List ℕ = lines_to x bs k in
      let t : List ℕ = line_of a in
      let s : lines_to x bs (k + 1) ≡ l ++ t = lines_step x bs k ∙ ap (λ r. l ++ line_of r) (sym v) in
      let d : drop 4 rest ≡ more = ap (drop 4) f ∙ ap (λ j. drop j (four ++ more)) (sym h) ∙ drop-append_seam four more in
      record {
        bench = n ∙ ap₂ next i g.bench ∙ sym (bench-step x bs k);
        ends = q.0 ∙ ap (λ i. i + length t) g.ends ∙ sym (ap length s ∙ length-append l t);
        most = omega (arith, q.0, g.most, line-length a);
        wrote = q.1 ∙ ap₂ (λ u i. sets u i t) g.wrote (g.ends ∙ sym (zero-add (length l))) ∙ sym (ap (sets o 0) s ∙ sets-append o 0 l t);
        left = sym d ∙ ap (drop 4) g.left ∙ drop-drop 4 (4 * k) bs ∙ ap (λ j. drop j bs) (omega arith);
        room = omega (arith, going-room, left-more four more f h);
      }

  -- after the last whole record
  pub going-ended : length rest < 4 → run_of x bs o ≡ (end, y, out)
  unfolding run_of records_in
  going-ended h =
      let e : length bs / 4 ≡ k = omega (arith, going-room) in
      let p : bench_to x bs (length bs / 4) ≡ y = ap (bench_to x bs) e ∙ sym g.bench in
      let q : length (lines_to x bs (length bs / 4)) ≡ end = ap (λ i. length (lines_to x bs i)) e ∙ sym g.ends in
      let s : sets o 0 (lines_to x bs (length bs / 4)) ≡ out = ap (λ i. sets o 0 (lines_to x bs i)) e ∙ sym g.wrote in
      λ t. (q t, p t, s t)
