-- A turn in the form in which its proof asks for it.
-- Assumes nothing.
use mathlib.Core.Path.{◌≡◌, sym, ◌∙◌, ap, ap₂}
use mathlib.Core.List.{List, ◌++◌}
use Prim.Native.Nat.{ℕ, ◌+◌, ◌-◌, ◌*◌, ◌/◌, ◌≤◌}
use native.Mathlib.Nat.{zero-add}
use native.Mathlib.Omega.{arith}
use lib.ListN.{length, take, drop, length-drop}
use lib.Seq.{length-take-le, take-add, drop-append_seam}
use Rattle.std.specs.List.{copy_within}
use Rattle.rules.specs.Runs.{Bench}
use Rattle.script_turns.specs.Script.{records_in, left_of}
use Rattle.script_turns.specs.Steps.{run_of, turn_of}

-- a turn
pub turn_by : (x : Bench) (buf : List ℕ) (held n : ℕ) (out : List ℕ) (whole end : ℕ) (y : Bench) (moved o : List ℕ)
    → held + n ≤ length buf → whole ≡ (held + n) / 4 * 4
    → run_of x (take (held + n) buf) out ≡ (end, y, o) → moved ≡ copy_within buf whole (held + n) 0
    → turn_of x buf held n out ≡ (record { end = end; held = (held + n) - whole }, y, moved, o)
unfolding turn_of left_of records_in
turn_by x buf held n out whole end y moved o h w p q =
    let come : ℕ = held + n in
    let left : ℕ = come - whole in
    let bs : List ℕ = take come buf in
    let l : length bs ≡ come = length-take-le come buf h in
    let k : 4 * (length bs / 4) ≡ whole = ap (λ i. 4 * (i / 4)) l ∙ omega arith in
    let d : drop (4 * (length bs / 4)) bs ≡ take left (drop whole buf) =
    ap (λ i. drop i bs) k ∙ drop-take whole left come buf (omega arith) (omega arith) in
    let c : length (drop (4 * (length bs / 4)) bs) ≡ left = length-drop (4 * (length bs / 4)) bs ∙ omega arith in
    let g : drop (4 * (length bs / 4)) bs ++ drop (length (drop (4 * (length bs / 4)) bs)) buf ≡ moved =
    ap₂ (λ u i. u ++ drop i buf) d c ∙ sym (q ∙ ap (λ i. take left (drop whole buf) ++ drop i buf) (zero-add left)) in
    λ t. (record { end = (p t).0; held = c t }, (p t).1, g t, (p t).2)
  where
    drop-take : (i j k : ℕ) (xs : List ℕ) → k ≡ i + j → i ≤ length xs → drop i (take k xs) ≡ take j (drop i xs)
    drop-take i j k xs e h =
        ap (λ z. drop i (take z xs)) e ∙ ap (drop i) (take-add i j xs)
        ∙ ap (λ z. drop z (take i xs ++ take j (drop i xs))) (sym (length-take-le i xs h)) ∙ drop-append_seam (take i xs) (take j (drop i xs))
