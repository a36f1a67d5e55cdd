-- The program as a whole, over the pieces in which its input comes: what it writes, of its steps put together as the program does it. The bytes that
-- come no contract can say; what is done with them these do.
-- Assumes nothing.
use Rattle.std.specs.Prelude.{ℕ, ◌+◌, ◌/◌, ◌<◌, ◌≤◌, ◌≡◌, Bool, true, cond, ◌&&◌, List, [], ◌∷◌, ◌++◌, eqb, ltb, length, Result}
use Rattle.std.proofs.lemmas.List.Edits.{sets}
use Rattle.rules.specs.declared.Bus.{Bus}
use Rattle.rules.specs.Runs.{Bench}
use Rattle.script_turns.specs.Frame.{begin_of}
use Rattle.script_turns.specs.Program.{followed}
use Rattle.capture_rules.specs.declared.Verdict.{Verdict}
use Rattle.capture_rules.specs.declared.Verdict.TheVariants.{Accepted, Short}
use Rattle.capture_rules.specs.Capture.{left_over, closed}
use Rattle.capture_rules.specs.Agreement.{is_accepted}
use Rattle.capture_pieces.specs.Line.{verdict_line}
use Rattle.capture_pieces.specs.declared.pieces.Checked.{Checked}
use Rattle.capture_pieces.specs.Piece.{piece_of}

-- what goes from one piece to the next: the bus, the number of records so far, the verdict on them, and whether to go on
pub record Going : Type 0 where
  pub bus : Bus
  pub number : ℕ
  pub verdict : Verdict
  pub on : Bool

-- bytes of a full piece: 4,096 records
abbrev pub piece_bytes : ℕ
piece_bytes = 24576

-- one piece
unfoldable pub step_of : Going → List ℕ → List ℕ → Going × List ℕ
step_of g m bs =
    let p : Checked × List ℕ = piece_of g.bus m g.number bs in
    let v : Verdict = closed (left_over bs) p.0.verdict in
    (record { bus = p.0.bus; number = g.number + length bs / 6; verdict = v; on = is_accepted v && eqb (length bs) piece_bytes }, p.1)

-- piece after piece, for as long as it goes on; those behind are not looked at
unfoldable pub steps_of : Going → List ℕ → List (List ℕ) → Going × List ℕ
steps_of g m [] = (g, m)
steps_of g m (r ∷ rs) = cond g.on (steps_of (step_of g m r).0 (step_of g m r).1 rs) (g, m)

abbrev pub begun : Bus → Going
begun b = record { bus = b; number = 0; verdict = Accepted; on = true }

-- what a step leaves is what `step_of` says, of some piece
pub record Came (g : Going) (m : List ℕ) (r : Going) (left : List ℕ) : Type 0 where
  pub piece : List ℕ
  pub fits : length piece ≤ piece_bytes
  pub step : step_of g m piece ≡ (r, left)

-- what some pieces led to
pub record Reached (g : Going) (m : List ℕ) (r : Going) (left : List ℕ) : Type 0 where
  pub pieces : List (List ℕ)
  pub steps : steps_of g m pieces ≡ (r, left)

-- more records than any input has: as many as 2^50 full pieces
abbrev pub most_records : ℕ
most_records = 4611686018427387904

-- the verdict where the pieces end: the last of them does not agree or is not full, unless that many records have been checked
pub record Ended (b : Bus) (m : List ℕ) (v : Verdict) : Type 0 where
  pub going : Going
  pub left : List ℕ
  pub reached : Reached (begun b) m going left
  pub over : going.on ≡ true → going.number ≡ most_records
  pub verdict : v ≡ going.verdict

-- what is put at the front of the output behind a good setup: memory as it was read, so many bytes of it
unfoldable pub served_with : ℕ → Verdict → Verdict
served_with came v = cond (ltb came 4096) Short v

pub record Served (b : Bus) (out : List ℕ) (end : ℕ) (written : List ℕ) : Type 0 where
  pub memory : List ℕ
  pub came : ℕ
  pub verdict : Verdict
  pub size : length memory ≡ 4096
  pub ended : 4096 ≤ came → Ended b memory verdict
  pub put : (end ≡ length (verdict_line (served_with came verdict))) × (written ≡ sets out 0 (verdict_line (served_with came verdict)))

-- what is written after a good setup, and altogether, with an output that holds anything
unfoldable pub serve_writes : Bus → List ℕ → List (List ℕ) → List ℕ
serve_writes b m rs = verdict_line (served_with (length m) (steps_of (begun b) m rs).0.verdict)

pub record Wrote (b : Bus) (m text : List ℕ) : Type 0 where
  pub pieces : List (List ℕ)
  pub wrote : text ≡ serve_writes b m pieces

unfoldable pub capture_writes : List ℕ → List ℕ → List (List ℕ) → List ℕ → List ℕ
capture_writes head m rs out =
    let b : Result Bench ℕ × List ℕ = begin_of head out in
    followed b.0 b.1 (λ x. serve_writes x.bus m rs)

-- an input behind the memory, in pieces: all full but the last
unfoldable pub InPieces : List (List ℕ) → Type 0
InPieces [] = ⊥
InPieces (r ∷ []) = length r < piece_bytes
InPieces (r ∷ s ∷ rs) = (length r ≡ piece_bytes) × InPieces (s ∷ rs)

unfoldable pub joined : List (List ℕ) → List ℕ
joined [] = []
joined (r ∷ rs) = r ++ joined rs
