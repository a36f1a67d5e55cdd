-- One piece more, and what is put at the front of the output in the end.
-- Assumes nothing.
use Prim.Native.Nat.{ℕ, ◌+◌, ◌/◌, ◌%◌, ◌<◌, ◌≤◌}
use native.Mathlib.Omega.{arith}
use mathlib.Core.Path.{◌≡◌, refl, sym, ◌∙◌, ap, ap₂, subst}
use mathlib.Core.Bool.{Bool, true, false, false≢true, ◌&&◌}
use mathlib.Core.List.{List, [], ◌∷◌, ◌++◌}
use borrow.Author.Tests.{lt-ltb, le-ltb, eqb-true}
use lib.Dec.{eqb}
use lib.ListN.{length}
use lib.Seq.{sets}
use Rattle.proof_lists.specs.Tests.{by-test, cond-true, cond-false, and_left, and_right}
use Rattle.rules.specs.declared.Bus.{Bus}
use Rattle.script_text.specs.Letters.{short_line}
use Rattle.capture_rules.specs.declared.Verdict.{Verdict}
use Rattle.capture_rules.specs.declared.Verdict.TheVariants.{Accepted, Differs, Short, Refused}
use Rattle.capture_rules.specs.Capture.{left_over, closed}
use Rattle.capture_rules.specs.Agreement.{is_accepted}
use Rattle.capture_pieces.specs.Line.{verdict_line}
use Rattle.capture_pieces.specs.declared.pieces.Checked.{Checked}
use Rattle.capture_pieces.specs.Piece.{piece_of}
use Rattle.capture.specs.Program.{Going, piece_bytes, most_records, step_of, steps_of, begun, Came, Reached, Ended, served_with, Served}

-- a piece is looked at where it goes on, and not otherwise
pub steps_on : (g : Going) (m r : List ℕ) (rs : List (List ℕ)) → g.on ≡ true → steps_of g m (r ∷ rs) ≡ steps_of (step_of g m r).0 (step_of g m r).1 rs
unfolding steps_of
steps_on g m r rs o = cond-true g.on (steps_of (step_of g m r).0 (step_of g m r).1 rs) (g, m) o

pub steps-off : (g : Going) (m : List ℕ) (rs : List (List ℕ)) → g.on ≡ false → steps_of g m rs ≡ (g, m)
unfolding steps_of
steps-off g m [] o = refl
steps-off g m (r ∷ rs) o = cond-false g.on (steps_of (step_of g m r).0 (step_of g m r).1 rs) (g, m) o

-- behind pieces that it goes on from
steps-more : (g : Going) (m : List ℕ) (rs : List (List ℕ)) (r : Going) (left piece : List ℕ) → steps_of g m rs ≡ (r, left) → r.on ≡ true
    → steps_of g m (rs ++ piece ∷ []) ≡ step_of r left piece
unfolding steps_of
steps-more g m [] r left piece e h =
    steps_on g m piece [] (ap (λ (z : Going × List ℕ). z.0.on) e ∙ h) ∙ ap (λ (z : Going × List ℕ). step_of z.0 z.1 piece) e
steps-more g m (q ∷ rs) r left piece e h =
    by-test g.on
    (λ o. steps_on g m q (rs ++ piece ∷ []) o ∙ steps-more (step_of g m q).0 (step_of g m q).1 rs r left piece (sym (steps_on g m q rs o) ∙ e) h)
    (λ o. absurd (false≢true (sym o ∙ ap (λ (z : Going × List ℕ). z.0.on) (sym (steps-off g m (q ∷ rs) o) ∙ e) ∙ h)))

pub reached-none : (g : Going) (m : List ℕ) → Reached g m g m
unfolding steps_of
reached-none g m = record { pieces = []; steps = refl }

pub reached-more : (g : Going) (m : List ℕ) (r : Going) (left : List ℕ) (s : Going) (rest : List ℕ) → Reached g m r left → r.on ≡ true → Came r left s rest
    → Reached g m s rest
reached-more g m r left s rest p h c =
    record { pieces = p.pieces ++ c.piece ∷ []; steps = steps-more g m p.pieces r left c.piece p.steps h ∙ c.step }

-- what the code puts together of the n bytes that came is the step
pub came-by : (g : Going) (m bs left : List ℕ) (c : Checked) (v : Verdict) (n size : ℕ) (on : Bool) → n ≡ length bs → n ≤ size → size ≡ piece_bytes
    → piece_of g.bus m g.number bs ≡ (c, left) → v ≡ closed (n % 6) c.verdict → on ≡ is_accepted v
    → Came g m (record { bus = c.bus; number = g.number + n / 6; verdict = v; on = on && eqb n size }) left
unfolding step_of left_over
came-by g m bs left c v n size on k l z p q a =
    let w : closed (length bs % 6) (piece_of g.bus m g.number bs).0.verdict ≡ v =
    ap₂ (λ i (z : Checked × List ℕ). closed (i % 6) z.0.verdict) (sym k) p ∙ sym q in
    let o : (is_accepted (closed (length bs % 6) (piece_of g.bus m g.number bs).0.verdict) && eqb (length bs) piece_bytes) ≡ (on && eqb n size) =
    ap₂ ◌&&◌ (ap is_accepted w ∙ sym a) (ap₂ eqb (sym k) (sym z)) in
    record {
      piece = bs;
      fits = omega (arith, k, l, z);
      step = λ i. (record { bus = (p i).0.bus; number = g.number + sym k i / 6; verdict = w i; on = o i }, (p i).1);
    }

-- a bus on which so many records agreed
abbrev pub agreed : Bus → ℕ → Going
agreed b k = record { bus = b; number = k; verdict = Accepted; on = true }

accepted_is : (v : Verdict) → is_accepted v ≡ true → v ≡ Accepted
unfolding is_accepted
accepted_is Accepted e = refl
accepted_is (Differs k a s) e = absurd (false≢true e)
accepted_is Short e = absurd (false≢true e)
accepted_is (Refused r) e = absurd (false≢true e)

-- so: one piece more from there
module _ (b : Bus) (m : List ℕ) (d : Bus) (stored : List ℕ) (k : ℕ) (p : Reached (begun b) m (agreed d k) stored)
    (bs left : List ℕ) (c : Checked) (v : Verdict) (n size : ℕ) (on : Bool)
    (i : n ≡ length bs) (l : n ≤ size) (z : size ≡ piece_bytes) (f : piece_of d stored k bs ≡ (c, left)) (w : v ≡ closed (n % 6) c.verdict) (a : on ≡ is_accepted v) where
  there : Reached (begun b) m (record { bus = c.bus; number = k + n / 6; verdict = v; on = on && eqb n size }) left
  there = reached-more _ _ _ _ _ _ p refl (came-by (agreed d k) stored bs left c v n size on i l z f w a)

  pub ended-here : (on && eqb n size) ≡ false → Ended b m v
  ended-here o = record { going = _; left = left; reached = there; over = λ h. absurd (false≢true (sym o ∙ h)); verdict = refl }

  pub agreed-more : (on && eqb n size) ≡ true → Reached (begun b) m (agreed c.bus (k + n / 6)) left
  agreed-more o =
      let h : v ≡ Accepted = accepted_is v (sym a ∙ and_left on (eqb n size) o) in
      subst (λ (u : Verdict). Reached (begun b) m (record { bus = c.bus; number = k + n / 6; verdict = u; on = true }) left) h
      (subst (λ (q : Bool). Reached (begun b) m (record { bus = c.bus; number = k + n / 6; verdict = v; on = q }) left) o there)

  pub agreed-full : (on && eqb n size) ≡ true → n / 6 ≡ 4096
  agreed-full o = let g : n ≡ size = eqb-true n size (and_right on (eqb n size) o) in ap (λ j. j / 6) (g ∙ z)

-- and where there were as many as no input has
pub ended-over : (b : Bus) (m : List ℕ) (d : Bus) (stored : List ℕ) (k : ℕ) → Reached (begun b) m (agreed d k) stored → k ≡ most_records → Ended b m Accepted
ended-over b m d stored k p e = record { going = agreed d k; left = stored; reached = p; over = λ _. e; verdict = refl }

-- a memory that is cut, and the verdict where it is whole
module _ (b : Bus) (m : List ℕ) (came : ℕ) (out : List ℕ) (end : ℕ) (o : List ℕ) (z : length m ≡ 4096) where
  clash : {i : ℕ} → i < 4096 → 4096 ≤ i → ⊥
  clash h n = omega (arith, h, n)

  pub served-short : came < 4096 → (end ≡ 6) × (o ≡ sets out 0 short_line) → Served b out end o
  unfolding served_with verdict_line
  served-short h p = record {
    memory = m;
    came = came;
    verdict = Short;
    size = z;
    ended = λ n. absurd (clash h n);
    put = rw (lt-ltb came 4096 h) p;
  }

  pub served-whole : (v : Verdict) → 4096 ≤ came → Ended b m v → (end ≡ length (verdict_line v)) × (o ≡ sets out 0 (verdict_line v)) → Served b out end o
  unfolding served_with
  served-whole v h e p = record {
    memory = m;
    came = came;
    verdict = v;
    size = z;
    ended = λ n. e;
    put = rw (le-ltb came 4096 h) p;
  }
