-- Each branch of the code gives what the definition says.
-- Assumes nothing.
use Prim.Native.Nat.{ℕ, ◌%◌}
use mathlib.Core.Path.{◌≡◌, sym, ◌∙◌, ap, ap₂}
use mathlib.Core.Bool.{true, false≢true}
use mathlib.Core.List.{List}
use borrow.Author.Tests.{eq-eqb}
use lib.ListN.{length}
use Rattle.std.specs.List.{list_all}
use Rattle.proof_lists.specs.Tests.{by-test}
use Rattle.rules.specs.declared.Answer.TheVariants as answer
use Rattle.rules.specs.declared.Outcome.{Outcome}
use Rattle.rules.specs.declared.Pair.{Pair}
use Rattle.rules.specs.declared.Refusal.{Refusal}
use Rattle.rules.specs.declared.Refusal.TheVariants.{WrongSetup}
use Rattle.rules.specs.Modelled.{memory_bytes}
use Rattle.rules.specs.Events.{value_of, refusal_number}
use Rattle.rules.proofs.Range.Judged.{refusal_of, numbered}
use Rattle.rules.specs.Refusals.{wrong_length, good_pair, setup_of}
use Rattle.capture_rules.specs.declared.Verdict.{Verdict}
use Rattle.capture_rules.specs.declared.Verdict.TheVariants.{Refused}
use Rattle.capture_rules.specs.Capture.{captured_in, left_over, verdict_from, closed, start_of, verdict_of}
use Rattle.capture_rules.specs.Agreement.{is_refusal}
use Rattle.capture_rules.proofs.Promise.{at-setup}
use Rattle.capture_pieces.specs.declared.pieces.Checked.{Checked}
use Rattle.capture_pieces.specs.Piece.{piece_of}

-- a setup that is refused, by row 5 alone; and one that is not
module _ (ps : List Pair) (r : Outcome) (e : r ≡ setup_of ps) where
  pub bad-setup : (m bs : List ℕ) (x : Refusal) → r.answer ≡ answer.Refused x → length m ≡ memory_bytes → Refused x ≡ verdict_of ps m bs
  unfolding setup_of is_refusal value_of refusal_number
  bad-setup m bs x a h =
      by-test (list_all good_pair ps)
      (λ g. absurd (false≢true (rw g at (sym (ap (λ (o : Outcome). is_refusal o.answer) e) ∙ ap is_refusal a))))
      (λ g.
      let n : refusal_number x ≡ 5 = rw g at (ap value_of (sym a) ∙ ap (λ (o : Outcome). value_of o.answer) e) in
      ap Refused (sym (numbered x) ∙ ap refusal_of n) ∙ sym (at-setup ps m bs h g))

  pub good-setup : ((x : Refusal) → r.answer ≡ answer.Refused x → ⊥) → list_all good_pair ps ≡ true
  unfolding setup_of
  good-setup t =
      by-test (list_all good_pair ps) (λ g. g) (λ g. absurd (t WrongSetup (rw g at (ap (λ (o : Outcome). o.answer) e))))

-- the records of a whole capture, checked as one piece and closed
pub whole-capture : (ps : List Pair) (m mem bs : List ℕ) (r : Outcome) (c : Checked) (left : List ℕ) (v : Verdict) → r ≡ setup_of ps → list_all good_pair ps ≡ true
    → length m ≡ memory_bytes → mem ≡ m → piece_of r.bus mem 0 bs ≡ (c, left) → v ≡ closed (length bs % 6) c.verdict → v ≡ verdict_of ps m bs
unfolding verdict_of wrong_length left_over start_of piece_of
whole-capture ps m mem bs r c left v e g h f p q =
    let s : closed (length bs % 6) c.verdict ≡ closed (length bs % 6) (verdict_from 0 (record { bus = (setup_of ps).bus; memory = m }) (captured_in bs)) =
    ap (λ (z : Checked × List ℕ). closed (length bs % 6) z.0.verdict) (sym p)
    ∙ ap₂ (λ (o : Outcome) (z : List ℕ). closed (length bs % 6) (verdict_from 0 (record { bus = o.bus; memory = z }) (captured_in bs))) e f in
    rw (eq-eqb (length m) memory_bytes h, g) (q ∙ s)
