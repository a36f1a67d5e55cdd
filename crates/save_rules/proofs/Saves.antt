-- Request P5: "Saving is refused with 8 unless every present slot is idle and in no write cycle, then with 9 if the lent buffer is too short; 1 and 6 come
-- first, and all leave it unchanged; else the length is returned and bytes past the form stay."
-- Assumes nothing.
use Prim.Native.Nat.{ℕ, ◌≤◌}
use native.Mathlib.Omega.{arith}
use mathlib.Core.Path.{◌≡◌, refl, ◌∙◌}
use mathlib.Core.Bool.{true, false, false≢true, not, cond, ◌&&◌, ◌||◌, or-true}
use mathlib.Core.List.{List}
use lib.Dec.{eqb, ltb}
use lib.ListN.{length, drop, length-append, length-drop}
use lib.Seq.{drop-append_seam}
use borrow.Author.Tests.{eqb-true, ltb-false}
use Rattle.std.specs.Prelude.{Result}
use Rattle.proof_lists.specs.Tests.{cond_cases, by-test, and_left, and_right}
use Rattle.rules.specs.declared.Refusal.{Refusal}
use Rattle.rules.specs.declared.Bus.{Bus}
use Rattle.rules.specs.declared.Phase.{Phase}
use Rattle.rules.specs.declared.Phase.TheVariants.{Idle, Control, Deaf, MemoryCounter, MemoryData, MemoryRead, HalfSelected, CommandAddress, CommandData, CommandStop, SensorPointer, SensorHigh, SensorLow, SensorReadHigh, SensorReadLow}
use Rattle.rules.specs.declared.Slot.{Slot}
use Rattle.rules.specs.Modelled.{absent}
use Rattle.rules.specs.Events.{refusal_number}
use Rattle.rules.specs.Refusals.{wrong_length, in_range}
use Rattle.save_rules.specs.Form.{form_of}
use Rattle.save_rules.specs.Saving.{is_idle, quiet, all_quiet, save_of, saved_number, saved_value}

-- a present slot is quiet exactly if it is idle and has no ticks left; an absent one always is
idle-phase : (p : Phase) → is_idle p ≡ true → p ≡ Idle
unfolding is_idle
idle-phase Idle e = refl
idle-phase Control e = absurd (false≢true e)
idle-phase Deaf e = absurd (false≢true e)
idle-phase MemoryCounter e = absurd (false≢true e)
idle-phase MemoryData e = absurd (false≢true e)
idle-phase MemoryRead e = absurd (false≢true e)
idle-phase HalfSelected e = absurd (false≢true e)
idle-phase CommandAddress e = absurd (false≢true e)
idle-phase CommandData e = absurd (false≢true e)
idle-phase CommandStop e = absurd (false≢true e)
idle-phase SensorPointer e = absurd (false≢true e)
idle-phase SensorHigh e = absurd (false≢true e)
idle-phase SensorLow e = absurd (false≢true e)
idle-phase SensorReadHigh e = absurd (false≢true e)
idle-phase SensorReadLow e = absurd (false≢true e)

pub quiet-idle : (s : Slot) → absent s ≡ false → quiet s ≡ true → (s.phase ≡ Idle) × (s.left ≡ 0)
unfolding quiet
quiet-idle s a q =
    let i : (is_idle s.phase && eqb s.left 0) ≡ true = rw a at q in
    (idle-phase s.phase (and_left (is_idle s.phase) (eqb s.left 0) i), eqb-true s.left 0 (and_right (is_idle s.phase) (eqb s.left 0) i))

pub idle-quiet : (s : Slot) → s.phase ≡ Idle → s.left ≡ 0 → quiet s ≡ true
unfolding quiet is_idle
idle-quiet s i l = (λ t. absent s || (is_idle (i t) && eqb (l t) 0)) ∙ or-true (absent s)

pub absent-quiet : (s : Slot) → absent s ≡ true → quiet s ≡ true
unfolding quiet
absent-quiet s a = rw a

-- the refusal that is given, by the paper's number, in the order 1, 6, 8, 9; and 0 where none is
pub saving-number : (b : Bus) (m buffer : List ℕ)
    → saved_number (save_of b m buffer).0
    ≡ cond (wrong_length m) 1 (cond (not (in_range b)) 6 (cond (not (all_quiet b)) 8 (cond (ltb (length buffer) (length (form_of b m))) 9 0)))
unfolding save_of saved_number refusal_number
saving-number b m buffer = by-test (wrong_length m) (λ e. rw e) λ e.
    by-test (in_range b) (λ f. by-test (all_quiet b) (λ g. by-test (ltb (length buffer) (length (form_of b m))) (λ h. rw (e, f, g, h)) (λ h. rw (e, f, g, h))) (λ g. rw (e, f, g))) (λ f. rw (e, f))

-- Refused or not, the bytes from the returned value on stay: all of the buffer where it is refused, and those past the form where it is not. And the
-- buffer stays as long as it was.
pub record Stays (buffer : List ℕ) (o : Result ℕ Refusal × List ℕ) : Type 0 where
  pub rest : drop (saved_value o.0) o.1 ≡ drop (saved_value o.0) buffer
  pub long : length o.1 ≡ length buffer

pub saving-stays : (b : Bus) (m buffer : List ℕ) → Stays buffer (save_of b m buffer)
unfolding save_of saved_value
saving-stays b m buffer =
    let f = form_of b m in
    cond_cases (Stays buffer) (wrong_length m) (λ e. kept) λ e.
    cond_cases (Stays buffer) (not (in_range b)) (λ e. kept) λ e.
    cond_cases (Stays buffer) (not (all_quiet b)) (λ e. kept) λ e.
    cond_cases (Stays buffer) (ltb (length buffer) (length f)) (λ e. kept)
    (λ e.
    let l : length f ≤ length buffer = ltb-false (length buffer) (length f) e in
    record { rest = drop-append_seam f (drop (length f) buffer); long = rw (length-append, length-drop) (omega arith) })
  where
    kept : {r : Result ℕ Refusal} → Stays buffer (r, buffer)
    kept = record { rest = refl; long = refl }
