-- A half selected, at every present slot in no cycle: a start, 6Ch or 6Eh, a stop. A newer slot stands in it; an older one is left as `feels` has it.
-- Assumes nothing.
use Prim.Native.Nat.{ℕ, zero, suc, ◌+◌, ◌*◌, ◌<◌}
use native.Mathlib.Omega.{arith}
use mathlib.Core.Path.{◌≡◌, refl, ◌∙◌, ap}
use mathlib.Core.Bool.{true, false, cond}
use mathlib.Core.List.{List, [], ◌∷◌}
use lib.Dec.{eqb}
use lib.ListN.{set}
use borrow.Author.Tests.{eq-eqb, eqb-true}
use Rattle.proof_lists.specs.Tests.{by-test}
use Rattle.rules.specs.declared.Act.{Act}
use Rattle.rules.specs.declared.Act.TheVariants.{Start, Byte, Stop}
use Rattle.rules.specs.declared.Heard.TheVariants.{SelectHalf, ProtectForEver, Nothing}
use Rattle.rules.specs.declared.Phase.{Phase}
use Rattle.rules.specs.declared.Phase.TheVariants.{Idle, Control, Deaf, HalfSelected, CommandAddress}
use Rattle.rules.specs.declared.Slot.{Slot}
use Rattle.rules.specs.Modelled.{absent, older}
use Rattle.rules.specs.Open.{open-fields, open-memory}
use Rattle.rules.specs.Fields.{in_phase, in_half, to_come}
use Rattle.rules.specs.Control.{select_of, is_read, command_of, heard_of, raised_command, own_command, older_command, heard_by, acks_heard, acks_control, obeyed, controlled}
use Rattle.rules.specs.Slot.{standing, let_go, byte_in, acks_in, stop_in, present_next, slot_next, part_next, acks}
use Rattle.runs.specs.Exchanges.{alone_for, shown_alone}
use Rattle.rules.specs.Runs.{slot_after, part_after}
use Rattle.rules.proofs.Run.Cases.{present-next, byte_next}
use Rattle.rules.proofs.Document.Commands.{newer-heard}
use Rattle.plan_rules.specs.Effect.{leaving, opens, feels}
use Rattle.plan_rules.proofs.LetGo.{let-go-lasts}
use Rattle.plan_rules.proofs.Ran.{Ran, due_for, ran-none, ran_on}
use Rattle.plan_rules.proofs.Page.{stands-in, acked}
use Rattle.plan_rules.proofs.Others.{Passed}

abbrev pub half_acts : ℕ → List Act
half_acts h = Start ∷ Byte (0x6C + 2 * h) ∷ Stop ∷ []

half-heard : (h : ℕ) → h < 2 → heard_of (0x6C + 2 * h) ≡ SelectHalf h
unfolding heard_of command_of
half-heard zero l = refl
half-heard (suc zero) l = refl
half-heard (suc (suc h)) l = absurd (omega arith)

-- P9: what it asks of an older module
lasting-heard : (n h : ℕ) → h < 2 → (s : Slot) → eqb s.kind 3 ≡ true → heard_by n (0x6C + 2 * h) s ≡ cond (opens n h s) ProtectForEver Nothing
unfolding heard_by older_command raised_command own_command select_of is_read opens older
lasting-heard n zero l s e = rw e (by-test s.old.permanent (λ p. rw p) (λ p. rw p (by-test s.voltage (λ v. rw v) (λ v. rw v))))
lasting-heard n (suc zero) l s e = rw e (by-test s.old.permanent (λ p. rw p) (λ p. rw p (by-test s.voltage (λ v. rw v) (λ v. rw v))))
lasting-heard n (suc (suc h)) l s e = absurd (omega arith)

older-there : (u : Slot) → eqb u.kind 3 ≡ true → eqb u.kind 0 ≡ false
older-there u e = ap (λ (k : ℕ). eqb k 0) (eqb-true u.kind 3 e)

module _ (n h : ℕ) (two : h < 2) where
  module _ (u : Slot) (here : eqb u.kind 0 ≡ false) (newer : eqb u.kind 3 ≡ false) (rests : u.left ≡ 0) where
    select-heard : heard_by n (0x6C + 2 * h) (in_phase Control u) ≡ SelectHalf h
    unfolding older open-fields
    select-heard = newer-heard (0x6C + 2 * h) n (in_phase Control u) newer ∙ half-heard h two

    half-acked : acks_control n (0x6C + 2 * h) (in_phase Control u) ≡ true
    unfolding acks_control acks_heard open-fields
    half-acked = rw (select-heard, eq-eqb u.left 0 rests)

    half-acks : acks n (0x6C + 2 * h) (in_phase Control u) ≡ true
    unfolding acks acks_in
    half-acks = ap (λ (q : Phase). acks_in q n (0x6C + 2 * h) (in_phase Control u)) (stands-in Control u here refl) ∙ half-acked

    half-obeyed : slot_next n (Byte (0x6C + 2 * h)) (in_phase Control u) ≡ in_phase HalfSelected (in_half h u)
    unfolding byte_in controlled obeyed open-fields
    half-obeyed =
        byte_next n (0x6C + 2 * h) (in_phase Control u) ∙ ap (λ (q : Phase). byte_in q n (0x6C + 2 * h) (in_phase Control u)) (stands-in Control u here refl)
        ∙ rw (half-acked, select-heard)

    half-stopped : slot_next n Stop (in_phase HalfSelected (in_half h u)) ≡ in_half h (in_phase Idle u)
    unfolding present_next stop_in absent open-fields
    half-stopped =
        present-next n Stop (in_phase HalfSelected (in_half h u)) here
        ∙ ap (λ (q : Phase). in_phase Idle (stop_in q (in_phase HalfSelected (in_half h u)))) (stands-in HalfSelected (in_half h u) here refl)

  pub half-run : (s : Slot) (m : List ℕ) → eqb s.kind 0 ≡ false → eqb s.kind 3 ≡ false → s.left ≡ 0 → Ran n (half_acts h) s m (in_half h (leaving s)) m []
  unfolding leaving shown_alone alone_for due_for part_next present_next absent open-fields
  half-run s m here newer rests =
      let u : Slot = let_go (standing s) s in
      let there : eqb u.kind 0 ≡ false = rw (let-go-lasts s).kind here in
      let yet : eqb u.kind 3 ≡ false = rw (let-go-lasts s).kind newer in
      let free : u.left ≡ 0 = (let-go-lasts s).left ∙ rests in
      ran_on n Start (present-next n Start s here) refl refl free
      (ran_on n (Byte (0x6C + 2 * h)) (half-obeyed u there yet free) refl (acked n _ _ m (half-acks u there yet free)) free
      (ran_on n Stop (half-stopped u there yet free) refl refl free
      (ran-none n _ m)))

  -- P9: an older module. The lasting form is open from its control byte to the stop, and nothing of it is left.
  module _ (u : Slot) (old : eqb u.kind 3 ≡ true) (rests : u.left ≡ 0) where
    abbrev opened : Slot
    opened = in_phase CommandAddress (to_come (set u.protection 0 true) true u)

    older-obeyed : slot_next n (Byte (0x6C + 2 * h)) (in_phase Control u) ≡ cond (opens n h u) opened (in_phase Deaf u)
    unfolding byte_in controlled acks_control acks_heard obeyed opens older open-fields
    older-obeyed =
        byte_next n (0x6C + 2 * h) (in_phase Control u) ∙ ap (λ (q : Phase). byte_in q n (0x6C + 2 * h) (in_phase Control u)) (stands-in Control u (older-there u old) refl)
        ∙ by-test (opens n h u)
        (λ e. rw (lasting-heard n h two (in_phase Control u) old, e, eq-eqb u.left 0 rests))
        (λ e. rw (lasting-heard n h two (in_phase Control u) old, e, eq-eqb u.left 0 rests))

    older-stopped : slot_next n Stop (cond (opens n h u) opened (in_phase Deaf u)) ≡ feels n h (in_phase Idle u)
    unfolding present_next stop_in feels opens absent older open-memory open-fields
    older-stopped = by-test (opens n h u)
        (λ e. rw (e, old) (present-next n Stop opened (older-there u old)
        ∙ ap (λ (q : Phase). in_phase Idle (stop_in q opened)) (stands-in CommandAddress (to_come (set u.protection 0 true) true u) (older-there u old) refl)))
        (λ e. rw (e, old) (present-next n Stop (in_phase Deaf u) (older-there u old)
        ∙ ap (λ (q : Phase). in_phase Idle (stop_in q (in_phase Deaf u))) (stands-in Deaf u (older-there u old) refl)))

  older-run : (s : Slot) (m : List ℕ) → eqb s.kind 3 ≡ true → s.left ≡ 0 → Passed n (half_acts h) s m (feels n h (leaving s))
  unfolding leaving slot_after part_after part_next present_next absent open-fields
  older-run s m old rests =
      let u : Slot = let_go (standing s) s in
      let still : eqb u.kind 3 ≡ true = rw (let-go-lasts s).kind old in
      let free : u.left ≡ 0 = (let-go-lasts s).left ∙ rests in
      record {
        slot = ap (slot_after n (Byte (0x6C + 2 * h) ∷ Stop ∷ [])) (present-next n Start s (older-there s old))
            ∙ ap (slot_next n Stop) (older-obeyed u still free)
            ∙ older-stopped u still free;
        part = refl;
      }

  -- whatever the kind
  newer-feels : (u : Slot) → eqb u.kind 3 ≡ false → in_half h u ≡ feels n h u
  unfolding feels older
  newer-feels u e = rw e

  pub half-passed : (s : Slot) (m : List ℕ) → eqb s.kind 0 ≡ false → s.left ≡ 0 → Passed n (half_acts h) s m (feels n h (leaving s))
  half-passed s m here rests = by-test (eqb s.kind 3)
      (λ e. older-run s m e rests)
      (λ e. let r = half-run s m here e rests in record { slot = r.slot ∙ newer-feels (leaving s) (unfold leaving open-fields in rw (let-go-lasts s).kind e); part = r.part })
