-- What the halves that a plan selects leave of another slot: what holds of it, and is held by a half and by cancelling, holds of it then.
-- Assumes nothing.
use Prim.Native.Nat.{ℕ, zero, suc}
use mathlib.Core.Path.{◌≡◌, refl}
use mathlib.Core.Bool.{false, not, ◌&&◌}
use mathlib.Core.List.{List}
use lib.Dec.{eqb}
use Rattle.proof_lists.specs.Tests.{cond_cases, or_left_false, or_right_false}
use Rattle.rules.specs.declared.Phase.TheVariants.{Idle}
use Rattle.rules.specs.declared.Slot.{Slot}
use Rattle.rules.specs.Modelled.{older}
use Rattle.rules.specs.Open.{open-fields, open-memory}
use Rattle.rules.specs.Fields.{in_half}
use Rattle.rules.specs.Memory.{cancelled}
use Rattle.plan_rules.specs.Plan.{page_half, differs, half_before}
use Rattle.plan_rules.specs.Effect.{touched, opens, feels, felt_before}

pub feels-cases : (P : Slot → Type 0) (n h : ℕ) (t : Slot) → P (cancelled t) → P t → P (in_half h t) → P (feels n h t)
unfolding feels
feels-cases P n h t cancels stays selects = cond_cases P (older t) (λ e. cond_cases P (opens n h t) (λ f. cancels) (λ f. stays)) (λ e. selects)

module _ (old image : List ℕ) (s : Slot) (n : ℕ) where
  pub felt-keeps : (P : Slot → Type 0) → ((t : Slot) → P t → P (cancelled t)) → ((h : ℕ) (t : Slot) → P t → P (in_half h t)) → (t : Slot) (p : ℕ) → P t → P (felt_before old image s n t p)
  unfolding felt_before
  felt-keeps P cancels selects t zero h = h
  felt-keeps P cancels selects t (suc p) h =
      let i : P (felt_before old image s n t p) = felt-keeps P cancels selects t p h in
      cond_cases P (differs old image p && not (eqb (page_half p) (half_before old image s p)))
      (λ e. feels-cases P n (page_half p) (felt_before old image s n t p) (cancels _ i) i (selects (page_half p) _ i)) (λ e. i)

  -- it is in no exchange yet
  pub felt-idle : (t : Slot) (p : ℕ) → t.phase ≡ Idle → (felt_before old image s n t p).phase ≡ Idle
  unfolding open-memory open-fields
  felt-idle t p e = felt-keeps (λ (w : Slot). w.phase ≡ Idle) (λ w h. h) (λ j w h. h) t p e

  -- where no page was written no half was selected
  pub felt-none : (t : Slot) (p : ℕ) → touched old image p ≡ false → felt_before old image s n t p ≡ t
  unfolding touched felt_before
  felt-none t zero e = refl
  felt-none t (suc p) e =
      rw (or_right_false (touched old image p) (differs old image p) e) (felt-none t p (or_left_false (touched old image p) (differs old image p) e))
