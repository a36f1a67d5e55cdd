-- A pending change, as row 6 asks of it: it stands only in a slot with a sensor, whose pin can have one. Every change of a sensor keeps that.
-- Assumes nothing.
use Prim.Native.Nat.{ℕ}
use mathlib.Core.Path.{◌≡◌, refl, sym, ◌∙◌}
use mathlib.Core.Bool.{Bool, true, false, false≢true, not, cond, ◌&&◌}
use lib.Dec.{eqb}
use lib.IntN.{ℤ}
use Rattle.proof_lists.specs.Tests.{cond_cases, by-test, and_left, and_right, or_cases}
use Rattle.rules.specs.declared.Sensor.{Sensor}
use Rattle.rules.specs.declared.Slot.{Slot}
use Rattle.rules.specs.Fields.{with_word, pointing}
use Rattle.rules.specs.Fresh.{fresh_sensor}
use Rattle.rules.specs.Modelled.{sensing}
use Rattle.rules.specs.Open.{open-fields}
use Rattle.rules.specs.Pin.{can_pend, changes, clearing, pending_after, converted_with_pin, written_with_pin}
use Rattle.rules.specs.Refusals.{pending_in_range}
use Rattle.rules.specs.Sensor.{shut_down, critical_locked, limits_locked, configured, written, converted}

-- a write changes the configuration where it goes to 01h alone
pub configuration-after : (x : Sensor) (p v : ℕ) → (written x p v).configuration ≡ cond (eqb p 0x01) (configured x.configuration v) x.configuration
unfolding written open-fields
configuration-after x p v =
    by-test (eqb p 0x01) (λ e. rw e) (λ e. rw e
    (cond_cases Same (eqb p 0x02) (λ e. cond_cases Same (limits_locked x.configuration) (λ e. refl) (λ e. refl))
    (λ e. cond_cases Same (eqb p 0x03) (λ e. cond_cases Same (limits_locked x.configuration) (λ e. refl) (λ e. refl))
    (λ e. cond_cases Same (eqb p 0x04) (λ e. cond_cases Same (critical_locked x.configuration) (λ e. refl) (λ e. refl))
    (λ e. cond_cases Same (eqb p 0x08) (λ e. refl)
    (λ e. cond_cases Same (eqb p 0x09) (λ e. refl)
    (λ e. refl)))))))
  where
    Same : Sensor → Type 0
    Same y = y.configuration ≡ x.configuration

-- and a temperature does not
pub configuration-stays : (x : Sensor) (t : ℤ) → (converted x t).configuration ≡ x.configuration
unfolding converted open-fields
configuration-stays x t = cond_cases (λ (y : Sensor). y.configuration ≡ x.configuration) (shut_down x) (λ e. refl) (λ e. refl)

-- what is pending behind a write to 01h was pending before, can be, and was not cleared
pub record Left (x : Sensor) (v : ℕ) : Type 0 where
  pub was : x.pending ≡ true
  pub can : can_pend (configured x.configuration v) ≡ true
  pub kept : not (clearing v) ≡ true

pub left : (x : Sensor) (v : ℕ) → pending_after x 0x01 v ≡ true → Left x v
unfolding pending_after
left x v h =
    let p : Bool = x.pending in
    let c : Bool = can_pend (configured x.configuration v) in
    let k : Bool = not (clearing v) in
    let g = and_left (p && c) k h in
    record { was = and_left p c g; can = and_right p c g; kept = and_right (p && c) k h }

-- a write goes to 01h, or leaves what is pending
after-01 : (x : Sensor) (p v : ℕ) → eqb p 0x01 ≡ true → pending_after x p v ≡ pending_after x 0x01 v
unfolding pending_after
after-01 x p v e = rw e

pub elsewhere : (x : Sensor) (p v : ℕ) → eqb p 0x01 ≡ false → pending_after x p v ≡ x.pending
unfolding pending_after
elsewhere x p v e = rw e

-- a change is pending only where one can be
abbrev pub Can : Sensor → Type 0
Can x = x.pending ≡ true → can_pend x.configuration ≡ true

pub fresh-can : Can fresh_sensor
unfolding fresh_sensor
fresh-can p = absurd (false≢true p)

pub written-can : (x : Sensor) (p v : ℕ) → Can x → Can (written_with_pin x p v)
unfolding written_with_pin open-fields
written-can x p v f h =
    by-test (eqb p 0x01)
    (λ e. rw (configuration-after x p v, e) (left x v (sym (after-01 x p v e) ∙ h)).can)
    (λ e. rw (configuration-after x p v, e) (f (sym (elsewhere x p v e) ∙ h)))

pub converted-can : (x : Sensor) (t : ℤ) → Can x → Can (converted_with_pin x t)
unfolding converted_with_pin open-fields
converted-can x t f h =
    rw (configuration-stays x t) (or_cases x.pending _ h f (λ c. and_left _ (changes x.temperature (converted x t).temperature) c))

-- what row 6 asks
pub record Pends (kind : ℕ) (x : Sensor) : Type 0 where
  pub here : x.pending ≡ true → eqb kind 2 ≡ true
  pub can : Can x

pub pends : (s : Slot) → pending_in_range s ≡ true → Pends s.kind s.sensor
unfolding pending_in_range sensing
pends s h =
    record {
      here = λ p. and_left (eqb s.kind 2) (can_pend s.sensor.configuration) (rw p at h);
      can = λ p. and_right (eqb s.kind 2) (can_pend s.sensor.configuration) (rw p at h);
    }

pub in-range : (s : Slot) → Pends s.kind s.sensor → pending_in_range s ≡ true
unfolding pending_in_range sensing
in-range s f = by-test s.sensor.pending (λ p. rw (p, f.here p, f.can p)) (λ p. rw p)

module _ (kind : ℕ) where
  pub fresh-pends : Pends kind fresh_sensor
  unfolding fresh_sensor
  fresh-pends = record { here = λ p. absurd (false≢true p); can = fresh-can }

  pub word-pends : (v : ℕ) (x : Sensor) → Pends kind x → Pends kind (with_word v x)
  unfolding with_word
  word-pends v x f = record { here = f.here; can = f.can }

  pub pointing-pends : (b : ℕ) (x : Sensor) → Pends kind x → Pends kind (pointing b x)
  unfolding pointing
  pointing-pends b x f = record { here = f.here; can = f.can }

  pub written-pends : (x : Sensor) (p v : ℕ) → Pends kind x → Pends kind (written_with_pin x p v)
  unfolding written_with_pin open-fields
  written-pends x p v f =
      record {
        here = λ h. f.here (by-test (eqb p 0x01) (λ e. (left x v (sym (after-01 x p v e) ∙ h)).was) (λ e. sym (elsewhere x p v e) ∙ h));
        can = written-can x p v f.can;
      }

  pub converted-pends : (x : Sensor) (t : ℤ) → eqb kind 2 ≡ true → Pends kind x → Pends kind (converted_with_pin x t)
  converted-pends x t k f = record { here = λ h. k; can = converted-can x t f.can }
