-- "Locks hold until power is cycled": what a write under a lock does to each bit, and what a lock holds of a sensor (`Holds`),
-- which every change respects, hence every run without power.
-- Assumes nothing.
use mathlib.Core.Path.{◌≡◌, refl, sym, ◌∙◌}
use mathlib.Core.Bool.{Bool, true, false, false≢true, ◌||◌, or-true}
use mathlib.Core.List.{List}
use Prim.Native.Nat.{ℕ, ◌/◌, ◌%◌, ◌^◌}
use native.Mathlib.Omega.{arith}
use borrow.Author.Tests.{eq-eqb, eqb-true}
use lib.Bits.{bit_and, bit_or, and_zero_r, or_zero_r}
use lib.IntN.{ℤ}
use Rattle.proof_lists.specs.Tests.{cond_cases, cond-true, or_cases}
use Rattle.rules.specs.declared.Act.{Act}
use Rattle.rules.specs.declared.Sensor.{Sensor}
use Rattle.rules.specs.declared.Slot.{Slot}
use Rattle.rules.specs.Fields.{with_configuration, with_pending}
use Rattle.rules.specs.Open.{open-fields}
use Rattle.rules.specs.Sensor.{configuration_bits, shut_down, critical_locked, limits_locked, locked_write, configured, written, converted}
use Rattle.rules.specs.Slot.{slot_next}
use Rattle.rules.specs.Runs.{slot_after}
use Rattle.rules.proofs.Registers.Masks.{and_assoc, and-or, and-bit, or-bit, same_bit}
use Rattle.rules.proofs.Registers.SensorSteps.{written-cases, wrote, sensed, Respected, is_power, without_power, step-without-power, run-without-power}

-- a write under a lock, seen through a mask: at a literal mask the three masks compute
locked-masked : (old v m : ℕ) → bit_and (locked_write old v) m
    ≡ bit_or (bit_or (bit_and old (bit_and 0x060F m)) (bit_and (bit_and old v) (bit_and 0x0100 m))) (bit_and (bit_or old v) (bit_and 0x00C0 m))
unfolding locked_write
locked-masked old v m = simp (and-or, and_assoc)

-- "bits 10:9 and 3:0 keep"
pub locked-keeps : (old v : ℕ) → bit_and (locked_write old v) 0x060F ≡ bit_and old 0x060F
locked-keeps old v = rw (locked-masked old v 0x060F) (simp (and_zero_r, or_zero_r))

-- "bit 8 can only be cleared"
pub locked-shuts : (old v : ℕ) → bit_and (locked_write old v) 0x0100 ≡ bit_and (bit_and old v) 0x0100
locked-shuts old v = rw (locked-masked old v 0x0100) (simp (and_zero_r, or_zero_r))

-- "Locks hold [..]; the other may still be set"
pub locked-locks : (old v : ℕ) → bit_and (locked_write old v) 0x00C0 ≡ bit_and (bit_or old v) 0x00C0
locked-locks old v = rw (locked-masked old v 0x00C0) (simp and_zero_r)

pub locked-within : (old v : ℕ) → bit_and (locked_write old v) configuration_bits ≡ locked_write old v
unfolding locked_write
locked-within old v = locked-masked old v configuration_bits

-- so a bit that is a lock stays set, and bit 8 was set if it is
lock-stays : (k old v : ℕ) → 0x00C0 / 2 ^ k % 2 ≡ 1 → old / 2 ^ k % 2 ≡ 1 → locked_write old v / 2 ^ k % 2 ≡ 1
lock-stays k old v m h =
    rw (same_bit k 0x00C0 (locked_write old v) (bit_or old v) m (locked-locks old v), or-bit k old v, h) (omega arith)

shut-was : (old v : ℕ) → locked_write old v / 256 % 2 ≡ 1 → old / 256 % 2 ≡ 1
shut-was old v h =
    let e = rw (and-bit 8 old v) at (same_bit 8 0x0100 (locked_write old v) (bit_and old v) refl (locked-shuts old v)) in
    omega arith

abbrev pub locked : ℕ → Bool
locked c = critical_locked c || limits_locked c

-- what its locks hold of the sensor x, when it becomes y
pub record Holds (x y : Sensor) : Type 0 where
  pub critical-lock : critical_locked x.configuration ≡ true → critical_locked y.configuration ≡ true
  pub limits-lock : limits_locked x.configuration ≡ true → limits_locked y.configuration ≡ true
  pub critical : critical_locked x.configuration ≡ true → y.critical ≡ x.critical
  pub high : limits_locked x.configuration ≡ true → y.high ≡ x.high
  pub low : limits_locked x.configuration ≡ true → y.low ≡ x.low
  pub kept : locked x.configuration ≡ true → bit_and y.configuration 0x060F ≡ bit_and x.configuration 0x060F
  pub shut : locked x.configuration ≡ true → shut_down y ≡ true → shut_down x ≡ true

same : (x : Sensor) → Holds x x
same x = search

-- a register that is written was not locked
unlocked : (b : Bool) → b ≡ false → b ≡ true → {m n : ℕ} → m ≡ n
unlocked true p q = absurd (false≢true (sym p))
unlocked false p q = absurd (false≢true q)

configured-locked : (old v : ℕ) → locked old ≡ true → configured old v ≡ locked_write old v
unfolding configured
configured-locked old v l = cond-true (locked old) (locked_write old v) _ l

pub configured-keeps : (old v : ℕ) → locked old ≡ true → bit_and (configured old v) 0x060F ≡ bit_and old 0x060F
configured-keeps old v l = rw (configured-locked old v l) (locked-keeps old v)

configures-holds : (x : Sensor) (v : ℕ) → Holds x (with_configuration (configured x.configuration v) x)
unfolding with_configuration critical_locked limits_locked shut_down
configures-holds x v =
    let c = x.configuration in
    record {
      critical-lock = λ l. rw (configured-locked c v (rw l)) (eq-eqb _ 1 (lock-stays 7 c v refl (eqb-true _ 1 l)));
      limits-lock = λ l. rw (configured-locked c v (rw (l, or-true))) (eq-eqb _ 1 (lock-stays 6 c v refl (eqb-true _ 1 l)));
      critical = λ l. refl;
      high = λ l. refl;
      low = λ l. refl;
      kept = λ l. configured-keeps c v l;
      shut = λ l h. eq-eqb _ 1 (shut-was c v (eqb-true _ 1 (rw (configured-locked c v l) at h)));
    }

pub written-holds : (x : Sensor) (p v : ℕ) → Holds x (written x p v)
unfolding open-fields shut_down
written-holds x p v =
    written-cases (Holds x) x p v (same x) (configures-holds x v)
    (λ e. search (unlocked _ e)) (λ e. search (unlocked _ e)) (λ e. search (unlocked _ e))
    (search) (search)

converted-holds : (x : Sensor) (t : ℤ) → Holds x (converted x t)
unfolding open-fields converted shut_down
converted-holds x t = cond_cases (Holds x) (shut_down x) (λ e. same x) (λ e. search)

still-locked : {x y : Sensor} → Holds x y → locked x.configuration ≡ true → locked y.configuration ≡ true
still-locked {x} f l =
    or_cases (critical_locked x.configuration) (limits_locked x.configuration) l (λ p. rw (f.critical-lock p)) (λ p. rw (f.limits-lock p, or-true))

joined : (x y z : Sensor) → Holds x y → Holds y z → Holds x z
joined x y z f g =
    record {
      critical-lock = λ l. g.critical-lock (f.critical-lock l);
      limits-lock = λ l. g.limits-lock (f.limits-lock l);
      critical = λ l. g.critical (f.critical-lock l) ∙ f.critical l;
      high = λ l. g.high (f.limits-lock l) ∙ f.high l;
      low = λ l. g.low (f.limits-lock l) ∙ f.low l;
      kept = λ l. g.kept (still-locked f l) ∙ f.kept l;
      shut = λ l h. f.shut l (g.shut (still-locked f l) h);
    }

pinned : (on : Bool) (x : Sensor) → Holds x (with_pending on x)
unfolding open-fields shut_down
pinned on x = search

every : Respected Holds
unfolding open-fields shut_down
every = record { same = same; joined = joined; worded = λ v x. search; pointed = λ b x l. search; writes = λ x p v. wrote Holds joined pinned x p v (written-holds x p v) }

-- a slot's step and its run
pub step-holds : (n : ℕ) (a : Act) (s : Slot) → is_power a ≡ false → Holds s.sensor (slot_next n a s).sensor
step-holds = step-without-power Holds every (λ x t. sensed Holds joined pinned x t (converted-holds x t))

pub run_holds : (n : ℕ) (r : List Act) (s : Slot) → without_power r ≡ true → Holds s.sensor (slot_after n r s).sensor
run_holds = run-without-power Holds every (λ x t. sensed Holds joined pinned x t (converted-holds x t))
