-- Case analysis on the law's own choices: an absent slot and a present one, what an exchange lets go, the phase that a slot stands in.
-- Assumes nothing.
use Prim.Native.Nat.{ℕ}
use mathlib.Core.Path.{◌≡◌, refl, sym, ap}
use mathlib.Core.Bool.{Bool, true, false, not, cond, ◌&&◌, ◌||◌}
use borrow.Author.Tests.{eqb-true}
use lib.Dec.{eqb}
use lib.IntN.{ℤ}
use Rattle.proof_lists.specs.Tests.{cond_cases, cond-false, and_left}
use Rattle.rules.specs.declared.Act.{Act}
use Rattle.rules.specs.declared.Act.TheVariants.{Byte, Read, Apply}
use Rattle.rules.specs.declared.Applied.{Applied}
use Rattle.rules.specs.declared.Applied.TheVariants.{Voltage, Temperature, WriteProtect}
use Rattle.rules.specs.declared.Phase.{Phase}
use Rattle.rules.specs.declared.Phase.TheVariants.{Deaf}
use Rattle.rules.specs.declared.Slot.{Slot}
use Rattle.rules.specs.declared.SlotNo.{SlotNo}
use Rattle.rules.specs.Modelled.{absent, sensing, older}
use Rattle.rules.specs.Fields.{holding, with_sensor, with_voltage, with_old, with_pin}
use Rattle.rules.specs.Memory.{abandoned, cancelled}
use Rattle.rules.specs.Pin.{converted_with_pin}
use Rattle.rules.specs.Slot.{with_sensor_in, commanding, taking, standing, let_go, lost, byte_in, read_in, endures, switched, heated, shielded, applied, present_next, slot_next}

-- an absent slot stays as it is
pub next-cases : (P : Slot → Type 0) (n : ℕ) (a : Act) (s : Slot) → (absent s ≡ true → P s) → (absent s ≡ false → P (present_next n a s)) → P (slot_next n a s)
unfolding slot_next
next-cases P n a s still moves = cond_cases P (absent s) still moves

pub absent-next : (n : ℕ) (a : Act) (s : Slot) → absent s ≡ true → slot_next n a s ≡ s
unfolding slot_next
absent-next n a s e = rw e

pub present-next : (n : ℕ) (a : Act) (s : Slot) → absent s ≡ false → slot_next n a s ≡ present_next n a s
unfolding slot_next
present-next n a s e = rw e

-- a slot with a sensor is present
pub sensing-present : (s : Slot) → sensing s ≡ true → absent s ≡ false
unfolding sensing absent
sensing-present s e = ap (λ (k : ℕ). eqb k 0) (eqb-true s.kind 2 e)

pub absent-plain : (s : Slot) → absent s ≡ true → sensing s ≡ false
unfolding sensing absent
absent-plain s e = ap (λ (k : ℕ). eqb k 2) (eqb-true s.kind 0 e)

-- a temperature reaches a slot with a sensor alone
pub heated-cases : (P : Slot → Type 0) (t : ℤ) (s : Slot) → P (with_sensor (converted_with_pin s.sensor t) s) → P s → P (heated t s)
unfolding heated
heated-cases P t s with without = cond_cases P (sensing s) (λ e. with) (λ e. without)

-- so none reaches an absent one
pub heated-absent : (t : ℤ) (s : Slot) → cond (absent s) s (heated t s) ≡ heated t s
unfolding heated
heated-absent t s = cond_cases (λ (r : Slot). r ≡ heated t s) (absent s) (λ a. sym (cond-false (sensing s) _ s (absent-plain s a))) (λ a. refl)

-- an older module is present, and has no sensor
pub older-present : (s : Slot) → older s ≡ true → absent s ≡ false
unfolding older absent
older-present s e = ap (λ (k : ℕ). eqb k 0) (eqb-true s.kind 3 e)

pub older-plain : (s : Slot) → older s ≡ true → sensing s ≡ false
unfolding older sensing
older-plain s e = ap (λ (k : ℕ). eqb k 2) (eqb-true s.kind 3 e)

pub sensing-newer : (s : Slot) → sensing s ≡ true → older s ≡ false
unfolding older sensing
sensing-newer s e = ap (λ (k : ℕ). eqb k 3) (eqb-true s.kind 2 e)

pub absent-newer : (s : Slot) → absent s ≡ true → older s ≡ false
unfolding older absent
absent-newer s e = ap (λ (k : ℕ). eqb k 3) (eqb-true s.kind 0 e)

-- What reaches one slot alone: it stays, or its voltage changes, with or without a command that is given up, or a sensor converts, or the pin of an
-- older module changes.
module _ (P : Slot → Type 0) (s : Slot) where
  pub applied-cases : (x : Applied)
      → P s
      → ((on : Bool) → P (with_voltage on s))
      → ((on : Bool) → commanding (standing s) ≡ true → P (with_voltage on (lost (standing s) s)))
      → ((t : ℤ) → sensing s ≡ true → P (with_sensor (converted_with_pin s.sensor t) s))
      → ((on : Bool) → older s ≡ true → P (with_old (with_pin on s.old) s))
      → P (applied x s)
  unfolding applied switched heated shielded
  applied-cases (Voltage on) same level given-up converts pin =
      cond_cases (λ (r : Slot). P (with_voltage on r)) (commanding (standing s) && s.voltage && not on && not (endures s))
      (λ e. given-up on (and_left (commanding (standing s)) s.voltage
      (and_left (commanding (standing s) && s.voltage) (not on) (and_left (commanding (standing s) && s.voltage && not on) (not (endures s)) e)))) (λ e. level on)
  applied-cases (Temperature t) same level given-up converts pin = cond_cases P (sensing s) (λ e. converts t e) (λ e. same)
  applied-cases (WriteProtect on) same level given-up converts pin = cond_cases P (older s) (λ e. pin on e) (λ e. same)

  -- and only the slot that it names
  pub apply-cases : (n : ℕ) (k : SlotNo) (x : Applied)
      → P s
      → ((on : Bool) → P (with_voltage on s))
      → ((on : Bool) → commanding (standing s) ≡ true → P (with_voltage on (lost (standing s) s)))
      → ((t : ℤ) → sensing s ≡ true → P (with_sensor (converted_with_pin s.sensor t) s))
      → ((on : Bool) → older s ≡ true → P (with_old (with_pin on s.old) s))
      → P (present_next n (Apply k x) s)
  unfolding present_next
  apply-cases n k x same level given-up converts pin = cond_cases P (eqb k.0 n) (λ e. applied-cases x same level given-up converts pin) (λ e. same)

-- what is let go is a register's bytes, a command, latched bytes, or nothing
module _ (P : Slot → Type 0) (p : Phase) (s : Slot) where
  pub let-go-cases : P (holding 0x0000 s) → P (cancelled s) → P (abandoned s) → P s → P (let_go p s)
  unfolding let_go
  let-go-cases word command bytes none =
      cond_cases P (with_sensor_in p) (λ e. word) λ e.
      cond_cases P (commanding p) (λ e. command) λ e.
      cond_cases P (taking p) (λ e. bytes) (λ e. none)

-- a slot stands in its own phase, or counts as deaf
pub stands : (P : Phase → Type 0) (s : Slot) → P Deaf → P s.phase → P (standing s)
unfolding standing
stands P s d p = cond_cases P (absent s || (with_sensor_in s.phase && not (sensing s))) (λ e. d) (λ e. p)

pub absent-stands : (s : Slot) → absent s ≡ true → standing s ≡ Deaf
unfolding standing
absent-stands s e = rw e

-- so bytes and reads go by the phase that the slot stands in, absent or not
pub byte_next : (n b : ℕ) (s : Slot) → slot_next n (Byte b) s ≡ byte_in (standing s) n b s
unfolding present_next byte_in
byte_next n b s = next-cases (λ (r : Slot). r ≡ byte_in (standing s) n b s) n (Byte b) s (λ a. sym (ap (λ (p : Phase). byte_in p n b s) (absent-stands s a))) (λ a. refl)

pub read_next : (n : ℕ) (more : Bool) (s : Slot) → slot_next n (Read more) s ≡ read_in (standing s) more s
unfolding present_next read_in
read_next n more s = next-cases (λ (r : Slot). r ≡ read_in (standing s) more s) n (Read more) s (λ a. sym (ap (λ (p : Phase). read_in p more s) (absent-stands s a))) (λ a. refl)
