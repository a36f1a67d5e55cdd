-- Document 01, "Control byte": who hears a command, and what it is to be deaf, of every state that a slot can be handed in with.
-- Assumes nothing.
use Prim.Native.Nat.{ℕ, ◌/◌}
use mathlib.Core.Path.{◌≡◌, refl, sym, ◌∙◌, ap}
use mathlib.Core.Bool.{Bool, true, false, false≢true, ◌||◌, or-true}
use mathlib.Core.List.{List}
use lib.Dec.{eqb}
use borrow.Author.Tests.{eq-eqb, ne_eqb}
use Rattle.proof_lists.specs.Tests.{cond_cases}
use Rattle.rules.specs.declared.Act.TheVariants.{Byte, Read}
use Rattle.rules.specs.declared.Heard.{Heard}
use Rattle.rules.specs.declared.Phase.{Phase}
use Rattle.rules.specs.declared.Phase.TheVariants.{Idle, Control, Deaf, MemoryCounter, MemoryData, MemoryRead, HalfSelected, CommandAddress, CommandData, CommandStop, SensorPointer, SensorHigh, SensorLow, SensorReadHigh, SensorReadLow}
use Rattle.rules.specs.declared.Slot.{Slot}
use Rattle.rules.specs.Modelled.{absent, sensing, older}
use Rattle.rules.specs.Fields.{in_phase}
use Rattle.rules.specs.Control.{command_of, heard_of, acks_heard, acks_control, controlled}
use Rattle.rules.specs.Slot.{standing, with_sensor_in, byte_in, acks_in, read_in, drives_in, driven_in, present_next, slot_next, acks, drives, driven}
use Rattle.rules.proofs.Document.Commands.{newer-heard}
use Rattle.rules.proofs.Run.Cases.{next-cases}

-- "0110: commands, heard by all present slots": a slot's number makes no difference to it, but in an older module (P9)
module _ (n k : ℕ) (s : Slot) where
  abbrev Alike : Heard → Type 0
  Alike h = acks_heard h n s ≡ acks_heard h k s

  command-alike : (b : ℕ) → Alike (command_of b)
  unfolding command_of acks_heard
  command-alike b =
      cond_cases Alike (eqb b 0x62) (λ e. refl) λ e.
      cond_cases Alike (eqb b 0x68) (λ e. refl) λ e.
      cond_cases Alike (eqb b 0x6A) (λ e. refl) λ e.
      cond_cases Alike (eqb b 0x60) (λ e. refl) λ e.
      cond_cases Alike (eqb b 0x66) (λ e. refl) λ e.
      cond_cases Alike (eqb b 0x63) (λ e. refl) λ e.
      cond_cases Alike (eqb b 0x69) (λ e. refl) λ e.
      cond_cases Alike (eqb b 0x6B) (λ e. refl) λ e.
      cond_cases Alike (eqb b 0x61) (λ e. refl) λ e.
      cond_cases Alike (eqb b 0x6C) (λ e. refl) λ e.
      cond_cases Alike (eqb b 0x6E) (λ e. refl) λ e.
      cond_cases Alike (eqb b 0x6D) (λ e. refl) λ e. refl

  heard-alike : (b : ℕ) → b / 16 ≡ 6 → Alike (heard_of b)
  unfolding heard_of
  heard-alike b e = rw e (command-alike b)

  pub commands-heard-alike : (b : ℕ) → older s ≡ false → b / 16 ≡ 6 → controlled n b s ≡ controlled k b s
  unfolding controlled acks_control
  commands-heard-alike b o e = rw (newer-heard b n s o, newer-heard b k s o, heard-alike b e)

  pub commands-acked-alike : (b : ℕ) → older s ≡ false → b / 16 ≡ 6 → acks_control n b s ≡ acks_control k b s
  unfolding acks_control
  commands-acked-alike b o e = rw (newer-heard b n s o, newer-heard b k s o, heard-alike b e)

-- "deaf until the next start": it acknowledges and drives nothing, and bytes and reads leave it as it is
pub record Silent (n : ℕ) (s : Slot) : Type 0 where
  pub no-ack : (b : ℕ) → acks n b s ≡ false
  pub no_byte : drives s ≡ false
  pub at-bytes : (b : ℕ) → slot_next n (Byte b) s ≡ s
  pub at_reads : (more : Bool) → slot_next n (Read more) s ≡ s

pub deaf-silent : (n : ℕ) (s : Slot) → standing s ≡ Deaf → Silent n s
unfolding acks acks_in drives present_next byte_in read_in
deaf-silent n s e = record {
  no-ack = λ b. ap (λ p. acks_in p n b s) e;
  no_byte = ap drives_in e;
  at-bytes = λ b. next-cases (λ (r : Slot). r ≡ s) n (Byte b) s (λ a. refl) (λ a. ap (λ p. byte_in p n b s) e);
  at_reads = λ more. next-cases (λ (r : Slot). r ≡ s) n (Read more) s (λ a. refl) (λ a. ap (λ p. read_in p more s) e);
}

-- "absent slots, and sensor exchanges without a sensor, count as deaf"
pub absent-deaf : (s : Slot) → s.kind ≡ 0 → standing s ≡ Deaf
unfolding standing absent
absent-deaf s e = rw (eq-eqb s.kind 0 e)

pub sensorless-deaf : (s : Slot) → (s.kind ≡ 2 → ⊥) → with_sensor_in s.phase ≡ true → standing s ≡ Deaf
unfolding standing sensing
sensorless-deaf s ne e = rw (ne_eqb s.kind 2 ne, e) (cond_cases (λ (p : Phase). p ≡ Deaf) (absent s || true) (λ f. refl) (λ f. absurd (false≢true (sym f ∙ or-true (absent s)))))

-- "A slot in a write cycle acknowledges none, sensor included (bench)", and is then deaf
pub in-cycle : (n b : ℕ) (s : Slot) → (s.left ≡ 0 → ⊥) → (acks_control n b s ≡ false) × (controlled n b s ≡ in_phase Deaf s)
unfolding controlled acks_control
in-cycle n b s ne = (rw (ne_eqb s.left 0 ne), rw (ne_eqb s.left 0 ne))

-- "or FFh when none drives": a slot that drives nothing shows FFh
undriven : (p : Phase) (s : Slot) (m : List ℕ) → drives_in p ≡ false → driven_in p s m ≡ 0xFF
unfolding driven_in
undriven Idle s m e = refl
undriven Control s m e = refl
undriven Deaf s m e = refl
undriven MemoryCounter s m e = refl
undriven MemoryData s m e = refl
undriven MemoryRead s m e = absurd (false≢true (sym e))
undriven HalfSelected s m e = refl
undriven CommandAddress s m e = refl
undriven CommandData s m e = refl
undriven CommandStop s m e = refl
undriven SensorPointer s m e = refl
undriven SensorHigh s m e = refl
undriven SensorLow s m e = refl
undriven SensorReadHigh s m e = absurd (false≢true (sym e))
undriven SensorReadLow s m e = absurd (false≢true (sym e))

pub silent-byte : (s : Slot) (m : List ℕ) → drives s ≡ false → driven m s ≡ 0xFF
unfolding drives driven
silent-byte s m e = undriven (standing s) s m e
