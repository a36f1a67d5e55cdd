-- Of slots that are no older modules the law is what it was before request P9. Here stands every definition that P9 gave a case, each with what it said
-- before, of such a slot; no other definition of what a slot does, shows or refuses was touched, but that a slot has one more field, which none of them then
-- looks at. An event of kind 10, which is new, is refused on a bench without older modules.
-- Assumes nothing.
use Prim.Native.Nat.{ℕ, ◌≤◌}
use native.Mathlib.Omega.{arith}
use mathlib.Core.Path.{◌≡◌, refl, sym, ◌∙◌, ap}
use mathlib.Core.Bool.{Bool, true, false, not, cond, ◌&&◌, ◌||◌, and-true, or-false, or-true}
use mathlib.Core.List.{List}
use lib.Dec.{eqb, leb, ltb}
use lib.IntN.{pos, negsuc}
use borrow.Author.Tests.{eqb-false, ne_eqb, le-leb, lt-leb, le-ltb, leb-true, leb-false, eq-eqb}
use Rattle.proof_lists.specs.Tests.{by-test}
use Rattle.rules.specs.declared.Applied.TheVariants.{Voltage, WriteProtect}
use Rattle.rules.specs.declared.BlockNo.{BlockNo}
use Rattle.rules.specs.declared.Bus.{Bus}
use Rattle.rules.specs.declared.Cut.{Cut}
use Rattle.rules.specs.declared.Event.{Event}
use Rattle.rules.specs.declared.Phase.TheVariants.{Deaf, CommandStop}
use Rattle.rules.specs.declared.Slot.{Slot}
use Rattle.rules.specs.declared.SlotNo.{SlotNo}
use Rattle.rules.specs.Control.{heard_of, protects, acks_heard, acks_control, obeyed, controlled}
use Rattle.rules.specs.Fields.{in_phase, with_left, protecting, expecting, with_voltage, lasts, with_old}
use Rattle.rules.specs.Fresh.{powered}
use Rattle.rules.specs.Memory.{pin_on, guarded, begun, command_stop, emptied, permanent_then, brought, ended}
use Rattle.rules.specs.Modelled.{older, address_of, block_of}
use Rattle.rules.specs.Open.{open-fields, open-memory}
use Rattle.rules.specs.Power.{running, finished, power_cut}
use Rattle.rules.specs.Reader.{no_block}
use Rattle.rules.specs.Refusals.{wrong_length, unknown_kind, kinds_of, kind_at, wrong_slot, outside, wrong_value, kind_in_range, length_in_range, sensor_in_range, pending_in_range, older_in_range, slot_in_range, in_range}
use Rattle.rules.specs.Slot.{standing, commanding, lost, stop_in, endures, switched, shielded, applied}
use Rattle.rules.proofs.Document.Commands.{newer-heard}

-- What a slot does: slot n, which is s.
module _ (n : ℕ) (s : Slot) (newer : older s ≡ false) where
  -- the control byte
  pub former-acks : (b : ℕ) → acks_control n b s ≡ (eqb s.left 0 && acks_heard (heard_of b) n s)
  unfolding acks_control
  former-acks b = rw (newer-heard b n s newer)

  pub former-control : (b : ℕ) → controlled n b s ≡ cond (eqb s.left 0 && acks_heard (heard_of b) n s) (obeyed (heard_of b) s) (in_phase Deaf s)
  unfolding controlled acks_control
  former-control b = rw (newer-heard b n s newer)

  -- a data byte
  pub former-guarded : guarded s ≡ protects (block_of (address_of s)) s
  unfolding guarded pin_on
  former-guarded = rw newer (or-false (protects (block_of (address_of s)) s))

  -- the stop that begins a command's cycle, and the end of a cycle
  pub former-stop : stop_in CommandStop s ≡ begun s
  unfolding stop_in command_stop pin_on
  former-stop = rw newer

  pub former-end : ended s ≡ with_left 0 (emptied (expecting s.coming (protecting s.coming (with_old (lasts (permanent_then s) s.old) s))))
  unfolding ended brought
  former-end = rw newer

  -- high voltage; and the write-protect pin, which is not there
  pub former-voltage : (on : Bool) → applied (Voltage on) s ≡ with_voltage on (cond (commanding (standing s) && s.voltage && not on) (lost (standing s) s) s)
  unfolding applied switched endures
  former-voltage on = rw newer (ap (λ (b : Bool). with_voltage on (cond b (lost (standing s) s) s)) (and-true (commanding (standing s) && s.voltage && not on)))

  pub no_pin : (on : Bool) → applied (WriteProtect on) s ≡ s
  unfolding applied shielded
  no_pin on = rw newer

  -- a power cycle: what it leaves of a running cycle was said of what was to come, and is now said of the cycle. All but what no newer slot looks at:
  pub former-power : (k : Cut) → power_cut k s
      ≡ with_old (power_cut k s).old (powered (cond (running s) (ended (expecting (cond (eqb k.0 0) s.protection s.coming) s)) s))
  unfolding power_cut finished powered ended brought older open-fields open-memory
  former-power k = by-test (running s)
      (λ e. by-test (eqb k.0 0) (λ f. rw (e, f, newer)) (λ f. rw (e, f, newer)))
      (λ e. rw e)

  -- row 6: with a kind of 0..2
  pub former-range : slot_in_range s
      ≡ (leb s.kind 2 && length_in_range s && leb s.left s.length && leb s.half 1 && leb s.counter 255 && leb s.place 15 && sensor_in_range s.sensor && pending_in_range s)
  unfolding slot_in_range kind_in_range older_in_range older
  former-range = rw (newer, kinds) (and-true _)
    where
      kinds : leb s.kind 3 ≡ leb s.kind 2
      kinds = by-test (leb s.kind 2)
          (λ e. let l = leb-true s.kind 2 e in le-leb s.kind 3 (omega (arith, l)) ∙ sym e)
          (λ e. let l = leb-false s.kind 2 e in let k = eqb-false s.kind 3 newer in lt-leb s.kind 3 (omega (arith, l, k)) ∙ sym e)

-- What is refused: an event of a kind 1 to 9, by the kind of the slot that it names.
module _ (kind : ℕ) (e : Event) (old : e.kind ≤ 9) where
  not-ten : eqb e.kind 10 ≡ false
  not-ten = ne_eqb e.kind 10 (λ f. omega arith)

  pub former-kinds : unknown_kind e ≡ (ltb e.kind 1 || ltb 9 e.kind)
  unfolding unknown_kind
  former-kinds = rw (le-ltb 10 e.kind (omega arith), le-ltb 9 e.kind old)

  pub former-slots : wrong_slot kind e ≡ ((eqb e.kind 7 || eqb e.kind 9) && (ltb 7 e.slot.0 || eqb kind 0) || eqb e.kind 9 && not (eqb kind 2))
  unfolding wrong_slot
  former-slots = rw not-ten (by_tests (eqb e.kind 7 || eqb e.kind 9) (ltb 7 e.slot.0 || eqb kind 0) (eqb e.kind 9 && not (eqb kind 2)))
    where
      by_tests : (a b c : Bool) → ((a || false) && b || c || false && not (eqb kind 3)) ≡ (a && b || c)
      by_tests true true true = refl
      by_tests true true false = refl
      by_tests true false true = refl
      by_tests true false false = refl
      by_tests false true true = refl
      by_tests false true false = refl
      by_tests false false true = refl
      by_tests false false false = refl

  pub former-values : wrong_value e
      ≡ cond (eqb e.kind 2) (outside (pos 0) (pos 255) e.value)
      (cond (eqb e.kind 3 || eqb e.kind 7) (outside (pos 0) (pos 1) e.value)
      (cond (eqb e.kind 8) (outside (pos 0) (pos 16) e.value)
      (cond (eqb e.kind 9) (outside (negsuc 639) (pos 2000) e.value)
      false)))
  unfolding wrong_value
  former-values = rw (not-ten, or-false (eqb e.kind 3 || eqb e.kind 7))

-- an event of kind 10 that names a slot which is no older module
pub ten-refused : (kind : ℕ) (e : Event) → e.kind ≡ 10 → (kind ≡ 3 → ⊥) → wrong_slot kind e ≡ true
unfolding wrong_slot
ten-refused kind e t ne =
    rw (eq-eqb e.kind 10 t, ne_eqb kind 3 ne)
    (or-true ((eqb e.kind 7 || eqb e.kind 9 || true) && (ltb 7 e.slot.0 || eqb kind 0) || eqb e.kind 9 && not (eqb kind 2)))

-- the block reader
pub former-blocks : (b : Bus) (m : List ℕ) (n : SlotNo) (k : BlockNo) → eqb (kind_at (kinds_of b) n) 3 ≡ false
    → no_block b m n k ≡ (wrong_length m || not (in_range b) || ltb 7 n.0 || eqb (kind_at (kinds_of b) n) 0 || ltb 3 k.0)
unfolding no_block
former-blocks b m n k e = rw e (or-false _)
