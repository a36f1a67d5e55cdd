-- Document 01, "Memory exchanges": a write cycle over its N ticks, of every present slot: until the last nothing moves but the ticks left; at the
-- last the latched bytes are in memory, and what was to come stands. No other event than a tick and a power cycle (`Document/Cut`) changes a byte.
-- Assumes nothing.
use Prim.Native.Nat.{ℕ, zero, suc, ◌+◌, ◌-◌}
use native.Mathlib.Omega.{arith}
use mathlib.Core.Path.{◌≡◌, refl, ◌∙◌, ap, ap₂}
use mathlib.Core.Bool.{Bool, false}
use mathlib.Core.List.{List, [], ◌∷◌, map}
use lib.ListN.{replicate}
use borrow.Author.Tests.{eq-eqb, ne_eqb}
use Rattle.proof_lists.specs.Tests.{cond_same}
use Rattle.rules.specs.declared.Act.{Act}
use Rattle.rules.specs.declared.Act.TheVariants.{Start, Byte, Read, Stop, Timeout, Tick, Apply}
use Rattle.rules.specs.declared.Applied.{Applied}
use Rattle.rules.specs.declared.Bus.{Bus}
use Rattle.rules.specs.declared.Slot.{Slot}
use Rattle.rules.specs.declared.SlotNo.{SlotNo}
use Rattle.rules.specs.Modelled.{absent, address_of, older}
use Rattle.rules.specs.Fields.{with_left}
use Rattle.rules.specs.Memory.{ticked, stored, ticked_part, ended}
use Rattle.rules.specs.Open.{open-fields, open-memory}
use Rattle.rules.specs.Slot.{present_next, slot_next, part_next}
use Rattle.rules.specs.Bus.{memory_next}
use Rattle.rules.specs.Runs.{slot_after, part_after}
use Rattle.rules.proofs.Run.Cases.{next-cases}
use Rattle.rules.proofs.Document.Exchange.{last-tick, other-tick}

abbrev pub ticks : ℕ → List Act
ticks n = replicate n Tick

-- ticks without a cycle do nothing
pub idle-ticked : (s : Slot) → s.left ≡ 0 → ticked s ≡ s
unfolding ticked with_left
idle-ticked s z = rw (ne_eqb s.left 1 (λ e. omega (arith, z, e))) (ap (λ (l : ℕ). with_left l s) (omega arith))

pub idle-tick : (n : ℕ) (s : Slot) → s.left ≡ 0 → slot_next n Tick s ≡ s
unfolding present_next
idle-tick n s z = next-cases (λ (r : Slot). r ≡ s) n Tick s (λ a. refl) (λ a. idle-ticked s z)

pub idle-tick-part : (s : Slot) (m : List ℕ) → s.left ≡ 0 → part_next Tick s m ≡ m
unfolding part_next ticked_part
idle-tick-part s m z = rw (ne_eqb s.left 1 (λ e. omega (arith, z, e))) (cond_same (absent s) m)

pub idle-slot : (n j : ℕ) (s : Slot) → s.left ≡ 0 → slot_after n (ticks j) s ≡ s
unfolding slot_after
idle-slot n zero s z = refl
idle-slot n (suc j) s z = ap (slot_after n (ticks j)) (idle-tick n s z) ∙ idle-slot n j s z

pub idle-part : (n j : ℕ) (s : Slot) (m : List ℕ) → s.left ≡ 0 → part_after n (ticks j) s m ≡ m
unfolding part_after
idle-part n zero s m z = refl
idle-part n (suc j) s m z = ap₂ (part_after n (ticks j)) (idle-tick n s z) (idle-tick-part s m z) ∙ idle-part n j s m z

-- j ticks of a cycle with j + l + 1 left
module _ (n l : ℕ) where
  pub waiting : (j : ℕ) (s : Slot) → absent s ≡ false → s.left ≡ j + suc l → slot_after n (ticks j) s ≡ with_left (suc l) s
  unfolding slot_after with_left absent
  waiting zero s a e = let f : s.left ≡ suc l = omega arith in ap (λ (k : ℕ). with_left k s) f
  waiting (suc j) s a e =
      ap (slot_after n (ticks j)) (other-tick n s a (λ f. omega arith))
      ∙ waiting j (with_left (s.left - 1) s) a (omega arith)

  pub waiting-part : (j : ℕ) (s : Slot) (m : List ℕ) → absent s ≡ false → s.left ≡ j + suc l → part_after n (ticks j) s m ≡ m
  unfolding part_after part_next ticked_part with_left absent
  waiting-part zero s m a e = refl
  waiting-part (suc j) s m a e =
      let still : part_next Tick s m ≡ m = rw (a, ne_eqb s.left 1 (λ f. omega arith)) in
      ap (λ (t : Slot). part_after n (ticks j) t (part_next Tick s m)) (other-tick n s a (λ f. omega arith))
      ∙ ap (part_after n (ticks j) (with_left (s.left - 1) s)) still
      ∙ waiting-part j (with_left (s.left - 1) s) m a (omega arith)

-- and the last of them: "the tick that ends it (the slot's Nth after the stop) puts the latched bytes in memory"; "protection changes when it ends"
pub ends : (n j : ℕ) (s : Slot) → absent s ≡ false → s.left ≡ suc j → slot_after n (ticks (suc j)) s ≡ ended s
unfolding slot_after absent open-memory open-fields older
ends n zero s a e = last-tick n s a e
ends n (suc j) s a e =
    ap (slot_after n (ticks (suc j))) (other-tick n s a (λ f. omega arith)) ∙ ends n j (with_left (s.left - 1) s) a (omega arith)

pub ends-part : (n j : ℕ) (s : Slot) (m : List ℕ) → absent s ≡ false → s.left ≡ suc j → part_after n (ticks (suc j)) s m ≡ stored s m
unfolding part_after part_next ticked_part stored address_of with_left absent
ends-part n zero s m a e = rw (a, eq-eqb s.left 1 e)
ends-part n (suc j) s m a e =
    let still : part_next Tick s m ≡ m = rw (a, ne_eqb s.left 1 (λ f. omega arith)) in
    ap (λ (t : Slot). part_after n (ticks (suc j)) t (part_next Tick s m)) (other-tick n s a (λ f. omega arith))
    ∙ ap (part_after n (ticks (suc j)) (with_left (s.left - 1) s)) still
    ∙ ends-part n j (with_left (s.left - 1) s) m a (omega arith)

-- "Changing memory at the stop while the cycle still runs" is an error: whatever the slots hold, at a stop and at all else but a tick and a power cycle
-- every byte stays
pub not-before : (b : Bus) (m : List ℕ) (v : ℕ) (more : Bool) (k : SlotNo) (x : Applied)
    → map (λ (a : Act). memory_next a b m) (Stop ∷ Start ∷ Byte v ∷ Read more ∷ Timeout ∷ Apply k x ∷ [])
    ≡ m ∷ m ∷ m ∷ m ∷ m ∷ m ∷ []
unfolding memory_next
not-before b m v more k x = refl
