-- What a plan does on the bus, in the words that the theorems of proofs/ use: over the law's own steps, and without a look at how plans are made.
-- Assumes nothing.
use Rattle.std.specs.Prelude.{ℕ, zero, suc, ◌+◌, ◌/◌, ◌≤◌, ◌≡◌, Bool, false, not, cond, ◌&&◌, ◌||◌, List, [], ◌∷◌, ◌++◌, eqb, length, get_or}
use Rattle.proof_lists.specs.Each.{Every}
use Rattle.rules.specs.declared.Act.{Act}
use Rattle.rules.specs.declared.Answer.{Answer}
use Rattle.rules.specs.declared.Answer.TheVariants.{Nothing, Ack}
use Rattle.rules.specs.declared.Bus.{Bus}
use Rattle.rules.specs.declared.Event.{Event}
use Rattle.rules.specs.declared.Phase.TheVariants.{Idle}
use Rattle.rules.specs.declared.Slot.{Slot}
use Rattle.rules.specs.declared.SlotNo.{SlotNo}
use Rattle.rules.specs.Modelled.{slot_count, older, address_of}
use Rattle.rules.specs.Fresh.{absent_slot}
use Rattle.rules.specs.Fields.{in_phase, in_half, at_counter, with_left}
use Rattle.rules.specs.Memory.{abandoned, cancelled}
use Rattle.rules.specs.Slot.{standing, let_go, slot_next}
use Rattle.plan_rules.specs.Plan.{page_bytes, page_half, page_counter, differs, half_before}

-- what the types of the program say of what is handed in: of slot k of the bus, that it is one of eight, with a latch and marks of sixteen; and of
-- the image, that it has bytes
pub record SlotTyped (b : Bus) (k : SlotNo) : Type 0 where
  pub slots : length b.slots ≡ slot_count
  pub latch : length (get_or b.slots k.0 absent_slot).latch ≡ 16
  pub marks : length (get_or b.slots k.0 absent_slot).marks ≡ 16

pub record Typed (b : Bus) (k : SlotNo) (image : List ℕ) : Type 0 where
  pub slot : SlotTyped b k
  pub bytes : Every (λ n. n ≤ 255) image

-- every byte of a plan is acknowledged, and nothing else of it is answered
unfoldable pub due : Event → Answer
due e = cond (eqb e.kind 2) Ack Nothing

-- the write cycles that a run begins at slot n alone, each by the page that the slot's address lies in
unfoldable pub begun_pages : ℕ → List Act → Slot → List ℕ
begun_pages n [] s = []
begun_pages n (a ∷ r) s =
    cond (eqb s.left 0 && not (eqb (slot_next n a s).left 0)) ((address_of (slot_next n a s)).0 / page_bytes ∷ []) []
    ++ begun_pages n r (slot_next n a s)

-- a slot that has left the exchange it stood in
unfoldable pub leaving : Slot → Slot
leaving s = in_phase Idle (let_go (standing s) s)

-- "Selecting a half is shared: other slots feel it." P9: an older module has no halves. In slot 6 it hears 6Ch as the lasting form, in slot 7 6Eh,
-- with its voltage off, "unless protection is permanent".
unfoldable pub opens : ℕ → ℕ → Slot → Bool
opens n h t = not t.old.permanent && not t.voltage && eqb (6 + h) n

-- What half h, selected "with no bytes after them before the stop", leaves of another slot n, t, that stood in no exchange: it stands in half h; of
-- an older module the stop cancels that form.
unfoldable pub feels : ℕ → ℕ → Slot → Slot
feels n h t = cond (older t) (cond (opens n h t) (cancelled t) t) (in_half h t)

-- the slot that was written: it has left its exchange, is in no cycle, and nothing is latched or to come
unfoldable pub rested : ℕ → ℕ → Slot → Slot
rested half counter s = with_left 0 (cancelled (abandoned (at_counter counter (in_half half (leaving s)))))

-- the pages that differ, of pages 0 to p - 1, in ascending order
module _ (old image : List ℕ) where
  unfoldable pub differing : ℕ → List ℕ
  differing zero = []
  differing (suc p) = differing p ++ cond (differs old image p) (p ∷ []) []

  -- some of them does
  unfoldable pub touched : ℕ → Bool
  touched zero = false
  touched (suc p) = touched p || differs old image p

  module _ (s : Slot) where
    -- the counter when pages 0 to p - 1 are done
    unfoldable pub counter_before : ℕ → ℕ
    counter_before zero = s.counter
    counter_before (suc p) = cond (differs old image p) (page_counter p) (counter_before p)

    -- how many times a half was selected by then: for each page that differs, where another half stood
    unfoldable pub selections_before : ℕ → ℕ
    selections_before zero = 0
    selections_before (suc p) = selections_before p + cond (differs old image p && not (eqb (page_half p) (half_before old image s p))) 1 0

    -- what they leave of another slot n, t, that stood in no exchange
    unfoldable pub felt_before : ℕ → Slot → ℕ → Slot
    felt_before n t zero = t
    felt_before n t (suc p) =
        cond (differs old image p && not (eqb (page_half p) (half_before old image s p)))
        (feels n (page_half p) (felt_before n t p)) (felt_before n t p)

    -- the slot itself, and another slot n, t, when pages 0 to p - 1 are done
    unfoldable pub own_before : ℕ → Slot
    own_before p = cond (touched p) (rested (half_before old image s p) (counter_before p) s) s

    unfoldable pub other_before : ℕ → Slot → ℕ → Slot
    other_before n t p = cond (touched p) (felt_before n (leaving t) p) t
