-- Whether a slot that is there, or is not, has a pin.
-- Assumes nothing.
use Rattle.std.proofs.Common.{◌≡◌, sym, ◌∙◌, ap, ◌<◌, ◌≤◌, true, not, length, get_or, arith}
use Rattle.std.proofs.lemmas.List.{get_or-map}
use borrow.Author.Tests.{lt-ltb, le-ltb}
use Rattle.rules.specs.declared.Bus.{Bus}
use Rattle.rules.specs.declared.Slot.{Slot}
use Rattle.rules.specs.declared.SlotNo.{SlotNo}
use Rattle.rules.specs.Modelled.{sensing}
use Rattle.rules.specs.Refusals.{kinds_of, kind_at}
use Rattle.rules.specs.Looked.{no_pin}
use Rattle.rules.proofs.Past.{no_slot}

module _ (b : Bus) (n : SlotNo) (eight : length b.slots ≡ 8) where
  pub pin-if : (s : Slot) → n.0 < length b.slots → ((d : Slot) → s ≡ get_or b.slots n.0 d) → no_pin b n ≡ not (sensing s)
  unfolding no_pin sensing kind_at kinds_of
  pin-if s within at =
      let kind = get_or-map (λ (t : Slot). t.kind) b.slots n.0 no_slot 0 within ∙ ap (λ (t : Slot). t.kind) (sym (at no_slot)) in
      rw (le-ltb 7 n.0 (omega arith), kind)

  pub past-none : length b.slots ≤ n.0 → no_pin b n ≡ true
  unfolding no_pin
  past-none over = rw (lt-ltb 7 n.0 (omega arith))
