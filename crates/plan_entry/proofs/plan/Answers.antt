-- The rows 1, 6 and 3 in their order; then the slot by itself.
use Rattle.std.proofs.Common.{◌≡◌, sym, ◌∙◌, ap, ℕ, ◌*◌, ◌/◌, ◌<◌, ◌≤◌, List, [], length, get_or, take, drop, rules, refl, arith}
use Rattle.proof_lists.specs.Alike.{every-from}
use Rattle.rules.specs.Fresh.{absent_slot}
use Rattle.rules.specs.Refusals.{in_range}
use Rattle.proof_lists.specs.Chunks.{chunk-at}
use Rattle.plan_entry.proofs.Laws.{not-refused, wrong-lengths, good-lengths, missing-above, missing-kind, slot-typed, slot-ranged, plan-lengths, plan-state, plan-slot, plan-alone}
use Rattle.plan_entry.proofs.plan.Goals as goal
use Rattle.plan_entry.proofs.plan.Goals.{then-memory-ne-MEMORY-via-then-memory-ne-MEMORY, then-memory-ne-MEMORY-via-else-memory-ne-MEMORY+then-buffer-ne-BUFFER}

pub returns-in_default : goal.returns-in_default
returns-in_default c =
    let a = c.args in
    record {
      buffer_value = plan-lengths a.bus a.memory.now a.slot a.image.now a.buffer.now (wrong-lengths _ _ _ (λ h. c.in_default.ensures.1 h.1));
      typed = not-refused _ _ refl;
    }

pub returns-then-memory-ne-MEMORY : goal.returns-then-memory-ne-MEMORY
returns-then-memory-ne-MEMORY c =
    let a = c.args in
    let e : (length a.memory.now ≡ 4096) × (length a.image.now ≡ 512) × (length a.buffer.now ≡ 4096) → ⊥ =
    elim c.then-memory-ne-MEMORY.branch [
      | then-memory-ne-MEMORY-via-then-memory-ne-MEMORY w ↦ λ h. w.if-memory-ne-MEMORY.true h.0
      | then-memory-ne-MEMORY-via-else-memory-ne-MEMORY+then-buffer-ne-BUFFER w ↦ λ h. w.if-buffer-ne-BUFFER.true h.2
    ] in
    record { buffer_value = plan-lengths a.bus a.memory.now a.slot a.image.now a.buffer.now (wrong-lengths _ _ _ e); typed = not-refused _ _ refl }

pub returns-then-not-ranged : goal.returns-then-not-ranged
unfolding in_range
returns-then-not-ranged c =
    let a = c.args in
    let fit = good-lengths _ _ _ c.if-memory-ne-MEMORY.false c.in-Ok.ensures.1.long c.if-buffer-ne-BUFFER.false in
    record {
      buffer_value = plan-state a.bus a.memory.now a.slot a.image.now a.buffer.now fit (sym c.in_range-ranged.ensures ∙ c.if-not-ranged.true);
      typed = not-refused _ _ refl;
    }

pub returns-in_default-get : goal.returns-in_default-get
unfolding in_range
returns-in_default-get c =
    let a = c.args in
    let eight : length a.bus.slots ≡ 8 = search rules in
    let fit = good-lengths _ _ _ c.if-memory-ne-MEMORY.false c.in-Ok.ensures.1.long c.if-buffer-ne-BUFFER.false in
    let usual = sym c.in_range-ranged.ensures ∙ c.if-not-ranged.false in
    let above : 7 < a.slot.0 = omega (arith, c.in_default-get.ensures.lookup.3) in
    record {
      buffer_value = plan-slot a.bus a.memory.now a.slot a.image.now a.buffer.now fit usual (missing-above a.slot a.bus above);
      typed = not-refused _ _ refl;
    }

pub returns-then-unplanned : goal.returns-then-unplanned
unfolding in_range
returns-then-unplanned c =
    let a = c.args in
    let eight : length a.bus.slots ≡ 8 = search rules in
    let fit = good-lengths _ _ _ c.if-memory-ne-MEMORY.false c.in-Ok.ensures.1.long c.if-buffer-ne-BUFFER.false in
    let usual = sym c.in_range-ranged.ensures ∙ c.if-not-ranged.false in
    let g = c.in-Some.ensures.lookup.3 in
    let missing = sym (missing-kind a.slot a.bus _ _ c.from-at.ensures eight g.0 (g.1 absent_slot)) ∙ sym c.unplanned.ensures.value ∙ c.if-unplanned.true in
    record { buffer_value = plan-slot a.bus a.memory.now a.slot a.image.now a.buffer.now fit usual missing; typed = not-refused _ _ refl }

pub alone-requires : goal.alone-requires
unfolding in_range
alone-requires c =
    let a = c.args in
    let eight : length a.bus.slots ≡ 8 = search rules in
    let usual = sym c.in_range-ranged.ensures ∙ c.if-not-ranged.false in
    let g = c.in-Some.ensures.lookup.3 in
    (slot-ranged a.bus _ _ g.0 (g.1 absent_slot) usual, omega (arith, g.0), c.if-buffer-ne-BUFFER.false)

pub returns : goal.returns
unfolding in_range
returns c =
    let a = c.args in
    let m = a.memory.now in
    let at = c.from-at.result in
    let e = c.from-at.ensures in
    let eight : length a.bus.slots ≡ 8 = search rules in
    let fit = good-lengths _ _ _ c.if-memory-ne-MEMORY.false c.in-Ok.ensures.1.long c.if-buffer-ne-BUFFER.false in
    let usual = sym c.in_range-ranged.ensures ∙ c.if-not-ranged.false in
    let g = c.in-Some.ensures.lookup.3 in
    let there = sym (missing-kind a.slot a.bus _ _ e eight g.0 (g.1 absent_slot)) ∙ sym c.unplanned.ensures.value ∙ c.if-unplanned.false in
    let found = g.1 absent_slot ∙ ap (λ (i : ℕ). get_or a.bus.slots i absent_slot) e in
    let below : at < length m / 512 = omega (arith, g.0) in
    let part = ap (λ (l : List (List ℕ)). get_or l at []) c.as_chunks.ensures.front ∙ chunk-at 512 (length m / 512) at m below ∙ ap (λ (i : ℕ). take 512 (drop (512 * i) m)) e in
    record {
      buffer_value = plan-alone a.bus m a.slot a.image.now a.buffer.now fit usual _ _ _ _ there found part c.in-Ok.ensures.1.same c.alone.ensures;
      typed = λ z. record {
        slot = slot-typed a.slot a.bus _ at e eight g.0 (g.1 absent_slot) c.unplanned.ensures.typed;
        bytes = every-from (λ n. n ≤ 255) 0 a.image.now (λ i l. omega (arith, c.type_inv.image i));
      };
    }
