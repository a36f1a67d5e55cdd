-- One slot more at each turn.
use Rattle.std.proofs.Common.{rules, ◌≡◌, ◌∙◌, ◌+◌, ◌*◌, ◌-◌, ℕ, length, take, drop, ap, lit<, arith}
use Rattle.proof_lists.specs.Stores.{copied-over}
use Rattle.rules.specs.Modelled.{slot_bytes}
use Rattle.rules.proofs.Past.{no_slot}
use Rattle.save_rules.proofs.Places.{fixed-there}
use Rattle.save_fields.proofs.offsets.Laws.{begins-small, size_fits}
use Rattle.save_restore.proofs.Laws.{place-first, place-step, place-small, share-inside, stored-none, stored-turn}
use Rattle.save_restore.proofs.Reading.store.Goals as goal

pub overflow_add-at : goal.overflow_add-at
overflow_add-at c = omega (arith, c.begins-at.ensures, begins-small 1 c.args.self.now.slots)

pub loop-i-init : goal.loop-i-init
loop-i-init c =
    record { sized = c.requires; at = ap (λ (n : ℕ). n + 3) c.begins-at.ensures ∙ place-first 1 c.args.self.now.slots; stored = stored-none _ _ _ }

pub overflow_add-from : goal.overflow_add-from
overflow_add-from c = let l = c.loop-i in omega (arith, size_fits _ _ _ c.size-n.ensures)

pub slice_bounds-copy_from_slice-end : goal.slice_bounds-copy_from_slice-end
slice_bounds-copy_from_slice-end c = let l = c.loop-i in omega (arith, c.requires, size_fits _ _ _ c.size-n.ensures)

pub overflow_add-at-in-loop-i : goal.overflow_add-at-in-loop-i
overflow_add-at-in-loop-i c = let l = c.loop-i in omega (arith, l.invariant.at, place-small 1 l.i c.args.self.now.slots, size_fits _ _ _ c.size-n.ensures)

pub slice_bounds-copy_from_slice-end-in-loop-i : goal.slice_bounds-copy_from_slice-end-in-loop-i
slice_bounds-copy_from_slice-end-in-loop-i c =
    let l = c.loop-i in
    let b = c.args.self.now in
    let eight : length b.slots ≡ 8 = search rules in
    let w = share-inside 1 l.i l.at _ b.slots b.form.now no_slot (lit< tt) (fixed-there 1 b.slots (lit< tt)) (omega arith) eight b.whole l.invariant.at c.size-n.ensures in
    omega (arith, w)

pub loop-i-preserved : goal.loop-i-preserved
loop-i-preserved c =
    let l = c.loop-i in
    let b = c.args.self.now in
    let size = c.size-n.ensures in
    let eight : length b.slots ≡ 8 = search rules in
    let p = stored-turn l.i l.at _ b.form.now b.slots c.args.memory.now l.memory _ no_slot (omega arith) eight b.whole (omega (arith, c.requires)) l.invariant.at size l.invariant.stored
    (copied-over _ _ (take (slot_bytes * l.i + c.size-n.result - slot_bytes * l.i) (drop (slot_bytes * l.i) l.memory)) c.copy_from_slice.ensures.after
    (omega (arith, c.copy_from_slice.ensures.len, ap length c.copy_from_slice.ensures.after))) in
    record { sized = l.invariant.sized; at = place-step 1 l.i _ _ b.slots no_slot (omega arith) l.invariant.at size; stored = p }
