-- One slot more at each turn.
use Rattle.std.proofs.Common.{rules, ◌≡◌, ◌∙◌, ◌+◌, ◌<◌, ℕ, length, get_or, ap, length-set, arith}
use Rattle.proof_lists.specs.Each.{map_to-none, map_to-full}
use Rattle.rules.proofs.Past.{no_slot}
use Rattle.save_rules.specs.Form.{field_at}
use Rattle.save_rules.specs.Reading.{read_shares}
use Rattle.save_fields.specs.Rows.{row_of}
use Rattle.save_fields.proofs.offsets.Laws.{begins-small, size_fits, row_below}
use Rattle.save_restore.proofs.Laws.{read_by, place-first, place-step, place-small, read_step}
use Rattle.save_restore.proofs.read_shares.Goals as goal

pub overflow_add-at : goal.overflow_add-at
overflow_add-at c = let a = c.args in omega (arith, c.begins-at.ensures, begins-small (row_of a.field) a.slots.now, row_below a.field)

pub loop-i-init : goal.loop-i-init
loop-i-init c =
    let a = c.args in
    record { at = ap (λ (n : ℕ). n + 3) c.begins-at.ensures ∙ place-first (row_of a.field) a.slots.now; long = search rules; read = map_to-none _ _ _ }

pub read-requires : goal.read-requires
read-requires c = let l = c.loop-i in let a = c.args in omega (arith, l.invariant.at, place-small (row_of a.field) l.i a.slots.now, row_below a.field)

pub overflow_add-at-in-loop-i : goal.overflow_add-at-in-loop-i
overflow_add-at-in-loop-i c =
    let l = c.loop-i in
    let a = c.args in
    omega (arith, l.invariant.at, place-small (row_of a.field) l.i a.slots.now, size_fits _ _ _ c.size-at.ensures, row_below a.field)

pub loop-i-preserved : goal.loop-i-preserved
loop-i-preserved c =
    let l = c.loop-i in
    let a = c.args in
    let t = row_of a.field in
    let eight : length a.slots.now ≡ 8 = search rules in
    let h : l.i < length a.slots.now = omega arith in
    let here = ap (λ (n : ℕ). (field_at t).reads a.form.now n (get_or a.slots.now l.i no_slot)) l.invariant.at in
    record {
      at = place-step t l.i _ _ a.slots.now no_slot h l.invariant.at c.size-at.ensures;
      long = rw length-set l.invariant.long;
      read = read_step t l.i a.form.now a.slots.now l.all _ no_slot h l.invariant.read (c.read.ensures ∙ here);
    }

pub returns : goal.returns
unfolding read_shares
returns c =
    let l = c.loop-i in
    let a = c.args in
    let eight : length a.slots.now ≡ 8 = search rules in
    l.invariant.read ∙ map_to-full (read_by (row_of a.field) a.form.now a.slots.now) 0 l.i a.slots.now (omega arith)
