-- One share more at each turn.
use Rattle.std.proofs.Common.{rules, ◌≡◌, ◌∙◌, ◌+◌, ◌<◌, ℕ, length, refl, ap, arith}
use Rattle.rules.proofs.Past.{no_slot}
use Rattle.save_rules.specs.Reading.{size_in}
use Rattle.save_fields.specs.Rows.{row_of}
use Rattle.save_fields.proofs.offsets.Laws.{begins-small, size_fits, row_below}
use Rattle.save_restore.proofs.Laws.{place-first, place-step, place-small, share-inside, tally-none, tally-step}
use Rattle.save_restore.proofs.Reading.shares_tally.Goals as goal

pub overflow_add-at : goal.overflow_add-at
overflow_add-at c = let a = c.args in omega (arith, c.begins-at.ensures, begins-small (row_of a.field) a.self.now.slots, row_below a.field)

pub loop-s-init : goal.loop-s-init
loop-s-init c =
    let a = c.args in
    record { there = c.requires; at = ap (λ (n : ℕ). n + 3) c.begins-at.ensures ∙ place-first (row_of a.field) a.self.now.slots; tallied = tally-none _ _ _ }

pub share_tallies-ok-requires : goal.share_tallies-ok-requires
share_tallies-ok-requires c =
    let l = c.loop-s in
    let a = c.args in
    let b = a.self.now in
    let eight : length b.slots ≡ 8 = search rules in
    share-inside (row_of a.field) l.s-index _ _ b.slots b.form.now no_slot (row_below a.field) l.invariant.there (omega arith) eight b.whole l.invariant.at (unfold size_in in refl)

pub overflow_add-at-in-loop-s : goal.overflow_add-at-in-loop-s
overflow_add-at-in-loop-s c =
    let l = c.loop-s in
    let a = c.args in
    omega (arith, l.invariant.at, place-small (row_of a.field) l.s-index a.self.now.slots, size_fits _ _ _ c.size-at.ensures, row_below a.field)

pub loop-s-preserved : goal.loop-s-preserved
loop-s-preserved c =
    let l = c.loop-s in
    let a = c.args in
    let b = a.self.now in
    let eight : length b.slots ≡ 8 = search rules in
    let h : l.s-index < length b.slots = omega arith in
    record {
      there = l.invariant.there;
      at = place-step (row_of a.field) l.s-index _ _ b.slots no_slot h l.invariant.at c.size-at.ensures;
      tallied = tally-step (row_of a.field) l.s-index l.at b.slots b.form.now no_slot l.ok _ h l.invariant.at l.invariant.tallied c.share_tallies-ok.ensures;
    }

pub returns : goal.returns
returns c = let l = c.loop-s in let e : l.s-index ≡ 8 = omega arith in rw (← e) l.invariant.tallied
