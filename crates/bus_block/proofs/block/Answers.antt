-- The empty part, or the block's place in the memory.
use Rattle.rules.proofs.Document.Reader.{block-fits}
use Rattle.rules.specs.Reader.{block_bytes}
use native.Mathlib.Omega.{arith}
use Prim.Native.Nat.{◌+◌, ◌-◌, ◌*◌}
use mathlib.Core.Path.{◌≡◌, sym, ◌∙◌}
use borrow.Author.Rules.{rules}
use Rattle.bus_block.proofs.block.Goals as goal

pub returns-then-no_block : goal.returns-then-no_block
unfolding block_bytes
returns-then-no_block c =
    let none = sym c.no_block.ensures ∙ c.if-no_block.true in
    (rw none, search rules, rw none (search rules))

pub slice_bounds-result-end-2 : goal.slice_bounds-result-end-2
slice_bounds-result-end-2 c = omega (arith, block-fits _ _ _ _ (sym c.no_block.ensures ∙ c.if-no_block.false))

pub returns : goal.returns
unfolding block_bytes
returns c =
    let at = 512 * c.args.n.0 + 128 * c.args.k.0 in
    let there = sym c.no_block.ensures ∙ c.if-no_block.false in
    let long : at + 128 - at ≡ 128 = omega arith in
    (rw (there, c.from.ensures, c.from-2.ensures, long), search rules, rw (there, c.from.ensures, c.from-2.ensures) (search rules))
