-- Bit by bit.
use Rattle.std.proofs.Common.{rules}
use Rattle.save_fields.proofs.shares.Laws.{bits-from}
use Rattle.save_fields.proofs.shares.bits_in.Goals as goal

pub returns : goal.returns
returns g c = bits-from _ _ _ _ (λ k y q h. search rules) _ c.from_fn.ensures.items.long c.from_fn.ensures.items.each
