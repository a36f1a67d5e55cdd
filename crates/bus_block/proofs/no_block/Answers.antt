use Rattle.rules.specs.Refusals.{wrong_length, kinds_of, in_range}
use Rattle.rules.specs.Reader.{no_block}
use Rattle.bus_block.proofs.no_block.Goals as goal

pub returns : goal.returns
unfolding no_block wrong_length in_range kinds_of
returns c = rw (c.in_range.ensures, c.kind_at-kind.ensures)
