-- The two bytes of the pair.
use mathlib.Core.Path.{refl}
use Rattle.script_text.specs.Records.{pair_at}
use Rattle.script_text.proofs.records.pair_at.Goals as goal

pub returns : goal.returns
unfolding pair_at
returns c = refl
