-- The records run are those of the bytes that have come, and the bytes kept are what is left of them.
use mathlib.Core.Path.{refl}
use Rattle.script_turns.proofs.turns.StepLaws.{turn_by}
use Rattle.script_turns.proofs.turns.turn.Goals as goal

pub returns : goal.returns
returns c = turn_by _ _ _ _ _ _ _ _ _ _ c.requires.0 refl c.run-end.ensures c.copy_within.ensures.after
