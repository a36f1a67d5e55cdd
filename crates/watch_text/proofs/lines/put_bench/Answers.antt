-- The slots of a bus, where there was none.
use Rattle.watch_text.proofs.lines.Laws.{bench-by}
use Rattle.watch_text.proofs.lines.put_bench.Goals as goal

pub returns : goal.returns
returns c = bench-by _ _ _ _ _ c.empty_bus.ensures c.put_changes.ensures
