-- Each of the eight is the pair of its place.
use borrow.Author.Rules.{rules}
use Rattle.script_text.proofs.records.Laws.{pairs-made}
use Rattle.script_text.proofs.records.pairs.Goals as goal

pub returns : goal.returns
returns c = pairs-made _ _ c.args.bytes.now _ (λ i p q k. search rules) c.from_fn.ensures.items
