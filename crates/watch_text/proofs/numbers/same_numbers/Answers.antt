-- With noughts behind them they are the same where they are without.
use mathlib.Core.Path.{◌∙◌, ap₂}
use borrow.Author.Rules.{rules}
use Rattle.proof_lists.specs.Same.{same}
use Rattle.watch_text.proofs.numbers.Laws.{paired, sixty-same}
use Rattle.watch_text.proofs.numbers.same_numbers.Goals as goal

pub returns : goal.returns
returns c =
    c.eq.ensures ∙ paired _ _ ∙ ap₂ same c.numbers.ensures c.numbers-2.ensures
    ∙ sixty-same c.args.a c.args.b (search rules, search rules, search rules, search rules) (search rules, search rules, search rules, search rules)
