-- A place that is blank, or an answer.
use Rattle.std.proofs.Common.{sym, ◌∙◌}
use Rattle.list_lend.proofs.text.Laws.{same_blank, blank-by, answer-by}
use Rattle.list_lend.proofs.text.put_place.Goals as goal

pub returns-then-eq : goal.returns-then-eq
returns-then-eq c = blank-by _ _ _ _ _ (sym (c.eq.ensures ∙ same_blank c.args.a) ∙ c.if-eq.true) c.put.ensures

pub returns : goal.returns
returns c = answer-by _ _ _ _ _ (sym (c.eq.ensures ∙ same_blank c.args.a) ∙ c.if-eq.false) c.put_line.ensures
