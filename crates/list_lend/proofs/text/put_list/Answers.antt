-- A call that was refused, or one that was taken.
use Rattle.list_lend.proofs.text.Laws.{refused-by, taken-by}
use Rattle.list_lend.proofs.text.put_list.Goals as goal

pub returns-in-Refused : goal.returns-in-Refused
returns-in-Refused c = refused-by _ _ _ _ _ _ c.in-Refused.is c.put_line-end.ensures

pub returns-in_default : goal.returns-in_default
returns-in_default c = taken-by c.args.done _ _ _ _ c.in_default.not-Refused c.put_places-end.ensures
