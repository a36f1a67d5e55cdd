-- They are what the form has from there on.
use Rattle.std.proofs.Common.{◌∙◌}
use Rattle.save_restore.proofs.Laws.{starts-there}
use Rattle.save_restore.proofs.stands.Goals as goal

pub returns : goal.returns
returns c = let a = c.args in c.starts_with.ensures.value ∙ starts-there a.bytes.now a.form.now a.at
