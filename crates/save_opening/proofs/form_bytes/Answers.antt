-- The number of the first four bytes.
use borrow.Author.Rules.{rules}
use Rattle.save_opening.specs.Opening.{form_bytes}
use Rattle.save_opening.proofs.form_bytes.Goals as goal

pub returns : goal.returns
unfolding form_bytes
returns c = search rules
