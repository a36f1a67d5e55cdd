-- Row by row; behind the last the table has the first.
use Rattle.std.proofs.Common.{rules}
use Rattle.save_fields.proofs.shares.Field.of_row.Goals as goal

pub returns : goal.returns
returns c = search rules
