use Rattle.std.proofs.Common.{length}
use Rattle.save_fields.proofs.shares.+bits.Given as goal

abbrev pub decreases-bits : goal.decreases-bits
decreases-bits l = length l.on.now
