-- The letter, and the number behind it.
use native.Mathlib.Omega.{arith}
use Rattle.capture_pieces.proofs.text.Laws.{byte-digits}
use Rattle.capture_pieces.proofs.text.put_refused.Goals as goal

pub put_decimal-requires : goal.put_decimal-requires
put_decimal-requires c = omega (arith, byte-digits c.from.result (omega arith))
