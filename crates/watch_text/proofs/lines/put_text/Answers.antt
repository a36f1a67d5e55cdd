-- Its space, its letters, the sign and the digits.
use mathlib.Core.List.{[], ◌∷◌, ◌++◌}
use Rattle.script_text.specs.Decimal.{decimal}
use Rattle.script_text.proofs.letters.Laws.{Put, put_on}
use Rattle.watch_text.specs.Lines.{text_of}
use Rattle.watch_text.proofs.lines.put_text.Goals as goal

pub returns : goal.returns
unfolding text_of
returns c =
    let a = c.args in
    let name = c.as_bytes.result.now in
    let n = c.from.result in
    let d : Put c.put-sign.new.out c.put-sign.result (0x3D ∷ decimal n) c.put_decimal.result c.put_decimal.new.out =
    put_on _ _ _ _ _ _ (0x3D ∷ []) (decimal n) c.put-digits.ensures c.put_decimal.ensures in
    let p : Put a.out.now a.at (0x20 ∷ name ++ (0x3D ∷ decimal n)) c.put_decimal.result c.put_decimal.new.out =
    put_on _ _ _ _ _ _ (0x20 ∷ []) (name ++ (0x3D ∷ decimal n)) c.put-start.ensures (put_on _ _ _ _ _ _ name (0x3D ∷ decimal n) c.put-sign.ensures d) in
    rw (c.as_bytes.ensures.value, c.from.ensures) at p
