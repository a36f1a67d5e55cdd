-- The bytes passed have their digits; then the line's end.
use Rattle.std.proofs.Common.{ℕ, ◌<◌, ◌∙◌, ap₂, arith, [], ◌∷◌, length, get_or, take, length-take, take_all}
use Rattle.std.proofs.lemmas.List.Edits.{sets}
use Rattle.plan_pages.specs.Listing.{hex_byte}
use Rattle.script_text.proofs.letters.Laws.{put_on}
use Rattle.plan_pages.proofs.text.Laws.{hexes, hexes-more, hexes-two, line-of, line-nine}
use Rattle.plan_pages.proofs.text.put_record.Goals as goal

pub put-end-requires : goal.put-end-requires
put-end-requires c =
    let l = c.loop-b in
    omega (arith, l.invariant.1.0, hexes-two (take l.b-index c.args.bytes.now), length-take l.b-index c.args.bytes.now)

pub loop-b-preserved : goal.loop-b-preserved
unfolding hex_byte
loop-b-preserved c =
    let l = c.loop-b in
    let r = c.args.bytes.now in
    let h : l.b-index < length r = omega arith in
    let e = c.put-end.ensures in
    let f = ap₂ (λ (x y : ℕ). sets l.out l.end (x ∷ y ∷ [])) c.hex_digit.ensures c.hex_digit-in-loop-b.ensures in
    let m = put_on _ _ _ _ _ _ (hexes (take l.b-index r)) (hex_byte (get_or r l.b-index 0)) l.invariant.1 (e.0, e.1 ∙ f) in
    (omega arith, rw (hexes-more r l.b-index h) at m)

pub put-requires : goal.put-requires
put-requires c =
    let l = c.loop-b in
    omega (arith, l.invariant.1.0, hexes-two (take l.b-index c.args.bytes.now), length-take l.b-index c.args.bytes.now)

pub returns : goal.returns
returns c =
    let l = c.loop-b in
    let r = c.args.bytes.now in
    let m = put_on _ _ _ _ _ _ (hexes (take l.b-index r)) (0x0A ∷ []) l.invariant.1 c.put.ensures in
    let n = rw (take_all l.b-index r (omega arith), line-of r c.told-bytes) at m in
    (omega (arith, n.0, line-nine r 0), n.1)
