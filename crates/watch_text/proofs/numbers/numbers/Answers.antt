-- Part by part, each behind the others.
use Prim.Native.Nat.{ℕ}
use mathlib.Core.Path.{◌≡◌, ◌∙◌}
use mathlib.Core.Bool.{false}
use mathlib.Core.List.{map}
use borrow.Author.Rules.{rules}
use lib.ListN.{replicate}
use Rattle.std.proofs.lemmas.List.{map-id}
use Rattle.script_text.proofs.letters.Laws.{put_on}
use Rattle.watch_text.specs.Numbers.{bit}
use Rattle.watch_text.proofs.numbers.Laws.{Sized, mapped, sixty-parts, sixty-full, all-stored}
use Rattle.watch_text.proofs.numbers.numbers.Goals as goal

pub returns : goal.returns
unfolding bit
returns c =
    let s = c.args.s in
    let z : Sized s = (search rules, search rules, search rules, search rules) in
    let protection : c.map.result ≡ map bit s.protection = mapped _ bit _ (λ x y q k. search rules) _ _ 4 false z.0 c.map.ensures.items in
    let coming : c.map-2.result ≡ map bit s.coming = mapped _ bit _ (λ x y q k. search rules) _ _ 4 false z.1 c.map-2.ensures.items in
    let latch : c.map-3.result ≡ s.latch = mapped _ (λ (n : ℕ). n) _ (λ x y q k. search rules) _ _ 16 0 z.2 c.map-3.ensures.items ∙ map-id s.latch in
    let marks : c.map-4.result ≡ map bit s.marks = mapped _ bit _ (λ x y q k. search rules) _ _ 16 false z.3 c.map-4.ensures.items in
    let p =
    put_on (replicate 60 0) _ _ 0 _ _ _ _ c.put-protection.ensures (put_on _ _ _ _ _ _ _ _ c.put-coming.ensures (put_on _ _ _ _ _ _ _ _ c.put-latch.ensures
    (put_on _ _ _ _ _ _ _ _ c.put-marks.ensures (put_on _ _ _ _ _ _ _ _ c.put-sensor.ensures (put_on _ _ _ _ _ _ _ _ c.put-kind.ensures c.put.ensures))))) in
    let q = rw (c.plain_numbers.ensures, protection, coming, latch, marks, c.sensor_numbers.ensures, c.kind_numbers.ensures, sixty-parts s z) at p.1 in
    q ∙ all-stored 60 _ (sixty-full s z)
