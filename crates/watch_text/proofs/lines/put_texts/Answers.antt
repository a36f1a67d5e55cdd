-- After each turn one number more is put.
use mathlib.Core.Path.{◌≡◌, refl, sym}
use mathlib.Core.List.{map, []}
use native.Mathlib.Nat.{add-zero}
use borrow.Author.Rules.{rules}
use lib.ListN.{length, get_or, length-map}
use Rattle.std.proofs.lemmas.List.{length_push}
use Rattle.std.proofs.lemmas.Slice.Zip.{zip_turn, zip_end}
use Rattle.watch_text.specs.Lines.{texts_of}
use Rattle.watch_text.proofs.lines.Laws.{name-at, next-room, next-put, front-all}
use Rattle.watch_text.proofs.lines.put_texts.Goals as goal

pub loop-name-init : goal.loop-name-init
unfolding texts_of
loop-name-init c = (sym (add-zero _), refl)

pub put_text-at-requires : goal.put_text-at-requires
put_text-at-requires c =
    let ks = c.args.names.now in
    let vs = c.args.numbers.now in
    let z = zip_turn ks vs _ c.into_iter-name-iterator.result c.loop-name.name-iterator c.next.new.self _ (search rules) (search rules) c.loop-name.yielded_by _ c.in-Some.is c.next.ensures.steps in
    let n : c.in-Some.name.now.now ≡ get_or (map (λ name. name.now) ks) (length c.loop-name.yielded) [] = name-at (λ name. name.now) ks _ c.in-Some.name.now z.0 (z.2 _) in
    rw (n, z.3 0) (next-room _ vs _ _ _ _ _ c.loop-name.invariant (rw length-map z.0) z.1 c.requires)

pub loop-name-preserved : goal.loop-name-preserved
loop-name-preserved c =
    let ks = c.args.names.now in
    let vs = c.args.numbers.now in
    let z = zip_turn ks vs _ c.into_iter-name-iterator.result c.loop-name.name-iterator c.next.new.self _ (search rules) (search rules) c.loop-name.yielded_by _ c.in-Some.is c.next.ensures.steps in
    let n : c.in-Some.name.now.now ≡ get_or (map (λ name. name.now) ks) (length c.loop-name.yielded) [] = name-at (λ name. name.now) ks _ c.in-Some.name.now z.0 (z.2 _) in
    let p = rw (n, z.3 0) at c.put_text-at.ensures in
    rw length_push (next-put _ vs _ _ _ _ _ c.loop-name.invariant (rw length-map z.0) z.1 _ _ p)

pub returns : goal.returns
returns c =
    let ks = c.args.names.now in
    let vs = c.args.numbers.now in
    let z = zip_end ks vs _ c.into_iter-name-iterator.result c.loop-name.name-iterator c.next.new.self _ (search rules) (search rules) c.loop-name.yielded_by c.in-None.is c.next.ensures.steps in
    let f = front-all (map (λ name. name.now) ks) vs (length c.loop-name.yielded) (rw length-map z) in
    rw f at c.loop-name.invariant
