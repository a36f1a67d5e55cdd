-- The names that every slot has, and those of its kind.
use mathlib.Core.List.{map}
use native.Mathlib.Omega.{arith}
use borrow.Author.Rules.{rules}
use lib.ListN.{take, drop}
use Rattle.script_text.specs.Quoted.{quoted}
use Rattle.script_text.proofs.letters.Laws.{put_on}
use Rattle.watch_text.specs.Numbers.{numbers_of}
use Rattle.watch_text.specs.Lines.{common_names, kind_names, texts_of}
use Rattle.watch_text.proofs.numbers.Laws.{Sized, numbers-length}
use Rattle.watch_text.proofs.lines.Laws.{common-room, own-room, slot-texts}
use Rattle.watch_text.proofs.lines.put_numbers.Goals as goal

pub put_texts-own-requires : goal.put_texts-own-requires
unfolding common_names quoted
put_texts-own-requires c = omega (arith, common-room c.numbers-all.result (λ i. search rules))

pub put_own-requires : goal.put_own-requires
unfolding common_names quoted
put_own-requires c =
    omega (arith, c.put_texts-own.ensures, common-room c.numbers-all.result (λ i. search rules), own-room c.args.s c.numbers-all.result (λ i. search rules))

pub returns : goal.returns
unfolding common_names quoted
returns c =
    let a = c.args in
    let all = c.numbers-all.result in
    let z : Sized a.s = (search rules, search rules, search rules, search rules) in
    let p = put_on a.out.now _ _ a.from _ _ (texts_of (map quoted common_names) all) (texts_of (map quoted (kind_names a.s)) (take 3 (drop 57 all))) c.put_texts-own.ensures c.put_own.ensures in
    let q = rw (c.numbers-all.ensures, slot-texts a.s (numbers_of a.s) (numbers-length a.s z)) at p in
    (q.0, q.1, omega (arith, p.0, common-room all (λ i. search rules), own-room a.s all (λ i. search rules)))
