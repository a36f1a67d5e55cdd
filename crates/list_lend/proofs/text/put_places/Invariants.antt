-- The places passed have their lines.
use Rattle.std.proofs.Common.{◌*◌, ◌≤◌, take}
use Rattle.script_text.proofs.letters.Laws.{Put}
use Rattle.list_lend.specs.Listed.{place_lines}
use Rattle.list_lend.proofs.text.put_places.Given as goal

abbrev pub invariant-loop-a : goal.invariant-loop-a
invariant-loop-a l = record {
  short : l.end ≤ 4 * l.a-index;
  lines : Put l.initial.out 0 (place_lines (take l.a-index l.answers)) l.end l.out;
}
