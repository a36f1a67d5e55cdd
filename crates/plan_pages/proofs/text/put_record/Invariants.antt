-- The bytes passed have their digits.
use Rattle.std.proofs.Common.{◌≤◌, length, take}
use Rattle.script_text.proofs.letters.Laws.{Put}
use Rattle.plan_pages.proofs.text.Laws.{hexes}
use Rattle.plan_pages.proofs.text.put_record.Given as goal

abbrev pub invariant-loop-b : goal.invariant-loop-b
invariant-loop-b l = (l.b-index ≤ length l.bytes) × Put l.initial.out l.at (hexes (take l.b-index l.bytes)) l.end l.out
