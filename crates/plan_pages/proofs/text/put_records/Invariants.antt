-- The records passed have their lines.
use Rattle.std.proofs.Common.{◌≤◌}
use Rattle.script_text.proofs.letters.Laws.{Put}
use Rattle.plan_pages.specs.Listing.{record_lines}
use Rattle.plan_pages.proofs.text.put_records.Given as goal

abbrev pub invariant-loop-r : goal.invariant-loop-r
invariant-loop-r l = (l.r-index ≤ l.count) × Put l.initial.out l.at (record_lines l.records l.r-index) l.end l.out
