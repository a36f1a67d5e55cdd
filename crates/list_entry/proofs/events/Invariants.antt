use Rattle.std.proofs.Common.{length, ◌-◌, ◌≡◌, true, ◌≤◌}
use Rattle.rules.specs.Modelled.{memory_bytes}
use Rattle.rules.specs.Refusals.{in_range}
use Rattle.list_entry.proofs.Onward.{rest_of}
use Rattle.list_entry.proofs.events.Given as goal

-- memory and state go on standing; what is left to do comes to what all of it came to
abbrev pub invariant-loop-i : goal.invariant-loop-i
invariant-loop-i l = record {
  upto : l.i ≤ length l.list;
  stands : l.stand ≡ true → (in_range l.b ≡ true) × (length l.mem ≡ memory_bytes);
  to_run : rest_of l.i (record { bus = l.b; memory = l.mem }) l.answers l.list
      ≡ rest_of 0 (record { bus = l.fn.bus; memory = l.fn.mem }) l.fn.answers l.list;
}

abbrev pub decreases-loop-i : goal.decreases-loop-i
decreases-loop-i l = length l.list - l.i
