-- The records passed are at the front.
use Rattle.std.proofs.Common.{◌≡◌, ◌*◌, ◌/◌, ◌≤◌, length, drop}
use Rattle.proof_lists.specs.Each.{filled}
use Rattle.list_lend.specs.Listed.{events_in}
use Rattle.list_lend.proofs.text.events_in.Given as goal

abbrev pub invariant-loop-i : goal.invariant-loop-i
invariant-loop-i l = record {
  within : 4 * l.i-iterator.count ≤ length l.records;
  rest : l.i-iterator.iter.rest.now ≡ drop (4 * l.i-iterator.count) l.records;
  size : l.i-iterator.iter.size ≡ 4;
  bound : length l.records ≤ 16384;
  room : length l.initial.all ≡ 4096;
  front : l.all ≡ filled l.initial.all (events_in l.records (length l.records / 4)) l.i-iterator.count;
}
