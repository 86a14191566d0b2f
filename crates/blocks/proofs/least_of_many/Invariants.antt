-- `blocks::least_of_many` meets its contract: after some blocks the least of theirs and its block are known, and the values behind them are left.
use Rattle.std.proofs.Common.{◌≡◌, ◌*◌, ◌≤◌, length, drop}
use Rattle.std.specs.Iterator.Adapters.{enumerate_source, enumerate_count}
use Rattle.std.specs.Slice.Iter.{chunks_rest, chunks_size}
use Rattle.blocks.specs.Takes.{block_count}
use Rattle.blocks.proofs.Indexes.{Led}
use Rattle.blocks.proofs.least_of_many.Given as goal

abbrev pub invariant-loop-b : goal.invariant-loop-b
invariant-loop-b l = record {
  size : chunks_size (enumerate_source l.b-iterator) ≡ 64;
  rest : chunks_rest (enumerate_source l.b-iterator) ≡ drop (64 * enumerate_count l.b-iterator) l.values;
  few : enumerate_count l.b-iterator ≤ block_count (length l.values);
  led : Led l.values (enumerate_count l.b-iterator) l.at l.value;
}
