-- `blocks::build` meets its contract: after some blocks the first entries are the index's, and the values behind them are left.
use Rattle.std.proofs.Common.{◌≡◌, ◌*◌, ◌≤◌, length, drop}
use lib.ListN.{take as front}
use Rattle.std.specs.Iterator.Adapters.{enumerate_source, enumerate_count}
use Rattle.std.specs.Slice.Iter.{chunks_rest, chunks_size}
use Rattle.blocks.specs.Takes.{block_count, block_minima}
use Rattle.blocks.proofs.build.Given as goal

abbrev pub invariant-loop-b : goal.invariant-loop-b
invariant-loop-b l = record {
  size : chunks_size (enumerate_source l.b-iterator) ≡ 64;
  rest : chunks_rest (enumerate_source l.b-iterator) ≡ drop (64 * enumerate_count l.b-iterator) l.take;
  few : enumerate_count l.b-iterator ≤ block_count (length l.take);
  built : front (enumerate_count l.b-iterator) l.index ≡ front (enumerate_count l.b-iterator) (block_minima l.take);
}
