-- `endian::little_endian` meets its contract. The number is that of the bytes that were taken, from the last one down, and below 256 for each of them, so that of four bytes it fits 32 bits.
use Rattle.endian.proofs.Sums.{Summed}
use Rattle.endian.proofs.little_endian.Given as goal

abbrev pub invariant-loop-byte : goal.invariant-loop-byte
invariant-loop-byte l = Summed l.bytes l.byte-iterator.iter.rest.now l.number
