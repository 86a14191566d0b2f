-- `readout::follow` meets its contract. The loop's invariant: the calls made so far are those of the values before what is left of the bytes, in turn, and the lines written are theirs.
use mathlib.Core.Path.{◌≡◌}
use Rattle.std.specs.Slice.Iter.{chunks_exact_rest, chunks_exact_size}
use Rattle.readout.proofs.Values.{Reached}
use Rattle.readout.proofs.follow.Given as goal

abbrev pub invariant-loop-four : goal.invariant-loop-four
invariant-loop-four l =
    (chunks_exact_size l.four-iterator ≡ 4)
    × Reached l.fn.input.bytes.now l.initial.area l.fn.session l.initial.page (chunks_exact_rest l.four-iterator) l.area l.page l.progress
