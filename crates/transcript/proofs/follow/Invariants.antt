-- `transcript::follow` meets its contract. The loop's invariant: the calls made so far are those of the commands before the present place, in turn, and the lines written are theirs. Each
-- command that is read moves the place by a byte or more, so that the measure, what is left of the stream, falls; where none is read the calls are those of the whole stream.
use Prim.Native.Nat.{◌-◌}
use lib.ListN.{length}
use Rattle.transcript.proofs.Streams.{Reached}
use Rattle.transcript.proofs.follow.Given as goal

abbrev pub invariant-loop-progress : goal.invariant-loop-progress
invariant-loop-progress l = Reached l.fn.input.bytes.now l.initial.area l.fn.session l.initial.page l.area l.page l.progress l.at

abbrev pub decreases-loop-progress : goal.decreases-loop-progress
decreases-loop-progress l = length l.fn.input.bytes.now - l.at
