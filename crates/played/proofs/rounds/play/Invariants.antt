-- Each round reads three commands more, so that their number fits.
use Rattle.std.proofs.Common.{◌≡◌, ◌*◌}
use Rattle.played.proofs.rounds.play.Given as goal

abbrev pub invariant-loop-i : goal.invariant-loop-i
invariant-loop-i l = l.progress.read ≡ 3 * l._i
