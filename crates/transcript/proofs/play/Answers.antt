-- `transcript::play` meets its contract: the lines of an opening of 4,352 words, of the calls that follow and of their end are a whole run's.
use Prim.Native.Nat.{ℕ}
use native.Mathlib.Omega.{arith}
use lib.ListN.{length-replicate}
use Rattle.transcript.proofs.Whole.{whole_run}
use Rattle.transcript.proofs.play.Goals as goal

pub returns : goal.returns
returns c = record {
  text = whole_run {n = 4352} (length-replicate {A = ℕ} _ 0) (omega arith) c.open-opened.ensures c.taps.ensures.text c.follow-progress.ensures.follows c.end.ensures.text;
}
