-- `readout::run` meets its contract: the lines of an opening, of the calls that follow, of bytes that are left and of the end are a whole run's.
use Rattle.readout.proofs.Whole.{whole}
use Rattle.readout.proofs.run.Goals as goal

pub returns : goal.returns
returns c = record {
  text =
      whole c.args.input.bytes.now (rw c.number_at.ensures at c.open-opened.ensures) c.follow-progress.ensures.follows c.requires.some c.opening.ensures.text
      c.put_stop.ensures.text c.end.ensures.text;
}
