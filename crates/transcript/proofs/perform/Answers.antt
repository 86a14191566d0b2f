-- `transcript::perform` meets its contract: the line of a command takes no more than eleven bytes for each byte of it.
use native.Mathlib.Omega.{arith}
use Rattle.transcript.proofs.Rooms.{takes}
use Rattle.transcript.proofs.perform.Goals as goal

pub returns-clause-few : goal.returns-clause-few
returns-clause-few c = takes c.args.command c.apply-answer.ensures (omega (arith, c.requires.number)) c.answer.ensures.text c.answer.ensures.few
