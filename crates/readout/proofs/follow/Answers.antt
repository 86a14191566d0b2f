use borrow.Author.Rules.{rules, sfits_of}
use mathlib.Core.Path.{◌≡◌}
use mir.Syntax.{w32}
use mir.Val.{to_z, of_z}
use mir.Facts.{to_z-of_z}
use Rattle.readout.proofs.Values.{reached_start, reached_more}
use Rattle.readout.proofs.follow.Goals as goal

pub loop-four-init : goal.loop-four-init
loop-four-init c = (search rules, reached_start (search rules) (search rules) (search rules) (search rules) (search rules))

pub loop-four-preserved : goal.loop-four-preserved
loop-four-preserved c =
    let e : to_z w32 (of_z w32 c.value_at.result) ≡ c.value_at.result = to_z-of_z {w = w32} (sfits_of c.value_at.type_inv) in
    (search rules, reached_more c.in-Some.four.now c.loop-four.invariant.1 (search rules) (search rules) c.value_at.ensures (rw e at c.perform-progress.ensures.performs) (search rules) (search rules))
