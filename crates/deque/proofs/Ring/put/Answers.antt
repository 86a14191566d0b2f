use Rattle.std.proofs.Common.{rules}
use Rattle.std.proofs.Math.Facts.{to_z-of_z}
use mir.Syntax.{w32}
use mir.Val.{SFits}
use Rattle.deque.proofs.Ring.put.Goals as goal

pub returns : goal.returns
returns c =
    let f : SFits w32 c.args.m.value = search rules in
    record {
      k = c.taken_over-k.result;
      found = rw (to_z-of_z f) at c.taken_over-k.ensures;
      long = search rules;
      head = search rules;
      faithful = rw c.pack-word.ensures.0 at c.pack-word.ensures.1;
      new = search rules;
      again = search rules;
      kept = search rules;
      returns = search rules;
    }
