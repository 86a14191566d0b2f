use native.Mathlib.Omega.{arith}
use borrow.Author.Rules.{rules}
use Rattle.text.proofs.Texts.{put_then}
use Rattle.listing.proofs.Texts.{values_next}
use Rattle.listing.proofs.lines.index.Goals as goal

pub loop-entry-preserved : goal.loop-entry-preserved
loop-entry-preserved c =
    (rw (values_next c.args.entries.now c.loop-entry.entry-index (search rules)) (put_then c.loop-entry.invariant.0 (search rules)), omega (arith, c.loop-entry.invariant.1, c.put_value.ensures.few))
