-- `gain::gain` meets its contract: behind both tests the value's size is at most 240, and the entry is the largest that fits.
use Rattle.std.proofs.Common.{◌≡◌, ◌∙◌, false, rules}
use Rattle.std.proofs.Math.Facts.{to_z-of_z}
use lib.Dec.{lit≤}
use lib.IntN.{negsuc, nat_abs}
use lib.Signed.{lt_z}
use mir.Syntax.{w32}
use mir.Val.{to_z, of_z}
use Rattle.gain.proofs.Rule.{entry_largest, largest_only}
use Rattle.gain.proofs.Cases.{between}
use Rattle.gain.proofs.gain.Goals as goal

pub returns : goal.returns
returns c =
    let v = c.args.v in
    let tested : lt_z (to_z w32 (of_z w32 v)) (negsuc 239) ≡ false = search rules in
    largest_only (nat_abs v) c.entry.result _ (rw (c.unsigned_abs.ensures.value, to_z-of_z c.ranges.v) at c.entry.ensures) (entry_largest _)
    ∙ between v (lit≤ tt) (simp (to_z-of_z, c.ranges.v) at c.if-v-ge0.false) (simp (to_z-of_z, c.ranges.v) at tested)
