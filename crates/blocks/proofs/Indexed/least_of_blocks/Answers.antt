-- `blocks::Indexed::least_of_blocks` meets its contract: the index has the block, and the take the place in it.
use Rattle.std.proofs.Common.{rules, ◌≡◌, to_z, of_z, w32}
use mir.Val.{SFits}
use mir.Facts.{to_z-of_z}
use Rattle.blocks.proofs.Covering.{of_blocks}
use Rattle.blocks.proofs.Indexed.least_of_blocks.Goals as goal

pub returns : goal.returns
returns c =
    let s = c.args.self in
    let fits : SFits w32 c.least_of_many-entry.result.value = search rules in
    let same : to_z w32 (of_z w32 c.least_of_many-entry.result.value) ≡ c.least_of_many-entry.result.value =
    to_z-of_z fits in
    rw same
    (of_blocks
    s.take.now
    s.index.now
    c.args.first
    c.args.end
    c.least_of_many-entry.result.value
    c.least_of_many-entry.result.place.0
    c.place_of-place.result
    c.requires.0
    c.requires.1
    s.fitting
    c.least_of_many-entry.ensures.0
    c.least_of_many-entry.ensures.1
    (rw (c.block.ensures, same) at c.place_of-place.ensures))
