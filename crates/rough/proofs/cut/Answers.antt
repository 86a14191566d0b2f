-- `rough::cut` meets its contract: the blocks wholly inside go from the first that begins at or after i to the last that ends at or before j, and each cut is where such a block begins, or the range's end.
use mathlib.Core.Path.{ap, ◌∙◌}
use Prim.Native.Nat.{ℕ, max}
use Rattle.blocks.specs.Takes.{block_count}
use Rattle.rough.proofs.Readings.{cuts_at}
use Rattle.rough.proofs.cut.Goals as goal

pub returns : goal.returns
returns c =
    let a = c.args in
    let inner = c.block_count-inner.ensures in
    let outer = c.max-outer.ensures ∙ ap (λ (x : ℕ). max x c.blocks_before.result) inner ∙ ap (max (block_count a.i)) c.blocks_before.ensures in
    cuts_at a.n a.i a.j _ c.requires.0 c.requires.1 inner outer c.min.ensures c.min-2.ensures
