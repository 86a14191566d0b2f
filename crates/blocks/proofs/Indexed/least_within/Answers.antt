-- `blocks::Indexed::least_within` meets its contract: the range is the blocks wholly inside it, and an edge on either side.
use Rattle.std.proofs.Common.{◌≡◌, ◌*◌, ◌<◌, ◌≤◌, ℕ, length, arith}
use Rattle.blocks.specs.Private.{Covers}
use Rattle.blocks.proofs.Covering.{begins_inside, covers_part, covers_blocks, covers_to, covers_both}
use Rattle.blocks.proofs.Indexed.least_within.Goals as goal
use Rattle.blocks.proofs.Indexed.least_within.Goals.{Joined-i-from, then-i-from, else-i-from}

pub returns-then-end-first : goal.returns-then-end-first
returns-then-end-first c =
    let s = c.args.self in
    covers_part s.take.now s.index.now c.args.i c.args.e c.least_from.result c.requires.0 c.requires.1 c.least_from.ensures

-- with what is before the blocks, as far as the blocks go
from_left : (c : Joined-i-from) (m : ℕ) → 64 * c.block_count-first.result < m → m ≤ length c.args.self.take.now
    → Covers c.args.self.take.now c.args.self.index.now (64 * c.block_count-first.result) m c.least_of_blocks-found.result
    → Covers c.args.self.take.now c.args.self.index.now c.args.i m c.if-i-from.found
from_left c m l h o =
    let s = c.args.self in
    let from = 64 * c.block_count-first.result in
    let begins = begins_inside (length s.take.now) c.args.i c.args.e c.block_count-first.result c.blocks_before-end.result c.requires.1 c.block_count-first.ensures c.blocks_before-end.ensures
    c.if-end-first.false in
    elim c.if-i-from.branch [
      | then-i-from w ↦
          let part = covers_part s.take.now s.index.now c.args.i from w.least_from-then-i-from.result w.if-i-from.true (omega (arith, l, h)) w.least_from-then-i-from.ensures in
          rw (w.found-is, w.lower-found.ensures) (covers_both s.take.now s.index.now c.args.i from m w.least_from-then-i-from.result c.least_of_blocks-found.result w.if-i-from.true l h part o)
      | else-i-from w ↦ let same : c.args.i ≡ from = omega (arith, w.if-i-from.false, begins.0) in rw (w.found-is, same) o
    ]

pub returns-then-to-e : goal.returns-then-to-e
returns-then-to-e c =
    let s = c.args.self in
    let to = 64 * c.blocks_before-end.result in
    let blocks = covers_blocks s.take.now s.index.now c.block_count-first.result c.blocks_before-end.result c.least_of_blocks-found.result c.least_of_blocks-found.ensures in
    let left = from_left (goal.at.returns-then-to-e c).Joined-i-from to (omega (arith, c.if-end-first.false)) (omega (arith, c.if-to-e.true, c.requires.1)) blocks in
    let part = covers_part s.take.now s.index.now to c.args.e c.least_from-then-to-e.result c.if-to-e.true c.requires.1 c.least_from-then-to-e.ensures in
    rw c.lower-found-then-to-e.ensures (covers_both s.take.now s.index.now c.args.i to c.args.e c.if-i-from.found c.least_from-then-to-e.result (omega (arith, c.block_count-first.ensures, c.if-end-first.false)) c.if-to-e.true c.requires.1 left part)

pub returns-else-to-e : goal.returns-else-to-e
returns-else-to-e c =
    let s = c.args.self in
    let begins = begins_inside (length s.take.now) c.args.i c.args.e c.block_count-first.result c.blocks_before-end.result c.requires.1 c.block_count-first.ensures c.blocks_before-end.ensures
    c.if-end-first.false in
    from_left (goal.at.returns-else-to-e c).Joined-i-from c.args.e begins.1 c.requires.1
    (covers_to s.take.now s.index.now c.block_count-first.result c.blocks_before-end.result c.args.e c.least_of_blocks-found.result c.requires.1 c.blocks_before-end.ensures c.if-to-e.false
    c.least_of_blocks-found.ensures)
