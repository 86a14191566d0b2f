-- `ranges::open` meets its contract: the header is zeros but for the four lanes that are written into it, each of them empty.
use native.Mathlib.Omega.{arith}
use Rattle.std.proofs.Common.{sym}
use Rattle.std.proofs.lemmas.List.{length-take-le}
use Rattle.ranges.proofs.Promises.{open_done}
use Rattle.ranges.proofs.open.Goals as goal

pub slice_bounds-fill-end-2 : goal.slice_bounds-fill-end-2
slice_bounds-fill-end-2 c = sym (length-take-le _ c.args.area.now (omega arith))

pub returns : goal.returns
returns c =
    rw (c.write-4.ensures, c.empty-4.ensures, c.write-3.ensures, c.empty-3.ensures, c.write-2.ensures, c.empty-2.ensures, c.write.ensures, c.empty.ensures)
    (open_done _ _ (omega arith) (c.fill.ensures.after (λ y e. e)))
