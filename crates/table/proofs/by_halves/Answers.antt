-- `table::by_halves` meets its contract: where the row that is found has another mark than the one sought, no row has that.
use Rattle.std.proofs.Common.{arith}
use Rattle.table.specs.Marks.{Live}
use Rattle.table.proofs.Answers.{own_row, only_row}
use Rattle.table.proofs.Halving.{missed}
use Rattle.table.proofs.by_halves.Goals as goal

pub returns-then-area-mark : goal.returns-then-area-mark
returns-then-area-mark c =
    let a = c.args in
    let l : Live a.area.now a.lane a.rows a.p (record { 0 = c.saturating_sub.result }) = record { row = omega (arith, c.saturating_sub.ensures, c.first_where-behind.ensures.within, c.requires.0); mark = rw (← c.mark.ensures, ← c.active_mark-sought.ensures) c.if-area-mark.true } in
    record { sound = own_row l; complete = only_row l }

pub returns : goal.returns
returns c =
    let a = c.args in
    let s = c.first_where-behind.ensures in
    record {
      sound = λ h e. cc;
      complete = λ rising h l. absurd (missed a.area.now a.lane {rows = a.rows} s.here s.before s.within (λ e. c.if-area-mark.false (rw (c.mark.ensures, c.saturating_sub.ensures) e)) rising h l.row (rw c.active_mark-sought.ensures l.mark));
    }
