use mathlib.Core.Path.{◌≡◌}
use Prim.Native.Nat.{◌<◌, ◌≤◌}
use native.Mathlib.Omega.{arith}
use lib.ListN.{get_or}
use Rattle.std.proofs.lemmas.Bool.Decides.{nat_tests}
use Rattle.layout.specs.declared.Held.{Held}
use Rattle.layout.specs.Words.{mark_word}
use Rattle.table.specs.Marks.{Chain, Live}
use Rattle.table.proofs.Chains.{chain_below}
use Rattle.table.proofs.Answers.{own_row, only_row}
use Rattle.table.proofs.Walking.{begun, passed, too_early}
use Rattle.table.proofs.further.Goals as goal
use Rattle.table.proofs.further.Goals.{Else-le}

-- it is an older row
older : (c : Else-le) → get_or c.args.area.now c.link.result 0 < c.loop.top.0
older c = grind (arith, nat_tests)

pub loop-init : goal.loop-init
loop-init c = begun _ _ _ _

pub returns-then-le : goal.returns-then-le
returns-then-le c = record {
  sound = λ h e. cc;
  complete = λ rising h l d. absurd (
      let b = chain_below (c.loop.invariant.rest h (rw c.active_mark-sought.ensures l.mark) d) in
      let n : c.loop.top.0 ≤ get_or c.args.area.now c.link.result 0 = grind (arith, nat_tests) in
      omega (arith, rw c.link.ensures at n));
}

pub returns-then-mark-sought : goal.returns-then-mark-sought
returns-then-mark-sought c =
    let a = c.args in
    let g : Held = record { 0 = get_or a.area.now c.link.result 0 } in
    let l : Live a.area.now a.lane a.rows a.p g = record {
      row = omega (arith, older (goal.at.returns-then-mark-sought c).Else-le);
      mark = rw (← c.mark.ensures, ← c.active_mark-sought.ensures) c.if-mark-sought.true;
    } in
    record { sound = own_row l; complete = λ rising h m d. only_row l rising h m }

pub returns-then-mark-sought-2 : goal.returns-then-mark-sought-2
returns-then-mark-sought-2 c =
    let a = c.args in
    let g : Held = record { 0 = get_or a.area.now c.link.result 0 } in
    record {
      sound = λ h e. cc;
      complete = λ rising h l d.
          let m : mark_word a.area.now a.lane h ≡ c.active_mark-sought.result = rw c.active_mark-sought.ensures l.mark in
          let on : Chain a.area.now a.lane h c.loop.top g = rw c.link.ensures (c.loop.invariant.rest h m d) in
          absurd (too_early a.area.now a.lane a.rows {g = g} rising (omega (arith, older (goal.at.returns-then-mark-sought-2 c).Else-le)) (rw (← c.mark.ensures, m) c.if-mark-sought-2.true) on);
    }

pub loop-preserved : goal.loop-preserved
loop-preserved c = passed c.loop.invariant (record { 0 = get_or c.args.area.now c.link.result 0 }) (rw c.link.ensures) (older (goal.at.loop-preserved c).Else-le) (λ e. c.if-mark-sought.false (rw c.mark.ensures e))

pub returns : goal.returns
returns c = let e = c.by_halves.ensures in record { sound = e.sound; complete = λ rising h l d. e.complete rising h l }
