-- `halves::first_near_top` meets its contract. The test holds of the number at `top`; a turn asks about the one below it, and what is left after the looks is searched by halves.
use Rattle.std.proofs.Common.{◌<◌, ◌≤◌, true}
use Rattle.halves.proofs.first_near_top.Given as goal

abbrev pub invariant-loop : goal.invariant-loop
invariant-loop g l = record {
  within : l.top ≤ l.count;
  here : l.top < l.count → goal.F-post g l.test l.top true;
}
