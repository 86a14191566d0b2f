use Rattle.std.proofs.Common.{rules, tests, ◌≡◌, ◌∙◌, ℕ, ◌+◌, ◌<◌, length, Bool}
use Prim.Native.Nat.{◌-◌, min}
use mathlib.Core.Bool.{cond, not}
use lib.Dec.{eqb}
use lib.ListN.{take, drop, length-drop}
use lib.Seq.{take_all}
use native.Mathlib.Omega.{arith}
use Rattle.std.proofs.lemmas.Iterator.{YieldsList-from_slice, YieldsList-from_map}
use Rattle.std.proofs.lemmas.Iterator.Consumers.{YieldsList-from_enumerate, sum_by_from_yields_List, fits_by_from_yields_list}
use Rattle.std.proofs.lemmas.List.FromFn.{length-enumerate_from}
use Rattle.std.proofs.lemmas.List.Sums.{count_by-le-length}
use Rattle.std.specs.List.{enumerate_from}
use Rattle.compare.specs.Words.{pattern_at}
use Rattle.compare.proofs.Behind.{off_behind}
use Rattle.compare.proofs.off_pattern.Goals as goal

-- the words from the index on are numbered from the first of them; each that is off the pattern adds one, and so the sum is no more than their number
pub sum-requires-clause-fits : goal.sum-requires-clause-fits
sum-requires-clause-fits c =
    let w = c.args.area.now in
    let k = c.min-from.result in
    let off : ℕ × ℕ → Bool = λ q. not (eqb q.1 (pattern_at (k + q.0))) in
    let cut : c.iter.result.rest.now ≡ take (length w - k) (drop k w) = search rules in
    let left : c.iter.result.rest.now ≡ drop k w = cut ∙ take_all (length w - k) (drop k w) (omega (arith, length-drop k w)) in
    let wide : length w < 18446744073709551616 = search rules in
    fits_by_from_yields_list (λ q. cond (off q) 1 0) (enumerate_from 0 (drop k w)) _ _
    (YieldsList-from_map _ (λ q. cond (off q) 1 0) (YieldsList-from_enumerate (YieldsList-from_slice (drop k w) (rw (c.map.ensures.source, c.enumerate.ensures.source) left)) (rw c.map.ensures.source c.enumerate.ensures.count))
    c.map.ensures.closure (λ x r q e. search (rules, tests)))
    (omega (arith, wide, count_by-le-length off (enumerate_from 0 (drop k w)), length-enumerate_from 0 (drop k w), length-drop k w))

pub returns : goal.returns
returns c =
    let w = c.args.area.now in
    let k = c.min-from.result in
    let off : ℕ × ℕ → Bool = λ q. not (eqb q.1 (pattern_at (k + q.0))) in
    let e : k ≡ min c.args.from (length w) = search rules in
    let cut : c.iter.result.rest.now ≡ take (length w - k) (drop k w) = search rules in
    let left : c.iter.result.rest.now ≡ drop k w = cut ∙ take_all (length w - k) (drop k w) (omega (arith, length-drop k w)) in
    let summed =
    sum_by_from_yields_List (λ q. cond (off q) 1 0) (enumerate_from 0 (drop k w)) _ c.sum.result c.sum.ensures.ran
    (YieldsList-from_map _ (λ q. cond (off q) 1 0) (YieldsList-from_enumerate (YieldsList-from_slice (drop k w) (rw (c.map.ensures.source, c.enumerate.ensures.source) left)) (rw c.map.ensures.source c.enumerate.ensures.count))
    c.map.ensures.closure (λ x r q e. search (rules, tests))) in
    off_behind w c.args.from c.sum.result (rw e at summed)
