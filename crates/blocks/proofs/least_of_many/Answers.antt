use Rattle.std.proofs.Common.{◌≡◌, ◌*◌, ◌≤◌, length, Bool, true, false, cond, drop, sym, ap, ◌∙◌, to_z, of_z, w32, arith}
use lib.ListN.{length-drop}
use mir.Facts.{to_z-of_z}
use borrow.Author.Rules.{sfits_of}
use Rattle.std.specs.Iterator.Adapters.{enumerate_source, enumerate_count}
use Rattle.std.specs.Slice.Iter.{chunks_rest}
use Rattle.history.specs.Minima.{takes_over}
use Rattle.blocks.specs.Takes.{block_count}
use Rattle.blocks.proofs.Indexes.{Leading, led_turn, leading_all}
use Rattle.blocks.proofs.Covering.{length_block}
use Rattle.blocks.proofs.least_of_many.Goals as goal
use Rattle.blocks.proofs.least_of_many.Goals.{After-takes_over}

-- the least of the block is asked, and what is known then
turned : (c : After-takes_over) (t : Bool) → c.takes_over.result ≡ t
    → (chunks_rest (enumerate_source c.next.new.self) ≡ drop (64 * enumerate_count c.next.new.self) c.args.values.now) × (enumerate_count c.next.new.self ≤ block_count (length c.args.values.now))
    × Leading c.args.values.now (enumerate_count c.next.new.self) (cond t (enumerate_count c.loop-b.b-iterator) c.loop-b.at) (cond t c.least_value-v.result (to_z w32 c.loop-b.value-bits))
turned c t q =
    let s = c.in-Some.ensures.steps in
    let same : to_z w32 (of_z w32 c.least_value-v.result) ≡ c.least_value-v.result = to_z-of_z {w = w32} (sfits_of c.least_value-v.type_inv) in
    let asked : takes_over c.least_value-v.result (to_z w32 c.loop-b.value-bits) ≡ c.takes_over.result = rw same at (sym c.takes_over.ensures) in
    led_turn c.args.values.now c.in-Some.part.now (chunks_rest (enumerate_source c.loop-b.b-iterator)) (chunks_rest (enumerate_source c.next.new.self)) (enumerate_count c.loop-b.b-iterator)
    (enumerate_count c.next.new.self) c.loop-b.at (to_z w32 c.loop-b.value-bits) c.least_value-v.result t c.loop-b.invariant.rest s.0.1.0 (rw c.loop-b.invariant.size at s.0.1.1) s.0.1.2 s.2
    c.loop-b.invariant.led c.least_value-v.ensures (asked ∙ q)

pub loop-b-preserved-then-takes_over : goal.loop-b-preserved-then-takes_over
loop-b-preserved-then-takes_over c =
    let s = c.in-Some.ensures.steps in
    let d = turned (goal.at.loop-b-preserved-then-takes_over c).After-takes_over true c.if-takes_over.true in
    let same : to_z w32 (of_z w32 c.least_value-v.result) ≡ c.least_value-v.result = to_z-of_z {w = w32} (sfits_of c.least_value-v.type_inv) in
    record {
      size = s.0.0 ∙ c.loop-b.invariant.size;
      rest = d.0;
      few = d.1;
      led = (λ z. absurd (omega (arith, z, s.2)), λ _. rw (same, s.1) d.2);
    }

pub loop-b-preserved : goal.loop-b-preserved
loop-b-preserved c =
    let s = c.in-Some.ensures.steps in
    let d = turned (goal.at.loop-b-preserved c).After-takes_over false c.if-takes_over.false in
    record {
      size = s.0.0 ∙ c.loop-b.invariant.size;
      rest = d.0;
      few = d.1;
      led = (λ z. absurd (omega (arith, z, s.2)), λ _. d.2);
    }

pub returns : goal.returns
returns c =
    let vs = c.args.values.now in
    let n = enumerate_count c.loop-b.b-iterator in
    let s = c.in-None.ensures.steps in
    let all : length vs ≤ 64 * n = omega (arith, s.0.1.0, ap length c.loop-b.invariant.rest, length-drop (64 * n) vs) in
    let leading : Leading vs n c.loop-b.at (to_z w32 c.loop-b.value-bits) = c.loop-b.invariant.led.1 (omega (arith, all, c.requires)) in
    let there = rw c.block.ensures at c.place_of-place.ensures in
    let long = length_block vs c.loop-b.at (omega (arith, leading.some, c.loop-b.invariant.few)) in
    (leading_all vs n c.loop-b.at c.place_of-place.result.0 (to_z w32 c.loop-b.value-bits) all leading (there.stands leading.value), omega (arith, long.2, there.inside))
