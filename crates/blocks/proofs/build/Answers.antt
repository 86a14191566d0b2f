use Rattle.std.proofs.Common.{◌≡◌, ◌*◌, ◌≤◌, ◌<◌, length, List, ℤ, sym, ap, ◌∙◌, to_z, of_z, w32, arith, rules}
use Prim.Native.Nat.{min}
use lib.ListN.{length-drop}
use borrow.Author.Tests.{eq-eqb}
use borrow.Author.Rules.{sfits_of}
use mir.Facts.{to_z-of_z}
use Rattle.std.specs.Iterator.Adapters.{enumerate_source, enumerate_count}
use Rattle.std.specs.Slice.Iter.{chunks_rest}
use Rattle.blocks.specs.Takes.{minimum_from, block_of, block_count}
use Rattle.blocks.proofs.Indexes.{next_block, built_more, built_all}
use Rattle.blocks.proofs.build.Goals as goal

pub loop-b-preserved : goal.loop-b-preserved
loop-b-preserved c =
    let vs = c.args.take.now in
    let same : length c.args.index.now ≡ block_count (length vs) = search rules in
    let n = enumerate_count c.loop-b.b-iterator in
    let s = c.in-Some.ensures.steps in
    let left = chunks_rest (enumerate_source c.loop-b.b-iterator) in
    let next = next_block vs c.in-Some.part.now (chunks_rest (enumerate_source c.next.new.self)) n (sym c.loop-b.invariant.rest ∙ s.0.1.0)
    (rw c.loop-b.invariant.size at s.0.1.1 ∙ ap (λ (xs : List ℤ). min 64 (length xs)) c.loop-b.invariant.rest) in
    let inside : 64 * n < length vs = omega (arith, s.0.1.2, ap length c.loop-b.invariant.rest, length-drop (64 * n) vs) in
    let v : to_z w32 (of_z w32 c.least_value.result) ≡ (minimum_from (block_of vs n) 0).value =
    to_z-of_z {w = w32} (sfits_of c.least_value.type_inv) ∙ c.least_value.ensures ∙ ap (λ (xs : List ℤ). (minimum_from xs 0).value) next.0 in
    record {
      size = s.0.0 ∙ c.loop-b.invariant.size;
      rest = rw s.2 next.1;
      few = omega (arith, inside, s.2);
      built = rw (s.2, s.1) (built_more vs c.loop-b.index n _ (omega (arith, inside, c.loop-b.auto.index, same)) (omega (arith, inside)) v c.loop-b.invariant.built);
    }

pub returns : goal.returns
returns c =
    let vs = c.args.take.now in
    let n = enumerate_count c.loop-b.b-iterator in
    let s = c.in-None.ensures.steps in
    let all : length vs ≤ 64 * n = omega (arith, s.0.1.0, ap length c.loop-b.invariant.rest, length-drop (64 * n) vs) in
    let same : length c.args.index.now ≡ block_count (length vs) = search rules in
    let e = eq-eqb (length c.args.index.now) (block_count (length vs)) same in
    record {
      tells = simp e;
      writes = simp e (built_all vs c.loop-b.index n (omega (arith, all)) (omega (arith, all, same, c.loop-b.auto.index)) c.loop-b.invariant.built);
    }
