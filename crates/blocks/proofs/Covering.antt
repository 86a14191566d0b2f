-- What is found in a range, by its parts: the blocks wholly inside it, and the edges before and behind them.
use mathlib.Core.Path.{◌≡◌, refl, sym, ap, ◌∙◌}
use mathlib.Core.Bool.{Bool, true, false, cond}
use mathlib.Core.List.{List}
use Prim.Native.Nat.{ℕ, suc, ◌+◌, ◌*◌, ◌-◌, ◌/◌, ◌<◌, ◌≤◌}
use native.Mathlib.Decide.{ℕ_discrete}
use native.Mathlib.Omega.{arith}
use lib.Dec.{eqb}
use lib.IntN.{ℤ}
use lib.ListN.{length, take, drop, length-take, length-drop}
use lib.Seq.{length-take-le, take_all}
use borrow.Author.Tests.{eq-eqb, eqb-true, ne_eqb}
use Rattle.history.specs.Minima.{takes_over}
use Rattle.history.proofs.Lowest.{minimum_least}
use Rattle.blocks.specs.declared.Offset.{Offset}
use Rattle.blocks.specs.Found.{Found}
use Rattle.blocks.specs.Takes.{minimum_from, block_of, block_count, blocks_before, block_minima}
use Rattle.blocks.specs.Private.{PlaceOf, shifted, lower_of, Covers, OfBlocks}
use Rattle.blocks.proofs.Founds.{joined, handed_on}
use Rattle.blocks.proofs.Indexes.{in_block, Agree, agree}

-- how long block b is
pub length_block : (values : List ℤ) (b : ℕ) → b < block_count (length values)
    → (0 < length (block_of values b)) × (length (block_of values b) ≤ 64) × (64 * b + length (block_of values b) ≤ length values)
length_block values b h =
    let n = length-take 64 (drop (64 * b) values) in
    let m = length-drop (64 * b) values in
    (omega (arith, n, m), omega (arith, n, m), omega (arith, n, m))

-- the least of a range stands in it
pub found_within : (vs : List ℤ) (a e : ℕ) → a < e → e ≤ length vs → (a ≤ (minimum_from (take e vs) a).place.0) × ((minimum_from (take e vs) a).place.0 < e)
found_within vs a e l s =
    let n = length-take-le e vs s in
    let stands = minimum_least (take e vs) (record { 0 = a + 1 }) (omega arith) (omega arith) in
    (omega (arith, stands.from), omega (arith, stands.from, stands.to))

-- a part of the take that is looked through itself, whatever the index holds
pub covers_part : (values index : List ℤ) (a e : ℕ) (f : Found) → a < e → e ≤ length values → f ≡ shifted a (minimum_from (take (e - a) (drop a values)) 0) → Covers values index a e f
covers_part values index a e f l s q =
    let r : f ≡ minimum_from (take e values) a = q ∙ sym (handed_on values a e l (omega arith)) in
    let w = found_within values a e l s in
    record { from = rw r w.0; to = rw r w.1; correct = λ _. r }

-- THE BLOCKS WHOLLY INSIDE: their entries' least, v, stands in the block that is `rel` behind the first, and p is its place there
pub of_blocks : (values index : List ℤ) (first end : ℕ) (v : ℤ) (rel : ℕ) (p : Offset) → first < end → end ≤ length index → length index ≡ block_count (length values)
    → record { value = v; place = record { 0 = rel } } ≡ minimum_from (take (end - first) (drop first index)) 0 → rel < length (take (end - first) (drop first index))
    → PlaceOf (block_of values (first + rel)) v p
    → OfBlocks values index first end (record { value = v; place = record { 0 = 64 * (first + rel) + p.0 } })
of_blocks values index first end v rel p l h n q inside there =
    let short = length-take (end - first) (drop first index) in
    let b = length_block values (first + rel) (omega (arith, short)) in
    record {
      from = omega arith;
      to = omega (arith, short, b.1, there.inside);
      some = omega (arith, b.2, there.inside);
      correct = λ e.
          let entry : minimum_from (take end index) first ≡ record { value = v; place = record { 0 = first + rel } } =
          handed_on index first end l (omega arith) ∙ ap (shifted first) (sym q) in
          let some : first + suc (end - first - 1) ≡ end = omega arith in
          let agreed : Agree values first end = rw some at (agree values first (end - first - 1) (omega arith)) in
          let entered : minimum_from (take end (block_minima values)) first ≡ record { value = v; place = record { 0 = first + rel } } = rw e at entry in
          let whole : minimum_from (take (64 * end) values) (64 * first) ≡ in_block values (first + rel) =
          agreed.whole ∙ ap (λ (f : Found). in_block values f.place.0) entered in
          let value : v ≡ (minimum_from (block_of values (first + rel)) 0).value =
          sym (ap (λ (f : Found). f.value) entered) ∙ sym agreed.value ∙ ap (λ (f : Found). f.value) whole in
          let place : p.0 ≡ (minimum_from (block_of values (first + rel)) 0).place.0 = there.stands value in
          (λ x. record { value = value x; place = record { 0 = 64 * (first + rel) + place x } }) ∙ sym whole;
    }

-- up to the take's end, and up to the end of a block before it
pub covers_end : (values index : List ℤ) (first end : ℕ) (f : Found) → length values ≤ 64 * end → OfBlocks values index first end f → Covers values index (64 * first) (length values) f
covers_end values index first end f h o = record {
  from = o.from;
  to = o.some;
  correct = λ e. o.correct e ∙ ap (λ (vs : List ℤ). minimum_from vs (64 * first)) (take_all (64 * end) values h ∙ sym (take_all (length values) values (omega arith)));
}

pub covers_blocks : (values index : List ℤ) (first end : ℕ) (f : Found) → OfBlocks values index first end f → Covers values index (64 * first) (64 * end) f
covers_blocks values index first end f o = record { from = o.from; to = o.to; correct = o.correct }

-- TWO RANGES, one behind the other
pub covers_both : (values index : List ℤ) (i a e : ℕ) (f g : Found) → i < a → a < e → e ≤ length values → Covers values index i a f → Covers values index a e g
    → Covers values index i e (lower_of f g)
covers_both values index i a e f g l m s c d = record {
  from = go_from (takes_over g.value f.value);
  to = go_to (takes_over g.value f.value);
  correct = λ q.
      ap (λ (x : Found). lower_of x g) (c.correct q) ∙ ap (lower_of (minimum_from (take a values) i)) (d.correct q) ∙ sym (joined values i a e l m (omega arith));
}
  where
    go_from : (t : Bool) → i ≤ (cond t g f).place.0
    go_from true = omega (arith, d.from)
    go_from false = c.from

    go_to : (t : Bool) → (cond t g f).place.0 < e
    go_to true = d.to
    go_to false = omega (arith, c.to)

-- the blocks that end at e or before it: all where e is the take's end, and else those that are full before e
pub before_end : (n e : ℕ) → e ≡ n → blocks_before n e ≡ block_count n
before_end n e q = simp (eq-eqb e n q)

pub before_inside : (n e : ℕ) → (e ≡ n → ⊥) → blocks_before n e ≡ e / 64
before_inside n e q = simp (ne_eqb e n q)

-- where a block is wholly inside the range from i to before e, the first such begins in the range, and the last ends in it
pub begins_inside : (n i e first end : ℕ) → e ≤ n → first ≡ block_count i → end ≡ blocks_before n e → first < end → (i ≤ 64 * first) × (64 * first < e)
begins_inside n i e first end h f q l = (omega arith, go (eqb e n) refl (rw q at l))
  where
    go : (t : Bool) → eqb e n ≡ t → first < cond t (block_count n) (e / 64) → 64 * first < e
    go true b m = omega (arith, eqb-true e n b)
    go false b m = omega arith

-- and where it does not end before e, the blocks end with the range
pub covers_to : (values index : List ℤ) (first end e : ℕ) (f : Found) → e ≤ length values → end ≡ blocks_before (length values) e → e ≤ 64 * end → OfBlocks values index first end f
    → Covers values index (64 * first) e f
covers_to values index first end e f h q l o = elim (ℕ_discrete e (length values)) [
  | yes s ↦ rw s (covers_end values index first end f (omega (arith, l, s)) o)
  | no d ↦ let b = before_inside (length values) e d in let same : e ≡ 64 * end = omega (arith, b, q, l) in rw same (covers_blocks values index first end f o)
]
