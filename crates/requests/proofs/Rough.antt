-- POINT 6 of document 02. Its theorem and its worked examples are cited under their statements; and each clause is used, in plain numbers and of the take's own values, of the function as it stands
-- in the source. So a clause that is dropped, or that gains a hypothesis or an alternative, no longer proves what stands here. What uses a clause uses the function's theorem, and nothing here rests on
-- another statement of this file: so that each can be made false alone (must-fail).
use mathlib.Core.Path.{◌≡◌, refl, ap, ◌∙◌}
use mathlib.Core.Bool.{true}
use mathlib.Core.List.{List, [], ◌∷◌, map}
use mathlib.Core.Logic.{◌⊎◌, inl, inr}
use Rattle.std.specs.Prelude.{Result, None, Some}
use Rattle.history.specs.declared.Refusal.{Refusal}
use Prim.Native.Nat.{ℕ, ◌+◌, ◌-◌, ◌/◌, ◌<◌, ◌≤◌, min}
use native.Mathlib.Omega.{arith}
use lib.IntN.{ℤ, pos, negsuc}
use lib.Signed.{le_z}
use lib.ListN.{length, get_or, take}
use lib.Seq.{length-take-le}
use contract.Lifetimes.{Lfts}
use denote.Ref.{Bor}
use denote.Signature.{plain}
use denote.Builtin.{SliceRefOf, usize, i32}
use Rattle.laws.proofs.Order.{le_z_trans}
use Rattle.history.specs.declared.Position.{Position}
use Rattle.history.specs.Minimum.{Minimum}
use Rattle.history.specs.Minima.{minimum}
use Rattle.history.specs.Replies.{showing}
use Rattle.history.proofs.Lowest.{minimum_least, least_only}
use Rattle.blocks.specs.Found.{Found}
use Rattle.blocks.specs.Takes.{from_zero, range_minimum, block_minima}
use Rattle.blocks.specs.Takes as takes
use Rattle.blocks.specs.Examples.{Each}
use Rattle.blocks.proofs.Tied.{Built, Searched}
use Rattle.rough.specs.declared.Figures.{Figures}
use Rattle.rough.specs.Looks.{Look, Entry, Value, looks, looks_used, rough_reading, told}
use Rattle.rough.specs.Promises.{read_by, Partly, Among, Before, InOrder, MakesKnown, Point6}
use Rattle.rough.specs.Examples.{roughed, readings, ordered, orders, Gives, full_count}
use Rattle.rough.proofs.Truth.{true_stands, true_under}
use Rattle.rough.proofs.Functions as functions
use Rattle.rough.proofs.Tied.{Read, read_of}
use Rattle.rough.proofs.Examples as worked
use Rattle.blocks.proofs.due.Reads as due-reads
use Rattle.blocks.proofs.least_of.Reads as least-of-reads
use Rattle.blocks.proofs.block_count.Reads as block-count-reads
use Rattle.blocks.proofs.blocks_before.Reads as blocks-before-reads
use Rattle.rough.specs.contracts.read as read-function
use Rattle.rough.proofs.read.Reads as read-reads
use Rattle.requests.proofs.Takes.{index_built, shown_least}

point_6 : Point6 Read
point_6 = functions.point_6

readings_worked : map roughed readings ≡ readings
readings_worked = worked.readings_worked

orders_worked : map ordered orders ≡ orders
orders_worked = worked.orders_worked

full_count_lem : full_count ≡ 80
full_count_lem = worked.full_count_worked

examples_count : (length readings ≡ 41) × (length orders ≡ 9)
examples_count = (refl, refl)

readings_given : Each (Gives Read) readings
readings_given = worked.readings_given

-- the function promises the definition's reading, of all that it is given, and no more is learnt of it; and it asks for nothing
reads_as_promised : (values index : List ℤ) (i j B : ℕ) (r : Result Figures Refusal) → Read values index i j B r → told r ≡ rough_reading values index i j B
reads_as_promised values index i j B r (κs, x, y, d) = d

reads_no_more : (values index : List ℤ) (i j B : ℕ) (r : Result Figures Refusal) → told r ≡ rough_reading values index i j B → Read values index i j B r
reads_no_more = read_of

read_asks_nothing : (κs : Lfts 2) (x y : Bor (List ℤ)) (i j B : ℕ) → read-reads.Asked κs (x, (y, (i, (j, (B, tt)))))
read_asks_nothing κs x y i j B = tt

-- nor do the functions of `blocks` that it stands on
due_asks_nothing : (κs : Lfts 0) (n m i j : ℕ) → due-reads.Asked κs (n, (m, (i, (j, tt))))
due_asks_nothing κs n m i j = tt

least_of_asks_nothing : (κs : Lfts 1) (x : Bor (List ℤ)) → least-of-reads.Asked κs (x, tt)
least_of_asks_nothing κs x = tt

block_count_asks_nothing : (κs : Lfts 0) (n : ℕ) → block-count-reads.Asked κs (n, tt)
block_count_asks_nothing κs n = tt

blocks_before_asks_nothing : (κs : Lfts 0) (n e : ℕ) → blocks-before-reads.Asked κs (n, (e, tt))
blocks_before_asks_nothing κs n e = tt

-- it takes two slices of signed values and three numbers of 64 bits
read_takes : (read-function.signature).params
    ≡ SliceRefOf (0 ∷ []) tt (plain (λ κs. i32)) (λ κs. tt) ∷ SliceRefOf (1 ∷ []) tt (plain (λ κs. i32)) (λ κs. tt) ∷ plain (λ κs. usize) ∷ plain (λ κs. usize) ∷ plain (λ κs. usize) ∷ []
read_takes = refl

-- THE LOOKS at a range that a take of n values has
module _ (n i j : ℕ) (l : i ≤ j) (h : j < n) where
  -- "the index entry of every block that meets the range": of every block in which a value of the range stands, and of no other
  pub entry_looked : (k : ℕ) → i ≤ k → k ≤ j → Among (Entry (k / 64)) (looks n i j)
  entry_looked k f t = (functions.point_6.looked n i j l h).entry (k / 64) (k, f, t, refl)

  pub entry_meets : (b : ℕ) → Among (Entry b) (looks n i j) → (k : ℕ) × (i ≤ k) × (k ≤ j) × (k / 64 ≡ b)
  entry_meets b m = (functions.point_6.looked n i j l h).only_met b m

  -- "the range's values in blocks only partly inside": those beside which a value of the take stands in the same block, and before or behind the range; and no others
  pub value_looked : (k m : ℕ) → i ≤ k → k ≤ j → m < n → m / 64 ≡ k / 64 → (m < i) ⊎ (j < m) → Among (Value k) (looks n i j)
  value_looked k m f t s e o = (functions.point_6.looked n i j l h).value k f t (m, s, e, o)

  pub value_partly : (k : ℕ) → Among (Value k) (looks n i j) → (i ≤ k) × (k ≤ j) × ((m : ℕ) × (m < n) × (m / 64 ≡ k / 64) × ((m < i) ⊎ (j < m)))
  value_partly k m = (functions.point_6.looked n i j l h).only_partly k m

  -- "left to right" twice, entries before values
  pub looked_in_order : InOrder (looks n i j)
  looked_in_order = (functions.point_6.looked n i j l h).order

-- being among looks is what it says
none_among : (x : Look) → Among x [] → ⊥
none_among x m = m

first_among : (x : Look) (ls : List Look) → Among x (x ∷ ls)
first_among x ls = inl refl

rest_among : (x l : Look) (ls : List Look) → Among x (l ∷ ls) → (x ≡ l) ⊎ Among x ls
rest_among x l ls m = m

order_of_entries : (a b : ℕ) → Before (Entry a) (Entry b) → a < b
order_of_entries a b m = m

order_of_values : (k m : ℕ) → Before (Value k) (Value m) → k < m
order_of_values k m s = s

no_entry_behind : (k b : ℕ) → Before (Value k) (Entry b) → ⊥
no_entry_behind k b m = m

first_before_all : (x y : Look) (ls : List Look) → InOrder (x ∷ ls) → Among y ls → Before x y
first_before_all x y ls o m = o.0 y m

rest_in_order : (x : Look) (ls : List Look) → InOrder (x ∷ ls) → InOrder ls
rest_in_order x ls o = o.1

-- EVERY READING, over any index
module _ (values index : List ℤ) (i j B : ℕ) (r : Result Figures Refusal) (q : Read values index i j B r) where
  -- "Replies 14 and 15 hold here too, for B = 0 as well, with 0 looks used and neither figure shown"
  pub rough_15 : (length index ≡ (length values + 63) / 64 → ⊥) → told r ≡ record { number = 15; looks = 0; high = None; low = None }
  rough_15 n = (functions.point_6.reading values index i j B r q).other_index n

  pub rough_14_exceeds : length index ≡ (length values + 63) / 64 → j < i → told r ≡ record { number = 14; looks = 0; high = None; low = None }
  rough_14_exceeds n l = (functions.point_6.reading values index i j B r q).outside n (inl l)

  pub rough_14_beyond : length index ≡ (length values + 63) / 64 → length values ≤ j → told r ≡ record { number = 14; looks = 0; high = None; low = None }
  rough_14_beyond n l = (functions.point_6.reading values index i j B r q).outside n (inr l)

  pub rough_0 : length index ≡ (length values + 63) / 64 → i ≤ j → j < length values → (told r).number ≡ 0
  rough_0 n l h = (functions.point_6.reading values index i j B r q).accepted n l h

  -- "the looks used (the smaller of B and the full count)"
  pub rough_looks : length index ≡ (length values + 63) / 64 → i ≤ j → j < length values → (told r).looks ≡ min B (length (looks (length values) i j))
  rough_looks n l h = (functions.point_6.reading values index i j B r q).count n l h

  pub rough_low : length index ≡ (length values + 63) / 64 → i ≤ j → j < length values → (v : ℤ) × ((told r).low ≡ Some v)
  rough_low n l h = (functions.point_6.reading values index i j B r q).low n l h

  -- "Low is −2,147,483,648 until all entries are read"
  pub rough_early : length index ≡ (length values + 63) / 64 → i ≤ j → j < length values → B < j / 64 + 1 - i / 64 → (told r).low ≡ Some (negsuc 2147483647)
  rough_early n l h b = (functions.point_6.reading values index i j B r q).early n l h b

  -- "then the least entry": of the blocks from that of i to that of j
  pub rough_entry : length index ≡ (length values + 63) / 64 → i ≤ j → j < length values → j / 64 + 1 - i / 64 ≤ B → B < length (looks (length values) i j) → (v : ℤ) → (told r).low ≡ Some v → (b : ℕ) × (i / 64 ≤ b) × (b ≤ j / 64) × (get_or index b (pos 0) ≡ v)
  rough_entry n l h b c v e = ((functions.point_6.reading values index i j B r q).between n l h b c v e).0

  pub rough_least_entry : length index ≡ (length values + 63) / 64 → i ≤ j → j < length values → j / 64 + 1 - i / 64 ≤ B → B < length (looks (length values) i j) → (v : ℤ) → (told r).low ≡ Some v → (b : ℕ) → i / 64 ≤ b → b ≤ j / 64 → le_z v (get_or index b (pos 0)) ≡ true
  rough_least_entry n l h b c v e = ((functions.point_6.reading values index i j B r q).between n l h b c v e).1

  -- "and at the full count the high figure"
  pub rough_full : length index ≡ (length values + 63) / 64 → i ≤ j → j < length values → length (looks (length values) i j) ≤ B → (told r).low ≡ (told r).high
  rough_full n l h b = (functions.point_6.reading values index i j B r q).full n l h b

  -- "High is the least known value": at most each value that was looked at, and the entry of each block that was looked at and has no value outside the range
  pub rough_value : length index ≡ (length values + 63) / 64 → i ≤ j → j < length values → (v : ℤ) → (told r).high ≡ Some v → (k : ℕ) → Among (Value k) (looks_used (length values) i j B) → le_z v (get_or values k (pos 0)) ≡ true
  rough_value n l h v e k m = ((functions.point_6.reading values index i j B r q).high n l h v e).1 (Value k) m tt

  pub rough_inside : length index ≡ (length values + 63) / 64 → i ≤ j → j < length values → (v : ℤ) → (told r).high ≡ Some v → (b : ℕ) → Among (Entry b) (looks_used (length values) i j B) → ((m : ℕ) → m < length values → m / 64 ≡ b → (i ≤ m) × (m ≤ j)) → le_z v (get_or index b (pos 0)) ≡ true
  rough_inside n l h v e b m u = ((functions.point_6.reading values index i j B r q).high n l h v e).1 (Entry b) m (none_outside b u)
    where
      none_outside : (b : ℕ) → ((m : ℕ) → m < length values → m / 64 ≡ b → (i ≤ m) × (m ≤ j)) → Partly (length values) i j b → ⊥
      none_outside b u (m, s, e, inl o) = omega (arith, (u m s e).0, o)
      none_outside b u (m, s, e, inr o) = omega (arith, (u m s e).1, o)

  -- and one of these
  pub rough_known : length index ≡ (length values + 63) / 64 → i ≤ j → j < length values → (v : ℤ) → (told r).high ≡ Some v → (look : Look) × Among look (looks_used (length values) i j B) × MakesKnown (length values) i j look × (read_by values index look ≡ v)
  rough_known n l h v e = ((functions.point_6.reading values index i j B r q).high n l h v e).0

  -- "with none known the reply says so": no value was looked at, and no entry of a block wholly inside
  pub rough_unknown : length index ≡ (length values + 63) / 64 → i ≤ j → j < length values → (told r).high ≡ None → (k : ℕ) → Among (Value k) (looks_used (length values) i j B) → ⊥
  rough_unknown n l h e k m = (functions.point_6.reading values index i j B r q).unknown n l h e (Value k) m tt

pub rough_nothing : (values index : List ℤ) (i j : ℕ) (r : Result Figures Refusal) → Read values index i j 0 r → length index ≡ (length values + 63) / 64 → i ≤ j → j < length values → told r ≡ record { number = 0; looks = 0; high = None; low = Some (negsuc 2147483647) }
rough_nothing values index i j r q n l h = (functions.point_6.reading values index i j 0 r q).nothing n l h refl

-- OVER AN INDEX BUILT FROM THAT TAKE
module _ (values index : List ℤ) (i j B : ℕ) (r : Result Figures Refusal) (q : Read values index i j B r) (e : index ≡ block_minima values) (l : i ≤ j) (h : j < length values) where
  -- "both equal the exact least value once the full count is used": a value of the range, than which no other there is lower
  pub rough_exact : length (looks (length values) i j) ≤ B → (v : ℤ) × ((told r).high ≡ Some v) × ((told r).low ≡ Some v) × ((k : ℕ) × (i ≤ k) × (k ≤ j) × (get_or values k (pos 0) ≡ v)) × ((k : ℕ) → i ≤ k → k ≤ j → le_z v (get_or values k (pos 0)) ≡ true)
  rough_exact b =
      let x = (functions.point_6.built values index i j B r q e l h).exact b in
      ((range_minimum values i j).value, x.0, x.1, true_stands values i j l h, true_under values i j l h)

  -- "low is never above the true one": it is at most each value of the range
  pub rough_below : ((k : ℕ) → k < length values → le_z (negsuc 2147483647) (get_or values k (pos 0)) ≡ true) → (v : ℤ) → (told r).low ≡ Some v → (k : ℕ) → i ≤ k → k ≤ j → le_z v (get_or values k (pos 0)) ≡ true
  rough_below n v s k f t =
      le_z_trans v (range_minimum values i j).value (get_or values k (pos 0)) ((functions.point_6.built values index i j B r q e l h).below n v s) (true_under values i j l h k f t)

  -- "nor a shown high below it": some value of the range is at most it
  pub rough_above : (v : ℤ) → (told r).high ≡ Some v → (k : ℕ) × (i ≤ k) × (k ≤ j) × (le_z (get_or values k (pos 0)) v ≡ true)
  rough_above v s =
      let p = true_stands values i j l h in
      (p.0, p.1, p.2, ap (λ (x : ℤ). le_z x v) p.3 ∙ (functions.point_6.built values index i j B r q e l h).above v s)

-- "a bigger budget never lowers low, raises a shown high or takes one away"
module _ (values index : List ℤ) (i j B C : ℕ) (r s : Result Figures Refusal) (q : Read values index i j B r) (p : Read values index i j C s) (n : length index ≡ (length values + 63) / 64) (l : i ≤ j) (h : j < length values) (b : B ≤ C) where
  pub low_rises : index ≡ block_minima values → ((k : ℕ) → k < length values → le_z (negsuc 2147483647) (get_or values k (pos 0)) ≡ true) → (v w : ℤ) → (told r).low ≡ Some v → (told s).low ≡ Some w → le_z v w ≡ true
  low_rises e m v w x y = (functions.point_6.bigger values index i j B C r s q p n l h b).low e m v w x y

  pub high_falls : (v : ℤ) → (told r).high ≡ Some v → (w : ℤ) × ((told s).high ≡ Some w) × (le_z w v ≡ true)
  high_falls v x = (functions.point_6.bigger values index i j B C r s q p n l h b).high v x

-- the looks are real: a value that no look that is used reads may be another, and so may an entry
pub looks_are_real : (values index others entries : List ℤ) (i j B : ℕ) (r s : Result Figures Refusal) → Read values index i j B r → Read others entries i j B s → length values ≡ length others → length index ≡ length entries → map (read_by values index) (looks_used (length values) i j B) ≡ map (read_by others entries) (looks_used (length values) i j B) → told r ≡ told s
looks_are_real values index others entries i j B r s q p n m e = functions.point_6.agreed values index others entries i j B r s q p n m e

-- what a look reads is the entry or the value
reads_entry : (values index : List ℤ) (b : ℕ) → read_by values index (Entry b) ≡ get_or index b (pos 0)
reads_entry values index b = refl

reads_value : (values index : List ℤ) (k : ℕ) → read_by values index (Value k) ≡ get_or values k (pos 0)
reads_value values index k = refl

-- as it is used: an index that `build` left, whatever it held before; with all looks, both figures are what `search` shows
built_and_read : (values before after : List ℤ) (b : Result (Unit {0}) Refusal) (s : Result Found Refusal) (i j B : ℕ) (r : Result Figures Refusal) → Built values before after b → Searched values after i j s → Read values after i j B r → length before ≡ (length values + 63) / 64 → i ≤ j → j < length values → length (looks (length values) i j) ≤ B → (f : Found) × (takes.told s ≡ showing f) × ((told r).high ≡ Some f.value) × ((told r).low ≡ Some f.value)
built_and_read values before after b s i j B r p t q n l h c =
    let e = (index_built values before after b p n).1 in
    let x = (functions.point_6.built values after i j B r q e l h).exact c in
    let m = shown_least values after i j s t e l h in
    let one : Position = record { 0 = i + 1 } in
    let long = length-take-le (j + 1) values (omega arith) in
    let same : m.0 ≡ minimum (take (j + 1) values) one =
    least_only (take (j + 1) values) one m.0 (minimum (take (j + 1) values) one) m.1 (minimum_least (take (j + 1) values) one (omega arith) (omega (arith, long))) in
    (range_minimum values i j, m.2 ∙ ap (λ (x : Minimum). showing (from_zero x)) same, x.0, x.1)
