-- POINT 6 of document 02, of the function that C calls. What C is told by it is `Learnt`, the reading that the checker makes of the `ensures` as it stands in the source. It is used in the numbers that
-- C sees, clause by clause, for any take, any index, any range and any budget. What several of these rest on is proved in proofs/RoughSteps, so that none rests on another statement of this file, and each
-- can be made false alone (must-fail).
use mathlib.Core.Path.{◌≡◌, refl, sym, ap, ◌∙◌}
use mathlib.Core.Bool.{true}
use mathlib.Core.List.{List, [], ◌∷◌, map}
use mathlib.Core.Logic.{◌⊎◌}
use Rattle.std.specs.Prelude.{Result, Some}
use Rattle.history.specs.declared.Refusal.{Refusal}
use Prim.Native.Nat.{ℕ, ◌+◌, ◌-◌, ◌/◌, ◌<◌, ◌≤◌, min}
use lib.IntN.{ℤ, pos, negsuc}
use lib.Signed.{le_z}
use lib.ListN.{length, get_or}
use contract.Lifetimes.{Lfts}
use denote.Ref.{Bor}
use denote.Signature.{plain}
use denote.Builtin.{SliceRefOf, usize, i32}
use denote.Struct.Field.{usize-field, u32-field, i32-field}
use Rattle.laws.proofs.Order.{le_z_trans}
use Rattle.blocks.specs.Takes.{range_minimum, block_minima}
use Rattle.rough.specs.declared.Figures.{Figures}
use Rattle.rough.specs.Looks.{Value, looks, looks_used, ToldReading, rough_reading, told}
use Rattle.rough.specs.Promises.{ReadSays, read_by, Among, Point6}
use Rattle.rough.proofs.Truth.{true_stands, true_under}
use Rattle.firmware.specs.declared.readings.ReadingNumbers.{ReadingNumbers}
use Rattle.firmware.specs.Readings.{shown_number, known_number, reading_in_numbers}
use Rattle.firmware.specs.contracts.readings.ReadingNumbers as reading-type
use Rattle.firmware.specs.contracts.filkotar_rough as rough-function
use Rattle.firmware.proofs.filkotar_rough.Reads as rough-reads
use Rattle.requests.proofs.Takes.{index_long}
use Rattle.requests.proofs.TakesInC.{BuildTold, built}
use Rattle.requests.proofs.RoughSteps as steps

-- THE TYPES are those of include/filkotar.h, where a slice is a pointer and a length: the numbers of a reading, in this order, and what the function takes and gives
reading_numbers : (reading-type.struct).parts ≡ usize-field ∷ u32-field ∷ u32-field ∷ i32-field ∷ i32-field ∷ []
reading_numbers = refl

reading_order : (r : ReadingNumbers) → (reading-type.struct).as_values r ≡ (r.looks, (r.number, (r.known, (r.high, (r.low, tt)))))
reading_order r = refl

rough_takes : (rough-function.signature).params
    ≡ SliceRefOf (0 ∷ []) tt (plain (λ κs. i32)) (λ κs. tt) ∷ SliceRefOf (1 ∷ []) tt (plain (λ κs. i32)) (λ κs. tt) ∷ plain (λ κs. usize) ∷ plain (λ κs. usize) ∷ plain (λ κs. usize) ∷ []
rough_takes = refl

rough_gives : (rough-function.signature).result ≡ plain (λ κs. reading-type.the_row)
rough_gives = refl

-- it asks for nothing
rough_asks_nothing : (κs : Lfts 2) (x y : Bor (List ℤ)) (i j B : ℕ) → rough-reads.Asked κs (x, (y, (i, (j, (B, tt)))))
rough_asks_nothing κs x y i j B = tt

-- WHAT C IS TOLD, of a take, an index, a range and a budget
abbrev RoughTold : List ℤ → List ℤ → (i j B : ℕ) → ReadingNumbers → Type 0
RoughTold values index i j B r =
    (κs : Lfts 2) × (x y : ℕ × ℕ)
    × rough-reads.Learnt κs (record { ref_ptr = x; now = values }, (record { ref_ptr = y; now = index }, (i, (j, (B, tt))))) r (record { ref_ptr = x; now = values }, (record { ref_ptr = y; now = index }, (i, (j, (B, tt)))))

-- the point's theorem, of the contract itself
abbrev Contract : ReadSays
Contract values index i j B r = told r ≡ rough_reading values index i j B

point_6 : Point6 Contract
point_6 = steps.point_6

-- a refusal: "with 0 looks used and neither figure shown", and figures that are not shown are 0
abbrev plainly : ℕ → ReadingNumbers
plainly number = record { looks = 0; number = number; known = 0; high = pos 0; low = pos 0 }

-- where `known` is 1 a high figure is shown, and it is `high`; where one is shown `known` is 1; and where a low figure is shown, it is `low`
shown_high : (t : ToldReading) → (reading_in_numbers t).known ≡ 1 → t.high ≡ Some (reading_in_numbers t).high
shown_high = steps.shown_high

known_where_shown : (t : ToldReading) (v : ℤ) → t.high ≡ Some v → ((reading_in_numbers t).known ≡ 1) × ((reading_in_numbers t).high ≡ v)
known_where_shown t v e = (ap known_number e, ap shown_number e)

shown_low : (t : ToldReading) (v : ℤ) → t.low ≡ Some v → (reading_in_numbers t).low ≡ v
shown_low = steps.shown_low

-- the least value of the range, of C's own array: a value of it, and at most each
pub record Exact (values : List ℤ) (i j : ℕ) (r : ReadingNumbers) : Type 0 where
  pub known : r.known ≡ 1
  pub same : r.low ≡ r.high
  pub stands : (k : ℕ) × (i ≤ k) × (k ≤ j) × (get_or values k (pos 0) ≡ r.high)
  pub least : (k : ℕ) → i ≤ k → k ≤ j → le_z r.high (get_or values k (pos 0)) ≡ true

-- EVERY READING, over any index
module _ (values index : List ℤ) (i j B : ℕ) (r : ReadingNumbers) (t : RoughTold values index i j B r) where
  abbrev reading : Result Figures Refusal
  reading = t.3.reading

  rough_15 : (length index ≡ (length values + 63) / 64 → ⊥) → r ≡ plainly 15
  rough_15 n = t.3.numbers ∙ ap reading_in_numbers ((steps.point_6.reading values index i j B reading t.3.reads).other_index n)

  rough_14 : length index ≡ (length values + 63) / 64 → (j < i) ⊎ (length values ≤ j) → r ≡ plainly 14
  rough_14 n o = t.3.numbers ∙ ap reading_in_numbers ((steps.point_6.reading values index i j B reading t.3.reads).outside n o)

  rough_0 : length index ≡ (length values + 63) / 64 → i ≤ j → j < length values → (r.number ≡ 0) × (r.looks ≡ min B (length (looks (length values) i j)))
  rough_0 n l h =
      let e = steps.point_6.reading values index i j B reading t.3.reads in (
        ap (λ (x : ReadingNumbers). x.number) t.3.numbers ∙ e.accepted n l h,
        ap (λ (x : ReadingNumbers). x.looks) t.3.numbers ∙ e.count n l h,
      )

  -- "Low is −2,147,483,648 until all entries are read"
  rough_early : length index ≡ (length values + 63) / 64 → i ≤ j → j < length values → B < j / 64 + 1 - i / 64 → r.low ≡ negsuc 2147483647
  rough_early n l h b =
      ap (λ (x : ReadingNumbers). x.low) t.3.numbers ∙ steps.shown_low (told reading) (negsuc 2147483647) ((steps.point_6.reading values index i j B reading t.3.reads).early n l h b)

  -- "and at the full count the high figure"
  rough_full : length index ≡ (length values + 63) / 64 → i ≤ j → j < length values → length (looks (length values) i j) ≤ B → r.low ≡ r.high
  rough_full n l h b =
      ap (λ (x : ReadingNumbers). x.low) t.3.numbers
      ∙ ap shown_number ((steps.point_6.reading values index i j B reading t.3.reads).full n l h b)
      ∙ sym (ap (λ (x : ReadingNumbers). x.high) t.3.numbers)

  -- "High is the least known value": at most each value that was looked at
  rough_value : length index ≡ (length values + 63) / 64 → i ≤ j → j < length values → r.known ≡ 1 → (k : ℕ) → Among (Value k) (looks_used (length values) i j B) → le_z r.high (get_or values k (pos 0)) ≡ true
  rough_value n l h q k m =
      let known = sym (ap (λ (y : ReadingNumbers). y.known) t.3.numbers) ∙ q in
      let high : (told reading).high ≡ Some r.high = steps.shown_high (told reading) known ∙ sym (ap (λ (y : ReadingNumbers). Some y.high) t.3.numbers) in
      ((steps.point_6.reading values index i j B reading t.3.reads).high n l h r.high high).1 (Value k) m tt

  -- OVER AN INDEX BUILT FROM THAT TAKE, in the values of C's own array
  module _ (e : index ≡ block_minima values) (l : i ≤ j) (h : j < length values) where
    -- "both equal the exact least value once the full count is used"
    rough_exact : length (looks (length values) i j) ≤ B → Exact values i j r
    rough_exact b =
        let x = steps.exact values index i j B r reading t.3.reads t.3.numbers e l h b in
        record { known = x.0; same = x.1; stands = x.2; least = x.3 }

    -- "low is never above the true one nor a shown high below it"
    rough_below : ((k : ℕ) → k < length values → le_z (negsuc 2147483647) (get_or values k (pos 0)) ≡ true) → (k : ℕ) → i ≤ k → k ≤ j → le_z r.low (get_or values k (pos 0)) ≡ true
    rough_below n k f s =
        let m : length index ≡ (length values + 63) / 64 = ap length e ∙ index_long values in
        let v = (steps.point_6.reading values index i j B reading t.3.reads).low m l h in
        let is : r.low ≡ v.0 = ap (λ (y : ReadingNumbers). y.low) t.3.numbers ∙ steps.shown_low (told reading) v.0 v.1 in
        ap (λ (x : ℤ). le_z x (get_or values k (pos 0))) is
        ∙ le_z_trans v.0 (range_minimum values i j).value (get_or values k (pos 0)) ((steps.point_6.built values index i j B reading t.3.reads e l h).below n v.0 v.1) (true_under values i j l h k f s)

    rough_above : r.known ≡ 1 → (k : ℕ) × (i ≤ k) × (k ≤ j) × (le_z (get_or values k (pos 0)) r.high ≡ true)
    rough_above q =
        let p = true_stands values i j l h in
        let known = sym (ap (λ (y : ReadingNumbers). y.known) t.3.numbers) ∙ q in
        let high : (told reading).high ≡ Some r.high = steps.shown_high (told reading) known ∙ sym (ap (λ (y : ReadingNumbers). Some y.high) t.3.numbers) in
        (p.0, p.1, p.2, ap (λ (x : ℤ). le_z x r.high) p.3 ∙ (steps.point_6.built values index i j B reading t.3.reads e l h).above r.high high)

-- B = 0 on a range that the take has
rough_nothing : (values index : List ℤ) (i j : ℕ) (r : ReadingNumbers) → RoughTold values index i j 0 r → length index ≡ (length values + 63) / 64 → i ≤ j → j < length values → r ≡ record { looks = 0; number = 0; known = 0; high = pos 0; low = negsuc 2147483647 }
rough_nothing values index i j r t n l h = t.3.numbers ∙ ap reading_in_numbers ((steps.point_6.reading values index i j 0 t.3.reading t.3.reads).nothing n l h refl)

-- "a bigger budget never lowers low, raises a shown high or takes one away"
module _ (values index : List ℤ) (i j B C : ℕ) (r s : ReadingNumbers) (t : RoughTold values index i j B r) (u : RoughTold values index i j C s) (n : length index ≡ (length values + 63) / 64) (l : i ≤ j) (h : j < length values) (b : B ≤ C) where
  low_rises : index ≡ block_minima values → ((k : ℕ) → k < length values → le_z (negsuc 2147483647) (get_or values k (pos 0)) ≡ true) → le_z r.low s.low ≡ true
  low_rises e m =
      let v = (steps.point_6.reading values index i j B t.3.reading t.3.reads).low n l h in
      let w = (steps.point_6.reading values index i j C u.3.reading u.3.reads).low n l h in
      let is-v : r.low ≡ v.0 = ap (λ (y : ReadingNumbers). y.low) t.3.numbers ∙ steps.shown_low (told t.3.reading) v.0 v.1 in
      let is-w : s.low ≡ w.0 = ap (λ (y : ReadingNumbers). y.low) u.3.numbers ∙ steps.shown_low (told u.3.reading) w.0 w.1 in
      ap (λ (x : ℤ). le_z x s.low) is-v ∙ ap (le_z v.0) is-w
      ∙ (steps.point_6.bigger values index i j B C t.3.reading u.3.reading t.3.reads u.3.reads n l h b).low e m v.0 w.0 v.1 w.1

  high_falls : r.known ≡ 1 → (s.known ≡ 1) × (le_z s.high r.high ≡ true)
  high_falls q =
      let known = sym (ap (λ (y : ReadingNumbers). y.known) t.3.numbers) ∙ q in
      let high : (told t.3.reading).high ≡ Some r.high = steps.shown_high (told t.3.reading) known ∙ sym (ap (λ (y : ReadingNumbers). Some y.high) t.3.numbers) in
      let f = (steps.point_6.bigger values index i j B C t.3.reading u.3.reading t.3.reads u.3.reads n l h b).high r.high high in (
        ap (λ (y : ReadingNumbers). y.known) u.3.numbers ∙ ap known_number f.1,
        ap (λ (x : ℤ). le_z x r.high) (ap (λ (y : ReadingNumbers). y.high) u.3.numbers ∙ ap shown_number f.1) ∙ f.2,
      )

-- the looks are real
looks_are_real : (values index others entries : List ℤ) (i j B : ℕ) (r s : ReadingNumbers) → RoughTold values index i j B r → RoughTold others entries i j B s → length values ≡ length others → length index ≡ length entries → map (read_by values index) (looks_used (length values) i j B) ≡ map (read_by others entries) (looks_used (length values) i j B) → r ≡ s
looks_are_real values index others entries i j B r s t u n m e =
    t.3.numbers
    ∙ ap reading_in_numbers (steps.point_6.agreed values index others entries i j B t.3.reading u.3.reading t.3.reads u.3.reads n m e)
    ∙ sym u.3.numbers

-- as C uses it: an index is built with reply 0, whatever it held, and then read with as many looks as there are
built_and_read : (values before after : List ℤ) (i j : ℕ) (r : ReadingNumbers) → BuildTold values before after 0 → RoughTold values after i j 18446744073709551615 r → i ≤ j → j < length values → length (looks (length values) i j) ≤ 18446744073709551615 → Exact values i j r
built_and_read values before after i j r b t l h c =
    let x = steps.exact values after i j 18446744073709551615 r t.3.reading t.3.reads t.3.numbers (built values before after 0 b refl) l h c in
    record { known = x.0; same = x.1; stands = x.2; least = x.3 }

-- THE CONVERSE: no more is learnt of the function that C calls than its contract says. The references may be any
rough_told_of : (values index : List ℤ) (i j B : ℕ) (a : Result Figures Refusal) → told a ≡ rough_reading values index i j B → RoughTold values index i j B (reading_in_numbers (told a))
rough_told_of values index i j B a d = (([], ([], tt)), (0, 0), (0, 0), record { reading = a; reads = d; numbers = refl })
