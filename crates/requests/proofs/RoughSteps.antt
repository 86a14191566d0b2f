-- What the statements of proofs/RoughInC rest on: point 6 of the contract, what the numbers of a reading show, and what the figures are at the full count.
use mathlib.Core.Path.{◌≡◌, refl, sym, ap, ◌∙◌}
use mathlib.Core.Bool.{true}
use mathlib.Core.List.{List}
use Rattle.std.specs.Prelude.{Result, Option, None, Some}
use Rattle.history.specs.declared.Refusal.{Refusal}
use Prim.Native.Nat.{ℕ, ◌<◌, ◌≤◌}
use native.Mathlib.Omega.{arith}
use lib.IntN.{ℤ, pos}
use lib.Signed.{le_z}
use lib.ListN.{length, get_or}
use Rattle.blocks.specs.Takes.{range_minimum, block_minima}
use Rattle.rough.specs.declared.Figures.{Figures}
use Rattle.rough.specs.Looks.{looks, ToldReading, rough_reading, told}
use Rattle.rough.specs.Promises.{Point6}
use Rattle.rough.proofs.Point as point
use Rattle.rough.proofs.Truth.{true_stands, true_under}
use Rattle.firmware.specs.declared.readings.ReadingNumbers.{ReadingNumbers}
use Rattle.firmware.specs.Readings.{shown_number, known_number, reading_in_numbers}

pub point_6 : Point6 (λ values index i j B r. told r ≡ rough_reading values index i j B)
point_6 = point.point_6 (λ values index i j B r. told r ≡ rough_reading values index i j B) (λ values index i j B r d. d)

pub shown_high : (t : ToldReading) → (reading_in_numbers t).known ≡ 1 → t.high ≡ Some (reading_in_numbers t).high
shown_high t e = go t.high e
  where
    go : (o : Option ℤ) → known_number o ≡ 1 → o ≡ Some (shown_number o)
    go None e = absurd (omega (arith, e))
    go (Some v) e = refl

pub shown_low : (t : ToldReading) (v : ℤ) → t.low ≡ Some v → (reading_in_numbers t).low ≡ v
shown_low t v e = ap shown_number e

-- at the full count, over an index built from that take: a high figure is shown, low is it, a value of the range is it, and it is at most each
pub exact : (values index : List ℤ) (i j B : ℕ) (r : ReadingNumbers) (a : Result Figures Refusal) → told a ≡ rough_reading values index i j B → r ≡ reading_in_numbers (told a) → index ≡ block_minima values → i ≤ j → j < length values
    → length (looks (length values) i j) ≤ B
    → (r.known ≡ 1) × (r.low ≡ r.high) × ((k : ℕ) × (i ≤ k) × (k ≤ j) × (get_or values k (pos 0) ≡ r.high)) × ((k : ℕ) → i ≤ k → k ≤ j → le_z r.high (get_or values k (pos 0)) ≡ true)
exact values index i j B r a d m e l h b =
    let x = (point_6.built values index i j B a d e l h).exact b in
    let is : r.high ≡ (range_minimum values i j).value = ap (λ (y : ReadingNumbers). y.high) m ∙ ap shown_number x.0 in
    let low : r.low ≡ (range_minimum values i j).value = ap (λ (y : ReadingNumbers). y.low) m ∙ ap shown_number x.1 in
    let p = true_stands values i j l h in (
      ap (λ (y : ReadingNumbers). y.known) m ∙ ap known_number x.0,
      low ∙ sym is,
      (p.0, p.1, p.2, p.3 ∙ sym is),
      λ k f s. ap (λ (v : ℤ). le_z v (get_or values k (pos 0))) is ∙ true_under values i j l h k f s,
    )
