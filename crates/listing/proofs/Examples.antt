-- The examples are right: the whole output computes to them. Over the altered index of the last one, either choice may be printed.
use mathlib.Core.Path.{◌≡◌, refl}
use mathlib.Core.List.{List, [], ◌∷◌, filter_map}
use Prim.Native.Nat.{ℕ, ◌≤◌}
use native.Mathlib.Omega.{arith}
use lib.IntN.{ℤ, pos, negsuc}
use lib.ListN.{length}
use Rattle.history.specs.Minima.{lowest}
use Rattle.blocks.specs.Takes.{block_minima_from}
use Rattle.rough.specs.Looks.{up_from}
use Rattle.numbers.specs.FourBytes.{values_from}
use Rattle.text.specs.Writing.{digits_within}
use Rattle.text.specs.Examples.{AllPrinted}
use Rattle.listing.specs.Input.{requests_from}
use Rattle.listing.specs.Output.{output_of}
use Rattle.listing.specs.Choices.{unused, Prints, exact_output}
use Rattle.listing.specs.Examples.{examples, altered, altered_output}

-- THE EXAMPLES, all of the list
pub examples_printed : AllPrinted exact_output examples
unfolding digits_within lowest block_minima_from up_from filter_map values_from requests_from
examples_printed = refl

-- none is missing
examples_count : length examples ≡ 17
examples_count = refl

-- THE CHOICE IS OPEN over an altered index: 9 at 0, 7 at 1, and -3 at 1
pub either_printed : Prints altered (altered_output (57 ∷ 32 ∷ 48 ∷ [])) × Prints altered (altered_output (55 ∷ 32 ∷ 49 ∷ [])) × Prints altered (altered_output (45 ∷ 51 ∷ 32 ∷ 49 ∷ []))
unfolding digits_within lowest block_minima_from values_from requests_from
either_printed = (
  printed (pos 9) 0 (omega arith) refl,
  printed (pos 7) 1 (omega arith) refl,
  printed (negsuc 2) 1 (omega arith) refl,
)
  where
    -- the altered index is not the take's
    other : ◌≡◌ {A = List ℤ} (pos 9 ∷ []) (negsuc 2 ∷ []) → ⊥
    other i = let z : ◌≡◌ {A = ℕ} 0 1 = cc in omega arith

    printed : (v : ℤ) (p : ℕ) → p ≤ 1 → {text : List ℕ} → text ≡ output_of (unused ∷ record { value = v; place = record { 0 = p } } ∷ []) altered → Prints altered text
    printed v p l e = record {
      found = unused ∷ record { value = v; place = record { 0 = p } } ∷ [];
      allowed = (tt, (record { inside = λ z. (omega arith, l); correct = λ i. absurd (other i) }, tt));
      says = e;
    }
