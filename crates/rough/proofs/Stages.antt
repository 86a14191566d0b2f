-- The stages of the low figure: before all entries are read, before the full count, and at it.
use mathlib.Core.Path.{◌≡◌, ap, ◌∙◌}
use mathlib.Core.List.{List}
use Rattle.std.specs.List.{filter_map}
use Rattle.std.specs.Prelude.{Option, Some}
use Prim.Native.Nat.{ℕ, ◌+◌, ◌-◌, ◌/◌, ◌<◌, ◌≤◌, min}
use native.Mathlib.Omega.{arith}
use lib.IntN.{ℤ}
use lib.ListN.{length, drop, length-append, length-take}
use lib.Seq.{take_all}
use borrow.Author.Tests.{lt-ltb, le-ltb}
use Rattle.blocks.specs.Takes.{least_of}
use Rattle.blocks.specs.Promises.{Fitting}
use Rattle.rough.specs.Looks.{Look, entry_looks, value_looks, looks, looks_used, entry_from, high_after, low_after}
use Rattle.rough.specs.Promises.{bottom}
use Rattle.rough.proofs.Shows.{met, length_entries, all_entries}

-- a reading of a range that the take has
module _ (values index : List ℤ) (i j : ℕ) (l : i ≤ j) (h : j < length values) (m : Fitting values index) where
  abbrev n : ℕ
  n = length values

  abbrev all : List Look
  all = looks n i j

  module _ (B : ℕ) where
    abbrev used : List Look
    used = looks_used n i j B

    abbrev pub low : Option ℤ
    low = low_after values index i j used

    abbrev high : Option ℤ
    high = high_after values index i j used

    -- all entries are among the looks
    entries_few : length (entry_looks i j) ≤ length all
    entries_few = omega (arith, length-append (entry_looks i j) (value_looks n i j))

    used_few : length used ≡ min B (length all)
    used_few = length-take B all

    -- THE STAGES of the low figure
    pub low_early : B < length (entry_looks i j) → low ≡ Some bottom
    low_early b = simp (lt-ltb (length used) (length (entry_looks i j)) (omega (arith, used_few, b)))

    pub low_between : length (entry_looks i j) ≤ B → B < length all → low ≡ least_of (met values index i j l h m)
    low_between b c =
        let first = le-ltb (length used) (length (entry_looks i j)) (omega (arith, used_few, b, entries_few)) in
        let then = lt-ltb (length used) (length all) (omega (arith, used_few, c)) in
        let entries : filter_map (entry_from index) used ≡ met values index i j l h m =
        all_entries values index i j l h m B ∙ take_all B (met values index i j l h m) (omega (arith, length-take (j / 64 + 1 - i / 64) (drop (i / 64) index), b, length_entries i j)) in
        simp (first, then) (ap least_of entries)

    pub low_full : length all ≤ B → low ≡ high
    low_full b =
        let first = le-ltb (length used) (length (entry_looks i j)) (omega (arith, used_few, b, entries_few)) in
        let then = le-ltb (length used) (length all) (omega (arith, used_few, b)) in
        simp (first, then)
