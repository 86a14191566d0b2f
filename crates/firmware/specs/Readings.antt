-- A rough reading as the numbers that C gets, and what the exported call promises: it is the rough reading's own call, in numbers. The take and its index cross as they are.
use Rattle.std.specs.Prelude.{◌≡◌, List, ℕ, ℤ, pos, Option, None, Some, Result}
use Rattle.history.specs.declared.Refusal.{Refusal}
use Rattle.rough.specs.declared.Figures.{Figures}
use Rattle.rough.specs.Looks.{ToldReading, rough_reading, told}
use Rattle.firmware.specs.declared.readings.ReadingNumbers.{ReadingNumbers}

-- a figure, or 0 where none is shown, as include/filkotar.h has it; and 1 where one is shown, or 0
abbrev pub shown_number : Option ℤ → ℤ
shown_number None = pos 0
shown_number (Some v) = v

abbrev pub known_number : Option ℤ → ℕ
known_number None = 0
known_number (Some v) = 1

-- what is told, in numbers: the looks used, the reply's, whether there is a high figure, and the figures that are shown, or zeros
abbrev pub reading_in_numbers : ToldReading → ReadingNumbers
reading_in_numbers t = record { looks = t.looks; number = t.number; known = known_number t.high; high = shown_number t.high; low = shown_number t.low }

-- A ROUGH READING: the definition's, in numbers
pub record ReadsInNumbers (values index : List ℤ) (i j B : ℕ) (r : ReadingNumbers) : Type 0 where
  pub reading : Result Figures Refusal
  pub reads : told reading ≡ rough_reading values index i j B
  pub numbers : r ≡ reading_in_numbers (told reading)
