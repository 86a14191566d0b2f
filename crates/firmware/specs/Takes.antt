-- A stored take's replies as the numbers that C gets, and what the exported calls promise: each is the take's own call, in numbers. The take and its index cross as they are.
use Rattle.std.specs.Prelude.{◌≡◌, List, ℕ, ℤ, Option, Result}
use Rattle.history.specs.declared.Refusal.{Refusal}
use Rattle.blocks.specs.Found.{Found}
use Rattle.blocks.specs.Takes.{Told, told, told_building}
use Rattle.blocks.specs.Calls.{Builds, Searches}
use Rattle.firmware.specs.declared.takes.FoundNumbers.{FoundNumbers}
use Rattle.firmware.specs.Replies.{shown_or}

-- the value and the place that are shown; where nothing is shown, zeros
abbrev pub shown_of : Option Found → Found
shown_of = shown_or (record { 0 = 0 })

-- what is told, in numbers: the reply's, and the value and place that it shows, or zeros
abbrev pub in_numbers : Told → FoundNumbers
in_numbers t = record { number = t.number; value = (shown_of t.shown).value; place = (shown_of t.shown).place.0 }

-- BUILDING: the take's, and of its reply the number. It shows nothing
pub record BuildsInNumbers (values before after : List ℤ) (r : ℕ) : Type 0 where
  pub reply : Result (Unit {0}) Refusal
  pub builds : Builds values before after reply
  pub number : r ≡ (told_building reply).number

-- A SEARCH: the take's, in numbers
pub record SearchesInNumbers (values index : List ℤ) (i j : ℕ) (r : FoundNumbers) : Type 0 where
  pub reply : Result Found Refusal
  pub searches : Searches values index i j reply
  pub numbers : r ≡ in_numbers (told reply)
