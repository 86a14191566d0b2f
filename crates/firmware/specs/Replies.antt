-- What is shown, as the numbers that C gets.
use Rattle.std.specs.Prelude.{Option, None, Some, pos}
use Rattle.history.specs.declared.RangeMinimum.{RangeMinimum}
use Rattle.history.specs.Minimum.{Minimum}

-- the value and the place that are shown; where nothing is shown, zeros: the value 0 and the place `zero`
abbrev pub shown_or : {Place : Type 0} → Place → Option (RangeMinimum Place) → RangeMinimum Place
shown_or zero None = record { value = pos 0; place = zero }
shown_or zero (Some m) = m

-- of a reply to a command
abbrev pub shown_of : Option Minimum → Minimum
shown_of = shown_or (record { 0 = 0 })
