-- Document 01, "Played examples": what lines are made of besides numbers: the space between two parts, the line's end, and a reply with what it shows.
use Rattle.std.specs.Prelude.{List, [], ◌∷◌, ◌++◌, ℕ, ℤ, Option, None, Some, Result, Ok, Err}
use Rattle.history.specs.Minimum.{Minimum}
use Rattle.history.specs.declared.Position.{Position}
use Rattle.history.specs.declared.RangeMinimum.{RangeMinimum}
use Rattle.history.specs.declared.Refusal.{Refusal}
use Rattle.history.specs.Replies.{ToldOf, Told, number_of}
use Rattle.text.specs.Writing.{decimal_of, signed_text}

-- the parts of a line stand a space apart, and it ends with a line feed
abbrev pub spaced : List ℕ → List ℕ
spaced text = 32 ∷ text

abbrev pub newline : List ℕ
newline = 10 ∷ []

-- a value, behind a space
abbrev pub value_text : ℤ → List ℕ
value_text v = spaced (signed_text v)

-- "the value and place", which has a number
abbrev pub least_text : {Place : Type 0} → (number : Place → ℕ) → RangeMinimum Place → List ℕ
least_text number m = value_text m.value ++ spaced (decimal_of (number m.place))

-- "after an accepted Query the value and place"
abbrev pub minimum_text : Minimum → List ℕ
minimum_text m = least_text (λ (place : Position). place.0) m

-- what is shown, if anything, by the text that it has
abbrev pub shown_text : {Shown : Type 0} → (text : Shown → List ℕ) → Option Shown → List ℕ
shown_text text None = []
shown_text text (Some shown) = text shown

-- "the reply", and what it shows
abbrev pub told_text : {Shown : Type 0} → (text : Shown → List ℕ) → ToldOf Shown → List ℕ
told_text text t = decimal_of t.number ++ shown_text text t.shown

abbrev pub reply_text : Told → List ℕ
reply_text t = told_text minimum_text t

-- the reply of a call, with what an acceptance shows
abbrev pub replied_text : {Shown : Type 0} → (text : Shown → List ℕ) → Result Shown Refusal → List ℕ
replied_text text (Ok shown) = decimal_of 0 ++ text shown
replied_text text (Err why) = decimal_of (number_of why)
