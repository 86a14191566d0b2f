-- The lines that `lookup` prints, but for `stop`, which is `text Stops.stop_lines`; the quotes are from its description, at the head of Output. The parts of a line stand a space apart, and it
-- ends with a line feed, as in the other programs.
use Rattle.std.specs.Prelude.{cond, List, [], ◌∷◌, ◌++◌, ℕ, ◌-◌, eqb, ℤ, pos, length, get_or, Option, None, Some}
use Rattle.blocks.specs.declared.Offset.{Offset}
use Rattle.blocks.specs.Found.{Found}
use Rattle.blocks.specs.Takes.{Told}
use Rattle.rough.specs.Looks.{ToldReading}
use Rattle.text.specs.Writing.{decimal_of}
use Rattle.text.specs.Parts.{spaced, newline, value_text, least_text, told_text}

-- "`no take` alone"
abbrev pub no_take_line : List ℕ
no_take_line = 110 ∷ 111 ∷ spaced (116 ∷ 97 ∷ 107 ∷ 101 ∷ newline)

-- "the reply, and on 0 the value and place"
abbrev pub found_text : Found → List ℕ
found_text f = least_text (λ (place : Offset). place.0) f

abbrev pub reply_text : Told → List ℕ
reply_text t = told_text found_text t

-- "a line `build` with the reply"
abbrev pub build_line : Told → List ℕ
build_line t = 98 ∷ 117 ∷ 105 ∷ 108 ∷ 100 ∷ spaced (reply_text t ++ newline)

-- "a line `index` with all m entries .. (the word alone where m is 0)"
abbrev pub values_text : List ℤ → List ℕ
values_text [] = []
values_text (v ∷ vs) = value_text v ++ values_text vs

abbrev pub index_line : List ℤ → List ℕ
index_line entries = 105 ∷ 110 ∷ 100 ∷ 101 ∷ 120 ∷ values_text entries ++ newline

-- "its running number .., `search`, the reply, and on 0 the value and place"
abbrev pub search_line : ℕ → Told → List ℕ
search_line number t = decimal_of number ++ spaced (115 ∷ 101 ∷ 97 ∷ 114 ∷ 99 ∷ 104 ∷ spaced (reply_text t ++ newline))

-- "its first and last value where it has any"
abbrev pub ends_text : List ℤ → List ℕ
ends_text part = cond (eqb (length part) 0) [] (value_text (get_or part 0 (pos 0)) ++ value_text (get_or part (length part - 1) (pos 0)))

-- "number, `stretch`, its length", and these
abbrev pub stretch_line : ℕ → List ℤ → List ℕ
stretch_line number part =
    decimal_of number ++ spaced (115 ∷ 116 ∷ 114 ∷ 101 ∷ 116 ∷ 99 ∷ 104 ∷ spaced (decimal_of (length part) ++ (ends_text part ++ newline)))

-- "the high figure or `-`, the low figure or `-`"
abbrev pub figure_text : Option ℤ → List ℕ
figure_text None = spaced (45 ∷ [])
figure_text (Some v) = value_text v

-- "the reply, the looks used", and both figures
abbrev pub reading_text : ToldReading → List ℕ
reading_text t = decimal_of t.number ++ (spaced (decimal_of t.looks) ++ (figure_text t.high ++ figure_text t.low))

-- "number, `rough`", and these
abbrev pub rough_line : ℕ → ToldReading → List ℕ
rough_line number t = decimal_of number ++ spaced (114 ∷ 111 ∷ 117 ∷ 103 ∷ 104 ∷ spaced (reading_text t ++ newline))

-- "number and `set`"
abbrev pub set_line : ℕ → List ℕ
set_line number = decimal_of number ++ spaced (115 ∷ 101 ∷ 116 ∷ newline)

-- "finally `end` and the number of requests before that"
abbrev pub end_line : ℕ → List ℕ
end_line read = 101 ∷ 110 ∷ 100 ∷ spaced (decimal_of read ++ newline)
