-- The lines that the limiter prints, but for `stop`, which is `text Stops.stop_lines`; the quotes are from its description, at the head of Output. The parts of a line stand a space apart,
-- and it ends with a line feed, as in the stream program.
use Rattle.std.specs.Prelude.{List, ◌∷◌, ◌++◌, ℕ}
use Rattle.history.specs.Replies.{Told}
use Rattle.text.specs.Writing.{decimal_of}
use Rattle.text.specs.Parts.{spaced, newline, reply_text}

-- "`no window` alone"
abbrev pub no_window_line : List ℕ
no_window_line = 110 ∷ 111 ∷ spaced (119 ∷ 105 ∷ 110 ∷ 100 ∷ 111 ∷ 119 ∷ newline)

-- "`open` and the reply"
abbrev pub open_line : Told → List ℕ
open_line t = 111 ∷ 112 ∷ 101 ∷ 110 ∷ spaced (reply_text t ++ newline)

-- "per value its running number from 1 and the reply, and after acceptance the least value and its place"
abbrev pub value_line : ℕ → Told → List ℕ
value_line number t = decimal_of number ++ spaced (reply_text t ++ newline)

-- "finally `end` with values read and values accepted"
abbrev pub end_line : ℕ → ℕ → List ℕ
end_line read accepted = 101 ∷ 110 ∷ 100 ∷ spaced (decimal_of read ++ spaced (decimal_of accepted ++ newline))
