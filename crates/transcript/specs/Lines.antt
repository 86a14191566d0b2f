-- Document 01, "Played examples": each line that the stream program prints.
use Rattle.std.specs.Prelude.{List, ◌∷◌, ◌++◌, ℕ}
use Rattle.history.specs.declared.Command.{Command}
use Rattle.history.specs.declared.Command.TheVariants.{Value, Mark, Query, Close}
use Rattle.history.specs.Replies.{Told}
use Rattle.text.specs.Writing.{decimal_of}
use Rattle.text.specs.Parts.{spaced, newline, reply_text}

-- "its letter V, M, Q or C"
abbrev pub letter_of : Command → ℕ
letter_of (Value v) = 86
letter_of Mark = 77
letter_of (Query i) = 81
letter_of (Close i) = 67

-- "taps 60", of the session's limit
abbrev pub taps_line : ℕ → List ℕ
taps_line limit = 116 ∷ 97 ∷ 112 ∷ 115 ∷ spaced (decimal_of limit ++ newline)

-- "per command its running number from 1, its letter .., the reply, and after an accepted Query the value and place"
abbrev pub answer_line : ℕ → Command → Told → List ℕ
answer_line number command t = decimal_of number ++ spaced (letter_of command ∷ spaced (reply_text t ++ newline))

-- "upon a reading refusal `stop`, the byte offset from 0 of the kind byte, and the reply"
abbrev pub stop_line : ℕ → ℕ → List ℕ
stop_line offset number = 115 ∷ 116 ∷ 111 ∷ 112 ∷ spaced (decimal_of offset ++ spaced (decimal_of number ++ newline))

-- "finally `end` with commands read, commands accepted and active taps"
abbrev pub end_line : ℕ → ℕ → ℕ → List ℕ
end_line read accepted active =
    101 ∷ 110 ∷ 100 ∷ spaced (decimal_of read ++ spaced (decimal_of accepted ++ spaced (decimal_of active ++ newline)))
