-- The commands of a stream, as document 01, "Command bytes", has them read one after the other.
use Rattle.std.specs.Prelude.{List, [], ◌∷◌, ℕ, zero, suc, ◌+◌, length, drop, Option, None, Some}
use Rattle.history.specs.declared.Command.{Command}
use Rattle.reading.specs.Outcomes.{reading_of}

-- what is read of a stream: its commands; the byte offset behind the last of them; and the number of the reading refusal there, or none where the stream ends
pub record Stream : Type 0 where
  pub commands : List Command
  pub at : ℕ
  pub refusal : Option ℕ

-- no further command is read: "With nothing left the answer is end. Otherwise it is .. a reading refusal", "after which it reads no more"
abbrev pub stops : ℕ → Option ℕ → Stream
stops at refusal = record { commands = []; at = at; refusal = refusal }

-- a command, where one is read, and what is read behind it
abbrev pub goes_on : Option Command → (ending behind : Stream) → Stream
goes_on None ending behind = ending
goes_on (Some c) ending behind = record { commands = c ∷ behind.commands; at = behind.at; refusal = behind.refusal }

-- "The rest of the stream, starting wherever the last command ended, is handed to the reading of the next one": the rest starts at the offset `at`, and has `most` commands at most
unfoldable pub stream_from : (most at : ℕ) → List ℕ → Stream
stream_from zero at rest = stops at None
stream_from (suc most) at rest =
    goes_on (reading_of rest).command (stops at (reading_of rest).number) (stream_from most (at + (reading_of rest).used) (drop (reading_of rest).used rest))

-- a command has a byte at least, so that a stream has no more commands than bytes
abbrev pub stream_of : List ℕ → Stream
stream_of bytes = stream_from (length bytes) 0 bytes
