-- Document 01, "Command bytes" and "Replies in checking order", 2 and 3: what reading the rest of a stream finds.
use Rattle.std.specs.Prelude.{cond, List, [], ◌∷◌, ℕ, ltb, length, take, Option, Some, None, Result, Ok, Err}
use Rattle.history.specs.declared.Command.{Command}
use Rattle.history.specs.declared.Refusal.{Refusal}
use Rattle.history.specs.Replies.{number_of}
use Rattle.endian.specs.Numbers.{little_endian}
use Rattle.reading.specs.declared.Kind.{Kind}
use Rattle.reading.specs.declared.Next.{Next}
use Rattle.reading.specs.Kinds.{kind_of, argument_bytes, length_of, command_of}

-- what a reading finds: document 01's number where it is refused, the command where there is one, and how many bytes it uses
pub record Outcome : Type 0 where
  pub number : Option ℕ
  pub command : Option Command
  pub used : ℕ

-- "the answer is end": no number and no command, and nothing is left to use
abbrev pub ended : Outcome
ended = record { number = None; command = None; used = 0 }

-- "a command and its length"
abbrev pub next : Command → ℕ → Outcome
next c n = record { number = None; command = Some c; used = n }

-- "a reading refusal uses 0 bytes"
abbrev pub refused : ℕ → Outcome
refused number = record { number = Some number; command = None; used = 0 }

-- the outcome that each case of the answer stands for
abbrev pub read_as : Result (Option Next) Refusal → Outcome
read_as (Ok None) = ended
read_as (Ok (Some n)) = next n.command n.length
read_as (Err why) = refused (number_of why)

-- a command of a known kind, with the bytes that follow its kind byte. 3: "when the kind is known and fewer than four bytes follow
-- where an argument is due"
abbrev pub of_kind : Kind → List ℕ → Outcome
of_kind kind behind =
    cond (ltb (length behind) (argument_bytes kind))
    (refused 3)
    (next (command_of kind (little_endian (take (argument_bytes kind) behind))) (length_of kind))

-- 2: "when the kind byte is none of the four"
abbrev pub of_kind_byte : Option Kind → List ℕ → Outcome
of_kind_byte None behind = refused 2
of_kind_byte (Some kind) behind = of_kind kind behind

-- "The rest of the stream, starting wherever the last command ended, is handed to the reading of the next one. With nothing left the answer is end."
abbrev pub reading_of : List ℕ → Outcome
reading_of [] = ended
reading_of (kind ∷ behind) = of_kind_byte (kind_of kind) behind
