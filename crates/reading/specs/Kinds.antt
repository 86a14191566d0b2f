-- Document 01, "Command bytes", the table: a kind byte, the command that it starts, and the argument that is due.
use Rattle.std.specs.Prelude.{cond, ℕ, ◌+◌, eqb, Option, Some, None}
use Rattle.history.specs.declared.Command.{Command}
use Rattle.signed.specs.TwosComplement.{signed_of}
use Rattle.reading.specs.declared.Kind.{Kind}

-- the column "kind byte": 01 Value, 02 Mark, 03 Query, 04 Close
abbrev pub kind_of : ℕ → Option Kind
kind_of byte =
    cond (eqb byte 1) (Some Kind.Value)
    (cond (eqb byte 2) (Some Kind.Mark)
    (cond (eqb byte 3) (Some Kind.Query)
    (cond (eqb byte 4) (Some Kind.Close)
    None)))

-- how many bytes of argument are due: "Arguments are four bytes", and a Mark has "none"
abbrev pub argument_bytes : Kind → ℕ
argument_bytes Kind.Value = 4
argument_bytes Kind.Mark = 0
argument_bytes Kind.Query = 4
argument_bytes Kind.Close = 4

-- "a command and its length, 5 or 1": the kind byte and the argument
abbrev pub length_of : Kind → ℕ
length_of kind = 1 + argument_bytes kind

-- the columns "command" and "argument", of the unsigned number that the argument's bytes make: "the value" of a Value, "a position" of a Query and a Close.
-- "Value's is two's complement, the others are unsigned"
abbrev pub command_of : Kind → ℕ → Command
command_of Kind.Value n = Command.Value (signed_of n)
command_of Kind.Mark n = Command.Mark
command_of Kind.Query n = Command.Query (record { 0 = n })
command_of Kind.Close n = Command.Close (record { 0 = n })

-- the length of each command: "5 or 1"
abbrev pub bytes_of : Command → ℕ
bytes_of (Command.Value v) = 5
bytes_of Command.Mark = 1
bytes_of (Command.Query i) = 5
bytes_of (Command.Close i) = 5
