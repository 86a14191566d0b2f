-- Document 01, "Played examples": the bytes and the whole output of its example, and of streams with no bytes, with an unknown kind, with a mark still active at the end and with an argument
-- that is cut off. A command is a line
-- here, and so is a line of the output.
use Rattle.std.specs.Prelude.{◌≡◌, List, [], ◌∷◌}
use Rattle.text.specs.Examples as Examples
use Rattle.text.specs.Examples.{Example}
use Rattle.transcript.specs.Output.{output_of}

-- the whole output of an example's bytes is what it says
abbrev pub Printed : Example → Type 0
Printed e = output_of e.bytes ≡ e.output

-- and so it is with each of a list
abbrev pub AllPrinted : List Example → Type 0
AllPrinted es = Examples.AllPrinted output_of es

-- "For the bytes of V 12, M, V −3, Q 1, C 1, Q 1 the output is, whole": taps 60, 1 V 0, 2 M 0, 3 V 0, 4 Q 0 -3 2, 5 C 0, 6 Q 11, end 6 5 0
abbrev pub example : Example
example = record {
  bytes =
      1 ∷ 12 ∷ 0 ∷ 0 ∷ 0
      ∷ 2
      ∷ 1 ∷ 253 ∷ 255 ∷ 255 ∷ 255
      ∷ 3 ∷ 1 ∷ 0 ∷ 0 ∷ 0
      ∷ 4 ∷ 1 ∷ 0 ∷ 0 ∷ 0
      ∷ 3 ∷ 1 ∷ 0 ∷ 0 ∷ 0
      ∷ [];
  output =
      116 ∷ 97 ∷ 112 ∷ 115 ∷ 32 ∷ 54 ∷ 48 ∷ 10
      ∷ 49 ∷ 32 ∷ 86 ∷ 32 ∷ 48 ∷ 10
      ∷ 50 ∷ 32 ∷ 77 ∷ 32 ∷ 48 ∷ 10
      ∷ 51 ∷ 32 ∷ 86 ∷ 32 ∷ 48 ∷ 10
      ∷ 52 ∷ 32 ∷ 81 ∷ 32 ∷ 48 ∷ 32 ∷ 45 ∷ 51 ∷ 32 ∷ 50 ∷ 10
      ∷ 53 ∷ 32 ∷ 67 ∷ 32 ∷ 48 ∷ 10
      ∷ 54 ∷ 32 ∷ 81 ∷ 32 ∷ 49 ∷ 49 ∷ 10
      ∷ 101 ∷ 110 ∷ 100 ∷ 32 ∷ 54 ∷ 32 ∷ 53 ∷ 32 ∷ 48 ∷ 10
      ∷ [];
}

-- the other endings
abbrev pub endings : List Example
endings =
    -- no bytes: taps 60, end 0 0 0
    record {
      bytes = [];
      output =
          116 ∷ 97 ∷ 112 ∷ 115 ∷ 32 ∷ 54 ∷ 48 ∷ 10
          ∷ 101 ∷ 110 ∷ 100 ∷ 32 ∷ 48 ∷ 32 ∷ 48 ∷ 32 ∷ 48 ∷ 10
          ∷ [];
    }
    -- a Mark and an unknown kind, 02 05: taps 60, 1 M 7, stop 1 2, end 1 0 0
    ∷ record {
      bytes = 2 ∷ 5 ∷ [];
      output =
          116 ∷ 97 ∷ 112 ∷ 115 ∷ 32 ∷ 54 ∷ 48 ∷ 10
          ∷ 49 ∷ 32 ∷ 77 ∷ 32 ∷ 55 ∷ 10
          ∷ 115 ∷ 116 ∷ 111 ∷ 112 ∷ 32 ∷ 49 ∷ 32 ∷ 50 ∷ 10
          ∷ 101 ∷ 110 ∷ 100 ∷ 32 ∷ 49 ∷ 32 ∷ 48 ∷ 32 ∷ 48 ∷ 10
          ∷ [];
    }
    -- a Value, a Mark that stays active, and an unknown kind, 01 07 00 00 00 02 05: taps 60, 1 V 0, 2 M 0, stop 6 2, end 2 2 1
    ∷ record {
      bytes = 1 ∷ 7 ∷ 0 ∷ 0 ∷ 0 ∷ 2 ∷ 5 ∷ [];
      output =
          116 ∷ 97 ∷ 112 ∷ 115 ∷ 32 ∷ 54 ∷ 48 ∷ 10
          ∷ 49 ∷ 32 ∷ 86 ∷ 32 ∷ 48 ∷ 10
          ∷ 50 ∷ 32 ∷ 77 ∷ 32 ∷ 48 ∷ 10
          ∷ 115 ∷ 116 ∷ 111 ∷ 112 ∷ 32 ∷ 54 ∷ 32 ∷ 50 ∷ 10
          ∷ 101 ∷ 110 ∷ 100 ∷ 32 ∷ 50 ∷ 32 ∷ 50 ∷ 32 ∷ 49 ∷ 10
          ∷ [];
    }
    -- an argument that is cut off, 03 01 00 00: taps 60, stop 0 3, end 0 0 0
    ∷ record {
      bytes = 3 ∷ 1 ∷ 0 ∷ 0 ∷ [];
      output =
          116 ∷ 97 ∷ 112 ∷ 115 ∷ 32 ∷ 54 ∷ 48 ∷ 10
          ∷ 115 ∷ 116 ∷ 111 ∷ 112 ∷ 32 ∷ 48 ∷ 32 ∷ 51 ∷ 10
          ∷ 101 ∷ 110 ∷ 100 ∷ 32 ∷ 48 ∷ 32 ∷ 48 ∷ 32 ∷ 48 ∷ 10
          ∷ [];
    }
    ∷ []
