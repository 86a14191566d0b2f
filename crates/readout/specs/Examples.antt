-- Worked examples: an opened run, refused openings, bytes that are left, and too few bytes. Each number of four bytes is a line here, and so is a line of the output. That the whole output
-- computes to them is the theorem `examples_printed` of proofs/Examples.
use Rattle.std.specs.Prelude.{List, [], ◌∷◌}
use Rattle.text.specs.Examples.{Example}

abbrev pub examples : List Example
examples =
    -- a window of two values on 4 words, and 3, 1, 2, 2: open 0, 1 0 3 1, 2 0 1 2, 3 0 1 2, 4 0 2 3, end 4 4
    record {
      bytes =
          2 ∷ 0 ∷ 0 ∷ 0
          ∷ 4 ∷ 0 ∷ 0 ∷ 0
          ∷ 3 ∷ 0 ∷ 0 ∷ 0
          ∷ 1 ∷ 0 ∷ 0 ∷ 0
          ∷ 2 ∷ 0 ∷ 0 ∷ 0
          ∷ 2 ∷ 0 ∷ 0 ∷ 0
          ∷ [];
      output =
          111 ∷ 112 ∷ 101 ∷ 110 ∷ 32 ∷ 48 ∷ 10
          ∷ 49 ∷ 32 ∷ 48 ∷ 32 ∷ 51 ∷ 32 ∷ 49 ∷ 10
          ∷ 50 ∷ 32 ∷ 48 ∷ 32 ∷ 49 ∷ 32 ∷ 50 ∷ 10
          ∷ 51 ∷ 32 ∷ 48 ∷ 32 ∷ 49 ∷ 32 ∷ 50 ∷ 10
          ∷ 52 ∷ 32 ∷ 48 ∷ 32 ∷ 50 ∷ 32 ∷ 51 ∷ 10
          ∷ 101 ∷ 110 ∷ 100 ∷ 32 ∷ 52 ∷ 32 ∷ 52 ∷ 10
          ∷ [];
    }
    -- a window of one value, on 2 words, tells each value just given, both ends of the range with them: open 0, 1 0 -2147483648 1, 2 0 2147483647 2, end 2 2
    ∷ record {
      bytes =
          1 ∷ 0 ∷ 0 ∷ 0
          ∷ 2 ∷ 0 ∷ 0 ∷ 0
          ∷ 0 ∷ 0 ∷ 0 ∷ 128
          ∷ 255 ∷ 255 ∷ 255 ∷ 127
          ∷ [];
      output =
          111 ∷ 112 ∷ 101 ∷ 110 ∷ 32 ∷ 48 ∷ 10
          ∷ 49 ∷ 32 ∷ 48 ∷ 32 ∷ 45 ∷ 50 ∷ 49 ∷ 52 ∷ 55 ∷ 52 ∷ 56 ∷ 51 ∷ 54 ∷ 52 ∷ 56 ∷ 32 ∷ 49 ∷ 10
          ∷ 50 ∷ 32 ∷ 48 ∷ 32 ∷ 50 ∷ 49 ∷ 52 ∷ 55 ∷ 52 ∷ 56 ∷ 51 ∷ 54 ∷ 52 ∷ 55 ∷ 32 ∷ 50 ∷ 10
          ∷ 101 ∷ 110 ∷ 100 ∷ 32 ∷ 50 ∷ 32 ∷ 50 ∷ 10
          ∷ [];
    }
    -- W = 0 gets 12, and then a value gets 4: open 12, 1 4, end 1 0
    ∷ record {
      bytes =
          0 ∷ 0 ∷ 0 ∷ 0
          ∷ 0 ∷ 32 ∷ 0 ∷ 0
          ∷ 5 ∷ 0 ∷ 0 ∷ 0
          ∷ [];
      output =
          111 ∷ 112 ∷ 101 ∷ 110 ∷ 32 ∷ 49 ∷ 50 ∷ 10
          ∷ 49 ∷ 32 ∷ 52 ∷ 10
          ∷ 101 ∷ 110 ∷ 100 ∷ 32 ∷ 49 ∷ 32 ∷ 48 ∷ 10
          ∷ [];
    }
    -- W = 4,097 lent no words gets 12 and not 13: open 12, end 0 0
    ∷ record {
      bytes =
          1 ∷ 16 ∷ 0 ∷ 0
          ∷ 0 ∷ 0 ∷ 0 ∷ 0
          ∷ [];
      output =
          111 ∷ 112 ∷ 101 ∷ 110 ∷ 32 ∷ 49 ∷ 50 ∷ 10
          ∷ 101 ∷ 110 ∷ 100 ∷ 32 ∷ 48 ∷ 32 ∷ 48 ∷ 10
          ∷ [];
    }
    -- fewer than 2 × W words get 13, and then a value gets 4: open 13, 1 4, end 1 0
    ∷ record {
      bytes =
          2 ∷ 0 ∷ 0 ∷ 0
          ∷ 3 ∷ 0 ∷ 0 ∷ 0
          ∷ 5 ∷ 0 ∷ 0 ∷ 0
          ∷ [];
      output =
          111 ∷ 112 ∷ 101 ∷ 110 ∷ 32 ∷ 49 ∷ 51 ∷ 10
          ∷ 49 ∷ 32 ∷ 52 ∷ 10
          ∷ 101 ∷ 110 ∷ 100 ∷ 32 ∷ 49 ∷ 32 ∷ 48 ∷ 10
          ∷ [];
    }
    -- of 8,194 words to lend no more than 8,192 are lent, which are 2 × W here: open 0, end 0 0
    ∷ record {
      bytes =
          0 ∷ 16 ∷ 0 ∷ 0
          ∷ 2 ∷ 32 ∷ 0 ∷ 0
          ∷ [];
      output =
          111 ∷ 112 ∷ 101 ∷ 110 ∷ 32 ∷ 48 ∷ 10
          ∷ 101 ∷ 110 ∷ 100 ∷ 32 ∷ 48 ∷ 32 ∷ 48 ∷ 10
          ∷ [];
    }
    -- three bytes are left: open 0, 1 0 7 1, stop 12, end 1 1
    ∷ record {
      bytes =
          1 ∷ 0 ∷ 0 ∷ 0
          ∷ 2 ∷ 0 ∷ 0 ∷ 0
          ∷ 7 ∷ 0 ∷ 0 ∷ 0
          ∷ 9 ∷ 0 ∷ 0
          ∷ [];
      output =
          111 ∷ 112 ∷ 101 ∷ 110 ∷ 32 ∷ 48 ∷ 10
          ∷ 49 ∷ 32 ∷ 48 ∷ 32 ∷ 55 ∷ 32 ∷ 49 ∷ 10
          ∷ 115 ∷ 116 ∷ 111 ∷ 112 ∷ 32 ∷ 49 ∷ 50 ∷ 10
          ∷ 101 ∷ 110 ∷ 100 ∷ 32 ∷ 49 ∷ 32 ∷ 49 ∷ 10
          ∷ [];
    }
    -- two bytes are left: open 0, 1 0 -1 1, stop 12, end 1 1
    ∷ record {
      bytes =
          1 ∷ 0 ∷ 0 ∷ 0
          ∷ 2 ∷ 0 ∷ 0 ∷ 0
          ∷ 255 ∷ 255 ∷ 255 ∷ 255
          ∷ 0 ∷ 0
          ∷ [];
      output =
          111 ∷ 112 ∷ 101 ∷ 110 ∷ 32 ∷ 48 ∷ 10
          ∷ 49 ∷ 32 ∷ 48 ∷ 32 ∷ 45 ∷ 49 ∷ 32 ∷ 49 ∷ 10
          ∷ 115 ∷ 116 ∷ 111 ∷ 112 ∷ 32 ∷ 49 ∷ 50 ∷ 10
          ∷ 101 ∷ 110 ∷ 100 ∷ 32 ∷ 49 ∷ 32 ∷ 49 ∷ 10
          ∷ [];
    }
    -- one byte is left, and no value came: open 0, stop 8, end 0 0
    ∷ record {
      bytes =
          1 ∷ 0 ∷ 0 ∷ 0
          ∷ 2 ∷ 0 ∷ 0 ∷ 0
          ∷ 9
          ∷ [];
      output =
          111 ∷ 112 ∷ 101 ∷ 110 ∷ 32 ∷ 48 ∷ 10
          ∷ 115 ∷ 116 ∷ 111 ∷ 112 ∷ 32 ∷ 56 ∷ 10
          ∷ 101 ∷ 110 ∷ 100 ∷ 32 ∷ 48 ∷ 32 ∷ 48 ∷ 10
          ∷ [];
    }
    -- no bytes, and seven bytes: no window
    ∷ record {
      bytes = [];
      output =
          110 ∷ 111 ∷ 32 ∷ 119 ∷ 105 ∷ 110 ∷ 100 ∷ 111 ∷ 119 ∷ 10
          ∷ [];
    }
    ∷ record {
      bytes =
          1 ∷ 0 ∷ 0 ∷ 0
          ∷ 2 ∷ 0 ∷ 0
          ∷ [];
      output =
          110 ∷ 111 ∷ 32 ∷ 119 ∷ 105 ∷ 110 ∷ 100 ∷ 111 ∷ 119 ∷ 10
          ∷ [];
    }
    ∷ []
