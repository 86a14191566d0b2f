-- The limiter, a program for document 02, point 2. It reads at most the first 65,536 bytes of standard input: bytes 0 to 3 are W and bytes 4 to 7 the number of words to lend (more than 8,192
-- counts as 8,192), both unsigned, least significant first; then values, four bytes each, two's complement. It prints `open` and the reply; per value its running number from 1 and the reply,
-- and after acceptance the least value and its place; where one to three bytes are left, `stop` and their byte offset; finally `end` with values read and values accepted. With fewer than
-- eight bytes it prints `no window` alone.
--
-- This is its whole output, as a function of its bytes. `readout::write` leaves it in an array; the program's `main` reads the bytes before and writes the array after.
use Rattle.std.specs.Prelude.{cond, List, ◌++◌, ℕ, ltb, ℤ, length, take}
use Rattle.history.specs.Replies.{Told, acceptances}
use Rattle.runs.specs.Lists.{replies_of}
use Rattle.text.specs.Numbered.{lines_from}
use Rattle.text.specs.Stops.{stop_lines}
use Rattle.window.specs.Windows.{Stepped, opening, model}
use Rattle.readout.specs.Lines.{no_window_line, open_line, value_line, end_line}
use Rattle.readout.specs.Input.{width_of, words_of, values_of, left_of, end_of}

-- "per value its running number", here from n on: a line for each value, of what it is told
abbrev pub value_lines : ℕ → List ℤ → List Told → List ℕ
value_lines n values told = lines_from (λ (number : ℕ) (v : ℤ) (t : Told). value_line number t) n values told

-- what is printed of eight bytes or more, where n words are lent at the opening and for each value: "It prints `open` and the reply; per value ..; where one to three bytes are left,
-- `stop` ..; finally `end` with values read and values accepted". What is told is the window's paper's, on which each value after a refused opening is told 4
abbrev pub printed : ℕ → List ℕ → List ℕ
printed n bytes =
    let start : Stepped = opening n (width_of bytes) in
    let told : List Told = replies_of model start.paper n (values_of bytes) in
    open_line start.tells
    ++ (value_lines 1 (values_of bytes) told
    ++ (stop_lines (left_of bytes) (end_of bytes) ++ end_line (length (values_of bytes)) (acceptances told)))

-- "With fewer than eight bytes it prints `no window` alone."
abbrev pub printed_of : List ℕ → List ℕ
printed_of bytes = cond (ltb (length bytes) 8) no_window_line (printed (words_of bytes) bytes)

-- THE WHOLE OUTPUT: "It reads at most the first 65,536 bytes of standard input."
abbrev pub output_of : List ℕ → List ℕ
output_of bytes = printed_of (take 65536 bytes)
