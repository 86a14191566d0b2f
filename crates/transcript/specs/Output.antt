-- Document 01, "Played examples": the whole output of the stream program, as a function of its bytes. `transcript::write` leaves it in an array; the program's `main` reads the bytes before
-- and writes the array after.
use Rattle.std.specs.Prelude.{List, [], ◌++◌, ℕ, length, take, Option, None, Some}
use Rattle.history.specs.declared.Command.{Command}
use Rattle.history.specs.Replies.{Told, acceptances}
use Rattle.history.specs.Histories.{History, opening, model}
use Rattle.runs.specs.Lists.{replies_of, state_of}
use Rattle.text.specs.Numbered.{lines_from}
use Rattle.transcript.specs.Lines.{taps_line, answer_line, stop_line, end_line}
use Rattle.transcript.specs.Streams.{Stream, stream_of}

-- "per command its running number", here from n on: a line for each command and what it is told
abbrev pub answer_lines : ℕ → List Command → List Told → List ℕ
answer_lines n commands told = lines_from answer_line n commands told

-- "upon a reading refusal `stop`": a line at the offset where there is one
abbrev pub stop_lines : ℕ → Option ℕ → List ℕ
stop_lines at None = []
stop_lines at (Some number) = stop_line at number

-- what is printed of a stream whose commands go to the bookkeeper of an opening of n words, each lent as many: "It prints `taps 60`; per command ..; upon a reading refusal `stop` ..;
-- finally `end` with commands read, commands accepted and active taps"
abbrev pub printed : ℕ → Stream → List ℕ
printed n s =
    let start : History = (opening n).history in
    let told : List Told = replies_of model start n s.commands in
    taps_line start.limit
    ++ (answer_lines 1 s.commands told
    ++ (stop_lines s.at s.refusal ++ end_line (length s.commands) (acceptances told) (length (state_of model start n s.commands).active)))

-- THE WHOLE OUTPUT: "The stream program opens 4,352 words (K = 60) and reads at most the first 16,384 bytes." A command that goes on behind them is cut off there, and gets 3
abbrev pub output_of : List ℕ → List ℕ
output_of bytes = printed 4352 (stream_of (take 16384 bytes))
