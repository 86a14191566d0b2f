-- A window's sessions and answers as the numbers that C passes, and what the exported calls promise: each is the window's own call, on the session that the numbers stand for, in numbers.
use Rattle.std.specs.Prelude.{◌≡◌, List, ℕ, ℤ}
use Rattle.history.specs.Replies.{Told, told}
use Rattle.window.specs.declared.Window.{Window}
use Rattle.window.specs.Answers.{Answer}
use Rattle.window.specs.Calls.{Opens, Does}
use Rattle.firmware.specs.declared.windows.WindowNumbers.{WindowNumbers}
use Rattle.firmware.specs.declared.windows.WindowOutcome.{WindowOutcome}
use Rattle.firmware.specs.Replies.{shown_of}

-- the session that numbers stand for, and the numbers of a session
abbrev pub window_from : WindowNumbers → Window
window_from s = record { words = s.words; width = s.width; present = record { 0 = s.present } }

abbrev pub numbers_of : Window → WindowNumbers
numbers_of s = record { words = s.words; width = s.width; present = s.present.0 }

-- an answer in numbers: the session, the reply's number, and the value and place that it shows, or zeros
abbrev pub in_numbers : Window → Told → WindowOutcome
in_numbers s t = record { session = numbers_of s; number = t.number; value = (shown_of t.shown).value; place = (shown_of t.shown).place.0 }

abbrev pub outcome_of : Answer → WindowOutcome
outcome_of a = in_numbers a.session (told a.reply)

-- AN OPENING: the window's, in numbers
pub record OpensInNumbers (width : ℕ) (before after : List ℕ) (r : WindowOutcome) : Type 0 where
  pub answer : Answer
  pub opens : Opens width before after answer
  pub numbers : r ≡ outcome_of answer

-- A VALUE: the window's, on the session that the numbers stand for, in numbers
pub record DoesInNumbers (s : WindowNumbers) (v : ℤ) (before after : List ℕ) (r : WindowOutcome) : Type 0 where
  pub answer : Answer
  pub does : Does (window_from s) v before after answer
  pub numbers : r ≡ outcome_of answer
