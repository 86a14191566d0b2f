-- The engine's sessions and answers as the numbers that C passes, and what the exported calls promise: each gives, in numbers, an answer that keeps the promise of the engine's own call on the session
-- that the numbers stand for; where that call leaves the session as it was, the numbers are those that were handed in.
use Rattle.std.specs.Prelude.{◌≡◌, cond, List, ℕ, ℤ, eqb, Ok, Err}
use Rattle.history.specs.declared.Standing.{Standing}
use Rattle.history.specs.declared.Standing.TheVariants.{None, Unmarked, Marked, Closed}
use Rattle.history.specs.declared.Session.{Session}
use Rattle.history.specs.declared.Command.{Command}
use Rattle.history.specs.declared.Command.TheVariants.{Value, Mark, Query, Close}
use Rattle.history.specs.Replies.{Told, Reply, told}
use Rattle.engine.specs.Answers.{Answer}
use Rattle.engine.specs.Calls.{Opens, Does}
use Rattle.firmware.specs.declared.sessions.SessionNumbers.{SessionNumbers}
use Rattle.firmware.specs.declared.sessions.AnswerNumbers.{AnswerNumbers}
use Rattle.firmware.specs.Replies.{shown_of}

-- a standing's number: FILKOTAR_NONE, FILKOTAR_UNMARKED, FILKOTAR_MARKED and FILKOTAR_CLOSED of include/filkotar.h
abbrev pub standing_number : Standing → ℕ
standing_number None = 0
standing_number Unmarked = 1
standing_number Marked = 2
standing_number Closed = 3

-- and the standing of a number: one above 3 counts as 3
abbrev pub standing_from : ℕ → Standing
standing_from n = cond (eqb n 0) None (cond (eqb n 1) Unmarked (cond (eqb n 2) Marked Closed))

-- the session that numbers stand for, and the numbers of a session
abbrev pub session_from : SessionNumbers → Session
session_from s = record {
  words = s.words;
  limit = s.limit;
  present = record { 0 = s.present };
  last = s.last;
  active = s.active;
  standing = standing_from s.standing;
}

abbrev pub numbers_of : Session → SessionNumbers
numbers_of s = record {
  words = s.words;
  limit = s.limit;
  active = s.active;
  present = s.present.0;
  last = s.last;
  standing = standing_number s.standing;
}

-- the numbers after a command that was handed the numbers s: s themselves in a refusal, whatever they are, since "In each refusal the session comes back equal"; else those of the session `after` it
abbrev pub unless_refused : SessionNumbers → Session → Reply → SessionNumbers
unless_refused s after (Ok shown) = numbers_of after
unless_refused s after (Err why) = s

-- and s themselves after a Query, which leaves the session in each case
abbrev pub numbers_after : SessionNumbers → Command → Answer → SessionNumbers
numbers_after s (Value v) a = unless_refused s a.session a.reply
numbers_after s Mark a = unless_refused s a.session a.reply
numbers_after s (Query i) a = s
numbers_after s (Close i) a = unless_refused s a.session a.reply

-- what is told, in numbers: the reply's number, and the value and place that it shows, or zeros
pub record ToldNumbers : Type 0 where
  pub number : ℕ
  pub value : ℤ
  pub place : ℕ

abbrev pub told_numbers : Told → ToldNumbers
told_numbers t = record { number = t.number; value = (shown_of t.shown).value; place = (shown_of t.shown).place.0 }

-- an answer in numbers: the session's and those that are told
abbrev pub in_numbers : SessionNumbers → Told → AnswerNumbers
in_numbers s t = let told : ToldNumbers = told_numbers t in record { session = s; number = told.number; value = told.value; place = told.place }

-- AN OPENING
pub record OpensInNumbers (before after : List ℕ) (r : AnswerNumbers) : Type 0 where
  pub answer : Answer
  pub opens : Opens before after answer
  pub numbers : r ≡ in_numbers (numbers_of answer.session) (told answer.reply)

-- A COMMAND, on the session that the numbers s stand for
pub record DoesInNumbers (s : SessionNumbers) (c : Command) (before after : List ℕ) (r : AnswerNumbers) : Type 0 where
  pub answer : Answer
  pub does : Does (session_from s) c before after answer
  pub numbers : r ≡ in_numbers (numbers_after s c answer) (told answer.reply)
