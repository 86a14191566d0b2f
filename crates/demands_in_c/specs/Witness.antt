-- RUNS OF THE EXPORTED CALLS THAT EXIST: an opening and calls that meet the hypotheses of `Demand3InC`, which speaks of every list of calls. So it speaks of something. The calls are those of
-- `demands Witness`: each kind of command is accepted once at least, each refusal of a command but 6 comes, and calls are lent other lengths, 0 among them.
use Rattle.std.specs.Prelude.{◌≡◌, List, [], ◌∷◌, ℕ, pos, length}
use Rattle.history.specs.Histories.{opening}
use Rattle.runs.specs.Runs.{Call, Made}
use Rattle.runs.specs.Lists as Lists
use Rattle.runs.specs.Lists.{lines_of, last_session}
use Rattle.firmware.specs.declared.sessions.SessionNumbers.{SessionNumbers}
use Rattle.firmware.specs.declared.sessions.AnswerNumbers.{AnswerNumbers}
use Rattle.firmware.specs.Sessions.{told_numbers}
use Rattle.firmware.specs.Demands.{OpeningSays, CommandSays, session_with, told_of, model, Answered}
use Rattle.demands.specs.Witness as Engine

-- a command, the length lent for it, and what C is told, in numbers
abbrev pub Line : Type 0
Line = Lists.Line model

-- the lines of a run of the engine, told in numbers
abbrev pub in_c : List Engine.Line → List Line
in_c [] = []
in_c ((c, n, t) ∷ ls) = (c, n, told_numbers t) ∷ in_c ls

-- the session's numbers after the run of `demands Witness.lines`: two marks are opened, and one is active; the last of three values is 4; and standing 3, closed
abbrev pub session_left : SessionNumbers
session_left = session_with 640 2 1 3 (pos 4) 3

-- and after a refused opening
abbrev pub unopened_left : SessionNumbers
unopened_left = session_with 0 0 0 0 (pos 0) 0

-- A run after an opening of n words meets what demand 3 presupposes, where `opens` is known of the opening's function, and `says` of the commands' functions. Its calls have the lines ls, and the
-- last of them returned the numbers r
pub record RunExists (n : ℕ) (ls : List Line) (opens : OpeningSays) (says : CommandSays) (r : SessionNumbers) : Type 0 where
  pub first : List ℕ
  pub left : List ℕ
  pub o : AnswerNumbers
  pub calls : List (Call model)
  pub opened : opens first left o
  pub tells : told_of o ≡ told_numbers (opening n).tells
  pub made : Made model (Answered says) (opening (length first)).history.words o.session left calls
  pub long : length first ≡ n
  pub plays : lines_of model calls ≡ ls
  pub returned : last_session model o.session calls ≡ r
