-- RUNS THAT EXIST: an opening and calls that meet the hypotheses of demand 3, which speaks of "every list of values, taps, queries and closes, refused ones included ..
-- with any length lent at each command". So it speaks of something: each kind of command is accepted here once at least, each
-- refusal of a command but 6 comes, and calls are lent other lengths.
use Rattle.std.specs.Prelude.{◌≡◌, List, [], ◌∷◌, ◌++◌, ℕ, pos, negsuc, length}
use Rattle.history.specs.declared.Position.{Position}
use Rattle.history.specs.declared.Standing.TheVariants.{Closed}
use Rattle.history.specs.declared.Session.{Session}
use Rattle.history.specs.declared.Command.{Command}
use Rattle.history.specs.declared.Command.TheVariants.{Value, Mark, Query, Close}
use Rattle.engine.specs.Answers.{Answer}
use Rattle.history.specs.Minima.{stands_at}
use Rattle.history.specs.Replies.{numbered, accepted, showing, told}
use Rattle.history.specs.Histories.{opening, model}
use Rattle.runs.specs.Runs.{Call, Made}
use Rattle.runs.specs.Lists as Lists
use Rattle.runs.specs.Lists.{lines_of, last_session}
use Rattle.engine.specs.Demand.{OpeningSays, CommandSays, Answered}

-- "The bookkeeper is told .. each command with its argument and the length lent for it"; and what the caller is told
abbrev pub Line : Type 0
Line = Lists.Line model

-- lines without what was told
abbrev pub asked : List Line → List (Command × ℕ)
asked ls = Lists.asked model ls

abbrev at : ℕ → Position
at n = record { 0 = n }

-- THE CALLS OF THE RUN, after an opening of 640 words, which is for two marks. The value −n − 1 is `negsuc n`
abbrev pub marking : List Line
marking =
    -- 7: "Mark, when the standing is none."
    (Mark, 640, numbered 7)
    ∷ (Value (pos 5), 640, accepted)
    ∷ (Mark, 640, accepted)
    -- 8: "Mark, when the standing is marked."
    ∷ (Mark, 640, numbered 8)
    ∷ []

-- 5: "Any command, when the area lent now is not N words long."
abbrev pub elsewhere : List Line
elsewhere =
    (Value (negsuc 8), 641, numbered 5)
    ∷ (Value (negsuc 2), 640, accepted)
    ∷ (Query (at 1), 640, showing (stands_at (negsuc 2) (at 2)))
    ∷ (Mark, 640, accepted)
    ∷ (Query (at 1), 0, numbered 5)
    ∷ []

abbrev pub filling : List Line
filling =
    (Value (pos 4), 640, accepted)
    -- 10: "Mark, when exactly K taps are active."
    ∷ (Mark, 640, numbered 10)
    ∷ (Close (at 1), 640, accepted)
    -- 11: "Query or Close, when its position is not an active tap"
    ∷ (Query (at 1), 640, numbered 11)
    ∷ (Mark, 640, accepted)
    ∷ (Close (at 3), 640, accepted)
    -- 9: "Mark, when the standing is closed."
    ∷ (Mark, 640, numbered 9)
    ∷ []

abbrev pub lines : List Line
lines = marking ++ (elsewhere ++ filling)

-- "Demand 3 compares .. after each call, N, K, present position, last value, number of active taps and standing": those after the run
abbrev pub session_left : Session
session_left = record { words = 640; limit = 2; present = at 3; last = pos 4; active = 1; standing = Closed }

-- THE CALLS OF A RUN AFTER A REFUSED OPENING, of 575 words. 4: "Any command, when the session is unopened"
abbrev pub unopened : List Line
unopened = (Value (pos 5), 575, numbered 4) ∷ (Mark, 640, numbered 4) ∷ []

-- A run after an opening of n words meets what demand 3 presupposes, where `opens` is known of the opening's function, and `says` of the commands' functions. Its calls have
-- the lines ls, and the last of them returned the session r
pub record RunExists (n : ℕ) (ls : List Line) (opens : OpeningSays) (says : CommandSays) (r : Session) : Type 0 where
  pub first : List ℕ
  pub left : List ℕ
  pub o : Answer
  pub calls : List (Call model)
  pub opened : opens first left o
  pub tells : told o.reply ≡ (opening n).tells
  pub made : Made model (Answered says) (opening (length first)).history.words o.session left calls
  pub long : length first ≡ n
  pub plays : lines_of model calls ≡ ls
  pub returned : last_session model o.session calls ≡ r
