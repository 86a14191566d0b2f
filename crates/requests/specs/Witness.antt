-- RUNS OF THE WINDOW THAT EXIST: an opening and calls that meet the hypotheses of point 2's claim, which speaks of every list of values, refused ones included, with any length lent at each. So it
-- speaks of something.
use Rattle.std.specs.Prelude.{◌≡◌, List, [], ◌∷◌, ◌++◌, ℕ, ℤ, pos, negsuc, length}
use Rattle.history.specs.Minima.{stands_at}
use Rattle.history.specs.Replies.{Told, numbered, showing, told}
use Rattle.runs.specs.Runs.{Call, Made}
use Rattle.runs.specs.Lists as Lists
use Rattle.runs.specs.Lists.{lines_of, last_session}
use Rattle.window.specs.declared.Window.{Window}
use Rattle.window.specs.Answers.{Answer}
use Rattle.window.specs.Windows.{opening, model}
use Rattle.window.specs.Promises.{OpeningSays, ValueSays, window_of}
use Rattle.window.specs.Claim.{Answered}

-- a value, the length lent for it, and what the caller is told
abbrev pub Line : Type 0
Line = Lists.Line model

-- lines without what was told
abbrev pub asked : List Line → List (ℤ × ℕ)
asked ls = Lists.asked model ls

abbrev least : ℤ → ℕ → Told
least v i = showing (stands_at v (record { 0 = i }))

-- THE CALLS OF THE RUN, after an opening of W = 2 on 4 words. 5: the area lent is not 4 words long, one longer or none at all. The value −n − 1 is `negsuc n`
abbrev pub entering : List Line
entering = (pos 3, 4, least (pos 3) 1) ∷ (negsuc 8, 5, numbered 5) ∷ (pos 1, 4, least (pos 1) 2) ∷ []

abbrev pub leaving : List Line
leaving = (negsuc 8, 0, numbered 5) ∷ (pos 2, 4, least (pos 1) 2) ∷ (pos 2, 4, least (pos 2) 3) ∷ []

abbrev pub lines : List Line
lines = entering ++ leaving

-- N, W and the present position after it
abbrev pub session_left : Window
session_left = window_of 4 2 4

-- THE CALLS OF A RUN AFTER A REFUSED OPENING, of W = 3 on 5 words. 4, whatever is lent
abbrev pub unopened : List Line
unopened = (pos 3, 5, numbered 4) ∷ (pos 1, 6, numbered 4) ∷ (pos 2, 0, numbered 4) ∷ []

-- A run after an opening of a width on n words meets what the claim presupposes, where `opens` is known of the opening's function, and `says` of the values'. Its calls have the lines ls, and
-- the last of them returned the session r
pub record RunExists (width n : ℕ) (ls : List Line) (opens : OpeningSays) (says : ValueSays) (r : Window) : Type 0 where
  pub first : List ℕ
  pub left : List ℕ
  pub o : Answer
  pub calls : List (Call model)
  pub opened : opens width first left o
  pub tells : told o.reply ≡ (opening n width).tells
  pub made : Made model (Answered says) (opening (length first) width).paper.words o.session left calls
  pub long : length first ≡ n
  pub plays : lines_of model calls ≡ ls
  pub returned : last_session model o.session calls ≡ r
