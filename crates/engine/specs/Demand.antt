-- DEMAND 3, one claim over the whole list, with demand 2 in it: "for every list of values, taps, queries and closes, refused ones included, after one opening of any
-- length on words of any content, with any length lent at each command".
use Rattle.std.specs.Prelude.{◌≡◌, true, List, ℕ, length, Some}
use Rattle.history.specs.declared.Position.{Position}
use Rattle.history.specs.Minimum.{Minimum}
use Rattle.history.specs.declared.Standing.{Standing}
use Rattle.history.specs.declared.Session.{Session}
use Rattle.history.specs.declared.Command.{Command}
use Rattle.engine.specs.Answers.{Answer}
use Rattle.history.specs.Minima.{Least}
use Rattle.history.specs.Replies.{showing, told}
use Rattle.history.specs.Histories.{History, among, session_of, opening, model}
use Rattle.runs.specs.Runs.{AsLent, is_own, Call, Made, Agrees, EachCall}

-- what is known of an opening: the words before and after, and its answer; and of a command: the session that went in, the command, the words before and after, and its answer
abbrev pub OpeningSays : Type 1
OpeningSays = List ℕ → List ℕ → Answer → Type 0

abbrev pub CommandSays : Type 1
CommandSays = Session → Command → List ℕ → List ℕ → Answer → Type 0

-- a call that was made of a command tells and returns what the command's function answered
abbrev pub Answered : CommandSays → Session → Call model → Type 0
Answered says s c = (r : Answer) × says s c.command c.lent c.left r × (c.told ≡ told r.reply) × (c.session ≡ r.session)

-- "After the opening", which found the words `first` and left them as `left`. Then l is 0, and the bound 512
pub record OpeningAgrees (first left : List ℕ) (o : Answer) : Type 0 where
  pub tells : told o.reply ≡ (opening (length first)).tells
  pub session : o.session ≡ session_of (opening (length first)).history
  pub rest : AsLent 512 first left
  pub long : length left ≡ length first

-- "and after every command in the list": one call, with the paper h before it and `later` after it. The opening's words were `first`, and are `now` after the call
pub record Meets (n : ℕ) (first now : List ℕ) (h later : History) (c : Call model) : Type 0 where
  -- DEMAND 2: "Every reply is the one the four commands .. give for the history since opening". With it the session and the words are as the bookkeeper has them
  pub agrees : Agrees model n first now h later c
  -- "A tap no earlier rule refuses is refused as full exactly when the opened number is active."
  pub full : c.command ≡ Command.Mark → (h.words ≡ 0 → ⊥) → length c.lent ≡ h.words → h.standing ≡ Standing.Unmarked
      → (c.told.number ≡ 10 → length h.active ≡ h.limit) × (length h.active ≡ h.limit → c.told.number ≡ 10)
  -- DEMAND 2: "a query on an active tap gets the least value from the tap's position to the present and the place of that value"
  pub gets : (i : Position) → c.command ≡ Command.Query i → is_own n c.lent ≡ true → among i h.active ≡ true
      → (m : Minimum) × (c.told ≡ showing m) × Least h.values i m
  -- and whatever a query is shown is the least since an active mark
  pub shown : (i : Position) (m : Minimum) → c.command ≡ Command.Query i → c.told.shown ≡ Some m → (among i h.active ≡ true) × Least h.values i m

-- THE CLAIM, where `opens` is known of the opening's function, and `says` of the commands' functions
abbrev pub Demand3 : OpeningSays → CommandSays → Type 0
Demand3 opens says =
    (first left : List ℕ) (o : Answer) (calls : List (Call model))
    → let start : History = (opening (length first)).history in
    opens first left o
    → Made model (Answered says) start.words o.session left calls
    → OpeningAgrees first left o × EachCall model (Meets start.words first) start.words left start calls
