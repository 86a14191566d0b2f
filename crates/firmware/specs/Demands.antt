-- DEMANDS 1 TO 3 OF THE FIVE CALLS THAT THE BUYER'S FIRMWARE RUNS, in the numbers that C hands in and gets: `Demand1InC` is of any numbers for a session and any words; `Demand3InC`, with
-- demand 2 in it, is one claim over the whole list of calls. The engine's own are engine/specs `Promises` and `Demand`. A mark is document 01's "tap".
use Rattle.std.specs.Prelude.{◌≡◌, true, cond, List, ℕ, ◌+◌, ◌-◌, ◌/◌, min, ◌<◌, ◌≤◌, ℤ, pos, eqb, length, get_or}
use Rattle.history.specs.declared.Position.{Position}
use Rattle.history.specs.Minimum.{Minimum}
use Rattle.history.specs.declared.Standing.TheVariants.{Unmarked}
use Rattle.history.specs.declared.Command.{Command}
use Rattle.history.specs.declared.Command.TheVariants.{Value, Mark, Query, Close}
use Rattle.history.specs.Minima.{Least}
use Rattle.history.specs.Histories.{History, among, opening}
use Rattle.history.specs.Histories as Paper
use Rattle.runs.specs.Runs.{Model, AsLent, is_own, Call, Made, Agrees, EachCall}
use Rattle.engine.specs.Promises.{AnyNumber}
use Rattle.firmware.specs.declared.sessions.SessionNumbers.{SessionNumbers}
use Rattle.firmware.specs.declared.sessions.AnswerNumbers.{AnswerNumbers}
use Rattle.firmware.specs.Sessions.{session_from, numbers_of, ToldNumbers, told_numbers}

-- what is known of an opening: the words before and after, and its answer; and of a command: the numbers of the session that went in, the command, the words before and after, and its answer
abbrev pub OpeningSays : Type 1
OpeningSays = List ℕ → List ℕ → AnswerNumbers → Type 0

abbrev pub CommandSays : Type 1
CommandSays = SessionNumbers → Command → List ℕ → List ℕ → AnswerNumbers → Type 0

-- DEMAND 1, of any numbers for a session and any words, whether or not a call returned or left them. A session by its six numbers
abbrev pub session_with : (words limit active present : ℕ) (last : ℤ) (standing : ℕ) → SessionNumbers
session_with words limit active present last standing = record { words = words; limit = limit; active = active; present = present; last = last; standing = standing }

-- an answer that shows nothing: value and place are 0
abbrev pub plainly : ℕ → SessionNumbers → AnswerNumbers
plainly number s = record { session = s; number = number; value = pos 0; place = 0 }

-- AN OPENING, of words of any content. 1: "Opening, with N below 576; the session returned is unopened with all numbers 0 and standing none"; "Otherwise: reply 0, N is the length told", and
-- "K = (N − 512) / 64 rounded down, and at most 4,096"; "it may write only words 0 to 511"
pub record AnyOpening (first left : List ℕ) (r : AnswerNumbers) : Type 0 where
  pub too_short : length first < 576 → (r ≡ plainly 1 (session_with 0 0 0 0 (pos 0) 0)) × (left ≡ first)
  pub long_enough : 576 ≤ length first → r ≡ plainly 0 (session_with (length first) (min ((length first - 512) / 64) 4096) 0 0 (pos 0) 0)
  pub rest : (i : ℕ) → 512 ≤ i → get_or left i 0 ≡ get_or first i 0
  pub long : length left ≡ length first

-- A REFUSAL: "the session comes back equal .. and the area is untouched; .. no value or place is shown". Each number is the one that was handed in, a standing above 3 too
abbrev pub AnyRefusal : SessionNumbers → List ℕ → List ℕ → AnswerNumbers → Type 0
AnyRefusal s lent left r = (r ≡ plainly r.number s) × (left ≡ lent)

-- AN ACCEPTED COMMAND, on the numbers s. Free, on a session and words other than the last call returned and left: what is then counted as active and, to a Query, the value and place
abbrev pub AnyAcceptance : Command → SessionNumbers → List ℕ → List ℕ → AnswerNumbers → Type 0
AnyAcceptance (Value v) s lent left r = (active : ℕ) × (r ≡ plainly 0 (session_with s.words s.limit active (s.present + 1) v 1))
AnyAcceptance Mark s lent left r = (active : ℕ) × (r ≡ plainly 0 (session_with s.words s.limit active s.present s.last 2))
-- so, with `AnyRefusal`, a Query returns the numbers that were handed in and only reads, whatever its reply
AnyAcceptance (Query i) s lent left r = (r.session ≡ s) × (left ≡ lent)
-- "If it is the present position, standing is closed"; and else it stays, one above 3 as the 3 that it counts as
AnyAcceptance (Close i) s lent left r =
    (active : ℕ) × (r ≡ plainly 0 (session_with s.words s.limit active s.present s.last (cond (eqb i.0 s.present) 3 (min s.standing 3))))

-- ANY COMMAND, on any numbers and any words
pub record AnyCommand (s : SessionNumbers) (c : Command) (lent left : List ℕ) (r : AnswerNumbers) : Type 0 where
  -- 4 to 11, the first that applies to the session that the numbers stand for, else 0. Free, on a session and words other than the last call returned and left: whether a position from 1 to the present
  -- one counts as an active mark; and whether a Mark of an unmarked position gets 10 where 4,096 marks or more are counted
  pub number : AnyNumber (session_from s) c lent r.number
  pub refused : (r.number ≡ 0 → ⊥) → AnyRefusal s lent left r
  pub accepted : r.number ≡ 0 → AnyAcceptance c s lent left r
  pub long : length left ≡ length lent

-- A length of 0 is the empty list. Of the pointer no definition speaks. That no word outside the ends is read or written and that each call ends is what the checker shows of every function
pub record Demand1InC (opens : OpeningSays) (says : CommandSays) : Type 0 where
  pub opening : (first left : List ℕ) (r : AnswerNumbers) → opens first left r → AnyOpening first left r
  pub command : (s : SessionNumbers) (c : Command) (lent left : List ℕ) (r : AnswerNumbers) → says s c lent left r → AnyCommand s c lent left r

-- DEMAND 3. What an answer tells. In a run an accepted Query tells a place of 1 or more; with another number than 0, and of another command, value and place are 0
abbrev pub told_of : AnswerNumbers → ToldNumbers
told_of r = record { number = r.number; value = r.value; place = r.place }

-- the bookkeeper of demand 3: the paper and its steps are `history Histories.model`'s, and what is told and compared is in C's numbers
abbrev pub model : Model
model = record {
  Command = Command;
  Told = ToldNumbers;
  Session = SessionNumbers;
  State = History;
  step = Paper.model.step;
  tells = λ h n c. told_numbers (Paper.model.tells h n c);
  session_of = λ h. numbers_of (Paper.model.session_of h);
  words = Paper.model.words;
  bound = Paper.model.bound;
}

-- a call that was made of a command tells and returns what the command's function answered
abbrev pub Answered : CommandSays → SessionNumbers → Call model → Type 0
Answered says s c = (r : AnswerNumbers) × says s c.command c.lent c.left r × (c.told ≡ told_of r) × (c.session ≡ r.session)

-- "After the opening", which found the words `first` and left them as `left`. Then l is 0, and the bound 512
pub record OpeningAgrees (first left : List ℕ) (r : AnswerNumbers) : Type 0 where
  pub tells : told_of r ≡ told_numbers (opening (length first)).tells
  pub session : r.session ≡ model.session_of (opening (length first)).history
  pub rest : AsLent 512 first left
  pub long : length left ≡ length first

-- the value and the place that a call told
abbrev pub minimum_told : ToldNumbers → Minimum
minimum_told t = record { value = t.value; place = record { 0 = t.place } }

-- "and after every command in the list": one call, with the paper h before it and `later` after it. The opening's words were `first`, and are `now` after the call
pub record Meets (n : ℕ) (first now : List ℕ) (h later : History) (c : Call model) : Type 0 where
  -- DEMAND 2: "Every reply is the one the four commands .. give for the history since opening". With it the session's numbers and the words are as the bookkeeper has them
  pub agrees : Agrees model n first now h later c
  -- "A tap no earlier rule refuses is refused as full exactly when the opened number is active."
  pub full : c.command ≡ Mark → (h.words ≡ 0 → ⊥) → length c.lent ≡ h.words → h.standing ≡ Unmarked
      → (c.told.number ≡ 10 → length h.active ≡ h.limit) × (length h.active ≡ h.limit → c.told.number ≡ 10)
  -- DEMAND 2: "a query on an active tap gets the least value from the tap's position to the present and the place of that value"
  pub gets : (i : Position) → c.command ≡ Query i → is_own n c.lent ≡ true → among i h.active ≡ true → (c.told.number ≡ 0) × Least h.values i (minimum_told c.told)
  -- and whatever an accepted query is told is the least since an active mark
  pub shown : (i : Position) → c.command ≡ Query i → c.told.number ≡ 0 → (among i h.active ≡ true) × Least h.values i (minimum_told c.told)

-- THE CLAIM, where `opens` is known of the opening's function, and `says` of the commands' functions
abbrev pub Demand3InC : OpeningSays → CommandSays → Type 0
Demand3InC opens says =
    (first left : List ℕ) (r : AnswerNumbers) (calls : List (Call model))
    → let start : History = (opening (length first)).history in
    opens first left r
    → Made model (Answered says) start.words r.session left calls
    → OpeningAgrees first left r × EachCall model (Meets start.words first) start.words left start calls
