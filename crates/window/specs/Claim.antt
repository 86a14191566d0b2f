-- POINT 2 of document 02: `EveryRun` is one claim over the whole list of values after one opening of any length and any W, on words of any content, with any length lent at each value, refused
-- ones included. What a run is, and which words a call is lent, is said in `runs`, for the engine and the window alike. Beside it stand `EveryInput`, of sessions and words that no call left,
-- which no run has; and what the window's oldest position and its reply are, in other words than the paper's.
use Rattle.std.specs.Prelude.{◌≡◌, true, List, [], ◌∷◌, ◌++◌, ℕ, ◌+◌, ◌<◌, ◌≤◌, ℤ, length, Some}
use Rattle.history.specs.declared.Position.{Position}
use Rattle.history.specs.Minimum.{Minimum}
use Rattle.history.specs.declared.Command.TheVariants.{Query}
use Rattle.history.specs.Minima.{Least, present_at}
use Rattle.history.specs.Replies.{showing, told}
use Rattle.history.specs.Histories as Histories
use Rattle.history.specs.Histories.{History, among}
use Rattle.runs.specs.Runs.{AsLent, is_own, Call, Made, Agrees, EachCall}
use Rattle.window.specs.declared.Window.{Window}
use Rattle.window.specs.Answers.{Answer}
use Rattle.window.specs.Windows.{Paper, session_of, opening, oldest, refusal_of, step, model}
use Rattle.window.specs.Promises.{OpeningSays, ValueSays, AnyOpening, AnyValue}

-- c is a call of the function of which `says` is known: it told and returned what the function answered
abbrev pub Answered : ValueSays → Window → Call model → Type 0
Answered says s c = (r : Answer) × says s c.command c.lent c.left r × (c.told ≡ told r.reply) × (c.session ≡ r.session)

-- after the opening, which found the words `first` and left them as `left`: the reply and the session are the paper's. On the paper of a refused one W is 0, and so all words are as lent
pub record OpeningAgrees (width : ℕ) (first left : List ℕ) (o : Answer) : Type 0 where
  pub tells : told o.reply ≡ (opening (length first) width).tells
  pub session : o.session ≡ session_of (opening (length first) width).paper
  pub rest : AsLent (model.bound (opening (length first) width).paper) first left
  pub long : length left ≡ length first

-- after each value: one call, with the paper p before it and `later` after it. N is n, the opening's words were `first`, and they are `now` after the call
pub record Meets (n : ℕ) (first now : List ℕ) (p later : Paper) (c : Call model) : Type 0 where
  -- the reply, value and place included, and N, W and the present position are the paper's. "The window has its own session and lent words, under document 01's rule about unaltered
  -- words": "Any other command may be lent any words, and alters none of them"
  pub agrees : Agrees model n first now p later c
  -- a value that is lent the opening's words, while the present position is not 4,294,967,295, is told the least of the values from the window's oldest position on, and its place
  pub gets : is_own n c.lent ≡ true → ((present_at p.values).0 ≡ 4294967295 → ⊥)
      → (m : Minimum) × (c.told ≡ showing m) × Least later.values (oldest (present_at later.values) p.width) m
  -- and whatever is shown after a value is that least
  pub shown : (m : Minimum) → c.told.shown ≡ Some m → Least later.values (oldest (present_at later.values) p.width) m

-- THE CLAIM, where `opens` is known of the opening's function, and `says` of the values'
abbrev pub EveryRun : OpeningSays → ValueSays → Type 0
EveryRun opens says =
    (width : ℕ) (first left : List ℕ) (o : Answer) (calls : List (Call model))
    → let start : Paper = (opening (length first) width).paper in
    opens width first left o
    → Made model (Answered says) start.words o.session left calls
    → OpeningAgrees width first left o × EachCall model (Meets start.words first) start.words left start calls

-- what holds of any session and any words
pub record EveryInput (opens : OpeningSays) (says : ValueSays) : Type 0 where
  pub opening : (width : ℕ) (first left : List ℕ) (o : Answer) → opens width first left o → AnyOpening width first left o.session (told o.reply)
  pub value : (s : Window) (v : ℤ) (lent left : List ℕ) (r : Answer) → says s v lent left r → AnyValue s lent left r.session (told r.reply)

-- "Values enter one by one and leave when W newer ones have come; before W have come, all count": of the positions that have a value, i is the first whose value has not left
pub record FirstInside (width present : ℕ) (i : Position) : Type 0 where
  pub some : 1 ≤ i.0
  -- the value at position k stays while fewer than W newer ones have come, and leaves then
  pub stays : (k : ℕ) → 1 ≤ k → k ≤ present → present < k + width → i.0 ≤ k
  pub leaves : (k : ℕ) → k + width ≤ present → k < i.0

-- so is the window's oldest position
abbrev pub OldestInside : Type 0
OldestInside = (width present : ℕ) → 1 ≤ width → FirstInside width present (oldest (record { 0 = present }) width)

-- "It equals what a tap at the window's oldest position would be told, whether or not a tap stands there": the engine's bookkeeper, who has the same values, tells a Query of a tap that stands
-- there what the window tells of the value that came last. Of the window nothing is asked but that the value is accepted
abbrev pub AsATap : Type 0
AsATap =
    (p : Paper) (n : ℕ) (v : ℤ) (h : History) → refusal_of p n ≡ 0 → h.values ≡ p.values ++ (v ∷ [])
    → let i : Position = oldest (present_at h.values) p.width in
    (h.words ≡ 0 → ⊥) → among i h.active ≡ true → (step p n v).tells ≡ (Histories.step h h.words (Query i)).tells
