-- What follows from demand 3. Its promises one by one and in plain numbers, for a run of any length; the examples of `history Examples`, which come out in every run of their
-- commands, on words of any content; and a refused opening, which is followed by replies 4 only.
use Rattle.std.specs.Prelude.{◌≡◌, true, false, List, [], ◌∷◌, ◌⊎◌, ℕ, ◌+◌, ◌*◌, ◌-◌, ◌<◌, ◌≤◌, pos, length, get_or, None, Some}
use Rattle.history.specs.declared.Position.{Position}
use Rattle.history.specs.Minimum.{Minimum}
use Rattle.history.specs.declared.Standing.TheVariants.{Unmarked}
use Rattle.history.specs.declared.Session.{Session}
use Rattle.history.specs.declared.Command.{Command}
use Rattle.history.specs.declared.Command.TheVariants.{Mark, Query}
use Rattle.engine.specs.Answers.{Answer}
use Rattle.history.specs.Minima.{Least}
use Rattle.history.specs.Replies.{Told, numbered, told}
use Rattle.history.specs.Histories.{History, among, opening, step, model}
use Rattle.history.specs.Examples.{Example}
use Rattle.runs.specs.Runs.{Call, Made}
use Rattle.runs.specs.Lists.{commands_of, told_to, AllLent, state_after_all, words_after_all, last_session}
use Rattle.engine.specs.Demand.{OpeningSays, CommandSays, Answered}

-- A run from the words `first` has come to a session, to the opening's words as they are then, and to the bookkeeper's paper
pub data Reached (opens : OpeningSays) (says : CommandSays) (first : List ℕ) : Session → List ℕ → History → Type 0 where
  -- "after one opening of any length on words of any content"
  opened : {left : List ℕ} {o : Answer} → opens first left o → Reached opens says first o.session left (opening (length first)).history
  -- "When N is not 0, a command lent N words is lent the opening's words as last left."
  own_words : {s : Session} {words : List ℕ} {h : History} (c : Command) {left : List ℕ} {r : Answer} → Reached opens says first s words h
      → (h.words ≡ 0 → ⊥) → length words ≡ h.words → says s c words left r → Reached opens says first r.session left (step h (length words) c).history
  -- "Any other command may be lent any words"
  other_words : {s : Session} {words : List ℕ} {h : History} (c : Command) (lent : List ℕ) {left : List ℕ} {r : Answer} → Reached opens says first s words h
      → ((h.words ≡ 0) ⊎ (length lent ≡ h.words → ⊥)) → says s c lent left r → Reached opens says first r.session words (step h (length lent) c).history

-- wherever a run has come to: "N, K, present position, last value, number of active taps and standing" are those on the paper, and
-- "every word from index 512 + 64 × l on is still as it was lent"
pub record Matches (first words : List ℕ) (h : History) (s : Session) : Type 0 where
  pub words_opened : s.words ≡ h.words
  pub limit : s.limit ≡ h.limit
  pub present : s.present.0 ≡ length h.values
  pub last : s.last ≡ get_or h.values (length h.values - 1) (pos 0)
  pub active : s.active ≡ length h.active
  pub standing : s.standing ≡ h.standing
  pub rest : (i : ℕ) → 512 + 64 * h.peak ≤ i → get_or words i 0 ≡ get_or first i 0
  pub long : length words ≡ length first

-- the reply to the next command, which is lent the words `lent` and leaves them as `left`, with the paper h before it
pub record Replied (h : History) (c : Command) (lent left : List ℕ) (a : Told) : Type 0 where
  -- "the pedal's reply is the bookkeeper's, value and place included"
  pub number : a.number ≡ (step h (length lent) c).tells.number
  pub shown : a.shown ≡ (step h (length lent) c).tells.shown
  pub long : length left ≡ length lent
  -- "Any other command may be lent any words, and alters none of them": after a refused opening, and at another length than N
  pub unopened : h.words ≡ 0 → (a.number ≡ 4) × (left ≡ lent)
  pub other_length : (h.words ≡ 0 → ⊥) → (length lent ≡ h.words → ⊥) → (a.number ≡ 5) × (left ≡ lent)
  -- "A tap no earlier rule refuses is refused as full exactly when the opened number is active."
  pub full : c ≡ Mark → (h.words ≡ 0 → ⊥) → length lent ≡ h.words → h.standing ≡ Unmarked → length h.active ≡ h.limit → a.number ≡ 10
  pub only_full : c ≡ Mark → (h.words ≡ 0 → ⊥) → length lent ≡ h.words → h.standing ≡ Unmarked → a.number ≡ 10 → length h.active ≡ h.limit
  -- "a query on an active tap gets the least value from the tap's position to the present and the place of that value"
  pub least : (i : Position) → c ≡ Query i → (h.words ≡ 0 → ⊥) → length lent ≡ h.words → among i h.active ≡ true → (m : Minimum) × (a.number ≡ 0) × (a.shown ≡ Some m) × Least h.values i m
  -- one on another position gets 11 and is shown nothing
  pub inactive : (i : Position) → c ≡ Query i → (h.words ≡ 0 → ⊥) → length lent ≡ h.words → among i h.active ≡ false → (a.number ≡ 11) × (a.shown ≡ None)
  -- and whatever a query is shown is the least since an active mark
  pub only_least : (i : Position) (m : Minimum) → c ≡ Query i → a.shown ≡ Some m → (among i h.active ≡ true) × Least h.values i m

-- THE PROMISES OF DEMAND 3, ONE BY ONE: the numbers 1, 4, 5, 10 and, of a Query, 0 and 11 are written out; 6 to 9 and a Close's 11 are those of the bookkeeper's step
pub record EveryRun (opens : OpeningSays) (says : CommandSays) : Type 0 where
  -- "Opening, with N below 576" gets 1, and another 0
  pub refuses : (first left : List ℕ) (o : Answer) → opens first left o → length first < 576 → ((told o.reply).number ≡ 1) × ((told o.reply).shown ≡ None)
  pub accepts : (first left : List ℕ) (o : Answer) → opens first left o → 576 ≤ length first → ((told o.reply).number ≡ 0) × ((told o.reply).shown ≡ None)
  -- each list of calls that demand 3 is about reaches a point
  pub reaches : (first left : List ℕ) (o : Answer) (calls : List (Call model)) → let start : History = (opening (length first)).history in opens first left o
      → Made model (Answered says) start.words o.session left calls
      → Reached opens says first (last_session model o.session calls) (words_after_all model start.words left calls) (state_after_all model start calls)
  -- "After the opening and after every command in the list"
  pub stands : (first words : List ℕ) (h : History) (s : Session) → Reached opens says first s words h → Matches first words h s
  -- and each command's reply
  pub replies : (first words : List ℕ) (h : History) (s : Session) → Reached opens says first s words h → (c : Command) (lent left : List ℕ) (r : Answer)
      → ((h.words ≡ 0 → ⊥) → length lent ≡ h.words → lent ≡ words) → says s c lent left r → Replied h c lent left (told r.reply)

-- an opening and calls give what an example says
pub record Gives (e : Example) (o : Answer) (calls : List (Call model)) : Type 0 where
  pub opens : told o.reply ≡ e.opens
  pub limit : o.session.limit ≡ e.limit
  pub tells : told_to model calls ≡ e.tells

-- every run of an example's commands gives it
abbrev pub AlwaysGives : OpeningSays → CommandSays → Example → Type 0
AlwaysGives opens says e =
    (first left : List ℕ) (o : Answer) (calls : List (Call model))
    → length first ≡ e.words
    → opens first left o
    → Made model (Answered says) (opening (length first)).history.words o.session left calls
    → commands_of model calls ≡ e.commands
    → AllLent model e.words calls
    → Gives e o calls

-- each example of a list is always given
abbrev pub AllGiven : OpeningSays → CommandSays → List Example → Type 0
AllGiven opens says [] = Unit {0}
AllGiven opens says (e ∷ es) = AlwaysGives opens says e × AllGiven opens says es

-- each call of a list was told t, and altered no word
abbrev pub AllTold : Told → List (Call model) → Type 0
AllTold t [] = Unit {0}
AllTold t (c ∷ cs) = (c.told ≡ t) × (c.left ≡ c.lent) × AllTold t cs

-- an opening below 576 words is followed by replies 4 only, whatever words are lent
abbrev pub OnlyFours : OpeningSays → CommandSays → Type 0
OnlyFours opens says =
    (first left : List ℕ) (o : Answer) (calls : List (Call model))
    → length first < 576
    → opens first left o
    → Made model (Answered says) 0 o.session left calls
    → AllTold (numbered 4) calls
