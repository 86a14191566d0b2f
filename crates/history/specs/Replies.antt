-- Document 01, "Replies in checking order": the number of each reply, what it shows, how many are acceptances, and which refusal is the first that applies. The numbers that document 02
-- adds stand behind them; when they are due is said with what they refuse.
use Rattle.std.specs.Prelude.{Bool, cond, List, [], ◌∷◌, ℕ, ◌+◌, eqb, Option, None, Some, Result, Ok, Err}
use Rattle.history.specs.declared.Position.{Position}
use Rattle.history.specs.Minimum.{Minimum}
use Rattle.history.specs.declared.Session.{Session}
use Rattle.history.specs.declared.Command.{Command}
use Rattle.history.specs.declared.Refusal.{Refusal}
use Rattle.history.specs.declared.Event.{Event}
use Rattle.history.specs.Standings.{transition_of}

-- what a caller is told: the papers' number, and what is shown besides
pub record ToldOf (Shown : Type 0) : Type 0 where
  pub number : ℕ
  pub shown : Option Shown

-- "for Query" and for a window's value, "value and place"
abbrev pub Told : Type 0
Told = ToldOf Minimum

-- "no value or place is shown"
abbrev pub numbered : {Shown : Type 0} → ℕ → ToldOf Shown
numbered n = record { number = n; shown = None }

-- "Reply 0 is acceptance"
abbrev pub accepted : Told
accepted = numbered 0

-- "for Query it carries value and place"; and document 02, point 2: "Reply after each value: least value and place."
abbrev pub showing : {Shown : Type 0} → Shown → ToldOf Shown
showing m = record { number = 0; shown = Some m }

-- the numbers of the list
abbrev pub number_of : Refusal → ℕ
number_of Refusal.AreaTooShort = 1
number_of Refusal.UnknownKind = 2
number_of Refusal.ArgumentCutOff = 3
number_of Refusal.Unopened = 4
number_of Refusal.OtherLength = 5
number_of Refusal.LastPosition = 6
number_of Refusal.NothingToMark = 7
number_of Refusal.AlreadyMarked = 8
number_of Refusal.AlreadyClosed = 9
number_of Refusal.Full = 10
number_of Refusal.NotActive = 11
-- document 02, point 2, at a window's opening
number_of Refusal.WidthOutOfRange = 12
number_of Refusal.TooFewWords = 13
-- document 02, point 3, of a stored take and its index
number_of Refusal.RangeOutOfTake = 14
number_of Refusal.OtherIndexLength = 15

-- a reply's number: "Reply 0 is acceptance", and a refusal's own
abbrev pub number_told : {A : Type 0} → Result A Refusal → ℕ
number_told (Ok shown) = 0
number_told (Err why) = number_of why

-- what a reply to a command is
abbrev pub Reply : Type 0
Reply = Result (Option Minimum) Refusal

-- what each case of a reply tells
abbrev pub told : Reply → Told
told (Ok None) = accepted
told (Ok (Some m)) = showing m
told (Err why) = numbered (number_of why)

-- "commands accepted" (document 01, "Played examples"): how many of those that were told so
abbrev pub acceptances : List Told → ℕ
acceptances [] = 0
acceptances (t ∷ ts) = cond (eqb t.number 0) 1 0 + acceptances ts

-- "The highest is 4,294,967,295."
abbrev pub highest : Position
highest = record { 0 = 4294967295 }

-- 6: "Value, when the present position is 4,294,967,295". A window's values meet it as the engine's do
abbrev pub value_refusal : Position → ℕ
value_refusal present = cond (eqb present.0 highest.0) 6 0

-- 7 to 10, of a Mark: what is due by the standing, and then "when exactly K taps are active"
abbrev pub mark_refusal : Session → Option Refusal → ℕ
mark_refusal s (Some why) = number_of why
mark_refusal s None = cond (eqb s.active s.limit) 10 0

-- 6 to 11, on an area of the opened length; 0: none applies. `is_active`: whether the command's position is an active mark
abbrev pub own_refusal : Session → Bool → Command → ℕ
own_refusal s is_active (Command.Value v) = value_refusal s.present
own_refusal s is_active Command.Mark = mark_refusal s (transition_of Event.Mark s.standing).due
own_refusal s is_active (Command.Query i) = cond is_active 0 11
own_refusal s is_active (Command.Close i) = cond is_active 0 11

-- where N words were opened and n are lent: 4 "when the session is unopened", 5 "when the area lent now is not N words long", then the command's own. A window's values meet these too
abbrev pub lent_refusal : (opened n own : ℕ) → ℕ
lent_refusal opened n own = cond (eqb opened 0) 4 (cond (eqb n opened) own 5)

-- THE FIRST REFUSAL THAT APPLIES to a command lent n words
abbrev pub refusal : Session → ℕ → Bool → Command → ℕ
refusal s n is_active c = lent_refusal s.words n (own_refusal s is_active c)
