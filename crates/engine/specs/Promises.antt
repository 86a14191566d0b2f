-- DEMAND 1: what an opening and a command hand out for EVERY session and EVERY words, also ones that no call ever returned. First the contract of a command, in which the program's own
-- choices have names; then, from AN OPENING on, what it comes to, clause by clause and in plain numbers; last the demand.
-- Document 01: "With others, one of the listed replies comes back, and what an accepted command then counts as active .. is free too. .. All else a public call hands out, refusals
-- too, is determined by its promise for every input." A mark is document 01's "tap".
use Rattle.std.specs.Prelude.{◌≡◌, Bool, true, List, ◌⊎◌, ℕ, ◌+◌, ◌-◌, ◌/◌, min, ◌<◌, ◌≤◌, pos, length, get_or, None, Some}
use Rattle.history.specs.declared.Position.{Position}
use Rattle.history.specs.Minimum.{Minimum}
use Rattle.history.specs.declared.Standing.{Standing}
use Rattle.history.specs.declared.Standing.TheVariants.{None, Unmarked, Marked, Closed}
use Rattle.history.specs.declared.Session.{Session}
use Rattle.history.specs.declared.Command.{Command}
use Rattle.history.specs.declared.Command.TheVariants.{Value, Mark, Query, Close}
use Rattle.engine.specs.Answers.{Answer}
use Rattle.history.specs.Replies.{Told, numbered, accepted, showing, told, refusal}
use Rattle.history.specs.Sessions.{session_after}
use Rattle.engine.specs.Demand.{OpeningSays, CommandSays}

-- "In each refusal the session comes back equal .. and the area is untouched; .. no value or place is shown."
pub record AfterRefusal (n : ℕ) (from : Session) (before after : List ℕ) (to : Session) (a : Told) : Type 0 where
  pub tells : a ≡ numbered n
  pub session : to ≡ from
  pub words : after ≡ before

-- what an acceptance shows: a minimum to a Query, and nothing to another command
abbrev pub shows : Command → Minimum → Told
shows (Value v) m = accepted
shows Mark m = accepted
shows (Query i) m = showing m
shows (Close i) m = accepted

-- a Query only reads
abbrev pub Unaltered : Command → List ℕ → List ℕ → Type 0
Unaltered (Value v) before after = Unit {0}
Unaltered Mark before after = Unit {0}
Unaltered (Query i) before after = after ≡ before
Unaltered (Close i) before after = Unit {0}

-- accepted. Free on words that no call left: the minimum shown and, but for a Query, the count of active marks and what then stands in the words
pub record AfterAcceptance (c : Command) (s : Session) (before after : List ℕ) (t : Session) (a : Told) : Type 0 where
  pub counted : ℕ
  pub found : Minimum
  pub tells : a ≡ shows c found
  pub session : t ≡ session_after s c counted
  pub unaltered : Unaltered c before after

-- a position that can be an active mark at all: neither 0 nor in the future; and a Close needs one to strike
abbrev pub Possible : Session → Command → Type 0
Possible s (Value v) = Unit {0}
Possible s Mark = Unit {0}
Possible s (Query i) = (0 < i.0) × (i.0 ≤ s.present.0)
Possible s (Close i) = (0 < i.0) × (i.0 ≤ s.present.0) × (0 < s.active)

-- THE PROMISE ON ANY INPUT: there is a `taken`, which says whether the program takes the command's position for an active mark, such that the
-- first refusal that applies is given, and else the command is accepted. Of words that no call left that choice is the program's. Of a session that no call returned, which
-- counts more marks than any opening allows, a Mark may be refused as full. Of those that calls left and returned, demand 3 fixes both
pub record Settled (c : Command) (s : Session) (before after : List ℕ) (t : Session) (a : Told) : Type 0 where
  pub taken : Bool
  pub possible : taken ≡ true → Possible s c
  pub refuses : (refusal s (length before) taken c ≡ 0 → ⊥) → AfterRefusal (refusal s (length before) taken c) s before after t a
  pub accepts : refusal s (length before) taken c ≡ 0 → AfterAcceptance c s before after t a ⊎ ((c ≡ Mark) × (4096 ≤ s.active) × AfterRefusal 10 s before after t a)

-- "The session records N, K, the present position, the last value, the number of active taps, and the present position's standing": that of an opening of n words for k marks
abbrev pub fresh_session : ℕ → ℕ → Session
fresh_session n k = record { words = n; limit = k; present = record { 0 = 0 }; last = pos 0; active = 0; standing = None }

-- AN OPENING, of words of any content
pub record AnyOpening (first left : List ℕ) (t : Session) (a : Told) : Type 0 where
  -- 1: "Opening, with N below 576; the session returned is unopened with all numbers 0 and standing none"
  pub too_short : length first < 576 → (a ≡ numbered 1) × (left ≡ first) × (t ≡ fresh_session 0 0)
  -- "Otherwise: reply 0, N is the length told, and K follows from it": "K = (N − 512) / 64 rounded down, and at most 4,096"
  pub long_enough : 576 ≤ length first → (a ≡ accepted) × (t ≡ fresh_session (length first) (min ((length first - 512) / 64) 4096))
  -- "it may write only words 0 to 511"
  pub rest : (i : ℕ) → 512 ≤ i → get_or left i 0 ≡ get_or first i 0
  pub long : length left ≡ length first

-- 7 to 10: "Mark, when the standing is none", "marked", "closed", and "when exactly K taps are active". An unmarked position may also be refused as full where the session counts 4,096
-- marks or more, which none does that a call returned
abbrev pub MarkNumber : Session → Standing → ℕ → Type 0
MarkNumber s None n = n ≡ 7
MarkNumber s Unmarked n = (s.active ≡ s.limit → n ≡ 10) × ((n ≡ 0) ⊎ ((n ≡ 10) × ((s.active ≡ s.limit) ⊎ (4096 ≤ s.active))))
MarkNumber s Marked n = n ≡ 8
MarkNumber s Closed n = n ≡ 9

-- 11: "Query or Close, when its position is not an active tap (0, future, unmarked and closed positions included)". Position 0 and a future one are none, whatever the words hold
pub record PositionNumber (s : Session) (i : Position) (n : ℕ) : Type 0 where
  pub zero : i.0 ≡ 0 → n ≡ 11
  pub future : s.present.0 < i.0 → n ≡ 11
  pub other : (n ≡ 0) ⊎ (n ≡ 11)

-- 6 to 11, on an opened session and words of its length. 6: "Value, when the present position is 4,294,967,295"
abbrev pub OwnNumber : Session → Command → ℕ → Type 0
OwnNumber s (Value v) n = (s.present.0 ≡ 4294967295 → n ≡ 6) × ((s.present.0 ≡ 4294967295 → ⊥) → n ≡ 0)
OwnNumber s Mark n = MarkNumber s s.standing n
OwnNumber s (Query i) n = PositionNumber s i n
OwnNumber s (Close i) n = PositionNumber s i n × (s.active ≡ 0 → n ≡ 11)

-- THE NUMBERS, in checking order: 4 "when the session is unopened", 5 "when the area lent now is not N words long", then the command's own, and else 0
pub record AnyNumber (s : Session) (c : Command) (lent : List ℕ) (n : ℕ) : Type 0 where
  pub unopened : s.words ≡ 0 → n ≡ 4
  pub other_length : (s.words ≡ 0 → ⊥) → (length lent ≡ s.words → ⊥) → n ≡ 5
  pub own : (s.words ≡ 0 → ⊥) → length lent ≡ s.words → OwnNumber s c n

-- A REFUSAL: "the session comes back equal .. and the area is untouched; .. no value or place is shown"
abbrev pub AnyRefusal : Session → List ℕ → List ℕ → Session → Told → Type 0
AnyRefusal s lent left t a = (left ≡ lent) × (t ≡ s) × (a.shown ≡ None)

-- AN ACCEPTED COMMAND, from the session s to the session t: what stands in t but for the count of active marks, what is shown, and, of a Query, that the words stay
abbrev pub AnyAcceptance : Command → Session → List ℕ → List ℕ → Session → Told → Type 0
AnyAcceptance (Value v) s lent left t a =
    (t.words ≡ s.words) × (t.limit ≡ s.limit) × (t.present.0 ≡ s.present.0 + 1) × (t.last ≡ v) × (t.standing ≡ Unmarked) × (a.shown ≡ None)
AnyAcceptance Mark s lent left t a =
    (t.words ≡ s.words) × (t.limit ≡ s.limit) × (t.present ≡ s.present) × (t.last ≡ s.last) × (t.standing ≡ Marked) × (a.shown ≡ None)
AnyAcceptance (Query i) s lent left t a =
    (t ≡ s) × (left ≡ lent) × (m : Minimum) × (a.shown ≡ Some m)
AnyAcceptance (Close i) s lent left t a =
    (t.words ≡ s.words) × (t.limit ≡ s.limit) × (t.present ≡ s.present) × (t.last ≡ s.last) × (a.shown ≡ None)
    × (i.0 ≡ s.present.0 → t.standing ≡ Closed) × ((i.0 ≡ s.present.0 → ⊥) → t.standing ≡ s.standing)

-- THE DEMAND, of every session and every words, whether or not a call returned them. That no word outside the ends is read or written and that each call ends is what
-- the checker shows of every function
pub record Demand1 (opens : OpeningSays) (says : CommandSays) : Type 0 where
  -- of an opening
  pub opening : (first left : List ℕ) (o : Answer) → opens first left o → AnyOpening first left o.session (told o.reply)
  -- "A wrong command is refused by the numbers of document 01": 4 to 11; 2 and 3 are reading's (`reading Outcomes.reading_of`). A right Value is not; of a right Mark, Query or Close
  -- on words that calls left, demand 3 says that it is not
  pub numbers : (s : Session) (c : Command) (lent left : List ℕ) (r : Answer) → says s c lent left r → AnyNumber s c lent (told r.reply).number
  -- "a refusal changes no word of the memory and nothing in the session", and "no value or place is shown"
  pub refused_opening : (first left : List ℕ) (o : Answer) → opens first left o → ((told o.reply).number ≡ 0 → ⊥) → AnyRefusal (fresh_session 0 0) first left o.session (told o.reply)
  pub refused_command : (s : Session) (c : Command) (lent left : List ℕ) (r : Answer) → says s c lent left r → ((told r.reply).number ≡ 0 → ⊥) → AnyRefusal s lent left r.session (told r.reply)
  -- "All else a public call hands out .. is determined by its promise for every input."
  pub accepted_command : (s : Session) (c : Command) (lent left : List ℕ) (r : Answer) → says s c lent left r → (told r.reply).number ≡ 0 → AnyAcceptance c s lent left r.session (told r.reply)
  pub long : (s : Session) (c : Command) (lent left : List ℕ) (r : Answer) → says s c lent left r → length left ≡ length lent
  -- and all of it as the contract has it
  pub settled : (s : Session) (c : Command) (lent left : List ℕ) (r : Answer) → says s c lent left r → Settled c s lent left r.session (told r.reply)
