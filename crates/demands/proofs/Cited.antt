-- THE THEOREMS that the promises rest on, each cited under its statement, so that none can be dropped, renamed or weakened to another statement unnoticed; and that the runs of
-- `one_run` and `refused_run` meet the hypotheses of the demands as they are stated of the functions.
use mathlib.Core.Path.{◌≡◌}
use mathlib.Core.List.{List, [], ◌∷◌, ◌++◌, map}
use mathlib.Core.Logic.{inl}
use Rattle.std.specs.Prelude.{None, Some}
use Prim.Native.Nat.{ℕ, ◌<◌, ◌≤◌}
use lib.IntN.{ℤ, pos, negsuc}
use lib.ListN.{length}
use Rattle.history.specs.declared.Position.{Position}
use Rattle.history.specs.Minimum.{Minimum}
use Rattle.history.specs.declared.Session.{Session}
use Rattle.history.specs.declared.Command.{Command}
use Rattle.history.specs.declared.Command.TheVariants.{Value, Mark, Query, Close}
use Rattle.engine.specs.Answers.{Answer}
use Rattle.history.specs.Minima.{minimum, Least}
use Rattle.history.specs.Replies.{numbered, number_of}
use Rattle.history.specs.Histories.{History, session_of, accept, model}
use Rattle.history.specs.Sessions.{count_after, session_after}
use Rattle.history.specs.Examples.{AllWorked, examples}
use Rattle.history.specs.Traces.{AllTraced, traces, refusals}
use Rattle.history.proofs.Worked as worked
use Rattle.history.proofs.Lowest as minima
use Rattle.history.proofs.Following as following
use Rattle.runs.proofs.Calling.{made_follows}
use Rattle.engine.specs.Demand.{Demand3}
use Rattle.engine.specs.Promises.{Demand1}
use Rattle.engine.specs.Consequences.{EveryRun, OnlyFours, AllGiven}
use Rattle.engine.specs.Calls.{Opens, Does}
use Rattle.engine.proofs.Theorem as theorem
use Rattle.engine.proofs.Tied as tied
use Rattle.engine.proofs.Functions as functions
use Rattle.engine.proofs.Tied.{Opened, ByOwn, ByApply, Called}
use Rattle.engine.proofs.Examples as given
use Rattle.engine.proofs.Plain as plain
use Rattle.reading.specs.Outcomes.{reading_of}
use Rattle.reading.proofs.Examples as readings
use Rattle.transcript.specs.Examples.{Printed, AllPrinted, example, endings}
use Rattle.transcript.proofs.Examples as printed
use Rattle.demands.specs.Witness.{Line, RunExists}

-- DEMANDS 1 AND 3, of the engine's functions; demand 2 is part of 3
demand_1 : Demand1 Opened Called
demand_1 = functions.demand_1

demand_3 : Demand3 Opened Called
demand_3 = functions.demand_3

-- and for a caller, who knows the contracts
by_contract : Demand3 Opens Does
by_contract = theorem.by_contract

-- its promises one by one and in plain numbers
every_run : EveryRun Opened Called
every_run = plain.every_run

-- "Any command, when the session is unopened": replies 4 only
only_fours : OnlyFours Opened Called
only_fours = functions.only_fours

-- the starred examples and those of document 02, point 5, of the bookkeeper and of every run
examples_worked : AllWorked examples
examples_worked = worked.examples_worked

examples_given : AllGiven Opened Called examples
examples_given = given.examples_given

-- the model's own numbers, trace by trace; the numbers of the refusals; and the last position
traces_worked : AllTraced traces
traces_worked = worked.traces_worked

refusals_numbered : map number_of refusals ≡ 1 ∷ 2 ∷ 3 ∷ 4 ∷ 5 ∷ 6 ∷ 7 ∷ 8 ∷ 9 ∷ 10 ∷ 11 ∷ []
refusals_numbered = worked.refusals_numbered

last_refused : (h : History) (n : ℕ) (v : ℤ) → (h.words ≡ 0 → ⊥) → n ≡ h.words → length h.values ≡ 4294967295
    → (model.tells h n (Value v) ≡ numbered 6) × (model.step h n (Value v) ≡ h)
last_refused = worked.last_refused

last_accepted : (h : History) (n : ℕ) (v : ℤ) → (h.words ≡ 0 → ⊥) → n ≡ h.words → length h.values ≡ 4294967294
    → (model.tells h n (Value v) ≡ numbered 0) × ((model.step h n (Value v)).values ≡ h.values ++ (v ∷ []))
last_accepted = worked.last_accepted

-- the dip is the least value at its earliest place from the mark on, and nothing else is
minimum_least : (vs : List ℤ) (i : Position) → 0 < i.0 → i.0 ≤ length vs → Least vs i (minimum vs i)
minimum_least = minima.minimum_least

least_only : (vs : List ℤ) (i : Position) (d e : Minimum) → Least vs i d → Least vs i e → d ≡ e
least_only = minima.least_only

-- the bytes of document 01's examples, both ends of the value range, positions, and every other byte; what is found is written out
nothing_left : reading_of [] ≡ record { number = None; command = None; used = 0 }
nothing_left = readings.nothing_left

unknown_alone : reading_of (5 ∷ []) ≡ record { number = Some 2; command = None; used = 0 }
unknown_alone = readings.unknown_alone

unknown_kind : (kind : ℕ) (behind : List ℕ) → (kind ≡ 1 → ⊥) → (kind ≡ 2 → ⊥) → (kind ≡ 3 → ⊥) → (kind ≡ 4 → ⊥)
    → reading_of (kind ∷ behind) ≡ record { number = Some 2; command = None; used = 0 }
unknown_kind = readings.unknown_kind

one_short : reading_of (3 ∷ 1 ∷ 0 ∷ 0 ∷ []) ≡ record { number = Some 3; command = None; used = 0 }
one_short = readings.one_short

mark_alone : reading_of (2 ∷ []) ≡ record { number = None; command = Some Mark; used = 1 }
mark_alone = readings.mark_alone

least_value : reading_of (1 ∷ 0 ∷ 0 ∷ 0 ∷ 128 ∷ []) ≡ record { number = None; command = Some (Value (negsuc 2147483647)); used = 5 }
least_value = readings.least

greatest_value : reading_of (1 ∷ 255 ∷ 255 ∷ 255 ∷ 127 ∷ []) ≡ record { number = None; command = Some (Value (pos 2147483647)); used = 5 }
greatest_value = readings.greatest

last_position : reading_of (3 ∷ 255 ∷ 255 ∷ 255 ∷ 255 ∷ []) ≡ record { number = None; command = Some (Query (record { 0 = 4294967295 })); used = 5 }
last_position = readings.last_position

some_position : reading_of (4 ∷ 4 ∷ 3 ∷ 2 ∷ 1 ∷ []) ≡ record { number = None; command = Some (Close (record { 0 = 16909060 })); used = 5 }
some_position = readings.some_position

-- the stream program's whole output, of document 01's example and of the other endings
example_printed : Printed example
example_printed = printed.example_printed

endings_printed : AllPrinted endings
endings_printed = printed.endings_printed

-- the session that demand 1 has after an acceptance is the paper's
session_follows : (h : History) (c : Command) (counted : ℕ) → count_after (length h.active) c counted ≡ length (accept h c).history.active
    → session_after (session_of h) c counted ≡ session_of (accept h c).history
session_follows = following.session_follows

-- no more is learnt of the functions than their contracts say
opened_of : (first left : List ℕ) (o : Answer) → Opens first left o → Opened first left o
opened_of = tied.opened_of

own_of : (s : Session) (c : Command) (lent left : List ℕ) (r : Answer) → Does s c lent left r → ByOwn s c lent left r
own_of = tied.own_of

apply_of : (s : Session) (c : Command) (lent left : List ℕ) (r : Answer) → Does s c lent left r → ByApply s c lent left r
apply_of = tied.apply_of

-- THE RUN, of the functions themselves: what is learnt of a command's own function holds where its contract does
called : (s : Session) (c : Command) (lent left : List ℕ) (r : Answer) → Does s c lent left r → Called s c lent left r
called s c lent left r d = inl (own_of s c lent left r d)

-- so the hypotheses of `demand_3` are met by the runs
pub run_called : (n : ℕ) (ls : List Line) (r : Session) → RunExists n ls Opens Does r → RunExists n ls Opened Called r
run_called n ls r x = record {
  first = x.first;
  left = x.left;
  o = x.o;
  calls = x.calls;
  opened = opened_of x.first x.left x.o x.opened;
  tells = x.tells;
  made = made_follows (λ s c a. (a.0, called s c.command c.lent c.left a.0 a.1, a.2, a.3)) _ x.o.session x.left x.calls x.made;
  long = x.long;
  plays = x.plays;
  returned = x.returned;
}
