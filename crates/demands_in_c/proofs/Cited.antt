-- THE THEOREMS over the calls that C makes, each cited under its statement, so that none can be dropped, renamed or weakened to another statement unnoticed; and that the runs of `one_run` and
-- `refused_run` meet the hypotheses of `Demand3InC` as it is stated of the functions.
use mathlib.Core.Path.{◌≡◌}
use mathlib.Core.List.{List}
use Prim.Native.Nat.{ℕ, min}
use Rattle.history.specs.declared.Session.{Session}
use Rattle.history.specs.declared.Command.{Command}
use Rattle.runs.proofs.Calling.{made_follows}
use Rattle.firmware.specs.declared.sessions.SessionNumbers.{SessionNumbers}
use Rattle.firmware.specs.declared.sessions.AnswerNumbers.{AnswerNumbers}
use Rattle.firmware.specs.Sessions.{standing_number, standing_from, session_from, numbers_of, OpensInNumbers, DoesInNumbers}
use Rattle.firmware.specs.Demands.{Demand1InC, Demand3InC}
use Rattle.firmware.proofs.Numbers as numbers
use Rattle.firmware.proofs.Theorem as theorem
use Rattle.firmware.proofs.Functions as functions
use Rattle.firmware.proofs.Tied as tied
use Rattle.firmware.proofs.Tied.{Opened, Called}
use Rattle.demands_in_c.specs.Witness.{Line, RunExists}

-- DEMANDS 1 AND 3, of the exported functions; demand 2 is part of 3
demand_1 : Demand1InC Opened Called
demand_1 = functions.demand_1

demand_3 : Demand3InC Opened Called
demand_3 = functions.demand_3

-- and for a caller, who knows the contracts
by_contract : Demand3InC OpensInNumbers DoesInNumbers
by_contract = theorem.by_contract

-- a session that C gets as numbers, and hands in again, is the same session; and a number above 3 counts as 3, in both directions
session_back : (s : Session) → session_from (numbers_of s) ≡ s
session_back = numbers.session_back

number_back : (n : ℕ) → standing_number (standing_from n) ≡ min n 3
number_back = numbers.number_back

-- C is told no more than the contracts say
opened_of : (first left : List ℕ) (r : AnswerNumbers) → OpensInNumbers first left r → Opened first left r
opened_of = tied.opened_of

called_of : (s : SessionNumbers) (c : Command) (lent left : List ℕ) (r : AnswerNumbers) → DoesInNumbers s c lent left r → Called s c lent left r
called_of = tied.called_of

-- THE RUN, of the functions themselves: the hypotheses of `demand_3` are met by the runs
pub run_called : (n : ℕ) (ls : List Line) (r : SessionNumbers) → RunExists n ls OpensInNumbers DoesInNumbers r → RunExists n ls Opened Called r
run_called n ls r x = record {
  first = x.first;
  left = x.left;
  o = x.o;
  calls = x.calls;
  opened = opened_of x.first x.left x.o x.opened;
  tells = x.tells;
  made = made_follows (λ s c a. (a.0, called_of s c.command c.lent c.left a.0 a.1, a.2, a.3)) _ x.o.session x.left x.calls x.made;
  long = x.long;
  plays = x.plays;
  returned = x.returned;
}
