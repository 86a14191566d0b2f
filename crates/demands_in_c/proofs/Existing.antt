-- The runs exist: their calls meet the hypotheses of `Demand3InC`, so that by it each was told what the bookkeeper tells, and that computes to the lines.
use mathlib.Core.Path.{◌≡◌, refl, ◌∙◌}
use mathlib.Core.List.{List}
use Prim.Native.Nat.{ℕ}
use lib.ListN.{length}
use Rattle.history.specs.Minima.{lowest}
use Rattle.history.specs.Histories.{History, opening}
use Rattle.runs.specs.Runs.{Made, EachCall, AllAgree}
use Rattle.runs.specs.Lists.{lines_of, worked, state_after_asked}
use Rattle.runs.proofs.Lists.{each_call}
use Rattle.runs.proofs.Calling.{played}
use Rattle.firmware.specs.declared.sessions.SessionNumbers.{SessionNumbers}
use Rattle.firmware.specs.declared.sessions.AnswerNumbers.{AnswerNumbers}
use Rattle.firmware.specs.Sessions.{OpensInNumbers, DoesInNumbers}
use Rattle.firmware.specs.Demands.{model, Answered, OpeningAgrees, Meets}
use Rattle.firmware.proofs.Theorem.{by_contract}
use Rattle.demands.specs.Witness as Engine
use Rattle.demands_in_c.specs.Witness.{in_c, RunExists}
use Rattle.demands_in_c.specs.Private.{Commanded}

-- the lines of the run are the bookkeeper's
pub lines_computed : worked model (opening 640).history (Engine.asked Engine.lines) ≡ in_c Engine.lines
unfolding lowest
lines_computed = refl

module _ (n : ℕ) (ls : List Engine.Line) {first left after : List ℕ} {o : AnswerNumbers} {r : SessionNumbers} (l : length first ≡ n) (p : OpensInNumbers first left o)
    (m : Commanded (opening n).history.words o.session left after (Engine.asked ls) r) where
  abbrev start : History
  start = (opening n).history

  made : Made model (Answered DoesInNumbers) (opening (length first)).history.words o.session left m.calls
  made = rw l m.made

  demand : OpeningAgrees first left o × EachCall model (Meets (opening (length first)).history.words first) (opening (length first)).history.words left
      (opening (length first)).history m.calls
  demand = by_contract first left o m.calls p made

  agrees : AllAgree model start.words first left start m.calls
  agrees = each_call model (Meets start.words first) _ (λ now h later c x. x.agrees) start.words left start m.calls (rw l at demand.1)

  -- its lines are those that the paper works out, and the numbers that its last call returned are the paper's
  made_lines : (lines_of model m.calls ≡ worked model start (Engine.asked ls)) × (r ≡ model.session_of (state_after_asked model start (Engine.asked ls)))
  made_lines = played model start.words first start m (rw l at demand.0.session) agrees

  -- A RUN EXISTS where an opening of n words was made and then calls whose lines the bookkeeper works out; and the session after it is the paper's
  pub run_exists : worked model start (Engine.asked ls) ≡ in_c ls → RunExists n (in_c ls) OpensInNumbers DoesInNumbers r × (r ≡ model.session_of (state_after_asked model start (Engine.asked ls)))
  run_exists w = (
    record {
      first = first;
      left = left;
      o = o;
      calls = m.calls;
      opened = p;
      tells = rw l at demand.0.tells;
      made = made;
      long = l;
      plays = made_lines.0 ∙ w;
      returned = m.returned;
    },
    made_lines.1,
  )
