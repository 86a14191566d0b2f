-- The runs exist: their calls meet the hypotheses of demand 3, so that by the engine's list theorem each was told what the bookkeeper tells, and that computes to the lines.
use mathlib.Core.Path.{◌≡◌, refl, ◌∙◌}
use mathlib.Core.List.{List}
use Prim.Native.Nat.{ℕ}
use lib.ListN.{length}
use Rattle.history.specs.declared.Session.{Session}
use Rattle.engine.specs.Answers.{Answer}
use Rattle.history.specs.Minima.{lowest}
use Rattle.history.specs.Histories.{History, session_of, opening, model}
use Rattle.runs.specs.Runs.{Made, EachCall, AllAgree}
use Rattle.runs.specs.Lists.{lines_of, worked, state_after_asked}
use Rattle.runs.proofs.Lists.{each_call}
use Rattle.runs.proofs.Calling.{played}
use Rattle.engine.specs.Demand.{Answered, OpeningAgrees, Meets}
use Rattle.engine.specs.Calls.{Opens, Does}
use Rattle.engine.proofs.Theorem.{by_contract}
use Rattle.demands.specs.Witness.{Line, asked, lines, RunExists}
use Rattle.demands.specs.Private.{Commanded}

-- the lines of the run are the bookkeeper's
pub lines_computed : worked model (opening 640).history (asked lines) ≡ lines
unfolding lowest
lines_computed = refl

module _ (n : ℕ) (ls : List Line) {first left after : List ℕ} {o : Answer} {r : Session} (l : length first ≡ n) (p : Opens first left o)
    (m : Commanded (opening n).history.words o.session left after (asked ls) r) where
  abbrev start : History
  start = (opening n).history

  made : Made model (Answered Does) (opening (length first)).history.words o.session left m.calls
  made = rw l m.made

  demand : OpeningAgrees first left o × EachCall model (Meets (opening (length first)).history.words first) (opening (length first)).history.words left
      (opening (length first)).history m.calls
  demand = by_contract first left o m.calls p made

  agrees : AllAgree model start.words first left start m.calls
  agrees = each_call model (Meets start.words first) _ (λ now h later c x. x.agrees) start.words left start m.calls (rw l at demand.1)

  -- its lines are those that the paper works out, and its last session is the paper's
  made_lines : (lines_of model m.calls ≡ worked model start (asked ls)) × (r ≡ session_of (state_after_asked model start (asked ls)))
  made_lines = played model start.words first start m (rw l at demand.0.session) agrees

  -- A RUN EXISTS where an opening of n words was made and then calls whose lines the bookkeeper works out; and the session after it is the paper's
  pub run_exists : worked model start (asked ls) ≡ ls → RunExists n ls Opens Does r × (r ≡ session_of (state_after_asked model start (asked ls)))
  run_exists w = (
    record {
      first = first;
      left = left;
      o = o;
      calls = m.calls;
      opened = p;
      tells = rw l at demand.0.tells;
      made = made;
      long = l;
      plays = made_lines.0 ∙ w;
      returned = m.returned;
    },
    made_lines.1,
  )
