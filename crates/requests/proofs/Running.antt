-- Runs of the window that are made: calls one after the other, of which its contract is known; by point 2's claim each was told what the paper tells, and that computes to the lines.
use mathlib.Core.Path.{◌≡◌, refl, ◌∙◌}
use mathlib.Core.List.{List, ◌∷◌}
use mathlib.Core.Logic.{◌⊎◌}
use Prim.Native.Nat.{ℕ}
use lib.IntN.{ℤ}
use lib.ListN.{length}
use Rattle.history.specs.Minima.{lowest}
use Rattle.history.specs.Replies.{told}
use Rattle.runs.specs.Runs.{Call, Made, EachCall, AllAgree}
use Rattle.runs.specs.Lists.{lines_of, worked, state_after_asked}
use Rattle.runs.proofs.Lists.{each_call}
use Rattle.runs.proofs.Calling as calling
use Rattle.runs.proofs.Calling.{played}
use Rattle.window.specs.declared.Window.{Window}
use Rattle.window.specs.Answers.{Answer}
use Rattle.window.specs.Windows.{Paper, session_of, opening, model}
use Rattle.window.specs.Claim.{Answered, OpeningAgrees, Meets}
use Rattle.window.specs.Calls.{Opens, Does}
use Rattle.window.proofs.Theorem.{by_contract}
use Rattle.requests.specs.Witness.{Line, asked, lines, RunExists}
use Rattle.requests.specs.Private.{Valued}

abbrev call_of : ℤ → List ℕ → List ℕ → Answer → Call model
call_of v lent left a = record { command = v; lent = lent; left = left; told = told a.reply; session = a.session }

-- a call lent the opening's n words, and those that follow
pub own_then : {n : ℕ} {s r : Window} {v : ℤ} {before left after : List ℕ} {a : Answer} {asks : List (ℤ × ℕ)} → (n ≡ 0 → ⊥) → length before ≡ n → Does s v before left a
    → (length left ≡ n → Valued n a.session left after asks r) → Valued n s before after ((v, n) ∷ asks) r
own_then {v = v} {before = before} {left = left} {a = a} z l d f = calling.own_then (call_of v before left a) (a, d, refl, refl) z l d.any.long f

-- a call lent others, and those that follow
pub other_then : {n : ℕ} {s r : Window} {v : ℤ} {before after lent left : List ℕ} {a : Answer} {asks : List (ℤ × ℕ)} (k : ℕ) → (n ≡ 0) ⊎ (length lent ≡ n → ⊥)
    → length lent ≡ k → Does s v lent left a → Valued n a.session before after asks r → Valued n s before after ((v, k) ∷ asks) r
other_then {v = v} {lent = lent} {left = left} {a = a} k z l d f = calling.other_then (call_of v lent left a) (a, d, refl, refl) k z l f

-- the lines of the run are the paper's
pub lines_computed : worked model (opening 4 2).paper (asked lines) ≡ lines
unfolding lowest
lines_computed = refl

module _ (width n : ℕ) (ls : List Line) {first left after : List ℕ} {o : Answer} {r : Window} (l : length first ≡ n) (p : Opens width first left o)
    (m : Valued (opening n width).paper.words o.session left after (asked ls) r) where
  abbrev start : Paper
  start = (opening n width).paper

  made : Made model (Answered Does) (opening (length first) width).paper.words o.session left m.calls
  made = rw l m.made

  claim : OpeningAgrees width first left o × EachCall model (Meets (opening (length first) width).paper.words first) (opening (length first) width).paper.words left
      (opening (length first) width).paper m.calls
  claim = by_contract width first left o m.calls p made

  agrees : AllAgree model start.words first left start m.calls
  agrees = each_call model (Meets start.words first) _ (λ now h later c x. x.agrees) start.words left start m.calls (rw l at claim.1)

  -- its lines are those that the paper works out, and its last session is the paper's
  made_lines : (lines_of model m.calls ≡ worked model start (asked ls)) × (r ≡ session_of (state_after_asked model start (asked ls)))
  made_lines = played model start.words first start m (rw l at claim.0.session) agrees

  -- A RUN EXISTS where an opening was made and then calls whose lines the paper works out; and the session after it is the paper's
  pub run_exists : worked model start (asked ls) ≡ ls → RunExists width n ls Opens Does r × (r ≡ session_of (state_after_asked model start (asked ls)))
  run_exists w = (
    record {
      first = first;
      left = left;
      o = o;
      calls = m.calls;
      opened = p;
      tells = rw l at claim.0.tells;
      made = made;
      long = l;
      plays = made_lines.0 ∙ w;
      returned = m.returned;
    },
    made_lines.1,
  )
