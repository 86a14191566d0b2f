-- One call more of a run, whatever came before, and what point 2's claim gives of it: `Window` states what follows from that, clause by clause. So what is said there of the calls is compared with what is
-- proved of them here. Of the clauses, the one on the words from index 2 × W on stands here, for its statement speaks of what is proved.
use mathlib.Core.Path.{◌≡◌}
use mathlib.Core.Bool.{true}
use mathlib.Core.List.{List, [], ◌∷◌, ◌++◌}
use Prim.Native.Nat.{ℕ, ◌*◌, ◌≤◌}
use lib.ListN.{length, get_or}
use Rattle.runs.specs.Runs.{is_own, Call, Made}
use Rattle.runs.specs.Lists.{state_after_all, words_after_all, last_session}
use Rattle.runs.proofs.Lists.{last_call, made_more}
use Rattle.window.specs.Answers.{Answer}
use Rattle.window.specs.Windows.{Paper, opening, model}
use Rattle.window.specs.Claim.{Answered, Meets}
use Rattle.window.proofs.Functions as functions
use Rattle.window.proofs.Tied.{Opened, Valued}

-- AFTER EACH VALUE of a run, whatever came before: the paper p, the opening's words, and one call more
module _ (width : ℕ) (first left : List ℕ) (o : Answer) (calls : List (Call model)) (q : Opened width first left o)
    (made : Made model (Answered Valued) (opening (length first) width).paper.words o.session left calls) (c : Call model) where
  abbrev n : ℕ
  n = (opening (length first) width).paper.words

  abbrev p : Paper
  p = state_after_all model (opening (length first) width).paper calls

  abbrev words : List ℕ
  words = words_after_all model n left calls

  module _ (lent : is_own n c.lent ≡ true → c.lent ≡ words) (d : Answered Valued (last_session model o.session calls) c) where
    abbrev later : Paper
    later = model.step p (length c.lent) c.command

    pub meets : (now : List ℕ) × Meets n first now p later c
    meets = (
      _,
      last_call model (Meets n first) n left (opening (length first) width).paper calls c
          (functions.every_run width first left o (calls ++ (c ∷ [])) q (made_more model (Answered Valued) n o.session left calls c made lent d)).1,
    )

    -- the words from index 2 × W on are as lent
    pub value_rest : (i : ℕ) → 2 * later.width ≤ i → get_or meets.0 i 0 ≡ get_or first i 0
    value_rest = meets.1.agrees.rest
