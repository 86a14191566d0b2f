-- The engine is one of the machines that `runs` is about: what its contract says of a command is what the induction over a run asks of one call. Words of another length are refused
-- with 4 or 5, by the lengths alone, and so they and the paper stay as they are.
use mathlib.Core.Path.{◌≡◌, refl, sym, ap, ◌∙◌}
use mathlib.Core.Bool.{Bool, false}
use mathlib.Core.List.{List}
use Prim.Native.Nat.{ℕ}
use native.Mathlib.Omega.{arith}
use native.Mathlib.Decide.{ℕ_discrete}
use lib.ListN.{length}
use Rattle.history.specs.declared.Session.{Session}
use Rattle.history.specs.declared.Command.{Command}
use Rattle.engine.specs.Answers.{Answer}
use Rattle.history.specs.Replies.{refusal}
use Rattle.history.specs.Histories.{History, Stepped, session_of, is_active, model}
use Rattle.history.specs.Sound.{Sound}
use Rattle.laws.proofs.Tests.{clash}
use Rattle.history.proofs.Steps.{refusal_unopened, refusal_other, step-refused, step_words}
use Rattle.history.proofs.Soundness.{step_sound}
use Rattle.runs.specs.Runs.{is_own, Call}
use Rattle.runs.proofs.Induction.{OneCall, own_length, own_lent}
use Rattle.engine.specs.Demand.{CommandSays, Answered}
use Rattle.ranges.specs.Holding.{Holds}
use Rattle.engine.specs.Keeping.{Represents}
use Rattle.engine.specs.Calls.{Does}

-- words that are not the opening's: 4 or 5 is due, whatever the program says of the position
other_due : (h : History) (lent : List ℕ) (c : Command) → is_own h.words lent ≡ false
    → (k : ℕ) × (k ≡ 0 → ⊥) × ((b : Bool) → refusal (session_of h) (length lent) b c ≡ k)
other_due h lent c o = elim (ℕ_discrete h.words 0) [
  | yes z ↦ (4, (λ e. omega arith), λ b. refusal_unopened (session_of h) (length lent) b c z)
  | no z ↦ (5, (λ e. omega arith), λ b. refusal_other (session_of h) (length lent) b c z (λ e. clash (own_lent h.words lent z e) o))
]

-- what is known of a command's function gives what the contract says
module _ (says : CommandSays) (does : (s : Session) (c : Command) (lent left : List ℕ) (r : Answer) → says s c lent left r → Does s c lent left r) where
  -- the answer of a call, and what the contract says of it
  answer : (s : Session) (c : Call model) → Answered says s c → Answered Does s c
  answer s c (r, d, t, e) = (r, does s c.command c.lent c.left r d, t, e)

  pub one_call : OneCall model Sound Holds (Answered says)
  one_call = record {
    sound = λ h n k y. step_sound h y n k;
    opened = step_words;
    long = λ s c d. (answer s c d).1.long;
    tells = λ h first c y d k.
        let w = answer (session_of h) c d in
        let r : Represents h first (session_of h) c.lent = record { session = refl; own = λ z l. k (own_lent h.words c.lent z l) } in
        (w.2 ∙ w.1.tells h first y r, w.3 ∙ (w.1.represents h first y r).session);
    keeps = λ h first c y d o k.
        let w = (answer (session_of h) c d).1 in
        let l = own_length h.words c.lent o in
        let r : Represents h first (session_of h) c.lent = record { session = refl; own = λ _ _. k } in
        let e = step_words h (length c.lent) c.command in
        (w.represents h first y r).own (λ q. l.0 (sym e ∙ q)) (w.long ∙ l.1 ∙ sym e);
    others = λ h c d o.
        let w = (answer (session_of h) c d).1 in
        let q = other_due h c.lent c.command o in (
          (w.settled.refuses (λ e. q.1 (sym (q.2 w.settled.taken) ∙ e))).words,
          ap (λ (x : Stepped). x.history) (step-refused h (length c.lent) c.command q.0 (q.2 (is_active h c.command)) q.1),
        );
    rest = λ h first words k. k.rest;
  }
