-- The window is one of the machines that `runs` is about: what its contract says of a value is what the induction over a run asks of one call. Words of another length are refused with 4 or
-- 5, by the lengths alone, and so they and the paper stay as they are.
use mathlib.Core.Path.{◌≡◌, refl, sym, ap, ◌∙◌}
use mathlib.Core.List.{List}
use mathlib.Core.Logic.{◌⊎◌, inl, inr}
use Prim.Native.Nat.{ℕ}
use native.Mathlib.Omega.{arith}
use native.Mathlib.Decide.{ℕ_discrete}
use lib.IntN.{ℤ}
use lib.ListN.{length}
use Rattle.history.specs.Minima.{present_at}
use Rattle.history.specs.Replies.{value_refusal}
use Rattle.history.proofs.Steps.{lent_unopened, lent_other}
use Rattle.runs.specs.Runs.{Call}
use Rattle.runs.proofs.Induction.{OneCall, own_length, own_lent, other_length_lem}
use Rattle.window.specs.declared.Window.{Window}
use Rattle.window.specs.Answers.{Answer}
use Rattle.window.specs.Windows.{Paper, Stepped, session_of, refusal_of, model}
use Rattle.window.specs.Promises.{ValueSays}
use Rattle.window.specs.Claim.{Answered}
use Rattle.window.specs.Keeping.{Sound, Keeps, Represents}
use Rattle.window.specs.Calls.{Does}
use Rattle.window.proofs.Steps.{step-refused, step_words, step_sound}

-- what is known of a value's function gives what the contract says
module _ (says : ValueSays) (does : (s : Window) (v : ℤ) (lent left : List ℕ) (r : Answer) → says s v lent left r → Does s v lent left r) where
  -- the answer of a call, and what the contract says of it
  answer : (s : Window) (c : Call model) → Answered says s c → Answered Does s c
  answer s c (r, d, t, e) = (r, does s c.command c.lent c.left r d, t, e)

  -- words that are not the opening's stay, and so does the paper
  others : (p : Paper) (c : Call model) → Answered says (session_of p) c → (p.words ≡ 0) ⊎ (length c.lent ≡ p.words → ⊥)
      → (c.left ≡ c.lent) × (model.step p (length c.lent) c.command ≡ p)
  others p c d o = go (answer (session_of p) c d) o
    where
      stays : (k : ℕ) → refusal_of p (length c.lent) ≡ k → (k ≡ 0 → ⊥) → model.step p (length c.lent) c.command ≡ p
      stays k e z = ap (λ (x : Stepped). x.paper) (step-refused p (length c.lent) c.command k e z)

      unopened : Answered Does (session_of p) c → p.words ≡ 0 → (c.left ≡ c.lent) × (model.step p (length c.lent) c.command ≡ p)
      unopened w z =
          ((w.1.any.unopened z).2, stays 4 (lent_unopened p.words (length c.lent) (value_refusal (present_at p.values)) z) (λ e. omega arith))

      go : Answered Does (session_of p) c → (p.words ≡ 0) ⊎ (length c.lent ≡ p.words → ⊥) → (c.left ≡ c.lent) × (model.step p (length c.lent) c.command ≡ p)
      go w (inl z) = unopened w z
      go w (inr e) = elim (ℕ_discrete p.words 0) [
        | yes z ↦ unopened w z
        | no z ↦ ((w.1.any.other_length z e).2, stays 5 (lent_other p.words (length c.lent) (value_refusal (present_at p.values)) z e) (λ e. omega arith))
      ]

  pub one_call : OneCall model Sound Keeps (Answered says)
  one_call = record {
    sound = λ p n v y. step_sound p n v y;
    opened = step_words;
    long = λ s c d. (answer s c d).1.any.long;
    tells = λ p first c y d k.
        let w = answer (session_of p) c d in
        let r : Represents p first (session_of p) c.lent = record { session = refl; own = λ z l. k (own_lent p.words c.lent z l) } in
        (w.2 ∙ w.1.tells p first y r, w.3 ∙ (w.1.represents p first y r).session);
    keeps = λ p first c y d o k.
        let w = (answer (session_of p) c d).1 in
        let l = own_length p.words c.lent o in
        let r : Represents p first (session_of p) c.lent = record { session = refl; own = λ _ _. k } in
        let e = step_words p (length c.lent) c.command in
        (w.represents p first y r).own (λ q. l.0 (sym e ∙ q)) (w.any.long ∙ l.1 ∙ sym e);
    others = λ p c d o. others p c d (other_length_lem p.words c.lent o);
    rest = λ p first words k. k.rest;
  }
