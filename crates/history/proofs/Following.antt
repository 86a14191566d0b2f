-- What follows from a step of the bookkeeper, of the paper alone: the session after an acceptance, when a Mark is refused as full, and that what a Query is shown is the
-- least value since an active mark, which every active mark's Query is shown.
use mathlib.Core.Path.{◌≡◌, refl, sym, ap, ◌∙◌}
use mathlib.Core.Bool.{Bool, true, false, cond}
use mathlib.Core.List.{[], ◌∷◌}
use Rattle.std.specs.Prelude.{None, Some}
use Prim.Native.Nat.{ℕ}
use native.Mathlib.Omega.{arith}
use native.Mathlib.Decide.{ℕ_discrete}
use lib.Dec.{eqb}
use lib.ListN.{length, length-append}
use borrow.Author.Tests.{eq-eqb, ne_eqb}
use Rattle.history.specs.declared.Position.{Position}
use Rattle.history.specs.Minimum.{Minimum}
use Rattle.history.specs.declared.Standing.{Standing}
use Rattle.history.specs.declared.Standing.TheVariants.{Unmarked}
use Rattle.history.specs.declared.Command.{Command}
use Rattle.history.specs.declared.Command.TheVariants.{Value, Mark, Query, Close}
use Rattle.history.specs.declared.Event.{Event}
use Rattle.history.specs.Minima.{minimum, Least}
use Rattle.history.specs.Replies.{numbered, showing, mark_refusal}
use Rattle.history.specs.Standings.{transition_of}
use Rattle.history.specs.Histories.{History, Stepped, session_of, among, is_active, accept, refusal_of, step}
use Rattle.history.specs.Sessions.{count_after, session_after}
use Rattle.history.specs.Sound.{Sound}
use Rattle.history.proofs.Lowest.{last_of_more, minimum_least}
use Rattle.history.proofs.Steps.{refusal_own, refusal_none, taken_active, step-refused, step_accepted}
use Rattle.history.proofs.Soundness.{rising_among}

-- THE SESSION AFTER AN ACCEPTANCE is the session of the history that follows, where as many marks are counted as are active then
pub session_follows : (h : History) (c : Command) (counted : ℕ) → count_after (length h.active) c counted ≡ length (accept h c).history.active
    → session_after (session_of h) c counted ≡ session_of (accept h c).history
session_follows h (Value v) counted e = λ i. record {
  words = h.words;
  limit = h.limit;
  present = record { 0 = sym (length-append h.values (v ∷ [])) i };
  last = sym (last_of_more h.values v) i;
  active = e i;
  standing = Unmarked;
}
session_follows h Mark counted e = ap (λ (n : ℕ). session_after (session_of h) Mark n) e
session_follows h (Query i) counted e = refl
session_follows h (Close i) counted e = ap (λ (n : ℕ). session_after (session_of h) (Close i) n) e

module _ (h : History) (n : ℕ) (z : h.words ≡ 0 → ⊥) (o : n ≡ h.words) where
  -- "A tap no earlier rule refuses is refused as full exactly when the opened number is active."
  pub full_when : h.standing ≡ Unmarked
      → ((step h n Mark).tells.number ≡ 10 → length h.active ≡ h.limit) × (length h.active ≡ h.limit → (step h n Mark).tells.number ≡ 10)
  full_when u = (
    (λ e. elim (ℕ_discrete (length h.active) h.limit) [
      | yes q ↦ q
      | no q ↦ absurd (omega (arith, sym e ∙ ap (λ (x : Stepped). x.tells.number) (step_accepted h n Mark (marks ∙ ap (λ (b : Bool). cond b 10 0) (ne_eqb (length h.active) h.limit q)))))
    ]),
    (λ q. ap (λ (x : Stepped). x.tells.number)
        (step-refused h n Mark 10 (marks ∙ ap (λ (b : Bool). cond b 10 0) (eq-eqb (length h.active) h.limit q)) (λ x. omega arith))),
  )
    where
      marks : refusal_of h n Mark ≡ cond (eqb (length h.active) h.limit) 10 0
      marks = refusal_own (session_of h) n (is_active h Mark) Mark z o ∙ ap (λ (k : Standing). mark_refusal (session_of h) (transition_of Event.Mark k).due) u

  -- a Query of an active mark is shown its minimum
  pub told_minimum : (i : Position) → among i h.active ≡ true → (step h n (Query i)).tells ≡ showing (minimum h.values i)
  told_minimum i a =
      ap (λ (x : Stepped). x.tells)
      (step_accepted h n (Query i) (refusal_own (session_of h) n (is_active h (Query i)) (Query i) z o ∙ ap (λ (b : Bool). cond b 0 11) a))

  -- and one of another position is shown nothing
  pub told_inactive : (i : Position) → among i h.active ≡ false → (step h n (Query i)).tells ≡ numbered 11
  told_inactive i a =
      ap (λ (x : Stepped). x.tells)
      (step-refused h n (Query i) 11 (refusal_own (session_of h) n (is_active h (Query i)) (Query i) z o ∙ ap (λ (b : Bool). cond b 0 11) a) (λ x. omega arith))

-- an active mark stands at a position, so its minimum is the least value since
pub active_least : (h : History) (i : Position) → Sound h → among i h.active ≡ true → Least h.values i (minimum h.values i)
active_least h i s a = let r = rising_among i s.rising a in minimum_least h.values i r.0 r.1

-- what a Query is shown is the minimum of an active mark
pub shown-minimum : (h : History) (n : ℕ) (i : Position) (m : Minimum) → (step h n (Query i)).tells.shown ≡ Some m
    → (among i h.active ≡ true) × (m ≡ minimum h.values i)
shown-minimum h n i m e = elim (ℕ_discrete (refusal_of h n (Query i)) 0) [
  | yes q ↦
      let x : Some (minimum h.values i) ≡ Some m = sym (ap (λ (x : Stepped). x.tells.shown) (step_accepted h n (Query i) q)) ∙ e in
      let y : minimum h.values i ≡ m = cc in
      (taken_active (among i h.active) (refusal_none (session_of h) n (is_active h (Query i)) (Query i) q).2, sym y)
  | no q ↦
      let x : None ≡ Some m = sym (ap (λ (x : Stepped). x.tells.shown) (step-refused h n (Query i) (refusal_of h n (Query i)) refl q)) ∙ e in
      absurd (let y : ◌≡◌ {A = ℕ} 0 1 = cc in omega arith)
]
