-- The lists of examples and traces are right: what the model tells, and its state in the end, compute to them. What no list can show is a law of every history: the last position.
use mathlib.Core.Path.{◌≡◌, refl, ap, ◌∙◌}
use mathlib.Core.List.{◌∷◌, [], ◌++◌}
use Prim.Native.Nat.{ℕ}
use lib.IntN.{ℤ}
use lib.ListN.{length}
use native.Mathlib.Omega.{arith}
use Rattle.history.specs.Minimum.{Minimum}
use Rattle.history.specs.declared.Command.TheVariants.{Value}
use Rattle.history.specs.declared.Refusal.{Refusal}
use Rattle.std.specs.Prelude.{Some, None, Ok, Err}
use Rattle.history.specs.Minima.{lowest}
use Rattle.history.specs.Replies.{numbered, number_of, told}
use Rattle.history.specs.Histories.{History, Stepped, present_of, session_of, is_active, accept, step, model}
use Rattle.history.specs.Examples.{AllWorked, examples}
use Rattle.history.specs.Traces.{AllTraced, traces, AllNumbered, refusals}
use Rattle.history.proofs.Steps.{refusal_own, last_due, earlier_free, refused, step-refused, step_accepted}

-- THE PLAYED EXAMPLES, all of the list
pub examples_worked : AllWorked examples
unfolding lowest
examples_worked = refl

-- THE TRACES, all of the list
pub traces_worked : AllTraced traces
unfolding lowest
traces_worked = refl

-- THE NUMBERS OF THE REFUSALS, in the order of document 01's list
pub refusals_numbered : AllNumbered refusals
refusals_numbered = refl

-- WHAT EACH CASE OF A REPLY TELLS: 0 and nothing shown, 0 and "value and place", and the refusal's number with "no value or place"
pub accepted_told : told (Ok None) ≡ record { number = 0; shown = None }
accepted_told = refl

pub lowest_told : (m : Minimum) → told (Ok (Some m)) ≡ record { number = 0; shown = Some m }
lowest_told m = refl

pub refused_told : (why : Refusal) → told (Err why) ≡ record { number = number_of why; shown = None }
refused_told why = refl

-- THE LAST POSITION: "Value, when the present position is 4,294,967,295", and no Value else that is lent the words opened
module _ (h : History) (n : ℕ) (v : ℤ) (z : h.words ≡ 0 → ⊥) (o : n ≡ h.words) where
  pub last_refused : length h.values ≡ 4294967295 → (model.tells h n (Value v) ≡ numbered 6) × (model.step h n (Value v) ≡ h)
  last_refused e =
      let d : step h n (Value v) ≡ refused h 6 =
      step-refused h n (Value v) 6 (refusal_own (session_of h) n (is_active h (Value v)) (Value v) z o ∙ last_due (present_of h) e) (λ x. omega arith) in
      (ap (λ (x : Stepped). x.tells) d, ap (λ (x : Stepped). x.history) d)

  pub earlier_accepted : (length h.values ≡ 4294967295 → ⊥)
      → (model.tells h n (Value v) ≡ numbered 0) × ((model.step h n (Value v)).values ≡ h.values ++ (v ∷ []))
  earlier_accepted e =
      let d : step h n (Value v) ≡ accept h (Value v) =
      step_accepted h n (Value v) (refusal_own (session_of h) n (is_active h (Value v)) (Value v) z o ∙ earlier_free (present_of h) e) in
      (ap (λ (x : Stepped). x.tells) d, ap (λ (x : Stepped). x.history.values) d)

  -- so it is with the last but one
  pub last_accepted : length h.values ≡ 4294967294 → (model.tells h n (Value v) ≡ numbered 0) × ((model.step h n (Value v)).values ≡ h.values ++ (v ∷ []))
  last_accepted e = earlier_accepted (λ x. omega arith)
