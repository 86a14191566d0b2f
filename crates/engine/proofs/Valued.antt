-- The ways out of a Value on an area of the opened length. At the last position it is refused with 6. Else each mark's minimum is lowered by it, as the history's is.
use mathlib.Core.Path.{◌≡◌, refl, sym, ap, ◌∙◌}
use mathlib.Core.List.{List}
use mathlib.Core.Bool.{Bool, false}
use Prim.Native.Nat.{ℕ}
use native.Mathlib.Omega.{arith}
use lib.IntN.{ℤ}
use lib.ListN.{length}
use Rattle.history.specs.declared.Session.{Session}
use Rattle.history.specs.declared.Command.TheVariants.{Value}
use Rattle.history.specs.declared.Event.{Event}
use Rattle.history.specs.declared.Refusal.{Refusal}
use Rattle.history.specs.Minima.{stands_at, next}
use Rattle.history.specs.Standings.{transition_of}
use Rattle.history.specs.Replies.{number_of, value_refusal, lent_refusal, refusal}
use Rattle.history.specs.Histories.{History, session_of, is_active, accept}
use Rattle.history.proofs.Steps.{refusal_own, last_due}
use Rattle.ranges.specs.Holding.{Holds}
use Rattle.ranges.specs.Calls.{Valued}
use Rattle.engine.specs.Calls.{Does}
use Rattle.engine.specs.Private.{refused_with, accepted_with}
use Rattle.engine.proofs.Doing.{does_due, does_accepted, own_of, opened}

module _ (s : Session) (w : List ℕ) (v : ℤ) (lent : 0 ≡ lent_refusal s.words (length w) 0) where
  -- the session is opened, and the words are as many
  z : s.words ≡ 0 → ⊥
  z = (opened s.words (length w) lent).0

  o : length w ≡ s.words
  o = (opened s.words (length w) lent).1

  -- no position is left
  pub value_last : (k : Refusal) → number_of k ≡ value_refusal s.present → Does s (Value v) w w (refused_with s k)
  value_last k e = does_due (Value v) s w k (λ b. refusal_own s (length w) b (Value v) z o ∙ sym e)

  -- the value is the next position's, and each mark's minimum is lowered by it
  module _ (after : List ℕ) (e : value_refusal s.present ≡ 0) (q : Valued w after (stands_at v (next s.present))) where
    none_due : (b : Bool) → refusal s (length w) b (Value v) ≡ 0
    none_due b = refusal_own s (length w) b (Value v) z o ∙ e

    n : s.present.0 ≡ 4294967295 → ⊥
    n z = omega (arith, last_due s.present z, e)

    holds : (h : History) (first : List ℕ) → s ≡ session_of h → Holds h first w → Holds (accept h (Value v)).history first after
    holds h first r k =
        q.holds h first k v (ap (λ (x : Session). stands_at v (next x.present)) r) (omega (arith, n, k.short, ap (λ (x : Session). x.present.0) r))

    pub value_done : Does s (Value v) w after (accepted_with s (next s.present) v s.active (transition_of Event.Value s.standing).after)
    value_done =
        does_accepted (Value v) s w false (λ _. tt) q.inside.long (none_due false)
        (record { counted = s.active; found = stands_at v s.present; tells = refl; session = refl; unaltered = tt })
        (λ h first _ r. (
          none_due (is_active h (Value v)),
          refl,
          ap (λ (x : Session). x.active) r.session,
          holds h first r.session (own_of (Value v) s w z o r),
        ))
