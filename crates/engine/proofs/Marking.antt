-- The ways out of a Mark on an area of the opened length. It is refused by what the standing has against it, or as full: where the session counts K active marks, and where it
-- counts more than any opening allows, which no history's session does. Else the present position joins the marks, with the last value for its minimum.
use mathlib.Core.Path.{◌≡◌, refl, sym, ap, ◌∙◌}
use mathlib.Core.List.{List, [], ◌∷◌}
use mathlib.Core.Bool.{Bool, false, cond}
use Prim.Native.Nat.{ℕ, ◌+◌, ◌<◌, ◌≤◌}
use native.Mathlib.Omega.{arith}
use lib.ListN.{length, length-append}
use borrow.Author.Tests.{eq-eqb, ne_eqb}
use Rattle.history.specs.declared.Standing.{Standing}
use Rattle.history.specs.declared.Standing.TheVariants.{Unmarked}
use Rattle.history.specs.declared.Session.{Session}
use Rattle.history.specs.declared.Command.TheVariants.{Mark}
use Rattle.history.specs.declared.Event.{Event}
use Rattle.std.specs.Prelude.{Option, Some, None}
use Rattle.history.specs.declared.Transition.{Transition}
use Rattle.history.specs.declared.Refusal.{Refusal}
use Rattle.history.specs.declared.Refusal.TheVariants.{Full}
use Rattle.history.specs.Minima.{stands_at}
use Rattle.history.specs.Standings.{allowing, transition_of}
use Rattle.history.specs.Replies.{mark_refusal, lent_refusal, refusal}
use Rattle.history.specs.Histories.{History, present_of, session_of, is_active, accept}
use Rattle.history.specs.Sound.{Sound}
use Rattle.history.proofs.Steps.{refusal_own, unmarked_only}
use Rattle.ranges.specs.Holding.{Holds}
use Rattle.ranges.specs.Calls.{Marked}
use Rattle.engine.specs.Calls.{Does}
use Rattle.engine.specs.Private.{refused_with, accepted_with}
use Rattle.engine.proofs.Doing.{does_due, does_full, does_accepted, own_of, opened}

-- a transition with nothing due allows what comes after it
pub allowed : {t u : Transition} → t ≡ u → t.due ≡ None → u ≡ allowing t.after
allowed {t} e d = sym e ∙ (λ i. record { due = d i; after = t.after })

module _ (s : Session) (w : List ℕ) (lent : 0 ≡ lent_refusal s.words (length w) 0) where
  -- the session is opened, and the words are as many
  z : s.words ≡ 0 → ⊥
  z = (opened s.words (length w) lent).0

  o : length w ≡ s.words
  o = (opened s.words (length w) lent).1

  -- what is due to a Mark goes by what the standing has against it
  due_by : (d : Option Refusal) → (transition_of Event.Mark s.standing).due ≡ d → (b : Bool) → refusal s (length w) b Mark ≡ mark_refusal s d
  due_by d e b = refusal_own s (length w) b Mark z o ∙ ap (mark_refusal s) e

  -- 7, 8 and 9
  pub mark_refused : (why : Refusal) → (transition_of Event.Mark s.standing).due ≡ Some why → Does s Mark w w (refused_with s why)
  mark_refused why e = does_due Mark s w why (due_by (Some why) e)

  module _ (after-standing : Standing) (u : transition_of Event.Mark s.standing ≡ allowing after-standing) where
    free : (transition_of Event.Mark s.standing).due ≡ None
    free = ap (λ (x : Transition). x.due) u

    -- 10
    pub mark_full : s.active ≡ s.limit → Does s Mark w w (refused_with s Full)
    mark_full e = does_due Mark s w Full (λ b. due_by None free b ∙ rw (eq-eqb s.active s.limit e))

    none_due : (s.active ≡ s.limit → ⊥) → (b : Bool) → refusal s (length w) b Mark ≡ 0
    none_due n b = due_by None free b ∙ ap (λ (t : Bool). cond t 10 0) (ne_eqb s.active s.limit n)

    -- more marks than any opening allows: no history's session
    pub mark_foreign : (s.active ≡ s.limit → ⊥) → 4096 ≤ s.active → Does s Mark w w (refused_with s Full)
    mark_foreign n f = does_full s w f (none_due n false) (λ h first q r.
        omega (arith, n, q.peaked, q.limited, q.few, ap (λ (x : Session). x.active) r.session, ap (λ (x : Session). x.limit) r.session))

    -- the present position joins the marks
    module _ (after : List ℕ) (n : s.active ≡ s.limit → ⊥) (f : s.active < 4096) (q : Marked w after s.active s.present (stands_at s.last s.present)) where
      module _ (h : History) (first : List ℕ) (y : Sound h) (e : s ≡ session_of h) (k : Holds h first w) where
        active_is : s.active ≡ length h.active
        active_is = ap (λ (x : Session). x.active) e

        unmarked : h.standing ≡ Unmarked
        unmarked = unmarked_only h.standing (ap (λ (x : Session). (transition_of Event.Mark x.standing).due) (sym e) ∙ free)

        held : Holds (accept h Mark).history first after
        held =
            q.holds h first y k unmarked (sym active_is) (omega (arith, n, active_is, ap (λ (x : Session). x.limit) e, y.peaked, y.limited))
            (o ∙ ap (λ (x : Session). x.words) e) (ap (λ (x : Session). x.present) e) (ap (λ (x : Session). stands_at x.last s.present) e)

      pub mark_done : Does s Mark w after (accepted_with s s.present s.last (s.active + 1) after-standing)
      mark_done =
          does_accepted Mark s w false (λ _. tt) q.inside.long (none_due n false)
          (record {
            counted = s.active + 1;
            found = stands_at s.last s.present;
            tells = refl;
            session = rw u;
            unaltered = tt;
          })
          (λ h first y r. (
            none_due n (is_active h Mark),
            refl,
            omega (arith, length-append h.active (present_of h ∷ []), ap (λ (x : Session). x.active) r.session),
            held h first y r.session (own_of Mark s w z o r),
          ))
