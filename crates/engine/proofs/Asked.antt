-- The ways out of a Query and of a Close on an area of the opened length. A history's active marks stand at positions from 1 to the present one. Between these the words are asked: a
-- position that they do not hold is not active, and one that they hold is, with its range minimum. A Close of it leaves the marks without it, and the count with one less.
use mathlib.Core.Path.{◌≡◌, refl, sym, ap, subst, ◌∙◌}
use mathlib.Core.List.{List}
use Rattle.std.specs.Prelude.{Option, None, Some, Ok, Err, ok_or}
use mathlib.Core.Bool.{Bool, true, false, cond, false≢true}
use Prim.Native.Nat.{ℕ, ◌-◌, ◌<◌, ◌≤◌}
use native.Mathlib.Omega.{arith}
use lib.ListN.{length}
use Rattle.history.specs.declared.Position.{Position}
use Rattle.history.specs.Minimum.{Minimum}
use Rattle.history.specs.declared.Session.{Session}
use Rattle.history.specs.declared.Command.{Command}
use Rattle.history.specs.declared.Command.TheVariants.{Query, Close}
use Rattle.history.specs.declared.Refusal.{Refusal}
use Rattle.history.specs.declared.Refusal.TheVariants.{NotActive}
use Rattle.history.specs.Minima.{stands_at, minimum}
use Rattle.history.specs.Replies.{showing, lent_refusal, refusal}
use Rattle.history.specs.Standings.{event_of, transition_of}
use Rattle.history.specs.Histories.{History, among, is_active}
use Rattle.laws.proofs.Tests.{refuted}
use Rattle.history.proofs.Steps.{refusal_own}
use Rattle.history.proofs.Soundness.{rising_among, struck_one}
use Rattle.ranges.specs.Holding.{Holds}
use Rattle.ranges.specs.Calls.{LookedUp, Closed}
use Rattle.engine.specs.Calls.{Does}
use Rattle.engine.specs.Private.{refused_with, accepted_with}
use Rattle.engine.proofs.Doing.{ForEach, does_refused, does_accepted, own_of, opened}

-- a command that names a position: a Query or a Close
pub data Names (i : Position) : Command → Type 0 where
  a_query : Names i (Query i)
  a_close : Names i (Close i)

module _ (s : Session) (w : List ℕ) (i : Position) (lent : 0 ≡ lent_refusal s.words (length w) 0) where
  -- the session is opened, and the words are as many
  z : s.words ≡ 0 → ⊥
  z = (opened s.words (length w) lent).0

  o : length w ≡ s.words
  o = (opened s.words (length w) lent).1

  -- what is due to it goes by whether its position is active
  due_to : (c : Command) → Names i c → (b : Bool) → refusal s (length w) b c ≡ cond b 0 11
  due_to c a_query b = refusal_own s (length w) b (Query i) z o
  due_to c a_close b = refusal_own s (length w) b (Close i) z o

  active_of : (c : Command) → Names i c → (h : History) → is_active h c ≡ among i h.active
  active_of c a_query h = refl
  active_of c a_close h = refl

  -- 11, for a reason that of a history's words is that the position is not active
  inactive : (c : Command) → Names i c → ForEach s w (λ h first. among i h.active ≡ false)
      → Does s c w w (refused_with s NotActive)
  inactive c n f =
      does_refused c s w NotActive false (λ x. absurd (false≢true x)) (due_to c n false)
      (λ h first q r. due_to c n (is_active h c) ∙ ap (λ (b : Bool). cond b 0 11) (active_of c n h ∙ f h first q r))

  -- no active mark can be there
  pub asked_outside : (c : Command) → Names i c → (0 < i.0 → i.0 ≤ s.present.0 → ⊥) → Does s c w w (refused_with s NotActive)
  asked_outside c n f = inactive c n (λ h first y t.
      refuted (among i h.active) (λ a.
      let m = rising_among i y.rising a in
      f m.0 (omega (arith, ap (λ (x : Session). x.present.0) t.session, m.1))))

  -- A QUERY of a position that can be active
  module _ (r : Option Minimum) (q : LookedUp w i r) where
    shown : (h : History) (first : List ℕ) → Holds h first w → r ≡ cond (among i h.active) (Some (minimum h.values i)) None
    shown h first k = q.holds h first k

    -- nothing is shown of a position that is active
    pub query_lost : r ≡ None → Does s (Query i) w w (refused_with s NotActive)
    query_lost e = inactive (Query i) a_query (λ h first _ t.
        refuted (among i h.active) (λ a.
        let f : None ≡ Some (minimum h.values i) =
        sym e ∙ shown h first (own_of (Query i) s w z o t) ∙ ap (λ (b : Bool). cond b (Some (minimum h.values i)) None) a in
        let y : ◌≡◌ {A = ℕ} 0 1 = cc in omega arith))

    module _ (m : Minimum) (e : r ≡ Some m) where
      -- and of one that is not nothing
      is_shown : (b : Bool) (d : Minimum) → Some m ≡ cond b (Some d) None → (b ≡ true) × (m ≡ d)
      is_shown true d f = (refl, cc)
      is_shown false d f = absurd (let y : ◌≡◌ {A = ℕ} 0 1 = cc in omega arith)

      pub query_done : 0 < i.0 → i.0 ≤ s.present.0 → Does s (Query i) w w (record { reply = Ok (Some m); session = s })
      query_done l b =
          does_accepted (Query i) s w true (λ _. (l, b)) refl (due_to (Query i) a_query true)
          (record { counted = 0; found = m; tells = refl; session = refl; unaltered = refl })
          (λ h first y t.
          let k = own_of (Query i) s w z o t in
          let x = is_shown (among i h.active) (minimum h.values i) (sym e ∙ shown h first k) in
          (due_to (Query i) a_query (is_active h (Query i)) ∙ ap (λ (c : Bool). cond c 0 11) x.0, ap showing x.1, refl, k))

    -- what is told of a position that the words may have
    pub query_refused : (why : Refusal) → Err why ≡ ok_or r NotActive → Does s (Query i) w w (refused_with s why)
    query_refused why e = go r refl e
      where
        go : (x : Option Minimum) → r ≡ x → Err why ≡ ok_or x NotActive → Does s (Query i) w w (refused_with s why)
        go None f g = let k : why ≡ NotActive = cc in rw k (query_lost f)
        go (Some m) f g = absurd (let y : ◌≡◌ {A = ℕ} 0 1 = cc in omega arith)

    pub query_found : (m : Minimum) → Ok m ≡ ok_or r NotActive → 0 < i.0 → i.0 ≤ s.present.0 → Does s (Query i) w w (record { reply = Ok (Some m); session = s })
    query_found m e = go r refl e
      where
        go : (x : Option Minimum) → r ≡ x → Ok m ≡ ok_or x NotActive → 0 < i.0 → i.0 ≤ s.present.0 → Does s (Query i) w w (record { reply = Ok (Some m); session = s })
        go None f g = absurd (let y : ◌≡◌ {A = ℕ} 0 1 = cc in omega arith)
        go (Some n) f g = let k : m ≡ n = cc in rw k (query_done n f)

  module _ (after : List ℕ) (r : Bool) (q : Closed w after i r) where
    -- there is no mark to close
    pub close_lost : r ≡ false → Does s (Close i) w after (refused_with s NotActive)
    close_lost e = subst (λ (x : List ℕ). Does s (Close i) w x (refused_with s NotActive)) (sym (q.none e))
        (inactive (Close i) a_close (λ h first _ t. sym (q.found h first (own_of (Close i) s w z o t)) ∙ e))

    -- it is closed
    pub close_done : r ≡ true → 0 < i.0 → i.0 ≤ s.present.0 → (s.active ≡ 0 → ⊥)
        → Does s (Close i) w after (accepted_with s s.present s.last (s.active - 1) (transition_of (event_of s.present (Close i)) s.standing).after)
    close_done e l b f =
        does_accepted (Close i) s w true (λ _. (l, b, omega (arith, f))) q.inside.long (due_to (Close i) a_close true)
        (record { counted = s.active - 1; found = stands_at s.last s.present; tells = refl; session = refl; unaltered = tt })
        (λ h first y t.
        let k = own_of (Close i) s w z o t in
        let a : among i h.active ≡ true = sym (q.found h first k) ∙ e in (
          due_to (Close i) a_close (is_active h (Close i)) ∙ ap (λ (c : Bool). cond c 0 11) a,
          refl,
          omega (arith, struck_one i y.rising a, ap (λ (x : Session). x.active) t.session),
          q.holds h first k e,
        ))
