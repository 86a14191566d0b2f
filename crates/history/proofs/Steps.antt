-- The refusals, the opening and the bookkeeper's steps, by the tests that decide them.
use mathlib.Core.Path.{◌≡◌, refl, sym, ap, ◌∙◌}
use mathlib.Core.Bool.{Bool, true, false, cond}
use Prim.Native.Nat.{ℕ, ◌<◌, ◌≤◌}
use native.Mathlib.Decide.{dec_lt, ℕ_discrete}
use native.Mathlib.Omega.{arith}
use lib.Dec.{eqb}
use borrow.Author.Tests.{eq-eqb, ne_eqb, eqb-false, lt-ltb, le-ltb}
use Rattle.history.specs.declared.Position.{Position}
use Rattle.history.specs.declared.Standing.{Standing}
use Rattle.history.specs.declared.Standing.TheVariants.{None, Unmarked, Marked, Closed}
use Rattle.history.specs.declared.Session.{Session}
use Rattle.history.specs.declared.Command.{Command}
use Rattle.history.specs.declared.Command.TheVariants.{Value, Mark, Query, Close}
use Rattle.history.specs.declared.Event.{Event}
use Rattle.std.specs.Prelude.{Option, Some, None}
use Rattle.history.specs.declared.Refusal.{Refusal}
use Rattle.history.specs.declared.Refusal.TheVariants.{AreaTooShort, UnknownKind, ArgumentCutOff, Unopened, OtherLength, LastPosition, NothingToMark, AlreadyMarked, AlreadyClosed, Full, NotActive, WidthOutOfRange, TooFewWords, RangeOutOfTake, OtherIndexLength}
use Rattle.history.specs.Replies.{numbered, accepted, number_of, value_refusal, mark_refusal, own_refusal, lent_refusal, refusal}
use Rattle.history.specs.Standings.{transition_of}
use Rattle.history.specs.Histories.{History, Stepped, limit_of, blank, opening, accept, refusal_of, step}

-- no refusal has the number of an acceptance
pub some_number : (r : Refusal) → number_of r ≡ 0 → ⊥
some_number AreaTooShort e = omega arith
some_number UnknownKind e = omega arith
some_number ArgumentCutOff e = omega arith
some_number Unopened e = omega arith
some_number OtherLength e = omega arith
some_number LastPosition e = omega arith
some_number NothingToMark e = omega arith
some_number AlreadyMarked e = omega arith
some_number AlreadyClosed e = omega arith
some_number Full e = omega arith
some_number NotActive e = omega arith
some_number WidthOutOfRange e = omega arith
some_number TooFewWords e = omega arith
some_number RangeOutOfTake e = omega arith
some_number OtherIndexLength e = omega arith

-- where so many words were opened and n are lent, and `own` is due to a command beside that
module _ (opened n own : ℕ) where
  pub lent_unopened : opened ≡ 0 → lent_refusal opened n own ≡ 4
  lent_unopened z = rw (eq-eqb opened 0 z)

  pub lent_other : (opened ≡ 0 → ⊥) → (n ≡ opened → ⊥) → lent_refusal opened n own ≡ 5
  lent_other z o = rw (ne_eqb opened 0 z, ne_eqb n opened o)

  pub lent_own : (opened ≡ 0 → ⊥) → n ≡ opened → lent_refusal opened n own ≡ own
  lent_own z o = rw (ne_eqb opened 0 z, eq-eqb n opened o)

  -- where none applies the session is opened, and the words are as many
  pub lent_none : lent_refusal opened n own ≡ 0 → (opened ≡ 0 → ⊥) × (n ≡ opened) × (own ≡ 0)
  lent_none e =
      let z : opened ≡ 0 → ⊥ = λ z. omega (arith, lent_unopened z) in
      let o : n ≡ opened = elim (ℕ_discrete n opened) [
        | yes o ↦ o
        | no o ↦ absurd (omega (arith, lent_other z o))
      ] in
      (z, o, sym (lent_own z o) ∙ e)

-- what is due by the lengths alone is due whatever else would be
pub lent_due : (opened n own : ℕ) {k : ℕ} → (k ≡ 0 → ⊥) → lent_refusal opened n 0 ≡ k → lent_refusal opened n own ≡ k
lent_due opened n own {k} some e = elim (ℕ_discrete opened 0) [
  | yes z ↦ lent_unopened opened n own z ∙ sym (lent_unopened opened n 0 z) ∙ e
  | no z ↦ elim (ℕ_discrete n opened) [
    | yes o ↦ absurd (some (sym e ∙ lent_own opened n 0 z o))
    | no o ↦ lent_other opened n own z o ∙ sym (lent_other opened n 0 z o) ∙ e
  ]
]

-- 6, of a value, and none
pub last_due : (present : Position) → present.0 ≡ 4294967295 → value_refusal present ≡ 6
last_due present e = rw (eq-eqb present.0 4294967295 e)

pub earlier_free : (present : Position) → (present.0 ≡ 4294967295 → ⊥) → value_refusal present ≡ 0
earlier_free present n = rw (ne_eqb present.0 4294967295 n)

-- of the engine's commands
module _ (s : Session) (n : ℕ) (b : Bool) (c : Command) where
  pub refusal_unopened : s.words ≡ 0 → refusal s n b c ≡ 4
  refusal_unopened = lent_unopened s.words n (own_refusal s b c)

  pub refusal_other : (s.words ≡ 0 → ⊥) → (n ≡ s.words → ⊥) → refusal s n b c ≡ 5
  refusal_other = lent_other s.words n (own_refusal s b c)

  pub refusal_own : (s.words ≡ 0 → ⊥) → n ≡ s.words → refusal s n b c ≡ own_refusal s b c
  refusal_own = lent_own s.words n (own_refusal s b c)

  pub refusal_none : refusal s n b c ≡ 0 → (s.words ≡ 0 → ⊥) × (n ≡ s.words) × (own_refusal s b c ≡ 0)
  refusal_none = lent_none s.words n (own_refusal s b c)

-- a Mark to which none applies: the standing has nothing against it, and another number than K is active
pub mark_free : (s : Session) (d : Option Refusal) → mark_refusal s d ≡ 0 → (d ≡ None) × (s.active ≡ s.limit → ⊥)
mark_free s (Some why) e = absurd (some_number why e)
mark_free s None e = (refl, eqb-false s.active s.limit (room (eqb s.active s.limit) e))
  where
    room : (b : Bool) → ◌≡◌ {A = ℕ} (cond b 10 0) 0 → b ≡ false
    room true e = absurd (omega arith)
    room false e = refl

-- a position to which none applies was taken for an active mark
pub taken_active : (b : Bool) → ◌≡◌ {A = ℕ} (cond b 0 11) 0 → b ≡ true
taken_active true x = refl
taken_active false x = absurd (omega arith)

-- the standing has nothing against a Mark where it is unmarked, and only there
pub unmarked_only : (k : Standing) → (transition_of Event.Mark k).due ≡ None → k ≡ Unmarked
unmarked_only None e = cc
unmarked_only Unmarked e = refl
unmarked_only Marked e = cc
unmarked_only Closed e = cc

-- and then it is not unmarked any more
pub marked_after : (k : Standing) → (transition_of Event.Mark k).due ≡ None → (transition_of Event.Mark k).after ≡ Marked
marked_after k e = ap (λ (x : Standing). (transition_of Event.Mark x).after) (unmarked_only k e)

-- a command that is refused with k, on the history h
abbrev pub refused : History → ℕ → Stepped
refused h k = record { history = h; tells = numbered k }

module _ (h : History) (n : ℕ) (c : Command) where
  pub step-refused : (k : ℕ) → refusal_of h n c ≡ k → (k ≡ 0 → ⊥) → step h n c ≡ refused h k
  step-refused k e z = rw (e, ne_eqb k 0 z)

  pub step_accepted : refusal_of h n c ≡ 0 → step h n c ≡ accept h c
  step_accepted e = rw (e)

-- no command alters the opened length
accept-words : (h : History) (c : Command) → (accept h c).history.words ≡ h.words
accept-words h (Value v) = refl
accept-words h Mark = refl
accept-words h (Query i) = refl
accept-words h (Close i) = refl

pub step_words : (h : History) (n : ℕ) (c : Command) → (step h n c).history.words ≡ h.words
step_words h n c = go (eqb (refusal_of h n c) 0)
  where
    go : (b : Bool) → (cond b (accept h c) (refused h (refusal_of h n c))).history.words ≡ h.words
    go true = accept-words h c
    go false = refl

-- an opening is refused below 576 words, and only there
pub opening_refused : (n : ℕ) → n < 576 → opening n ≡ record { history = blank 0 0; tells = numbered 1 }
opening_refused n l = rw (lt-ltb n 576 l)

pub opening-accepted : (n : ℕ) → 576 ≤ n → opening n ≡ record { history = blank n (limit_of n); tells = accepted }
opening-accepted n l = rw (le-ltb n 576 l)

-- one whose number is not 0 was lent too few words
pub opening_short : (n : ℕ) → ((opening n).tells.number ≡ 0 → ⊥) → n < 576
opening_short n z = elim (dec_lt n 576) [
  | yes l ↦ l
  | no l ↦ absurd (z (ap (λ (x : Stepped). x.tells.number) (opening-accepted n (omega (arith, l)))))
]

-- one that opens words at all opens as many as it was lent
pub opening-words : (n : ℕ) → ((opening n).history.words ≡ 0 → ⊥) → (opening n).history.words ≡ n
opening-words n z = elim (dec_lt n 576) [
  | yes l ↦ absurd (z (ap (λ (x : Stepped). x.history.words) (opening_refused n l)))
  | no l ↦ ap (λ (x : Stepped). x.history.words) (opening-accepted n (omega (arith, l)))
]
