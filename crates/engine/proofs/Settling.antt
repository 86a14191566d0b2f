-- Demand 1, clause by clause, of one opening and of one command. A command is told the refusal that applies, or else it is accepted, or it is a Mark that is refused as full: so its number is
-- the first that applies, and whatever has the number 0 was accepted.
use mathlib.Core.Path.{◌≡◌, refl, sym, ap, ◌∙◌}
use mathlib.Core.Bool.{Bool, true, false, cond}
use mathlib.Core.List.{List}
use mathlib.Core.Logic.{◌⊎◌, inl, inr, ⊎_elim}
use Rattle.std.specs.Prelude.{None}
use Prim.Native.Nat.{ℕ, ◌<◌, ◌≤◌}
use native.Mathlib.Omega.{arith}
use native.Mathlib.Decide.{ℕ_discrete}
use lib.ListN.{length}
use borrow.Author.Tests.{eq-eqb, ne_eqb}
use Rattle.history.specs.declared.Position.{Position}
use Rattle.history.specs.Minimum.{Minimum}
use Rattle.history.specs.declared.Standing.{Standing}
use Rattle.history.specs.declared.Standing.TheVariants.{None, Unmarked, Marked, Closed}
use Rattle.history.specs.declared.Session.{Session}
use Rattle.history.specs.declared.Command.{Command}
use Rattle.history.specs.declared.Command.TheVariants.{Value, Mark, Query, Close}
use Rattle.history.specs.declared.Event.{Event}
use Rattle.engine.specs.Answers.{Answer}
use Rattle.history.specs.Replies.{Told, told, mark_refusal, own_refusal, refusal}
use Rattle.history.specs.Standings.{transition_of}
use Rattle.history.specs.Histories.{Stepped, session_of}
use Rattle.history.proofs.Steps.{refusal_unopened, refusal_other, refusal_own, refusal_none, last_due, earlier_free, mark_free, marked_after, opening_refused, opening-accepted}
use Rattle.engine.specs.Promises.{AfterRefusal, shows, AfterAcceptance, Settled, AnyOpening, MarkNumber, PositionNumber, OwnNumber, AnyNumber, AnyAcceptance}
use Rattle.engine.specs.Calls.{Opens}

-- an opening
pub any_opening : (first left : List ℕ) (o : Answer) → Opens first left o → AnyOpening first left o.session (told o.reply)
any_opening first left o p = record {
  too_short = λ l.
      let e = opening_refused (length first) l in
      (p.tells ∙ ap (λ (x : Stepped). x.tells) e, p.refused l, p.represents.session ∙ ap (λ (x : Stepped). session_of x.history) e);
  long_enough = λ l.
      let e = opening-accepted (length first) l in
      (p.tells ∙ ap (λ (x : Stepped). x.tells) e, p.represents.session ∙ ap (λ (x : Stepped). session_of x.history) e);
  rest = p.rest;
  long = p.long;
}

-- an acceptance has the number 0
shows_none : (c : Command) (m : Minimum) → (shows c m).number ≡ 0
shows_none (Value v) m = refl
shows_none Mark m = refl
shows_none (Query i) m = refl
shows_none (Close i) m = refl

module _ {c : Command} {s : Session} {before after : List ℕ} {t : Session} {a : Told} (q : Settled c s before after t a) where
  -- the refusal that applies
  abbrev due : ℕ
  due = refusal s (length before) q.taken c

  -- where one applies, its number is told
  told_due : (k : ℕ) → due ≡ k → (k ≡ 0 → ⊥) → a.number ≡ k
  told_due k e z = ap (λ (x : Told). x.number) (q.refuses (λ o. z (sym e ∙ o))).tells ∙ e

  -- and else 0, or a Mark is told 10
  told_none : due ≡ 0 → (a.number ≡ 0) ⊎ ((c ≡ Mark) × (4096 ≤ s.active) × (a.number ≡ 10))
  told_none e = ⊎_elim
      (λ (x : AfterAcceptance c s before after t a). inl (ap (λ (y : Told). y.number) x.tells ∙ shows_none c x.found))
      (λ (x : (c ≡ Mark) × (4096 ≤ s.active) × AfterRefusal 10 s before after t a). inr (x.0, x.1, ap (λ (y : Told). y.number) x.2.tells))
      (q.accepts e)

  -- a command whose number is not 0 is refused, and alters and shows nothing
  pub settled_refused : (a.number ≡ 0 → ⊥) → (after ≡ before) × (t ≡ s) × (a.shown ≡ None)
  settled_refused z = elim (ℕ_discrete due 0) [
    | yes e ↦ ⊎_elim
        (λ (x : AfterAcceptance c s before after t a). absurd (z (ap (λ (y : Told). y.number) x.tells ∙ shows_none c x.found)))
        (λ (x : (c ≡ Mark) × (4096 ≤ s.active) × AfterRefusal 10 s before after t a). (x.2.words, x.2.session, ap (λ (y : Told). y.shown) x.2.tells))
        (q.accepts e)
    | no e ↦ let x = q.refuses e in (x.words, x.session, ap (λ (y : Told). y.shown) x.tells)
  ]

  -- one whose number is 0 is accepted, and no refusal applies
  settled_accepted : a.number ≡ 0 → (due ≡ 0) × AfterAcceptance c s before after t a
  settled_accepted z = elim (ℕ_discrete due 0) [
    | yes e ↦ (
      e,
      ⊎_elim
          (λ (x : AfterAcceptance c s before after t a). x)
          (λ (x : (c ≡ Mark) × (4096 ≤ s.active) × AfterRefusal 10 s before after t a). absurd (let y : ◌≡◌ {A = ℕ} 0 10 = sym z ∙ ap (λ (y : Told). y.number) x.2.tells in omega arith))
          (q.accepts e),
    )
    | no e ↦ absurd (e (sym (told_due due refl e) ∙ z))
  ]

  -- 11, of a Query or a Close, whose position the program takes for active or not
  position_number : (i : Position) → (c ≡ Mark → ⊥) → due ≡ cond q.taken 0 11 → (q.taken ≡ true → (0 < i.0) × (i.0 ≤ s.present.0)) → PositionNumber s i a.number
  position_number i m f y = go q.taken refl
    where
      go : (b : Bool) → q.taken ≡ b → PositionNumber s i a.number
      go true e = record {
        zero = λ z. absurd (omega (arith, (y e).0));
        future = λ l. absurd (omega (arith, (y e).1));
        other = inl (⊎_elim (λ (x : a.number ≡ 0). x) (λ (x : (c ≡ Mark) × (4096 ≤ s.active) × (a.number ≡ 10)). absurd (m x.0)) (told_none (f ∙ ap (λ (b : Bool). cond b 0 11) e)));
      }
      go false e =
          let n = told_due 11 (f ∙ ap (λ (b : Bool). cond b 0 11) e) (λ x. omega arith) in
          record { zero = λ _. n; future = λ _. n; other = inr n }

  -- 7 to 10, of a Mark, by the standing
  mark_number : (k : Standing) → due ≡ mark_refusal s (transition_of Event.Mark k).due → MarkNumber s k a.number
  mark_number None f = told_due 7 f (λ x. omega arith)
  mark_number Marked f = told_due 8 f (λ x. omega arith)
  mark_number Closed f = told_due 9 f (λ x. omega arith)
  mark_number Unmarked f = (
    full,
    elim (ℕ_discrete s.active s.limit) [
      | yes e ↦ inr (full e, inl e)
      | no e ↦ ⊎_elim (λ (x : a.number ≡ 0). inl x) (λ (x : (c ≡ Mark) × (4096 ≤ s.active) × (a.number ≡ 10)). inr (x.2, inr x.1))
          (told_none (f ∙ ap (λ (b : Bool). cond b 10 0) (ne_eqb s.active s.limit e)))
    ],
  )
    where
      full : s.active ≡ s.limit → a.number ≡ 10
      full e = told_due 10 (f ∙ ap (λ (b : Bool). cond b 10 0) (eq-eqb s.active s.limit e)) (λ x. omega arith)

own_number : (c : Command) (s : Session) (before after : List ℕ) (t : Session) (a : Told) (q : Settled c s before after t a)
    → refusal s (length before) q.taken c ≡ own_refusal s q.taken c → OwnNumber s c a.number
own_number (Value v) s before after t a q f = (
  (λ e. told_due q 6 (f ∙ last_due s.present e) (λ x. omega arith)),
  (λ e. ⊎_elim (λ (x : a.number ≡ 0). x) (λ (x : (Value v ≡ Mark) × (4096 ≤ s.active) × (a.number ≡ 10)). absurd (let m = x.0 in let z : ◌≡◌ {A = ℕ} 0 1 = cc in omega arith))
      (told_none q (f ∙ earlier_free s.present e))),
)
own_number Mark s before after t a q f = mark_number q s.standing f
own_number (Query i) s before after t a q f = position_number q i (λ m. let z : ◌≡◌ {A = ℕ} 0 1 = cc in omega arith) f q.possible
own_number (Close i) s before after t a q f = (
  position_number q i (λ m. let z : ◌≡◌ {A = ℕ} 0 1 = cc in omega arith) f (λ e. let p = q.possible e in (p.0, p.1)),
  (λ z. go z q.taken refl),
)
  where
    go : s.active ≡ 0 → (b : Bool) → q.taken ≡ b → a.number ≡ 11
    go z true e = absurd (omega (arith, z, (q.possible e).2))
    go z false e = told_due q 11 (f ∙ ap (λ (b : Bool). cond b 0 11) e) (λ x. omega arith)

-- the number of any command
pub any_number : (c : Command) (s : Session) (before after : List ℕ) (t : Session) (a : Told) → Settled c s before after t a → AnyNumber s c before a.number
any_number c s before after t a q = record {
  unopened = λ z. told_due q 4 (refusal_unopened s (length before) q.taken c z) (λ x. omega arith);
  other_length = λ z o. told_due q 5 (refusal_other s (length before) q.taken c z o) (λ x. omega arith);
  own = λ z o. own_number c s before after t a q (refusal_own s (length before) q.taken c z o);
}

-- any accepted command
pub any_acceptance : (c : Command) (s : Session) (before after : List ℕ) (t : Session) (a : Told) → Settled c s before after t a → a.number ≡ 0
    → AnyAcceptance c s before after t a
any_acceptance (Value v) s before after t a q z =
    let x = (settled_accepted q z).1 in (
      ap (λ (y : Session). y.words) x.session,
      ap (λ (y : Session). y.limit) x.session,
      ap (λ (y : Session). y.present.0) x.session,
      ap (λ (y : Session). y.last) x.session,
      ap (λ (y : Session). y.standing) x.session,
      ap (λ (y : Told). y.shown) x.tells,
    )
any_acceptance Mark s before after t a q z =
    let w = settled_accepted q z in
    let x = w.1 in
    let f = (mark_free s (transition_of Event.Mark s.standing).due (refusal_none s (length before) q.taken Mark w.0).2).0 in (
      ap (λ (y : Session). y.words) x.session,
      ap (λ (y : Session). y.limit) x.session,
      ap (λ (y : Session). y.present) x.session,
      ap (λ (y : Session). y.last) x.session,
      ap (λ (y : Session). y.standing) x.session ∙ marked_after s.standing f,
      ap (λ (y : Told). y.shown) x.tells,
    )
any_acceptance (Query i) s before after t a q z =
    let x = (settled_accepted q z).1 in
    (x.session, x.unaltered, x.found, ap (λ (y : Told). y.shown) x.tells)
any_acceptance (Close i) s before after t a q z =
    let x = (settled_accepted q z).1 in
    let k = ap (λ (y : Session). y.standing) x.session in (
      ap (λ (y : Session). y.words) x.session,
      ap (λ (y : Session). y.limit) x.session,
      ap (λ (y : Session). y.present) x.session,
      ap (λ (y : Session). y.last) x.session,
      ap (λ (y : Told). y.shown) x.tells,
      (λ e. k ∙ ap (λ (b : Bool). (transition_of (cond b Event.CloseOfPresent Event.Other) s.standing).after) (eq-eqb i.0 s.present.0 e)),
      (λ e. k ∙ ap (λ (b : Bool). (transition_of (cond b Event.CloseOfPresent Event.Other) s.standing).after) (ne_eqb i.0 s.present.0 e)),
    )

-- a Query alters no word, accepted or refused
pub query_reads_only : {i : Position} {s : Session} {before after : List ℕ} {t : Session} {a : Told} → Settled (Query i) s before after t a → after ≡ before
query_reads_only {i} {s} {before} {after} {t} {a} q = elim (ℕ_discrete a.number 0) [
  | yes z ↦ (any_acceptance (Query i) s before after t a q z).1
  | no z ↦ (settled_refused q z).0
]
