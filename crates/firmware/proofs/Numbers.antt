-- The engine's sessions as numbers: a session that C gets, and hands in again, is the same session; and what a call leaves of the numbers that it was handed.
use mathlib.Core.Path.{◌≡◌, refl, sym, ap, ◌∙◌}
use mathlib.Core.List.{List}
use Rattle.std.specs.Prelude.{None, Some, Ok, Err}
use Prim.Native.Nat.{ℕ, min}
use native.Mathlib.Omega.{arith}
use native.Mathlib.Decide.{ℕ_discrete}
use borrow.Author.Tests.{ne_eqb}
use Rattle.history.specs.declared.Position.{Position}
use Rattle.history.specs.declared.Standing.{Standing}
use Rattle.history.specs.declared.Standing.TheVariants.{None as Nothing, Unmarked, Marked, Closed}
use Rattle.history.specs.declared.Session.{Session}
use Rattle.history.specs.declared.Command.{Command}
use Rattle.history.specs.declared.Command.TheVariants.{Value, Mark, Query, Close}
use Rattle.history.specs.Replies.{Told, Reply, told}
use Rattle.history.proofs.Steps.{some_number}
use Rattle.engine.specs.Answers.{Answer}
use Rattle.engine.specs.Promises.{Settled}
use Rattle.engine.proofs.Settling.{settled_refused, any_acceptance}
use Rattle.firmware.specs.declared.sessions.SessionNumbers.{SessionNumbers}
use Rattle.firmware.specs.Sessions.{standing_number, standing_from, session_from, numbers_of, unless_refused, numbers_after}

standing_back : (k : Standing) → standing_from (standing_number k) ≡ k
standing_back Nothing = refl
standing_back Unmarked = refl
standing_back Marked = refl
standing_back Closed = refl

pub session_back : (s : Session) → session_from (numbers_of s) ≡ s
session_back s = ap (λ (k : Standing). record { words = s.words; limit = s.limit; present = s.present; last = s.last; active = s.active; standing = k }) (standing_back s.standing)

-- a number above 3 comes back as 3, and any other as it is
pub number_back : (n : ℕ) → standing_number (standing_from n) ≡ min n 3
number_back n = elim (ℕ_discrete n 0) [
  | yes e ↦ rw e refl
  | no z ↦ elim (ℕ_discrete n 1) [
    | yes e ↦ rw e refl
    | no o ↦ elim (ℕ_discrete n 2) [
      | yes e ↦ rw e refl
      | no t ↦ rw (ne_eqb n 0 z, ne_eqb n 1 o, ne_eqb n 2 t) (omega (arith, z, o, t))
    ]
  ]
]

-- after an acceptance the numbers are the session's, and after a refusal those that were handed in
pub accepted_numbers : (s : SessionNumbers) (t : Session) (r : Reply) → (told r).number ≡ 0 → unless_refused s t r ≡ numbers_of t
accepted_numbers s t (Ok shown) z = refl
accepted_numbers s t (Err why) z = absurd (some_number why z)

pub refused_numbers : (s : SessionNumbers) (t : Session) (r : Reply) → ((told r).number ≡ 0 → ⊥) → unless_refused s t r ≡ s
refused_numbers s t (Ok None) z = absurd (z refl)
refused_numbers s t (Ok (Some m)) z = absurd (z refl)
refused_numbers s t (Err why) z = refl

-- a Query returns the session that it was handed
query_keeps : {i : Position} {s : Session} {before after : List ℕ} {t : Session} {a : Told} → Settled (Query i) s before after t a → t ≡ s
query_keeps {i} {s} {before} {after} {t} {a} q = elim (ℕ_discrete a.number 0) [
  | yes z ↦ (any_acceptance (Query i) s before after t a q z).0
  | no z ↦ (settled_refused q z).1
]

-- THE NUMBERS AFTER A CALL, of a session that stands for itself: they are those of the session that the engine returned
after_session : {s : Session} {before after : List ℕ} {t : Session} (c : Command) (r : Reply) → Settled c s before after t (told r) → unless_refused (numbers_of s) t r ≡ numbers_of t
after_session {s} {before} {after} {t} c r q = elim (ℕ_discrete (told r).number 0) [
  | yes z ↦ accepted_numbers (numbers_of s) t r z
  | no z ↦ refused_numbers (numbers_of s) t r z ∙ ap numbers_of (sym (settled_refused q z).1)
]

pub after_numbers : {s : Session} {before after : List ℕ} (c : Command) (a : Answer) → Settled c s before after a.session (told a.reply) → numbers_after (numbers_of s) c a ≡ numbers_of a.session
after_numbers (Value v) a q = after_session (Value v) a.reply q
after_numbers Mark a q = after_session Mark a.reply q
after_numbers (Query i) a q = ap numbers_of (sym (query_keeps q))
after_numbers (Close i) a q = after_session (Close i) a.reply q
