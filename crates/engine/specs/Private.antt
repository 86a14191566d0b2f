-- The contracts of the engine's private functions.
use Rattle.std.specs.Prelude.{◌≡◌, Bool, true, false, ℕ, ◌<◌, ◌≤◌, ℤ, None, Ok, Err}
use Rattle.history.specs.declared.Position.{Position}
use Rattle.history.specs.declared.Standing.{Standing}
use Rattle.history.specs.declared.Session.{Session}
use Rattle.engine.specs.Answers.{Answer}
use Rattle.history.specs.declared.Refusal.{Refusal}

-- a refusal: the session comes back equal
abbrev pub refused_with : Session → Refusal → Answer
refused_with s why = record { reply = Err why; session = s }

-- an acceptance that shows nothing: N and K stay
abbrev pub accepted_with : Session → Position → ℤ → ℕ → Standing → Answer
accepted_with s present last active standing = record {
  reply = Ok None;
  session = record { words = s.words; limit = s.limit; present = present; last = last; active = active; standing = standing };
}

-- `within`: position i is none before the first or after the present one
pub record Within (s : Session) (i : Position) (r : Bool) : Type 0 where
  pub yes : r ≡ true → (0 < i.0) × (i.0 ≤ s.present.0)
  pub no : r ≡ false → 0 < i.0 → i.0 ≤ s.present.0 → ⊥
