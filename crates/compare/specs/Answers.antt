-- Whether a session "comes back equal". Document 01, "Replies in checking order".
use Rattle.std.specs.Prelude.{◌≡◌, Bool, true, false}
use Rattle.history.specs.declared.Session.{Session}

-- "the session comes back equal", or not
pub record Compared (a b : Session) (r : Bool) : Type 0 where
  pub yes : r ≡ true → a ≡ b
  pub no : r ≡ false → a ≡ b → ⊥
