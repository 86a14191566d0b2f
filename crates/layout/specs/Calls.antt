-- What is read of a header, and whether there is room, of any words.
use Rattle.std.specs.Prelude.{◌≡◌, Bool, true, false, List, ℕ, ◌<◌, ◌≤◌, length}
use Rattle.layout.specs.declared.Role.{Role}
use Rattle.layout.specs.declared.Extent.{Extent}
use Rattle.layout.specs.Words.{extent_of, empty, Room}

pub record Read (w : List ℕ) (role : Role) (r : Extent) : Type 0 where
  pub own : 32 ≤ length w → r ≡ extent_of w role
  pub short : length w < 32 → r ≡ empty

pub record Roomy (w : List ℕ) (n : ℕ) (r : Bool) : Type 0 where
  pub yes : r ≡ true → Room w n
  pub no : r ≡ false → Room w n → ⊥
