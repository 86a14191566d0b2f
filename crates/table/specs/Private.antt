-- The contracts of the table's private functions.
use Rattle.std.specs.Prelude.{◌≡◌, Bool, List, ℕ, Option, Some, ltb}
use Rattle.history.specs.declared.Position.{Position}
use Rattle.layout.specs.declared.Held.{Held}
use Rattle.layout.specs.declared.Lane.{Lane}
use Rattle.layout.specs.Words.{mark_word, link}
use Rattle.table.specs.Marks.{Chain, Rising, Live}

-- whether row h's mark is after the one sought
abbrev pub is_after : List ℕ → Lane → ℕ → Held → Bool
is_after w k sought h = ltb sought (mark_word w k h)

-- `by_halves`: what it finds is an active mark at p, and among rising positions it finds each
pub record Halved (w : List ℕ) (k : Lane) (rows : Held) (p : Position) (r : Option Held) : Type 0 where
  pub sound : (h : Held) → r ≡ Some h → Live w k rows p h
  pub complete : Rising w k rows → (h : Held) → Live w k rows p h → r ≡ Some h

-- `further`: what it finds is an active mark at p, and among rising positions it finds each that is on the chain after row `from`
pub record Walked (w : List ℕ) (k : Lane) (rows : Held) (p : Position) (from : Held) (r : Option Held) : Type 0 where
  pub sound : (h : Held) → r ≡ Some h → Live w k rows p h
  pub complete : Rising w k rows → (h : Held) → Live w k rows p h → Chain w k h from (link w k from) → r ≡ Some h
