-- What each function of the table promises, of any words and any numbers of rows.
use Rattle.std.specs.Prelude.{◌≡◌, List, ℕ, Option, None, Some}
use Rattle.history.specs.declared.Position.{Position}
use Rattle.layout.specs.declared.Held.{Held}
use Rattle.layout.specs.declared.Lane.{Lane}
use Rattle.layout.specs.Words.{Lower, NotHigher, row₀, Room}
use Rattle.table.specs.Marks.{Linked, Live, inserted, released}

-- a search for position p. With no room for the capacity, no row, or more rows than the capacity, nothing is found. Of any other words, what it finds is an active mark at p: whether it
-- finds one that is there is the program's choice; in a table it finds each
pub record Sought (w : List ℕ) (k : Lane) (rows capacity : Held) (p : Position) (r : Option Held) : Type 0 where
  pub none : (Room w capacity.0 → Lower row₀ rows → NotHigher rows capacity → ⊥) → r ≡ None
  pub sound : (h : Held) → r ≡ Some h → Live w k rows p h
  pub complete : Linked w k rows capacity → (h : Held) → Live w k rows p h → r ≡ Some h

-- position p becomes the row after the last, where there is one to spare; else nothing is done
pub record Inserted (w v : List ℕ) (k : Lane) (rows capacity : Held) (p : Position) : Type 0 where
  pub done : Room w capacity.0 → Lower rows capacity → v ≡ inserted w k rows capacity p
  pub idle : (Room w capacity.0 → Lower rows capacity → ⊥) → v ≡ w

-- row h, where it is one of the rows, is closed; else nothing is done
pub record Released (w v : List ℕ) (k : Lane) (rows h : Held) : Type 0 where
  pub done : Room w rows.0 → Lower h rows → v ≡ released w k h
  pub idle : (Room w rows.0 → Lower h rows → ⊥) → v ≡ w
