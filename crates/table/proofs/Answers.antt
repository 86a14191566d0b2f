-- What makes the answer of a search right.
use mathlib.Core.Path.{◌≡◌, refl, ap}
use mathlib.Core.List.{List}
use Rattle.std.specs.Prelude.{Option, None, Some}
use Prim.Native.Nat.{ℕ}
use native.Mathlib.Omega.{arith}
use Rattle.history.specs.declared.Position.{Position}
use Rattle.layout.specs.declared.Held.{Held}
use Rattle.layout.specs.declared.Lane.{Lane}
use Rattle.table.specs.Marks.{Rising, Linked, Live}
use Rattle.table.specs.Calls.{Sought}
use Rattle.table.proofs.Ordered.{one_row}

-- an answer of nothing gives no row
pub no_row : {C : Type 0} {h : Held} → ◌≡◌ {A = Option Held} None (Some h) → C
no_row e = absurd (let z : ◌≡◌ {A = ℕ} 0 1 = cc in omega arith)

-- in a table, nothing is found where there can be no active mark at the position
pub nothing : (w : List ℕ) (k : Lane) (rows capacity : Held) (p : Position) → (Linked w k rows capacity → (h : Held) → Live w k rows p h → ⊥) → Sought w k rows capacity p None
nothing w k rows capacity p none = record { none = λ _. refl; sound = λ h e. no_row e; complete = λ t h l. absurd (none t h l) }

module _ {w : List ℕ} {k : Lane} {rows : Held} {p : Position} {g : Held} (l : Live w k rows p g) where
  -- the row that is given is an active mark at the position
  pub own_row : (h : Held) → Some g ≡ Some h → Live w k rows p h
  own_row h e = let q : g ≡ h = cc in rw q at l

  -- among rising positions there is no other
  pub only_row : Rising w k rows → (h : Held) → Live w k rows p h → Some g ≡ Some h
  only_row rising h m =
      ap Some (one_row w k rows rising g h l.row m.row (omega (arith, l.mark, m.mark)))
