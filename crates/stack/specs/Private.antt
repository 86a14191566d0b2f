-- The contracts of the stack's private functions.
use Rattle.std.specs.Prelude.{Bool, List, ℕ, ltb}
use Rattle.layout.specs.declared.Held.{Held}
use Rattle.layout.specs.declared.Place.{Place}
use Rattle.layout.specs.declared.Lane.{Lane}
use Rattle.layout.specs.Words.{Lower, Under, NotAbove, least_word, first, Room}
use Rattle.stack.specs.Entries.{Ascending, Stacked, Covers, Parts}

-- whether the entry at place t is above x
abbrev pub is_above : List ℕ → Lane → ℕ → Place → Bool
is_above w k x t = ltb x (least_word w k t)

-- `taken_over`: a place at most the height, which in ascending words parts those at most x from those above it
pub record Parted (w : List ℕ) (k : Lane) (height : Place) (x : ℕ) (r : Place) : Type 0 where
  pub within : NotAbove r height
  pub right : Ascending w k height → Parts w k height x r

-- whether the run at place t starts after row h
abbrev pub starts_after : List ℕ → Lane → Held → Place → Bool
starts_after w k h t = ltb h.0 (first w k t).0

-- `covering`: a place below the height, which in a stack is that of the run that has row h
pub record Located (w : List ℕ) (k : Lane) (height : Place) (h : Held) (r : Place) : Type 0 where
  pub within : Under r height
  pub covers : (rows : Held) → Room w rows.0 → Stacked w k rows height → Lower h rows → Covers w k height r h
