-- Rows whose positions ascend: which of two rows comes first is told by their marks.
use mathlib.Core.Path.{◌≡◌, ap}
use mathlib.Core.List.{List}
use mathlib.Core.Logic.{inl, inr}
use Prim.Native.Nat.{ℕ, ◌<◌, ◌≤◌}
use native.Mathlib.Decide.{ℕ_discrete}
use native.Mathlib.Omega.{arith}
use Rattle.layout.specs.declared.Held.{Held}
use Rattle.layout.specs.declared.Lane.{Lane}
use Rattle.layout.specs.Words.{Lower, NotHigher, word, mark_word}
use Rattle.layout.proofs.Order.{lower_or_not, same_held}
use Rattle.table.specs.Marks.{Rising}

module _ (w : List ℕ) (k : Lane) (rows : Held) (up : Rising w k rows) where
  -- a row whose mark is not after another's does not come after it
  pub not_after : (g h : Held) → Lower g rows → mark_word w k g ≤ mark_word w k h → NotHigher g h
  not_after g h l m = elim (lower_or_not h g) [ inl a ↦ absurd (let r = up h g a l in omega arith) | inr a ↦ a ]

  -- a row whose mark is before another's comes before it
  pub before : (g h : Held) → Lower g rows → mark_word w k g < mark_word w k h → Lower g h
  before g h l m =
      let n = not_after g h l (omega arith) in
      elim (ℕ_discrete g.0 h.0) [ yes e ↦ absurd (let q = ap (λ (i : ℕ). word w k i 1) e in omega arith) | no d ↦ omega arith ]

  -- rows with one mark are one row
  pub one_row : (g h : Held) → Lower g rows → Lower h rows → mark_word w k g ≡ mark_word w k h → g ≡ h
  one_row g h l m e = same_held (omega (arith, not_after g h l (omega arith), not_after h g m (omega arith)))
