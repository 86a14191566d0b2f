-- A walk along the chain after row `from`, down to row `top`: a row with the mark sought is on the chain that is left.
use mathlib.Core.Path.{◌≡◌, ap, ◌∙◌}
use mathlib.Core.List.{List}
use Prim.Native.Nat.{ℕ, ◌<◌}
use native.Mathlib.Omega.{arith}
use Rattle.layout.specs.declared.Held.{Held}
use Rattle.layout.specs.declared.Lane.{Lane}
use Rattle.layout.specs.Words.{Lower, NotHigher, mark_word, link}
use Rattle.table.specs.Marks.{Chain, Rising}
use Rattle.table.proofs.Ordered.{before}
use Rattle.table.proofs.Chains.{chain_upto, chain_rest}

-- row h is on the chain after row g
abbrev pub Beyond : List ℕ → Lane → Held → Held → Type 0
Beyond w k h g = Chain w k h g (link w k g)

pub record Walking (w : List ℕ) (k : Lane) (sought : ℕ) (from top : Held) : Type 0 where
  pub below : NotHigher top from
  pub rest : (h : Held) → mark_word w k h ≡ sought → Beyond w k h from → Beyond w k h top

-- at first, all of the chain
pub begun : (w : List ℕ) (k : Lane) (sought : ℕ) (from : Held) → Walking w k sought from from
begun w k sought from = record { below = omega arith; rest = λ h m c. c }

-- a turn: one row further, where that row's mark is not the one sought
pub passed : {w : List ℕ} {k : Lane} {sought : ℕ} {from top : Held} → Walking w k sought from top → (g : Held) → g ≡ link w k top → Lower g top
    → (mark_word w k g ≡ sought → ⊥) → Walking w k sought from g
passed {w} {k} {sought} {from} {top} b g e l n = record { below = omega (arith, b.below); rest = rest }
  where
    rest : (h : Held) → mark_word w k h ≡ sought → Beyond w k h from → Beyond w k h g
    rest h m c =
        let on : Chain w k h top g = rw e (b.rest h m c) in
        chain_rest (λ q. n (ap (λ (x : Held). mark_word w k x) q ∙ m)) on

-- no row is on a chain whose first row's mark is before its own: the chain leads to ever earlier rows
pub too_early : (w : List ℕ) (k : Lane) (rows : Held) {top g h : Held} → Rising w k rows → Lower g rows → mark_word w k g < mark_word w k h → Chain w k h top g → ⊥
too_early w k rows {g} {h} rising l m c = omega (arith, before w k rows rising g h l m, chain_upto c)
