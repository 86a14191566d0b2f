-- What a chain says of its first row, what follows it, and how a chain is carried to other words.
use mathlib.Core.Path.{◌≡◌, ap}
use mathlib.Core.List.{List}
use Prim.Native.Nat.{ℕ}
use native.Mathlib.Omega.{arith}
use Rattle.layout.specs.declared.Held.{Held}
use Rattle.layout.specs.declared.Lane.{Lane}
use Rattle.layout.specs.Words.{Lower, NotHigher, word, link}
use Rattle.layout.proofs.Order.{lower_through}
use Rattle.table.specs.Marks.{Chain, here, next}

-- a chain's first row is below the top
pub chain_below : {w : List ℕ} {k : Lane} {h top g : Held} → Chain w k h top g → Lower g top
chain_below (here l e) = l
chain_below (next l c) = l

-- a row of a chain does not come after the first
pub chain_upto : {w : List ℕ} {k : Lane} {h top g : Held} → Chain w k h top g → NotHigher h g
chain_upto (here l e) = omega (arith, ap (λ (n : Held). n.0) e)
chain_upto (next l c) = omega (arith, chain_upto c, chain_below c)

-- a row that is not the first is on the rest of the chain
pub chain_rest : {w : List ℕ} {k : Lane} {h top g : Held} → (g ≡ h → ⊥) → Chain w k h top g → Chain w k h g (link w k g)
chain_rest n (here l e) = absurd (n e)
chain_rest n (next l c) = c

-- a chain below more rows
pub raise : {w : List ℕ} {k : Lane} {h top g : Held} (more : Held) → NotHigher top more → Chain w k h top g → Chain w k h more g
raise more l (here m e) = here (lower_through m l) e
raise more l (next m c) = next (lower_through m l) c

-- a chain in words whose links are the same
pub carry : {w v : List ℕ} {k : Lane} {h top g : Held} → ((n : Held) → Lower n top → word v k n.0 2 ≡ word w k n.0 2) → Chain w k h top g → Chain v k h top g
carry same (here m e) = here m e
carry {g} same (next m c) = next m (rw (same g m) (carry (λ n l. same n (omega arith)) c))
