-- How many of the commands that were told a reply are accepted.
use mathlib.Core.Path.{◌≡◌}
use mathlib.Core.List.{List, [], ◌∷◌, ◌++◌}
use Prim.Native.Nat.{◌+◌, ◌≤◌}
use native.Mathlib.Decide.{ℕ_discrete}
use native.Mathlib.Omega.{arith}
use borrow.Author.Tests.{eq-eqb, ne_eqb}
use Rattle.history.specs.Replies.{Told, acceptances}

-- one command is accepted at most once
pub at_most_one : (t : Told) → acceptances (t ∷ []) ≤ 1
at_most_one t = elim (ℕ_discrete t.number 0) [
  | yes e ↦ simp (eq-eqb _ 0 e) (omega arith)
  | no n ↦ simp (ne_eqb _ 0 n) (omega arith)
]

-- one told more
pub acceptances_more : (ts : List Told) (t : Told) → acceptances (ts ++ (t ∷ [])) ≡ acceptances ts + acceptances (t ∷ [])
acceptances_more [] t = omega arith
acceptances_more (u ∷ ts) t = omega (arith, acceptances_more ts t)
