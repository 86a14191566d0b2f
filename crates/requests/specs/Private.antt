-- The contracts of the runs' parts: calls were made, of which the window's contract is known. What they were told follows from point 2's claim.
use Rattle.std.specs.Prelude.{List, ℕ, ℤ}
use Rattle.runs.specs.Lists as Lists
use Rattle.window.specs.declared.Window.{Window}
use Rattle.window.specs.Windows.{model}
use Rattle.window.specs.Claim.{Answered}
use Rattle.window.specs.Calls.{Does}

-- calls of these values and lengths were made after an opening of n words
abbrev pub Valued : ℕ → Window → List ℕ → List ℕ → List (ℤ × ℕ) → Window → Type 0
Valued = Lists.Commanded model (Answered Does)
