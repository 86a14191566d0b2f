-- The contracts of the run's parts: calls were made, of which the engine's contract is known. What they were told follows from the engine's list theorem.
use Rattle.std.specs.Prelude.{List, ℕ}
use Rattle.history.specs.declared.Session.{Session}
use Rattle.history.specs.declared.Command.{Command}
use Rattle.history.specs.Histories.{model}
use Rattle.runs.specs.Lists as Lists
use Rattle.engine.specs.Demand.{Answered}
use Rattle.engine.specs.Calls.{Does}

-- calls of these commands and lengths were made after an opening of n words
abbrev pub Commanded : ℕ → Session → List ℕ → List ℕ → List (Command × ℕ) → Session → Type 0
Commanded = Lists.Commanded model (Answered Does)
