-- The contracts of the run's parts: calls were made, of which the contract of the exported function is known. What they were told follows from the theorem over all lists.
use Rattle.std.specs.Prelude.{List, ℕ}
use Rattle.history.specs.declared.Command.{Command}
use Rattle.runs.specs.Lists as Lists
use Rattle.firmware.specs.declared.sessions.SessionNumbers.{SessionNumbers}
use Rattle.firmware.specs.Sessions.{DoesInNumbers}
use Rattle.firmware.specs.Demands.{model, Answered}

-- calls of these commands and lengths were made after an opening of n words
abbrev pub Commanded : ℕ → SessionNumbers → List ℕ → List ℕ → List (Command × ℕ) → SessionNumbers → Type 0
Commanded = Lists.Commanded model (Answered DoesInNumbers)
