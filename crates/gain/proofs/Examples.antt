-- The worked numbers: each entry is tested by the rule, which has one number only.
use mathlib.Core.Path.{refl}
use Rattle.gain.specs.Examples.{AllWorked, examples}
use Rattle.gain.proofs.Rule.{entry_is}

pub examples_worked : AllWorked examples
examples_worked = rw (entry_is 80 3276 refl, entry_is 240 32 refl, entry_is 1 31838 refl)
