-- One command is accepted at most once.
use mathlib.Core.List.{[], ◌∷◌}
use Prim.Native.Nat.{◌≤◌}
use Rattle.history.specs.Replies.{Told, acceptances}
use Rattle.history.proofs.Acceptances.{at_most_one}

pub once : (t : Told) → acceptances (t ∷ []) ≤ 1
once t = at_most_one t
