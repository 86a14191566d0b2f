-- Exported calls that are made one after the other, of which the contract is known.
use mathlib.Core.Path.{◌≡◌, refl}
use mathlib.Core.List.{List, ◌∷◌}
use mathlib.Core.Logic.{inl, inr}
use Prim.Native.Nat.{ℕ}
use native.Mathlib.Omega.{arith}
use lib.ListN.{length}
use Rattle.history.specs.declared.Command.{Command}
use Rattle.runs.specs.Runs.{Call}
use Rattle.runs.proofs.Calling as calling
use Rattle.firmware.specs.declared.sessions.SessionNumbers.{SessionNumbers}
use Rattle.firmware.specs.declared.sessions.AnswerNumbers.{AnswerNumbers}
use Rattle.firmware.specs.Sessions.{DoesInNumbers}
use Rattle.firmware.specs.Demands.{told_of, model}
use Rattle.demands_in_c.specs.Private.{Commanded}

abbrev call_of : Command → List ℕ → List ℕ → AnswerNumbers → Call model
call_of k lent left r = record { command = k; lent = lent; left = left; told = told_of r; session = r.session }

-- a call lent the opening's words, and those that follow
pub own_then : {s q : SessionNumbers} {k : Command} {before left after : List ℕ} {r : AnswerNumbers} {asks : List (Command × ℕ)} → length before ≡ 640
    → DoesInNumbers s k before left r → (length left ≡ 640 → Commanded 640 r.session left after asks q) → Commanded 640 s before after ((k, 640) ∷ asks) q
own_then {k = k} {before = before} {left = left} {r = r} l d f = calling.own_then (call_of k before left r) (r, d, refl, refl) (λ z. omega arith) l d.does.long f

-- a call lent words of another length, and those that follow
pub other_then : {m : ℕ} {s q : SessionNumbers} {k : Command} {before after lent left : List ℕ} {r : AnswerNumbers} {asks : List (Command × ℕ)} → (m ≡ 640 → ⊥) → length lent ≡ m
    → DoesInNumbers s k lent left r → Commanded 640 r.session before after asks q → Commanded 640 s before after ((k, m) ∷ asks) q
other_then {m} {k = k} {lent = lent} {left = left} {r = r} z l d f = calling.other_then (call_of k lent left r) (r, d, refl, refl) m (inr (rw l z)) l f

-- and any words after a refused opening
pub unopened_then : {m : ℕ} {s q : SessionNumbers} {k : Command} {before after lent left : List ℕ} {r : AnswerNumbers} {asks : List (Command × ℕ)} → length lent ≡ m
    → DoesInNumbers s k lent left r → Commanded 0 r.session before after asks q → Commanded 0 s before after ((k, m) ∷ asks) q
unopened_then {m} {k = k} {lent = lent} {left = left} {r = r} l d f = calling.other_then (call_of k lent left r) (r, d, refl, refl) m (inl refl) l f
