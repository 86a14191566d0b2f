-- Calls of the engine that are made one after the other, of which its contract is known.
use mathlib.Core.Path.{◌≡◌, refl}
use mathlib.Core.List.{List, ◌∷◌}
use mathlib.Core.Logic.{inl, inr}
use Prim.Native.Nat.{ℕ}
use native.Mathlib.Omega.{arith}
use lib.ListN.{length}
use Rattle.history.specs.declared.Session.{Session}
use Rattle.history.specs.declared.Command.{Command}
use Rattle.engine.specs.Answers.{Answer}
use Rattle.history.specs.Replies.{told}
use Rattle.history.specs.Histories.{model}
use Rattle.runs.specs.Runs.{Call}
use Rattle.runs.proofs.Calling as calling
use Rattle.engine.specs.Calls.{Does}
use Rattle.demands.specs.Private.{Commanded}

abbrev call_of : Command → List ℕ → List ℕ → Answer → Call model
call_of k lent left a = record { command = k; lent = lent; left = left; told = told a.reply; session = a.session }

-- a call lent the opening's words, and those that follow
pub own_then : {s r : Session} {k : Command} {before left after : List ℕ} {a : Answer} {asks : List (Command × ℕ)} → length before ≡ 640
    → Does s k before left a → (length left ≡ 640 → Commanded 640 a.session left after asks r) → Commanded 640 s before after ((k, 640) ∷ asks) r
own_then {k = k} {before = before} {left = left} {a = a} l d f = calling.own_then (call_of k before left a) (a, d, refl, refl) (λ z. omega arith) l d.long f

-- a call lent words of another length, and those that follow
pub other_then : {m : ℕ} {s r : Session} {k : Command} {before after lent left : List ℕ} {a : Answer} {asks : List (Command × ℕ)} → (m ≡ 640 → ⊥) → length lent ≡ m
    → Does s k lent left a → Commanded 640 a.session before after asks r → Commanded 640 s before after ((k, m) ∷ asks) r
other_then {m} {k = k} {lent = lent} {left = left} {a = a} z l d f = calling.other_then (call_of k lent left a) (a, d, refl, refl) m (inr (rw l z)) l f

-- and any words after a refused opening
pub unopened_then : {m : ℕ} {s r : Session} {k : Command} {before after lent left : List ℕ} {a : Answer} {asks : List (Command × ℕ)} → length lent ≡ m
    → Does s k lent left a → Commanded 0 a.session before after asks r → Commanded 0 s before after ((k, m) ∷ asks) r
unopened_then {m} {k = k} {lent = lent} {left = left} {a = a} l d f = calling.other_then (call_of k lent left a) (a, d, refl, refl) m (inl refl) l f
