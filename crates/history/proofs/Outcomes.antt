-- What is answered of a refusal that a `?` hands on.
use mathlib.Core.Path.{◌≡◌, ap}
use Rattle.std.specs.Prelude.{Ok, Err, IsErrAnd}
use Rattle.history.specs.declared.Refusal.{Refusal}
use Rattle.history.specs.Answers.{Outcome, answered}

-- the refusal itself, with the session that came in
pub handed_on : {S : Type 0} (before : S) (o : Outcome S) {why : Refusal} → IsErrAnd o (λ (y : Refusal). y ≡ why) → answered before o ≡ record { reply = Err why; session = before }
handed_on before (Ok x) h = absurd h
handed_on before (Err y) h = ap (λ (k : Refusal). record { reply = Err k; session = before }) h
