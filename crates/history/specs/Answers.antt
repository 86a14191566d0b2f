-- What a call with a session answers: a reply, and the session after it.
use Rattle.std.specs.Prelude.{Option, Result, Ok, Err}
use Rattle.history.specs.Minimum.{Minimum}
use Rattle.history.specs.declared.Refusal.{Refusal}
use Rattle.history.specs.declared.Answer.{Answer}

-- what the call comes to: what an acceptance shows, with the session that it leaves, or a refusal
abbrev pub Outcome : Type 0 → Type 0
Outcome S = Result (Option Minimum × S) Refusal

-- its answer. "In each refusal the session comes back equal": it is the session `before` the call
abbrev pub answered : {S : Type 0} → S → Outcome S → Answer S
answered before (Ok (shown, after)) = record { reply = Ok shown; session = after }
answered before (Err why) = record { reply = Err why; session = before }
