-- What a call of the engine answers: a reply, and the session after it.
use Rattle.history.specs.declared.Session.{Session}
use Rattle.history.specs.declared.Answer.{Answer as AnswerWith}

abbrev pub Answer : Type 0
Answer = AnswerWith Session
