-- What a call of the window answers: a reply, and the session after it.
use Rattle.history.specs.declared.Answer.{Answer as AnswerWith}
use Rattle.window.specs.declared.Window.{Window}

abbrev pub Answer : Type 0
Answer = AnswerWith Window
