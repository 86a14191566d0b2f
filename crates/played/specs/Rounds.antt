-- Document 01, "Played examples": "100,000 rounds of V, M, C of that position with K = 1: all accepted." What a round is, and how many of its commands are accepted.
use Rattle.std.specs.Prelude.{◌≡◌, List, [], ◌∷◌, ℕ, ◌+◌, ℤ}
use Rattle.history.specs.declared.Session.{Session}
use Rattle.history.specs.declared.Command.TheVariants.{Value, Mark, Close}
use Rattle.following.specs.declared.Progress.{Progress}
use Rattle.engine.specs.Answers.{Answer}
use Rattle.history.specs.Replies.{told, acceptances}
use Rattle.engine.specs.Calls.{Does}

-- "V, M, C of that position", each on the session and words that the last one left; three commands more are read, and as many more accepted as were
pub record Rounded (p : Progress Session) (v : ℤ) (before after : List ℕ) (r : Progress Session) : Type 0 where
  pub valued : Answer
  pub marked : Answer
  pub closed : Answer
  pub then : List ℕ
  pub later : List ℕ
  pub value : Does p.session (Value v) before then valued
  pub mark : Does valued.session Mark then later marked
  pub close : Does marked.session (Close marked.session.present) later after closed
  pub session : r.session ≡ closed.session
  pub read : r.read ≡ p.read + 3
  pub accepted : r.accepted ≡ p.accepted + acceptances (told valued.reply ∷ told marked.reply ∷ told closed.reply ∷ [])
