-- The contracts of the program's private functions, which speak of the calls that it makes. What the engine told is known of them by the engine's contract alone; that it is what
-- the bookkeeper tells is the engine's list theorem.
use Rattle.std.specs.Prelude.{◌≡◌, List, ℕ, Option}
use Rattle.history.specs.declared.Command.{Command}
use Rattle.history.specs.declared.Session.{Session}
use Rattle.history.specs.Replies.{acceptances}
use Rattle.history.specs.Histories.{model}
use Rattle.engine.specs.Demand.{Answered}
use Rattle.engine.specs.Calls.{Does}
use Rattle.text.specs.declared.Page.{Page}
use Rattle.text.specs.Pages.{Puts}
use Rattle.following.specs.declared.Progress.{Progress}
use Rattle.following.specs.Following as Following
use Rattle.transcript.specs.Lines.{answer_line}
use Rattle.transcript.specs.Streams.{stream_of}
use Rattle.transcript.specs.Output.{stop_lines}

-- `perform`: one call of the engine for a command, lent the words `before` and leaving them as `after`, with its line; it is counted as read, and as accepted where it was
abbrev pub Performs : (progress : Progress Session) (command : Command) (before after : List ℕ) (page written : Page) (r : Progress Session) → Type 0
Performs progress command before after page written r = Following.Performs model (Answered Does) answer_line acceptances progress command before after page written r

-- a call for each of some commands, in turn, from the session s and the words `before`, with the lines of all
abbrev pub Followed : (s : Session) (commands : List Command) (before after : List ℕ) (page written : Page) (r : Progress Session) → Type 0
Followed s commands before after page written r = Following.Followed model (Answered Does) answer_line acceptances s commands before after page written r

-- `follow`: the commands are those of the stream, up to where no further command is read; a refusal's line stands behind theirs
pub record Follows (s : Session) (before after bytes : List ℕ) (page written : Page) (r : Progress Session) : Type 0 where
  pub commands : List Command
  pub at : ℕ
  pub refusal : Option ℕ
  pub last : Page
  pub reads : stream_of bytes ≡ record { commands = commands; at = at; refusal = refusal }
  pub followed : Followed s commands before after page last r
  pub stops : Puts last (stop_lines at refusal) written
