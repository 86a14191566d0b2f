-- Commands that go to a session one after the other, each with its line: of a machine with a model M, where `did` is known of each call, of lines `line` by the running number, the command and
-- what it is told, and of `acceptances`, how many of those that were told so are accepted.
use Rattle.std.specs.Prelude.{◌≡◌, List, [], ◌∷◌, ℕ, ◌+◌, length}
use Rattle.runs.specs.Runs.{Model, Call}
use Rattle.runs.specs.Lists.{commands_of, told_to, InTurn, last_session, last_words}
use Rattle.text.specs.declared.Page.{Page}
use Rattle.text.specs.Pages.{Puts}
use Rattle.text.specs.Numbered.{lines_from}
use Rattle.following.specs.declared.Progress.{Progress}

module _ (M : Model) (did : M.Session → Call M → Type 0) (line : ℕ → M.Command → M.Told → List ℕ) (acceptances : List M.Told → ℕ) where
  -- one call for a command, lent the words `before` and leaving them as `after`, with its line; it is counted as read, and as accepted where it was
  pub record Performs (progress : Progress M.Session) (command : M.Command) (before after : List ℕ) (page written : Page) (r : Progress M.Session) : Type 0 where
    pub told : M.Told
    pub done : did progress.session (record { command = command; lent = before; left = after; told = told; session = r.session })
    pub read : r.read ≡ progress.read + 1
    pub accepted : r.accepted ≡ progress.accepted + acceptances (told ∷ [])
    pub prints : Puts page (line r.read command told) written

  -- a call for each of some commands, in turn, from the session s and the words `before`, with the lines of all
  pub record Followed (s : M.Session) (commands : List M.Command) (before after : List ℕ) (page written : Page) (r : Progress M.Session) : Type 0 where
    pub calls : List (Call M)
    pub made : InTurn M did s before calls
    pub asked : commands ≡ commands_of M calls
    pub session : r.session ≡ last_session M s calls
    pub words : after ≡ last_words M before calls
    pub read : r.read ≡ length commands
    pub accepted : r.accepted ≡ acceptances (told_to M calls)
    pub prints : Puts page (lines_from line 1 commands (told_to M calls)) written
