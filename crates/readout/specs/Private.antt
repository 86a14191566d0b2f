-- The contracts of the private functions, which speak of the calls that are made. What the window told is known of them by the window's contract alone; that it is what stands on the paper is
-- the window's list theorem.
use Rattle.std.specs.Prelude.{List, ℕ, ℤ}
use Rattle.history.specs.Replies.{Told, acceptances}
use Rattle.window.specs.declared.Window.{Window}
use Rattle.window.specs.Windows.{model}
use Rattle.window.specs.Claim.{Answered}
use Rattle.window.specs.Calls.{Does}
use Rattle.text.specs.declared.Page.{Page}
use Rattle.following.specs.declared.Progress.{Progress}
use Rattle.following.specs.Following as Following
use Rattle.readout.specs.Lines.{value_line}

-- `perform`: one call of the window for the value v, lent the words `before` and leaving them as `after`, with its line; it is counted as read, and as accepted where it was
abbrev pub Performs : (progress : Progress Window) (v : ℤ) (before after : List ℕ) (page written : Page) (r : Progress Window) → Type 0
Performs progress v before after page written r =
    Following.Performs model (Answered Does) (λ (number : ℕ) (v : ℤ) (t : Told). value_line number t) acceptances progress v before after page written r

-- `follow`: a call for each value, in turn, from the session s and the words `before`, with the lines of all
abbrev pub Follows : (s : Window) (values : List ℤ) (before after : List ℕ) (page written : Page) (r : Progress Window) → Type 0
Follows s values before after page written r =
    Following.Followed model (Answered Does) (λ (number : ℕ) (v : ℤ) (t : Told). value_line number t) acceptances s values before after page written r
