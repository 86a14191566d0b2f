-- The contracts of the public calls: `Opens` of an opening, `Does` of a value. Each says what holds of any session and any words, and then what holds of those that keep a paper, which is
-- what the induction over a run goes by.
use Rattle.std.specs.Prelude.{◌≡◌, List, ℕ, ℤ, length}
use Rattle.history.specs.Replies.{told}
use Rattle.runs.specs.Runs.{AsLent}
use Rattle.window.specs.declared.Window.{Window}
use Rattle.window.specs.Answers.{Answer}
use Rattle.window.specs.Windows.{Paper, opening, step, model}
use Rattle.window.specs.Promises.{AnyOpening, AnyValue}
use Rattle.window.specs.Keeping.{Sound, Represents}

-- the opening of a window of a width, on the words `before`
pub record Opens (width : ℕ) (before after : List ℕ) (r : Answer) : Type 0 where
  pub any : AnyOpening width before after r.session (told r.reply)
  pub tells : told r.reply ≡ (opening (length before) width).tells
  pub represents : Represents (opening (length before) width).paper before r.session after
  pub rest : AsLent (model.bound (opening (length before) width).paper) before after

-- a value on the session s and the words `before`: where these are those of a paper p, the reply is the paper's, and the session and the words are then those of the paper after the step
pub record Does (s : Window) (v : ℤ) (before after : List ℕ) (r : Answer) : Type 0 where
  pub any : AnyValue s before after r.session (told r.reply)
  pub tells : (p : Paper) (first : List ℕ) → Sound p → Represents p first s before → told r.reply ≡ (step p (length before) v).tells
  pub represents : (p : Paper) (first : List ℕ) → Sound p → Represents p first s before → Represents (step p (length before) v).paper first r.session after
