-- The contracts of the public calls: `Opens` of an opening, `Does` of a command. Each says what holds of any session and any words, and then what holds of those that keep a
-- history, which is what the induction over a run goes by.
use Rattle.std.specs.Prelude.{◌≡◌, List, ℕ, ◌<◌, length}
use Rattle.history.specs.declared.Session.{Session}
use Rattle.history.specs.declared.Command.{Command}
use Rattle.engine.specs.Answers.{Answer}
use Rattle.history.specs.Replies.{told}
use Rattle.history.specs.Histories.{History, step, opening}
use Rattle.history.specs.Sound.{Sound}
use Rattle.runs.specs.Runs.{AsLent}
use Rattle.engine.specs.Promises.{Settled}
use Rattle.engine.specs.Keeping.{Represents}

-- the opening of the words `before`
pub record Opens (before after : List ℕ) (r : Answer) : Type 0 where
  pub long : length after ≡ length before
  pub tells : told r.reply ≡ (opening (length before)).tells
  pub represents : Represents (opening (length before)).history before r.session after
  -- "it may write only words 0 to 511"; a refusal writes none
  pub rest : AsLent 512 before after
  pub refused : length before < 576 → after ≡ before

-- a command on the session s and the words `before`: on any of them as `Settled` says, and on those of a history as the bookkeeper does,
-- with a session and words of the history that follows
pub record Does (s : Session) (c : Command) (before after : List ℕ) (r : Answer) : Type 0 where
  pub long : length after ≡ length before
  pub settled : Settled c s before after r.session (told r.reply)
  pub tells : (h : History) (first : List ℕ) → Sound h → Represents h first s before → told r.reply ≡ (step h (length before) c).tells
  pub represents : (h : History) (first : List ℕ) → Sound h → Represents h first s before
      → Represents (step h (length before) c).history first r.session after
