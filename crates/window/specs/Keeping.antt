-- When a session and the lent words are those of a window's paper. How the words keep it is the program's affair, and nobody has to believe it.
use Rattle.std.specs.Prelude.{◌≡◌, List, ℕ, ◌≤◌, length}
use Rattle.history.specs.Minima.{present_at}
use Rattle.runs.specs.Runs.{AsLent}
use Rattle.deque.specs.Words.{Holds}
use Rattle.window.specs.declared.Window.{Window}
use Rattle.window.specs.Windows.{Paper, session_of, oldest, model}

-- what holds of every paper that an opening and values lead to: an opened window has a width
pub record Sound (p : Paper) : Type 0 where
  pub some : (p.words ≡ 0 → ⊥) → 1 ≤ p.width

-- the words keep the paper p, and were `first` just before its opening
pub record Keeps (p : Paper) (first words : List ℕ) : Type 0 where
  pub holds : Holds words p.width p.values (oldest (present_at p.values) p.width)
  pub rest : AsLent (model.bound p) first words

-- the session is the paper's, and so are words of the opened length
pub record Represents (p : Paper) (first : List ℕ) (s : Window) (words : List ℕ) : Type 0 where
  pub session : s ≡ session_of p
  pub own : (p.words ≡ 0 → ⊥) → length words ≡ p.words → Keeps p first words
