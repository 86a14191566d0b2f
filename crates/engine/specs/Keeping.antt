-- When a session and the lent words are those of a history. How the words hold it is the ranges' affair, and nobody has to believe it.
use Rattle.std.specs.Prelude.{◌≡◌, List, ℕ, length}
use Rattle.history.specs.declared.Session.{Session}
use Rattle.history.specs.Histories.{History, session_of}
use Rattle.ranges.specs.Holding.{Holds}

-- the session is the history's, and so are words of the opened length, which were `first` just before its opening
pub record Represents (h : History) (first : List ℕ) (s : Session) (words : List ℕ) : Type 0 where
  pub session : s ≡ session_of h
  pub own : (h.words ≡ 0 → ⊥) → length words ≡ h.words → Holds h first words
