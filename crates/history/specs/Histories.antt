-- Histories of commands: document 01, "The bookkeeper of demand 3", who is told lengths and commands, and nothing of the engine's.
use Rattle.std.specs.Prelude.{Bool, false, cond, ◌||◌, List, [], ◌∷◌, ◌++◌, ℕ, ◌+◌, ◌*◌, ◌-◌, ◌/◌, min, max, ℤ, ltb, eqb, length}
use Rattle.runs.specs.Runs.{Model}
use Rattle.history.specs.declared.Position.{Position}
use Rattle.history.specs.declared.Standing.{Standing}
use Rattle.history.specs.declared.Session.{Session}
use Rattle.history.specs.declared.Command.{Command}
use Rattle.history.specs.Minima.{present_at, last_of, minimum}
use Rattle.history.specs.Standings.{event_of, transition_of}
use Rattle.history.specs.Replies.{Told, numbered, accepted, showing, refusal}

-- "On the paper stand N, K, the values in order, the active taps, the standing and l."
-- `words` is N, `limit` is K, and `peak` is l; the values stand in the order of their positions, the active marks (document 01's "active taps") in
-- ascending order
pub record History : Type 0 where
  pub words : ℕ
  pub limit : ℕ
  pub values : List ℤ
  pub active : List Position
  pub standing : Standing
  pub peak : ℕ

-- "The present position is how many values stand there"
abbrev pub present_of : History → Position
present_of h = present_at h.values

-- what demand 3 compares: "N, K, present position, last value, number of active taps and standing"
abbrev pub session_of : History → Session
session_of h = record {
  words = h.words;
  limit = h.limit;
  present = present_of h;
  last = last_of h.values;
  active = length h.active;
  standing = h.standing;
}

-- the history after an opening or a command, and what it is told
pub record Stepped : Type 0 where
  pub history : History
  pub tells : Told

-- "The number of taps opened is K = (N − 512) / 64 rounded down, and at most 4,096."
abbrev pub limit_of : ℕ → ℕ
limit_of n = min ((n - 512) / 64) 4096

-- "Opening: no values, no taps, standing none, l = 0."
abbrev pub blank : ℕ → ℕ → History
blank n k = record { words = n; limit = k; values = []; active = []; standing = Standing.None; peak = 0 }

-- "Below 576: reply 1, and N and K are 0. Otherwise: reply 0, N is the length told, and K follows from it as above."
abbrev pub opening : ℕ → Stepped
opening n = cond (ltb n 576) (record { history = blank 0 0; tells = numbered 1 }) (record { history = blank n (limit_of n); tells = accepted })

-- whether a position is among those given
abbrev pub among : Position → List Position → Bool
among i [] = false
among i (a ∷ rest) = eqb i.0 a.0 || among i rest

-- those given, without a position
abbrev pub without : Position → List Position → List Position
without i [] = []
without i (a ∷ rest) = cond (eqb i.0 a.0) (without i rest) (a ∷ without i rest)

-- whether the command's position is an active mark
abbrev pub is_active : History → Command → Bool
is_active h (Command.Value v) = false
is_active h Command.Mark = false
is_active h (Command.Query i) = among i h.active
is_active h (Command.Close i) = among i h.active

-- the history after the command c, with these values, active marks and l. N and K stay, and the standing follows from the command
abbrev pub becomes : History → Command → List ℤ → List Position → ℕ → History
becomes h c values active peak = record {
  words = h.words;
  limit = h.limit;
  values = values;
  active = active;
  standing = (transition_of (event_of (present_of h) c) h.standing).after;
  peak = peak;
}

-- "Any other gets reply 0, as follows."
abbrev pub accept : History → Command → Stepped
-- "Value: it is written after the others; standing unmarked."
accept h (Command.Value v) = record { history = becomes h (Command.Value v) (h.values ++ (v ∷ [])) h.active h.peak; tells = accepted }
-- "Mark: the present position joins the taps; standing marked. l rises to the number of taps where that is more."
accept h Command.Mark = let joined : List Position = h.active ++ (present_of h ∷ []) in record { history = becomes h Command.Mark h.values joined (max h.peak (length joined)); tells = accepted }
-- "Query: the reply shows the dip, taken over the written values; the paper stays." And "The bookkeeper of the third demand writes the earliest place from here" (document 02, point 5)
accept h (Command.Query i) = record { history = h; tells = showing (minimum h.values i) }
-- "Close: its position is struck from the taps. If it is the present position, standing is closed."
accept h (Command.Close i) = record { history = becomes h (Command.Close i) h.values (without i h.active) h.peak; tells = accepted }

-- the refusal that applies to a command lent n words; 0: none
abbrev pub refusal_of : History → ℕ → Command → ℕ
refusal_of h n c = refusal (session_of h) n (is_active h c) c

-- "A command to which a refusal above applies .. gets the first such number in checking order, and the paper stays."
abbrev pub step : History → ℕ → Command → Stepped
step h n c = cond (eqb (refusal_of h n c) 0) (accept h c) (record { history = h; tells = numbered (refusal_of h n c) })

-- the bookkeeper of demand 3, as a model that runs are held to: "every word from index 512 + 64 × l on is still as it was lent"
abbrev pub model : Model
model = record {
  Command = Command;
  Told = Told;
  Session = Session;
  State = History;
  step = λ h n c. (step h n c).history;
  tells = λ h n c. (step h n c).tells;
  session_of = λ h. session_of h;
  words = λ h. h.words;
  bound = λ h. 512 + 64 * h.peak;
}
