-- The session that an acceptance returns, from any session that went in. That it is the session of the history that follows is the law `session_follows` of proofs/Following.
use Rattle.std.specs.Prelude.{ℕ, ℤ}
use Rattle.history.specs.declared.Position.{Position}
use Rattle.history.specs.declared.Session.{Session}
use Rattle.history.specs.declared.Command.{Command}
use Rattle.history.specs.declared.Command.TheVariants.{Value, Mark, Query, Close}
use Rattle.history.specs.Minima.{next}
use Rattle.history.specs.Standings.{event_of, transition_of}

-- "the present position is the number of accepted Values"
abbrev pub present_after : Position → Command → Position
present_after p (Value v) = next p
present_after p Mark = p
present_after p (Query i) = p
present_after p (Close i) = p

-- the last value is the last accepted one
abbrev pub last_after : ℤ → Command → ℤ
last_after last (Value v) = v
last_after last Mark = last
last_after last (Query i) = last
last_after last (Close i) = last

-- a Query leaves the count of active marks; after another command it is `counted`, which is free for sessions and words that no call left
abbrev pub count_after : ℕ → Command → ℕ → ℕ
count_after active (Value v) counted = counted
count_after active Mark counted = counted
count_after active (Query i) counted = active
count_after active (Close i) counted = counted

-- N and K stay
abbrev pub session_after : Session → Command → ℕ → Session
session_after s c counted = record {
  words = s.words;
  limit = s.limit;
  present = present_after s.present c;
  last = last_after s.last c;
  active = count_after s.active c counted;
  standing = (transition_of (event_of s.present c) s.standing).after;
}
