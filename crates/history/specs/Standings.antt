-- The present position's standing: what is due of 7 to 9, and what the standing is after an acceptance.
use Rattle.std.specs.Prelude.{cond, eqb, None, Some}
use Rattle.history.specs.declared.Position.{Position}
use Rattle.history.specs.declared.Standing.{Standing}
use Rattle.history.specs.declared.Command.{Command}
use Rattle.history.specs.declared.Refusal.{Refusal}
use Rattle.history.specs.declared.Event.{Event}
use Rattle.history.specs.declared.Transition.{Transition}

-- what a command is to the standing: a Close of the present position is one thing, and a Close of another position is another
abbrev pub event_of : Position → Command → Event
event_of present (Command.Value v) = Event.Value
event_of present Command.Mark = Event.Mark
event_of present (Command.Query i) = Event.Other
event_of present (Command.Close i) = cond (eqb i.0 present.0) Event.CloseOfPresent Event.Other

-- nothing is due, and after the acceptance the standing is this
abbrev pub allowing : Standing → Transition
allowing after = record { due = None; after = after }

-- a refusal is due, and the standing stays
abbrev pub refusing : Refusal → Standing → Transition
refusing why standing = record { due = Some why; after = standing }

-- "unmarked after each accepted Value, marked after an accepted Mark, closed after a Close of the present position"; no other command alters it.
-- 7: "Mark, when the standing is none", 8: "Mark, when the standing is marked", 9: "Mark, when the standing is closed"
abbrev pub transition_of : Event → Standing → Transition
transition_of Event.Value standing = allowing Standing.Unmarked
transition_of Event.Mark Standing.None = refusing Refusal.NothingToMark Standing.None
transition_of Event.Mark Standing.Unmarked = allowing Standing.Marked
transition_of Event.Mark Standing.Marked = refusing Refusal.AlreadyMarked Standing.Marked
transition_of Event.Mark Standing.Closed = refusing Refusal.AlreadyClosed Standing.Closed
transition_of Event.CloseOfPresent standing = allowing Standing.Closed
transition_of Event.Other standing = allowing standing
