-- The present position's standing by section 2 of source document 000, sentence by sentence in that order: "we can keep a state variable t that is associated with the current position j". The standing is t; where
-- the sequence "is invalid", a refusal is due, and the standing stays, as document 01 has it: "In each refusal the session comes back equal". Nothing due means none of 7, 8 and 9: 4 to 6, 10 and 11 are no matter of
-- the standing. The last five lines are document 01's, since section 2 has no t before the first Value, and does not say that other commands leave it. The promises of the engine's calls cite
-- `Standings.transition_of`, which follows document 01 alone; that the two definitions are equal is the law `as_document_01` of proofs/StateVariable.
use Rattle.history.specs.declared.Standing.{Standing}
use Rattle.history.specs.declared.Refusal.{Refusal}
use Rattle.history.specs.declared.Event.{Event}
use Rattle.history.specs.declared.Transition.{Transition}
use Rattle.history.specs.Standings.{allowing, refusing}

-- Document 02, point 4: "One definition in that order says, for every standing and step, which of 7, 8, 9 or none is due and the standing after acceptance". A step is an `Event`
abbrev pub by_section_2 : Event → Standing → Transition
-- "Every time a Value command is issued this variable is set to the unmarked state, because the value of j changes."
by_section_2 Event.Value Standing.None = allowing Standing.Unmarked
by_section_2 Event.Value Standing.Unmarked = allowing Standing.Unmarked
by_section_2 Event.Value Standing.Marked = allowing Standing.Unmarked
by_section_2 Event.Value Standing.Closed = allowing Standing.Unmarked
-- "If a Mark command is processed when t is in this state then the sequence is valid, and t is set to marked."
by_section_2 Event.Mark Standing.Unmarked = allowing Standing.Marked
-- "If t was already in the marked state then the sequence is invalid.": 8
by_section_2 Event.Mark Standing.Marked = refusing Refusal.AlreadyMarked Standing.Marked
-- "If the Close command is called with i = j this variable changes to the closed state." In a history only a marked position has a Close accepted; any other gets 11
by_section_2 Event.CloseOfPresent Standing.None = allowing Standing.Closed
by_section_2 Event.CloseOfPresent Standing.Unmarked = allowing Standing.Closed
by_section_2 Event.CloseOfPresent Standing.Marked = allowing Standing.Closed
by_section_2 Event.CloseOfPresent Standing.Closed = allowing Standing.Closed
-- "Hence if a Mark command is issued when j is in the closed state the sequence is also invalid.": 9
by_section_2 Event.Mark Standing.Closed = refusing Refusal.AlreadyClosed Standing.Closed
-- document 01: "Standing is none before the first Value"; 7: "Mark, when the standing is none."
by_section_2 Event.Mark Standing.None = refusing Refusal.NothingToMark Standing.None
-- any other command, a Query or a Close of another position. Document 01: "Query: the reply shows the dip, taken over the written values; the paper stays.", and "Close: its position is struck from the taps. If it
-- is the present position, standing is closed.", and not otherwise
by_section_2 Event.Other Standing.None = allowing Standing.None
by_section_2 Event.Other Standing.Unmarked = allowing Standing.Unmarked
by_section_2 Event.Other Standing.Marked = allowing Standing.Marked
by_section_2 Event.Other Standing.Closed = allowing Standing.Closed
