-- What section 2 of source document 000 says of the standing, with what document 01 adds to it, is what document 01 says by itself: of each event, at each standing, the same is due and the same standing follows.
use mathlib.Core.Path.{◌≡◌, refl}
use Rattle.history.specs.declared.Standing.{Standing}
use Rattle.history.specs.declared.Event.{Event}
use Rattle.history.specs.Standings.{transition_of}
use Rattle.history.specs.StateVariable.{by_section_2}

-- THE TWO DEFINITIONS ARE EQUAL
pub as_document_01 : (event : Event) (standing : Standing) → by_section_2 event standing ≡ transition_of event standing
as_document_01 Event.Value Standing.None = refl
as_document_01 Event.Value Standing.Unmarked = refl
as_document_01 Event.Value Standing.Marked = refl
as_document_01 Event.Value Standing.Closed = refl
as_document_01 Event.Mark Standing.None = refl
as_document_01 Event.Mark Standing.Unmarked = refl
as_document_01 Event.Mark Standing.Marked = refl
as_document_01 Event.Mark Standing.Closed = refl
as_document_01 Event.CloseOfPresent Standing.None = refl
as_document_01 Event.CloseOfPresent Standing.Unmarked = refl
as_document_01 Event.CloseOfPresent Standing.Marked = refl
as_document_01 Event.CloseOfPresent Standing.Closed = refl
as_document_01 Event.Other Standing.None = refl
as_document_01 Event.Other Standing.Unmarked = refl
as_document_01 Event.Other Standing.Marked = refl
as_document_01 Event.Other Standing.Closed = refl
