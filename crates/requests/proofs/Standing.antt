-- POINT 4 of document 02. The law that section 2's definition of the standing is document 01's is cited under its statement; each case is worked out in plain numbers, and told of the function as it stands in the
-- source; and what the promises of the engine's calls cite of the standing is section 2's.
use mathlib.Core.Path.{◌≡◌, refl, sym, ap, ◌∙◌}
use mathlib.Core.Bool.{Bool}
use mathlib.Core.List.{List, [], ◌∷◌, map}
use Prim.Native.Nat.{ℕ}
use lib.IntN.{ℤ}
use Rattle.history.specs.declared.Position.{Position}
use Rattle.history.specs.declared.Standing.{Standing}
use Rattle.history.specs.declared.Standing.TheVariants.{None, Unmarked, Marked, Closed}
use Rattle.history.specs.declared.Session.{Session}
use Rattle.history.specs.declared.Command.{Command}
use Rattle.history.specs.declared.Command.TheVariants.{Mark}
use Rattle.history.specs.declared.Event.{Event}
use Rattle.std.specs.Prelude.{Option}
use Rattle.history.specs.declared.Refusal.{Refusal}
use Rattle.history.specs.declared.Transition.{Transition}
use Rattle.history.specs.Standings.{event_of, transition_of}
use Rattle.history.specs.StateVariable.{by_section_2}
use Rattle.history.specs.Replies.{number_of, mark_refusal, own_refusal}
use Rattle.history.specs.Histories.{History, present_of, becomes}
use Rattle.history.specs.Sessions.{session_after}
use Rattle.history.proofs.StateVariable as law
use Rattle.history.proofs.transition_of.Reads as reads

as_document_01 : (event : Event) (standing : Standing) → by_section_2 event standing ≡ transition_of event standing
as_document_01 = law.as_document_01

-- "which of 7, 8, 9 or none is due and the standing after acceptance": a number, 0 for none, and a standing
abbrev numbered : Transition → ℕ × Standing
numbered t = (number t.due, t.after)
  where
    number : Option Refusal → ℕ
    number Option.None = 0
    number (Option.Some why) = number_of why

-- of an event, at none, unmarked, marked and closed
abbrev row : Event → List (ℕ × Standing)
row event = map (λ (standing : Standing). numbered (by_section_2 event standing)) (None ∷ Unmarked ∷ Marked ∷ Closed ∷ [])

-- "Value resets"
value_row : row Event.Value ≡ (0, Unmarked) ∷ (0, Unmarked) ∷ (0, Unmarked) ∷ (0, Unmarked) ∷ []
value_row = refl

-- "Mark tests marked", and the closed test
mark_row : row Event.Mark ≡ (7, None) ∷ (0, Marked) ∷ (8, Marked) ∷ (9, Closed) ∷ []
mark_row = refl

-- "Close of the present position"
close_row : row Event.CloseOfPresent ≡ (0, Closed) ∷ (0, Closed) ∷ (0, Closed) ∷ (0, Closed) ∷ []
close_row = refl

-- any other command
other_row : row Event.Other ≡ (0, None) ∷ (0, Unmarked) ∷ (0, Marked) ∷ (0, Closed) ∷ []
other_row = refl

-- "the code is shown equal to it": what `transition_of` tells of an event and a standing is the definition's transition, and it asks for nothing
code_is_definition : (event : Event) (standing : Standing) (r : Transition) → reads.Learnt tt (event, (standing, tt)) r (event, (standing, tt)) → r ≡ by_section_2 event standing
code_is_definition event standing r t = t ∙ sym (law.as_document_01 event standing)

asks_nothing : (event : Event) (standing : Standing) → reads.Asked tt (event, (standing, tt))
asks_nothing event standing = tt

-- what the promises cite: the paper's standing, the session's on any input, and what is due to a Mark
paper_standing : (h : History) (c : Command) (values : List ℤ) (active : List Position) (peak : ℕ) → (becomes h c values active peak).standing ≡ (by_section_2 (event_of (present_of h) c) h.standing).after
paper_standing h c values active peak = ap (λ (t : Transition). t.after) (sym (law.as_document_01 (event_of (present_of h) c) h.standing))

session_standing : (s : Session) (c : Command) (counted : ℕ) → (session_after s c counted).standing ≡ (by_section_2 (event_of s.present c) s.standing).after
session_standing s c counted = ap (λ (t : Transition). t.after) (sym (law.as_document_01 (event_of s.present c) s.standing))

mark_due : (s : Session) (active : Bool) → own_refusal s active Mark ≡ mark_refusal s (by_section_2 Event.Mark s.standing).due
mark_due s active = ap (λ (t : Transition). mark_refusal s t.due) (sym (law.as_document_01 Event.Mark s.standing))
