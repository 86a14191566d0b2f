-- POINT 5, "First dip, not last", of the engine, after any run, and its two examples, of every run of their commands. "The window and stored takes follow the same rule": `Window.shown_earliest`,
-- `Takes.found_earliest` and `found_only`, and in C `TakesInC.Shows.earliest`.
use mathlib.Core.Path.{◌≡◌, sym, ◌∙◌}
use mathlib.Core.Bool.{true, false}
use mathlib.Core.List.{List, [], ◌∷◌}
use Rattle.std.specs.Prelude.{Some}
use Prim.Native.Nat.{ℕ, ◌+◌, ◌*◌, ◌<◌, ◌≤◌}
use lib.IntN.{pos}
use lib.ListN.{length, get_or}
use lib.Signed.{le_z}
use Rattle.history.specs.declared.Position.{Position}
use Rattle.history.specs.Minimum.{Minimum}
use Rattle.history.specs.declared.Session.{Session}
use Rattle.history.specs.declared.Command.TheVariants.{Value, Mark, Query}
use Rattle.engine.specs.Answers.{Answer}
use Rattle.history.specs.Minima.{stands_at, value_at, Least}
use Rattle.history.specs.Replies.{accepted, showing, told}
use Rattle.history.specs.Histories.{History, opening, step, model}
use Rattle.runs.specs.Runs.{Call, Made}
use Rattle.runs.specs.Lists.{commands_of, told_to, AllLent}
use Rattle.engine.specs.Demand.{Answered}
use Rattle.engine.specs.Consequences.{Reached, Replied}
use Rattle.engine.proofs.Tied.{Opened, Called}
use Rattle.engine.proofs.Plain.{every_run}
use Rattle.engine.proofs.Examples.{examples_given}
use Rattle.requests.proofs.EarliestSteps as steps

-- WHEREVER A RUN HAS COME TO
module _ (first words : List ℕ) (h : History) (s : Session) (run : Reached Opened Called first s words h) where
  -- "with the bound on touched words still in force"
  pub bound_in_force : (i : ℕ) → 512 + 64 * h.peak ≤ i → get_or words i 0 ≡ get_or first i 0
  bound_in_force = (every_run.stands first words h s run).rest

  -- what a Query of i is told, lent the opening's words or others
  module _ (i : Position) (lent left : List ℕ) (a : Answer) (own : (h.words ≡ 0 → ⊥) → length lent ≡ h.words → lent ≡ words) (call : Called s (Query i) lent left a) where
    replied : Replied h (Query i) lent left (told a.reply)
    replied = steps.replied first words h s run i lent left a own call

    -- whatever is shown
    module _ (m : Minimum) (shows : (told a.reply).shown ≡ Some m) where
      least : Least h.values i m
      least = steps.least first words h s run i lent left a own call m shows

      -- "The bookkeeper of the third demand writes the earliest place from here": what is shown is what the history's step shows
      pub history_shows : (step h (length lent) (Query i)).tells.shown ≡ Some m
      history_shows = sym (steps.replied first words h s run i lent left a own call).shown ∙ shows

      -- "Among equal least values the place is the earliest at or after the tap." It stands from the mark to the present, no value there is lower, and each earlier one there is higher
      pub at_or_after : (i.0 ≤ m.place.0) × (m.place.0 ≤ length h.values)
      at_or_after = let least = steps.least first words h s run i lent left a own call m shows in (least.from, least.to)

      pub stands_there : value_at h.values m.place ≡ m.value
      stands_there = (steps.least first words h s run i lent left a own call m shows).stands

      pub none_lower : (k : Position) → i.0 ≤ k.0 → k.0 ≤ length h.values → le_z m.value (value_at h.values k) ≡ true
      none_lower = (steps.least first words h s run i lent left a own call m shows).least

      pub earlier_higher : (k : Position) → i.0 ≤ k.0 → k.0 < m.place.0 → le_z (value_at h.values k) m.value ≡ false
      earlier_higher = (steps.least first words h s run i lent left a own call m shows).earliest

abbrev at : ℕ → Position
at n = record { 0 = n }

-- "V 5, M, V 5, Q 1 becomes 5 at 1."
first_not_last : (first left : List ℕ) (o : Answer) (calls : List (Call model)) → length first ≡ 576 → Opened first left o
    → Made model (Answered Called) (opening (length first)).history.words o.session left calls
    → commands_of model calls ≡ Value (pos 5) ∷ Mark ∷ Value (pos 5) ∷ Query (at 1) ∷ [] → AllLent model 576 calls
    → told_to model calls ≡ accepted ∷ accepted ∷ accepted ∷ showing (stands_at (pos 5) (at 1)) ∷ []
first_not_last first left o calls n q m cs l = (examples_given.1.1.1.1.1.1.1.1.1.0 first left o calls n q m cs l).tells

-- "Two taps with one dip value may now have different places: V 5, M, V 5, M, then Q 1 gives place 1 and Q 2 gives place 2 (K = 2)."
two_places : (first left : List ℕ) (o : Answer) (calls : List (Call model)) → length first ≡ 640 → Opened first left o
    → Made model (Answered Called) (opening (length first)).history.words o.session left calls
    → commands_of model calls ≡ Value (pos 5) ∷ Mark ∷ Value (pos 5) ∷ Mark ∷ Query (at 1) ∷ Query (at 2) ∷ [] → AllLent model 640 calls
    → (o.session.limit ≡ 2)
    × (told_to model calls ≡ accepted ∷ accepted ∷ accepted ∷ accepted ∷ showing (stands_at (pos 5) (at 1)) ∷ showing (stands_at (pos 5) (at 2)) ∷ [])
two_places first left o calls n q m cs l = let g = examples_given.1.1.1.1.1.1.1.1.1.1.0 first left o calls n q m cs l in (g.limit, g.tells)
