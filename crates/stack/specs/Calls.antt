-- What each function of the stack promises, of any words, any height and any place.
use Rattle.std.specs.Prelude.{◌≡◌, List, ℕ, Option, None, Some, ◌+◌}
use Rattle.layout.specs.declared.Held.{Held}
use Rattle.layout.specs.declared.Place.{Place}
use Rattle.layout.specs.declared.Lane.{Lane}
use Rattle.layout.specs.Words.{Lower, NotHigher, Under, NotAbove, above, bottom, least_word, first, Room}
use Rattle.stack.specs.Entries.{Ascending, Stacked, Rests, Parts, lowered, pushed}

-- the word x comes. With no room for so high a stack nothing is done. Else there is a place, at most the height: at the height nothing is done, and below it the entry there is x
-- from then on, and the top. In ascending words it parts those that stay from those above x; of others the choice is the program's
pub record Lowered (w v : List ℕ) (k : Lane) (height : Place) (x : ℕ) (r : Place) : Type 0 where
  pub idle : (Room w height.0 → ⊥) → (v ≡ w) × (r ≡ height)
  pub at : Place
  pub within : NotAbove at height
  pub none : NotAbove height at → (v ≡ w) × (r ≡ height)
  pub some : Room w height.0 → Under at height → (v ≡ lowered w k at x) × (r ≡ above at)
  pub right : Ascending w k height → Room w height.0 → Parts w k height x at

-- row h, which no run has yet, gets the word x: it joins the top's run where the top has that word, and else it gets an entry of its own on top. With no room for
-- one nothing is done
pub record Pushed (w v : List ℕ) (k : Lane) (height : Place) (h : Held) (x : ℕ) (r : Place) : Type 0 where
  pub idle : (Room w (height.0 + 1) → ⊥) → (v ≡ w) × (r ≡ height)
  pub joins : (t : Place) → above t ≡ height → least_word w k t ≡ x → (v ≡ w) × (r ≡ height)
  pub raises : Room w (height.0 + 1) → ((t : Place) → above t ≡ height → least_word w k t ≡ x → ⊥) → (v ≡ pushed w k height h x) × (r ≡ above height)

-- the entry at place t; with no such entry, or no room for so high a stack, nothing
pub record Entered (w : List ℕ) (k : Lane) (height t : Place) (r : Option ℕ) : Type 0 where
  pub shown : Room w height.0 → Under t height → r ≡ Some (least_word w k t)
  pub nothing : (Room w height.0 → Under t height → ⊥) → r ≡ None

-- the run after place t, where it starts at row h or below, and else the run at t; with no room for so high a stack, that at t
pub record Advanced (w : List ℕ) (k : Lane) (height t : Place) (h : Held) (r : Place) : Type 0 where
  pub moves : Room w height.0 → Under (above t) height → NotHigher (first w k (above t)) h → r ≡ above t
  pub stays : (Room w height.0 → Under (above t) height → NotHigher (first w k (above t)) h → ⊥) → r ≡ t

-- the word that the stack has for row h. Of any words, what is shown is an entry of the stack, and with no room for so high a stack, or no entry, nothing: which entry is
-- the program's choice, and in a stack it is the row's own
pub record Looked (w : List ℕ) (k : Lane) (height : Place) (h : Held) (r : Option ℕ) : Type 0 where
  pub nothing : (Room w height.0 → Under bottom height → ⊥) → r ≡ None
  pub shown : Room w height.0 → Under bottom height → (t : Place) × Under t height × (r ≡ Some (least_word w k t))
  pub right : (rows : Held) → Room w rows.0 → Stacked w k rows height → Lower h rows → (x : ℕ) → Rests w k height h x → r ≡ Some x
