-- What each function of the ranges promises: of any words, and of those that hold a history.
use Rattle.std.specs.Prelude.{◌≡◌, Bool, true, false, cond, List, ℕ, Option, None, Some, ◌<◌, ◌≤◌, ℤ, length, get_or}
use Rattle.history.specs.declared.Position.{Position}
use Rattle.history.specs.Minimum.{Minimum}
use Rattle.history.specs.declared.Command.TheVariants.{Value, Mark, Close}
use Rattle.history.specs.declared.Standing.TheVariants.{Unmarked}
use Rattle.history.specs.Minima.{stands_at, next, last_of, minimum}
use Rattle.history.specs.Histories.{History, present_of, opening, accept, among}
use Rattle.history.specs.Sound.{Sound}
use Rattle.layout.specs.declared.Held.{Held}
use Rattle.layout.specs.declared.Place.{Place}
use Rattle.layout.specs.declared.Role.{Role}
use Rattle.layout.specs.declared.Role.TheVariants.{Active}
use Rattle.layout.specs.Words.{Under, extent_of, least_word, Room}
use Rattle.table.specs.Marks.{Live}
use Rattle.packing.specs.Packing.{unpacked}
use Rattle.ranges.specs.Holding.{Holds}

-- what every call has in common, whatever the words hold: as many words, and from 262,656 on, which is where those of 4,096 marks end, each as it was
pub record Inside (w v : List ℕ) : Type 0 where
  pub long : length v ≡ length w
  pub beyond : (i : ℕ) → 262656 ≤ i → get_or v i 0 ≡ get_or w i 0

-- the words are opened: they hold an opening's history; with fewer than 576 nothing is done
pub record Opened (w v : List ℕ) : Type 0 where
  pub inside : Inside w v
  pub short : length w < 576 → v ≡ w
  pub holds : 576 ≤ length w → Holds (opening (length w)).history w v

-- a value comes, at the position that m stands at; with fewer than 32 words, or a header whose active lane's stack does not fit the words, nothing is done. What is written in other words
-- that hold no history is the program's choice, and `inside` is what every choice has in common
pub record Valued (w v : List ℕ) (m : Minimum) : Type 0 where
  pub inside : Inside w v
  pub short : length w < 32 → v ≡ w
  pub unfit : (Room w (extent_of w Active).height.0 → ⊥) → v ≡ w
  pub holds : (h : History) (first : List ℕ) → Holds h first w → (x : ℤ) → m ≡ stands_at x (next (present_of h)) → length h.values < 4294967295
      → Holds (accept h (Value x)).history first v

-- a mark joins the others, of which so many are active, at position p with the minimum m; with fewer than 32 words nothing is done. What is written in words that hold no history
-- is the program's choice, and `inside` is what every choice has in common
pub record Marked (w v : List ℕ) (active : ℕ) (p : Position) (m : Minimum) : Type 0 where
  pub inside : Inside w v
  pub short : length w < 32 → v ≡ w
  pub holds : (h : History) (first : List ℕ) → Sound h → Holds h first w → h.standing ≡ Unmarked → length h.active ≡ active → active < h.limit → length w ≡ h.words
      → p ≡ present_of h → m ≡ stands_at (last_of h.values) p → Holds (accept h Mark).history first v

-- of any words: there is an active mark at position p, in some lane
abbrev pub MarkedAt : List ℕ → Position → Type 0
MarkedAt w p = (role : Role) × (g : Held) × Live w (extent_of w role).lane (extent_of w role).rows p g

-- of any words: m is an entry of some lane's stack
abbrev pub EntryOf : List ℕ → Minimum → Type 0
EntryOf w m = (role : Role) × (t : Place) × Under t (extent_of w role).height × (m ≡ unpacked (least_word w (extent_of w role).lane t))

-- the range minimum of the active mark at position p is looked up. What is shown of words that hold no history is the program's choice, and `live` and `shown` are what every choice
-- has in common: there is an active mark at p, and what is shown is an entry of a stack
pub record LookedUp (w : List ℕ) (p : Position) (r : Option Minimum) : Type 0 where
  pub live : (m : Minimum) → r ≡ Some m → MarkedAt w p
  pub shown : (m : Minimum) → r ≡ Some m → EntryOf w m
  pub holds : (h : History) (first : List ℕ) → Holds h first w → r ≡ cond (among p h.active) (Some (minimum h.values p)) None

-- the active mark at position p is closed, if there is one; where none is found nothing is done. Which row's mark is closed in words that hold no history is the program's choice, and `inside`,
-- `none` and `live` are what every choice has in common
pub record Closed (w v : List ℕ) (p : Position) (r : Bool) : Type 0 where
  pub inside : Inside w v
  pub none : r ≡ false → v ≡ w
  pub live : r ≡ true → MarkedAt w p
  pub found : (h : History) (first : List ℕ) → Holds h first w → r ≡ among p h.active
  pub holds : (h : History) (first : List ℕ) → Holds h first w → r ≡ true → Holds (accept h (Close p)).history first v
