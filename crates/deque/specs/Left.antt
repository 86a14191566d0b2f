-- What is left of a deque's entries when a value comes, by whether the front entry has to leave.
use Rattle.std.specs.Prelude.{◌≡◌, Bool, true, false, List, ◌⊎◌, ℕ, ◌+◌, ◌<◌, ◌≤◌, ℤ, leb, Option, Some, None}
use Rattle.history.specs.declared.Position.{Position}
use Rattle.history.specs.Minimum.{Minimum}
use Rattle.packing.specs.Packing.{place_in}
use Rattle.deque.specs.declared.Ring.{Ring}
use Rattle.deque.specs.Suffixes.{SuffixMinima}
use Rattle.deque.specs.Words.{entry_word, entry_at, Twice, Holds}
use Rattle.deque.specs.Calls.{SlotAfter, Comes}

-- whether the front entry has to leave: as many positions as there are slots have come since its own
abbrev pub gone : List ℕ → (slots front : ℕ) → Position → Bool
gone w slots front place = leb ((place_in (entry_word w front 0)).0 + slots) place.0

-- `without_gone`: all stay, or the front entry is gone, and the next one is the front, in the slot behind it; nothing is left where it is the only one
pub record Rest (w : List ℕ) (slots front count : ℕ) (place : Position) (r : Option Ring) : Type 0 where
  pub none : r ≡ None → (gone w slots front place ≡ true) × (count ≤ 1)
  pub some : (rest : Ring) → r ≡ Some rest → (rest.slots ≡ slots)
      × (((gone w slots front place ≡ true) × (rest.count + 1 ≡ count) × SlotAfter slots front rest.front)
      ⊎ ((gone w slots front place ≡ false) × (rest.front ≡ front) × (rest.count ≡ count)))

-- what is left of the suffix minima, from a front on, once those before the oldest position have left
pub record Stayed (w : List ℕ) (slots : ℕ) (values : List ℤ) (oldest : Position) (front count : ℕ) : Type 0 where
  pub slot : front < slots
  pub holds : SuffixMinima values oldest count (entry_at w front)
  pub twice : Twice w slots front count

-- no suffix minima are left
abbrev pub NoneStayed : List ℤ → Position → Type 0
NoneStayed values oldest = (entry : ℕ → Minimum) × SuffixMinima values oldest 0 entry

-- `left`: where the words hold suffix minima, those that are left when a value comes
pub record Left (w : List ℕ) (slots : ℕ) (place : Position) (r : Option Ring) : Type 0 where
  pub none : r ≡ None → (values : List ℤ) (i oldest : Position) → Holds w slots values i → Comes values i oldest slots place → NoneStayed values oldest
  pub some : (rest : Ring) → r ≡ Some rest → (rest.slots ≡ slots) × (rest.count < slots)
      × ((values : List ℤ) (i oldest : Position) → Holds w slots values i → Comes values i oldest slots place → Stayed w slots values oldest rest.front rest.count)
