-- What each of the lent words is for. Document 01 leaves "the arrangement of words inside the area" to the engine.
use Rattle.std.specs.Prelude.{List, [], ◌∷◌, ℕ, ◌+◌, ◌*◌, ◌/◌, ◌%◌, ◌<◌, ◌≤◌, length, get_or, set}
use Rattle.history.specs.declared.Position.{Position}
use Rattle.layout.specs.declared.Held.{Held}
use Rattle.layout.specs.declared.Place.{Place}
use Rattle.layout.specs.declared.Lane.{Lane}
use Rattle.layout.specs.declared.Role.{Role}
use Rattle.layout.specs.declared.Role.TheVariants.{Active, Younger, Older, Next}
use Rattle.layout.specs.declared.Extent.{Extent}

-- THE KINDS AND THEIR ORDER: a position, a row or a place comes before another, or does not come after it
abbrev pub Earlier : Position → Position → Type 0
Earlier p q = p.0 < q.0

abbrev pub NotLater : Position → Position → Type 0
NotLater p q = p.0 ≤ q.0

abbrev pub Lower : Held → Held → Type 0
Lower g h = g.0 < h.0

abbrev pub NotHigher : Held → Held → Type 0
NotHigher g h = g.0 ≤ h.0

abbrev pub Under : Place → Place → Type 0
Under t u = t.0 < u.0

abbrev pub NotAbove : Place → Place → Type 0
NotAbove t u = t.0 ≤ u.0

-- the row after a row, and the place above a place
abbrev pub after : Held → Held
after h = record { 0 = h.0 + 1 }

abbrev pub above : Place → Place
above t = record { 0 = t.0 + 1 }

-- the first row, and the bottom of a stack: there are rows where the first one is lower than the number of rows, and entries where the bottom is under the height
abbrev pub row₀ : Held
row₀ = record { 0 = 0 }

abbrev pub bottom : Place
bottom = record { 0 = 0 }

-- THE HEADER: 8 words for each role
abbrev pub header_of : Role → ℕ
header_of Active = 0
header_of Younger = 8
header_of Older = 16
header_of Next = 24

abbrev pub extent_of : List ℕ → Role → Extent
extent_of w r = record {
  lane = record { 0 = get_or w (header_of r) 0 };
  rows = record { 0 = get_or w (header_of r + 1) 0 };
  capacity = record { 0 = get_or w (header_of r + 2) 0 };
  height = record { 0 = get_or w (header_of r + 3) 0 };
}

-- the position that a lane starts at
abbrev pub start_of : List ℕ → Role → Position
start_of w r = record { 0 = get_or w (header_of r + 4) 0 }

-- the next row of a lane that is carried into the next lane, and its run
abbrev pub left_of : List ℕ → Role → Held
left_of w r = record { 0 = get_or w (header_of r + 5) 0 }

abbrev pub run_of : List ℕ → Role → Place
run_of w r = record { 0 = get_or w (header_of r + 6) 0 }

-- a lane with no rows, and room for so many
abbrev pub emptied : Lane → Held → Extent
emptied k capacity = record { lane = k; rows = record { 0 = 0 }; capacity = capacity; height = record { 0 = 0 } }

-- no rows, and room for none
abbrev pub empty : Extent
empty = record { lane = record { 0 = 0 }; rows = record { 0 = 0 }; capacity = record { 0 = 0 }; height = record { 0 = 0 } }

-- some words are written, one after another
pub record Put : Type 0 where
  pub at : ℕ
  pub to : ℕ

abbrev pub puts : List Put → List ℕ → List ℕ
puts [] w = w
puts (p ∷ ps) w = puts ps (set w p.at p.to)

-- the words of a role that an extent has
abbrev pub extent_puts : Role → Extent → List Put
extent_puts r e =
    record { at = header_of r; to = e.lane.0 } ∷ record { at = header_of r + 1; to = e.rows.0 } ∷ record { at = header_of r + 2; to = e.capacity.0 } ∷ record { at = header_of r + 3; to = e.height.0 }
    ∷ []

-- those of its rows and of its stack's height alone
abbrev pub rows_puts : Role → Held → Place → List Put
rows_puts r rows height = record { at = header_of r + 1; to = rows.0 } ∷ record { at = header_of r + 3; to = height.0 } ∷ []

-- the word of where a role's lane starts, and those of the next row that is carried and its run
abbrev pub start_puts : Role → Position → List Put
start_puts r p = record { at = header_of r + 4; to = p.0 } ∷ []

abbrev pub left_puts : Role → Held → Place → List Put
left_puts r h t = record { at = header_of r + 5; to = h.0 } ∷ record { at = header_of r + 6; to = t.0 } ∷ []

-- THE LANES: where the words of a lane start, and word f of its row n
abbrev pub base_of : Lane → ℕ
base_of k = 32 + 8 * (k.0 % 4)

abbrev pub word : List ℕ → Lane → ℕ → ℕ → ℕ
word w k n f = get_or w (base_of k + 32 * n + f) 0

-- a mark's row: twice its position, and 1 more where it is active; and the next older row of its bucket. A link that does not lead to an older row leads nowhere
abbrev pub mark_word : List ℕ → Lane → Held → ℕ
mark_word w k h = word w k h.0 1

abbrev pub position : List ℕ → Lane → Held → Position
position w k h = record { 0 = mark_word w k h / 2 }

abbrev pub link : List ℕ → Lane → Held → Held
link w k h = record { 0 = word w k h.0 2 }

-- a stack entry: the least value and its place in one word, and the first row of its run
abbrev pub least_word : List ℕ → Lane → Place → ℕ
least_word w k t = word w k t.0 4

abbrev pub first : List ℕ → Lane → Place → Held
first w k t = record { 0 = word w k t.0 5 }

-- the youngest row of hash bucket b. Where none of its rows is in use, any
abbrev pub head : List ℕ → Lane → ℕ → Held
head w k b = record { 0 = word w k b 7 }

-- THE ENDS: there is room for n rows of each lane, which is also for n places and n buckets
pub record Room (w : List ℕ) (n : ℕ) : Type 0 where
  pub few : n ≤ 8207
  pub wide : 32 + 32 * n ≤ length w
