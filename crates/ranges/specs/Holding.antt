-- What it is for the lent words to hold a history. Source document 000, Lemma 7, has at most four structures: the active one, which alone gets marks and values; two that stand still; and
-- the one that these are merged into. Here each is a lane.
use Rattle.std.specs.Prelude.{◌≡◌, List, ◌++◌, ℕ, ◌+◌, ◌*◌, ◌≤◌, ℤ, length, take}
use Rattle.history.specs.declared.Position.{Position}
use Rattle.history.specs.declared.Standing.TheVariants.{Unmarked}
use Rattle.history.specs.Minima.{next, present_at, minimum}
use Rattle.history.specs.Histories.{History, present_of, model}
use Rattle.runs.specs.Runs.{AsLent}
use Rattle.layout.specs.declared.Held.{Held}
use Rattle.layout.specs.declared.Place.{Place}
use Rattle.layout.specs.declared.Lane.{Lane}
use Rattle.layout.specs.declared.Extent.{Extent}
use Rattle.layout.specs.declared.Role.TheVariants.{Active, Younger, Older, Next}
use Rattle.layout.specs.Words.{Earlier, NotLater, Lower, NotHigher, row₀, position, extent_of, start_of, left_of, run_of}
use Rattle.layout.specs.Frames.{Other}
use Rattle.table.specs.Marks.{Linked, active_in, After}
use Rattle.packing.specs.Packing.{packed, Faithful}
use Rattle.stack.specs.Entries.{Stacked, Covers, Rests}

-- the position before the first, and the one after the present one
abbrev pub origin : Position
origin = record { 0 = 0 }

abbrev pub upcoming : List ℤ → Position
upcoming values = next (present_at values)

-- ONE LANE
-- row h of a lane has the values' range minimum for a mark at position p
pub record RowHolds (w : List ℕ) (k : Lane) (height : Place) (values : List ℤ) (h : Held) (p : Position) : Type 0 where
  pub after : Earlier origin p
  pub before : NotLater p (present_at values)
  pub rests : Rests w k height h (packed (minimum values p))
  pub faithful : Faithful (minimum values p)

-- a lane's rows are a table and a stack, and each has the values' range minimum: a lane that stands still has those of the values up to its end. Rows of closed marks stay, with
-- minima of their own
pub record LaneHolds (w : List ℕ) (e : Extent) (values : List ℤ) : Type 0 where
  pub linked : Linked w e.lane e.rows e.capacity
  pub stacked : Stacked w e.lane e.rows e.height
  pub row : (h : Held) → Lower h e.rows → RowHolds w e.lane e.height values h (position w e.lane h)

-- its positions are from one position on, and before another
abbrev pub Spans : List ℕ → Extent → Position → Position → Type 0
Spans w e from to = (h : Held) → Lower h e.rows → NotLater from (position w e.lane h) × Earlier (position w e.lane h) to

-- its active marks, and those of its rows before one
abbrev pub marks_in : List ℕ → Extent → List Position
marks_in w e = active_in w e.lane e.rows

abbrev pub marks_before : List ℕ → Extent → Held → List Position
marks_before w e h = active_in w e.lane h

-- THE FOUR LANES, as the header has them: their extents, the positions at which the active and the younger one start, and for each of the two that are merged the next row to be carried
-- and the run that has it
pub record Roles : Type 0 where
  pub active : Extent
  pub younger : Extent
  pub older : Extent
  pub next : Extent
  pub start : Position
  pub middle : Position
  pub younger_left : Held
  pub younger_run : Place
  pub older_left : Held
  pub older_run : Place

abbrev pub roles_of : List ℕ → Roles
roles_of w = record {
  active = extent_of w Active;
  younger = extent_of w Younger;
  older = extent_of w Older;
  next = extent_of w Next;
  start = start_of w Active;
  middle = start_of w Younger;
  younger_left = left_of w Younger;
  younger_run = run_of w Younger;
  older_left = left_of w Older;
  older_run = run_of w Older;
}

-- no lane has two roles
pub record Apart (s : Roles) : Type 0 where
  pub ay : Other s.active.lane s.younger.lane
  pub ao : Other s.active.lane s.older.lane
  pub an : Other s.active.lane s.next.lane
  pub yo : Other s.younger.lane s.older.lane
  pub yn : Other s.younger.lane s.next.lane
  pub on : Other s.older.lane s.next.lane

-- HOW FAR THE MERGE IS: the older lane's rows come first
pub record Merging (s : Roles) (w : List ℕ) : Type 0 where
  pub older_some : NotHigher s.older_left s.older.rows
  pub younger_some : NotHigher s.younger_left s.younger.rows
  pub in_order : Lower row₀ s.younger_left → NotHigher s.older.rows s.older_left
  -- the runs that have the next rows
  pub older_covers : Lower s.older_left s.older.rows → Covers w s.older.lane s.older.height s.older_run s.older_left
  pub younger_covers : Lower s.younger_left s.younger.rows → Covers w s.younger.lane s.younger.height s.younger_run s.younger_left
  -- the next lane has the active marks of the rows carried, and nothing after the rows that are left
  pub carried : marks_in w s.next ≡ marks_before w s.older s.older_left ++ marks_before w s.younger s.younger_left
  pub under : (p : Position) → After w s.older.lane s.older_left p → After w s.younger.lane s.younger_left p → After w s.next.lane s.next.rows p
  -- with a younger lane, the next one has a row to spare for each active mark that is left, and 17 and as many again
  pub spare : Lower row₀ s.younger.rows
      → 2 * (s.next.rows.0 + length (marks_in w s.older) + length (marks_in w s.younger)) + 17
      ≤ s.next.capacity.0 + 2 * (length (marks_before w s.older s.older_left) + length (marks_before w s.younger s.younger_left))

-- THE WORDS ARE LAID OUT for the values, with l marks at most: the older lane's marks are before `middle`, the younger one's before `start`, the active one's from there on
pub record Laid (s : Roles) (w : List ℕ) (values : List ℤ) (l : ℕ) : Type 0 where
  pub apart : Apart s
  pub active : LaneHolds w s.active values
  pub younger : LaneHolds w s.younger (take s.start.0 values)
  pub older : LaneHolds w s.older (take s.middle.0 values)
  pub next : LaneHolds w s.next (take s.start.0 values)
  pub order : NotLater s.middle s.start
  pub ends : NotLater s.start (present_at values)
  pub in_active : Spans w s.active s.start (upcoming values)
  pub in_younger : Spans w s.younger s.middle s.start
  pub in_older : Spans w s.older origin s.middle
  -- the younger lane's first mark is where it starts, where anything is older; with no younger lane, the older one ends where the active one starts
  pub middle_row : Earlier origin s.middle → Lower row₀ s.younger.rows → position w s.younger.lane row₀ ≡ s.middle
  pub whole : NotHigher s.younger.rows row₀ → s.middle ≡ s.start
  pub merging : Merging s w
  -- the active lane has room for a row, each lane ends below the bound, and the older one has rows for no more than were ever active
  pub roomy : Lower row₀ s.active.capacity
  pub active_below : s.active.capacity.0 ≤ 15 + 2 * l
  pub younger_below : s.younger.capacity.0 ≤ 15 + 2 * l
  pub older_below : s.older.capacity.0 ≤ 15 + 2 * l
  pub next_below : s.next.capacity.0 ≤ 15 + 2 * l
  pub older_few : s.older.rows.0 ≤ l

-- the active lane's first mark is where it starts, where anything is older
abbrev pub Started : Roles → List ℕ → Type 0
Started s w = Earlier origin s.start → Lower row₀ s.active.rows × (position w s.active.lane row₀ ≡ s.start)

-- as long as there is a younger lane, a row of it is left
abbrev pub Unfinished : Roles → Type 0
Unfinished s = Lower row₀ s.younger.rows → Lower s.younger_left s.younger.rows

-- Lemma 7: the merge "is terminated by the time that at most (a₁ + a₂) / 2 commands are processed". No more than two rows are left for each mark that the active lane has room for, and `more`
abbrev pub Soon : Roles → ℕ → Type 0
Soon s more = Lower row₀ s.younger.rows → s.older.rows.0 + s.younger.rows.0 + 2 * s.active.rows.0 ≤ 2 * s.active.capacity.0 + s.older_left.0 + s.younger_left.0 + more

-- THE WORDS HOLD THE HISTORY h, and were `first` just before its opening
pub record Holds (h : History) (first words : List ℕ) : Type 0 where
  pub short : length h.values ≤ 4294967295
  pub laid : Laid (roles_of words) words h.values h.peak
  pub started : Started (roles_of words) words
  pub unfinished : Unfinished (roles_of words)
  pub soon : Soon (roles_of words) 0
  pub marks : marks_in words (extent_of words Older) ++ (marks_in words (extent_of words Younger) ++ marks_in words (extent_of words Active)) ≡ h.active
  -- where the present position is unmarked, it comes after every row's of the active lane, those of closed marks too
  pub fresh : h.standing ≡ Unmarked → After words (extent_of words Active).lane (extent_of words Active).rows (present_of h)
  -- what lies beyond the bound is as it was
  pub rest : AsLent (model.bound h) first words
