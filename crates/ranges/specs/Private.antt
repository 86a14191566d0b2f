-- The contracts of the ranges' private functions.
use Rattle.std.specs.Prelude.{◌≡◌, Bool, true, false, List, [], ◌∷◌, ◌++◌, ◌⊎◌, ℕ, Option, None, Some, ◌+◌, ◌*◌, ◌/◌, ◌%◌, ◌<◌, ◌≤◌, min, max, ℤ}
use Rattle.history.specs.declared.Position.{Position}
use Rattle.history.specs.Minima.{present_at, minimum}
use Rattle.layout.specs.declared.Held.{Held}
use Rattle.layout.specs.declared.Place.{Place}
use Rattle.layout.specs.declared.Extent.{Extent}
use Rattle.layout.specs.declared.Role.{Role}
use Rattle.layout.specs.declared.Role.TheVariants.{Active, Younger, Older, Next}
use Rattle.layout.specs.Words.{Earlier, NotLater, Lower, NotHigher, Under, after, row₀, bottom, mark_word, position, least_word, extent_of, start_of, left_of, run_of, emptied, Room, Put, puts, extent_puts, rows_puts, start_puts, left_puts}
use Rattle.layout.specs.Frames.{Kind, Within}
use Rattle.table.specs.Marks.{After}
use Rattle.table.specs.Calls.{Sought, Released}
use Rattle.packing.specs.Packing.{packed, Faithful}
use Rattle.stack.specs.Calls.{Advanced}
use Rattle.ranges.specs.Holding.{origin, LaneHolds, marks_in}

-- every kind of word
abbrev pub every_kind : Kind → Bool
every_kind kind = true

-- there is a row to spare in a lane
pub record Spare (w : List ℕ) (e : Extent) : Type 0 where
  pub room : Room w e.capacity.0
  pub row : Lower e.rows e.capacity
  -- no more entries than rows
  pub high : e.height.0 ≤ e.rows.0

-- a lane gets one row more, at a position after all others, with its range minimum
pub record Grows (w v : List ℕ) (e r : Extent) (values : List ℤ) (p : Position) : Type 0 where
  pub holds : LaneHolds v r values
  pub marks : marks_in v r ≡ marks_in w e ++ (p ∷ [])
  pub old : (h : Held) → Lower h e.rows → position v e.lane h ≡ position w e.lane h
  pub new : position v e.lane e.rows ≡ p

-- `append`: only words of the lane, before its end, are written. With no row to spare nothing is done; else there is one row more
pub record Appended (w v : List ℕ) (e : Extent) (p : Position) (x : ℕ) (r : Extent) : Type 0 where
  pub within : Within every_kind e.lane e.capacity w v
  pub idle : (Spare w e → ⊥) → (v ≡ w) × (r ≡ e)
  pub same : (r.lane ≡ e.lane) × (r.capacity ≡ e.capacity)
  pub more : Spare w e → r.rows ≡ after e.rows
  pub grows : (values : List ℤ) → LaneHolds w e values → Lower e.rows e.capacity → After w e.lane e.rows p → Earlier origin p → NotLater p (present_at values)
      → x ≡ packed (minimum values p) → Faithful (minimum values p) → Grows w v e r values p

-- `join`: a mark is appended to the lane of a role, and the header has its rows and its height as they are then
pub record Joined (w v : List ℕ) (role : Role) (p : Position) (x : ℕ) : Type 0 where
  pub words : List ℕ
  pub grown : Extent
  pub appended : Appended w words (extent_of w role) p x grown
  pub done : v ≡ puts (rows_puts role grown.rows grown.height) words

-- `carry`: a row whose mark is closed, or that is none of a lane's, changes nothing, and one whose mark is active joins the next lane's
pub record Carried (w v : List ℕ) (e : Extent) (h : Held) (x : ℕ) : Type 0 where
  pub idle : (Room w e.rows.0 → Lower h e.rows → ⊥) → v ≡ w
  pub closed : mark_word w e.lane h % 2 ≡ 0 → v ≡ w
  pub active : Room w e.rows.0 → Lower h e.rows → (mark_word w e.lane h % 2 ≡ 0 → ⊥)
      → Joined w v Next (record { 0 = mark_word w e.lane h / 2 % 4294967296 }) x

-- `below`: the lower of a word and of the lowest entry of a role's lane; where it has none, the word
pub record LowerOf (w : List ℕ) (role : Role) (x r : ℕ) : Type 0 where
  pub some : Room w (extent_of w role).height.0 → Under bottom (extent_of w role).height → r ≡ min x (least_word w (extent_of w role).lane bottom)
  pub none : (Room w (extent_of w role).height.0 → Under bottom (extent_of w role).height → ⊥) → r ≡ x

-- `role_of`: the active lane from where it starts, before that the younger one from where that starts, and before that the older one
pub record Chosen (w : List ℕ) (p : Position) (r : Role) : Type 0 where
  pub active : NotLater (start_of w Active) p → r ≡ Active
  pub younger : Earlier p (start_of w Active) → NotLater (start_of w Younger) p → r ≡ Younger
  pub older : Earlier p (start_of w Active) → Earlier p (start_of w Younger) → r ≡ Older

-- `up_to_start`: of a mark in the older lane, the lower of its own minimum and the younger lane's lowest
pub record UpToStart (w : List ℕ) (role : Role) (x r : ℕ) : Type 0 where
  pub older : role ≡ Older → LowerOf w Younger x r
  pub own : (role ≡ Older → ⊥) → r ≡ x

-- `up_to_now`: of a mark that stands still, the lower of that and the active lane's lowest
pub record UpToNow (w : List ℕ) (role : Role) (x r : ℕ) : Type 0 where
  pub older : role ≡ Older → (y : ℕ) × LowerOf w Younger x y × LowerOf w Active y r
  pub younger : role ≡ Younger → LowerOf w Active x r
  pub own : (role ≡ Older → ⊥) → (role ≡ Younger → ⊥) → r ≡ x

-- `close_carried`: the mark at position p is closed in the next lane, if it is found there
pub record ClosedNext (w v : List ℕ) (p : Position) : Type 0 where
  pub found : Option Held
  pub sought : Sought w (extent_of w Next).lane (extent_of w Next).rows (extent_of w Next).capacity p found
  pub lost : found ≡ None → v ≡ w
  pub closed : (g : Held) → found ≡ Some g → Released w v (extent_of w Next).lane (extent_of w Next).rows g

-- `has_left`: whether a row of a role's lane is left to be carried
pub record Remains (w : List ℕ) (role : Role) (r : Bool) : Type 0 where
  pub some : r ≡ true → Lower (left_of w role) (extent_of w role).rows
  pub none : r ≡ false → NotHigher (extent_of w role).rows (left_of w role)

-- `step`: the next row of a lane is carried, with its minimum up to where the active lane starts; where none is left, or its run cannot be read, nothing is done
pub record Step (w v : List ℕ) (role : Role) : Type 0 where
  pub word : ℕ
  pub words : List ℕ
  pub run : Place
  pub low : UpToStart w role (least_word w (extent_of w role).lane (run_of w role)) word
  pub carried : Carried w words (extent_of w role) (left_of w role) word
  pub onward : Advanced words (extent_of w role).lane (extent_of w role).height (run_of w role) (after (left_of w role)) run
  pub done : v ≡ puts (left_puts role (after (left_of w role)) run) words

pub record Stepped (w v : List ℕ) (role : Role) : Type 0 where
  pub done : Lower (left_of w role) (extent_of w role).rows → Room w (extent_of w role).height.0 → Under (run_of w role) (extent_of w role).height → Step w v role
  pub idle : (Lower (left_of w role) (extent_of w role).rows → Room w (extent_of w role).height.0 → Under (run_of w role) (extent_of w role).height → ⊥) → v ≡ w

-- `merge_row`: a row of the older lane, and when none of these is left, of the younger one
pub record Merged (w v : List ℕ) : Type 0 where
  pub older : Lower (left_of w Older) (extent_of w Older).rows → Stepped w v Older
  pub younger : NotHigher (extent_of w Older).rows (left_of w Older) → Stepped w v Younger

-- `finish`: when no row is left, the next lane is the older one, and there is no younger one
abbrev pub finishing : List ℕ → List Put
finishing w =
    extent_puts Older (extent_of w Next)
    ++ extent_puts Younger (emptied (extent_of w Younger).lane (extent_of w Younger).capacity)
    ++ extent_puts Next (emptied (extent_of w Older).lane (extent_of w Next).capacity)
    ++ start_puts Younger (start_of w Active) ++ left_puts Older row₀ bottom ++ left_puts Younger row₀ bottom

pub record Finished (w v : List ℕ) : Type 0 where
  pub waits : Lower (left_of w Older) (extent_of w Older).rows ⊎ Lower (left_of w Younger) (extent_of w Younger).rows → v ≡ w
  pub done : NotHigher (extent_of w Older).rows (left_of w Older) → NotHigher (extent_of w Younger).rows (left_of w Younger) → v ≡ puts (finishing w) w

-- `size_for`: document 000's Lemma 7 asks for "an active structure that can support (a₁ + a₂) / 2 elements", and here it can support one more for each active mark, and 17, if that is more
abbrev pub size_for : ℕ → ℕ → ℕ
size_for active left = max (2 * active + 17) ((left + 1) / 2)

-- `turn`: when the active lane is full and no merge is under way, it becomes the younger lane, the free lane becomes the active one, and the merge begins
abbrev pub turning : List ℕ → ℕ → Position → List Put
turning w active p =
    extent_puts Active (emptied (extent_of w Younger).lane (record { 0 = size_for active ((extent_of w Older).rows.0 + (extent_of w Active).rows.0) }))
    ++ extent_puts Younger (extent_of w Active)
    ++ extent_puts Next (emptied (extent_of w Next).lane (record { 0 = 2 * active + 17 }))
    ++ start_puts Active p ++ start_puts Younger (start_of w Active)
    ++ left_puts Older row₀ bottom ++ left_puts Younger row₀ bottom

pub record Turns (w : List ℕ) (active : ℕ) : Type 0 where
  pub few : active < 4096
  pub full : NotHigher (extent_of w Active).capacity (extent_of w Active).rows
  pub free : NotHigher (extent_of w Younger).rows row₀
  pub older : (extent_of w Older).rows.0 ≤ 8207
  pub rows : (extent_of w Active).rows.0 ≤ 8207

pub record Turned (w v : List ℕ) (active : ℕ) (p : Position) : Type 0 where
  pub done : Turns w active → v ≡ puts (turning w active p) w
  pub idle : (Turns w active → ⊥) → v ≡ w

-- `share`: two rows, one after the other, and the end if none is left
pub record Share (w v : List ℕ) : Type 0 where
  pub one : List ℕ
  pub two : List ℕ
  pub first : Merged w one
  pub second : Merged one two
  pub last : Finished two v

-- `merge`: that, if there is a younger lane; else nothing
pub record Shared (w v : List ℕ) : Type 0 where
  pub idle : NotHigher (extent_of w Younger).rows row₀ → v ≡ w
  pub done : Lower row₀ (extent_of w Younger).rows → Share w v
