-- The stack of source document 000 in a lane. Each entry holds the range minimum that a run of consecutive rows shares (its Lemma 5), as a word, and the run's first row with it;
-- the words never fall from the bottom to the top (its Lemma 3).
use Rattle.std.specs.Prelude.{◌≡◌, Bool, true, false, List, ℕ, ◌+◌, ◌*◌, ◌<◌, ◌≤◌, set}
use Rattle.layout.specs.declared.Held.{Held}
use Rattle.layout.specs.declared.Place.{Place}
use Rattle.layout.specs.declared.Lane.{Lane}
use Rattle.layout.specs.Words.{Lower, NotHigher, Under, NotAbove, above, bottom, row₀, base_of, least_word, first}
use Rattle.layout.specs.Frames.{Kind}
use Rattle.layout.specs.Frames as Frames

-- the words of the entries below a height do not fall
abbrev pub Ascending : List ℕ → Lane → Place → Type 0
Ascending w k height = (t : Place) → Under (above t) height → least_word w k t ≤ least_word w k (above t)

-- the runs of the entries make up the rows
pub record Stacked (w : List ℕ) (k : Lane) (rows : Held) (height : Place) : Type 0 where
  -- no more entries than rows
  pub low : height.0 ≤ rows.0
  pub some : Lower row₀ rows → Under bottom height
  pub bottom : Under bottom height → first w k bottom ≡ row₀
  pub below : (t : Place) → Under t height → Lower (first w k t) rows
  pub rising : (t : Place) → Under (above t) height → Lower (first w k t) (first w k (above t))
  pub ascending : Ascending w k height

-- row h is in the run of the entry at place t
pub record Covers (w : List ℕ) (k : Lane) (height t : Place) (h : Held) : Type 0 where
  pub on : Under t height
  pub from : NotHigher (first w k t) h
  pub to : Under (above t) height → Lower h (first w k (above t))

-- x is the word that the stack has for row h
pub record Rests (w : List ℕ) (k : Lane) (height : Place) (h : Held) (x : ℕ) : Type 0 where
  pub place : Place
  pub covers : Covers w k height place h
  pub same : least_word w k place ≡ x

-- of the entries below a height, those below place t are at most x, and the others above it
pub record Parts (w : List ℕ) (k : Lane) (height : Place) (x : ℕ) (t : Place) : Type 0 where
  pub stay : (u : Place) → Under u t → least_word w k u ≤ x
  pub go : (u : Place) → NotAbove t u → Under u height → x < least_word w k u

-- THE WORDS AFTER A POP: the entry at place t is the word x, with the run that it had
abbrev pub lowered : List ℕ → Lane → Place → ℕ → List ℕ
lowered w k t x = set w (base_of k + 32 * t.0 + 4) x

-- THE WORDS AFTER A PUSH: the entry at the height is the word x, with a run that starts at row h
abbrev pub pushed : List ℕ → Lane → Place → Held → ℕ → List ℕ
pushed w k height h x = set (set w (base_of k + 32 * height.0 + 4) x) (base_of k + 32 * height.0 + 5) h.0

-- the kind of words that both write
abbrev pub by_stack : Kind → Bool
by_stack Frames.row = false
by_stack Frames.entry = true
by_stack Frames.head = false
