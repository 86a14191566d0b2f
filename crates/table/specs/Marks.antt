-- What it is for the rows of a lane to be a table of marks: ascending positions, each row reached from its hash bucket.
use Rattle.std.specs.Prelude.{◌≡◌, Bool, true, false, cond, List, [], ◌∷◌, ◌++◌, ℕ, zero, suc, ◌+◌, ◌*◌, ◌/◌, ◌%◌, eqb, set}
use Rattle.history.specs.declared.Position.{Position}
use Rattle.layout.specs.declared.Held.{Held}
use Rattle.layout.specs.declared.Lane.{Lane}
use Rattle.layout.specs.Words.{Earlier, Lower, NotHigher, base_of, mark_word, position, link, head, Room}
use Rattle.layout.specs.Frames.{Kind}
use Rattle.layout.specs.Frames as Frames

-- the hash bucket of position p among as many as there is room for rows: a multiple of p, or of a little more, modulo 2 ^ 32, scaled down
abbrev pub bucket_of : Position → Held → ℕ
bucket_of p c = (p.0 + p.0 / 2048) * 2654435769 % 4294967296 * c.0 / 4294967296

-- row h is on the chain that starts at row g, all of whose rows are below `top`
pub data Chain (w : List ℕ) (k : Lane) (h : Held) : Held → Held → Type 0 where
  here : {top g : Held} → Lower g top → g ≡ h → Chain w k h top g
  next : {top g : Held} → Lower g top → Chain w k h g (link w k g) → Chain w k h top g

-- the positions of the rows ascend
abbrev pub Rising : List ℕ → Lane → Held → Type 0
Rising w k rows = (g h : Held) → Lower g h → Lower h rows → Earlier (position w k g) (position w k h)

-- the rows of lane k, of which there is room for so many, are a table
pub record Linked (w : List ℕ) (k : Lane) (rows capacity : Held) : Type 0 where
  pub room : Room w capacity.0
  pub full : NotHigher rows capacity
  pub rising : Rising w k rows
  pub reached : (h : Held) → Lower h rows → Chain w k h rows (head w k (bucket_of (position w k h) capacity))

-- the active positions of the first n rows, in the order of the rows
abbrev pub active_below : List ℕ → Lane → ℕ → List Position
active_below w k zero = []
active_below w k (suc n) =
    let h : Held = record { 0 = n } in
    active_below w k n ++ cond (eqb (mark_word w k h % 2) 0) [] (position w k h ∷ [])

abbrev pub active_in : List ℕ → Lane → Held → List Position
active_in w k rows = active_below w k rows.0

-- row h is an active mark at position p
pub record Live (w : List ℕ) (k : Lane) (rows : Held) (p : Position) (h : Held) : Type 0 where
  pub row : Lower h rows
  pub mark : mark_word w k h ≡ 2 * p.0 + 1

-- position p comes after every mark of the rows
abbrev pub After : List ℕ → Lane → Held → Position → Type 0
After w k rows p = (h : Held) → Lower h rows → Earlier (position w k h) p

-- THE WORDS AFTER AN INSERTION: position p is the row after the last, active, and the head of its bucket's chain
abbrev pub inserted : List ℕ → Lane → Held → Held → Position → List ℕ
inserted w k rows capacity p =
    let b : ℕ = bucket_of p capacity in
    set (set (set w (base_of k + 32 * rows.0 + 1) (2 * p.0 + 1)) (base_of k + 32 * rows.0 + 2) (head w k b).0) (base_of k + 32 * b + 7) rows.0

-- THE WORDS AFTER A CLOSE: row h's mark is no longer active
abbrev pub released : List ℕ → Lane → Held → List ℕ
released w k h = set w (base_of k + 32 * h.0 + 1) (mark_word w k h / 2 * 2)

-- the kinds of words that an insertion writes, and those that a close writes
abbrev pub by_insertion : Kind → Bool
by_insertion Frames.row = true
by_insertion Frames.entry = false
by_insertion Frames.head = true

abbrev pub by_close : Kind → Bool
by_close Frames.row = true
by_close Frames.entry = false
by_close Frames.head = false
