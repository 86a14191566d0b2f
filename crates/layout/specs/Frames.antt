-- Which words stay, by lane and by kind of word: what is written in one lane leaves the header, the other lanes, the other kinds of words of that lane, and the rows
-- beyond its end.
use Rattle.std.specs.Prelude.{◌≡◌, Bool, false, cond, List, ℕ, ◌+◌, ◌*◌, ◌%◌, ◌<◌, ◌≤◌, ltb, length, get_or}
use Rattle.layout.specs.declared.Held.{Held}
use Rattle.layout.specs.declared.Lane.{Lane}
use Rattle.layout.specs.Words.{word}

-- the kinds of words of a lane
pub data Kind : Type 0 where
  row : Kind
  entry : Kind
  head : Kind

-- word f of each row is of one kind
abbrev pub kind_of : ℕ → Kind
kind_of f = cond (ltb f 4) row (cond (ltb f 7) entry head)

-- two lanes are not the same
abbrev pub Other : Lane → Lane → Type 0
Other j k = j.0 % 4 ≡ k.0 % 4 → ⊥

-- the words of one kind in a lane are the same
pub record Same (kind : Kind) (k : Lane) (w v : List ℕ) : Type 0 where
  pub words : (n f : ℕ) → f < 8 → kind_of f ≡ kind → word v k n f ≡ word w k n f

-- all words of a lane are the same
pub record SameLane (k : Lane) (w v : List ℕ) : Type 0 where
  pub words : (n f : ℕ) → f < 8 → word v k n f ≡ word w k n f

-- all words behind the header are the same
pub record SameLanes (w v : List ℕ) : Type 0 where
  pub long : length v ≡ length w
  pub words : (i : ℕ) → 32 ≤ i → get_or v i 0 ≡ get_or w i 0

-- v is w with no other words written than some kinds of words in lane k, in the rows before `end`
pub record Within (written : Kind → Bool) (k : Lane) (end : Held) (w v : List ℕ) : Type 0 where
  pub long : length v ≡ length w
  pub header : (i : ℕ) → i < 32 → get_or v i 0 ≡ get_or w i 0
  pub others : (j : Lane) → Other j k → SameLane j w v
  pub kinds : (kind : Kind) → written kind ≡ false → Same kind k w v
  pub beyond : (i : ℕ) → 32 + 32 * end.0 ≤ i → get_or v i 0 ≡ get_or w i 0
