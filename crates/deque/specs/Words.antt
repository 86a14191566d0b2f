-- The deque in the lent words: word 0 is its header, and its entries stand behind it, an entry to a word.
use Rattle.std.specs.Prelude.{◌≡◌, List, ℕ, ◌+◌, ◌*◌, ◌-◌, ◌/◌, ◌%◌, ◌<◌, ◌≤◌, ℤ, length, get_or}
use Rattle.history.specs.declared.Position.{Position}
use Rattle.history.specs.Minimum.{Minimum}
use Rattle.packing.specs.Packing.{unpacked}
use Rattle.deque.specs.Suffixes.{SuffixMinima}

-- the header: the front's slot, and how many entries there are
abbrev pub front : List ℕ → ℕ
front w = get_or w 0 0 / 65536

abbrev pub count : List ℕ → ℕ
count w = get_or w 0 0 % 65536

-- the word of the entry that is k behind the front, and the entry
abbrev pub entry_word : List ℕ → (front k : ℕ) → ℕ
entry_word w front k = get_or w (1 + front + k) 0

abbrev pub entry_at : List ℕ → (front k : ℕ) → Minimum
entry_at w front k = unpacked (entry_word w front k)

-- each of the entries from the front on that is beyond the slots stands once more, as many words lower
abbrev pub Twice : List ℕ → (slots front count : ℕ) → Type 0
Twice w slots front count = (k : ℕ) → k < count → slots ≤ front + k → get_or w (1 + front + k - slots) 0 ≡ entry_word w front k

-- a deque of so many slots has its place in the words
pub record Room (w : List ℕ) (slots : ℕ) : Type 0 where
  pub some : 0 < slots
  pub few : slots ≤ 4096
  pub wide : 2 * slots ≤ length w

-- the words hold the suffix minima of the values from position i on, of which there are no more than slots
pub record Holds (w : List ℕ) (slots : ℕ) (values : List ℤ) (i : Position) : Type 0 where
  pub room : Room w slots
  pub within : front w < slots
  pub fits : length values + 1 ≤ i.0 + slots
  pub holds : SuffixMinima values i (count w) (entry_at w (front w))
  pub twice : Twice w slots (front w) (count w)
