-- What each function of the deque promises, of any words; and, where they hold a stream's suffix minima, that they go on doing so.
use Rattle.std.specs.Prelude.{◌≡◌, true, false, List, [], ◌∷◌, ◌++◌, ◌⊎◌, ℕ, ◌+◌, ◌*◌, ◌-◌, ◌<◌, ◌≤◌, ℤ, length, get_or}
use Rattle.history.specs.declared.Position.{Position}
use Rattle.history.specs.Minimum.{Minimum}
use Rattle.history.specs.Minima.{takes_over, next, present_at, minimum}
use Rattle.packing.specs.Packing.{packed, unpacked, Faithful}
use Rattle.deque.specs.Words.{entry_at, Room, Holds}

-- `clear`: no entries, as before a stream's first value, in words that have room
pub record Cleared (w v : List ℕ) : Type 0 where
  pub long : length v ≡ length w
  pub kept : (i : ℕ) → 0 < i → get_or v i 0 ≡ get_or w i 0
  pub holds : (slots : ℕ) → Room w slots → Holds v slots [] (record { 0 = 1 })

-- `halved`, `taken_over`: of the first n entries, v takes over the one at r, where r is not n, and does not take over the one before it
pub record Boundary (w : List ℕ) (front n : ℕ) (v : ℤ) (r : ℕ) : Type 0 where
  pub within : r ≤ n
  pub over : r < n → takes_over v (entry_at w front r).value ≡ true
  pub under : (k : ℕ) → k + 1 ≡ r → takes_over v (entry_at w front k).value ≡ false

-- `slot_after`: the next slot or, after the last one, the first
abbrev pub SlotAfter : (slots front r : ℕ) → Type 0
SlotAfter slots front r = ((r ≡ front + 1) × (r < slots)) ⊎ ((r ≡ 0) × (front + 1 ≡ slots))

-- `alone`: m is the only entry, and reads back from its word
pub record Alone (w v : List ℕ) (m r : Minimum) : Type 0 where
  pub long : length v ≡ length w
  pub head : get_or v 0 0 ≡ 1
  pub faithful : Faithful m
  pub new : get_or v 1 0 ≡ packed m
  pub kept : (i : ℕ) → 1 < i → get_or v i 0 ≡ get_or w i 0
  pub returns : r ≡ m

-- `repeat`: a word that stands beyond the slots, at an index, stands once more
pub record Repeated (w v : List ℕ) (slots at word : ℕ) : Type 0 where
  pub long : length v ≡ length w
  pub again : slots < at → get_or v (at - slots) 0 ≡ word
  pub kept : (i : ℕ) → (slots < at → i ≡ at - slots → ⊥) → get_or v i 0 ≡ get_or w i 0

-- `put`: m is the entry at k, which is the last then, and reads back from its word; beyond the slots the word stands once more
pub record Put (w v : List ℕ) (slots front count : ℕ) (m r : Minimum) : Type 0 where
  pub k : ℕ
  pub found : Boundary w front count m.value k
  pub long : length v ≡ length w
  pub head : get_or v 0 0 ≡ front * 65536 + k + 1
  pub faithful : Faithful m
  pub new : get_or v (1 + front + k) 0 ≡ packed m
  pub again : slots ≤ front + k → get_or v (1 + front + k - slots) 0 ≡ packed m
  pub kept : (i : ℕ) → 0 < i → (i ≡ 1 + front + k → ⊥) → (slots ≤ front + k → i ≡ 1 + front + k - slots → ⊥) → get_or v i 0 ≡ get_or w i 0
  pub returns : r ≡ unpacked (get_or v (1 + front) 0)

-- the value m comes to words that hold the suffix minima from position i on. From then on they are those from `oldest` on, which is i or the next position, is not behind the value's, and has
-- no more positions from it on than slots: as many, where any value has left
pub record Comes (values : List ℤ) (i oldest : Position) (slots : ℕ) (place : Position) : Type 0 where
  pub at : place ≡ next (present_at values)
  pub moves : (oldest ≡ i) ⊎ (oldest ≡ next i)
  pub before : oldest.0 ≤ place.0
  pub wide : place.0 < oldest.0 + slots
  pub tight : (oldest.0 ≡ 1) ⊎ (oldest.0 + slots ≡ place.0 + 1)

-- `arrive`: the value m comes
pub record Arrived (w v : List ℕ) (slots : ℕ) (m r : Minimum) : Type 0 where
  pub long : length v ≡ length w
  pub kept : (i : ℕ) → 2 * slots ≤ i → get_or v i 0 ≡ get_or w i 0
  pub arrives : (values : List ℤ) (i oldest : Position) → Holds w slots values i → Comes values i oldest slots m.place
      → let more : List ℤ = values ++ (m.value ∷ []) in Holds v slots more oldest × (r ≡ minimum more oldest)
