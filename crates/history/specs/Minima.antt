-- The range minimum, document 01's "dip": `lower` is the lower of two, `lowest` of all that follow, `minimum` of all from a position on, such as a mark's.
use Rattle.std.specs.Prelude.{◌≡◌, Bool, true, false, cond, List, [], ◌∷◌, ◌+◌, ◌-◌, ◌<◌, ◌≤◌, ℤ, pos, length, get_or, drop}
use Rattle.std.specs.Int.Signed.{le_z, lt_z}
use Rattle.history.specs.declared.Position.{Position}
use Rattle.history.specs.Minimum.{Minimum}

-- "Among equal least values the place is the earliest at or after the tap" (document 02, point 5, in place of document 01's "the place is the latest"): a later value takes over from the
-- least before it where it is lower. This is where the choice among equal values is made; `Least.earliest` states it once more, independently
abbrev pub takes_over : ℤ → ℤ → Bool
takes_over later least = lt_z later least

-- the lower of the least so far and a later value; where they are equal, the least so far
abbrev pub lower : Minimum → Minimum → Minimum
lower least later = cond (takes_over later.value least.value) later least

-- the value v, as it stands at position i
abbrev pub stands_at : ℤ → Position → Minimum
stands_at v i = record { value = v; place = i }

-- the position after i
abbrev pub next : Position → Position
next i = record { 0 = i.0 + 1 }

-- the least, with its place, of the least so far and of the values that follow it from position i on
unfoldable pub lowest : Minimum → Position → List ℤ → Minimum
lowest least i [] = least
lowest least i (v ∷ vs) = lowest (lower least (stands_at v i)) (next i) vs

-- "the n-th accepted Value has position n, and the present position is the number of accepted Values, 0 before the first"
abbrev pub present_at : List ℤ → Position
present_at values = record { 0 = length values }

-- "Positions start at 1": the value at position i
abbrev pub value_at : List ℤ → Position → ℤ
value_at values i = get_or values (i.0 - 1) (pos 0)

-- "the last value is 0 while there is none"
abbrev pub last_of : List ℤ → ℤ
last_of values = value_at values (present_at values)

-- "The dip of an active tap i at present position j is the least of the values at i to j, and its place." An active mark stands at one
-- of the positions 1 to j, and so do a window's oldest value and the first of a range of a stored take (document 02, points 2 and 3); outside
-- them this says nothing that anyone is told
abbrev pub minimum : List ℤ → Position → Minimum
minimum values i = lowest (stands_at (value_at values i) i) (next i) (drop i.0 values)

-- What makes it the dip: it stands at one of the positions from i to the present, no value there is lower, and each earlier one there is higher.
-- That `minimum` is so, and that nothing else is, are laws of proofs/Lowest
pub record Least (values : List ℤ) (i : Position) (m : Minimum) : Type 0 where
  pub some : 1 ≤ i.0
  pub from : i.0 ≤ m.place.0
  pub to : m.place.0 ≤ length values
  pub stands : value_at values m.place ≡ m.value
  pub least : (k : Position) → i.0 ≤ k.0 → k.0 ≤ length values → le_z m.value (value_at values k) ≡ true
  pub earliest : (k : Position) → i.0 ≤ k.0 → k.0 < m.place.0 → le_z (value_at values k) m.value ≡ false
