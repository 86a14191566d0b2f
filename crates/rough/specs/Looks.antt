-- Document 02, point 6: what a search with a budget looks at, in which order, and what it tells. Nothing of the program is used here but the declared types of its answer, `Figures` and a refusal. A take is
-- `values`, its length n, and the range goes from i to j; `take B` is of lists, their first B elements. All of it is meant for i at most j and j below n: `rough_reading` refuses other ranges, and an
-- index of another length, so that the default `pos 0` is never reached. It is defined for every index, built from that take or not: the figures follow from whatever entries and values
-- stand there.
use Rattle.std.specs.Prelude.{Bool, cond, ◌&&◌, ℕ, zero, suc, ◌+◌, ◌*◌, ◌-◌, ◌/◌, min, eqb, leb, ltb, ℤ, pos, negsuc, length, get_or, take}
use mathlib.Core.List.{List, [], ◌∷◌, ◌++◌, map}
use Rattle.std.specs.List.{filter_map}
use Rattle.std.specs.Prelude.{Option, None, Some}
use Rattle.history.specs.Replies.{number_of}
use Rattle.blocks.specs.Takes.{search_refusal, least_of}
use Rattle.std.specs.Prelude.{Result, Ok, Err}
use Rattle.history.specs.declared.Refusal.{Refusal}
use Rattle.rough.specs.declared.Figures.{Figures}

-- "A look reads one index entry or one take value.": `Entry b` the entry of block b, `Value k` the take's value at offset k
pub data Look : Type 0 where
  Entry : ℕ → Look
  Value : ℕ → Look

-- "left to right": so many numbers in rising order, from a on
unfoldable pub up_from : (a count : ℕ) → List ℕ
up_from a zero = []
up_from a (suc count) = a ∷ up_from (a + 1) count

-- block b is "wholly inside" the range: it begins at or after i, and its last value stands at or before j. The last block, "perhaps shorter" (point 3), ends where the take does, so that it is
-- wholly inside when the values it has are. A block that meets the range and is not wholly inside is "only partly inside"
abbrev pub wholly_inside : (n i j b : ℕ) → Bool
wholly_inside n i j b = leb i (64 * b) && leb (min (64 * b + 64) n) (j + 1)

-- "the index entry of every block that meets the range, left to right": that in which i stands, that in which j stands, and all between them
abbrev pub entry_looks : (i j : ℕ) → List Look
entry_looks i j = map Entry (up_from (i / 64) (j / 64 + 1 - i / 64))

-- the value at k is looked at where its block is not wholly inside
abbrev pub edge_look : (n i j k : ℕ) → Option Look
edge_look n i j k = cond (wholly_inside n i j (k / 64)) None (Some (Value k))

-- "then the range's values in blocks only partly inside, left to right"
abbrev pub value_looks : (n i j : ℕ) → List Look
value_looks n i j = filter_map (edge_look n i j) (up_from i (j + 1 - i))

-- THE LOOKS: "The order is fixed: the index entry of every block ..; then the range's values". Their number is "the full count"
abbrev pub looks : (n i j : ℕ) → List Look
looks n i j = entry_looks i j ++ value_looks n i j

-- "With a budget of B looks", "the looks used (the smaller of B and the full count)": the first B, or all where there are fewer
abbrev pub looks_used : (n i j B : ℕ) → List Look
looks_used n i j B = take B (looks n i j)

-- what a look makes known of the range, if anything: "the least known value inside the range: entries of wholly inside blocks and edge values looked at". So the entry of a block that is only
-- partly inside makes nothing known; and a value that is looked at stands in the range
abbrev pub known_from : (values index : List ℤ) (i j : ℕ) → Look → Option ℤ
known_from values index i j (Entry b) = cond (wholly_inside (length values) i j b) (Some (get_or index b (pos 0))) None
known_from values index i j (Value k) = Some (get_or values k (pos 0))

-- of "the least entry": the entry that a look reads, if it reads one, its block wholly inside or not
abbrev pub entry_from : (index : List ℤ) → Look → Option ℤ
entry_from index (Entry b) = Some (get_or index b (pos 0))
entry_from index (Value k) = None

-- THE HIGH FIGURE after the looks that are used: "the least known value inside the range ..; with none known the reply says so and shows no high figure"
abbrev pub high_after : (values index : List ℤ) (i j : ℕ) → List Look → Option ℤ
high_after values index i j used = least_of (filter_map (known_from values index i j) used)

-- THE LOW FIGURE: "−2,147,483,648 until all entries are read, then the least entry, and at the full count the high figure". The looks used are the first so many, entries before values, so that
-- their number tells whether all entries are read; where no block is only partly inside, that is the full count at once. There always is a low figure (`EveryReading.low` of Promises).
-- −2,147,483,648 is `negsuc 2147483647`
abbrev pub low_after : (values index : List ℤ) (i j : ℕ) → List Look → Option ℤ
low_after values index i j used =
    cond (ltb (length used) (length (entry_looks i j))) (Some (negsuc 2147483647))
    (cond (ltb (length used) (length (looks (length values) i j))) (least_of (filter_map (entry_from index) used))
    (high_after values index i j used))

-- what a caller is told: the reply's number, "the looks used .., a high figure and a low figure", where they are shown
pub record ToldReading : Type 0 where
  pub number : ℕ
  pub looks : ℕ
  pub high : Option ℤ
  pub low : Option ℤ

-- reply 0: "the reply gives the looks used .., a high figure and a low figure"
abbrev pub figures_after : (values index : List ℤ) (i j : ℕ) → List Look → ToldReading
figures_after values index i j used = record { number = 0; looks = length used; high = high_after values index i j used; low = low_after values index i j used }

-- a refusal: "with 0 looks used and neither figure shown"
abbrev pub refused_with : ℕ → ToldReading
refused_with number = record { number = number; looks = 0; high = None; low = None }

-- A ROUGH READING. "Replies 14 and 15 hold here too, for B = 0 as well": what a search is refused with, 15 before 14. With B = 0 and no refusal it is reply 0, 0 looks, no high figure, and
-- −2,147,483,648
abbrev pub rough_reading : (values index : List ℤ) (i j B : ℕ) → ToldReading
rough_reading values index i j B =
    cond (eqb (search_refusal (length values) (length index) i j) 0) (figures_after values index i j (looks_used (length values) i j B))
    (refused_with (search_refusal (length values) (length index) i j))

-- what each case of the program's answer tells. "Where an answer is an enum, a definition gives this paper's number and values for each case" (document 01)
abbrev pub told : Result Figures Refusal → ToldReading
told (Ok f) = record { number = 0; looks = f.looks; high = f.high; low = Some f.low }
told (Err why) = refused_with (number_of why)
