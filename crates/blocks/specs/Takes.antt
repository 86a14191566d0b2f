-- Document 02, point 3, stored takes: "a lent list of signed values numbered from 0". What is the least of a range, what an index holds, what is refused, and what a stretch is; with what the rough
-- reading of point 6 shares with a search. Of the program there are only declared types here: a minimum, an offset with what is found there, and a refusal. In these files a take is `values`; `take n` is of lists, their first n elements.
use Rattle.std.specs.Prelude.{cond, ◌||◌, List, [], ◌∷◌, ℕ, zero, suc, ◌+◌, ◌*◌, ◌-◌, ◌/◌, eqb, leb, ltb, ℤ, length, take, drop, Option, None, Some, Result, Ok, Err}
use Rattle.history.specs.Minimum.{Minimum}
use Rattle.history.specs.declared.Refusal.{Refusal}
use Rattle.history.specs.Minima.{minimum}
use Rattle.history.specs.Replies.{ToldOf, numbered, showing, number_of, number_told}
use Rattle.blocks.specs.Found.{Found}

-- "numbered from 0": what stands at position k of a stream, counted from 1, stands at offset k − 1 of a take
abbrev pub from_zero : Minimum → Found
from_zero m = record { value = m.value; place = record { 0 = m.place.0 - 1 } }

-- the least of the values from offset i on, one of theirs, with its place: the range minimum of a mark at their position i + 1. So the choice among equal values is the engine's. A take may be
-- longer than a stream, and i + 1 more than the highest position: the definition of the minimum knows no highest
abbrev pub minimum_from : List ℤ → ℕ → Found
minimum_from values i = from_zero (minimum values (record { 0 = i + 1 }))

-- point 6, "the least known value", "with none known": the least of some values, where there are any
abbrev pub least_of : List ℤ → Option ℤ
least_of [] = None
least_of (v ∷ vs) = Some (minimum_from (v ∷ vs) 0).value

-- THE ANSWER OF A SEARCH, "the least value from i to j", and of its places the earliest, no longer "its latest place": "The window and stored takes follow the same rule" (point 5). It is the
-- least of the first j + 1 values, from offset i on, where i is at most j and j is below the take's length. No block is in it
abbrev pub range_minimum : List ℤ → (i j : ℕ) → Found
range_minimum values i j = minimum_from (take (j + 1) values) i

-- "each block of 64 values, the last block perhaps shorter": block b, and how many blocks n values have
abbrev pub block_of : List ℤ → ℕ → List ℤ
block_of values b = take 64 (drop (64 * b) values)

abbrev pub block_count : ℕ → ℕ
block_count n = (n + 63) / 64

-- how many of the blocks of n values end at e or before it, where e is at most n. The last block ends where the take does, though it may be shorter
abbrev pub blocks_before : (n e : ℕ) → ℕ
blocks_before n e = cond (eqb e n) (block_count n) (e / 64)

-- "the least of each block", here of n blocks from block b on
unfoldable pub block_minima_from : (n b : ℕ) → List ℤ → List ℤ
block_minima_from zero b values = []
block_minima_from (suc n) b values = (minimum_from (block_of values b) 0).value ∷ block_minima_from n (b + 1) values

-- THE INDEX of a take, "the least of each block". "An empty take has an empty index"
abbrev pub block_minima : List ℤ → List ℤ
block_minima values = block_minima_from (block_count (length values)) 0 values

-- of a take of n values: "14 when i exceeds j or j is not below the take's length". 0: it does not apply
abbrev pub range_refusal : (n i j : ℕ) → ℕ
range_refusal n i j = cond (ltb j i || leb n j) 14 0

-- of a take of n values and an index of m entries: "before it, 15 when the index length is not the number of blocks", and else what the call is refused with besides
abbrev pub index_refusal : (n m own : ℕ) → ℕ
index_refusal n m own = cond (eqb m (block_count n)) own 15

-- the first refusal that applies to a search, and to building, which has no range
abbrev pub search_refusal : (n m i j : ℕ) → ℕ
search_refusal n m i j = index_refusal n m (range_refusal n i j)

abbrev pub build_refusal : (n m : ℕ) → ℕ
build_refusal n m = index_refusal n m 0

-- THE INDEX AFTER BUILDING, of one that was `before`: "Building writes every index entry"; with 15 it "writes nothing"
abbrev pub built : (values before : List ℤ) → List ℤ
built values before = cond (eqb (length before) (block_count (length values))) (block_minima values) before

-- THE STRETCH from i to j, both included; "for an i and j that get 14, the stretch is empty". The call takes no index, so that 15 never applies
abbrev pub stretch_of : List ℤ → (i j : ℕ) → List ℤ
stretch_of values i j = cond (eqb (range_refusal (length values) i j) 0) (take ((j + 1) - i) (drop i values)) []

-- what a caller is told: the number and, of a search, the value and its place
abbrev pub Told : Type 0
Told = ToldOf Found

-- what each case of a reply tells: of a search, and of building, which shows nothing
abbrev pub told : Result Found Refusal → Told
told (Ok f) = showing f
told (Err why) = numbered (number_of why)

abbrev pub told_building : Result (Unit {0}) Refusal → Told
told_building r = numbered (number_told r)

-- what the caller of a search is told, where f is what it finds: a refusal's number alone, or f
abbrev pub answering : ℕ → Found → Told
answering refusal f = cond (eqb refusal 0) (showing f) (numbered refusal)
