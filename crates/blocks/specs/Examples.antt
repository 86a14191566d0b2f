-- Worked examples of stored takes: what searches are told, what an index is, and what a stretch is. That the definitions work them out so are the theorems `searches_worked`, `indexes_worked` and
-- `stretches_worked` of proofs/Examples; that every call of the functions gives them, `searches_given`, `indexes_given` and `stretches_given`.
use Rattle.std.specs.Prelude.{◌≡◌, List, [], ◌∷◌, ◌++◌, ℕ, ℤ, pos, negsuc, length, replicate, Result}
use Rattle.history.specs.declared.Refusal.{Refusal}
use Rattle.history.specs.Replies.{numbered, showing}
use Rattle.blocks.specs.Found.{Found}
use Rattle.blocks.specs.Takes.{Told, range_minimum, block_minima, search_refusal, stretch_of, told, told_building, answering}
use Rattle.blocks.specs.Promises.{BuildSays, SearchSays, StretchSays, Fitting}

-- a take, how many entries its index has, the range from i to j, and what the search is told
pub record Search : Type 0 where
  pub values : List ℤ
  pub entries : ℕ
  pub i : ℕ
  pub j : ℕ
  pub tells : Told

-- what the definitions make of it
abbrev pub searched : Search → Search
searched e = record {
  values = e.values;
  entries = e.entries;
  i = e.i;
  j = e.j;
  tells = answering (search_refusal (length e.values) e.entries e.i e.j) (range_minimum e.values e.i e.j);
}

abbrev least : ℤ → ℕ → Told
least v k = showing (record { value = v; place = record { 0 = k } })

abbrev search : List ℤ → (entries i j : ℕ) → Told → Search
search values entries i j t = record { values = values; entries = entries; i = i; j = j; tells = t }

-- takes: of four values; of one block, 4 at both ends and 9 between them; of two blocks, the second with one value; of three, the third with one value, and −1 at offsets 60, 101 and 128
abbrev four : List ℤ
four = pos 3 ∷ pos 1 ∷ pos 2 ∷ pos 1 ∷ []

abbrev block : List ℤ
block = pos 4 ∷ replicate 62 (pos 9) ++ (pos 4 ∷ [])

abbrev two : List ℤ
two = block ++ (pos 4 ∷ [])

abbrev three : List ℤ
three = replicate 60 (pos 5) ++ (negsuc 0 ∷ replicate 40 (pos 5)) ++ (negsuc 0 ∷ replicate 26 (pos 5)) ++ (negsuc 0 ∷ [])

abbrev pub searches : List Search
searches =
    -- among equal values the earliest place that the range has; one value; the whole take
    search four 1 0 3 (least (pos 1) 1)
    ∷ search four 1 2 3 (least (pos 1) 3)
    ∷ search four 1 2 2 (least (pos 2) 2)
    ∷ search four 1 3 3 (least (pos 1) 3)
    -- 64 values are one block, wholly inside or not
    ∷ search block 1 0 63 (least (pos 4) 0)
    ∷ search block 1 1 63 (least (pos 4) 63)
    ∷ search block 1 1 62 (least (pos 9) 1)
    -- the last, shorter block, and ranges that end before it and in it
    ∷ search two 2 0 64 (least (pos 4) 0)
    ∷ search two 2 1 64 (least (pos 4) 63)
    ∷ search two 2 64 64 (least (pos 4) 64)
    ∷ search two 2 1 62 (least (pos 9) 1)
    -- 128 values are two blocks; ties across blocks and edges
    ∷ search (block ++ block) 2 0 127 (least (pos 4) 0)
    ∷ search (block ++ block) 2 0 126 (least (pos 4) 0)
    ∷ search (block ++ block) 2 63 126 (least (pos 4) 63)
    ∷ search (block ++ block) 2 64 127 (least (pos 4) 64)
    ∷ search three 3 0 128 (least (negsuc 0) 60)
    ∷ search three 3 60 128 (least (negsuc 0) 60)
    ∷ search three 3 61 128 (least (negsuc 0) 101)
    ∷ search three 3 102 128 (least (negsuc 0) 128)
    ∷ search three 3 61 100 (least (pos 5) 61)
    ∷ search three 3 64 127 (least (negsuc 0) 101)
    -- both ends of the values, −2,147,483,648 and 2,147,483,647
    ∷ search (pos 2147483647 ∷ negsuc 2147483647 ∷ pos 0 ∷ []) 1 0 2 (least (negsuc 2147483647) 1)
    ∷ search (pos 2147483647 ∷ negsuc 2147483647 ∷ pos 0 ∷ []) 1 0 0 (least (pos 2147483647) 0)
    -- "14 when i exceeds j or j is not below the take's length", for the largest numbers too
    ∷ search four 1 1 0 (numbered 14)
    ∷ search four 1 0 4 (numbered 14)
    ∷ search four 1 4294967296 4294967295 (numbered 14)
    ∷ search four 1 0 4294967296 (numbered 14)
    ∷ search four 1 0 18446744073709551615 (numbered 14)
    ∷ search four 1 18446744073709551615 18446744073709551615 (numbered 14)
    -- "before it, 15 when the index length is not the number of blocks"
    ∷ search four 2 0 3 (numbered 15)
    ∷ search four 0 1 0 (numbered 15)
    ∷ search block 2 0 63 (numbered 15)
    ∷ search two 1 0 64 (numbered 15)
    ∷ search three 2 0 18446744073709551615 (numbered 15)
    -- "An empty take has an empty index"
    ∷ search [] 0 0 0 (numbered 14)
    ∷ search [] 1 0 0 (numbered 15)
    ∷ []

-- a take and its index
pub record Index : Type 0 where
  pub values : List ℤ
  pub entries : List ℤ

abbrev pub indexed : Index → Index
indexed e = record { values = e.values; entries = block_minima e.values }

abbrev index : List ℤ → List ℤ → Index
index values entries = record { values = values; entries = entries }

abbrev pub indexes : List Index
indexes =
    index [] []
    ∷ index four (pos 1 ∷ [])
    ∷ index block (pos 4 ∷ [])
    ∷ index two (pos 4 ∷ pos 4 ∷ [])
    ∷ index (replicate 64 (pos 2147483647) ++ (negsuc 2147483647 ∷ [])) (pos 2147483647 ∷ negsuc 2147483647 ∷ [])
    ∷ index (block ++ block) (pos 4 ∷ pos 4 ∷ [])
    ∷ index three (negsuc 0 ∷ negsuc 0 ∷ negsuc 0 ∷ [])
    ∷ index (replicate 64 (pos 7) ++ three) (pos 7 ∷ negsuc 0 ∷ negsuc 0 ∷ negsuc 0 ∷ [])
    ∷ []

-- a take, the range from i to j, and its stretch
pub record Stretch : Type 0 where
  pub values : List ℤ
  pub i : ℕ
  pub j : ℕ
  pub part : List ℤ

abbrev pub stretched : Stretch → Stretch
stretched e = record { values = e.values; i = e.i; j = e.j; part = stretch_of e.values e.i e.j }

abbrev stretch : List ℤ → (i j : ℕ) → List ℤ → Stretch
stretch values i j part = record { values = values; i = i; j = j; part = part }

abbrev pub stretches : List Stretch
stretches =
    stretch four 0 3 four
    ∷ stretch four 1 2 (pos 1 ∷ pos 2 ∷ [])
    ∷ stretch four 3 3 (pos 1 ∷ [])
    -- "for an i and j that get 14, the stretch is empty"
    ∷ stretch four 2 1 []
    ∷ stretch four 0 4 []
    ∷ stretch four 4 4 []
    ∷ stretch four 0 18446744073709551615 []
    ∷ stretch [] 0 0 []
    ∷ []

-- every call gives what an example says: a search over an index of so many entries which is the take's, where it can be; a building of any index that has as many entries; a stretch of a take
-- that lies anywhere
abbrev pub SearchGives : SearchSays → Search → Type 0
SearchGives says e =
    (index : List ℤ) (r : Result Found Refusal) → says e.values index e.i e.j r → length index ≡ e.entries → (Fitting e.values index → index ≡ block_minima e.values)
    → told r ≡ e.tells

abbrev pub BuildGives : BuildSays → Index → Type 0
BuildGives says e = (before after : List ℤ) (r : Result (Unit {0}) Refusal) → says e.values before after r → length before ≡ length e.entries → (told_building r ≡ numbered 0) × (after ≡ e.entries)

abbrev pub StretchGives : StretchSays → Stretch → Type 0
StretchGives says e = (at : ℕ × ℕ) (start : ℕ × ℕ) (part : List ℤ) → says at e.values e.i e.j start part → part ≡ e.part

-- each of a list
abbrev pub Each : {E : Type 0} → (E → Type 0) → List E → Type 0
Each gives [] = Unit {0}
Each gives (e ∷ es) = gives e × Each gives es
