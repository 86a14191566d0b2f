-- Worked examples of rough readings, and of the looks in their order. That the definitions work them out so are the theorems `readings_worked` and `orders_worked` of proofs/Examples; that every call of
-- the function gives them, `readings_given`.
use Rattle.std.specs.Prelude.{◌≡◌, List, [], ◌∷◌, ◌++◌, map, ℕ, ℤ, pos, negsuc, length, replicate}
use Rattle.std.specs.Prelude.{Option, None, Some}
use Rattle.blocks.specs.Takes.{block_minima}
use Rattle.std.specs.Prelude.{Result}
use Rattle.history.specs.declared.Refusal.{Refusal}
use Rattle.rough.specs.declared.Figures.{Figures}
use Rattle.rough.specs.Looks.{Look, Entry, Value, up_from, looks, ToldReading, refused_with, rough_reading, told}
use Rattle.rough.specs.Promises.{ReadSays, bottom}

-- a take, its index, the range from i to j, the budget, and what the reading tells
pub record Rough : Type 0 where
  pub values : List ℤ
  pub index : List ℤ
  pub i : ℕ
  pub j : ℕ
  pub budget : ℕ
  pub tells : ToldReading

-- what the definitions make of it
abbrev pub roughed : Rough → Rough
roughed e = record {
  values = e.values;
  index = e.index;
  i = e.i;
  j = e.j;
  budget = e.budget;
  tells = rough_reading e.values e.index e.i e.j e.budget;
}

abbrev over : List ℤ → List ℤ → (i j budget : ℕ) → ToldReading → Rough
over values index i j budget t = record { values = values; index = index; i = i; j = j; budget = budget; tells = t }

abbrev rough : List ℤ → (i j budget : ℕ) → ToldReading → Rough
rough values i j budget t = over values (block_minima values) i j budget t

abbrev figures : ℕ → Option ℤ → ℤ → ToldReading
figures used high low = record { number = 0; looks = used; high = high; low = Some low }

-- the take of 1,000 to 1,199, of length 200: blocks that begin with 1,000, 1,064, 1,128 and 1,192, the last of eight values
abbrev rising : List ℤ
rising = map pos (up_from 1000 200)

-- three values, which are one shorter block; and two whole blocks
abbrev few : List ℤ
few = pos 7 ∷ negsuc 2 ∷ pos 4 ∷ []

abbrev two : List ℤ
two = replicate 64 (pos 5) ++ replicate 64 (negsuc 8)

abbrev pub readings : List Rough
readings =
    -- the range from 10 to 150 meets three blocks, of which the middle one is wholly inside; its full count is 3 + 54 + 23
    rough rising 10 150 0 (figures 0 None bottom)
    ∷ rough rising 10 150 1 (figures 1 None bottom)
    ∷ rough rising 10 150 2 (figures 2 (Some (pos 1064)) bottom)
    ∷ rough rising 10 150 3 (figures 3 (Some (pos 1064)) (pos 1000))
    ∷ rough rising 10 150 4 (figures 4 (Some (pos 1010)) (pos 1000))
    ∷ rough rising 10 150 79 (figures 79 (Some (pos 1010)) (pos 1000))
    ∷ rough rising 10 150 80 (figures 80 (Some (pos 1010)) (pos 1010))
    ∷ rough rising 10 150 81 (figures 80 (Some (pos 1010)) (pos 1010))
    ∷ rough rising 10 150 18446744073709551615 (figures 80 (Some (pos 1010)) (pos 1010))
    -- left edge before right edge, and the entry of a block that is only partly inside is no high figure
    ∷ rough two 63 64 2 (figures 2 None (negsuc 8))
    ∷ rough two 63 64 3 (figures 3 (Some (pos 5)) (negsuc 8))
    ∷ rough two 63 64 4 (figures 4 (Some (negsuc 8)) (negsuc 8))
    -- a range inside one block: its entry, and its values, each once
    ∷ rough rising 70 100 1 (figures 1 None (pos 1064))
    ∷ rough rising 70 100 2 (figures 2 (Some (pos 1070)) (pos 1064))
    ∷ rough rising 70 100 31 (figures 31 (Some (pos 1070)) (pos 1064))
    ∷ rough rising 70 100 32 (figures 32 (Some (pos 1070)) (pos 1070))
    -- where no block is only partly inside, all entries read is the full count
    ∷ rough rising 64 191 1 (figures 1 (Some (pos 1064)) bottom)
    ∷ rough rising 64 191 2 (figures 2 (Some (pos 1064)) (pos 1064))
    ∷ rough rising 0 199 4 (figures 4 (Some (pos 1000)) (pos 1000))
    -- the least of what is known, wherever it stands: of entries, and of values
    ∷ rough (two ++ two) 0 255 2 (figures 2 (Some (negsuc 8)) bottom)
    ∷ rough (pos 7 ∷ negsuc 2 ∷ pos 4 ∷ pos 9 ∷ []) 0 2 3 (figures 3 (Some (negsuc 2)) (negsuc 2))
    -- the last, shorter block, wholly inside and not
    ∷ rough rising 192 199 1 (figures 1 (Some (pos 1192)) (pos 1192))
    ∷ rough rising 192 198 1 (figures 1 None (pos 1192))
    ∷ rough rising 193 199 8 (figures 8 (Some (pos 1193)) (pos 1193))
    ∷ rough few 0 2 1 (figures 1 (Some (negsuc 2)) (negsuc 2))
    ∷ rough few 0 1 2 (figures 2 (Some (pos 7)) (negsuc 2))
    ∷ rough few 2 2 2 (figures 2 (Some (pos 4)) (pos 4))
    -- an index that was not built from the take: what it holds decides
    ∷ over few (pos 9 ∷ []) 0 2 1 (figures 1 (Some (pos 9)) (pos 9))
    ∷ over few (pos 9 ∷ []) 0 1 1 (figures 1 None (pos 9))
    ∷ over few (pos 9 ∷ []) 0 1 2 (figures 2 (Some (pos 7)) (pos 9))
    ∷ over few (pos 9 ∷ []) 0 1 3 (figures 3 (Some (negsuc 2)) (negsuc 2))
    ∷ over two (pos 0 ∷ pos 1 ∷ []) 0 127 2 (figures 2 (Some (pos 0)) (pos 0))
    -- both ends of the values, −2,147,483,648 and 2,147,483,647
    ∷ rough (pos 2147483647 ∷ bottom ∷ []) 0 1 1 (figures 1 (Some bottom) bottom)
    ∷ rough (pos 2147483647 ∷ bottom ∷ []) 0 0 2 (figures 2 (Some (pos 2147483647)) (pos 2147483647))
    -- "Replies 14 and 15 hold here too, for B = 0 as well, with 0 looks used and neither figure shown", 15 before 14
    ∷ rough few 1 0 5 (refused_with 14)
    ∷ rough few 0 3 0 (refused_with 14)
    ∷ rough few 0 18446744073709551615 18446744073709551615 (refused_with 14)
    ∷ over few [] 0 2 5 (refused_with 15)
    ∷ over few (pos 0 ∷ pos 0 ∷ []) 1 0 0 (refused_with 15)
    ∷ over [] [] 0 0 1 (refused_with 14)
    ∷ over [] (pos 0 ∷ []) 0 0 0 (refused_with 15)
    ∷ []

-- a take's length, a range, and its looks
pub record Order : Type 0 where
  pub count : ℕ
  pub i : ℕ
  pub j : ℕ
  pub order : List Look

abbrev pub ordered : Order → Order
ordered e = record { count = e.count; i = e.i; j = e.j; order = looks e.count e.i e.j }

abbrev order : (count i j : ℕ) → List Look → Order
order count i j ls = record { count = count; i = i; j = j; order = ls }

abbrev pub orders : List Order
orders =
    -- two edges and no block wholly inside; both edges of three blocks
    order 200 62 65 (Entry 0 ∷ Entry 1 ∷ Value 62 ∷ Value 63 ∷ Value 64 ∷ Value 65 ∷ [])
    ∷ order 200 63 129 (Entry 0 ∷ Entry 1 ∷ Entry 2 ∷ Value 63 ∷ Value 128 ∷ Value 129 ∷ [])
    -- inside one block; one block exactly; one value
    ∷ order 200 70 72 (Entry 1 ∷ Value 70 ∷ Value 71 ∷ Value 72 ∷ [])
    ∷ order 200 64 127 (Entry 1 ∷ [])
    ∷ order 200 5 5 (Entry 0 ∷ Value 5 ∷ [])
    -- up to the end of the shorter last block, and not
    ∷ order 200 126 199 (Entry 1 ∷ Entry 2 ∷ Entry 3 ∷ Value 126 ∷ Value 127 ∷ [])
    ∷ order 195 192 193 (Entry 3 ∷ Value 192 ∷ Value 193 ∷ [])
    ∷ order 195 192 194 (Entry 3 ∷ [])
    ∷ order 1 0 0 (Entry 0 ∷ [])
    ∷ []

-- every call gives what an example says
abbrev pub Gives : ReadSays → Rough → Type 0
Gives says e = (r : Result Figures Refusal) → says e.values e.index e.i e.j e.budget r → told r ≡ e.tells

-- the full count of the range from 10 to 150 of 200 values
abbrev pub full_count : ℕ
full_count = length (looks 200 10 150)
