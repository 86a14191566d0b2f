-- What is the program's own choice in its output. Document 02, point 3: "Correct replies presuppose an index built from that take; otherwise the search stays in bounds, and the value and place
-- shown are its own choice." The program searches over an index that request 04 has altered, too; so what a search finds is no function of the bytes there. It is whatever `blocks` promises
-- of that search (`Choice`): over the take's index the least value of the range with its earliest place, over any other index of as many entries some value, and a place of the range. All else in the
-- output is a function of the bytes, and so is what a rough reading tells, over an altered index too.
use Rattle.std.specs.Prelude.{◌≡◌, List, [], ◌∷◌, map, ℕ, ℤ, pos}
use Rattle.blocks.specs.Found.{Found}
use Rattle.blocks.specs.Takes.{range_minimum}
use Rattle.blocks.specs.Calls.{Choice}
use Rattle.listing.specs.declared.Request.{Request}
use Rattle.listing.specs.declared.Request.TheVariants.{Search, Stretch, Rough, Set}
use Rattle.listing.specs.Input.{take_of, requests_of}
use Rattle.listing.specs.Output.{built_of, index_after, read_of, output_of}

-- what stands for a request that finds nothing, where something has to
abbrev pub unused : Found
unused = record { value = pos 0; place = record { 0 = 0 } }

-- what may stand for a request in the list of what is found, over a take and the index as it then is. No request but a search finds anything
abbrev pub Allowed : (values index : List ℤ) → Request → Found → Type 0
Allowed values index (Search i j) f = Choice values index i j f
Allowed values index (Stretch i j) f = Unit {0}
Allowed values index (Rough i j budget) f = Unit {0}
Allowed values index (Set a v) f = Unit {0}

-- and so it is with each request, over the index as those before it leave it. There is one entry for each
abbrev pub AllAllowed : (values index : List ℤ) → List Request → List Found → Type 0
AllAllowed values index [] [] = Unit {0}
AllAllowed values index [] (f ∷ fs) = ⊥
AllAllowed values index (r ∷ rs) [] = ⊥
AllAllowed values index (r ∷ rs) (f ∷ fs) = Allowed values index r f × AllAllowed values (index_after index r) rs fs

-- WHAT IS PRINTED of an input: the whole output for a list that may be found
pub record Prints (bytes text : List ℕ) : Type 0 where
  pub found : List Found
  pub allowed : AllAllowed (take_of (read_of bytes)) (built_of (read_of bytes)) (requests_of (read_of bytes)) found
  pub says : text ≡ output_of found bytes

-- what each search finds by the definition alone, whatever the index holds: "the least value from i to j", with its earliest place (point 5)
abbrev pub least_for : List ℤ → Request → Found
least_for values (Search i j) = range_minimum values i j
least_for values (Stretch i j) = unused
least_for values (Rough i j budget) = unused
least_for values (Set a v) = unused

-- the whole output where each search finds that
abbrev pub exact_output : List ℕ → List ℕ
exact_output bytes = output_of (map (least_for (take_of (read_of bytes))) (requests_of (read_of bytes))) bytes

-- no request of a list alters the index
abbrev pub NoSet : List Request → Type 0
NoSet [] = Unit {0}
NoSet (Search i j ∷ rs) = NoSet rs
NoSet (Stretch i j ∷ rs) = NoSet rs
NoSet (Rough i j budget ∷ rs) = NoSet rs
NoSet (Set a v ∷ rs) = ⊥

-- THERE IS NO CHOICE WITHOUT A `set`: what is printed is a function of the bytes
abbrev pub Determined : Type 0
Determined = (bytes text : List ℕ) → NoSet (requests_of (read_of bytes)) → Prints bytes text → text ≡ exact_output bytes
