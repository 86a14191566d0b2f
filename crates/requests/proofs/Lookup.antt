-- `lookup`, a program for POINTS 3 AND 6: its worked examples, and that there is no choice without a `set`, cited; what is printed of any input, used; and of one input, of the function that writes it.
use mathlib.Core.Path.{◌≡◌, refl, ap}
use mathlib.Core.List.{List, [], ◌∷◌}
use Rattle.std.specs.Prelude.{None}
use Prim.Native.Nat.{ℕ, suc}
use lib.IntN.{ℤ}
use lib.ListN.{length, set}
use borrow.Author.Tests.{ne_eqb}
use Rattle.history.specs.Minima.{lowest}
use Rattle.blocks.specs.Found.{Found}
use Rattle.blocks.specs.Takes.{block_minima_from}
use Rattle.blocks.specs.Calls.{Choice}
use Rattle.numbers.specs.FourBytes.{values_from}
use Rattle.text.specs.Writing.{digits_within}
use Rattle.text.specs.Examples.{AllPrinted}
use Rattle.listing.specs.declared.Request.{Request}
use Rattle.listing.specs.declared.Request.TheVariants.{Search, Stretch, Rough, Set}
use Rattle.listing.specs.Input.{take_of, request_of, requests_from, requests_of}
use Rattle.listing.specs.Output.{built_of, index_after, read_of, output_of}
use Rattle.listing.specs.Choices.{AllAllowed, Prints, exact_output, NoSet, Determined}
use Rattle.listing.specs.Examples.{examples, altered, altered_output}
use Rattle.listing.proofs.Determined as theorem
use Rattle.listing.proofs.Examples as listing
use Rattle.requests.specs.Lookup.{found}

examples_printed : AllPrinted exact_output examples
examples_printed = listing.examples_printed

examples_count : length examples ≡ 17
examples_count = refl

determined : Determined
determined = theorem.determined

-- in full: where no request is a `set`, what is printed is a function of the bytes
determined_whole : (bytes text : List ℕ) → NoSet (requests_of (read_of bytes)) → Prints bytes text → text ≡ exact_output bytes
determined_whole = theorem.determined

-- searches, stretches and rough readings do not alter the index
no_set_search : (i j : ℕ) (rs : List Request) → NoSet rs → NoSet (Search i j ∷ rs)
no_set_search i j rs u = u

no_set_stretch : (i j : ℕ) (rs : List Request) → NoSet rs → NoSet (Stretch i j ∷ rs)
no_set_stretch i j rs u = u

no_set_rough : (i j budget : ℕ) (rs : List Request) → NoSet rs → NoSet (Rough i j budget ∷ rs)
no_set_rough i j budget rs u = u

-- WHAT IS PRINTED OF ANY INPUT, with a `set` or without: the whole output, for a list of what each search found
printed_says : (bytes text : List ℕ) (p : Prints bytes text) → text ≡ output_of p.found bytes
printed_says bytes text p = p.says

printed_allowed : (bytes text : List ℕ) (p : Prints bytes text) → AllAllowed (take_of (read_of bytes)) (built_of (read_of bytes)) (requests_of (read_of bytes)) p.found
printed_allowed bytes text p = p.allowed

-- of which each entry is what `blocks` promises of that search, over the index as the requests before it left it
allowed_search : (values index : List ℤ) (i j : ℕ) (rs : List Request) (f : Found) (fs : List Found) → AllAllowed values index (Search i j ∷ rs) (f ∷ fs)
    → Choice values index i j f × AllAllowed values index rs fs
allowed_search values index i j rs f fs a = (a.0, a.1)

allowed_stretch : (values index : List ℤ) (i j : ℕ) (rs : List Request) (f : Found) (fs : List Found) → AllAllowed values index (Stretch i j ∷ rs) (f ∷ fs) → AllAllowed values index rs fs
allowed_stretch values index i j rs f fs a = a.1

allowed_rough : (values index : List ℤ) (i j budget : ℕ) (rs : List Request) (f : Found) (fs : List Found) → AllAllowed values index (Rough i j budget ∷ rs) (f ∷ fs) → AllAllowed values index rs fs
allowed_rough values index i j budget rs f fs a = a.1

allowed_set : (values index : List ℤ) (k : ℕ) (v : ℤ) (rs : List Request) (f : Found) (fs : List Found) → AllAllowed values index (Set k v ∷ rs) (f ∷ fs)
    → AllAllowed values (set index k v) rs fs
allowed_set values index k v rs f fs a = a.1

-- and there is one for each request
allowed_each : (values index : List ℤ) (rs : List Request) (fs : List Found) → AllAllowed values index rs fs → length fs ≡ length rs
allowed_each values index [] [] a = refl
allowed_each values index [] (f ∷ fs) a = absurd a
allowed_each values index (r ∷ rs) [] a = absurd a
allowed_each values index (r ∷ rs) (f ∷ fs) a = ap suc (allowed_each values (index_after index r) rs fs a.1)

-- no other kind byte than 01 to 04 is a request's
unknown_kind : (kind a b c : ℕ) → (kind ≡ 1 → ⊥) → (kind ≡ 2 → ⊥) → (kind ≡ 3 → ⊥) → (kind ≡ 4 → ⊥) → request_of kind a b c ≡ None
unknown_kind kind a b c p q r s = simp (ne_eqb kind 1 p, ne_eqb kind 2 q, ne_eqb kind 3 r, ne_eqb kind 4 s)

-- over an altered index, either of two lines: 9 at 0, and 7 at 1
either_printed : Prints altered (altered_output (57 ∷ 32 ∷ 48 ∷ [])) × Prints altered (altered_output (55 ∷ 32 ∷ 49 ∷ []))
either_printed = ((listing.either_printed).0, (listing.either_printed).1)

-- whatever is printed of these bytes is that output, whole
pub example_printed : (text : List ℕ)
    → Prints (2 ∷ 0 ∷ 0 ∷ 0 ∷ 5 ∷ 0 ∷ 0 ∷ 0 ∷ 253 ∷ 255 ∷ 255 ∷ 255 ∷ 1 ∷ 0 ∷ 0 ∷ 0 ∷ 1 ∷ 0 ∷ 0 ∷ 0 ∷ 0 ∷ 1 ∷ 0 ∷ 0 ∷ 0 ∷ 0 ∷ 0 ∷ 0 ∷ 0 ∷ []) text → text ≡ found
unfolding digits_within lowest block_minima_from values_from requests_from
example_printed text p = theorem.determined _ text tt p
