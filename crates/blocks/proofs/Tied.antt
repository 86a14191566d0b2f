-- The three functions themselves. What a caller learns of each from its contract is `Learnt`, the reading that the checker makes of the `ensures` as it stands in the source. So a
-- contract that is weakened breaks the laws here, on which point 3 rests.
use mathlib.Core.List.{List, []}
use Prim.Native.Nat.{ℕ}
use lib.IntN.{ℤ}
use contract.Lifetimes.{Lfts}
use denote.Ref.{MutBor, at_last}
use Rattle.std.specs.Prelude.{Result}
use Rattle.history.specs.declared.Refusal.{Refusal}
use Rattle.blocks.specs.Found.{Found}
use Rattle.blocks.specs.Calls.{Builds, Searches, Stretches}
use Rattle.blocks.specs.Promises.{BuildSays, SearchSays, StretchSays}
use Rattle.blocks.proofs.build.Reads as build-reads
use Rattle.blocks.proofs.search.Reads as search-reads
use Rattle.blocks.proofs.stretch.Reads as stretch-reads

-- what is learnt of `build`, on a `&[i32]` to the values and a `&mut [i32]` to an index that was `before` and is `after`, which gave r
abbrev pub Built : BuildSays
Built values before after r =
    (κs : Lfts 2) × (x : ℕ × ℕ) × (y : MutBor (List ℤ)) × build-reads.Learnt κs (record { ref_ptr = x; now = values }, (at_last y before, tt)) r (record { ref_ptr = x; now = values }, (at_last y after, tt))

-- of `search`, on a `&[i32]` to the values and one to the index
abbrev pub Searched : SearchSays
Searched values index i j r =
    (κs : Lfts 2) × (x y : ℕ × ℕ)
    × search-reads.Learnt κs (record { ref_ptr = x; now = values }, (record { ref_ptr = y; now = index }, (i, (j, tt)))) r (record { ref_ptr = x; now = values }, (record { ref_ptr = y; now = index }, (i, (j, tt))))

-- and of `stretch`, on a `&[i32]` to the values, which start at `at`; it gave a `&[i32]` to the part, which starts at `start`
abbrev pub Stretched : StretchSays
Stretched at values i j start part =
    (κs : Lfts 1)
    × stretch-reads.Learnt κs (record { ref_ptr = at; now = values }, (i, (j, tt))) (record { ref_ptr = start; now = part }) (record { ref_ptr = at; now = values }, (i, (j, tt)))

pub builds : (values before after : List ℤ) (r : Result (Unit {0}) Refusal) → Built values before after r → Builds values before after r
builds values before after r (κs, x, y, d) = d

pub searches : (values index : List ℤ) (i j : ℕ) (r : Result Found Refusal) → Searched values index i j r → Searches values index i j r
searches values index i j r (κs, x, y, d) = d

pub stretches : (at : ℕ × ℕ) (values : List ℤ) (i j : ℕ) (start : ℕ × ℕ) (part : List ℤ) → Stretched at values i j start part → Stretches at values i j start part
stretches at values i j start part (κs, d) = d

-- THE CONVERSES: no more is learnt of the functions than their contracts say. The references may be any
any : MutBor (List ℤ)
any = record { ref_ptr = (0, 0); ghost_name = 0; now = [] }

pub built_of : (values before after : List ℤ) (r : Result (Unit {0}) Refusal) → Builds values before after r → Built values before after r
built_of values before after r d = (([], ([], tt)), (0, 0), any, d)

pub searched_of : (values index : List ℤ) (i j : ℕ) (r : Result Found Refusal) → Searches values index i j r → Searched values index i j r
searched_of values index i j r d = (([], ([], tt)), (0, 0), (0, 0), d)

pub stretched_of : (at : ℕ × ℕ) (values : List ℤ) (i j : ℕ) (start : ℕ × ℕ) (part : List ℤ) → Stretches at values i j start part → Stretched at values i j start part
stretched_of at values i j start part d = (([], tt), d)
