-- The function itself. What a caller learns of `read` from its contract is `Learnt`, the reading that the checker makes of the `ensures` as it stands in the source. So a contract that is weakened
-- breaks the law here, on which point 6 rests.
use mathlib.Core.Path.{◌≡◌}
use mathlib.Core.List.{List, []}
use Prim.Native.Nat.{ℕ}
use lib.IntN.{ℤ}
use contract.Lifetimes.{Lfts}
use Rattle.std.specs.Prelude.{Result}
use Rattle.history.specs.declared.Refusal.{Refusal}
use Rattle.rough.specs.declared.Figures.{Figures}
use Rattle.rough.specs.Looks.{rough_reading, told}
use Rattle.rough.specs.Promises.{ReadSays}
use Rattle.rough.proofs.read.Reads as read-reads

-- what is learnt of `read`, on a `&[i32]` to the values and one to the index, which gave r
abbrev pub Read : ReadSays
Read values index i j B r =
    (κs : Lfts 2) × (x y : ℕ × ℕ)
    × read-reads.Learnt κs (record { ref_ptr = x; now = values }, (record { ref_ptr = y; now = index }, (i, (j, (B, tt))))) r (record { ref_ptr = x; now = values }, (record { ref_ptr = y; now = index }, (i, (j, (B, tt)))))

pub reads : (values index : List ℤ) (i j B : ℕ) (r : Result Figures Refusal) → Read values index i j B r → told r ≡ rough_reading values index i j B
reads values index i j B r (κs, x, y, d) = d

-- THE CONVERSE: no more is learnt of the function than its contract says. The references may be any
pub read_of : (values index : List ℤ) (i j B : ℕ) (r : Result Figures Refusal) → told r ≡ rough_reading values index i j B → Read values index i j B r
read_of values index i j B r d = (([], ([], tt)), (0, 0), (0, 0), d)
