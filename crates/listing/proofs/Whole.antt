-- What is read of an input, and the first of equal values, of which an index is made.
use mathlib.Core.Path.{◌≡◌, refl, ap}
use mathlib.Core.List.{List, ◌∷◌}
use Prim.Native.Nat.{ℕ, zero, suc, ◌≤◌}
use native.Mathlib.Omega.{arith}
use lib.IntN.{ℤ}
use lib.ListN.{take, replicate}
use Rattle.text.specs.declared.Page.{Page}
use Rattle.listing.specs.Output.{read_of}
use Rattle.listing.specs.Choices.{Prints}
use Rattle.listing.specs.Private.{Plays}

-- the first of equal values
pub take_replicate : (m n : ℕ) (v : ℤ) → n ≤ m → take n (replicate m v) ≡ replicate n v
take_replicate m zero v l = refl
take_replicate zero (suc n) v l = absurd (omega arith)
take_replicate (suc m) (suc n) v l = ap (λ (x : List ℤ). v ∷ x) (take_replicate m n v (omega arith))

-- what is read of an input, all played on an empty page
pub all_read : {bytes : List ℕ} {page written : Page} → page.used ≡ 0 → Plays (read_of bytes) page written → Prints bytes (take written.used written.out.now)
all_read z p = record { found = p.found; allowed = p.allowed; says = rw z at p.prints.adds.says }
