-- The two functions themselves. What a caller learns of each from its contract is `Learnt`, the reading that the checker makes of the `ensures` as it stands in the source, of the
-- arguments, the result and the parameters as the function returns. So a contract that is weakened breaks the laws here, on which point 2 rests.
use mathlib.Core.List.{List, []}
use Prim.Native.Nat.{ℕ}
use lib.IntN.{ℤ}
use contract.Lifetimes.{Lfts}
use denote.Ref.{MutBor, at_last}
use Rattle.window.specs.declared.Window.{Window}
use Rattle.window.specs.Answers.{Answer}
use Rattle.window.specs.Promises.{OpeningSays, ValueSays}
use Rattle.window.specs.Calls.{Opens, Does}
use Rattle.window.proofs.open.Reads as open-reads
use Rattle.window.proofs.value.Reads as value-reads

-- what is learnt of `open` for a width, on a `&mut [u64]` to the words `before`, which it left as `after`, and which gave o
abbrev pub Opened : OpeningSays
Opened width before after o = (κs : Lfts 1) × (x : MutBor (List ℕ)) × open-reads.Learnt κs (at_last x before, (width, tt)) o (at_last x after, (width, tt))

-- what is learnt of `value` on the session s, the value v and the words `lent`, which it left as `left`, and which gave r
abbrev pub Valued : ValueSays
Valued s v lent left r = (κs : Lfts 1) × (x : MutBor (List ℕ)) × value-reads.Learnt κs (s, (at_last x lent, (v, tt))) r (s, (at_last x left, (v, tt)))

pub opens : (width : ℕ) (first left : List ℕ) (o : Answer) → Opened width first left o → Opens width first left o
opens width first left o (κs, x, d) = d

pub does : (s : Window) (v : ℤ) (lent left : List ℕ) (r : Answer) → Valued s v lent left r → Does s v lent left r
does s v lent left r (κs, x, d) = d

-- THE CONVERSES: no more is learnt of the functions than their contracts say, so what is shown of every call that is made is shown of all that the contracts allow. The reference may be any
any : MutBor (List ℕ)
any = record { ref_ptr = (0, 0); ghost_name = 0; now = [] }

pub opened_of : (width : ℕ) (first left : List ℕ) (o : Answer) → Opens width first left o → Opened width first left o
opened_of width first left o d = (([], tt), any, d)

pub valued_of : (s : Window) (v : ℤ) (lent left : List ℕ) (r : Answer) → Does s v lent left r → Valued s v lent left r
valued_of s v lent left r d = (([], tt), any, d)
