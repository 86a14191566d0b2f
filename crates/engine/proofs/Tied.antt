-- The six functions themselves. What a caller learns of each from its contract is `Learnt`, the reading that the checker makes of the
-- `ensures` as it stands in the source, of the arguments, the result and the parameters as the function returns. So a contract that is weakened, or
-- cites another command, breaks the laws here, on which the demands rest.
use mathlib.Core.Path.{◌≡◌}
use mathlib.Core.List.{List, []}
use mathlib.Core.Logic.{◌⊎◌}
use Prim.Native.Nat.{ℕ}
use contract.Lifetimes.{Lfts}
use denote.Ref.{MutBor, at_last, as_bor}
use Rattle.history.specs.declared.Session.{Session}
use Rattle.history.specs.declared.Command.{Command}
use Rattle.history.specs.declared.Command.TheVariants.{Value, Mark, Query, Close}
use Rattle.engine.specs.Answers.{Answer}
use Rattle.engine.specs.Demand.{OpeningSays, CommandSays}
use Rattle.engine.specs.Calls.{Opens, Does}
use Rattle.engine.proofs.Settling.{query_reads_only}
use Rattle.engine.proofs.open.Reads as open-reads
use Rattle.engine.proofs.value.Reads as value-reads
use Rattle.engine.proofs.mark.Reads as mark-reads
use Rattle.engine.proofs.query.Reads as query-reads
use Rattle.engine.proofs.close.Reads as close-reads
use Rattle.engine.proofs.apply.Reads as apply-reads

-- what is learnt of `open` on a `&mut [u64]` to the words `before`, which it left as `after`, and which gave o
abbrev pub Opened : OpeningSays
Opened before after o = (κs : Lfts 1) × (x : MutBor (List ℕ)) × open-reads.Learnt κs (at_last x before, tt) o (at_last x after, tt)

-- what is learnt of the command's own function on the session s and the words `lent`, which it left as `left`, and which gave r. A `query`
-- has a `&[u64]`, which nothing can be written through
abbrev pub ByOwn : CommandSays
ByOwn s (Value v) lent left r =
    (κs : Lfts 1) × (x : MutBor (List ℕ)) × value-reads.Learnt κs (s, (at_last x lent, (v, tt))) r (s, (at_last x left, (v, tt)))
ByOwn s Mark lent left r =
    (κs : Lfts 1) × (x : MutBor (List ℕ)) × mark-reads.Learnt κs (s, (at_last x lent, tt)) r (s, (at_last x left, tt))
ByOwn s (Query i) lent left r =
    (κs : Lfts 1) × (x : MutBor (List ℕ)) × query-reads.Learnt κs (s, (as_bor (at_last x lent), (i, tt))) r (s, (as_bor (at_last x lent), (i, tt))) × (left ≡ lent)
ByOwn s (Close i) lent left r =
    (κs : Lfts 1) × (x : MutBor (List ℕ)) × close-reads.Learnt κs (s, (at_last x lent, (i, tt))) r (s, (at_last x left, (i, tt)))

-- what is learnt of `apply`, which takes any command
abbrev pub ByApply : CommandSays
ByApply s c lent left r =
    (κs : Lfts 1) × (x : MutBor (List ℕ)) × apply-reads.Learnt κs (s, (at_last x lent, (c, tt))) r (s, (at_last x left, (c, tt)))

-- a command is called by its own function or by `apply`
abbrev pub Called : CommandSays
Called s c lent left r = ByOwn s c lent left r ⊎ ByApply s c lent left r

pub opens : (first left : List ℕ) (o : Answer) → Opened first left o → Opens first left o
opens first left o (κs, x, d) = d

pub does_own : (s : Session) (c : Command) (lent left : List ℕ) (r : Answer) → ByOwn s c lent left r → Does s c lent left r
does_own s (Value v) lent left r (κs, x, d) = d
does_own s Mark lent left r (κs, x, d) = d
does_own s (Query i) lent left r (κs, x, d, e) = rw e d
does_own s (Close i) lent left r (κs, x, d) = d

-- THE CONVERSES: no more is learnt of the functions than their contracts say, so what is shown of every opening that is opened and of every command that is called is
-- shown of all that the contracts allow. The reference may be any
any : MutBor (List ℕ)
any = record { ref_ptr = (0, 0); ghost_name = 0; now = [] }

pub opened_of : (first left : List ℕ) (o : Answer) → Opens first left o → Opened first left o
opened_of first left o d = (([], tt), any, d)

pub own_of : (s : Session) (c : Command) (lent left : List ℕ) (r : Answer) → Does s c lent left r → ByOwn s c lent left r
own_of s (Value v) lent left r d = (([], tt), any, d)
own_of s Mark lent left r d = (([], tt), any, d)
own_of s (Query i) lent left r d =
    let e = query_reads_only d.settled in
    (([], tt), any, rw e at d, e)
own_of s (Close i) lent left r d = (([], tt), any, d)

pub apply_of : (s : Session) (c : Command) (lent left : List ℕ) (r : Answer) → Does s c lent left r → ByApply s c lent left r
apply_of s c lent left r d = (([], tt), any, d)
