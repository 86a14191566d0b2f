-- The five exported functions themselves. What C is told by each is `Learnt`, the reading that the checker makes of the `ensures` as it stands in the source, of the arguments, the result and the
-- parameters as the function returns. So a contract that is weakened, or cites another command, breaks the laws here, on which the demands rest.
use mathlib.Core.Path.{◌≡◌}
use mathlib.Core.List.{List, []}
use Prim.Native.Nat.{ℕ}
use contract.Lifetimes.{Lfts}
use denote.Ref.{MutBor, at_last, as_bor}
use Rattle.history.specs.declared.Command.{Command}
use Rattle.history.specs.declared.Command.TheVariants.{Value, Mark, Query, Close}
use Rattle.engine.proofs.Settling.{query_reads_only}
use Rattle.firmware.specs.declared.sessions.SessionNumbers.{SessionNumbers}
use Rattle.firmware.specs.declared.sessions.AnswerNumbers.{AnswerNumbers}
use Rattle.firmware.specs.Sessions.{OpensInNumbers, DoesInNumbers}
use Rattle.firmware.specs.Demands.{OpeningSays, CommandSays}
use Rattle.firmware.proofs.filkotar_open.Reads as open-reads
use Rattle.firmware.proofs.filkotar_value.Reads as value-reads
use Rattle.firmware.proofs.filkotar_mark.Reads as mark-reads
use Rattle.firmware.proofs.filkotar_query.Reads as query-reads
use Rattle.firmware.proofs.filkotar_close.Reads as close-reads

-- what C is told by `filkotar_open` of the words `before`, which it left as `after`, and which gave r
abbrev pub Opened : OpeningSays
Opened before after r = (κs : Lfts 1) × (x : MutBor (List ℕ)) × open-reads.Learnt κs (at_last x before, tt) r (at_last x after, tt)

-- and by the command's function of the numbers s and the words `lent`, which it left as `left`, and which gave r. `filkotar_query` has a `&[u64]`, C's `const uint64_t *`, which nothing can be
-- written through
abbrev pub Called : CommandSays
Called s (Value v) lent left r =
    (κs : Lfts 1) × (x : MutBor (List ℕ)) × value-reads.Learnt κs (s, (at_last x lent, (v, tt))) r (s, (at_last x left, (v, tt)))
Called s Mark lent left r =
    (κs : Lfts 1) × (x : MutBor (List ℕ)) × mark-reads.Learnt κs (s, (at_last x lent, tt)) r (s, (at_last x left, tt))
Called s (Query i) lent left r =
    (κs : Lfts 1) × (x : MutBor (List ℕ)) × query-reads.Learnt κs (s, (as_bor (at_last x lent), (i.0, tt))) r (s, (as_bor (at_last x lent), (i.0, tt))) × (left ≡ lent)
Called s (Close i) lent left r =
    (κs : Lfts 1) × (x : MutBor (List ℕ)) × close-reads.Learnt κs (s, (at_last x lent, (i.0, tt))) r (s, (at_last x left, (i.0, tt)))

pub opens : (first left : List ℕ) (r : AnswerNumbers) → Opened first left r → OpensInNumbers first left r
opens first left r (κs, x, d) = d

pub does : (s : SessionNumbers) (c : Command) (lent left : List ℕ) (r : AnswerNumbers) → Called s c lent left r → DoesInNumbers s c lent left r
does s (Value v) lent left r (κs, x, d) = d
does s Mark lent left r (κs, x, d) = d
does s (Query i) lent left r (κs, x, d, e) = rw e d
does s (Close i) lent left r (κs, x, d) = d

-- THE CONVERSES: C is told no more than the contracts say, so what is shown of every call that is made is shown of all that the contracts allow. The reference may be any
any : MutBor (List ℕ)
any = record { ref_ptr = (0, 0); ghost_name = 0; now = [] }

pub opened_of : (first left : List ℕ) (r : AnswerNumbers) → OpensInNumbers first left r → Opened first left r
opened_of first left r d = (([], tt), any, d)

pub called_of : (s : SessionNumbers) (c : Command) (lent left : List ℕ) (r : AnswerNumbers) → DoesInNumbers s c lent left r → Called s c lent left r
called_of s (Value v) lent left r d = (([], tt), any, d)
called_of s Mark lent left r d = (([], tt), any, d)
called_of s (Query i) lent left r d =
    let e = query_reads_only d.does.settled in
    (([], tt), any, rw e at d, e)
called_of s (Close i) lent left r d = (([], tt), any, d)
