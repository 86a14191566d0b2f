-- WHAT INCLUDE/FILKOTAR.H PROMISES OF THE ENGINE'S CALLS, line by line, in the numbers that C hands in and gets. What C is told by each function is `Opened` or `Called`, the reading that the checker
-- makes of the `ensures` as it stands in the source. So a clause that is dropped, or that gains a hypothesis or an alternative, no longer proves what stands here.
use mathlib.Core.Path.{◌≡◌, refl, ap, ◌∙◌}
use mathlib.Core.Bool.{true, false, cond}
use mathlib.Core.List.{List, [], ◌∷◌}
use mathlib.Core.Logic.{◌⊎◌, inl, inr}
use Prim.Native.Nat.{ℕ, ◌+◌, ◌*◌, ◌-◌, ◌/◌, min, ◌<◌, ◌≤◌}
use native.Mathlib.Omega.{arith}
use native.Mathlib.Decide.{ℕ_discrete}
use lib.IntN.{ℤ, pos}
use lib.ListN.{length, get_or}
use lib.Signed.{le_z}
use borrow.Author.Tests.{eq-eqb, ne_eqb}
use contract.Lifetimes.{Lfts}
use denote.Ref.{MutBor, Bor, at_last, as_bor}
use denote.Signature.{plain}
use denote.Builtin.{SliceRefOf, SliceRefMutOf, u64, u32, i32}
use denote.Struct.Field.{usize-field, u32-field, i32-field}
use Rattle.history.specs.declared.Position.{Position}
use Rattle.history.specs.declared.Standing.{Standing}
use Rattle.history.specs.declared.Standing.TheVariants.{None, Unmarked, Marked, Closed}
use Rattle.history.specs.declared.Command.{Command}
use Rattle.history.specs.declared.Command.TheVariants.{Value, Mark, Query, Close}
use Rattle.history.specs.Minima.{Least, value_at, last_of}
use Rattle.history.specs.Minimum.{Minimum}
use Rattle.history.specs.Replies.{numbered, showing}
use Rattle.history.specs.Histories.{History, among, opening}
use Rattle.history.specs.Histories as Paper
use Rattle.runs.specs.Runs.{is_own, Call, Made, EachCall}
use Rattle.engine.specs.Promises.{MarkNumber, OwnNumber}
use Rattle.firmware.specs.declared.sessions.SessionNumbers.{SessionNumbers}
use Rattle.firmware.specs.declared.sessions.AnswerNumbers.{AnswerNumbers}
use Rattle.firmware.specs.Sessions.{standing_number, standing_from, session_from, told_numbers}
use Rattle.firmware.specs.Demands.{session_with, plainly, model, Answered, Meets}
use Rattle.firmware.specs.contracts.sessions.SessionNumbers as session-type
use Rattle.firmware.specs.contracts.sessions.AnswerNumbers as answer-type
use Rattle.firmware.specs.contracts.filkotar_open as open-function
use Rattle.firmware.specs.contracts.filkotar_value as value-function
use Rattle.firmware.specs.contracts.filkotar_mark as mark-function
use Rattle.firmware.specs.contracts.filkotar_query as query-function
use Rattle.firmware.specs.contracts.filkotar_close as close-function
use Rattle.firmware.proofs.filkotar_open.Reads as open-reads
use Rattle.firmware.proofs.filkotar_value.Reads as value-reads
use Rattle.firmware.proofs.filkotar_mark.Reads as mark-reads
use Rattle.firmware.proofs.filkotar_query.Reads as query-reads
use Rattle.firmware.proofs.filkotar_close.Reads as close-reads
use Rattle.firmware.proofs.Tied.{Opened, Called}
use Rattle.firmware.proofs.Functions.{demand_1, demand_3}

-- THE TYPES, where a slice is a pointer and a length: the numbers of a session and of an answer, in this order, and what each function takes and gives
session_numbers : (session-type.struct).parts ≡ usize-field ∷ usize-field ∷ usize-field ∷ u32-field ∷ i32-field ∷ u32-field ∷ []
session_numbers = refl

session_order : (s : SessionNumbers) → (session-type.struct).as_values s ≡ (s.words, (s.limit, (s.active, (s.present, (s.last, (s.standing, tt))))))
session_order s = refl

answer_numbers : (answer-type.struct).parts ≡ session-type.the_field ∷ u32-field ∷ i32-field ∷ u32-field ∷ []
answer_numbers = refl

answer_order : (r : AnswerNumbers) → (answer-type.struct).as_values r ≡ (r.session, (r.number, (r.value, (r.place, tt))))
answer_order r = refl

open_takes : (open-function.signature).params ≡ SliceRefMutOf (0 ∷ []) tt (plain (λ κs. u64)) (λ κs. tt) ∷ []
open_takes = refl

value_takes : (value-function.signature).params ≡ plain (λ κs. session-type.the_row) ∷ SliceRefMutOf (0 ∷ []) tt (plain (λ κs. u64)) (λ κs. tt) ∷ plain (λ κs. i32) ∷ []
value_takes = refl

mark_takes : (mark-function.signature).params ≡ plain (λ κs. session-type.the_row) ∷ SliceRefMutOf (0 ∷ []) tt (plain (λ κs. u64)) (λ κs. tt) ∷ []
mark_takes = refl

query_takes : (query-function.signature).params ≡ plain (λ κs. session-type.the_row) ∷ SliceRefOf (0 ∷ []) tt (plain (λ κs. u64)) (λ κs. tt) ∷ plain (λ κs. u32) ∷ []
query_takes = refl

close_takes : (close-function.signature).params ≡ plain (λ κs. session-type.the_row) ∷ SliceRefMutOf (0 ∷ []) tt (plain (λ κs. u64)) (λ κs. tt) ∷ plain (λ κs. u32) ∷ []
close_takes = refl

open_gives : (open-function.signature).result ≡ plain (λ κs. answer-type.the_row)
open_gives = refl

value_gives : (value-function.signature).result ≡ plain (λ κs. answer-type.the_row)
value_gives = refl

mark_gives : (mark-function.signature).result ≡ plain (λ κs. answer-type.the_row)
mark_gives = refl

query_gives : (query-function.signature).result ≡ plain (λ κs. answer-type.the_row)
query_gives = refl

close_gives : (close-function.signature).result ≡ plain (λ κs. answer-type.the_row)
close_gives = refl

-- none of them asks for anything
open_asks_nothing : (κs : Lfts 1) (x : MutBor (List ℕ)) → open-reads.Asked κs (x, tt)
open_asks_nothing κs x = tt

value_asks_nothing : (κs : Lfts 1) (s : SessionNumbers) (x : MutBor (List ℕ)) (v : ℤ) → value-reads.Asked κs (s, (x, (v, tt)))
value_asks_nothing κs s x v = tt

mark_asks_nothing : (κs : Lfts 1) (s : SessionNumbers) (x : MutBor (List ℕ)) → mark-reads.Asked κs (s, (x, tt))
mark_asks_nothing κs s x = tt

query_asks_nothing : (κs : Lfts 1) (s : SessionNumbers) (x : Bor (List ℕ)) (i : ℕ) → query-reads.Asked κs (s, (x, (i, tt)))
query_asks_nothing κs s x i = tt

close_asks_nothing : (κs : Lfts 1) (s : SessionNumbers) (x : MutBor (List ℕ)) (i : ℕ) → close-reads.Asked κs (s, (x, (i, tt)))
close_asks_nothing κs s x i = tt

-- what C is told by each is what the checker reads of its `ensures`, of the arguments, the answer and the words before and after
opened_is : (first left : List ℕ) (r : AnswerNumbers)
    → Opened first left r ≡ ((κs : Lfts 1) × (x : MutBor (List ℕ)) × open-reads.Learnt κs (at_last x first, tt) r (at_last x left, tt))
opened_is first left r = refl

module _ (s : SessionNumbers) (lent left : List ℕ) (r : AnswerNumbers) where
  value_is : (v : ℤ) → Called s (Value v) lent left r
      ≡ ((κs : Lfts 1) × (x : MutBor (List ℕ)) × value-reads.Learnt κs (s, (at_last x lent, (v, tt))) r (s, (at_last x left, (v, tt))))
  value_is v = refl

  mark_is : Called s Mark lent left r ≡ ((κs : Lfts 1) × (x : MutBor (List ℕ)) × mark-reads.Learnt κs (s, (at_last x lent, tt)) r (s, (at_last x left, tt)))
  mark_is = refl

  query_is : (i : Position) → Called s (Query i) lent left r
      ≡ ((κs : Lfts 1) × (x : MutBor (List ℕ)) × query-reads.Learnt κs (s, (as_bor (at_last x lent), (i.0, tt))) r (s, (as_bor (at_last x lent), (i.0, tt))) × (left ≡ lent))
  query_is i = refl

  close_is : (i : Position) → Called s (Close i) lent left r
      ≡ ((κs : Lfts 1) × (x : MutBor (List ℕ)) × close-reads.Learnt κs (s, (at_last x lent, (i.0, tt))) r (s, (at_last x left, (i.0, tt))))
  close_is i = refl

-- ON ANY NUMBERS AND ANY WORDS: an opening
module _ (first left : List ℕ) (r : AnswerNumbers) (d : Opened first left r) where
  open_1 : length first < 576 → (r ≡ plainly 1 (session_with 0 0 0 0 (pos 0) 0)) × (left ≡ first)
  open_1 = (demand_1.opening first left r d).too_short

  open_0 : 576 ≤ length first → r ≡ plainly 0 (session_with (length first) (min ((length first - 512) / 64) 4096) 0 0 (pos 0) 0)
  open_0 = (demand_1.opening first left r d).long_enough

  open_rest : (i : ℕ) → 512 ≤ i → get_or left i 0 ≡ get_or first i 0
  open_rest = (demand_1.opening first left r d).rest

  open_long : length left ≡ length first
  open_long = (demand_1.opening first left r d).long

-- any command
module _ (s : SessionNumbers) (c : Command) (lent left : List ℕ) (r : AnswerNumbers) (d : Called s c lent left r) where
  -- "With any number but 0 nothing has happened: session is s, field by field, no word is written, and value and place are 0."
  nothing_happened : (r.number ≡ 0 → ⊥) → (r ≡ plainly r.number s) × (left ≡ lent)
  nothing_happened z = (demand_1.command s c lent left r d).refused z

  told_4 : s.words ≡ 0 → r.number ≡ 4
  told_4 z = (demand_1.command s c lent left r d).number.unopened z

  told_5 : (s.words ≡ 0 → ⊥) → (length lent ≡ s.words → ⊥) → r.number ≡ 5
  told_5 z o = (demand_1.command s c lent left r d).number.other_length z o

  as_long : length left ≡ length lent
  as_long = (demand_1.command s c lent left r d).long

  -- its own numbers, on an open session and words of its length
  own_told : (s.words ≡ 0 → ⊥) → length lent ≡ s.words → OwnNumber (session_from s) c r.number
  own_told z l = (demand_1.command s c lent left r d).number.own z l

module _ (s : SessionNumbers) (lent left : List ℕ) (r : AnswerNumbers) where
  -- `filkotar_value`
  module _ (v : ℤ) (d : Called s (Value v) lent left r) where
    value_6 : (s.words ≡ 0 → ⊥) → length lent ≡ s.words → s.present ≡ 4294967295 → r.number ≡ 6
    value_6 z l e = (own_told s (Value v) lent left r d z l).0 e

    value_0 : (s.words ≡ 0 → ⊥) → length lent ≡ s.words → (s.present ≡ 4294967295 → ⊥)
        → (active : ℕ) × (r ≡ plainly 0 (session_with s.words s.limit active (s.present + 1) v 1))
    value_0 z l e = (demand_1.command s (Value v) lent left r d).accepted ((own_told s (Value v) lent left r d z l).1 e)

  -- `filkotar_mark`
  module _ (d : Called s Mark lent left r) (z : s.words ≡ 0 → ⊥) (l : length lent ≡ s.words) where
    by_standing : (k : Standing) → standing_from s.standing ≡ k → MarkNumber (session_from s) k r.number
    by_standing k e = rw e at (own_told s Mark lent left r d z l)

    mark_7 : s.standing ≡ 0 → r.number ≡ 7
    mark_7 e = by_standing None (ap standing_from e)

    mark_8 : s.standing ≡ 2 → r.number ≡ 8
    mark_8 e = by_standing Marked (ap standing_from e)

    -- a standing above 3 counts as 3
    mark_9 : 3 ≤ s.standing → r.number ≡ 9
    mark_9 g = by_standing Closed (rw (ne_eqb s.standing 0 (λ e. omega (arith, e, g)), ne_eqb s.standing 1 (λ e. omega (arith, e, g)), ne_eqb s.standing 2 (λ e. omega (arith, e, g))) refl)

    mark_10 : s.standing ≡ 1 → s.active ≡ s.limit → r.number ≡ 10
    mark_10 e f = (by_standing Unmarked (ap standing_from e)).0 f

    -- 10 for no other reason than that K are active, unless 4,096 or more are counted
    mark_other : s.standing ≡ 1 → (s.active ≡ s.limit → ⊥) → s.active < 4096 → r.number ≡ 0
    mark_other e f g = go (by_standing Unmarked (ap standing_from e)).1
      where
        go : (r.number ≡ 0) ⊎ ((r.number ≡ 10) × ((s.active ≡ s.limit) ⊎ (4096 ≤ s.active))) → r.number ≡ 0
        go (inl n) = n
        go (inr (n, inl o)) = absurd (f o)
        go (inr (n, inr o)) = absurd (omega (arith, o, g))

  mark_0 : (d : Called s Mark lent left r) → r.number ≡ 0 → (active : ℕ) × (r ≡ plainly 0 (session_with s.words s.limit active s.present s.last 2))
  mark_0 d z = (demand_1.command s Mark lent left r d).accepted z

  -- `filkotar_query`
  module _ (i : Position) (d : Called s (Query i) lent left r) where
    query_11 : (s.words ≡ 0 → ⊥) → length lent ≡ s.words → (i.0 ≡ 0) ⊎ (s.present < i.0) → r.number ≡ 11
    query_11 z l (inl e) = (own_told s (Query i) lent left r d z l).zero e
    query_11 z l (inr e) = (own_told s (Query i) lent left r d z l).future e

    query_other : (s.words ≡ 0 → ⊥) → length lent ≡ s.words → (r.number ≡ 0) ⊎ (r.number ≡ 11)
    query_other z l = (own_told s (Query i) lent left r d z l).other

    -- "With 0 too session is s, field by field, and no word is written."
    query_keeps : (r.session ≡ s) × (left ≡ lent)
    query_keeps = elim (ℕ_discrete r.number 0) [
      | yes z ↦ (demand_1.command s (Query i) lent left r d).accepted z
      | no z ↦ let x = nothing_happened s (Query i) lent left r d z in (ap (λ (y : AnswerNumbers). y.session) x.0, x.1)
    ]

  -- `filkotar_close`
  module _ (i : Position) (d : Called s (Close i) lent left r) where
    close_11 : (s.words ≡ 0 → ⊥) → length lent ≡ s.words → (i.0 ≡ 0) ⊎ (s.present < i.0) ⊎ (s.active ≡ 0) → r.number ≡ 11
    close_11 z l (inl e) = (own_told s (Close i) lent left r d z l).0.zero e
    close_11 z l (inr (inl e)) = (own_told s (Close i) lent left r d z l).0.future e
    close_11 z l (inr (inr e)) = (own_told s (Close i) lent left r d z l).1 e

    close_other : (s.words ≡ 0 → ⊥) → length lent ≡ s.words → (r.number ≡ 0) ⊎ (r.number ≡ 11)
    close_other z l = (own_told s (Close i) lent left r d z l).0.other

    close_0 : r.number ≡ 0 → i.0 ≡ s.present → (active : ℕ) × (r ≡ plainly 0 (session_with s.words s.limit active s.present s.last 3))
    close_0 z e =
        let x = (demand_1.command s (Close i) lent left r d).accepted z in
        (x.0, x.1 ∙ ap (λ b. plainly 0 (session_with s.words s.limit x.0 s.present s.last (cond b 3 (min s.standing 3)))) (eq-eqb i.0 s.present e))

    close_0_elsewhere : r.number ≡ 0 → (i.0 ≡ s.present → ⊥) → (active : ℕ) × (r ≡ plainly 0 (session_with s.words s.limit active s.present s.last (min s.standing 3)))
    close_0_elsewhere z e =
        let x = (demand_1.command s (Close i) lent left r d).accepted z in
        (x.0, x.1 ∙ ap (λ b. plainly 0 (session_with s.words s.limit x.0 s.present s.last (cond b 3 (min s.standing 3)))) (ne_eqb i.0 s.present e))

-- OVER THE WHOLE LIST of calls that were made after an opening: what the opening told and left, and then each call
module _ (first left : List ℕ) (o : AnswerNumbers) (calls : List (Call model)) (q : Opened first left o)
    (m : Made model (Answered Called) (opening (length first)).history.words o.session left calls) where
  abbrev start : History
  start = (opening (length first)).history

  opening_told : record { number = o.number; value = o.value; place = o.place } ≡ told_numbers (opening (length first)).tells
  opening_told = (demand_3 first left o calls q m).0.tells

  opening_six : o.session ≡ session_with start.words start.limit (length start.active) (length start.values) (last_of start.values) (standing_number start.standing)
  opening_six = (demand_3 first left o calls q m).0.session

  opening_as_lent : (i : ℕ) → 512 ≤ i → get_or left i 0 ≡ get_or first i 0
  opening_as_lent = (demand_3 first left o calls q m).0.rest

  opening_as_long : length left ≡ length first
  opening_as_long = (demand_3 first left o calls q m).0.long

  each_call : EachCall model (Meets start.words first) start.words left start calls
  each_call = (demand_3 first left o calls q m).1

-- what a call tells is the number, the value and the place that its function answered, and its session is the one that was returned
told_answer : (s : SessionNumbers) (c : Call model) → Answered Called s c
    → (r : AnswerNumbers) × Called s c.command c.lent c.left r × (c.told ≡ record { number = r.number; value = r.value; place = r.place }) × (c.session ≡ r.session)
told_answer s c a = a

-- and the bookkeeper tells the paper's number, and the value and the place that are shown, or zeros. His N is the paper's
told_plainly : (n : ℕ) → told_numbers (numbered n) ≡ record { number = n; value = pos 0; place = 0 }
told_plainly n = refl

told_shown : (m : Minimum) → told_numbers (showing m) ≡ record { number = 0; value = m.value; place = m.place.0 }
told_shown m = refl

paper_words : (h : History) → model.words h ≡ h.words
paper_words h = refl

-- what `Meets` says of one call: after it the session's numbers are the paper's
module _ (n : ℕ) (first now : List ℕ) (h later : History) (c : Call model) (x : Meets n first now h later c) where
  six_numbers : c.session ≡ session_with later.words later.limit (length later.active) (length later.values) (last_of later.values) (standing_number later.standing)
  six_numbers = x.agrees.session

  told_as_paper : c.told ≡ told_numbers (Paper.model.tells h (length c.lent) c.command)
  told_as_paper = x.agrees.tells

  as_lent : (i : ℕ) → 512 + 64 * later.peak ≤ i → get_or now i 0 ≡ get_or first i 0
  as_lent = x.agrees.rest

  elsewhere_unaltered : is_own n c.lent ≡ false → c.left ≡ c.lent
  elsewhere_unaltered = x.agrees.elsewhere

  -- a Query of an active mark is told 0 and a value that stands at the place told, at or after the mark, below which no value since lies
  query_least : (i : Position) → c.command ≡ Query i → is_own n c.lent ≡ true → among i h.active ≡ true
      → (c.told.number ≡ 0) × (value_at h.values (record { 0 = c.told.place }) ≡ c.told.value) × (i.0 ≤ c.told.place) × (c.told.place ≤ length h.values)
      × ((k : Position) → i.0 ≤ k.0 → k.0 ≤ length h.values → le_z c.told.value (value_at h.values k) ≡ true)
      × ((k : Position) → i.0 ≤ k.0 → k.0 < c.told.place → le_z (value_at h.values k) c.told.value ≡ false)
  query_least i e o a = let y = x.gets i e o a in (y.0, y.1.stands, y.1.from, y.1.to, y.1.least, y.1.earliest)

  query_active : (i : Position) → c.command ≡ Query i → c.told.number ≡ 0 → among i h.active ≡ true
  query_active i e z = (x.shown i e z).0

  query_shown : (i : Position) → c.command ≡ Query i → c.told.number ≡ 0 → Least h.values i (record { value = c.told.value; place = record { 0 = c.told.place } })
  query_shown i e z = (x.shown i e z).1

  full_at : c.command ≡ Mark → (h.words ≡ 0 → ⊥) → length c.lent ≡ h.words → h.standing ≡ Unmarked → length h.active ≡ h.limit → c.told.number ≡ 10
  full_at e z l u = (x.full e z l u).1

  full_only : c.command ≡ Mark → (h.words ≡ 0 → ⊥) → length c.lent ≡ h.words → h.standing ≡ Unmarked → c.told.number ≡ 10 → length h.active ≡ h.limit
  full_only e z l u = (x.full e z l u).0
