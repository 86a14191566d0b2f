-- POINT 2 of document 02, of the two functions that C calls. What C is told by each is `Learnt`, the reading that the checker makes of the `ensures` as it stands in the source. It is used in the
-- numbers that C sees: clause by clause on any numbers and any words, and over the whole list of values. So a clause that is dropped, or that gains a hypothesis or an alternative, no longer
-- proves what stands here. What is learnt of each function from its contract is in `WindowInCSteps`, with the proofs that need it, under the same words: each theorem here rests on what is proved
-- there, and on none of this file that speaks of what C is told.
use mathlib.Core.Path.{◌≡◌, refl, ap, ◌∙◌}
use mathlib.Core.Bool.{Bool, cond}
use mathlib.Core.List.{List, [], ◌∷◌}
use mathlib.Core.Logic.{◌⊎◌}
use Prim.Native.Nat.{ℕ, ◌+◌, ◌*◌, ◌<◌, ◌≤◌}
use lib.IntN.{ℤ, pos}
use lib.Dec.{eqb}
use lib.ListN.{length, get_or}
use contract.Lifetimes.{Lfts}
use denote.Ref.{MutBor, at_last}
use denote.Signature.{plain}
use denote.Builtin.{SliceRefMutOf, u64, usize, i32}
use denote.Struct.Field.{usize-field, u32-field, i32-field}
use Rattle.history.specs.Replies.{Told, numbered, accepted, showing, told}
use Rattle.window.specs.declared.Window.{Window}
use Rattle.window.specs.Answers.{Answer}
use Rattle.window.specs.Windows.{Paper, Stepped}
use Rattle.window.specs.Promises.{OpeningSays, ValueSays, Refused}
use Rattle.window.specs.Claim.{EveryRun}
use Rattle.window.specs.Calls.{Opens, Does}
use Rattle.window.proofs.Theorem as theorem
use Rattle.firmware.specs.declared.windows.WindowNumbers.{WindowNumbers}
use Rattle.firmware.specs.declared.windows.WindowOutcome.{WindowOutcome}
use Rattle.firmware.specs.Windows.{window_from, numbers_of, in_numbers, outcome_of}
use Rattle.firmware.specs.contracts.windows.WindowNumbers as session-type
use Rattle.firmware.specs.contracts.windows.WindowOutcome as answer-type
use Rattle.firmware.specs.contracts.filkotar_window_open as open-function
use Rattle.firmware.proofs.filkotar_window_open.Reads as open-reads
use Rattle.firmware.specs.contracts.filkotar_window_value as value-function
use Rattle.firmware.proofs.filkotar_window_value.Reads as value-reads
use Rattle.requests.proofs.WindowInCSteps as steps

-- THE TYPES are those of include/filkotar.h, where a slice is a pointer and a length: the numbers of a session and of an answer, and what each function takes and gives
session_numbers : (session-type.struct).parts ≡ usize-field ∷ usize-field ∷ u32-field ∷ []
session_numbers = refl

answer_numbers : (answer-type.struct).parts ≡ session-type.the_field ∷ u32-field ∷ i32-field ∷ u32-field ∷ []
answer_numbers = refl

-- in this order
session_order : (s : WindowNumbers) → (session-type.struct).as_values s ≡ (s.words, (s.width, (s.present, tt)))
session_order s = refl

answer_order : (r : WindowOutcome) → (answer-type.struct).as_values r ≡ (r.session, (r.number, (r.value, (r.place, tt))))
answer_order r = refl

open_takes : (open-function.signature).params ≡ SliceRefMutOf (0 ∷ []) tt (plain (λ κs. u64)) (λ κs. tt) ∷ plain (λ κs. usize) ∷ []
open_takes = refl

open_gives : (open-function.signature).result ≡ plain (λ κs. answer-type.the_row)
open_gives = refl

value_takes : (value-function.signature).params
    ≡ plain (λ κs. session-type.the_row) ∷ SliceRefMutOf (0 ∷ []) tt (plain (λ κs. u64)) (λ κs. tt) ∷ plain (λ κs. i32) ∷ []
value_takes = refl

value_gives : (value-function.signature).result ≡ plain (λ κs. answer-type.the_row)
value_gives = refl

-- a session that C gets as numbers, and hands in again, is the same session; and any numbers that C hands in are those of a session
session_back : (s : Window) → window_from (numbers_of s) ≡ s
session_back s = refl

numbers_back : (s : WindowNumbers) → numbers_of (window_from s) ≡ s
numbers_back s = refl

-- an answer that shows nothing: value and place are 0
abbrev plainly : (words width present number : ℕ) → WindowOutcome
plainly words width present number = record { session = record { words = words; width = width; present = present }; number = number; value = pos 0; place = 0 }

-- neither function asks for anything
open_asks_nothing : (κs : Lfts 1) (x : MutBor (List ℕ)) (width : ℕ) → open-reads.Asked κs (x, (width, tt))
open_asks_nothing κs x width = tt

value_asks_nothing : (κs : Lfts 1) (s : WindowNumbers) (x : MutBor (List ℕ)) (v : ℤ) → value-reads.Asked κs (s, (x, (v, tt)))
value_asks_nothing κs s x v = tt

-- WHAT C IS TOLD: by `filkotar_window_open` of a width and the words `before`, which it left as `after`; by `filkotar_window_value` of a session, a value and such words
abbrev OpenTold : ℕ → List ℕ → List ℕ → WindowOutcome → Type 0
OpenTold width before after r = (κs : Lfts 1) × (x : MutBor (List ℕ)) × open-reads.Learnt κs (at_last x before, (width, tt)) r (at_last x after, (width, tt))

abbrev ValueTold : WindowNumbers → ℤ → List ℕ → List ℕ → WindowOutcome → Type 0
ValueTold s v before after r = (κs : Lfts 1) × (x : MutBor (List ℕ)) × value-reads.Learnt κs (s, (at_last x before, (v, tt))) r (s, (at_last x after, (v, tt)))

-- ON ANY NUMBERS AND ANY WORDS. The numbers of an answer whose session and reply are known, and of a refusal
numbers_of_lem : {r : WindowOutcome} {s : Window} {t : Told} (a : Answer) → r ≡ outcome_of a → a.session ≡ s → told a.reply ≡ t → r ≡ in_numbers s t
numbers_of_lem a n e f = n ∙ (λ i. in_numbers (e i) (f i))

refused : {r : WindowOutcome} {k : ℕ} {s : Window} {before after : List ℕ} (a : Answer) → r ≡ outcome_of a → Refused k s before after a.session (told a.reply)
    → (r ≡ in_numbers s (numbered k)) × (after ≡ before)
refused a n q = (numbers_of_lem a n q.1 q.0, q.2)

module _ (width : ℕ) (before after : List ℕ) (r : WindowOutcome) (t : OpenTold width before after r) where
  -- "12 at the window's opening for W outside 1 to 4,096; then 13 there for fewer than 2 × W words; both write nothing and return the unopened window session"
  open_12 : (width < 1) ⊎ (4096 < width) → (r ≡ plainly 0 0 0 12) × (after ≡ before)
  open_12 o = let a = steps.open_learnt width before after r t in refused a.0 a.1 (a.2.any.out_of_range o)

  open_13 : 1 ≤ width → width ≤ 4096 → length before < 2 * width → (r ≡ plainly 0 0 0 13) × (after ≡ before)
  open_13 l m f = let a = steps.open_learnt width before after r t in refused a.0 a.1 (a.2.any.too_short l m f)

  open_0 : 1 ≤ width → width ≤ 4096 → 2 * width ≤ length before → r ≡ plainly (length before) width 0 0
  open_0 l m e = let a = steps.open_learnt width before after r t in let b = a.2.any.opens l m e in numbers_of_lem a.0 a.1 b.1 b.0

  -- words from index 2 × W on are not written
  open_rest : (i : ℕ) → 2 * width ≤ i → get_or after i 0 ≡ get_or before i 0
  open_rest = (steps.open_learnt width before after r t).2.any.rest

  open_long : length after ≡ length before
  open_long = (steps.open_learnt width before after r t).2.any.long

module _ (s : WindowNumbers) (v : ℤ) (before after : List ℕ) (r : WindowOutcome) (t : ValueTold s v before after r) where
  -- "each value meets 4, 5 and 6 as in the engine": the session's numbers come back equal, and no word is written
  value_4 : s.words ≡ 0 → (r ≡ plainly s.words s.width s.present 4) × (after ≡ before)
  value_4 z = let a = steps.value_learnt s v before after r t in refused a.0 a.1 (a.2.any.unopened z)

  value_5 : (s.words ≡ 0 → ⊥) → (length before ≡ s.words → ⊥) → (r ≡ plainly s.words s.width s.present 5) × (after ≡ before)
  value_5 z o = let a = steps.value_learnt s v before after r t in refused a.0 a.1 (a.2.any.other_length z o)

  value_6 : (s.words ≡ 0 → ⊥) → length before ≡ s.words → s.present ≡ 4294967295 → (r ≡ plainly s.words s.width s.present 6) × (after ≡ before)
  value_6 z l h = let a = steps.value_learnt s v before after r t in refused a.0 a.1 (a.2.any.last_position z l h)

  -- else it is accepted: N and W stay, and the present position is the next
  value_0 : (s.words ≡ 0 → ⊥) → length before ≡ s.words → (s.present ≡ 4294967295 → ⊥)
      → (r.number ≡ 0) × (r.session ≡ record { words = s.words; width = s.width; present = s.present + 1 })
  value_0 z l h =
      let a = steps.value_learnt s v before after r t in
      let b = a.2.any.accepts z l h in
      let e = numbers_of_lem a.0 a.1 b.2 b.1 in
      (ap (λ (x : WindowOutcome). x.number) e, ap (λ (x : WindowOutcome). x.session) e)

  value_rest : (i : ℕ) → 2 * s.width ≤ i → get_or after i 0 ≡ get_or before i 0
  value_rest = (steps.value_learnt s v before after r t).2.any.rest

  value_long : length after ≡ length before
  value_long = (steps.value_learnt s v before after r t).2.any.long

-- OVER THE WHOLE LIST. What the numbers of an answer tell: an opening's show nothing, and a value's show value and place just where the number is 0
abbrev told_by_opening : WindowOutcome → Told
told_by_opening r = numbered r.number

abbrev told_by_value : WindowOutcome → Told
told_by_value r = cond (eqb r.number 0) (showing (record { value = r.value; place = record { 0 = r.place } })) (numbered r.number)

-- r are the numbers of the answer a, zeros where it shows nothing, and they tell what a tells
abbrev OpeningIs : WindowOutcome → Answer → Type 0
OpeningIs r a = (r ≡ outcome_of a) × (told_by_opening r ≡ told a.reply)

abbrev ValueIs : WindowOutcome → Answer → Type 0
ValueIs r a = (r ≡ outcome_of a) × (told_by_value r ≡ told a.reply)

-- what C is told, as the claim has it: of an answer
abbrev Opened : OpeningSays
Opened width first left a = (r : WindowOutcome) × OpenTold width first left r × OpeningIs r a

abbrev Valued : ValueSays
Valued s v lent left a = (r : WindowOutcome) × ValueTold (numbers_of s) v lent left r × ValueIs r a

-- an opening shows nothing
shows_nothing : (b : Bool) (p q : Paper) (k : ℕ)
    → let s : Stepped = cond b (record { paper = p; tells = accepted }) (record { paper = q; tells = numbered k }) in
    numbered s.tells.number ≡ s.tells
shows_nothing = steps.shows_nothing

told_opening : {width : ℕ} {first left : List ℕ} {a : Answer} → Opens width first left a → told_by_opening (outcome_of a) ≡ told a.reply
told_opening d = steps.told_opening d

-- a value is refused with 4, 5 or 6, or shows a value and a place
told_value : {s : Window} {v : ℤ} {lent left : List ℕ} {a : Answer} → Does s v lent left a → told_by_value (outcome_of a) ≡ told a.reply
told_value d = steps.told_value d

-- so whatever C is told is of an answer
open_answer : (width : ℕ) (first left : List ℕ) (r : WindowOutcome) → OpenTold width first left r → (a : Answer) × OpeningIs r a
open_answer width first left r t = let a = steps.open_learnt width first left r t in (a.0, (a.1, ap told_by_opening a.1 ∙ steps.told_opening a.2))

value_answer : (s : WindowNumbers) (v : ℤ) (lent left : List ℕ) (r : WindowOutcome) → ValueTold s v lent left r → (a : Answer) × ValueIs r a
value_answer s v lent left r t = let a = steps.value_learnt s v lent left r t in (a.0, (a.1, ap told_by_value a.1 ∙ steps.told_value a.2))

-- and of one alone, as far as the claim goes: another answer of these numbers has its session, and tells what it tells
same_session : {r : WindowOutcome} (a b : Answer) → r ≡ outcome_of a → r ≡ outcome_of b → a.session ≡ b.session
same_session a b e f = steps.same_session a b e f

opens : (width : ℕ) (first left : List ℕ) (a : Answer) → Opened width first left a → Opens width first left a
opens = steps.opens

does : (s : Window) (v : ℤ) (lent left : List ℕ) (a : Answer) → Valued s v lent left a → Does s v lent left a
does = steps.does

-- POINT 2, of the functions that C calls
every_run : EveryRun Opened Valued
every_run = theorem.every_run Opened Valued steps.opens steps.does

-- THE CONVERSES: no more is learnt of the functions that C calls than their contracts say, so that the claim is of all that these allow, and of the runs that exist
opened_of : (width : ℕ) (first left : List ℕ) (a : Answer) → Opens width first left a → Opened width first left a
opened_of = steps.opened_of

valued_of : (s : Window) (v : ℤ) (lent left : List ℕ) (a : Answer) → Does s v lent left a → Valued s v lent left a
valued_of = steps.valued_of
