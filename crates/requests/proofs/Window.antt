-- POINT 2 of document 02. Its theorems and its worked examples are cited under their statements; and each clause is used, in plain numbers, of the functions as they stand in the source. So a clause
-- that is dropped, or that gains a hypothesis or an alternative, no longer proves what stands here. No theorem here rests on another of this file: each takes what it uses from where that is
-- proved. `WindowSteps` has what the claim gives of one call more of a run, and of the clauses of a value the one whose statement speaks of it, `value_rest`.
use mathlib.Core.Path.{◌≡◌, refl, ap}
use mathlib.Core.Bool.{true, false}
use mathlib.Core.List.{List, [], ◌∷◌, ◌++◌, map}
use mathlib.Core.Logic.{◌⊎◌, inl, inr}
use Rattle.std.specs.Prelude.{Some}
use Prim.Native.Nat.{ℕ, ◌+◌, ◌*◌, ◌<◌, ◌≤◌}
use native.Mathlib.Omega.{arith}
use lib.IntN.{ℤ, pos}
use lib.ListN.{length, get_or}
use lib.Signed.{le_z}
use contract.Lifetimes.{Lfts}
use denote.Ref.{MutBor}
use Rattle.history.specs.declared.Position.{Position}
use Rattle.history.specs.Minimum.{Minimum}
use Rattle.history.specs.declared.Standing.TheVariants.{Unmarked}
use Rattle.history.specs.declared.Command.TheVariants.{Query}
use Rattle.history.specs.Minima.{stands_at, present_at, value_at}
use Rattle.history.specs.Replies.{numbered, accepted, showing, told}
use Rattle.history.specs.Histories as Histories
use Rattle.history.specs.Histories.{History, among}
use Rattle.runs.specs.Runs.{is_own, Call, Made}
use Rattle.runs.proofs.Calling.{made_follows}
use Rattle.runs.specs.Lists.{told_to, commands_of, AllLent, state_after_all, words_after_all, last_session}
use Rattle.window.specs.declared.Window.{Window}
use Rattle.window.specs.Answers.{Answer}
use Rattle.window.specs.Windows.{Paper, Stepped, session_of, opening, oldest, refusal_of, step, model}
use Rattle.window.specs.Promises.{AnyValue}
use Rattle.window.specs.Claim.{Answered, Meets, EveryRun, EveryInput, OldestInside, AsATap}
use Rattle.window.specs.Calls.{Opens, Does}
use Rattle.window.specs.Examples.{worked, AllGiven, examples}
use Rattle.window.proofs.Inside as inside
use Rattle.window.proofs.Steps as window-steps
use Rattle.window.proofs.Theorem as theorem
use Rattle.window.proofs.Functions as functions
use Rattle.window.proofs.Tied.{Opened, Valued, opened_of, valued_of}
use Rattle.window.proofs.Examples as given
use Rattle.window.proofs.open.Reads as open-reads
use Rattle.window.proofs.value.Reads as value-reads
use Rattle.requests.proofs.WindowSteps as steps
use Rattle.requests.specs.Witness.{Line, RunExists}

every_run : EveryRun Opened Valued
every_run = functions.every_run

by_contract : EveryRun Opens Does
by_contract = theorem.by_contract

every_input : EveryInput Opened Valued
every_input = functions.every_input

oldest_inside : OldestInside
oldest_inside = inside.oldest_inside

as_a_tap : AsATap
as_a_tap = theorem.as_a_tap

examples_worked : map worked examples ≡ examples
examples_worked = given.examples_worked

examples_count : length examples ≡ 22
examples_count = refl

examples_given : AllGiven Opened Valued examples
examples_given = given.examples_given

-- each function promises its contract, of all that it is given
opens_as_promised : (width : ℕ) (first left : List ℕ) (o : Answer) → Opened width first left o → Opens width first left o
opens_as_promised width first left o (κs, x, d) = d

does_as_promised : (s : Window) (v : ℤ) (lent left : List ℕ) (r : Answer) → Valued s v lent left r → Does s v lent left r
does_as_promised s v lent left r (κs, x, d) = d

-- neither function asks for anything
open_asks_nothing : (κs : Lfts 1) (x : MutBor (List ℕ)) (width : ℕ) → open-reads.Asked κs (x, (width, tt))
open_asks_nothing κs x width = tt

value_asks_nothing : (κs : Lfts 1) (x : MutBor (List ℕ)) (s : Window) (v : ℤ) → value-reads.Asked κs (s, (x, (v, tt)))
value_asks_nothing κs x s v = tt

-- a run that exists is one of the functions: no more is learnt of them than their contracts say
run_called : (width n : ℕ) (ls : List Line) (r : Window) → RunExists width n ls Opens Does r → RunExists width n ls Opened Valued r
run_called width n ls r x = record {
  first = x.first;
  left = x.left;
  o = x.o;
  calls = x.calls;
  opened = opened_of width x.first x.left x.o x.opened;
  tells = x.tells;
  made = made_follows (λ s c a. (a.0, valued_of s c.command c.lent c.left a.0 a.1, a.2, a.3)) _ _ _ x.calls x.made;
  long = x.long;
  plays = x.plays;
  returned = x.returned;
}

-- AFTER THE OPENING, of any width and words: the reply and N, W and the present position are the paper's, and so are the words as lent
module _ (width : ℕ) (first left : List ℕ) (o : Answer) (q : Opened width first left o) where
  pub opening-told : told o.reply ≡ (opening (length first) width).tells
  opening-told = (functions.every_run width first left o [] q tt).0.tells

  pub opening-session : o.session ≡ session_of (opening (length first) width).paper
  opening-session = (functions.every_run width first left o [] q tt).0.session

  pub opening_rest : (i : ℕ) → 2 * (opening (length first) width).paper.width ≤ i → get_or left i 0 ≡ get_or first i 0
  opening_rest = (functions.every_run width first left o [] q tt).0.rest

  pub opening_long : length left ≡ length first
  opening_long = (functions.every_run width first left o [] q tt).0.long

  -- "12 at the window's opening for W outside 1 to 4,096; then 13 there for fewer than 2 × W words; both write nothing and return the unopened window session"
  pub twelve : (width ≡ 0) ⊎ (4096 < width) → (told o.reply ≡ numbered 12) × (left ≡ first) × (o.session ≡ record { words = 0; width = 0; present = record { 0 = 0 } })
  twelve (inl e) = let a = (functions.every_input.opening width first left o q).out_of_range (inl (omega arith)) in (a.0, a.2, a.1)
  twelve (inr l) = let a = (functions.every_input.opening width first left o q).out_of_range (inr l) in (a.0, a.2, a.1)

  pub thirteen : 1 ≤ width → width ≤ 4096 → length first < 2 * width
      → (told o.reply ≡ numbered 13) × (left ≡ first) × (o.session ≡ record { words = 0; width = 0; present = record { 0 = 0 } })
  thirteen l m k = let a = (functions.every_input.opening width first left o q).too_short l m k in (a.0, a.2, a.1)

  pub opens : 1 ≤ width → width ≤ 4096 → 2 * width ≤ length first
      → (told o.reply ≡ accepted) × (o.session ≡ record { words = length first; width = width; present = record { 0 = 0 } }) × ((i : ℕ) → 2 * width ≤ i → get_or left i 0 ≡ get_or first i 0)
  opens l m k = let a = functions.every_input.opening width first left o q in ((a.opens l m k).0, (a.opens l m k).1, a.rest)

-- the paper of a value that is accepted: it is written after the others, and N and W stay
paper_more : (p : Paper) (n : ℕ) (v : ℤ) → refusal_of p n ≡ 0 → (step p n v).paper ≡ record { words = p.words; width = p.width; values = p.values ++ (v ∷ []) }
paper_more p n v e = rw e

-- AFTER EACH VALUE of a run, whatever came before: the paper p, the opening's words, and one call more
module _ (width : ℕ) (first left : List ℕ) (o : Answer) (calls : List (Call model)) (q : Opened width first left o)
    (made : Made model (Answered Valued) (opening (length first) width).paper.words o.session left calls) (c : Call model) where
  abbrev n : ℕ
  n = (opening (length first) width).paper.words

  abbrev p : Paper
  p = state_after_all model (opening (length first) width).paper calls

  abbrev words : List ℕ
  words = words_after_all model n left calls

  module _ (lent : is_own n c.lent ≡ true → c.lent ≡ words) (d : Answered Valued (last_session model o.session calls) c) where
    abbrev later : Paper
    later = model.step p (length c.lent) c.command

    pub meets : (now : List ℕ) × Meets n first now p later c
    meets = steps.meets width first left o calls q made c lent d

    -- the reply, and the session's numbers
    pub value_told : c.told ≡ model.tells p (length c.lent) c.command
    value_told = (steps.meets width first left o calls q made c lent d).1.agrees.tells

    pub value_session : c.session ≡ record { words = later.words; width = later.width; present = present_at later.values }
    value_session = (steps.meets width first left o calls q made c lent d).1.agrees.session

    -- "Values enter one by one": one to which no refusal applies is written after the others
    pub value_entered : refusal_of p (length c.lent) ≡ 0 → later.values ≡ p.values ++ (c.command ∷ [])
    value_entered e = ap (λ (x : Stepped). x.paper.values) (window-steps.step_accepted p (length c.lent) c.command e)

    -- "under document 01's rule about unaltered words"
    pub elsewhere : is_own n c.lent ≡ false → c.left ≡ c.lent
    elsewhere = (steps.meets width first left o calls q made c lent d).1.agrees.elsewhere

    -- "Reply after each value: least value and place." No value that has not left is lower
    pub value_least : is_own n c.lent ≡ true → ((present_at p.values).0 ≡ 4294967295 → ⊥)
        → (m : Minimum) × (c.told ≡ showing m) × (value_at later.values m.place ≡ m.value)
        × ((k : Position) → (oldest (present_at later.values) p.width).0 ≤ k.0 → k.0 ≤ length later.values → le_z m.value (value_at later.values k) ≡ true)
    value_least own h = let g = (steps.meets width first left o calls q made c lent d).1.gets own h in (g.0, g.1, g.2.stands, g.2.least)

    -- and nothing else is shown: it stands in the window, and (point 5) each earlier value there is higher
    pub shown_inside : (m : Minimum) → c.told.shown ≡ Some m → ((oldest (present_at later.values) p.width).0 ≤ m.place.0) × (m.place.0 ≤ length later.values)
    shown_inside m e = let l = (steps.meets width first left o calls q made c lent d).1.shown m e in (l.from, l.to)

    pub shown_earliest : (m : Minimum) → c.told.shown ≡ Some m → (k : Position) → (oldest (present_at later.values) p.width).0 ≤ k.0 → k.0 < m.place.0
        → le_z (value_at later.values k) m.value ≡ false
    shown_earliest m e = ((steps.meets width first left o calls q made c lent d).1.shown m e).earliest

-- "Values enter one by one and leave when W newer ones have come; before W have come, all count."
value_stays : (width present k : ℕ) → 1 ≤ width → 1 ≤ k → k ≤ present → present < k + width → (oldest (record { 0 = present }) width).0 ≤ k
value_stays width present k w = (inside.oldest_inside width present w).stays k

value_leaves : (width present k : ℕ) → 1 ≤ width → k + width ≤ present → k < (oldest (record { 0 = present }) width).0
value_leaves width present k w = (inside.oldest_inside width present w).leaves k

oldest_some : (width present : ℕ) → 1 ≤ width → 1 ≤ (oldest (record { 0 = present }) width).0
oldest_some width present w = (inside.oldest_inside width present w).some

-- "It equals what a tap at the window's oldest position would be told, whether or not a tap stands there."
tap_told : (p : Paper) (n : ℕ) (v : ℤ) (h : History) → refusal_of p n ≡ 0 → h.values ≡ p.values ++ (v ∷ []) → (h.words ≡ 0 → ⊥)
    → among (oldest (present_at h.values) p.width) h.active ≡ true
    → (step p n v).tells ≡ (Histories.step h h.words (Query (oldest (present_at h.values) p.width))).tells
tap_told p n v h f e z a = theorem.as_a_tap p n v h f e z a

-- a tap that stands at position 2, and the window W = 2 after 3, 1, 2
abbrev tapped : History
tapped = record { words = 640; limit = 1; values = pos 3 ∷ pos 1 ∷ pos 2 ∷ []; active = record { 0 = 2 } ∷ []; standing = Unmarked; peak = 1 }

tap_worked : (step (record { words = 4; width = 2; values = pos 3 ∷ pos 1 ∷ [] }) 4 (pos 2)).tells ≡ (Histories.step tapped 640 (Query (record { 0 = 2 }))).tells
tap_worked = theorem.as_a_tap (record { words = 4; width = 2; values = pos 3 ∷ pos 1 ∷ [] }) 4 (pos 2) tapped refl refl (λ e. omega arith) refl

-- ON ANY SESSION AND ANY WORDS: "each value meets 4, 5 and 6 as in the engine"
module _ (s : Window) (v : ℤ) (lent left : List ℕ) (r : Answer) (d : Valued s v lent left r) where
  any : AnyValue s lent left r.session (told r.reply)
  any = functions.every_input.value s v lent left r d

  pub four : s.words ≡ 0 → (told r.reply ≡ numbered 4) × (r.session ≡ s) × (left ≡ lent)
  four = (functions.every_input.value s v lent left r d).unopened

  pub five : (s.words ≡ 0 → ⊥) → (length lent ≡ s.words → ⊥) → (told r.reply ≡ numbered 5) × (r.session ≡ s) × (left ≡ lent)
  five = (functions.every_input.value s v lent left r d).other_length

  pub six : (s.words ≡ 0 → ⊥) → length lent ≡ s.words → s.present.0 ≡ 4294967295 → (told r.reply ≡ numbered 6) × (r.session ≡ s) × (left ≡ lent)
  six = (functions.every_input.value s v lent left r d).last_position

  pub accepts : (s.words ≡ 0 → ⊥) → length lent ≡ s.words → (s.present.0 ≡ 4294967295 → ⊥)
      → (m : Minimum) × (told r.reply ≡ showing m) × (r.session ≡ record { words = s.words; width = s.width; present = record { 0 = s.present.0 + 1 } })
  accepts = (functions.every_input.value s v lent left r d).accepts

  pub rest : (i : ℕ) → 2 * s.width ≤ i → get_or left i 0 ≡ get_or lent i 0
  rest = (functions.every_input.value s v lent left r d).rest

  pub long : length left ≡ length lent
  long = (functions.every_input.value s v lent left r d).long

-- the numbers of refused openings, and W = 144, "for three milliseconds at 48 kHz", as the definitions have them
openings_worked : ((opening 0 4097).tells ≡ numbered 12) × ((opening 287 144).tells ≡ numbered 13) × ((opening 288 144).tells ≡ accepted)
openings_worked = (refl, refl, refl)

oldest_worked : ((oldest (record { 0 = 143 }) 144).0 ≡ 1) × ((oldest (record { 0 = 144 }) 144).0 ≡ 1) × ((oldest (record { 0 = 145 }) 144).0 ≡ 2) × ((oldest (record { 0 = 9 }) 1).0 ≡ 9)
oldest_worked = (refl, refl, refl, refl)

-- an example, by every run of its values: W = 2: 3, 1, 2, 2 tells 3 at 1, 1 at 2, 1 at 2, 2 at 3
pub example_given : (first left : List ℕ) (o : Answer) (calls : List (Call model)) → length first ≡ 4 → Opened 2 first left o
    → Made model (Answered Valued) (opening (length first) 2).paper.words o.session left calls → commands_of model calls ≡ pos 3 ∷ pos 1 ∷ pos 2 ∷ pos 2 ∷ []
    → AllLent model 4 calls
    → told_to model calls
    ≡ showing (stands_at (pos 3) (record { 0 = 1 })) ∷ showing (stands_at (pos 1) (record { 0 = 2 })) ∷ showing (stands_at (pos 1) (record { 0 = 2 })) ∷ showing (stands_at (pos 2) (record { 0 = 3 })) ∷ []
example_given first left o calls l q m vs a = (given.examples_given.1.1.1.1.1.1.1.1.1.1.1.1.1.1.0 first left o calls l q m vs a).tells

-- and one whose opening is refused: a value is told 4
pub refused_given : (first left : List ℕ) (o : Answer) (calls : List (Call model)) → length first ≡ 4 → Opened 0 first left o
    → Made model (Answered Valued) (opening (length first) 0).paper.words o.session left calls → commands_of model calls ≡ pos 1 ∷ [] → AllLent model 4 calls
    → told_to model calls ≡ numbered 4 ∷ []
refused_given first left o calls l q m vs a = (given.examples_given.1.1.1.1.1.1.1.1.1.1.1.1.1.1.1.1.1.1.1.1.0 first left o calls l q m vs a).tells
