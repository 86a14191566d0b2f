-- The theorems, applied. Those over all runs have no more hypotheses than the runs that exist meet, and demand 1 says of every session and all words what stands here: a hypothesis that is
-- added to one of them, or a way out, is missing here.
use mathlib.Core.Path.{◌≡◌, refl, ap}
use mathlib.Core.Bool.{true, false}
use mathlib.Core.List.{List, [], ◌∷◌}
use Rattle.std.specs.Prelude.{None, Some}
use Prim.Native.Nat.{ℕ, ◌+◌, ◌*◌, ◌-◌, ◌/◌, min, ◌<◌, ◌≤◌}
use native.Mathlib.Omega.{arith}
use lib.IntN.{ℤ, pos}
use lib.ListN.{length, get_or}
use lib.Signed.{le_z}
use Rattle.history.specs.declared.Position.{Position}
use Rattle.history.specs.Minimum.{Minimum}
use Rattle.history.specs.declared.Standing.TheVariants.{Unmarked, Marked, Closed}
use Rattle.history.specs.declared.Session.{Session}
use Rattle.history.specs.declared.Command.{Command}
use Rattle.history.specs.declared.Command.TheVariants.{Value, Mark, Query, Close}
use Rattle.engine.specs.Answers.{Answer}
use Rattle.history.specs.Minima.{stands_at, present_at, value_at, last_of, Least}
use Rattle.history.specs.Replies.{Told, numbered, accepted, showing, told}
use Rattle.history.specs.Histories.{History, among, opening, model}
use Rattle.runs.specs.Runs.{Call, Made}
use Rattle.runs.specs.Lists.{commands_of, told_to, AllLent, state_after_all, words_after_all, last_session}
use Rattle.engine.specs.Demand.{Answered}
use Rattle.engine.specs.Promises.{Settled, OwnNumber, AnyAcceptance}
use Rattle.engine.specs.Consequences.{Reached, Matches, Replied, AllTold}
use Rattle.engine.proofs.Tied.{Opened, Called}
use Rattle.engine.proofs.Functions.{demand_1, only_fours}
use Rattle.engine.proofs.Plain.{every_run}
use Rattle.engine.proofs.Examples.{examples_given}
use Rattle.demands.specs.Witness.{Line, unopened, RunExists}

-- a run that exists: the bookkeeper's paper and the opening's words after it
module _ {n : ℕ} {ls : List Line} {r : Session} (x : RunExists n ls Opened Called r) where
  abbrev start : History
  start = (opening (length x.first)).history

  abbrev state : History
  state = state_after_all model start x.calls

  abbrev words : List ℕ
  words = words_after_all model start.words x.left x.calls

  -- it reaches a point that the promises one by one are about
  reached : Reached Opened Called x.first (last_session model x.o.session x.calls) words state
  reached = every_run.reaches x.first x.left x.o x.calls x.opened x.made

  -- where the session's numbers are the paper's, and the words beyond the bound are as lent
  pub matches : Matches x.first words state (last_session model x.o.session x.calls)
  matches = every_run.stands x.first words state (last_session model x.o.session x.calls) reached

  -- and the next command, lent the opening's words or words of another length, has the bookkeeper's reply
  pub next_reply : (c : Command) (lent left : List ℕ) (a : Answer) → ((state.words ≡ 0 → ⊥) → length lent ≡ state.words → lent ≡ words)
      → Called (last_session model x.o.session x.calls) c lent left a → Replied state c lent left (told a.reply)
  next_reply c lent left a e d = every_run.replies x.first words state (last_session model x.o.session x.calls) reached c lent left a e d

  -- so every word from 512 + 64 × l on is as it was lent, and the six numbers are the paper's
  pub as_lent : (i : ℕ) → 512 + 64 * state.peak ≤ i → get_or words i 0 ≡ get_or x.first i 0
  as_lent = matches.rest

  pub six_numbers : last_session model x.o.session x.calls
      ≡ record { words = state.words; limit = state.limit; present = present_at state.values; last = last_of state.values; active = length state.active; standing = state.standing }
  six_numbers = λ i. record {
    words = matches.words_opened i;
    limit = matches.limit i;
    present = record { 0 = matches.present i };
    last = matches.last i;
    active = matches.active i;
    standing = matches.standing i;
  }

-- what a reply says of a Query: the least value since an active mark, which no value since is below, and nothing of another position
module _ {h : History} {i : Position} {lent left : List ℕ} {a : Told} (p : Replied h (Query i) lent left a) (z : h.words ≡ 0 → ⊥) (l : length lent ≡ h.words) where
  pub least_told : among i h.active ≡ true → (m : Minimum) × (a ≡ showing m) × ((k : Position) → i.0 ≤ k.0 → k.0 ≤ length h.values → le_z m.value (value_at h.values k) ≡ true)
  least_told b =
      let q = p.least i refl z l b in
      (q.0, (λ j. record { number = q.1 j; shown = q.2 j }), q.3.least)

  pub eleven_told : among i h.active ≡ false → a ≡ numbered 11
  eleven_told b = let q = p.inactive i refl z l b in λ j. record { number = q.0 j; shown = q.1 j }

  pub shown_least : (m : Minimum) → a.shown ≡ Some m → Least h.values i m
  shown_least m e = (p.only_least i m refl e).1

-- and of a Mark: full exactly when K are active
module _ {h : History} {lent left : List ℕ} {a : Told} (p : Replied h Mark lent left a) (z : h.words ≡ 0 → ⊥) (l : length lent ≡ h.words) (u : h.standing ≡ Unmarked) where
  pub full_at : length h.active ≡ h.limit → a.number ≡ 10
  full_at = p.full refl z l u

  pub full_only : a.number ≡ 10 → length h.active ≡ h.limit
  full_only = p.only_full refl z l u

-- the run after a refused opening is told 4 only
pub fours : {r : Session} (x : RunExists 575 unopened Opened Called r) → AllTold (numbered 4) x.calls
fours x = only_fours x.first x.left x.o x.calls (omega (arith, x.long)) x.opened (rw x.long at x.made)

-- a starred example, of any run of its commands: "V 5, M, Q 1: dip 5 at 1."
pub minimum_at_once : (first left : List ℕ) (o : Answer) (calls : List (Call model)) → length first ≡ 576 → Opened first left o
    → Made model (Answered Called) (opening (length first)).history.words o.session left calls
    → commands_of model calls ≡ Value (pos 5) ∷ Mark ∷ Query (record { 0 = 1 }) ∷ [] → AllLent model 576 calls
    → told_to model calls ≡ accepted ∷ accepted ∷ showing (stands_at (pos 5) (record { 0 = 1 })) ∷ []
minimum_at_once first left o calls n q m cs l = (examples_given.1.1.1.1.1.1.1.1.0 first left o calls n q m cs l).tells

-- DEMAND 1, clause by clause: of an opening
pub opening_numbers : (first left : List ℕ) (o : Answer) → Opened first left o
    → (length first < 576 → told o.reply ≡ numbered 1) × (576 ≤ length first → o.session.limit ≡ min ((length first - 512) / 64) 4096)
opening_numbers first left o q =
    let a = demand_1.opening first left o q in
    ((λ l. (a.too_short l).0), λ l. ap (λ (s : Session). s.limit) (a.long_enough l).1)

pub opening_refused : (first left : List ℕ) (o : Answer) → Opened first left o → ((told o.reply).number ≡ 0 → ⊥) → left ≡ first
opening_refused first left o q z = (demand_1.refused_opening first left o q z).0

-- and of a command, on any session and any words
module _ (s : Session) (c : Command) (lent left : List ℕ) (r : Answer) (d : Called s c lent left r) where
  pub unopened_four : s.words ≡ 0 → (told r.reply).number ≡ 4
  unopened_four = (demand_1.numbers s c lent left r d).unopened

  pub other_five : (s.words ≡ 0 → ⊥) → (length lent ≡ s.words → ⊥) → (told r.reply).number ≡ 5
  other_five = (demand_1.numbers s c lent left r d).other_length

  pub own_number : (s.words ≡ 0 → ⊥) → length lent ≡ s.words → OwnNumber s c (told r.reply).number
  own_number = (demand_1.numbers s c lent left r d).own

  pub refused_unaltered : ((told r.reply).number ≡ 0 → ⊥) → (left ≡ lent) × (r.session ≡ s) × ((told r.reply).shown ≡ None)
  refused_unaltered z = demand_1.refused_command s c lent left r d z

  pub accepted_fixed : (told r.reply).number ≡ 0 → AnyAcceptance c s lent left r.session (told r.reply)
  accepted_fixed z = demand_1.accepted_command s c lent left r d z

  pub as_long : length left ≡ length lent
  as_long = demand_1.long s c lent left r d

  pub settled : Settled c s lent left r.session (told r.reply)
  settled = demand_1.settled s c lent left r d

-- what is fixed of an accepted Value, a Mark and a Close, and that a Query alters nothing
pub value_fixed : (s : Session) (v : ℤ) (lent left : List ℕ) (r : Answer) → Called s (Value v) lent left r → (told r.reply).number ≡ 0
    → (r.session.present.0 ≡ s.present.0 + 1) × (r.session.last ≡ v) × (r.session.standing ≡ Unmarked)
value_fixed s v lent left r d z = let a = accepted_fixed s (Value v) lent left r d z in (a.2, a.3, a.4)

pub mark_fixed : (s : Session) (lent left : List ℕ) (r : Answer) → Called s Mark lent left r → (told r.reply).number ≡ 0
    → (r.session.present ≡ s.present) × (r.session.standing ≡ Marked)
mark_fixed s lent left r d z = let a = accepted_fixed s Mark lent left r d z in (a.2, a.4)

pub query_fixed : (s : Session) (i : Position) (lent left : List ℕ) (r : Answer) → Called s (Query i) lent left r → (told r.reply).number ≡ 0 → (r.session ≡ s) × (left ≡ lent)
query_fixed s i lent left r d z = let a = accepted_fixed s (Query i) lent left r d z in (a.0, a.1)

pub close_fixed : (s : Session) (i : Position) (lent left : List ℕ) (r : Answer) → Called s (Close i) lent left r → (told r.reply).number ≡ 0 → i.0 ≡ s.present.0
    → r.session.standing ≡ Closed
close_fixed s i lent left r d z e = (accepted_fixed s (Close i) lent left r d z).5 e
