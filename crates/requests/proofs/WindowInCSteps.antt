-- Point 2, of the two functions that C calls: what is learnt of each from its contract, and that what C is told is of an answer. `WindowInC` says in its own words what C is told and what follows from
-- that. Here the same stands once more, with the proofs: so what is said there is compared with what is proved here.
use mathlib.Core.Path.{◌≡◌, refl, sym, ap, ◌∙◌}
use mathlib.Core.Bool.{Bool, true, false, cond}
use mathlib.Core.List.{List, []}
use Prim.Native.Nat.{ℕ}
use native.Mathlib.Decide.{ℕ_discrete}
use lib.IntN.{ℤ}
use lib.Dec.{eqb}
use lib.ListN.{length}
use contract.Lifetimes.{Lfts}
use denote.Ref.{MutBor, at_last}
use Rattle.history.specs.Replies.{Told, numbered, accepted, showing, told}
use Rattle.window.specs.declared.Window.{Window}
use Rattle.window.specs.Answers.{Answer}
use Rattle.window.specs.Windows.{Paper, Stepped, blank, opening_refusal}
use Rattle.window.specs.Promises.{OpeningSays, ValueSays}
use Rattle.window.specs.Calls.{Opens, Does}
use Rattle.firmware.specs.declared.windows.WindowNumbers.{WindowNumbers}
use Rattle.firmware.specs.declared.windows.WindowOutcome.{WindowOutcome}
use Rattle.firmware.specs.Windows.{window_from, numbers_of, outcome_of}
use Rattle.firmware.proofs.filkotar_window_open.Reads as open-reads
use Rattle.firmware.proofs.filkotar_window_value.Reads as value-reads

-- what C is told by each function
abbrev pub OpenTold : ℕ → List ℕ → List ℕ → WindowOutcome → Type 0
OpenTold width before after r = (κs : Lfts 1) × (x : MutBor (List ℕ)) × open-reads.Learnt κs (at_last x before, (width, tt)) r (at_last x after, (width, tt))

abbrev pub ValueTold : WindowNumbers → ℤ → List ℕ → List ℕ → WindowOutcome → Type 0
ValueTold s v before after r = (κs : Lfts 1) × (x : MutBor (List ℕ)) × value-reads.Learnt κs (s, (at_last x before, (v, tt))) r (s, (at_last x after, (v, tt)))

-- is of an answer, of which the window's own contract holds
pub open_learnt : (width : ℕ) (before after : List ℕ) (r : WindowOutcome) → OpenTold width before after r → (a : Answer) × (r ≡ outcome_of a) × Opens width before after a
open_learnt width before after r (κs, x, d) = (d.answer, d.numbers, d.opens)

pub value_learnt : (s : WindowNumbers) (v : ℤ) (before after : List ℕ) (r : WindowOutcome) → ValueTold s v before after r
    → (a : Answer) × (r ≡ outcome_of a) × Does (window_from s) v before after a
value_learnt s v before after r (κs, x, d) = (d.answer, d.numbers, d.does)

-- what the numbers of an answer tell
abbrev pub told_by_opening : WindowOutcome → Told
told_by_opening r = numbered r.number

abbrev pub told_by_value : WindowOutcome → Told
told_by_value r = cond (eqb r.number 0) (showing (record { value = r.value; place = record { 0 = r.place } })) (numbered r.number)

-- an opening shows nothing
pub shows_nothing : (b : Bool) (p q : Paper) (k : ℕ)
    → let s : Stepped = cond b (record { paper = p; tells = accepted }) (record { paper = q; tells = numbered k }) in
    numbered s.tells.number ≡ s.tells
shows_nothing true p q k = refl
shows_nothing false p q k = refl

pub told_opening : {width : ℕ} {first left : List ℕ} {a : Answer} → Opens width first left a → told_by_opening (outcome_of a) ≡ told a.reply
told_opening {width} {first} d =
    let k : ℕ = opening_refusal (length first) width in
    rw d.tells (shows_nothing (eqb k 0) (blank (length first) width) (blank 0 0) k)

-- a value is refused with 4, 5 or 6, or shows a value and a place
pub told_value : {s : Window} {v : ℤ} {lent left : List ℕ} {a : Answer} → Does s v lent left a → told_by_value (outcome_of a) ≡ told a.reply
told_value {s} {lent = lent} d = elim (ℕ_discrete s.words 0) [
  | yes z ↦ rw (d.any.unopened z).0
  | no z ↦ elim (ℕ_discrete (length lent) s.words) [
    | no l ↦ rw (d.any.other_length z l).0
    | yes l ↦ elim (ℕ_discrete s.present.0 4294967295) [
      | yes h ↦ rw (d.any.last_position z l h).0
      | no h ↦ rw (d.any.accepts z l h).1
    ]
  ]
]

-- what C is told, as the claim has it: of an answer
abbrev pub Opened : OpeningSays
Opened width first left a = (r : WindowOutcome) × OpenTold width first left r × ((r ≡ outcome_of a) × (told_by_opening r ≡ told a.reply))

abbrev pub Valued : ValueSays
Valued s v lent left a = (r : WindowOutcome) × ValueTold (numbers_of s) v lent left r × ((r ≡ outcome_of a) × (told_by_value r ≡ told a.reply))

-- and of one alone, as far as the claim goes: another answer of these numbers has its session, and tells what it tells
pub same_session : {r : WindowOutcome} (a b : Answer) → r ≡ outcome_of a → r ≡ outcome_of b → a.session ≡ b.session
same_session a b e f = ap (λ (x : WindowOutcome). window_from x.session) (sym e ∙ f)

pub opens : (width : ℕ) (first left : List ℕ) (a : Answer) → Opened width first left a → Opens width first left a
opens width first left a (r, (κs, x, d), (n, t)) =
    let e : told d.answer.reply ≡ told a.reply = sym (told_opening d.opens) ∙ ap told_by_opening (sym d.numbers) ∙ t in
    let f : d.answer.session ≡ a.session = same_session d.answer a d.numbers n in
    record { any = rw (e, f) at d.opens.any; tells = sym e ∙ d.opens.tells; represents = rw f at d.opens.represents; rest = d.opens.rest }

pub does : (s : Window) (v : ℤ) (lent left : List ℕ) (a : Answer) → Valued s v lent left a → Does s v lent left a
does s v lent left a (r, (κs, x, d), (n, t)) =
    let e : told d.answer.reply ≡ told a.reply = sym (told_value d.does) ∙ ap told_by_value (sym d.numbers) ∙ t in
    let f : d.answer.session ≡ a.session = same_session d.answer a d.numbers n in
    record {
      any = rw (e, f) at d.does.any;
      tells = λ p first y k. sym e ∙ d.does.tells p first y k;
      represents = λ p first y k. rw f at (d.does.represents p first y k);
    }

-- THE CONVERSES: no more is learnt of the functions that C calls than their contracts say. The reference may be any
any : MutBor (List ℕ)
any = record { ref_ptr = (0, 0); ghost_name = 0; now = [] }

pub opened_of : (width : ℕ) (first left : List ℕ) (a : Answer) → Opens width first left a → Opened width first left a
opened_of width first left a d = (outcome_of a, (([], tt), any, record { answer = a; opens = d; numbers = refl }), (refl, told_opening d))

pub valued_of : (s : Window) (v : ℤ) (lent left : List ℕ) (a : Answer) → Does s v lent left a → Valued s v lent left a
valued_of s v lent left a d = (outcome_of a, (([], tt), any, record { answer = a; does = d; numbers = refl }), (refl, told_value d))
