-- Every history that an opening and commands lead to is sound. A Value moves the end of the positions, a Mark adds the one position that an unmarked standing has free,
-- and a Close strikes one; a Mark is accepted only where fewer than K are active, so that l stays within K.
use mathlib.Core.Path.{◌≡◌, refl}
use mathlib.Core.Bool.{Bool, true, false, cond, false≢true}
use mathlib.Core.List.{List, [], ◌∷◌, ◌++◌}
use Prim.Native.Nat.{ℕ, ◌+◌, ◌*◌, ◌<◌, ◌≤◌}
use native.Mathlib.Omega.{arith}
use native.Mathlib.Decide.{ℕ_discrete, dec_lt}
use lib.Dec.{eqb}
use lib.IntN.{ℤ}
use lib.ListN.{length, length-append}
use borrow.Author.Tests.{eq-eqb, ne_eqb}
use Rattle.history.specs.declared.Position.{Position}
use Rattle.history.specs.declared.Standing.{Standing}
use Rattle.history.specs.declared.Standing.TheVariants.{Unmarked, Marked}
use Rattle.history.specs.declared.Command.{Command}
use Rattle.history.specs.declared.Command.TheVariants.{Value, Mark, Query, Close}
use Rattle.history.specs.declared.Event.{Event}
use Rattle.std.specs.Prelude.{None}
use Rattle.history.specs.Standings.{transition_of}
use Rattle.history.specs.Histories.{History, present_of, session_of, limit_of, blank, opening, among, without, accept, refusal_of, step}
use Rattle.history.specs.Sound.{Rising, done, then, Sound}
use Rattle.history.proofs.Steps.{refusal_none, mark_free, unmarked_only, marked_after, step-refused, step_accepted, opening_refused, opening-accepted}

-- the start is not after the end
reach : {a b : ℕ} {ps : List Position} → Rising a b ps → a ≤ b
reach (done l) = l
reach (then l r) = omega (arith, reach r)

-- a lower start and a later end
wider : {a b c d : ℕ} {ps : List Position} → a ≤ b → c ≤ d → Rising b c ps → Rising a d ps
wider {a} {d = d} l m (done n) = let k : a ≤ d = omega arith in done k
wider {a} l m (then {a = p} n r) = let k : a < p.0 = omega arith in then k (wider (omega arith) m r)

-- one position more, after all
rising_more : {a b : ℕ} {ps : List Position} (p : Position) → b < p.0 → Rising a b ps → Rising a p.0 (ps ++ (p ∷ []))
rising_more {a} p z (done l) =
    let k : a < p.0 = omega arith in
    let e : p.0 ≤ p.0 = omega arith in
    then k (done e)
rising_more p z (then l r) = then l (rising_more p z r)

-- each is after the start and not after the end
pub rising_among : {a b : ℕ} {ps : List Position} (i : Position) → Rising a b ps → among i ps ≡ true → (a < i.0) × (i.0 ≤ b)
rising_among i (done l) e = absurd (false≢true e)
rising_among i (then {a = p} l r) e = elim (ℕ_discrete i.0 p.0) [
  | yes q ↦ (omega (arith, q), omega (arith, q, reach r))
  | no q ↦ let m = rising_among i r (rw (ne_eqb i.0 p.0 q) at e) in (omega (arith, m.0), m.1)
]

-- one before them all is not there to strike
absent : {a b : ℕ} {ps : List Position} (i : Position) → i.0 ≤ a → Rising a b ps → without i ps ≡ ps
absent i l (done n) = refl
absent i l (then {a = p} n r) = rw (ne_eqb i.0 p.0 (λ e. omega arith), absent i (omega arith) r)

-- striking leaves them rising
rising_without : {a b : ℕ} {ps : List Position} (i : Position) → Rising a b ps → Rising a b (without i ps)
rising_without i (done n) = done n
rising_without {a} {b} i (then {a = p} {rest} n r) = go (rising_without i r) (eqb i.0 p.0)
  where
    go : Rising p.0 b (without i rest) → (t : Bool) → Rising a b (cond t (without i rest) (p ∷ without i rest))
    go f true = wider (omega arith) (omega arith) f
    go f false = then n f

-- and strikes one
pub struck_one : {a b : ℕ} {ps : List Position} (i : Position) → Rising a b ps → among i ps ≡ true → length (without i ps) + 1 ≡ length ps
struck_one i (done n) e = absurd (false≢true e)
struck_one i (then {a = p} {rest} n r) e = elim (ℕ_discrete i.0 p.0) [
  | yes q ↦ rw (eq-eqb i.0 p.0 q, absent i (omega (arith, q)) r) (omega arith)
  | no q ↦ rw (ne_eqb i.0 p.0 q) (omega (arith, struck_one i r (rw (ne_eqb i.0 p.0 q) at e)))
]

-- or none
never_more : (ps : List Position) (i : Position) → length (without i ps) ≤ length ps
never_more [] i = omega arith
never_more (p ∷ ps) i = go (never_more ps i) (eqb i.0 p.0)
  where
    go : length (without i ps) ≤ length ps → (t : Bool) → length (cond t (without i ps) (p ∷ without i ps)) ≤ length (p ∷ ps)
    go f true = omega arith
    go f false = omega arith

-- a Close that leaves the present position unmarked found it so
pub was_unmarked : (k : Standing) (b : Bool) → (transition_of (cond b Event.CloseOfPresent Event.Other) k).after ≡ Unmarked → k ≡ Unmarked
was_unmarked k true e = cc
was_unmarked k false e = e

module _ (h : History) (s : Sound h) where
  value_sound : (v : ℤ) → Sound (accept h (Value v)).history
  value_sound v =
      let n = length-append h.values (v ∷ []) in
      record {
        few = s.few;
        wide = s.wide;
        peaked = s.peaked;
        limited = s.limited;
        rising = wider (omega arith) (omega arith) s.rising;
        some = λ _. omega arith;
        fresh = λ _. wider (omega arith) (omega arith) s.rising;
      }

  mark_sound : (transition_of Event.Mark h.standing).due ≡ None → (length h.active ≡ h.limit → ⊥) → Sound (accept h Mark).history
  mark_sound f n =
      let m = length-append h.active (present_of h ∷ []) in
      let u = unmarked_only h.standing f in
      let k : (accept h Mark).history.standing ≡ Marked = marked_after h.standing f in
      record {
        few = s.few;
        wide = s.wide;
        peaked = omega arith;
        limited = omega (arith, n, s.limited, s.peaked);
        rising = rising_more (present_of h) (omega (arith, s.some u)) (s.fresh u);
        some = λ _. s.some u;
        fresh = λ e. absurd (let z : ◌≡◌ {A = ℕ} 0 1 = cc in omega arith);
      }

  close_sound : (i : Position) → Sound (accept h (Close i)).history
  close_sound i = record {
    few = s.few;
    wide = s.wide;
    peaked = omega (arith, never_more h.active i, s.peaked);
    limited = s.limited;
    rising = rising_without i s.rising;
    some = λ e. s.some (was_unmarked h.standing (eqb i.0 (present_of h).0) e);
    fresh = λ e. rising_without i (s.fresh (was_unmarked h.standing (eqb i.0 (present_of h).0) e));
  }

  -- a Mark to which no refusal applies: the standing has nothing against it, and fewer than K are active
  free : (n : ℕ) → refusal_of h n Mark ≡ 0 → ((transition_of Event.Mark h.standing).due ≡ None) × (length h.active ≡ h.limit → ⊥)
  free n e = mark_free (session_of h) (transition_of Event.Mark h.standing).due (refusal_none (session_of h) n false Mark e).2

  accept_sound : (n : ℕ) (c : Command) → refusal_of h n c ≡ 0 → Sound (accept h c).history
  accept_sound n (Value v) e = value_sound v
  accept_sound n Mark e = let f = free n e in mark_sound f.0 f.1
  accept_sound n (Query i) e = s
  accept_sound n (Close i) e = close_sound i

  -- A COMMAND KEEPS A HISTORY SOUND, accepted or refused
  pub step_sound : (n : ℕ) (c : Command) → Sound (step h n c).history
  step_sound n c = elim (ℕ_discrete (refusal_of h n c) 0) [
    | yes e ↦ rw (step_accepted h n c e) (accept_sound n c e)
    | no e ↦ rw (step-refused h n c (refusal_of h n c) refl e) s
  ]

-- AN OPENING IS SOUND, accepted or refused
blank_sound : (n k : ℕ) → k ≤ 4096 → ((n ≡ 0 → ⊥) → 512 + 64 * k ≤ n) → Sound (blank n k)
blank_sound n k f w = record {
  few = f;
  wide = w;
  peaked = omega arith;
  limited = omega arith;
  rising = let e : 0 ≤ 0 = omega arith in done e;
  some = λ e. absurd (let z : ◌≡◌ {A = ℕ} 0 1 = cc in omega arith);
  fresh = λ e. absurd (let z : ◌≡◌ {A = ℕ} 0 1 = cc in omega arith);
}

pub opening_sound : (n : ℕ) → Sound (opening n).history
opening_sound n = elim (dec_lt n 576) [
  | yes l ↦ rw (opening_refused n l) (blank_sound 0 0 (omega arith) (λ z. absurd (z refl)))
  | no l ↦ rw (opening-accepted n (omega (arith, l))) (blank_sound n (limit_of n) (omega arith) (λ z. omega (arith, l)))
]
