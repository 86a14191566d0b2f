-- The window's opening and its steps, by the tests that decide them; what holds of every paper that they lead to; and that what is shown is the least from the oldest position on.
use mathlib.Core.Path.{◌≡◌, refl, sym, ap, ◌∙◌}
use mathlib.Core.Bool.{Bool, true, false, cond}
use mathlib.Core.List.{List, [], ◌∷◌, ◌++◌}
use mathlib.Core.Logic.{⊎_elim}
use Rattle.std.specs.Prelude.{Some, None}
use Prim.Native.Nat.{ℕ, ◌*◌, ◌<◌, ◌≤◌}
use native.Mathlib.Decide.{ℕ_discrete}
use native.Mathlib.Omega.{arith}
use lib.Dec.{eqb}
use lib.IntN.{ℤ}
use lib.ListN.{length, length-append}
use borrow.Author.Tests.{le-leb, lt-leb, lt-ltb, le-ltb, ne_eqb}
use Rattle.laws.proofs.Tests.{lt_or_ge}
use Rattle.history.specs.Minimum.{Minimum}
use Rattle.history.specs.Minima.{Least, present_at}
use Rattle.history.specs.Replies.{numbered, accepted, value_refusal}
use Rattle.history.proofs.Steps.{lent_none}
use Rattle.history.proofs.Lowest.{minimum_least}
use Rattle.window.specs.Windows.{Paper, Stepped, opening_refusal, blank, opening, oldest, least, refusal_of, accept, step}
use Rattle.window.specs.Keeping.{Sound}
use Rattle.window.proofs.Inside.{oldest_inside}

-- 12, 13 and none, of an opening of n words
module _ (n width : ℕ) where
  pub width_zero : width < 1 → opening_refusal n width ≡ 12
  width_zero l = rw (lt-leb 1 width l)

  pub width_large : 1 ≤ width → 4096 < width → opening_refusal n width ≡ 12
  width_large l m = rw (le-leb 1 width l, lt-leb width 4096 m)

  pub words_few : 1 ≤ width → width ≤ 4096 → n < 2 * width → opening_refusal n width ≡ 13
  words_few l m f = rw (le-leb 1 width l, le-leb width 4096 m, lt-ltb n (2 * width) f)

  pub words_enough : 1 ≤ width → width ≤ 4096 → 2 * width ≤ n → opening_refusal n width ≡ 0
  words_enough l m f = rw (le-leb 1 width l, le-leb width 4096 m, le-ltb n (2 * width) f)

  -- where none applies, W is in its range, and the words are enough
  pub opening_none : opening_refusal n width ≡ 0 → (1 ≤ width) × (width ≤ 4096) × (2 * width ≤ n)
  opening_none e =
      let some : 1 ≤ width = ⊎_elim (λ (l : width < 1). absurd (omega (arith, width_zero l))) (λ (l : 1 ≤ width). l) (lt_or_ge width 1) in
      let few : width ≤ 4096 = ⊎_elim (λ (l : 4096 < width). absurd (omega (arith, width_large some l))) (λ (l : width ≤ 4096). l) (lt_or_ge 4096 width) in
      let wide : 2 * width ≤ n = ⊎_elim (λ (l : n < 2 * width). absurd (omega (arith, words_few some few l))) (λ (l : 2 * width ≤ n). l) (lt_or_ge n (2 * width)) in
      (some, few, wide)

  pub opening_refused : (k : ℕ) → opening_refusal n width ≡ k → (k ≡ 0 → ⊥) → opening n width ≡ record { paper = blank 0 0; tells = numbered k }
  opening_refused k e z = rw (e, ne_eqb k 0 z)

  pub opening-accepted : opening_refusal n width ≡ 0 → opening n width ≡ record { paper = blank n width; tells = accepted }
  opening-accepted e = rw e

  -- an opening leads to a sound paper, of as many words as were lent where it has words at all
  pub opening_sound : Sound (opening n width).paper
  opening_sound = elim (ℕ_discrete (opening_refusal n width) 0) [
    | yes e ↦ rw (opening-accepted e) (record { some = λ z. (opening_none e).0 })
    | no e ↦ rw (opening_refused _ refl e) (record { some = λ z. absurd (z refl) })
  ]

  pub opening-words : ((opening n width).paper.words ≡ 0 → ⊥) → (opening n width).paper.words ≡ n
  opening-words z = elim (ℕ_discrete (opening_refusal n width) 0) [
    | yes e ↦ ap (λ (x : Stepped). x.paper.words) (opening-accepted e)
    | no e ↦ absurd (z (ap (λ (x : Stepped). x.paper.words) (opening_refused _ refl e)))
  ]

-- a value that is refused with k, on the paper p
abbrev pub refused : Paper → ℕ → Stepped
refused p k = record { paper = p; tells = numbered k }

module _ (p : Paper) (n : ℕ) (v : ℤ) where
  pub step-refused : (k : ℕ) → refusal_of p n ≡ k → (k ≡ 0 → ⊥) → step p n v ≡ refused p k
  step-refused k e z = rw (e, ne_eqb k 0 z)

  pub step_accepted : refusal_of p n ≡ 0 → step p n v ≡ accept p v
  step_accepted e = rw e

  -- no value alters the opened length or the width
  pub step_words : (step p n v).paper.words ≡ p.words
  step_words = go (eqb (refusal_of p n) 0)
    where
      go : (b : Bool) → (cond b (accept p v) (refused p (refusal_of p n))).paper.words ≡ p.words
      go true = refl
      go false = refl

  -- a value leads to a sound paper
  pub step_sound : Sound p → Sound (step p n v).paper
  step_sound y = elim (ℕ_discrete (refusal_of p n) 0) [
    | yes e ↦ rw (step_accepted e) (record { some = y.some })
    | no e ↦ rw (step-refused _ refl e) y
  ]

  -- THE LEAST FROM THE OLDEST POSITION ON is told where the value is accepted
  pub least_told : Sound p → refusal_of p n ≡ 0
      → let later : Paper = (step p n v).paper in Least later.values (oldest (present_at later.values) p.width) (least p.width (p.values ++ (v ∷ [])))
  least_told y e =
      let w : 1 ≤ p.width = y.some (lent_none p.words n (value_refusal (present_at p.values)) e).0 in
      let more : List ℤ = p.values ++ (v ∷ []) in
      let l = length-append p.values (v ∷ []) in
      rw (step_accepted e)
      (minimum_least more (oldest (present_at more) p.width) (oldest_inside p.width (length more) w).some
      ((oldest_inside p.width (length more) w).stays (length more) (omega (arith, l)) (omega arith) (omega arith)))

  -- and nothing else is shown
  pub shown_least : (m : Minimum) → (step p n v).tells.shown ≡ Some m → (refusal_of p n ≡ 0) × (m ≡ least p.width (p.values ++ (v ∷ [])))
  shown_least m e = elim (ℕ_discrete (refusal_of p n) 0) [
    | yes q ↦
        let x : Some (least p.width (p.values ++ (v ∷ []))) ≡ Some m = sym (ap (λ (x : Stepped). x.tells.shown) (step_accepted q)) ∙ e in
        let y : least p.width (p.values ++ (v ∷ [])) ≡ m = cc in
        (q, sym y)
    | no q ↦
        let x : None ≡ Some m = sym (ap (λ (x : Stepped). x.tells.shown) (step-refused _ refl q)) ∙ e in
        absurd (let y : ◌≡◌ {A = ℕ} 0 1 = cc in omega arith)
  ]
