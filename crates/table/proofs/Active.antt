-- The active positions of a lane's rows: which they are, how many, and that they follow from the rows' marks alone.
use mathlib.Core.Path.{◌≡◌, refl, sym, ap, subst, ◌∙◌}
use mathlib.Core.Bool.{Bool, true, false, or-true, false≢true}
use mathlib.Core.List.{List, [], ◌++◌, append-nil, append_assoc}
use mathlib.Core.Logic.{⊎_elim}
use Rattle.std.specs.Prelude.{Option, None, Some}
use Prim.Native.Nat.{ℕ, zero, suc, ◌+◌, ◌*◌, ◌/◌, ◌%◌, ◌<◌, ◌≤◌}
use native.Mathlib.Decide.{ℕ_discrete}
use native.Mathlib.Numerals.{add-one}
use native.Mathlib.Omega.{arith}
use lib.Dec.{eqb}
use lib.ListN.{length, length-append}
use borrow.Author.Tests.{eq-eqb, ne_eqb, eqb-false}
use Rattle.laws.proofs.Tests.{refuted, either}
use Rattle.history.specs.declared.Position.{Position}
use Rattle.history.specs.Histories.{among}
use Rattle.layout.specs.declared.Held.{Held}
use Rattle.layout.specs.declared.Lane.{Lane}
use Rattle.layout.specs.Words.{word, mark_word, position}
use Rattle.table.specs.Marks.{Linked, Live, active_below, active_in}
use Rattle.table.specs.Calls.{Sought}
use Rattle.table.proofs.Positions.{unless, length_unless, among-unless, among-append}

-- whether row n is closed
abbrev pub closed : List ℕ → Lane → ℕ → Bool
closed w k n = eqb (word w k n 1 % 2) 0

-- the position of row n
abbrev pub placed : List ℕ → Lane → ℕ → Position
placed w k n = position w k (record { 0 = n })

-- what row n adds to the active positions
abbrev pub own : List ℕ → Lane → ℕ → List Position
own w k n = unless (closed w k n) (placed w k n)

-- row h is one of the first n, and an active mark at position p
abbrev First : List ℕ → Lane → Position → ℕ → Held → Type 0
First w k p n h = (h.0 < n) × (mark_word w k h ≡ 2 * p.0 + 1)

module _ (w : List ℕ) (k : Lane) (p : Position) where
  -- an active row adds its position
  own_live : (n : ℕ) → word w k n 1 ≡ 2 * p.0 + 1 → among p (own w k n) ≡ true
  own_live n e =
      let odd : word w k n 1 % 2 ≡ 0 → ⊥ = λ q. omega arith in
      let same : p.0 ≡ word w k n 1 / 2 = omega arith in
      simp (ne_eqb _ _ odd, eq-eqb _ _ same)

  -- an active mark of the first n rows is among their active positions
  first_among : (n : ℕ) (h : Held) → First w k p n h → among p (active_below w k n) ≡ true
  first_among zero h m = absurd (omega arith)
  first_among (suc n) h m =
      elim (ℕ_discrete h.0 n) [
        | yes i ↦ rw (among-append, own_live n (rw i at m.1), or-true)
        | no i ↦ rw (among-append, first_among n h (omega arith, m.1))
      ]

  -- an active position of the first n rows is an active mark's
  among_first : (n : ℕ) → among p (active_below w k n) ≡ true → (h : Held) × First w k p n h
  among_first zero e = absurd (false≢true e)
  among_first (suc n) e =
      ⊎_elim
      (λ l. let m = among_first n l in (m.0, (omega arith, m.1.1)))
      (λ l.
      let m = among-unless (closed w k n) p (placed w k n) l in
      let odd : word w k n 1 % 2 ≡ 0 → ⊥ = eqb-false _ _ m.0 in
      (record { 0 = n }, (omega arith, omega (arith, m.1))))
      (either (among p (active_below w k n)) (among p (own w k n)) (rw among-append at e))

-- an active mark's position is among the active ones
pub live_among : (w : List ℕ) (k : Lane) (rows : Held) (p : Position) (h : Held) → Live w k rows p h → among p (active_in w k rows) ≡ true
live_among w k rows p h l = first_among w k p rows.0 h (l.row, l.mark)

-- a position among the active ones is an active mark's
pub among_live : (w : List ℕ) (k : Lane) (rows : Held) (p : Position) → among p (active_in w k rows) ≡ true → (h : Held) × Live w k rows p h
among_live w k rows p e = let m = among_first w k p rows.0 e in (m.0, record { row = m.1.0; mark = m.1.1 })

-- and it is its row's
pub live_position : (w : List ℕ) (k : Lane) (rows : Held) (p : Position) (h : Held) → Live w k rows p h → position w k h ≡ p
live_position w k rows p h l =
    let e : mark_word w k h / 2 ≡ p.0 = omega (arith, l.mark) in
    ap (λ (n : ℕ). record { 0 = n }) e

-- where a search of a table finds nothing, the position is not among the active ones
pub not_among : (w : List ℕ) (k : Lane) (rows capacity : Held) (p : Position) (r : Option Held) → Sought w k rows capacity p r → Linked w k rows capacity
    → r ≡ None → among p (active_in w k rows) ≡ false
not_among w k rows capacity p r s t e =
    refuted _ (λ a.
    let m = among_live w k rows p a in
    let found : None ≡ Some m.0 = sym e ∙ s.complete t m.0 m.1 in
    cc)

-- rows with the same marks have the same active positions
pub active_below_same : (w v : List ℕ) (k : Lane) (n : ℕ) → ((m : ℕ) → m < n → word v k m 1 ≡ word w k m 1) → active_below v k n ≡ active_below w k n
active_below_same w v k zero same = refl
active_below_same w v k (suc n) same = rw (active_below_same w v k n (λ m l. same m (omega arith)), same n (omega arith))

-- n rows have at most n active positions
pub active_below_length : (w : List ℕ) (k : Lane) (n : ℕ) → length (active_below w k n) ≤ n
active_below_length w k zero = omega arith
active_below_length w k (suc n) =
    let m = active_below_length w k n in
    let l : length (own w k n) ≤ 1 = length_unless (closed w k n) (placed w k n) in
    rw length-append (omega arith)

-- the row after the first ones adds its own
pub below_after : (w : List ℕ) (k : Lane) (n : ℕ) → active_below w k (n + 1) ≡ active_below w k n ++ own w k n
below_after w k n = ap (active_below w k) (add-one n)

-- the active positions of more rows are those of the first, and the rest
pub below_split : (w : List ℕ) (k : Lane) (h n : ℕ) → h ≤ n → (rest : List Position) × (active_below w k n ≡ active_below w k h ++ rest)
below_split w k h zero l = ([], subst (λ (i : ℕ). active_below w k 0 ≡ active_below w k i ++ []) (let e : 0 ≡ h = omega arith in e) refl)
below_split w k h (suc n) l = elim (ℕ_discrete h (suc n)) [
  | yes e ↦ ([], subst (λ (i : ℕ). active_below w k (suc n) ≡ active_below w k i ++ []) (sym e) (sym (append-nil (active_below w k (suc n)))))
  | no e ↦
      let r = below_split w k h n (omega arith) in
      (r.0 ++ own w k n, ap (λ (qs : List Position). qs ++ own w k n) r.1 ∙ append_assoc (active_below w k h) r.0 (own w k n))
]

-- so they are no fewer
pub below_fewer : (w : List ℕ) (k : Lane) (h n : ℕ) → h ≤ n → length (active_below w k h) ≤ length (active_below w k n)
below_fewer w k h n l = let r = below_split w k h n l in omega (arith, ap length r.1, length-append (active_below w k h) r.0)
