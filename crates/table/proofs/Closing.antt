-- Closing one row strikes its position from the active ones, and no other: positions ascend, so no other row has it.
use mathlib.Core.Path.{◌≡◌, refl, sym, ap, ◌∙◌}
use mathlib.Core.List.{List, [], append-nil}
use Prim.Native.Nat.{ℕ, zero, suc, ◌+◌, ◌*◌, ◌/◌, ◌%◌, ◌<◌, ◌≤◌}
use native.Mathlib.Decide.{ℕ_discrete, dec_lt}
use native.Mathlib.Omega.{arith}
use lib.ListN.{length, get_or, length-set}
use lib.Seq.{get_or-set_same, get_or-set_other}
use borrow.Author.Tests.{eq-eqb}
use Rattle.history.specs.declared.Position.{Position}
use Rattle.history.specs.Histories.{without}
use Rattle.layout.specs.declared.Held.{Held}
use Rattle.layout.specs.declared.Lane.{Lane}
use Rattle.layout.specs.Words.{Lower, base_of, word, mark_word, position, Room}
use Rattle.layout.specs.Frames.{Within}
use Rattle.layout.proofs.Written.{wrote}
use Rattle.table.specs.Marks.{Linked, active_below, released, by_close}
use Rattle.table.proofs.Positions.{without-append, without_other, without_same}
use Rattle.table.proofs.Active.{closed, placed, own, active_below_same}
use Rattle.table.proofs.Kept.{linked_as}

-- a position that none of the first n rows has is not there to strike
pub absent : (w : List ℕ) (k : Lane) (p : Position) (n : ℕ) → ((m : ℕ) → m < n → p.0 ≡ word w k m 1 / 2 → ⊥) → without p (active_below w k n) ≡ active_below w k n
absent w k p zero none = refl
absent w k p (suc n) none =
    let last : without p (own w k n) ≡ own w k n = without_other (closed w k n) p (placed w k n) (none n (omega arith)) in
    rw (without-append, absent w k p n (λ m l. none m (omega arith)), last)

-- v is w with row h closed
record Shut (w v : List ℕ) (k : Lane) (h : Held) : Type 0 where
  marks : (m : ℕ) → (m ≡ h.0 → ⊥) → word v k m 1 ≡ word w k m 1
  closed : word v k h.0 1 % 2 ≡ 0

-- of the first n rows, closing row h strikes its position
struck : (w v : List ℕ) (k : Lane) (h : Held) → Shut w v k h → (n : ℕ) → ((f g : ℕ) → f < g → g < n → word w k f 1 / 2 < word w k g 1 / 2)
    → h.0 < n → active_below v k n ≡ without (position w k h) (active_below w k n)
struck w v k h s zero rising l = absurd (omega arith)
struck w v k h s (suc n) rising l =
    let p = position w k h in
    elim (ℕ_discrete h.0 n) [
      | yes e ↦
          let shut : own v k n ≡ [] = simp (eq-eqb _ _ (rw e at s.closed)) in
          let older : active_below v k n ≡ active_below w k n = active_below_same w v k n (λ m i. s.marks m (λ q. omega arith)) in
          let none : without p (active_below w k n) ≡ active_below w k n = absent w k p n (λ m i q. let r = rising m h.0 (omega arith) l in omega arith) in
          rw (shut, older, append-nil, without-append, none, without_same (closed w k n) p (placed w k n) (rw e refl), append-nil)
      | no e ↦
          let older = struck w v k h s n (λ f g a b. rising f g a (omega arith)) (omega arith) in
          let kept : without p (own w k n) ≡ own w k n = without_other (closed w k n) p (placed w k n) (λ q. let r = rising h.0 n (omega arith) (omega arith) in omega arith) in
          rw (older, s.marks n (λ q. e (omega arith)), without-append, kept)
    ]

-- a close writes words of its lane's rows
pub release_within : (w : List ℕ) (k : Lane) (rows h : Held) → Lower h rows → Within by_close k rows w (released w k h)
release_within w k rows h l = wrote by_close k rows w h.0 1 (mark_word w k h / 2 * 2) (omega arith) l refl

module _ (w : List ℕ) (k : Lane) (h : Held) where
  -- a word that is not the row's mark stays
  aside : (i : ℕ) → (i ≡ base_of k + 32 * h.0 + 1 → ⊥) → get_or (released w k h) i 0 ≡ get_or w i 0
  aside i n = simp get_or-set_other

  -- the row's mark is the even one of its position
  shut : base_of k + 32 * h.0 + 1 < length w → mark_word (released w k h) k h ≡ mark_word w k h / 2 * 2
  shut l = get_or-set_same w (base_of k + 32 * h.0 + 1) (mark_word w k h / 2 * 2) 0 l

  -- so no row's position changes
  position_kept : base_of k + 32 * h.0 + 1 < length w → (g : Held) → position (released w k h) k g ≡ position w k g
  position_kept l g =
      elim (ℕ_discrete g.0 h.0) [
        | yes e ↦
            let q : word (released w k h) k g.0 1 / 2 ≡ word w k g.0 1 / 2 = rw e (omega (arith, shut l)) in
            ap (λ (n : ℕ). record { 0 = n }) q
        | no n ↦ rw (aside (base_of k + 32 * g.0 + 1) (λ e. n (omega arith)))
      ]

-- a close changes no row's position
pub release_position : (w : List ℕ) (k : Lane) (rows h : Held) → Room w rows.0 → Lower h rows → (g : Held) → position (released w k h) k g ≡ position w k g
release_position w k rows h room l = position_kept w k h (omega (arith, room.wide))

module _ (w : List ℕ) (k : Lane) (rows capacity h : Held) (t : Linked w k rows capacity) (l : Lower h rows) where
  -- the row is inside the words
  inside : base_of k + 32 * h.0 + 1 < length w
  inside = omega (arith, t.room.wide, t.full)

  -- a table stays a table
  pub release_linked : Linked (released w k h) k rows capacity
  release_linked = linked_as w (released w k h) k rows capacity (record {
    long = simp length-set;
    positions = λ g. ap (λ (p : Position). p.0) (position_kept w k h inside g);
    links = λ g. aside w k h (base_of k + 32 * g.0 + 2) (λ e. omega arith);
    heads = λ b. aside w k h (base_of k + 32 * b + 7) (λ e. omega arith);
  }) t

  closes : Shut w (released w k h) k h
  closes = record {
    marks = λ m n. aside w k h (base_of k + 32 * m + 1) (λ e. n (omega arith));
    closed = omega (arith, shut w k h inside);
  }

  -- the row's position is struck from the active ones of the rows before any, where it is one of them
  pub release_below : (n : ℕ) → n ≤ rows.0 → active_below (released w k h) k n ≡ without (position w k h) (active_below w k n)
  release_below n b = elim (dec_lt h.0 n) [
    | yes i ↦ struck w (released w k h) k h closes n (λ f g m c. t.rising (record { 0 = f }) (record { 0 = g }) m (omega arith)) i
    | no i ↦
        active_below_same w (released w k h) k n (λ m c. closes.marks m (λ e. omega (arith, i)))
        ∙ sym (absent w k (position w k h) n (λ m c e. omega (arith, i, t.rising (record { 0 = m }) h (omega (arith, i)) l)))
  ]
