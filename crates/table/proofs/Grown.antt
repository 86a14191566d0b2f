-- A row added at the head of its bucket's chain, at a position after all others, leaves a table; its active positions get one more.
use mathlib.Core.Path.{◌≡◌, refl}
use mathlib.Core.List.{List, [], ◌∷◌, ◌++◌}
use Prim.Native.Nat.{ℕ, ◌+◌, ◌*◌, ◌%◌}
use native.Mathlib.Numerals.{add-one}
use native.Mathlib.Decide.{ℕ_discrete}
use native.Mathlib.Omega.{arith}
use lib.ListN.{length}
use borrow.Author.Tests.{ne_eqb}
use Rattle.history.specs.declared.Position.{Position}
use Rattle.layout.specs.declared.Held.{Held}
use Rattle.layout.specs.declared.Lane.{Lane}
use Rattle.layout.specs.Words.{Lower, after, word, position, head}
use Rattle.layout.proofs.Order.{same_held}
use Rattle.table.specs.Marks.{bucket_of, Chain, here, next, Rising, Linked, After, active_below, active_in}
use Rattle.table.proofs.Chains.{raise, carry}
use Rattle.table.proofs.Active.{own, active_below_same}

-- v is w with one row more: position p, active, at the head of p's bucket
pub record Grown (w v : List ℕ) (k : Lane) (rows capacity : Held) (p : Position) : Type 0 where
  pub long : length v ≡ length w
  pub mark_new : word v k rows.0 1 ≡ 2 * p.0 + 1
  pub mark_old : (g : Held) → Lower g rows → word v k g.0 1 ≡ word w k g.0 1
  pub link_new : word v k rows.0 2 ≡ word w k (bucket_of p capacity) 7
  pub link_old : (g : Held) → Lower g rows → word v k g.0 2 ≡ word w k g.0 2
  pub head_new : word v k (bucket_of p capacity) 7 ≡ rows.0
  pub head_old : (a : ℕ) → (a ≡ bucket_of p capacity → ⊥) → word v k a 7 ≡ word w k a 7

module _ (w v : List ℕ) (k : Lane) (rows capacity : Held) (p : Position) (s : Grown w v k rows capacity p) (t : Linked w k rows capacity) where
  -- an older row has its old position
  place_old : (g : Held) → Lower g rows → (position v k g).0 ≡ (position w k g).0
  place_old g l = rw (s.mark_old g l)

  -- the new row has the new one
  place_new : (g : Held) → g.0 ≡ rows.0 → (position v k g).0 ≡ p.0
  place_new g e = rw e (omega (arith, s.mark_new))

  -- an older row is on its old chain
  old : (g : Held) → Lower g rows → Chain v k g rows (head w k (bucket_of (position w k g) capacity))
  old g l = carry s.link_old (t.reached g l)

  -- and on the chain that its bucket has now, which is the old one or starts at the new row
  old_reached : (g : Held) → Lower g rows → Chain v k g (after rows) (head v k (bucket_of (position w k g) capacity))
  old_reached g l =
      elim (ℕ_discrete (bucket_of (position w k g) capacity) (bucket_of p capacity)) [
        | yes e ↦
            let c : Chain v k g rows (head w k (bucket_of p capacity)) = rw e at (old g l) in
            rw (e, s.head_new) (next {top = after rows} {g = rows} (omega arith) (rw s.link_new c))
        | no n ↦ rw (s.head_old _ n) (raise (after rows) (omega arith) (old g l))
      ]

  -- each row is reached
  reached : (g : Held) → Lower g (after rows) → Chain v k g (after rows) (head v k (bucket_of (position v k g) capacity))
  reached g l =
      elim (ℕ_discrete g.0 rows.0) [
        | yes e ↦ rw (place_new g e, s.head_new) (here {top = after rows} {g = rows} (omega arith) (same_held (omega arith)))
        | no n ↦ rw (place_old g (omega arith)) (old_reached g (omega arith))
      ]

  -- positions ascend
  rising : After w k rows p → Rising v k (after rows)
  rising above g h l m =
      let o : Lower g rows = omega arith in
      elim (ℕ_discrete h.0 rows.0) [
        | yes e ↦ rw (place_old g o, place_new h e) (above g o)
        | no n ↦ rw (place_old g o, place_old h (omega arith)) (t.rising g h l (omega arith))
      ]

  -- a table with a row to spare stays a table
  pub grown_linked : Lower rows capacity → After w k rows p → Linked v k (after rows) capacity
  grown_linked spare above = record {
    room = record { few = t.room.few; wide = omega (arith, s.long, t.room.wide) };
    full = omega arith;
    rising = rising above;
    reached = reached;
  }

  -- the active positions get the new one
  pub grown_active : active_in v k (after rows) ≡ active_in w k rows ++ (p ∷ [])
  grown_active =
      let older : active_below v k rows.0 ≡ active_below w k rows.0 = active_below_same w v k rows.0 (λ m l. s.mark_old (record { 0 = m }) l) in
      let odd : word v k rows.0 1 % 2 ≡ 0 → ⊥ = λ q. omega (arith, s.mark_new) in
      let newest : own v k rows.0 ≡ p ∷ [] = simp (ne_eqb _ _ odd) (rw (place_new rows refl)) in
      rw (add-one, older, newest)
