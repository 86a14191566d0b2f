-- Words whose rows and heads are those of a table are a table too, with the same positions.
use mathlib.Core.Path.{◌≡◌, refl, ap}
use mathlib.Core.List.{List}
use Prim.Native.Nat.{ℕ}
use native.Mathlib.Omega.{arith}
use lib.ListN.{length}
use Rattle.history.specs.declared.Position.{Position}
use Rattle.layout.specs.declared.Held.{Held}
use Rattle.layout.specs.declared.Lane.{Lane}
use Rattle.layout.specs.Words.{word, position}
use Rattle.layout.specs.Frames.{Same}
use Rattle.layout.specs.Frames as Frames
use Rattle.table.specs.Marks.{bucket_of, Linked, active_below}
use Rattle.table.proofs.Chains.{carry}
use Rattle.table.proofs.Active.{active_below_same}

-- v is linked as w is: its rows have the same positions and links, and its buckets the same heads; what else the marks say is free
pub record LinkedAs (w v : List ℕ) (k : Lane) : Type 0 where
  pub long : length v ≡ length w
  pub positions : (h : Held) → (position v k h).0 ≡ (position w k h).0
  pub links : (h : Held) → word v k h.0 2 ≡ word w k h.0 2
  pub heads : (b : ℕ) → word v k b 7 ≡ word w k b 7

-- words that are linked as a table is are a table
pub linked_as : (w v : List ℕ) (k : Lane) (rows capacity : Held) → LinkedAs w v k → Linked w k rows capacity → Linked v k rows capacity
linked_as w v k rows capacity a t = record {
  room = record { few = t.room.few; wide = omega (arith, a.long, t.room.wide) };
  full = t.full;
  rising = λ g h l m. rw (a.positions g, a.positions h) (t.rising g h l m);
  reached = λ h l. rw (a.positions h, a.heads (bucket_of (position w k h) capacity)) (carry (λ n m. a.links n) (t.reached h l));
}

-- the same rows have the same positions
pub position_same : {w v : List ℕ} {k : Lane} → Same Frames.row k w v → (h : Held) → position v k h ≡ position w k h
position_same s h = rw (s.words h.0 1 (omega arith) refl)

-- the same rows and heads are the same table
pub linked_same : {w v : List ℕ} {k : Lane} {rows capacity : Held} → length v ≡ length w → Same Frames.row k w v → Same Frames.head k w v
    → Linked w k rows capacity → Linked v k rows capacity
linked_same {w} {v} {k} {rows} {capacity} long r h = linked_as w v k rows capacity (record {
  long = long;
  positions = λ g. ap (λ (p : Position). p.0) (position_same r g);
  links = λ g. r.words g.0 2 (omega arith) refl;
  heads = λ b. h.words b 7 (omega arith) refl;
})

-- the same rows have the same active positions
pub active_same : {w v : List ℕ} {k : Lane} → Same Frames.row k w v → (n : ℕ) → active_below v k n ≡ active_below w k n
active_same {w} {v} {k} s n = active_below_same w v k n (λ m l. s.words m 1 (omega arith) refl)
