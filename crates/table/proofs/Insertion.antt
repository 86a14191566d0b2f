-- The words after an insertion: what they leave, that they are a table, and which positions are active.
use mathlib.Core.Path.{◌≡◌, refl}
use mathlib.Core.List.{List, [], ◌∷◌, ◌++◌}
use Prim.Native.Nat.{ℕ, ◌+◌, ◌*◌, ◌<◌}
use native.Mathlib.Omega.{arith}
use lib.ListN.{length, get_or, set, length-set}
use lib.Seq.{get_or-set_same, get_or-set_other}
use Rattle.history.specs.declared.Position.{Position}
use Rattle.layout.specs.declared.Held.{Held}
use Rattle.layout.specs.declared.Lane.{Lane}
use Rattle.layout.specs.Words.{Lower, after, base_of, word, mark_word, head}
use Rattle.layout.specs.Frames.{Within}
use Rattle.layout.proofs.Written.{wrote, and_then, same_row}
use Rattle.table.specs.Marks.{bucket_of, Linked, After, active_in, inserted, by_insertion}
use Rattle.table.proofs.Buckets.{bucket_below}
use Rattle.table.proofs.Grown.{Grown, grown_linked, grown_active}

module _ (w : List ℕ) (k : Lane) (rows : Held) (b mark older : ℕ) where
  -- the words after one store more, in the order of the code
  abbrev s₁ : List ℕ
  s₁ = set w (base_of k + 32 * rows.0 + 1) mark

  abbrev s₂ : List ℕ
  s₂ = set s₁ (base_of k + 32 * rows.0 + 2) older

  abbrev s₃ : List ℕ
  s₃ = set s₂ (base_of k + 32 * b + 7) rows.0

  -- a word that no store touches
  aside : (i : ℕ) → (i ≡ base_of k + 32 * rows.0 + 1 → ⊥) → (i ≡ base_of k + 32 * rows.0 + 2 → ⊥) → (i ≡ base_of k + 32 * b + 7 → ⊥) → get_or s₃ i 0 ≡ get_or w i 0
  aside i n₁ n₂ n₃ = simp get_or-set_other

  module _ (row : base_of k + 32 * rows.0 + 2 < length w) (low : base_of k + 32 * b + 7 < length w) where
    -- the new row's mark
    new_mark : word s₃ k rows.0 1 ≡ mark
    new_mark =
        let n₃ : base_of k + 32 * rows.0 + 1 ≡ base_of k + 32 * b + 7 → ⊥ = λ e. omega arith in
        let n₂ : base_of k + 32 * rows.0 + 1 ≡ base_of k + 32 * rows.0 + 2 → ⊥ = λ e. omega arith in
        simp get_or-set_other (get_or-set_same w (base_of k + 32 * rows.0 + 1) mark 0 (omega arith))

    -- the new row leads to where the bucket started before
    new_link : word s₃ k rows.0 2 ≡ older
    new_link =
        let n₃ : base_of k + 32 * rows.0 + 2 ≡ base_of k + 32 * b + 7 → ⊥ = λ e. omega arith in
        simp get_or-set_other (get_or-set_same s₁ (base_of k + 32 * rows.0 + 2) older 0 (simp length-set (omega arith)))

    -- the bucket starts at the new row
    new_head : word s₃ k b 7 ≡ rows.0
    new_head = get_or-set_same s₂ (base_of k + 32 * b + 7) rows.0 0 (simp length-set (omega arith))

-- an insertion writes words of its lane's rows and heads
pub insertion_within : (w : List ℕ) (k : Lane) (rows capacity : Held) (p : Position) → Lower rows capacity → Within by_insertion k capacity w (inserted w k rows capacity p)
insertion_within w k rows capacity p l =
    let b = bucket_of p capacity in
    let mark = 2 * p.0 + 1 in
    let older = (head w k b).0 in
    and_then by_insertion k capacity
    (and_then by_insertion k capacity
    (wrote by_insertion k capacity w rows.0 1 mark (omega arith) l refl)
    (wrote by_insertion k capacity (s₁ w k rows b mark older) rows.0 2 older (omega arith) l refl))
    (wrote by_insertion k capacity (s₂ w k rows b mark older) b 7 rows.0 (omega arith) (bucket_below p capacity (omega arith)) refl)

module _ (w : List ℕ) (k : Lane) (rows capacity : Held) (p : Position) where
  -- the stores add a row
  grown : Linked w k rows capacity → Lower rows capacity → Grown w (inserted w k rows capacity p) k rows capacity p
  grown t spare =
      let b = bucket_of p capacity in
      let mark = 2 * p.0 + 1 in
      let older = (head w k b).0 in
      let few : bucket_of p capacity < capacity.0 = bucket_below p capacity (omega arith) in
      let row : base_of k + 32 * rows.0 + 2 < length w = omega (arith, t.room.wide) in
      let low : base_of k + 32 * bucket_of p capacity + 7 < length w = omega (arith, t.room.wide) in
      let same = aside w k rows b mark older in
      record {
        long = simp length-set;
        mark_new = new_mark w k rows b mark older row low;
        mark_old = λ g l. same (base_of k + 32 * g.0 + 1) (λ e. omega arith) (λ e. omega arith) (λ e. omega arith);
        link_new = new_link w k rows b mark older row low;
        link_old = λ g l. same (base_of k + 32 * g.0 + 2) (λ e. omega arith) (λ e. omega arith) (λ e. omega arith);
        head_new = new_head w k rows b mark older row low;
        head_old = λ a n. same (base_of k + 32 * a + 7) (λ e. omega arith) (λ e. omega arith) (λ e. n (same_row k k a b 7 7 (omega arith) (omega arith) e));
      }

  -- a table with a row to spare stays a table
  pub insertion_linked : Linked w k rows capacity → Lower rows capacity → After w k rows p → Linked (inserted w k rows capacity p) k (after rows) capacity
  insertion_linked t spare above = grown_linked w (inserted w k rows capacity p) k rows capacity p (grown t spare) t spare above

  -- its active positions get the new one
  pub insertion_active : Linked w k rows capacity → Lower rows capacity → active_in (inserted w k rows capacity p) k (after rows) ≡ active_in w k rows ++ (p ∷ [])
  insertion_active t spare = grown_active w (inserted w k rows capacity p) k rows capacity p (grown t spare) t

  -- the older rows keep their marks
  pub insertion_old : Linked w k rows capacity → Lower rows capacity → (h : Held) → Lower h rows → mark_word (inserted w k rows capacity p) k h ≡ mark_word w k h
  insertion_old t spare = (grown t spare).mark_old

  -- the new row is an active mark at its position
  pub insertion_new : Linked w k rows capacity → Lower rows capacity → mark_word (inserted w k rows capacity p) k rows ≡ 2 * p.0 + 1
  insertion_new t spare = (grown t spare).mark_new
