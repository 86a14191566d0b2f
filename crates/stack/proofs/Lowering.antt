-- A word comes. It takes over the entries from a place up, since the words do not fall towards the top, and no entry below. The rows of the runs from there up are then in the run
-- of the new top; those of the runs below keep their word.
use mathlib.Core.Path.{refl, ap, ◌∙◌}
use mathlib.Core.List.{List}
use mathlib.Core.Logic.{⊎_elim}
use Prim.Native.Nat.{ℕ, ◌+◌, ◌*◌, ◌≤◌, min}
use native.Mathlib.Nat.{min-eq_left, min-eq_right}
use native.Mathlib.Omega.{arith}
use lib.Seq.{get_or-set_same, get_or-set_other}
use Rattle.layout.specs.declared.Held.{Held}
use Rattle.layout.specs.declared.Place.{Place}
use Rattle.layout.specs.declared.Lane.{Lane}
use Rattle.layout.specs.Words.{Under, NotAbove, above, base_of, word, first, Room}
use Rattle.layout.specs.Frames.{Within}
use Rattle.layout.proofs.Written.{untouched, wrote}
use Rattle.layout.proofs.Order.{under_or_not}
use Rattle.stack.specs.Entries.{Stacked, Rests, lowered, by_stack}
use Rattle.stack.specs.Calls.{Lowered}
use Rattle.stack.proofs.Runs.{first_rises}
use Rattle.stack.proofs.Rooms.{room_or_not, room_below}
use Rattle.stack.proofs.NewTop.{Grown, stacked_grown, top_grown, below_grown}

module _ {w v : List ℕ} {k : Lane} {height : Place} {x : ℕ} {r : Place} (d : Lowered w v k height x r) where
  -- nothing is done, or the entries from a place up are taken over
  done : (P : List ℕ → Place → Type 0) → ((Room w height.0 → NotAbove height d.at) → P w height)
      → (Room w height.0 → Under d.at height → P (lowered w k d.at x) (above d.at)) → P v r
  done P none some =
      ⊎_elim
      (λ (room : Room w height.0).
      ⊎_elim (λ (l : Under d.at height). rw ((d.some room l).0, (d.some room l).1) (some room l))
      (λ (l : NotAbove height d.at). rw ((d.none l).0, (d.none l).1) (none (λ o. l)))
      (under_or_not d.at height))
      (λ (no : Room w height.0 → ⊥). rw ((d.idle no).0, (d.idle no).1) (none (λ o. absurd (no o))))
      (room_or_not w height.0)

  -- no words are written but entries below the height
  pub lowered_within : Within by_stack k (record { 0 = height.0 }) w v
  lowered_within =
      done (λ u y. Within by_stack k (record { 0 = height.0 }) w u) (λ n. untouched by_stack k (record { 0 = height.0 }) w)
      (λ o l. wrote by_stack k (record { 0 = height.0 }) w d.at.0 4 x (omega arith) l refl)

  -- the stack gets no higher
  pub lowered_height : r.0 ≤ height.0
  lowered_height = done (λ u y. y.0 ≤ height.0) (λ n. omega arith) (λ o l. omega arith)

  -- the entry at the place is the new top
  grown : Room w height.0 → Under d.at height → Grown w (lowered w k d.at x) k d.at x (first w k d.at).0
  grown o l =
      let i = base_of k + 32 * d.at.0 + 4 in
      record {
        new = get_or-set_same w i x 0 (omega (arith, o.wide));
        start = get_or-set_other w i (base_of k + 32 * d.at.0 + 5) x 0 (λ e. omega arith);
        words = λ t m. get_or-set_other w i (base_of k + 32 * t.0 + 4) x 0 (λ e. omega arith);
        starts = λ t m. get_or-set_other w i (base_of k + 32 * t.0 + 5) x 0 (λ e. omega arith);
      }

  module _ {rows : Held} (room : Room w rows.0) (s : Stacked w k rows height) where
    -- it is a stack of the same rows
    pub lowered_stacked : Stacked v k rows r
    lowered_stacked =
        done (λ u y. Stacked u k rows y) (λ n. s)
        (λ o l.
        stacked_grown (grown o l) s (omega arith) (omega arith)
        (record {
          low = omega (arith, s.low);
          inside = s.below d.at l;
          bottom = λ e. ap (λ (i : ℕ). word w k i 5) e ∙ ap (λ (h : Held). h.0) (s.bottom (omega arith));
          after = λ t e. omega (arith, s.rising t (omega arith), first_rises s (above t) d.at (omega arith) l);
          ascending = λ t e. (d.right s.ascending o).stay t (omega arith);
        }))

    -- each row's word is the lower of its own and x
    pub lowered_rests : {h : Held} {y : ℕ} → Rests w k height h y → Rests v k r h (min y x)
    lowered_rests {h} {y} q =
        let o : Room w height.0 = room_below room s.low in
        let c = q.covers in
        let parts = d.right s.ascending o in
        done (λ u z. Rests u k z h (min y x)) (λ n. rw (min-eq_left {n = y} {m = x} (omega (arith, q.same, parts.stay q.place (omega (arith, c.on, n o))))) q)
        (λ o l.
        ⊎_elim
        (λ (b : Under q.place d.at).
        rw (min-eq_left {n = y} {m = x} (omega (arith, q.same, parts.stay q.place b)))
        (below_grown (grown o l) q (omega arith) b (omega (arith, c.to (omega arith), first_rises s (above q.place) d.at (omega arith) l))))
        (λ (b : NotAbove d.at q.place).
        rw (min-eq_right {n = x} {m = y} (omega (arith, q.same, parts.go q.place b c.on)))
        (top_grown (grown o l) h (omega (arith, c.from, first_rises s d.at q.place b c.on))))
        (under_or_not q.place d.at))
