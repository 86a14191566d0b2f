-- What happens to a lane that holds marks: words elsewhere are written, a value comes, a mark is appended, a mark is closed.
use mathlib.Core.Path.{◌≡◌, refl, sym, ap, subst, ◌∙◌}
use mathlib.Core.List.{List, [], ◌∷◌, ◌++◌}
use native.Mathlib.Decide.{ℕ_discrete}
use Prim.Native.Nat.{ℕ, ◌+◌, ◌-◌, ◌/◌, ◌≤◌}
use native.Mathlib.Omega.{arith}
use lib.IntN.{ℤ}
use lib.ListN.{length, length-append}
use Rattle.history.specs.declared.Position.{Position}
use Rattle.history.specs.Minimum.{Minimum}
use Rattle.history.specs.Minima.{stands_at, next, present_at, minimum}
use Rattle.history.proofs.Lowest.{minimum_more, minimum_least, minimum_rises, minimum_later_place}
use Rattle.layout.specs.declared.Held.{Held}
use Rattle.layout.specs.declared.Place.{Place}
use Rattle.layout.specs.declared.Lane.{Lane}
use Rattle.layout.specs.declared.Extent.{Extent}
use Rattle.layout.specs.Words.{Earlier, NotLater, Lower, after, above, mark_word, position, least_word, emptied, Room}
use Rattle.layout.specs.Frames.{Same, SameLane, row, entry, head}
use Rattle.layout.proofs.Written.{each_kind}
use Rattle.table.specs.Marks.{After, active_in, inserted, released}
use Rattle.table.proofs.Insertion.{insertion_within, insertion_linked, insertion_active, insertion_old, insertion_new}
use Rattle.table.proofs.Closing.{release_within, release_linked, release_position}
use Rattle.table.proofs.Kept.{linked_same, active_same, position_same}
use Rattle.packing.specs.Packing.{packed, Faithful}
use Rattle.stack.specs.Entries.{Stacked, Rests}
use Rattle.stack.specs.Calls.{Lowered, Pushed}
use Rattle.packing.proofs.Words.{packed-lower, faithful_lower, packed_rises}
use Rattle.stack.proofs.Kept.{stacked_same, rests_same}
use Rattle.stack.proofs.Runs.{rests_unique, top_rests}
use Rattle.stack.proofs.Lowering.{lowered_within, lowered_stacked, lowered_rests}
use Rattle.stack.proofs.Pushing.{pushed_within, pushed_stacked, pushed_rests, pushed_older}
use Rattle.ranges.specs.Holding.{origin, RowHolds, LaneHolds}

-- room for fewer
pub room_less : {w : List ℕ} {n : ℕ} → Room w n → (m : ℕ) → m ≤ n → Room w m
room_less r m l = record { few = omega (arith, r.few); wide = omega (arith, r.wide) }

-- room in as many words
pub room_same : {w v : List ℕ} {n : ℕ} → length v ≡ length w → Room w n → Room v n
room_same e r = record { few = r.few; wide = omega (arith, r.wide) }

-- a lane of no rows
pub lane_empty : (w : List ℕ) (k : Lane) (capacity : Held) (values : List ℤ) → Room w capacity.0 → LaneHolds w (emptied k capacity) values
lane_empty w k capacity values r = record {
  linked = record { room = r; full = omega arith; rising = λ g h l m. absurd (omega arith); reached = λ h l. absurd (omega arith) };
  stacked = record {
    low = omega arith;
    some = λ l. l;
    bottom = λ l. absurd (omega arith);
    below = λ t l. absurd (omega arith);
    rising = λ t l. absurd (omega arith);
    ascending = λ t l. absurd (omega arith);
  };
  row = λ h l. absurd (omega arith);
}

-- the lane's words stay
pub lane_same : {w v : List ℕ} {e : Extent} {values : List ℤ} → length v ≡ length w → SameLane e.lane w v → LaneHolds w e values → LaneHolds v e values
lane_same {w} {v} {e} {values} l s a =
    let r = each_kind s row in
    let n = each_kind s entry in
    record {
      linked = linked_same l r (each_kind s head) a.linked;
      stacked = stacked_same n a.stacked;
      row = λ h b.
          let x = a.row h b in
          subst (RowHolds v e.lane e.height values h) (sym (position_same r h))
          (record { after = x.after; before = x.before; rests = rests_same n x.rests; faithful = x.faithful });
    }

-- a value comes
pub lane_lowered : {w v : List ℕ} {e : Extent} {values : List ℤ} (x : ℤ) {r : Place} → Faithful (stands_at x (next (present_at values)))
    → Lowered w v e.lane e.height (packed (stands_at x (next (present_at values)))) r → LaneHolds w e values
    → LaneHolds v (record { lane = e.lane; rows = e.rows; capacity = e.capacity; height = r }) (values ++ (x ∷ []))
lane_lowered {w} {v} {e} {values} x {r} f q a =
    let i = lowered_within q in
    let s : Same row e.lane w v = i.kinds row refl in
    let room : Room w e.rows.0 = room_less a.linked.room e.rows.0 a.linked.full in
    let m : Minimum = stands_at x (next (present_at values)) in
    record {
      linked = linked_same i.long s (i.kinds head refl) a.linked;
      stacked = lowered_stacked q room a.stacked;
      row = λ h b.
          let y = a.row h b in
          let p = position w e.lane h in
          let d = minimum values p in
          let to = (minimum_least values p y.after y.before).to in
          let more = minimum_more values x p y.after y.before in
          subst (RowHolds v e.lane r (values ++ (x ∷ [])) h) (sym (position_same s h))
          (record {
            after = y.after;
            before = omega (arith, y.before, length-append values (x ∷ []));
            rests = subst (Rests v e.lane r h) (sym (packed-lower d m y.faithful f (omega arith)) ∙ ap packed (sym more))
                (lowered_rests q room a.stacked y.rests);
            faithful = subst Faithful (sym more) (faithful_lower d m y.faithful f);
          });
    }

-- a mark is closed
pub lane-released : {w : List ℕ} {e : Extent} {values : List ℤ} (g : Held) → Lower g e.rows → LaneHolds w e values
    → LaneHolds (released w e.lane g) e values
lane-released {w} {e} {values} g l a =
    let n : Same entry e.lane w (released w e.lane g) = (release_within w e.lane e.rows g l).kinds entry refl in
    let room : Room w e.rows.0 = room_less a.linked.room e.rows.0 a.linked.full in
    record {
      linked = release_linked w e.lane e.rows e.capacity g a.linked l;
      stacked = stacked_same n a.stacked;
      row = λ h b.
          let x = a.row h b in
          subst (RowHolds (released w e.lane g) e.lane e.height values h) (sym (release_position w e.lane e.rows g room l h))
          (record { after = x.after; before = x.before; rests = rests_same n x.rests; faithful = x.faithful });
    }

-- a mark is appended: u are the words after the insertion of its row
module _ {w : List ℕ} {e : Extent} {values : List ℤ} {p : Position} (a : LaneHolds w e values) (spare : Lower e.rows e.capacity)
    (z : Earlier origin p) (l : NotLater p (present_at values)) (f : Faithful (minimum values p)) (o : After w e.lane e.rows p) where
  abbrev u : List ℕ
  u = inserted w e.lane e.rows e.capacity p

  -- the insertion writes no entries
  entries : Same entry e.lane w u
  entries = (insertion_within w e.lane e.rows e.capacity p spare).kinds entry refl

  long : length u ≡ length w
  long = (insertion_within w e.lane e.rows e.capacity p spare).long

  stacked_before : Stacked u e.lane e.rows e.height
  stacked_before = stacked_same entries a.stacked

  -- the top entry is the last row's, whose minimum is no higher
  rises : (t : Place) → above t ≡ e.height → least_word u e.lane t ≤ packed (minimum values p)
  rises t q =
      let n : t.0 + 1 ≡ e.height.0 = ap (λ (x : Place). x.0) q in
      let last : Held = record { 0 = e.rows.0 - 1 } in
      let b : Lower last e.rows = omega (arith, a.stacked.low) in
      let c : last.0 + 1 ≡ e.rows.0 = omega arith in
      let x = a.row last b in
      let same : least_word u e.lane t ≡ packed (minimum values (position w e.lane last)) =
      rests_unique stacked_before (top_rests stacked_before t q last (λ i. record { 0 = c i })) (rests_same entries x.rests) in
      let before : NotLater (position w e.lane last) p = omega (arith, o last b) in
      subst (λ (y : ℕ). y ≤ packed (minimum values p)) (sym same)
      (packed_rises (minimum values (position w e.lane last)) (minimum values p) x.faithful f
      (minimum_rises values (position w e.lane last) p x.after before l)
      (minimum_later_place values (position w e.lane last) p x.after before l))

  room : Room u (e.rows.0 + 1)
  room = room_same long (room_less a.linked.room (e.rows.0 + 1) (omega arith))

  -- v are those after the push of its minimum
  module _ {v : List ℕ} {r : Place} (q : Pushed u v e.lane e.height e.rows (packed (minimum values p)) r) where
    rows_same : Same row e.lane u v
    rows_same = (pushed_within q).kinds row refl

    pub position_old : (h : Held) → Lower h e.rows → position w e.lane h ≡ position v e.lane h
    position_old h b =
        (λ i. record { 0 = sym (insertion_old w e.lane e.rows e.capacity p a.linked spare h b) i / 2 })
        ∙ sym (position_same rows_same h)

    pub position_new : p ≡ position v e.lane e.rows
    position_new =
        let m = insertion_new w e.lane e.rows e.capacity p a.linked spare in
        let y : p.0 ≡ mark_word u e.lane e.rows / 2 = omega (arith, m) in
        (λ i. record { 0 = y i }) ∙ sym (position_same rows_same e.rows)

    pub lane_appended : LaneHolds v (record { lane = e.lane; rows = after e.rows; capacity = e.capacity; height = r }) values
    lane_appended = record {
      linked = linked_same (pushed_within q).long rows_same ((pushed_within q).kinds head refl)
          (insertion_linked w e.lane e.rows e.capacity p a.linked spare o);
      stacked = pushed_stacked q room stacked_before rises;
      row = λ h b. elim (ℕ_discrete e.rows.0 h.0) [
        | yes i ↦
            subst (λ (g : Held). RowHolds v e.lane r values g (position v e.lane g)) (λ j. record { 0 = i j })
            (subst (RowHolds v e.lane r values e.rows) position_new
            (record { after = z; before = l; rests = pushed_rests q room stacked_before rises; faithful = f }))
        | no i ↦
            let c : Lower h e.rows = omega arith in
            let x = a.row h c in
            subst (RowHolds v e.lane r values h) (position_old h c)
            (record {
              after = x.after;
              before = x.before;
              rests = pushed_older q room stacked_before c (rests_same entries x.rests);
              faithful = x.faithful;
            })
      ];
    }

    -- the mark joins the active ones
    pub marks_appended : active_in v e.lane (after e.rows) ≡ active_in w e.lane e.rows ++ (p ∷ [])
    marks_appended = active_same rows_same (e.rows.0 + 1) ∙ insertion_active w e.lane e.rows e.capacity p a.linked spare

    -- what comes after the rows and the mark comes after the rows then
    pub lane-after : (q : Position) → After w e.lane e.rows q → Earlier p q → After v e.lane (after e.rows) q
    lane-after q c d h b = elim (ℕ_discrete e.rows.0 h.0) [
      | yes i ↦
          subst (λ (g : Held). Earlier (position v e.lane g) q) (λ j. record { 0 = i j })
          (subst (λ (i : Position). Earlier i q) position_new d)
      | no i ↦
          let f : Lower h e.rows = omega arith in
          subst (λ (i : Position). Earlier i q) (position_old h f) (c h f)
    ]
