-- A position is struck from every lane: from the one that has its mark, from the next lane where it was carried, and from the others, which do not have it.
use mathlib.Core.Path.{◌≡◌, refl, sym, ap, subst, ◌∙◌}
use mathlib.Core.Bool.{Bool, false, ◌||◌}
use mathlib.Core.List.{List, ◌++◌}
use Prim.Native.Nat.{ℕ, ◌+◌, ◌≤◌}
use native.Mathlib.Omega.{arith}
use lib.IntN.{ℤ}
use lib.ListN.{length, take, length-append}
use Rattle.laws.proofs.Tests.{refuted, clash}
use Rattle.history.specs.declared.Position.{Position}
use Rattle.history.specs.Histories.{among, without}
use Rattle.layout.specs.declared.Held.{Held}
use Rattle.layout.specs.declared.Extent.{Extent}
use Rattle.layout.specs.Words.{Earlier, row₀, position}
use Rattle.layout.specs.Frames.{SameLane, Same}
use Rattle.layout.specs.Frames as Frames
use Rattle.layout.proofs.Written.{each_kind}
use Rattle.table.specs.Marks.{After, Live, active_below, released}
use Rattle.table.proofs.Kept.{active_same, position_same}
use Rattle.table.proofs.Active.{among_live, live_position, below_split}
use Rattle.table.proofs.Positions.{among-append, without-append, without_none, without_fewer}
use Rattle.table.proofs.Closing.{release_within, release_below, release_position}
use Rattle.stack.proofs.Kept.{covers_same}
use Rattle.ranges.specs.Holding.{LaneHolds, Spans, upcoming, origin, Roles, marks_in, marks_before, Laid}
use Rattle.ranges.proofs.Lanes.{room_less, lane_same, lane-released}

-- POSITION p IS STRUCK FROM A LANE: nothing else of it changes
pub record Struck (w v : List ℕ) (e : Extent) (p : Position) : Type 0 where
  pub long : length v ≡ length w
  pub holds : (values : List ℤ) → LaneHolds w e values → LaneHolds v e values
  pub positions : (h : Held) → position v e.lane h ≡ position w e.lane h
  pub entries : Same Frames.entry e.lane w v
  pub marks : (n : ℕ) → n ≤ e.rows.0 → active_below v e.lane n ≡ without p (active_below w e.lane n)

-- the row of its mark is closed
pub struck_released : {w : List ℕ} {e : Extent} {values : List ℤ} (p : Position) (g : Held) → LaneHolds w e values → Live w e.lane e.rows p g → Struck w (released w e.lane g) e p
struck_released {w} {e} p g a live =
    let i = release_within w e.lane e.rows g live.row in
    record {
      long = i.long;
      holds = λ values b. lane-released g live.row b;
      positions = release_position w e.lane e.rows g (room_less a.linked.room e.rows.0 a.linked.full) live.row;
      entries = i.kinds Frames.entry refl;
      marks = λ n l. release_below w e.lane e.rows e.capacity g a.linked live.row n l
          ∙ ap (λ (q : Position). without q (active_below w e.lane n)) (live_position w e.lane e.rows p g live);
    }

-- it is not among the lane's marks, and the lane's words stay
pub struck_same : {w v : List ℕ} (e : Extent) (p : Position) → length v ≡ length w → SameLane e.lane w v → among p (marks_in w e) ≡ false → Struck w v e p
struck_same {w} e p l s f = record {
  long = l;
  holds = λ values b. lane_same l s b;
  positions = position_same (each_kind s Frames.row);
  entries = each_kind s Frames.entry;
  marks = λ n b.
      let r = below_split w e.lane n e.rows.0 b in
      active_same (each_kind s Frames.row) n
      ∙ sym (without_none p (active_below w e.lane n)
      (refuted (among p (active_below w e.lane n)) (λ t. clash (ap (among p) r.1 ∙ among-append p (active_below w e.lane n) r.0 ∙ ap (λ (x : Bool). x || among p r.0) t) f)));
}

-- the lane's words stay before, or after
pub struck_later : {w v x : List ℕ} {e : Extent} {p : Position} → Struck w v e p → length x ≡ length v → SameLane e.lane v x → Struck w x e p
struck_later a l s = record {
  long = l ∙ a.long;
  holds = λ values b. lane_same l s (a.holds values b);
  positions = λ h. position_same (each_kind s Frames.row) h ∙ a.positions h;
  entries = record { words = λ n f b q. s.words n f b ∙ a.entries.words n f b q };
  marks = λ n b. active_same (each_kind s Frames.row) n ∙ a.marks n b;
}

pub struck_sooner : {w v x : List ℕ} {e : Extent} {p : Position} → length v ≡ length w → SameLane e.lane w v → Struck v x e p → Struck w x e p
struck_sooner {p = p} l s a = record {
  long = a.long ∙ l;
  holds = λ values b. a.holds values (lane_same l s b);
  positions = λ h. a.positions h ∙ position_same (each_kind s Frames.row) h;
  entries = record { words = λ n f b q. a.entries.words n f b q ∙ s.words n f b };
  marks = λ n b. a.marks n b ∙ ap (without p) (active_same (each_kind s Frames.row) n);
}

-- a position outside a lane's span is not among its marks
pub out_of_span : (w : List ℕ) (e : Extent) (p from to : Position) → Spans w e from to → (from.0 ≤ p.0 → Earlier p to → ⊥) → among p (marks_in w e) ≡ false
out_of_span w e p from to s n = refuted (among p (marks_in w e)) (λ t.
    let m = among_live w e.lane e.rows p t in
    let here : (position w e.lane m.0).0 ≡ p.0 = ap (λ (q : Position). q.0) (live_position w e.lane e.rows p m.0 m.1) in
    let b = s m.0 m.1.row in
    n (omega arith) (omega arith))

-- what is struck from a lane's rows before one is struck from all of them
fewer : {w v : List ℕ} {e : Extent} {p : Position} → Struck w v e p → (h : Held) → h.0 ≤ e.rows.0
    → length (marks_in v e) + length (marks_before w e h) ≤ length (marks_in w e) + length (marks_before v e h)
fewer {w} {v} {e} {p} a h l =
    let r = below_split w e.lane h.0 e.rows.0 l in
    let all : length (marks_in w e) ≡ length (marks_before w e h) + length r.0 = ap length r.1 ∙ length-append (marks_before w e h) r.0 in
    let left : length (marks_in v e) ≡ length (without p (marks_before w e h)) + length (without p r.0) =
    ap length (a.marks e.rows.0 (omega arith) ∙ ap (without p) r.1 ∙ without-append p (marks_before w e h) r.0)
    ∙ length-append (without p (marks_before w e h)) (without p r.0) in
    omega (arith, all, left, ap length (a.marks h.0 l), without_fewer p r.0)

-- FROM EVERY LANE
module _ {s : Roles} {w v : List ℕ} {values : List ℤ} {l : ℕ} {p : Position} (a : Laid s w values l) (sa : Struck w v s.active p) (sy : Struck w v s.younger p) (so : Struck w v s.older p)
    (sn : Struck w v s.next p) where
  spans : (e : Extent) (from to : Position) → Struck w v e p → Spans w e from to → Spans v e from to
  spans e from to t b h c = subst (λ (q : Position). (from.0 ≤ q.0) × Earlier q to) (sym (t.positions h)) (b h c)

  was : {e : Extent} {rows : Held} {q : Position} → Struck w v e p → After v e.lane rows q → After w e.lane rows q
  was {q = q} t b h c = subst (λ (i : Position). Earlier i q) (t.positions h) (b h c)

  pub struck_laid : Laid s v values l
  struck_laid = record {
    apart = a.apart;
    active = sa.holds values a.active;
    younger = sy.holds (take s.start.0 values) a.younger;
    older = so.holds (take s.middle.0 values) a.older;
    next = sn.holds (take s.start.0 values) a.next;
    order = a.order;
    ends = a.ends;
    in_active = spans s.active s.start (upcoming values) sa a.in_active;
    in_younger = spans s.younger s.middle s.start sy a.in_younger;
    in_older = spans s.older origin s.middle so a.in_older;
    middle_row = λ z b. sy.positions row₀ ∙ a.middle_row z b;
    whole = a.whole;
    merging = record {
      older_some = a.merging.older_some;
      younger_some = a.merging.younger_some;
      in_order = a.merging.in_order;
      older_covers = λ z. covers_same so.entries (a.merging.older_covers z);
      younger_covers = λ z. covers_same sy.entries (a.merging.younger_covers z);
      carried =
          sn.marks s.next.rows.0 (omega arith) ∙ ap (without p) a.merging.carried
          ∙ without-append p (marks_before w s.older s.older_left) (marks_before w s.younger s.younger_left)
          ∙ sym (λ i. so.marks s.older_left.0 a.merging.older_some i ++ sy.marks s.younger_left.0 a.merging.younger_some i);
      under = λ q o y h b. subst (λ (i : Position). Earlier i q) (sym (sn.positions h)) (a.merging.under q (was so o) (was sy y) h b);
      spare = λ z. omega (arith, a.merging.spare z, fewer so s.older_left a.merging.older_some, fewer sy s.younger_left a.merging.younger_some);
    };
    roomy = a.roomy;
    active_below = a.active_below;
    younger_below = a.younger_below;
    older_below = a.older_below;
    next_below = a.next_below;
    older_few = a.older_few;
  }

  pub struck_marks : marks_in v s.older ++ (marks_in v s.younger ++ marks_in v s.active) ≡ without p (marks_in w s.older ++ (marks_in w s.younger ++ marks_in w s.active))
  struck_marks =
      (λ i. so.marks s.older.rows.0 (omega arith) i ++ (sy.marks s.younger.rows.0 (omega arith) i ++ sa.marks s.active.rows.0 (omega arith) i))
      ∙ sym (without-append p (marks_in w s.older) (marks_in w s.younger ++ marks_in w s.active)
      ∙ ap (λ (qs : List Position). without p (marks_in w s.older) ++ qs) (without-append p (marks_in w s.younger) (marks_in w s.active)))
