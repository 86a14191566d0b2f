-- Laid-out words in which only one lane is written, the next one or the active one.
use mathlib.Core.Path.{◌≡◌, sym, ap, subst, ◌∙◌}
use mathlib.Core.List.{List, ◌++◌}
use Prim.Native.Nat.{ℕ, ◌≤◌}
use native.Mathlib.Omega.{arith}
use lib.IntN.{ℤ}
use lib.ListN.{length, take}
use Rattle.history.specs.declared.Position.{Position}
use Rattle.layout.specs.declared.Held.{Held}
use Rattle.layout.specs.declared.Place.{Place}
use Rattle.layout.specs.declared.Lane.{Lane}
use Rattle.layout.specs.declared.Extent.{Extent}
use Rattle.layout.specs.Words.{Earlier, NotLater, row₀, position}
use Rattle.layout.specs.Frames.{SameLane, Other}
use Rattle.layout.specs.Frames as Frames
use Rattle.layout.proofs.Written.{each_kind}
use Rattle.table.specs.Marks.{active_below}
use Rattle.table.proofs.Kept.{active_same, position_same}
use Rattle.stack.proofs.Kept.{covers_same}
use Rattle.ranges.specs.Holding.{LaneHolds, Spans, upcoming, origin, Roles, Merging, Laid}
use Rattle.ranges.proofs.Lanes.{lane_same}
use Rattle.ranges.proofs.Header.{with_active}
use Rattle.ranges.proofs.Carrying.{after_same, after_was}

-- a lane's positions stay with its words
pub spans_same : {w v : List ℕ} (e : Extent) (from to : Position) → SameLane e.lane w v → Spans w e from to → Spans v e from to
spans_same e from to s a h l =
    subst (λ (p : Position). NotLater from p × Earlier p to) (sym (position_same (each_kind s Frames.row) h)) (a h l)

-- and so does a position that is known
pub first_same : {w v : List ℕ} {k : Lane} {p : Position} → SameLane k w v → position w k row₀ ≡ p → position v k row₀ ≡ p
first_same s e = position_same (each_kind s Frames.row) row₀ ∙ e

-- the roles with another next lane, and another state of the merge
abbrev pub onward : Roles → Extent → Held → Place → Held → Place → Roles
onward s next older_left older_run younger_left younger_run = record {
  active = s.active;
  younger = s.younger;
  older = s.older;
  next = next;
  start = s.start;
  middle = s.middle;
  younger_left = younger_left;
  younger_run = younger_run;
  older_left = older_left;
  older_run = older_run;
}

pub laid_next : {s : Roles} {w v : List ℕ} {values : List ℤ} {l : ℕ} (next : Extent) (ol : Held) (or : Place) (yl : Held) (yr : Place) → Laid s w values l → length v ≡ length w
    → SameLane s.active.lane w v → SameLane s.younger.lane w v → SameLane s.older.lane w v → next.lane ≡ s.next.lane → next.capacity ≡ s.next.capacity
    → LaneHolds v next (take s.start.0 values) → Merging (onward s next ol or yl yr) v → Laid (onward s next ol or yl yr) v values l
laid_next {s} {w} {v} {values} next ol or yl yr a e sa sy so n c b m =
    record {
      apart = record {
        ay = a.apart.ay;
        ao = a.apart.ao;
        an = subst (Other s.active.lane) (sym n) a.apart.an;
        yo = a.apart.yo;
        yn = subst (Other s.younger.lane) (sym n) a.apart.yn;
        on = subst (Other s.older.lane) (sym n) a.apart.on;
      };
      active = lane_same e sa a.active;
      younger = lane_same e sy a.younger;
      older = lane_same e so a.older;
      next = b;
      order = a.order;
      ends = a.ends;
      in_active = spans_same s.active s.start (upcoming values) sa a.in_active;
      in_younger = spans_same s.younger s.middle s.start sy a.in_younger;
      in_older = spans_same s.older origin s.middle so a.in_older;
      middle_row = λ z y. first_same sy (a.middle_row z y);
      whole = a.whole;
      merging = m;
      roomy = a.roomy;
      active_below = a.active_below;
      younger_below = a.younger_below;
      older_below = a.older_below;
      next_below = omega (arith, ap (λ (h : Held). h.0) c, a.next_below);
      older_few = a.older_few;
    }

-- the lanes that are merged stay, and so does the merge
pub merging_same : {s : Roles} {w v : List ℕ} (e : Extent) → SameLane s.younger.lane w v → SameLane s.older.lane w v → SameLane s.next.lane w v → Merging s w
    → Merging (with_active s e) v
merging_same {s} {w} {v} e sy so sn m =
    let y : (n : ℕ) → active_below v s.younger.lane n ≡ active_below w s.younger.lane n = active_same (each_kind sy Frames.row) in
    let o : (n : ℕ) → active_below v s.older.lane n ≡ active_below w s.older.lane n = active_same (each_kind so Frames.row) in
    record {
      older_some = m.older_some;
      younger_some = m.younger_some;
      in_order = m.in_order;
      older_covers = λ z. covers_same (each_kind so Frames.entry) (m.older_covers z);
      younger_covers = λ z. covers_same (each_kind sy Frames.entry) (m.younger_covers z);
      carried = active_same (each_kind sn Frames.row) s.next.rows.0 ∙ m.carried ∙ sym (λ i. o s.older_left.0 i ++ y s.younger_left.0 i);
      under = λ p a b. after_same sn (m.under p (after_was so a) (after_was sy b));
      spare = λ z. omega (arith, m.spare z, ap length (o s.older.rows.0), ap length (y s.younger.rows.0), ap length (o s.older_left.0), ap length (y s.younger_left.0));
    }

-- another active lane, and perhaps more values: those up to its start stay
pub laid_active : {s : Roles} {w v : List ℕ} {values more : List ℤ} {l : ℕ} (e : Extent) → Laid s w values l → length v ≡ length w → SameLane s.younger.lane w v → SameLane s.older.lane w v
    → SameLane s.next.lane w v → e.lane ≡ s.active.lane → e.capacity ≡ s.active.capacity → ((n : ℕ) → n ≤ length values → take n more ≡ take n values) → length values ≤ length more
    → LaneHolds v e more → Spans v e s.start (upcoming more) → Laid (with_active s e) v more l
laid_active {s} {w} {v} {values} {more} e a q sy so sn n c t b h z =
    let start : take s.start.0 values ≡ take s.start.0 more = sym (t s.start.0 a.ends) in
    let middle : take s.middle.0 values ≡ take s.middle.0 more = sym (t s.middle.0 (omega (arith, a.order, a.ends))) in
    record {
      apart = record {
        ay = subst (λ (k : Lane). Other k s.younger.lane) (sym n) a.apart.ay;
        ao = subst (λ (k : Lane). Other k s.older.lane) (sym n) a.apart.ao;
        an = subst (λ (k : Lane). Other k s.next.lane) (sym n) a.apart.an;
        yo = a.apart.yo;
        yn = a.apart.yn;
        on = a.apart.on;
      };
      active = h;
      younger = subst (LaneHolds v s.younger) start (lane_same q sy a.younger);
      older = subst (LaneHolds v s.older) middle (lane_same q so a.older);
      next = subst (LaneHolds v s.next) start (lane_same q sn a.next);
      order = a.order;
      ends = omega (arith, a.ends);
      in_active = z;
      in_younger = spans_same s.younger s.middle s.start sy a.in_younger;
      in_older = spans_same s.older origin s.middle so a.in_older;
      middle_row = λ z₁ y. first_same sy (a.middle_row z₁ y);
      whole = a.whole;
      merging = merging_same e sy so sn a.merging;
      roomy = omega (arith, ap (λ (x : Held). x.0) c, a.roomy);
      active_below = omega (arith, ap (λ (x : Held). x.0) c, a.active_below);
      younger_below = a.younger_below;
      older_below = a.older_below;
      next_below = a.next_below;
      older_few = a.older_few;
    }
