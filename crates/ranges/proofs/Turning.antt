-- A turn, when the active lane is full, and the end of a merge. Both only give the lanes other roles.
use mathlib.Core.Path.{◌≡◌, refl, sym, ap, subst, ◌∙◌}
use mathlib.Core.List.{List, ◌++◌, append_assoc}
use Prim.Native.Nat.{ℕ, ◌+◌, ◌*◌, ◌≤◌}
use native.Mathlib.Omega.{arith}
use lib.IntN.{ℤ}
use lib.ListN.{length, take}
use lib.Seq.{take_all}
use Rattle.history.specs.declared.Position.{Position}
use Rattle.layout.specs.declared.Held.{Held}
use Rattle.layout.specs.declared.Lane.{Lane}
use Rattle.layout.specs.Words.{Lower, NotHigher, row₀, bottom, emptied, Room}
use Rattle.layout.specs.Frames.{SameLanes, SameLane}
use Rattle.layout.specs.Frames as Frames
use Rattle.layout.proofs.Written.{each_lane, each_kind}
use Rattle.table.specs.Marks.{After, active_below}
use Rattle.table.proofs.Kept.{active_same}
use Rattle.stack.proofs.Kept.{covers_same}
use Rattle.stack.proofs.Runs.{first_covers}
use Rattle.ranges.specs.Holding.{upcoming, origin, LaneHolds, Roles, marks_in, Laid, Started}
use Rattle.ranges.proofs.Lanes.{lane_empty, lane_same, room_same}
use Rattle.ranges.proofs.Moved.{spans_same, first_same}

-- THE MERGE IS DONE: the next lane is the older one, and the younger one is free
abbrev pub finished : Roles → Roles
finished s = record {
  active = s.active;
  younger = emptied s.younger.lane s.younger.capacity;
  older = s.next;
  next = emptied s.older.lane s.next.capacity;
  start = s.start;
  middle = s.start;
  younger_left = row₀;
  younger_run = bottom;
  older_left = row₀;
  older_run = bottom;
}

module _ {s : Roles} {w v : List ℕ} {values : List ℤ} {l : ℕ} (a : Laid s w values l) (same : SameLanes w v) (some : Lower row₀ s.younger.rows) (older : s.older_left.0 ≡ s.older.rows.0)
    (younger : s.younger_left.0 ≡ s.younger.rows.0) where
  lane : (k : Lane) → SameLane k w v
  lane = each_lane same

  -- all that was carried is all
  all_carried : marks_in w s.next ≡ marks_in w s.older ++ marks_in w s.younger
  all_carried = a.merging.carried ∙ (λ i. active_below w s.older.lane (older i) ++ active_below w s.younger.lane (younger i))

  before_start : After w s.next.lane s.next.rows s.start
  before_start =
      a.merging.under s.start (λ h b. omega (arith, a.in_older h (omega (arith, older)), a.order)) (λ h b. (a.in_younger h (omega (arith, younger))).1)

  few : s.next.rows.0 + 1 ≤ l
  few = omega (arith, a.merging.spare some, ap (λ (n : ℕ). length (active_below w s.older.lane n)) older, ap (λ (n : ℕ). length (active_below w s.younger.lane n)) younger, a.next_below)

  pub finished_laid : Laid (finished s) v values l
  finished_laid = record {
    apart = record {
      ay = a.apart.ay;
      ao = a.apart.an;
      an = a.apart.ao;
      yo = a.apart.yn;
      yn = a.apart.yo;
      on = λ e. a.apart.on (sym e);
    };
    active = lane_same same.long (lane s.active.lane) a.active;
    younger = lane_empty v s.younger.lane s.younger.capacity (take s.start.0 values) (room_same same.long a.younger.linked.room);
    older = lane_same same.long (lane s.next.lane) a.next;
    next = lane_empty v s.older.lane s.next.capacity (take s.start.0 values) (room_same same.long a.next.linked.room);
    order = omega arith;
    ends = a.ends;
    in_active = spans_same s.active s.start (upcoming values) (lane s.active.lane) a.in_active;
    in_younger = λ h b. absurd (omega arith);
    in_older = spans_same s.next origin s.start (lane s.next.lane) (λ h b. (omega arith, before_start h b));
    middle_row = λ z b. absurd (omega arith);
    whole = λ z. refl;
    merging = record {
      older_some = omega arith;
      younger_some = omega arith;
      in_order = λ z. absurd (omega arith);
      older_covers = λ b. covers_same (each_kind (lane s.next.lane) Frames.entry) (first_covers a.next.stacked b);
      younger_covers = λ b. absurd (omega arith);
      carried = refl;
      under = λ p o y h b. absurd (omega arith);
      spare = λ z. absurd (omega arith);
    };
    roomy = a.roomy;
    active_below = a.active_below;
    younger_below = a.younger_below;
    older_below = a.next_below;
    next_below = a.next_below;
    older_few = omega (arith, few);
  }

  pub finished_marks : marks_in v (finished s).older ++ (marks_in v (finished s).younger ++ marks_in v (finished s).active)
      ≡ marks_in w s.older ++ (marks_in w s.younger ++ marks_in w s.active)
  finished_marks =
      (λ i. active_same (each_kind (lane s.next.lane) Frames.row) s.next.rows.0 i ++ active_same (each_kind (lane s.active.lane) Frames.row) s.active.rows.0 i)
      ∙ ap (λ (ps : List Position). ps ++ marks_in w s.active) all_carried
      ∙ append_assoc (marks_in w s.older) (marks_in w s.younger) (marks_in w s.active)

-- A TURN AT POSITION p: the free lane is the active one, and the one that was is the younger one
abbrev pub turned : Roles → Position → Held → Held → Roles
turned s p capacity room = record {
  active = emptied s.younger.lane capacity;
  younger = s.active;
  older = s.older;
  next = emptied s.next.lane room;
  start = p;
  middle = s.start;
  younger_left = row₀;
  younger_run = bottom;
  older_left = row₀;
  older_run = bottom;
}

module _ {s : Roles} {w v : List ℕ} {values : List ℤ} {l m c : ℕ} (p : Position) (capacity room : Held) (a : Laid s w values l) (same : SameLanes w v) (full : s.active.rows.0 ≡ s.active.capacity.0)
    (free : NotHigher s.younger.rows row₀) (started : Started s w) (here : p.0 ≡ length values) (fresh : After w s.active.lane s.active.rows p)
    (count : length (marks_in w s.older) + length (marks_in w s.active) ≡ c) (more : c + 1 ≤ m) (peak : l ≤ m) (is : room.0 ≡ 2 * c + 17)
    (enough : s.older.rows.0 + s.active.rows.0 ≤ 2 * capacity.0) (some : Lower row₀ capacity) (below : capacity.0 ≤ 15 + 2 * m) (r₁ : Room v capacity.0) (r₂ : Room v room.0) where
  lane' : (k : Lane) → SameLane k w v
  lane' = each_lane same

  meets : s.middle ≡ s.start
  meets = a.whole free

  all : take p.0 values ≡ values
  all = take_all p.0 values (omega arith)

  pub turned_laid : Laid (turned s p capacity room) v values m
  turned_laid = record {
    apart = record {
      ay = λ e. a.apart.ay (sym e);
      ao = a.apart.yo;
      an = a.apart.yn;
      yo = a.apart.ao;
      yn = a.apart.an;
      on = a.apart.on;
    };
    active = lane_empty v s.younger.lane capacity values r₁;
    younger = subst (LaneHolds v s.active) (sym all) (lane_same same.long (lane' s.active.lane) a.active);
    older = subst (λ (q : Position). LaneHolds v s.older (take q.0 values)) meets (lane_same same.long (lane' s.older.lane) a.older);
    next = lane_empty v s.next.lane room (take p.0 values) r₂;
    order = omega (arith, a.ends);
    ends = omega arith;
    in_active = λ h b. absurd (omega arith);
    in_younger = spans_same s.active s.start p (lane' s.active.lane) (λ h b. ((a.in_active h b).0, fresh h b));
    in_older = spans_same s.older origin s.start (lane' s.older.lane) (λ h b. (omega arith, omega (arith, a.in_older h b, ap (λ (q : Position). q.0) meets)));
    middle_row = λ z b. first_same (lane' s.active.lane) (started z).1;
    whole = λ z. absurd (omega (arith, a.roomy));
    merging = record {
      older_some = omega arith;
      younger_some = omega arith;
      in_order = λ z. absurd (omega arith);
      older_covers = λ b. covers_same (each_kind (lane' s.older.lane) Frames.entry) (first_covers a.older.stacked b);
      younger_covers = λ b. covers_same (each_kind (lane' s.active.lane) Frames.entry) (first_covers a.active.stacked b);
      carried = refl;
      under = λ q o y h b. absurd (omega arith);
      spare = λ z. omega (
        arith,
        is,
        count,
        ap length (active_same (each_kind (lane' s.older.lane) Frames.row) s.older.rows.0),
        ap length (active_same (each_kind (lane' s.active.lane) Frames.row) s.active.rows.0),
      );
    };
    roomy = some;
    active_below = below;
    younger_below = omega (arith, a.active_below);
    older_below = omega (arith, a.older_below);
    next_below = omega (arith, is);
    older_few = omega (arith, a.older_few);
  }
