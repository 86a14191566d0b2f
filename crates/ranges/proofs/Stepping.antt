-- One row of the merge, of the older lane or, when all of those are carried, of the younger one.
use mathlib.Core.Path.{◌≡◌, refl, sym, ap, ◌∙◌}
use mathlib.Core.List.{List, [], ◌++◌, append-nil, append_assoc}
use mathlib.Core.Logic.{inl, inr}
use Prim.Native.Nat.{ℕ, ◌+◌, ◌*◌, ◌≤◌, min}
use native.Mathlib.Omega.{arith}
use lib.IntN.{ℤ}
use lib.ListN.{length, get_or, take, length-append}
use Rattle.history.specs.declared.Position.{Position}
use Rattle.history.specs.Minima.{minimum}
use Rattle.layout.specs.declared.Held.{Held}
use Rattle.layout.specs.declared.Place.{Place}
use Rattle.layout.specs.declared.Lane.{Lane}
use Rattle.layout.specs.declared.Role.TheVariants.{Younger, Older, Next}
use Rattle.layout.specs.Words.{Earlier, Lower, row₀, after, bottom, position, least_word, extent_of}
use Rattle.layout.specs.Frames.{SameLane, Other}
use Rattle.layout.specs.Frames as Frames
use Rattle.layout.proofs.Order.{lower_or_not}
use Rattle.layout.proofs.Written.{lane_then, each_lane, each_kind}
use Rattle.layout.specs.Words.{Put, puts, left_puts}
use Rattle.layout.proofs.Puts.{puts_lanes}
use Rattle.table.specs.Marks.{active_in, active_below}
use Rattle.table.proofs.Active.{own, below_after, below_fewer}
use Rattle.table.proofs.Kept.{active_same}
use Rattle.packing.specs.Packing.{packed}
use Rattle.stack.specs.Calls.{Advanced}
use Rattle.stack.proofs.Kept.{stacked_same, covers_same}
use Rattle.stack.proofs.Runs.{rests_unique, covers_rests, advance_covers}
use Rattle.ranges.specs.Holding.{RowHolds, Roles, roles_of, marks_before, Laid}
use Rattle.ranges.specs.Private.{Carried, LowerOf}
use Rattle.ranges.proofs.Lanes.{room_same, lane_same}
use Rattle.ranges.proofs.Header.{roles_put}
use Rattle.ranges.proofs.Carrying.{after_same, after_was, Carries, carries}
use Rattle.ranges.proofs.Later.{rooms, heights, until, until_long, older_word, older_faithful}
use Rattle.ranges.proofs.Moved.{onward, laid_next}

-- ONE ROW IS CARRIED: the lanes but the next one stay, and so do the words beyond the bound
pub record Steps (w v : List ℕ) (s t : Roles) (values : List ℤ) (l : ℕ) : Type 0 where
  pub long : length v ≡ length w
  pub roles : roles_of v ≡ t
  pub laid : Laid t v values l
  pub active : SameLane s.active.lane w v
  pub younger : SameLane s.younger.lane w v
  pub older : SameLane s.older.lane w v
  pub rest : (i : ℕ) → 512 + 64 * l ≤ i → get_or v i 0 ≡ get_or w i 0

module _ {w : List ℕ} {values : List ℤ} {l : ℕ} (a : Laid (roles_of w) w values l) (short : length values ≤ 4294967295) (m : 32 ≤ length w)
    (merging : Lower row₀ (extent_of w Younger).rows) where
  abbrev s : Roles
  s = roles_of w

  -- there is a row to spare
  spare : Lower s.next.rows s.next.capacity
  spare = omega (
    arith,
    a.merging.spare merging,
    below_fewer w s.older.lane s.older_left.0 s.older.rows.0 a.merging.older_some,
    below_fewer w s.younger.lane s.younger_left.0 s.younger.rows.0 a.merging.younger_some,
  )

  -- A ROW OF THE OLDER LANE: its minimum is the lower of its run's and of the younger lane's lowest
  module _ {u : List ℕ} {x : ℕ} {run : Place} (left : Lower s.older_left s.older.rows) (lower : LowerOf w Younger (least_word w s.older.lane s.older_run) x) (c : Carried w u s.older s.older_left x)
      (d : Advanced u s.older.lane s.older.height s.older_run (after s.older_left) run) where
    abbrev h : Held
    h = s.older_left

    abbrev k : Lane
    k = s.older.lane

    abbrev p : Position
    p = position w k h

    abbrev ps : List Put
    ps = left_puts Older (after h) run

    none_younger : s.younger_left.0 ≡ 0
    none_younger = elim (lower_or_not row₀ s.younger_left) [ inl z ↦ absurd (omega (arith, a.merging.in_order z)) | inr z ↦ omega arith ]

    row : RowHolds w k s.older.height (take s.middle.0 values) h p
    row = a.older.row h left

    sooner : Earlier p s.middle
    sooner = (a.in_older h left).1

    word_is : x ≡ packed (minimum (until a) p)
    word_is =
        lower.some (heights a.younger) (a.younger.stacked.some merging)
        ∙ ap (λ (y : ℕ). min y (least_word w s.younger.lane bottom)) (rests_unique a.older.stacked (covers_rests (a.merging.older_covers left)) row.rests)
        ∙ older_word a p row.after sooner row.faithful merging

    carried : Carries w u (until a) p (own w k h.0)
    carried =
        carries m a.next (rooms a.older) left c (omega (arith, sooner, a.order, a.ends, short))
        (a.merging.under p (λ g z. a.older.linked.rising g h z left) (λ g z. absurd (omega (arith, none_younger))))
        row.after (omega (arith, sooner, until_long a, a.order)) word_is (older_faithful a p row.after sooner row.faithful merging) (λ z. spare)

    pub older_steps : Steps w (puts ps u) s (onward s (extent_of u Next) (after h) run s.younger_left s.younger_run) values l
    older_steps =
        let lanes = puts_lanes ps u refl in
        let kept : (j : Lane) → Other j s.next.lane → SameLane j w (puts ps u) = λ j o. lane_then (carried.others j o) (each_lane lanes j) in
        let sa = kept s.active.lane a.apart.an in
        let sy = kept s.younger.lane a.apart.yn in
        let so = kept k a.apart.on in
        let n = extent_of u Next in
        let none : marks_before w s.younger s.younger_left ≡ [] = ap (active_below w s.younger.lane) none_younger in
        let longer : length (marks_before (puts ps u) s.older (after h)) ≡ length (marks_before w s.older h) + length (own w k h.0) =
        ap length (active_same (each_kind so Frames.row) (h.0 + 1) ∙ below_after w k h.0) ∙ length-append (active_in w k h) (own w k h.0) in
        record {
          long = lanes.long ∙ carried.long;
          roles = roles_put ps u refl (omega (arith, carried.long))
              ∙ (λ j. onward (carried.roles j) n (after h) run (carried.roles j).younger_left (carried.roles j).younger_run);
          laid = laid_next n (after h) run s.younger_left s.younger_run a (lanes.long ∙ carried.long) sa sy so carried.lane carried.capacity
              (lane_same lanes.long (each_lane lanes n.lane) carried.holds)
              (record {
                older_some = omega arith;
                younger_some = a.merging.younger_some;
                in_order = λ z. absurd (omega (arith, none_younger));
                older_covers = λ z. covers_same (each_kind (each_lane lanes k) Frames.entry)
                    (advance_covers (stacked_same (each_kind (carried.others k a.apart.on) Frames.entry) a.older.stacked) (room_same carried.long (heights a.older))
                    (covers_same (each_kind (carried.others k a.apart.on) Frames.entry) (a.merging.older_covers left)) d);
                younger_covers = λ z. covers_same (each_kind sy Frames.entry) (a.merging.younger_covers z);
                carried =
                    active_same (each_kind (each_lane lanes n.lane) Frames.row) n.rows.0 ∙ carried.marks
                    ∙ ap (λ (qs : List Position). qs ++ own w k h.0) (a.merging.carried ∙ ap (λ (qs : List Position). marks_before w s.older h ++ qs) none ∙ append-nil (marks_before w s.older h))
                    ∙ sym (ap (λ (qs : List Position). qs ++ marks_before (puts ps u) s.younger s.younger_left) (active_same (each_kind so Frames.row) (h.0 + 1) ∙ below_after w k h.0)
                    ∙ ap (λ (qs : List Position). (marks_before w s.older h ++ own w k h.0) ++ qs) (active_same (each_kind sy Frames.row) s.younger_left.0 ∙ none)
                    ∙ append-nil (marks_before w s.older h ++ own w k h.0));
                under = λ q o y.
                    let before = after_was so o in
                    after_same (each_lane lanes n.lane)
                    (carried.under q (a.merging.under q (λ g z. before g (omega arith)) (after_was sy y)) (before h (omega arith)));
                spare = λ z. omega (
                  arith,
                  a.merging.spare merging,
                  carried.rows,
                  ap (λ (y : Held). y.0) carried.capacity,
                  longer,
                  ap length (active_same (each_kind so Frames.row) s.older.rows.0),
                  ap length (active_same (each_kind sy Frames.row) s.younger.rows.0),
                  ap length (active_same (each_kind sy Frames.row) s.younger_left.0),
                );
              });
          active = sa;
          younger = sy;
          older = so;
          rest = λ i b. lanes.words i (omega arith) ∙ carried.beyond i (omega (arith, a.next_below));
        }

  -- A ROW OF THE YOUNGER LANE, when all of the older one's are carried: its minimum is its run's
  module _ {u : List ℕ} {run : Place} (left : Lower s.younger_left s.younger.rows) (all : s.older_left.0 ≡ s.older.rows.0)
      (c : Carried w u s.younger s.younger_left (least_word w s.younger.lane s.younger_run))
      (d : Advanced u s.younger.lane s.younger.height s.younger_run (after s.younger_left) run) where
    abbrev h' : Held
    h' = s.younger_left

    abbrev k' : Lane
    k' = s.younger.lane

    abbrev p' : Position
    p' = position w k' h'

    abbrev ps' : List Put
    ps' = left_puts Younger (after h') run

    row' : RowHolds w k' s.younger.height (until a) h' p'
    row' = a.younger.row h' left

    carried' : Carries w u (until a) p' (own w k' h'.0)
    carried' =
        carries m a.next (rooms a.younger) left c (omega (arith, a.in_younger h' left, a.ends, short))
        (a.merging.under p' (λ g z. omega (arith, all, a.in_older g (omega (arith, all)), a.in_younger h' left)) (λ g z. a.younger.linked.rising g h' z left))
        row'.after row'.before (rests_unique a.younger.stacked (covers_rests (a.merging.younger_covers left)) row'.rests) row'.faithful (λ z. spare)

    pub younger_steps : Steps w (puts ps' u) s (onward s (extent_of u Next) s.older_left s.older_run (after h') run) values l
    younger_steps =
        let lanes = puts_lanes ps' u refl in
        let kept : (j : Lane) → Other j s.next.lane → SameLane j w (puts ps' u) = λ j o. lane_then (carried'.others j o) (each_lane lanes j) in
        let sa = kept s.active.lane a.apart.an in
        let sy = kept k' a.apart.yn in
        let so = kept s.older.lane a.apart.on in
        let n = extent_of u Next in
        let longer : length (marks_before (puts ps' u) s.younger (after h')) ≡ length (marks_before w s.younger h') + length (own w k' h'.0) =
        ap length (active_same (each_kind sy Frames.row) (h'.0 + 1) ∙ below_after w k' h'.0) ∙ length-append (active_in w k' h') (own w k' h'.0) in
        record {
          long = lanes.long ∙ carried'.long;
          roles = roles_put ps' u refl (omega (arith, carried'.long))
              ∙ (λ j. onward (carried'.roles j) n (carried'.roles j).older_left (carried'.roles j).older_run (after h') run);
          laid = laid_next n s.older_left s.older_run (after h') run a (lanes.long ∙ carried'.long) sa sy so carried'.lane carried'.capacity
              (lane_same lanes.long (each_lane lanes n.lane) carried'.holds)
              (record {
                older_some = a.merging.older_some;
                younger_some = omega arith;
                in_order = λ z. omega (arith, all);
                older_covers = λ z. covers_same (each_kind so Frames.entry) (a.merging.older_covers z);
                younger_covers = λ z. covers_same (each_kind (each_lane lanes k') Frames.entry)
                    (advance_covers (stacked_same (each_kind (carried'.others k' a.apart.yn) Frames.entry) a.younger.stacked) (room_same carried'.long (heights a.younger))
                    (covers_same (each_kind (carried'.others k' a.apart.yn) Frames.entry) (a.merging.younger_covers left)) d);
                carried =
                    active_same (each_kind (each_lane lanes n.lane) Frames.row) n.rows.0 ∙ carried'.marks
                    ∙ ap (λ (qs : List Position). qs ++ own w k' h'.0) a.merging.carried
                    ∙ append_assoc (marks_before w s.older s.older_left) (marks_before w s.younger h') (own w k' h'.0)
                    ∙ sym (ap (λ (qs : List Position). qs ++ marks_before (puts ps' u) s.younger (after h')) (active_same (each_kind so Frames.row) s.older_left.0)
                    ∙ ap (λ (qs : List Position). marks_before w s.older s.older_left ++ qs) (active_same (each_kind sy Frames.row) (h'.0 + 1) ∙ below_after w k' h'.0));
                under = λ q o y.
                    let before = after_was sy y in
                    after_same (each_lane lanes n.lane)
                    (carried'.under q (a.merging.under q (after_was so o) (λ g z. before g (omega arith))) (before h' (omega arith)));
                spare = λ z. omega (
                  arith,
                  a.merging.spare merging,
                  carried'.rows,
                  ap (λ (y : Held). y.0) carried'.capacity,
                  longer,
                  ap length (active_same (each_kind so Frames.row) s.older.rows.0),
                  ap length (active_same (each_kind sy Frames.row) s.younger.rows.0),
                  ap length (active_same (each_kind so Frames.row) s.older_left.0),
                );
              });
          active = sa;
          younger = sy;
          older = so;
          rest = λ i b. lanes.words i (omega arith) ∙ carried'.beyond i (omega (arith, a.next_below));
        }
