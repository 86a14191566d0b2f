-- A row that is carried into the next lane: what that lane has then, whether or not the row's mark was active.
use mathlib.Core.Path.{◌≡◌, refl, sym, ap, subst, ◌∙◌}
use mathlib.Core.List.{List, [], ◌∷◌, ◌++◌, append-nil}
use native.Mathlib.Decide.{ℕ_discrete}
use Prim.Native.Nat.{ℕ, ◌+◌, ◌*◌, ◌/◌, ◌%◌, ◌≤◌}
use native.Mathlib.Omega.{arith}
use lib.IntN.{ℤ}
use lib.ListN.{length, get_or}
use borrow.Author.Tests.{eq-eqb, ne_eqb}
use Rattle.history.specs.declared.Position.{Position}
use Rattle.history.specs.Minima.{present_at, minimum}
use Rattle.layout.specs.declared.Held.{Held}
use Rattle.layout.specs.declared.Lane.{Lane}
use Rattle.layout.specs.declared.Extent.{Extent}
use Rattle.layout.specs.declared.Role.TheVariants.{Next}
use Rattle.layout.specs.Words.{Earlier, NotLater, Lower, after, mark_word, position, extent_of, Room}
use Rattle.layout.specs.Frames.{SameLane, Other}
use Rattle.layout.specs.Frames as Frames
use Rattle.layout.proofs.Written.{lane_then, lane_stays, each_lane, each_kind}
use Rattle.layout.specs.Words.{Put, puts, rows_puts}
use Rattle.layout.proofs.Puts.{puts_lanes}
use Rattle.table.specs.Marks.{After}
use Rattle.table.proofs.Active.{own}
use Rattle.table.proofs.Kept.{active_same, position_same}
use Rattle.packing.specs.Packing.{packed, Faithful}
use Rattle.ranges.specs.Holding.{origin, LaneHolds, Roles, roles_of, marks_in}
use Rattle.ranges.specs.Private.{Carried, Grows}
use Rattle.ranges.proofs.Lanes.{lane_same}
use Rattle.ranges.proofs.Header.{with_next, roles_put, roles_same}

-- what comes after the rows of a lane comes after them as long as its words stay
pub after_same : {w v : List ℕ} {k : Lane} {rows : Held} {p : Position} → SameLane k w v → After w k rows p → After v k rows p
after_same {p = p} s a h l = subst (λ (q : Position). Earlier q p) (sym (position_same (each_kind s Frames.row) h)) (a h l)

pub after_was : {w v : List ℕ} {k : Lane} {rows : Held} {p : Position} → SameLane k w v → After v k rows p → After w k rows p
after_was {p = p} s a h l = subst (λ (q : Position). Earlier q p) (position_same (each_kind s Frames.row) h) (a h l)

-- the row at position p, which adds `adds` to the active marks, is carried into the next lane
pub record Carries (w v : List ℕ) (values : List ℤ) (p : Position) (adds : List Position) : Type 0 where
  pub long : length v ≡ length w
  pub roles : roles_of v ≡ with_next (roles_of w) (extent_of v Next)
  pub lane : (extent_of v Next).lane ≡ (extent_of w Next).lane
  pub capacity : (extent_of v Next).capacity ≡ (extent_of w Next).capacity
  pub rows : (extent_of v Next).rows.0 ≡ (extent_of w Next).rows.0 + length adds
  pub holds : LaneHolds v (extent_of v Next) values
  pub marks : marks_in v (extent_of v Next) ≡ marks_in w (extent_of w Next) ++ adds
  pub under : (q : Position) → After w (extent_of w Next).lane (extent_of w Next).rows q → Earlier p q → After v (extent_of v Next).lane (extent_of v Next).rows q
  pub others : (k : Lane) → Other k (extent_of w Next).lane → SameLane k w v
  pub beyond : (i : ℕ) → 32 + 32 * (extent_of w Next).capacity.0 ≤ i → get_or v i 0 ≡ get_or w i 0

-- what comes after the rows of a lane and after one more comes after them all
pub grows_after : {w v : List ℕ} {e r : Extent} {values : List ℤ} {p : Position} → Grows w v e r values p → (q : Position) → After w e.lane e.rows q → Earlier p q
    → After v e.lane (after e.rows) q
grows_after {w} {v} {e} g q a b h l = elim (ℕ_discrete e.rows.0 h.0) [
  | yes i ↦
      subst (λ (j : Held). Earlier (position v e.lane j) q) (λ j. record { 0 = i j }) (subst (λ (y : Position). Earlier y q) (sym g.new) b)
  | no i ↦
      let c : Lower h e.rows = omega arith in
      subst (λ (y : Position). Earlier y q) (sym (g.old h c)) (a h c)
]

module _ {w v : List ℕ} {e : Extent} {h : Held} {x : ℕ} {values : List ℤ} (l : 32 ≤ length w) (n : LaneHolds w (extent_of w Next) values) (room : Room w e.rows.0)
    (row : Lower h e.rows) (c : Carried w v e h x) where
  abbrev next : Extent
  next = extent_of w Next

  abbrev p : Position
  p = position w e.lane h

  -- a closed mark
  stays : v ≡ w → Carries w v values p []
  stays q = subst (λ (y : List ℕ). Carries w y values p []) (sym q) (record {
    long = refl;
    roles = refl;
    lane = refl;
    capacity = refl;
    rows = omega arith;
    holds = n;
    marks = sym (append-nil (marks_in w next));
    under = λ z a b. a;
    others = λ k o. lane_stays k w;
    beyond = λ i b. refl;
  })

  module _ (small : p.0 ≤ 4294967295) (after-all : After w next.lane next.rows p) (z : Earlier origin p) (b : NotLater p (present_at values)) (is : x ≡ packed (minimum values p)) (f : Faithful (minimum values p))
      (spare : (mark_word w e.lane h % 2 ≡ 0 → ⊥) → Lower next.rows next.capacity) where
    -- an active one
    moves : (mark_word w e.lane h % 2 ≡ 0 → ⊥) → Carries w v values p (p ∷ [])
    moves d =
        let t = c.active room row d in
        let u = t.words in
        let r = t.grown in
        let a = t.appended in
        let i = a.within in
        let here : record { 0 = mark_word w e.lane h / 2 % 4294967296 } ≡ p = (let q : mark_word w e.lane h / 2 % 4294967296 ≡ p.0 = omega arith in λ j. record { 0 = q j }) in
        let g : Grows w u next r values p = subst (Grows w u next r values) here
        (a.grows values n (spare d) (subst (After w next.lane next.rows) (sym here) after-all) (subst (Earlier origin) (sym here) z)
        (subst (λ (y : Position). NotLater y (present_at values)) (sym here) b) (is ∙ ap (λ (y : Position). packed (minimum values y)) (sym here))
        (subst (λ (y : Position). Faithful (minimum values y)) (sym here) f)) in
        let ps : List Put = rows_puts Next r.rows r.height in
        let m : 32 ≤ length u = omega (arith, i.long) in
        let lanes = puts_lanes ps u refl in
        let new : extent_of (puts ps u) Next ≡ r =
        ap (λ (s : Roles). s.next) (roles_put ps u refl m)
        ∙ (λ j. record {
          lane = ((λ y. record { 0 = i.header 24 (omega arith) y }) ∙ sym a.same.0) j;
          rows = r.rows;
          capacity = ((λ y. record { 0 = i.header 26 (omega arith) y }) ∙ sym a.same.1) j;
          height = r.height;
        }) in
        let more = a.more (record { room = n.linked.room; row = spare d; high = n.stacked.low }) in
        let kept : roles_of (puts ps u) ≡ with_next (roles_of w) (extent_of (puts ps u) Next) =
        roles_put ps u refl m ∙ (λ j. with_next (roles_same w u i.header j) (sym (ap (λ (s : Roles). s.next) (roles_put ps u refl m)) j)) in
        let sames : (k : Lane) → Other k next.lane → SameLane k w (puts ps u) = λ k o. lane_then (i.others k o) (each_lane lanes k) in
        let same_after : (q : Position) → After u r.lane r.rows q → After (puts ps u) (extent_of (puts ps u) Next).lane (extent_of (puts ps u) Next).rows q = λ q a₁.
        subst (λ (y : Extent). After (puts ps u) y.lane y.rows q) (sym new)
        (λ j d₁. subst (λ (y : Position). Earlier y q) (sym (position_same (each_kind (each_lane lanes r.lane) Frames.row) j)) (a₁ j d₁)) in
        subst (λ (y : List ℕ). Carries w y values p (p ∷ [])) (sym t.done) (record {
          long = lanes.long ∙ i.long;
          roles = kept;
          lane = ap (λ (y : Extent). y.lane) new ∙ a.same.0;
          capacity = ap (λ (y : Extent). y.capacity) new ∙ a.same.1;
          rows = ap (λ (y : Extent). y.rows.0) new ∙ ap (λ (y : Held). y.0) more;
          holds = subst (λ (y : Extent). LaneHolds (puts ps u) y values) (sym new) (lane_same lanes.long (each_lane lanes r.lane) g.holds);
          marks = ap (marks_in (puts ps u)) new ∙ active_same (each_kind (each_lane lanes r.lane) Frames.row) r.rows.0 ∙ g.marks;
          under = λ q a₁ b₁. same_after q (subst (λ (y : Lane). After u y r.rows q) (sym a.same.0) (subst (λ (y : Held). After u next.lane y q) (sym more) (grows_after g q a₁ b₁)));
          others = sames;
          beyond = λ j b₁. lanes.words j (omega arith) ∙ i.beyond j b₁;
        })

    pub carries : Carries w v values p (own w e.lane h.0)
    carries = elim (ℕ_discrete (mark_word w e.lane h % 2) 0) [
      | yes q ↦ rw (eq-eqb (mark_word w e.lane h % 2) 0 q) (stays (c.closed q))
      | no q ↦ rw (ne_eqb (mark_word w e.lane h % 2) 0 q) (moves q)
    ]
