-- A CLOSE of words that hold a history: the mark's position is struck from every lane.
use mathlib.Core.Path.{◌≡◌, refl, sym, ap, subst, ◌∙◌}
use mathlib.Core.Bool.{false}
use mathlib.Core.List.{List}
use Rattle.std.specs.Prelude.{Option, None, Some}
use Prim.Native.Nat.{ℕ, ◌+◌, ◌*◌, ◌<◌, ◌≤◌}
use native.Mathlib.Omega.{arith}
use lib.Dec.{eqb}
use lib.IntN.{ℤ}
use lib.ListN.{length, get_or}
use Rattle.laws.proofs.Tests.{refuted}
use Rattle.history.specs.declared.Position.{Position}
use Rattle.history.specs.declared.Command.TheVariants.{Close}
use Rattle.history.specs.Histories.{History, present_of, accept, among, without}
use Rattle.history.proofs.Soundness.{was_unmarked}
use Rattle.layout.specs.declared.Held.{Held}
use Rattle.layout.specs.declared.Lane.{Lane}
use Rattle.layout.specs.declared.Extent.{Extent}
use Rattle.layout.specs.declared.Role.TheVariants.{Active, Next}
use Rattle.layout.specs.Words.{Earlier, row₀, position, extent_of}
use Rattle.layout.specs.Frames.{SameLane, Other}
use Rattle.layout.proofs.Written.{lane_then, lane_stays}
use Rattle.table.specs.Marks.{After, Live, released}
use Rattle.table.specs.Calls.{Sought, Released}
use Rattle.table.proofs.Active.{among_live, live_position, not_among}
use Rattle.table.proofs.Closing.{release_within}
use Rattle.ranges.specs.Holding.{LaneHolds, Roles, roles_of, marks_in, Holds}
use Rattle.ranges.specs.Private.{ClosedNext}
use Rattle.ranges.proofs.Lanes.{lane_same}
use Rattle.ranges.proofs.Header.{roles_same}
use Rattle.ranges.proofs.Later.{rooms}
use Rattle.ranges.proofs.Striking.{Struck, struck_released, struck_same, struck_later, struck_sooner, struck_laid, struck_marks}
use Rattle.ranges.proofs.Upkeep.{holds_by}
use Rattle.ranges.proofs.Asking.{not_older, not_younger, not_active}

module _ (h : History) (first w v : List ℕ) (p : Position) (k : Holds h first w) where
  abbrev s : Roles
  s = roles_of w

  -- struck from every lane
  struck_holds : roles_of v ≡ s → Struck w v s.active p → Struck w v s.younger p → Struck w v s.older p → Struck w v s.next p
      → ((i : ℕ) → 512 + 64 * h.peak ≤ i → get_or v i 0 ≡ get_or w i 0) → Holds (accept h (Close p)).history first v
  struck_holds e sa sy so sn rest =
      holds_by e k.short (struck_laid k.laid sa sy so sn) (λ z. ((k.started z).0, sa.positions row₀ ∙ (k.started z).1)) k.unfinished k.soon
      (struck_marks k.laid sa sy so sn ∙ ap (without p) k.marks)
      (λ z g c. subst (λ (q : Position). Earlier q (present_of h)) (sym (sa.positions g)) (k.fresh (was_unmarked h.standing (eqb p.0 (present_of h).0) z) g c))
      (λ i b. rest i b ∙ k.rest i b)

  -- no mark of the next lane is from the active lane's start on
  pub next_before : After w s.next.lane s.next.rows s.start
  next_before =
      k.laid.merging.under s.start (λ g b. omega (arith, k.laid.in_older g (omega (arith, k.laid.merging.older_some)), k.laid.order))
      (λ g b. (k.laid.in_younger g (omega (arith, k.laid.merging.younger_some))).1)

-- the mark is in the active lane
pub closed_active : (h : History) (first w : List ℕ) (p : Position) (k : Holds h first w) (g : Held) → let e : Extent = extent_of w Active in (roles_of w).start.0 ≤ p.0 → Live w e.lane e.rows p g
    → Holds (accept h (Close p)).history first (released w e.lane g)
closed_active h first w p k g l live =
    let s : Roles = roles_of w in
    let e : Extent = s.active in
    let v = released w e.lane g in
    let i = release_within w e.lane e.rows g live.row in
    let absent : among p (marks_in w s.next) ≡ false = refuted (among p (marks_in w s.next)) (λ t.
    let m = among_live w s.next.lane s.next.rows p t in
    let here : (position w s.next.lane m.0).0 ≡ p.0 = ap (λ (q : Position). q.0) (live_position w s.next.lane s.next.rows p m.0 m.1) in
    omega (arith, here, next_before h first w v p k m.0 m.1.row)) in
    struck_holds h first w v p k (roles_same w v i.header) (struck_released p g k.laid.active live)
    (struck_same s.younger p i.long (i.others s.younger.lane (λ z. k.laid.apart.ay (sym z))) (not_younger h first w p k (λ a b. omega arith)))
    (struck_same s.older p i.long (i.others s.older.lane (λ z. k.laid.apart.ao (sym z))) (not_older h first w p k (omega (arith, k.laid.order))))
    (struck_same s.next p i.long (i.others s.next.lane (λ z. k.laid.apart.an (sym z))) absent)
    (λ j b. i.beyond j (omega (arith, k.laid.active_below, k.laid.active.linked.full)))

-- the next lane after it is closed there, too, if it was carried
record Tail (u v : List ℕ) (n : Extent) (p : Position) : Type 0 where
  struck : Struck u v n p
  others : (j : Lane) → Other j n.lane → SameLane j u v
  header : (j : ℕ) → j < 32 → get_or v j 0 ≡ get_or u j 0
  beyond : (j : ℕ) → 32 + 32 * n.rows.0 ≤ j → get_or v j 0 ≡ get_or u j 0

tail : {u v : List ℕ} {n : Extent} {p : Position} {vs : List ℤ} → extent_of u Next ≡ n → LaneHolds u n vs → ClosedNext u v p → Tail u v n p
tail {u} {v} {n} {p} {vs} e b q = go q.found refl
  where
    sought : Sought u n.lane n.rows n.capacity p q.found
    sought = subst (λ (x : Extent). Sought u x.lane x.rows x.capacity p q.found) e q.sought

    lost : q.found ≡ None → Tail u v n p
    lost z = subst (λ (x : List ℕ). Tail u x n p) (sym (q.lost z)) (record {
      struck = struck_same n p refl (lane_stays n.lane u) (not_among u n.lane n.rows n.capacity p q.found sought b.linked z);
      others = λ j o. lane_stays j u;
      header = λ j c. refl;
      beyond = λ j c. refl;
    })

    found : (g : Held) → q.found ≡ Some g → Tail u v n p
    found g z =
        let live = sought.sound g z in
        let r : Released u v n.lane n.rows g = subst (λ (x : Extent). Released u v x.lane x.rows g) e (q.closed g z) in
        let i = release_within u n.lane n.rows g live.row in
        subst (λ (x : List ℕ). Tail u x n p) (sym (r.done (rooms b) live.row)) (record {
          struck = struck_released p g b live;
          others = i.others;
          header = i.header;
          beyond = i.beyond;
        })

    go : (r : Option Held) → q.found ≡ r → Tail u v n p
    go (Some g) z = found g z
    go None z = lost z

-- THE MARK STANDS STILL, in the younger lane or the older one
module _ (h : History) (first w v : List ℕ) (p : Position) (k : Holds h first w) (g : Held) where
  abbrev t : Roles
  t = roles_of w

  pub closed_younger : p.0 < t.start.0 → t.middle.0 ≤ p.0 → Live w t.younger.lane t.younger.rows p g → ClosedNext (released w t.younger.lane g) v p
      → Holds (accept h (Close p)).history first v
  closed_younger a b live q =
      let i = release_within w t.younger.lane t.younger.rows g live.row in
      let u = released w t.younger.lane g in
      let n = i.others t.next.lane (λ z. k.laid.apart.yn (sym z)) in
      let r = tail (ap (λ (x : Roles). x.next) (roles_same w u i.header)) (lane_same i.long n k.laid.next) q in
      let stays : (j : Lane) → Other j t.younger.lane → Other j t.next.lane → SameLane j w v = λ j o m. lane_then (i.others j o) (r.others j m) in
      let long : length v ≡ length w = r.struck.long ∙ i.long in
      struck_holds h first w v p k (roles_same u v r.header ∙ roles_same w u i.header)
      (struck_same t.active p long (stays t.active.lane k.laid.apart.ay k.laid.apart.an) (not_active h first w p k a))
      (struck_later (struck_released p g k.laid.younger live) r.struck.long (r.others t.younger.lane k.laid.apart.yn))
      (struck_same t.older p long (stays t.older.lane (λ z. k.laid.apart.yo (sym z)) k.laid.apart.on) (not_older h first w p k b))
      (struck_sooner i.long n r.struck)
      (λ j c. r.beyond j (omega (arith, k.laid.next_below, k.laid.next.linked.full)) ∙ i.beyond j (omega (arith, k.laid.younger_below, k.laid.younger.linked.full)))

  pub closed_older : p.0 < t.start.0 → p.0 < t.middle.0 → Live w t.older.lane t.older.rows p g → ClosedNext (released w t.older.lane g) v p
      → Holds (accept h (Close p)).history first v
  closed_older a b live q =
      let i = release_within w t.older.lane t.older.rows g live.row in
      let u = released w t.older.lane g in
      let n = i.others t.next.lane (λ z. k.laid.apart.on (sym z)) in
      let r = tail (ap (λ (x : Roles). x.next) (roles_same w u i.header)) (lane_same i.long n k.laid.next) q in
      let stays : (j : Lane) → Other j t.older.lane → Other j t.next.lane → SameLane j w v = λ j o m. lane_then (i.others j o) (r.others j m) in
      let long : length v ≡ length w = r.struck.long ∙ i.long in
      struck_holds h first w v p k (roles_same u v r.header ∙ roles_same w u i.header)
      (struck_same t.active p long (stays t.active.lane k.laid.apart.ao k.laid.apart.an) (not_active h first w p k a))
      (struck_same t.younger p long (stays t.younger.lane k.laid.apart.yo k.laid.apart.yn) (not_younger h first w p k (λ c d. omega arith)))
      (struck_later (struck_released p g k.laid.older live) r.struck.long (r.others t.older.lane k.laid.apart.on))
      (struck_sooner i.long n r.struck)
      (λ j c. r.beyond j (omega (arith, k.laid.next_below, k.laid.next.linked.full)) ∙ i.beyond j (omega (arith, k.laid.older_below, k.laid.older.linked.full)))
