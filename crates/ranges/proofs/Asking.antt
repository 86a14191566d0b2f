-- In which lane a position's mark is, if it is active, and what a look-up finds of it.
use mathlib.Core.Path.{◌≡◌, refl, sym, ap, subst, ◌∙◌}
use mathlib.Core.Bool.{Bool, true, false, ◌||◌, or-false}
use mathlib.Core.List.{List, ◌++◌}
use mathlib.Core.Logic.{inl, inr}
use Rattle.std.specs.Prelude.{Option, None, Some}
use Prim.Native.Nat.{ℕ, min}
use native.Mathlib.Omega.{arith}
use lib.IntN.{ℤ}
use lib.ListN.{take}
use Rattle.history.specs.declared.Position.{Position}
use Rattle.history.specs.Minima.{minimum}
use Rattle.history.specs.Histories.{History, among}
use Rattle.layout.specs.declared.Held.{Held}
use Rattle.layout.specs.declared.Extent.{Extent}
use Rattle.layout.specs.declared.Role.{Role}
use Rattle.layout.specs.declared.Role.TheVariants.{Active, Younger, Older, Next}
use Rattle.layout.specs.Words.{Earlier, NotLater, row₀, bottom, position, least_word, extent_of, start_of}
use Rattle.layout.proofs.Order.{earlier_or_not, not_later_through, lower_or_not}
use Rattle.table.specs.Marks.{Live}
use Rattle.table.specs.Calls.{Sought}
use Rattle.table.proofs.Active.{live_among, live_position, not_among}
use Rattle.table.proofs.Positions.{among-append}
use Rattle.packing.specs.Packing.{packed, unpacked, Faithful}
use Rattle.stack.specs.Calls.{Looked}
use Rattle.ranges.specs.Holding.{upcoming, origin, LaneHolds, Roles, roles_of, marks_in, Holds}
use Rattle.ranges.specs.Private.{Chosen, LowerOf, UpToNow}
use Rattle.ranges.proofs.Later.{rooms, heights, older_word, older_faithful, older_whole, still_word, still_faithful}
use Rattle.ranges.proofs.Striking.{out_of_span}

-- the role that is chosen, and where the position is then
pub data Where (w : List ℕ) (p : Position) : Role → Type 0 where
  in_active_lem : NotLater (start_of w Active) p → Where w p Active
  in_younger_lem : Earlier p (start_of w Active) → NotLater (start_of w Younger) p → Where w p Younger
  in_older_lem : Earlier p (start_of w Active) → Earlier p (start_of w Younger) → Where w p Older

pub where_is : {w : List ℕ} {p : Position} {role : Role} → Chosen w p role → Where w p role
where_is {w} {p} c = elim (earlier_or_not p (start_of w Active)) [
  | inl a ↦ elim (earlier_or_not p (start_of w Younger)) [
    | inl b ↦ subst (Where w p) (sym (c.older a b)) (in_older_lem a b)
    | inr b ↦ subst (Where w p) (sym (c.younger a b)) (in_younger_lem a b)
  ]
  | inr a ↦ subst (Where w p) (sym (c.active a)) (in_active_lem a)
]

module _ (h : History) (first w : List ℕ) (p : Position) (k : Holds h first w) where
  abbrev s : Roles
  s = roles_of w

  -- among the active marks it is among those of one lane
  parts : among p h.active ≡ among p (marks_in w s.older) || (among p (marks_in w s.younger) || among p (marks_in w s.active))
  parts =
      ap (among p) (sym k.marks) ∙ among-append p (marks_in w s.older) (marks_in w s.younger ++ marks_in w s.active)
      ∙ ap (λ (b : Bool). among p (marks_in w s.older) || b) (among-append p (marks_in w s.younger) (marks_in w s.active))

  pub not_older : NotLater s.middle p → among p (marks_in w s.older) ≡ false
  not_older l = out_of_span w s.older p origin s.middle k.laid.in_older (λ a b. omega arith)

  pub not_younger : (NotLater s.middle p → Earlier p s.start → ⊥) → among p (marks_in w s.younger) ≡ false
  not_younger n = out_of_span w s.younger p s.middle s.start k.laid.in_younger n

  pub not_active : Earlier p s.start → among p (marks_in w s.active) ≡ false
  not_active l = out_of_span w s.active p s.start (upcoming h.values) k.laid.in_active (λ a b. omega arith)

  pub among_lane : (role : Role) → Where w p role → among p h.active ≡ among p (marks_in w (extent_of w role))
  among_lane Active (in_active_lem l) = parts ∙ (λ i. not_older (not_later_through k.laid.order l) i || (not_younger (λ a b. omega arith) i || among p (marks_in w s.active)))
  among_lane Younger (in_younger_lem l b) =
      parts ∙ (λ i. not_older b i || (among p (marks_in w s.younger) || not_active l i)) ∙ or-false (among p (marks_in w s.younger))
  among_lane Older (in_older_lem l b) =
      parts ∙ (λ i. among p (marks_in w s.older) || (not_younger (λ a c. omega arith) i || not_active l i)) ∙ or-false (among p (marks_in w s.older))
  among_lane Next x' = elim x' [ ]

  -- the lane holds its marks, with the minima of the values up to its end
  abbrev pub end_of : Role → List ℤ
  end_of Active = h.values
  end_of Younger = take s.start.0 h.values
  end_of Older = take s.middle.0 h.values
  end_of Next = take s.start.0 h.values

  pub lane_of : (role : Role) → LaneHolds w (extent_of w role) (end_of role)
  lane_of Active = k.laid.active
  lane_of Younger = k.laid.younger
  lane_of Older = k.laid.older
  lane_of Next = k.laid.next

  module _ (role : Role) (c : Where w p role) where
    abbrev e : Extent
    e = extent_of w role

    -- a mark that is found is active
    pub found_active : (g : Held) → Live w e.lane e.rows p g → among p h.active ≡ true
    found_active g l = among_lane role c ∙ live_among w e.lane e.rows p g l

    -- one that is not found is not
    pub lost_inactive : (r : Option Held) → Sought w e.lane e.rows e.capacity p r → r ≡ None → among p h.active ≡ false
    lost_inactive r q n = among_lane role c ∙ not_among w e.lane e.rows e.capacity p r q (lane_of role).linked n

    module _ (g : Held) (l : Live w e.lane e.rows p g) where
      here : position w e.lane g ≡ p
      here = live_position w e.lane e.rows p g l

      -- its lane has its minimum up to the lane's end
      pub shown_word : (low : Option ℕ) → Looked w e.lane e.height g low → low ≡ Some (packed (minimum (end_of role) p))
      shown_word low q =
          q.right e.rows (rooms (lane_of role)) (lane_of role).stacked l.row (packed (minimum (end_of role) (position w e.lane g))) ((lane_of role).row g l.row).rests
          ∙ ap (λ (i : Position). Some (packed (minimum (end_of role) i))) here

      pub row_after : Earlier origin p
      row_after = subst (Earlier origin) here ((lane_of role).row g l.row).after

      pub row_faithful : Faithful (minimum (end_of role) p)
      row_faithful = subst (λ (i : Position). Faithful (minimum (end_of role) i)) here ((lane_of role).row g l.row).faithful

  -- a mark's word up to now
  still : {x r : ℕ} → Earlier origin p → Earlier p s.start → Faithful (minimum (take s.start.0 h.values) p) → x ≡ packed (minimum (take s.start.0 h.values) p) → LowerOf w Active x r
      → unpacked r ≡ minimum h.values p
  still {x} {r} z l f e q =
      let some = (k.started (omega arith)).0 in
      ap unpacked (q.some (heights k.laid.active) (k.laid.active.stacked.some some)
      ∙ ap (λ (y : ℕ). min y (least_word w s.active.lane bottom)) e ∙ still_word k.laid k.started p z l f)
      ∙ still_faithful k.laid k.started p z l f

  -- A LOOK-UP of a mark that is found shows its range minimum
  pub now_word : (role : Role) → Where w p role → (g : Held) → Live w (extent_of w role).lane (extent_of w role).rows p g → (x r : ℕ)
      → x ≡ packed (minimum (end_of role) p) → UpToNow w role x r → unpacked r ≡ minimum h.values p
  now_word Active c g l x r e q =
      ap unpacked (q.own (λ z. absurd (let y : ◌≡◌ {A = ℕ} 0 1 = cc in omega arith)) (λ z. absurd (let y : ◌≡◌ {A = ℕ} 0 1 = cc in omega arith)) ∙ e) ∙ row_faithful Active c g l
  now_word Younger (in_younger_lem a b) g l x r e q = still (row_after Younger (in_younger_lem a b) g l) a (row_faithful Younger (in_younger_lem a b) g l) e (q.younger refl)
  now_word Older (in_older_lem a b) g l x r e q =
      let t = q.older refl in
      let z = row_after Older (in_older_lem a b) g l in
      let f = row_faithful Older (in_older_lem a b) g l in
      elim (lower_or_not row₀ s.younger.rows) [
        | inr i ↦
            let w₁ = older_whole k.laid i in
            still z a (subst (λ (vs : List ℤ). Faithful (minimum vs p)) w₁ f)
            (t.1.none (λ r₁ b₁. omega (arith, k.laid.younger.stacked.low)) ∙ e ∙ ap (λ (vs : List ℤ). packed (minimum vs p)) w₁) t.2
        | inl some ↦
            still z a (older_faithful k.laid p z b f some)
            (t.1.some (heights k.laid.younger) (k.laid.younger.stacked.some some)
            ∙ ap (λ (y : ℕ). min y (least_word w s.younger.lane bottom)) e ∙ older_word k.laid p z b f some) t.2
      ]
  now_word Next c g l x r e q = elim c [ ]
