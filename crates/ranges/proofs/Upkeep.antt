-- What an opening and a value do to words that hold a history.
use mathlib.Core.Path.{◌≡◌, refl, sym, ap, subst, ◌∙◌}
use mathlib.Core.List.{List, [], ◌∷◌, ◌++◌}
use Prim.Native.Nat.{ℕ, ◌+◌, ◌<◌, ◌≤◌}
use native.Mathlib.Omega.{arith}
use lib.IntN.{ℤ}
use lib.ListN.{length, get_or, length-append}
use lib.Seq.{take-append-le}
use Rattle.history.specs.declared.Position.{Position}
use Rattle.history.specs.declared.Command.TheVariants.{Value}
use Rattle.history.specs.declared.Standing.TheVariants.{Unmarked}
use Rattle.history.specs.Minima.{stands_at, next, present_at}
use Rattle.history.specs.Histories.{History, present_of, accept, blank, model}
use Rattle.runs.specs.Runs.{AsLent}
use Rattle.layout.specs.declared.Held.{Held}
use Rattle.layout.specs.declared.Place.{Place}
use Rattle.layout.specs.declared.Lane.{Lane}
use Rattle.layout.specs.declared.Extent.{Extent}
use Rattle.layout.specs.declared.Role.TheVariants.{Active, Younger, Older, Next}
use Rattle.layout.specs.Words.{Earlier, NotLater, row₀, position, emptied, Put, puts, extent_puts, Room}
use Rattle.layout.specs.Frames.{SameLane}
use Rattle.layout.specs.Frames as Frames
use Rattle.layout.proofs.Written.{each_lane, each_kind, lane_then}
use Rattle.layout.proofs.Puts.{reading, puts_lanes}
use Rattle.table.specs.Marks.{After}
use Rattle.table.proofs.Kept.{active_same, position_same}
use Rattle.packing.specs.Packing.{packed, Faithful}
use Rattle.stack.specs.Calls.{Lowered}
use Rattle.stack.proofs.Lowering.{lowered_within}
use Rattle.ranges.specs.Holding.{upcoming, Roles, roles_of, marks_in, Laid, Started, Unfinished, Soon, Holds}
use Rattle.ranges.proofs.Lanes.{lane_empty, lane_same, lane_lowered}
use Rattle.ranges.proofs.Header.{roles_by, roles_by_lem, roles_put, roles_same, with_active}
use Rattle.ranges.proofs.Moved.{laid_active}

-- words hold a history if they do so by the roles that their header gives
pub holds_by : {h : History} {first v : List ℕ} {s : Roles} → roles_of v ≡ s → length h.values ≤ 4294967295 → Laid s v h.values h.peak → Started s v → Unfinished s → Soon s 0
    → marks_in v s.older ++ (marks_in v s.younger ++ marks_in v s.active) ≡ h.active
    → (h.standing ≡ Unmarked → After v s.active.lane s.active.rows (present_of h)) → AsLent (model.bound h) first v → Holds h first v
holds_by {h} {first} {v} e b laid started unfinished soon marks fresh rest = record {
  short = b;
  laid = subst (λ (s : Roles). Laid s v h.values h.peak) (sym e) laid;
  started = subst (λ (s : Roles). Started s v) (sym e) started;
  unfinished = subst Unfinished (sym e) unfinished;
  soon = subst (λ (s : Roles). Soon s 0) (sym e) soon;
  marks = subst (λ (s : Roles). marks_in v s.older ++ (marks_in v s.younger ++ marks_in v s.active) ≡ h.active) (sym e) marks;
  fresh = λ z. subst (λ (s : Roles). After v s.active.lane s.active.rows (present_of h)) (sym e) (fresh z);
  rest = rest;
}

-- AN OPENING: u are the words with a header of zeros
abbrev pub opening_puts : List Put
opening_puts =
    extent_puts Active (emptied (record { 0 = 0 }) (record { 0 = 15 })) ++ extent_puts Younger (emptied (record { 0 = 1 }) row₀) ++ extent_puts Older (emptied (record { 0 = 2 }) row₀)
    ++ extent_puts Next (emptied (record { 0 = 3 }) row₀)

module _ (w u : List ℕ) (n k : ℕ) (l : 576 ≤ length w) (long : length u ≡ length w) (zero : (i : ℕ) → i < 32 → get_or u i 0 ≡ 0) (same : (i : ℕ) → 32 ≤ i → get_or u i 0 ≡ get_or w i 0) where
  abbrev v : List ℕ
  v = puts opening_puts u

  abbrev s : Roles
  s = roles_by (λ j. reading opening_puts j 0)

  room : (c : ℕ) → c ≤ 15 → Room v c
  room c b = record { few = omega arith; wide = omega (arith, (puts_lanes opening_puts u refl).long) }

  pub opened_holds : Holds (blank n k) w v
  opened_holds =
      holds_by (roles_put opening_puts u refl (omega arith) ∙ roles_by_lem (λ j. reading opening_puts j (get_or u j 0)) (λ j. reading opening_puts j 0) (λ j b. ap (reading opening_puts j) (zero j b)))
      (omega arith)
      (record {
        apart = record { ay = λ e. omega (arith, e); ao = λ e. omega (arith, e); an = λ e. omega (arith, e); yo = λ e. omega (arith, e); yn = λ e. omega (arith, e); on = λ e. omega (arith, e) };
        active = lane_empty v s.active.lane s.active.capacity [] (room 15 (omega arith));
        younger = lane_empty v s.younger.lane s.younger.capacity [] (room 0 (omega arith));
        older = lane_empty v s.older.lane s.older.capacity [] (room 0 (omega arith));
        next = lane_empty v s.next.lane s.next.capacity [] (room 0 (omega arith));
        order = omega arith;
        ends = omega arith;
        in_active = λ h b. absurd (omega arith);
        in_younger = λ h b. absurd (omega arith);
        in_older = λ h b. absurd (omega arith);
        middle_row = λ z b. absurd (omega arith);
        whole = λ z. refl;
        merging = record {
          older_some = omega arith;
          younger_some = omega arith;
          in_order = λ z. absurd (omega arith);
          older_covers = λ b. absurd (omega arith);
          younger_covers = λ b. absurd (omega arith);
          carried = refl;
          under = λ p a b h c. absurd (omega arith);
          spare = λ z. absurd (omega arith);
        };
        roomy = omega arith;
        active_below = omega arith;
        younger_below = omega arith;
        older_below = omega arith;
        next_below = omega arith;
        older_few = omega arith;
      })
      (λ z. absurd (omega arith)) (λ z. absurd (omega arith)) (λ z. absurd (omega arith)) refl
      (λ e. absurd (cc))
      (λ i b. (puts_lanes opening_puts u refl).words i (omega arith) ∙ same i (omega arith))

-- A VALUE: u are the words after the stack's change
module _ (h : History) (first w u : List ℕ) (x : ℤ) (r : Place) (k : Holds h first w) (l : 32 ≤ length w) (b : length h.values < 4294967295)
    (f : Faithful (stands_at x (next (present_of h)))) (q : Lowered w u (roles_of w).active.lane (roles_of w).active.height (packed (stands_at x (next (present_of h)))) r) where
  abbrev roles : Roles
  roles = roles_of w

  abbrev ps : List Put
  ps = record { at = 3; to = r.0 } ∷ []

  abbrev e : Extent
  e = record { lane = roles.active.lane; rows = roles.active.rows; capacity = roles.active.capacity; height = r }

  pub valued_holds : Holds (accept h (Value x)).history first (puts ps u)
  valued_holds =
      let i = lowered_within q in
      let lanes = puts_lanes ps u refl in
      let long : length (puts ps u) ≡ length w = lanes.long ∙ i.long in
      let stays : (j : Lane) → Frames.Other j roles.active.lane → SameLane j w (puts ps u) = λ j o. lane_then (i.others j o) (each_lane lanes j) in
      let sy = stays roles.younger.lane (λ z. k.laid.apart.ay (sym z)) in
      let so = stays roles.older.lane (λ z. k.laid.apart.ao (sym z)) in
      let sn = stays roles.next.lane (λ z. k.laid.apart.an (sym z)) in
      let more : length (h.values ++ (x ∷ [])) ≡ length h.values + 1 = length-append h.values (x ∷ []) in
      let kept : (g : Held) → position (puts ps u) roles.active.lane g ≡ position w roles.active.lane g = λ g.
      position_same (each_kind (each_lane lanes roles.active.lane) Frames.row) g ∙ position_same (i.kinds Frames.row refl) g in
      holds_by (roles_put ps u refl (omega (arith, i.long)) ∙ (λ n. let t = roles_same w u i.header n in with_active t (record { lane = t.active.lane; rows = t.active.rows; capacity = t.active.capacity; height = r })))
      (omega (arith, more))
      (laid_active e k.laid long sy so sn refl refl (λ n c. take-append-le n h.values (x ∷ []) c) (omega (arith, more))
      (lane_same lanes.long (each_lane lanes roles.active.lane) (lane_lowered x f q k.laid.active))
      (λ g c. subst (λ (p : Position). NotLater roles.start p × Earlier p (upcoming (h.values ++ (x ∷ [])))) (sym (kept g)) ((k.laid.in_active g c).0, omega (arith, more, (k.laid.in_active g c).1))))
      (λ z. ((k.started z).0, kept row₀ ∙ (k.started z).1))
      k.unfinished k.soon
      ((λ n. active_same (each_kind so Frames.row) roles.older.rows.0 n ++ (active_same (each_kind sy Frames.row) roles.younger.rows.0 n
      ++ (active_same (each_kind (each_lane lanes roles.active.lane) Frames.row) roles.active.rows.0 ∙ active_same (i.kinds Frames.row refl) roles.active.rows.0) n)) ∙ k.marks)
      (λ z g c. subst (λ (p : Position). Earlier p (present_at (h.values ++ (x ∷ [])))) (sym (kept g)) (omega (arith, more, (k.laid.in_active g c).1)))
      (λ j c. lanes.words j (omega arith)
      ∙ i.beyond j (omega (arith, k.laid.active_below, k.laid.active.stacked.low, k.laid.active.linked.full)) ∙ k.rest j c)
