-- The ways out of the public calls: one law for each.
use mathlib.Core.Path.{◌≡◌, refl, sym, ap, subst, ◌∙◌}
use mathlib.Core.Bool.{Bool, true, false, cond, true≢false, false≢true}
use mathlib.Core.List.{List}
use mathlib.Core.Logic.{inl, inr, ⊎_elim}
use Rattle.std.specs.Prelude.{Option, None, Some}
use Rattle.std.proofs.Common.{◌++◌, replicate, take, drop}
use Rattle.std.proofs.lemmas.List.{length-take-le, set-get_or}
use Rattle.std.proofs.lemmas.Grind.{common_steps}
use native.Mathlib.Decide.{dec_lt}
use Prim.Native.Nat.{ℕ, ◌<◌, ◌≤◌, min}
use native.Mathlib.Omega.{arith}
use lib.ListN.{length, get_or, set}
use Rattle.history.specs.declared.Position.{Position}
use Rattle.history.specs.Minimum.{Minimum}
use Rattle.history.specs.declared.Command.TheVariants.{Close}
use Rattle.history.specs.Minima.{minimum}
use Rattle.history.specs.Histories.{History, Stepped, accept, among, limit_of}
use Rattle.history.proofs.Steps.{opening-accepted}
use Rattle.layout.specs.declared.Held.{Held}
use Rattle.layout.specs.declared.Place.{Place}
use Rattle.layout.specs.declared.Extent.{Extent}
use Rattle.layout.specs.declared.Role.{Role}
use Rattle.layout.specs.declared.Role.TheVariants.{Active, Younger, Older, Next}
use Rattle.layout.specs.Words.{Earlier, NotLater, Under, bottom, least_word, extent_of, start_of, Room, puts}
use Rattle.layout.proofs.Order.{earlier_or_not, under_or_not}
use Rattle.layout.proofs.Written.{wrote_header}
use Rattle.layout.proofs.Puts.{puts_lanes}
use Rattle.table.specs.Marks.{Live, released}
use Rattle.table.specs.Calls.{Sought, Released}
use Rattle.packing.specs.Packing.{packed, unpacked, Faithful}
use Rattle.stack.specs.Calls.{Lowered, Looked}
use Rattle.stack.proofs.Lowering.{lowered_within}
use Rattle.stack.proofs.Rooms.{room_or_not}
use Rattle.ranges.specs.Holding.{Holds}
use Rattle.ranges.specs.Calls.{Inside, Opened, Valued, Marked, LookedUp, Closed}
use Rattle.ranges.specs.Private.{Chosen, LowerOf, UpToNow, ClosedNext, Joined, Turned, Shared}
use Rattle.ranges.proofs.Ways.{apart}
use Rattle.ranges.proofs.Bounds.{nothing_done, done_then, header_inside, within_inside, released_inside, next_inside, joined_inside, turned_inside, shared_inside}
use Rattle.ranges.proofs.Later.{rooms}
use Rattle.ranges.proofs.Upkeep.{opening_puts, opened_holds, valued_holds}
use Rattle.ranges.proofs.Asking.{where_is, end_of, lane_of, found_active, lost_inactive, shown_word, now_word}
use Rattle.ranges.proofs.Forgetting.{closed_active, closed_younger, closed_older}
use Rattle.ranges.proofs.Joining.{ready, joined_holds}

-- words that hold a history are no fewer than 64
pub long_enough : {h : History} {first w : List ℕ} → Holds h first w → 64 ≤ length w
long_enough k = omega (arith, k.laid.roomy, k.laid.active.linked.room.wide)

-- AN OPENING: the first n words are zeros, and all behind them are as they were
abbrev cleared : ℕ → List ℕ → List ℕ
cleared n w = replicate n 0 ++ drop n w

module _ (w : List ℕ) (n : ℕ) (l : n ≤ length w) where
  long : length (cleared n w) ≡ length w
  long = grind (arith, common_steps)

  zero : (j : ℕ) → j < n → get_or (cleared n w) j 0 ≡ 0
  zero j b = grind (arith, common_steps)

  same : (j : ℕ) → n ≤ j → get_or (cleared n w) j 0 ≡ get_or w j 0
  same j b = grind (arith, common_steps)

pub open_done : (w u : List ℕ) → 576 ≤ length w → u ≡ replicate (length (take 32 w)) 0 → Opened w (puts opening_puts (u ++ drop 32 w))
open_done w u l e =
    let v = cleared 32 w in
    let m : 32 ≤ length w = omega arith in
    let lanes = puts_lanes opening_puts v refl in
    rw (e, length-take-le 32 w m) (record {
      inside = record { long = lanes.long ∙ long w 32 m; beyond = λ i b. lanes.words i (omega arith) ∙ same w 32 m i (omega arith) };
      short = λ b. absurd (omega arith);
      holds = λ b. subst (λ (x : Stepped). Holds x.history w (puts opening_puts v)) (sym (opening-accepted (length w) l)) (opened_holds w v (length w) (limit_of (length w)) l (long w 32 m) (zero w 32 m) (same w 32 m));
    })

-- A VALUE
pub value_done : (w u : List ℕ) (m : Minimum) (e : Extent) (word : ℕ) (r : Place) → 32 ≤ length w → e ≡ extent_of w Active → word ≡ packed m → unpacked word ≡ m → Lowered w u e.lane e.height word r
    → Valued w (set u 3 r.0) m
value_done w u m e word r l own packs back q = record {
  inside = done_then
      (⊎_elim (λ (b : Room w e.height.0). within_inside (lowered_within q) b.few) (λ (n : Room w e.height.0 → ⊥). nothing_done (q.idle n).0) (room_or_not w e.height.0))
      (header_inside (wrote_header u 3 r.0 (omega arith)));
  short = λ b. absurd (omega arith);
  unfit = λ n.
      let i = q.idle (λ o. n (subst (λ (x : Extent). Room w x.height.0) own o)) in
      (λ j. set (i.0 j) 3 (i.1 j).0) ∙ ap (λ (x : Extent). set w 3 x.height.0) own ∙ set-get_or w 3 0;
  holds = λ h first k x is b.
      valued_holds h first w u x r k l b (subst Faithful is (ap unpacked (sym packs) ∙ back))
      (subst (λ (y : ℕ). Lowered w u (extent_of w Active).lane (extent_of w Active).height y r) (packs ∙ ap packed is)
      (subst (λ (y : Extent). Lowered w u y.lane y.height word r) own q));
}

-- A LOOK-UP
no_minimum : {C : Type 0} {m : Minimum} → None ≡ Some m → C
no_minimum e = cc

nothing_shown : (w : List ℕ) (p : Position) → ((h : History) (first : List ℕ) → Holds h first w → among p h.active ≡ false) → LookedUp w p None
nothing_shown w p f = record {
  live = λ m e. no_minimum e;
  shown = λ m e. no_minimum e;
  holds = λ h first k. sym (ap (λ (b : Bool). cond b (Some (minimum h.values p)) None) (f h first k));
}

-- a word is an entry of some lane's stack
abbrev Entry : List ℕ → ℕ → Type 0
Entry w x = (role : Role) × (t : Place) × Under t (extent_of w role).height × (x ≡ least_word w (extent_of w role).lane t)

lower_entry : {w : List ℕ} {x r : ℕ} (role : Role) → Entry w x → LowerOf w role x r → Entry w r
lower_entry {w} {x} {r} role a q =
    let e = extent_of w role in
    let same : r ≡ x → Entry w r = λ z. (a.0, a.1, a.2, z ∙ a.3) in
    ⊎_elim
    (λ (b : Room w e.height.0). elim (under_or_not bottom e.height) [
      | inr z ↦ same (q.none (λ c d. omega arith))
      | inl z ↦
          let y = least_word w e.lane bottom in
          elim (dec_lt y x) [
            | yes l ↦ (role, bottom, z, q.some b z ∙ (let m : min x y ≡ y = omega arith in m))
            | no l ↦ same (q.some b z ∙ (let m : min x y ≡ x = omega (arith, l) in m))
          ]
    ])
    (λ (n : Room w e.height.0 → ⊥). same (q.none (λ c d. n c)))
    (room_or_not w e.height.0)

now_entry : {w : List ℕ} {x r : ℕ} (role : Role) → Entry w x → UpToNow w role x r → Entry w r
now_entry Active a q = let z = q.own (λ e. cc) (λ e. cc) in (a.0, a.1, a.2, z ∙ a.3)
now_entry Younger a q = lower_entry Active a (q.younger refl)
now_entry Older a q = let t = q.older refl in lower_entry Active (lower_entry Younger a t.1) t.2
now_entry Next a q = let z = q.own (λ e. cc) (λ e. cc) in (a.0, a.1, a.2, z ∙ a.3)

-- what is read of a header
module _ (w : List ℕ) (p : Position) (role : Role) (e : Extent) (own : e ≡ extent_of w role) (c : Chosen w p role) (found : Option Held) (q : Sought w e.lane e.rows e.capacity p found) where
  abbrev ex : Extent
  ex = extent_of w role

  sought : Sought w ex.lane ex.rows ex.capacity p found
  sought = subst (λ (x : Extent). Sought w x.lane x.rows x.capacity p found) own q

  -- the active lane is chosen where the position is not before its start
  started : role ≡ Active → NotLater (start_of w Active) p
  started a = elim (earlier_or_not p (start_of w Active)) [
    | inr l ↦ l
    | inl l ↦ elim (earlier_or_not p (start_of w Younger)) [
      | inl m ↦ apart Active Older a (c.older l m) (λ z. omega arith)
      | inr m ↦ apart Active Younger a (c.younger l m) (λ z. omega arith)
    ]
  ]

  earlier : (role ≡ Active → ⊥) → Earlier p (start_of w Active)
  earlier n = elim (earlier_or_not p (start_of w Active)) [ inl l ↦ l | inr l ↦ absurd (n (c.active l)) ]

  -- the mark is not found
  pub not_there : found ≡ None → (h : History) (first : List ℕ) → Holds h first w → among p h.active ≡ false
  not_there n h first k = lost_inactive h first w p k role (where_is c) found sought n

  pub look_lost : found ≡ None → LookedUp w p None
  look_lost n = nothing_shown w p (not_there n)

  -- the mark is found
  module _ (g : Held) (at : found ≡ Some g) where
    pub live : Live w ex.lane ex.rows p g
    live = sought.sound g at

    pub is_there : (h : History) (first : List ℕ) → Holds h first w → among p h.active ≡ true
    is_there h first k = found_active h first w p k role (where_is c) g live

    module _ (low : Option ℕ) (s : Looked w e.lane e.height g low) where
      looked : Looked w ex.lane ex.height g low
      looked = subst (λ (x : Extent). Looked w x.lane x.height g low) own s

      -- its lane always has a minimum for it
      pub look_none : low ≡ None → LookedUp w p None
      look_none n = nothing_shown w p (λ h first k. absurd (
          let f : None ≡ Some (packed (minimum (end_of h first w p k role) p)) = sym n ∙ shown_word h first w p k role (where_is c) g live low looked in
          cc))

      module _ (x r : ℕ) (shows : low ≡ Some x) (up : UpToNow w role x r) where
        entry : Entry w x
        entry = ⊎_elim
            (λ (b : Room w ex.height.0). elim (under_or_not bottom ex.height) [
              | inr z ↦ absurd (let f : None ≡ Some x = sym (looked.nothing (λ d f. omega arith)) ∙ shows in cc)
              | inl z ↦
                  let t = looked.shown b z in
                  let same : Some x ≡ Some (least_word w ex.lane t.0) = sym shows ∙ t.2 in
                  let f : x ≡ least_word w ex.lane t.0 = cc in
                  (role, t.0, t.1, f)
            ])
            (λ (n : Room w ex.height.0 → ⊥). absurd (let f : None ≡ Some x = sym (looked.nothing (λ d f. n d)) ∙ shows in cc))
            (room_or_not w ex.height.0)

        pub look_done : (m : Minimum) → m ≡ unpacked r → LookedUp w p (Some m)
        look_done m is = record {
          live = λ n z. (role, g, live);
          shown = λ n z.
              let f : m ≡ n = cc in
              let t = now_entry role entry up in
              (t.0, t.1, t.2, sym f ∙ is ∙ ap unpacked t.3);
          holds = λ h first k.
              let same : Some x ≡ Some (packed (minimum (end_of h first w p k role) p)) = sym shows ∙ shown_word h first w p k role (where_is c) g live low looked in
              let f : x ≡ packed (minimum (end_of h first w p k role) p) = cc in
              ap Some (is ∙ now_word h first w p k role (where_is c) g live x r f up)
              ∙ sym (ap (λ (b : Bool). cond b (Some (minimum h.values p)) None) (is_there h first k));
        }

    -- A CLOSE: u are the words after the row is closed
    module _ (u : List ℕ) (rel : Released w u e.lane e.rows g) where
      rel_own : Released w u ex.lane ex.rows g
      rel_own = subst (λ (x : Extent). Released w u x.lane x.rows g) own rel

      -- its row is closed where there is room for the rows; where there is none, nothing is done
      closed_words : Room w ex.rows.0 → u ≡ released w ex.lane g
      closed_words room = rel_own.done room live.row

      closed_inside : Inside w u
      closed_inside = released_inside ex.lane ex.rows g rel_own

      -- of a history there is room
      history_words : (h : History) (first : List ℕ) → Holds h first w → (r : Role) → role ≡ r → u ≡ released w (extent_of w r).lane g
      history_words h first k r a = closed_words (rooms (lane_of h first w p k role)) ∙ ap (λ (x : Role). released w (extent_of w x).lane g) a

      live_in : (r : Role) → role ≡ r → Live w (extent_of w r).lane (extent_of w r).rows p g
      live_in r a = subst (λ (x : Role). Live w (extent_of w x).lane (extent_of w x).rows p g) a live

      -- it is the active lane's
      pub close_active : role ≡ Active → Closed w u p true
      close_active a = record {
        inside = closed_inside;
        none = λ z. absurd (true≢false z);
        live = λ z. (role, g, live);
        found = λ h first k. sym (is_there h first k);
        holds = λ h first k z.
            let l : (start_of w Active).0 ≤ p.0 = started a in
            subst (Holds (accept h (Close p)).history first) (sym (history_words h first k Active a)) (closed_active h first w p k g l (live_in Active a));
      }

      -- or it stands still, and was perhaps carried
      pub close_still : (v : List ℕ) → (role ≡ Active → ⊥) → ClosedNext u v p → Closed w v p true
      close_still v n q₂ = record {
        inside = done_then closed_inside (next_inside q₂);
        none = λ z. absurd (true≢false z);
        live = λ z. (role, g, live);
        found = λ h first k. sym (is_there h first k);
        holds = λ h first k z. let l : p.0 < (start_of w Active).0 = earlier n in elim (dec_lt p.0 (start_of w Younger).0) [
          | yes b ↦
              let a = c.older l b in
              closed_older h first w v p k g l b (live_in Older a) (subst (λ (x : List ℕ). ClosedNext x v p) (history_words h first k Older a) q₂)
          | no b ↦
              let a = c.younger l (omega (arith, b)) in
              closed_younger h first w v p k g l (omega (arith, b)) (live_in Younger a) (subst (λ (x : List ℕ). ClosedNext x v p) (history_words h first k Younger a) q₂)
        ];
      }

-- no mark is closed
pub close_none : (w : List ℕ) (p : Position) → ((h : History) (first : List ℕ) → Holds h first w → among p h.active ≡ false) → Closed w w p false
close_none w p f = record {
  inside = nothing_done refl;
  none = λ z. refl;
  live = λ z. absurd (false≢true z);
  found = λ h first k. sym (f h first k);
  holds = λ h first k z. absurd (false≢true z);
}

pub mark_done : (w u x v : List ℕ) (active word : ℕ) (p : Position) (m : Minimum) → 32 ≤ length w → Turned w u active p → word ≡ packed m → unpacked word ≡ m → Joined u x Active p word → Shared x v
    → Marked w v active p m
mark_done w u x v active word p m l t packs back a s =
    let i = turned_inside t in
    record {
      inside = done_then i (done_then (joined_inside a) (shared_inside s));
      short = λ b. absurd (omega arith);
      holds = λ h first y k unmarked count free long here is.
          joined_holds h first w active p y k unmarked count free long l here (ready h first w active p y k unmarked count free long l here t) i.long
          a.appended is packs back (subst (λ (z : List ℕ). Shared z v) a.done s);
    }
