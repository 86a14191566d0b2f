-- A row comes. It joins the run of the top, where that has its word; else it gets an entry of its own on top, whose run starts at that row, so the runs below it end where they did.
use mathlib.Core.Path.{◌≡◌, refl, ap, subst, ◌∙◌}
use mathlib.Core.List.{List}
use mathlib.Core.Logic.{⊎_elim, inl, inr}
use Prim.Native.Nat.{ℕ, ◌+◌, ◌*◌, ◌-◌, ◌≤◌}
use native.Mathlib.Decide.{ℕ_discrete}
use native.Mathlib.Omega.{arith}
use lib.ListN.{get_or, set, length-set}
use lib.Seq.{get_or-set_same, get_or-set_other}
use Rattle.layout.specs.declared.Held.{Held}
use Rattle.layout.specs.declared.Place.{Place}
use Rattle.layout.specs.declared.Lane.{Lane}
use Rattle.layout.specs.Words.{Lower, after, above, bottom, row₀, base_of, word, least_word, Room}
use Rattle.layout.specs.Frames.{Within}
use Rattle.layout.proofs.Order.{lower_or_not, under_or_not}
use Rattle.layout.proofs.Written.{untouched, wrote, and_then}
use Rattle.stack.specs.Entries.{Stacked, Rests, pushed, by_stack}
use Rattle.stack.specs.Calls.{Pushed}
use Rattle.stack.proofs.Runs.{top_rests}
use Rattle.stack.proofs.Rooms.{room_or_not, room_below}
use Rattle.stack.proofs.NewTop.{Grown, stacked_grown, top_grown, below_grown}

-- the top has the word x
record Topped (w : List ℕ) (k : Lane) (height : Place) (x : ℕ) : Type 0 where
  pub top : Place
  pub last : above top ≡ height
  pub same : least_word w k top ≡ x

-- the last place below a height
last : (height : Place) (n : ℕ) → n + 1 ≡ height.0 → above (record { 0 = n }) ≡ height
last height n e = ap (λ (i : ℕ). record { 0 = i }) e

module _ {w v : List ℕ} {k : Lane} {height : Place} {rows : Held} {x : ℕ} {r : Place} (d : Pushed w v k height rows x r) where
  -- nothing is done, or there is an entry more
  done : (P : List ℕ → Place → Type 0) → ((Room w (height.0 + 1) → Topped w k height x) → P w height)
      → (Room w (height.0 + 1) → P (pushed w k height rows x) (above height)) → P v r
  done P stays grows =
      ⊎_elim (λ (room : Room w (height.0 + 1)). with_room room) (λ (no : Room w (height.0 + 1) → ⊥). rw ((d.idle no).0, (d.idle no).1) (stays (λ o. absurd (no o))))
      (room_or_not w (height.0 + 1))
    where
      raised : Room w (height.0 + 1) → ((t : Place) → above t ≡ height → least_word w k t ≡ x → ⊥) → P v r
      raised o f = rw ((d.raises o f).0, (d.raises o f).1) (grows o)

      with_room : Room w (height.0 + 1) → P v r
      with_room o = elim (under_or_not bottom height) [
        | inr z ↦ raised o (λ t e q. omega (arith, ap (λ (u : Place). u.0) e))
        | inl l ↦
            let t : Place = record { 0 = height.0 - 1 } in
            let e : above t ≡ height = last height (height.0 - 1) (omega arith) in
            elim (ℕ_discrete (least_word w k t) x) [
              | yes q ↦ rw ((d.joins t e q).0, (d.joins t e q).1) (stays (λ o. record { top = t; last = e; same = q }))
              | no n ↦ raised o (λ u f q. n (ap (λ (i : ℕ). word w k i 4) (omega (arith, ap (λ (z : Place). z.0) f)) ∙ q))
            ]
      ]

  -- no words are written but entries up to the height
  pub pushed_within : Within by_stack k (record { 0 = height.0 + 1 }) w v
  pushed_within =
      done (λ u y. Within by_stack k (record { 0 = height.0 + 1 }) w u) (λ n. untouched by_stack k (record { 0 = height.0 + 1 }) w)
      (λ o. and_then by_stack k (record { 0 = height.0 + 1 }) (wrote by_stack k (record { 0 = height.0 + 1 }) w height.0 4 x (omega arith) (omega arith) refl)
      (wrote by_stack k (record { 0 = height.0 + 1 }) (set w (base_of k + 32 * height.0 + 4) x) height.0 5 rows.0 (omega arith) (omega arith) refl))

  -- the stack gets higher by one place at most
  pub pushed_height : r.0 ≤ height.0 + 1
  pushed_height = done (λ u y. y.0 ≤ height.0 + 1) (λ n. omega arith) (λ o. omega arith)

  -- the entry at the height is the new top
  grown : Room w (height.0 + 1) → Grown w (pushed w k height rows x) k height x rows.0
  grown o = record {
    new = get_or-set_other u j i rows.0 0 (λ e. omega arith) ∙ get_or-set_same w i x 0 (omega (arith, o.wide));
    start = get_or-set_same u j rows.0 0 (simp length-set (omega (arith, o.wide)));
    words = λ t l. kept (base_of k + 32 * t.0 + 4) (λ e. omega arith) (λ e. omega arith);
    starts = λ t l. kept (base_of k + 32 * t.0 + 5) (λ e. omega arith) (λ e. omega arith);
  }
    where
      i : ℕ
      i = base_of k + 32 * height.0 + 4

      j : ℕ
      j = base_of k + 32 * height.0 + 5

      u : List ℕ
      u = set w i x

      kept : (n : ℕ) → (n ≡ i → ⊥) → (n ≡ j → ⊥) → get_or (pushed w k height rows x) n 0 ≡ get_or w n 0
      kept n a b = get_or-set_other u j n rows.0 0 b ∙ get_or-set_other w i n x 0 a

  module _ (room : Room w (rows.0 + 1)) (s : Stacked w k rows height) where
    -- there is room for an entry more
    enough : Room w (height.0 + 1)
    enough = room_below room (omega (arith, s.low))

    -- an older row keeps its word
    pub pushed_older : {g : Held} {y : ℕ} → Lower g rows → Rests w k height g y → Rests v k r g y
    pushed_older {g} {y} l q = done (λ u z. Rests u k z g y) (λ n. q) (λ o. below_grown (grown o) q (omega arith) q.covers.on l)

    -- a row that joins the top's run
    joined : Topped w k height x → Stacked w k (after rows) height
    joined t =
        let e = ap (λ (u : Place). u.0) t.last in
        record {
          low = omega (arith, s.low);
          some = λ l. omega (arith, e);
          bottom = s.bottom;
          below = λ t l. omega (arith, s.below t l);
          rising = s.rising;
          ascending = s.ascending;
        }

    -- a stack of no entries has no rows
    bare : height.0 ≡ 0 → rows.0 ≡ 0
    bare e = elim (lower_or_not row₀ rows) [ inl p ↦ absurd (omega (arith, s.some p)) | inr z ↦ omega arith ]

    module _ (rises : (t : Place) → above t ≡ height → least_word w k t ≤ x) where
      -- it is a stack of one row more
      pub pushed_stacked : Stacked v k (after rows) r
      pushed_stacked =
          done (λ u y. Stacked u k (after rows) y) (λ n. joined (n enough))
          (λ o.
          stacked_grown (grown o) s (omega arith) (omega arith)
          (record {
            low = omega (arith, s.low);
            inside = omega arith;
            bottom = bare;
            after = λ t e. s.below t (omega arith);
            ascending = λ t e. rises t (last height t.0 e);
          }))

      -- the row has the word x
      pub pushed_rests : Rests v k r rows x
      pushed_rests =
          done (λ u y. Rests u k y rows x)
          (λ n. let t = n enough in subst (Rests w k height rows) t.same (top_rests (joined t) t.top t.last rows refl))
          (λ o. top_grown (grown o) rows (omega arith))
