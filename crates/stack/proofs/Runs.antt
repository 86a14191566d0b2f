-- No row of a stack is in two runs, so the stack has one word for it; the top's run has the last row; and from one row to the next the run is the same or the one above.
use mathlib.Core.Path.{◌≡◌, refl, sym, ap, ◌∙◌}
use mathlib.Core.List.{List}
use mathlib.Core.Logic.{⊎_elim}
use Prim.Native.Nat.{ℕ, ◌+◌}
use native.Mathlib.Omega.{arith}
use Rattle.layout.specs.declared.Held.{Held}
use Rattle.layout.specs.declared.Place.{Place}
use Rattle.layout.specs.declared.Lane.{Lane}
use Rattle.layout.specs.Words.{Lower, NotHigher, Under, NotAbove, after, above, bottom, row₀, word, least_word, first, Room}
use Rattle.layout.proofs.Order.{lower_or_not, under_or_not, under_through, one_place}
use Rattle.stack.specs.Entries.{Stacked, Covers, Rests}
use Rattle.stack.specs.Calls.{Advanced}
use Rattle.stack.proofs.Rises.{rises}

-- the word of a run is that of each of its rows
pub covers_rests : {w : List ℕ} {k : Lane} {height t : Place} {h : Held} → Covers w k height t h → Rests w k height h (least_word w k t)
covers_rests {w} {k} {height} {t} c = record { place = t; covers = c; same = refl }

module _ {w : List ℕ} {k : Lane} {rows : Held} {height : Place} (s : Stacked w k rows height) where
  -- the runs start at ever higher rows
  pub first_rises : (a t : Place) → NotAbove a t → Under t height → NotHigher (first w k a) (first w k t)
  first_rises a t = rises {a = λ n. word w k n 5} (λ n l. omega (arith, s.rising (record { 0 = n }) l)) a.0 t.0

  -- of two runs with the same row, neither is below the other
  not_below : (h : Held) (a b : Place) → Covers w k height a h → Covers w k height b h → Under a b → ⊥
  not_below h a b x y l = omega (arith, x.to (under_through {t = b} (omega arith) y.on), first_rises (above a) b (omega arith) y.on, y.from)

  -- no two runs share a row
  covers_unique : (h : Held) (a b : Place) → Covers w k height a h → Covers w k height b h → a ≡ b
  covers_unique h a b x y = one_place (not_below h a b x y) (not_below h b a y x)

  -- the stack has one word for a row
  pub rests_unique : {h : Held} {x y : ℕ} → Rests w k height h x → Rests w k height h y → x ≡ y
  rests_unique {h} a b = sym a.same ∙ ap (least_word w k) (covers_unique h a.place b.place a.covers b.covers) ∙ b.same

  -- the top's run has the last row
  pub top_rests : (t : Place) → above t ≡ height → (h : Held) → after h ≡ rows → Rests w k height h (least_word w k t)
  top_rests t e h d =
      let m : t.0 + 1 ≡ height.0 = ap (λ (u : Place). u.0) e in
      let n : h.0 + 1 ≡ rows.0 = ap (λ (g : Held). g.0) d in
      covers_rests (record { on = omega arith; from = omega (arith, s.below t (omega arith)); to = λ l. absurd (omega arith) })

  -- the first run has the first row
  pub first_covers : Lower row₀ rows → Covers w k height bottom row₀
  first_covers l =
      let e = ap (λ (g : Held). g.0) (s.bottom (s.some l)) in
      record { on = s.some l; from = omega (arith, e); to = λ m. omega (arith, s.rising bottom m) }

  -- a step of `advance` keeps to the runs of the rows
  pub advance_covers : {t r : Place} {h : Held} → Room w height.0 → Covers w k height t h → Advanced w k height t (after h) r → Covers w k height r (after h)
  advance_covers {t} {r} {h} room c a =
      ⊎_elim
      (λ (l : Under (above t) height).
      ⊎_elim
      (λ (b : Lower (after h) (first w k (above t))). rw (a.stays (λ o n m. omega arith)) (record { on = c.on; from = omega (arith, c.from); to = λ n. b }))
      (λ (b : NotHigher (first w k (above t)) (after h)).
      rw (a.moves room l b) (record { on = l; from = b; to = λ n. omega (arith, c.to l, s.rising (above t) n) }))
      (lower_or_not (after h) (first w k (above t))))
      (λ (l : NotAbove height (above t)).
      rw (a.stays (λ o n m. omega arith)) (record { on = c.on; from = omega (arith, c.from); to = λ n. absurd (omega arith) }))
      (under_or_not (above t) height)
