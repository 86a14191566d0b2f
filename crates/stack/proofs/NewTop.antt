-- A new top at a place of a stack: what is above goes, what is below stays. Both a value that comes and a row that comes do this; they differ in the row at which the top's run
-- starts.
use mathlib.Core.Path.{◌≡◌, sym, ap, ◌∙◌}
use mathlib.Core.List.{List}
use mathlib.Core.Logic.{⊎_elim}
use Prim.Native.Nat.{ℕ, ◌+◌, ◌<◌, ◌≤◌}
use native.Mathlib.Nat.{eq-or-lt_of_le}
use native.Mathlib.Omega.{arith}
use Rattle.layout.specs.declared.Held.{Held}
use Rattle.layout.specs.declared.Place.{Place}
use Rattle.layout.specs.declared.Lane.{Lane}
use Rattle.layout.specs.Words.{NotHigher, Under, NotAbove, above, bottom, word, least_word, first}
use Rattle.stack.specs.Entries.{Stacked, Rests}

-- the entries of v are those of w with the word x as the top, whose run starts at row f
pub record Grown (w v : List ℕ) (k : Lane) (top : Place) (x f : ℕ) : Type 0 where
  pub new : least_word v k top ≡ x
  pub start : (first v k top).0 ≡ f
  pub words : (t : Place) → Under t top → least_word v k t ≡ least_word w k t
  pub starts : (t : Place) → Under t top → (first v k t).0 ≡ (first w k t).0

-- the new top fits a stack: its run goes on from the one below it, and its word is no smaller
pub record Continues (w : List ℕ) (k : Lane) (rows : Held) (top : Place) (x f : ℕ) : Type 0 where
  pub low : top.0 < rows.0
  pub inside : f < rows.0
  pub bottom : top.0 ≡ 0 → f ≡ 0
  pub after : (t : Place) → t.0 + 1 ≡ top.0 → (first w k t).0 < f
  pub ascending : (t : Place) → t.0 + 1 ≡ top.0 → least_word w k t ≤ x

module _ {w v : List ℕ} {k : Lane} {top : Place} {x f : ℕ} (g : Grown w v k top x f) where
  -- the top's run starts at row f
  first-top : (t : Place) → t.0 ≡ top.0 → (first v k t).0 ≡ f
  first-top t e = ap (λ (i : ℕ). word v k i 5) e ∙ g.start

  -- the top's word is x
  least_top : (t : Place) → t.0 ≡ top.0 → least_word v k t ≡ x
  least_top t e = ap (λ (i : ℕ). word v k i 4) e ∙ g.new

  -- the runs below with the new top's are a stack of as many rows or more
  pub stacked_grown : {old rows : Held} {height : Place} → Stacked w k old height → NotAbove top height → NotHigher old rows → Continues w k rows top x f
      → Stacked v k rows (above top)
  stacked_grown {old} {rows} {height} s p o on = record {
    low = omega (arith, on.low);
    some = λ l. omega arith;
    bottom = λ l. ap (λ (i : ℕ). record { 0 = i }) (at_bottom (omega arith));
    below = λ t l.
        ⊎_elim (λ (e : t.0 ≡ top.0). omega (arith, first-top t e, on.inside))
        (λ (m : Under t top). omega (arith, g.starts t m, s.below t (omega arith)))
        (eq-or-lt_of_le (omega arith));
    rising = λ t l.
        let m : Under t top = omega arith in
        ⊎_elim (λ (e : t.0 + 1 ≡ top.0). omega (arith, g.starts t m, first-top (above t) e, on.after t e))
        (λ (b : t.0 + 1 < top.0). omega (arith, g.starts t m, g.starts (above t) b, s.rising t (omega arith)))
        (eq-or-lt_of_le (omega arith));
    ascending = λ t l.
        let m : Under t top = omega arith in
        ⊎_elim (λ (e : t.0 + 1 ≡ top.0). omega (arith, g.words t m, least_top (above t) e, on.ascending t e))
        (λ (b : t.0 + 1 < top.0). omega (arith, g.words t m, g.words (above t) b, s.ascending t (omega arith)))
        (eq-or-lt_of_le (omega arith));
  }
    where
      at_bottom : 0 ≤ top.0 → (first v k bottom).0 ≡ 0
      at_bottom z =
          ⊎_elim (λ (e : 0 ≡ top.0). first-top bottom e ∙ on.bottom (sym e))
          (λ (l : Under bottom top). g.starts bottom l ∙ ap (λ (h : Held). h.0) (s.bottom (omega arith)))
          (eq-or-lt_of_le z)

  -- the top's run has every row from its first on
  pub top_grown : (h : Held) → f ≤ h.0 → Rests v k (above top) h x
  top_grown h l = record {
    place = top;
    covers = record { on = omega arith; from = omega (arith, g.start); to = λ m. absurd (omega arith) };
    same = g.new;
  }

  -- a row of a run below keeps its word, where the top's run starts above it
  pub below_grown : {height : Place} {h : Held} {y : ℕ} (r : Rests w k height h y) → NotAbove top height → Under r.place top → h.0 < f
      → Rests v k (above top) h y
  below_grown {height} {h} r q l b =
      let t = r.place in
      let c = r.covers in
      record {
        place = t;
        covers = record {
          on = omega arith;
          from = omega (arith, g.starts t l, c.from);
          to = λ m.
              ⊎_elim (λ (e : t.0 + 1 ≡ top.0). omega (arith, first-top (above t) e))
              (λ (p : t.0 + 1 < top.0). omega (arith, g.starts (above t) p, c.to (omega arith)))
              (eq-or-lt_of_le (omega arith));
        };
        same = g.words t l ∙ r.same;
      }
