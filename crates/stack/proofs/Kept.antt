-- The stack reads nothing but its entries: in words whose entries are the same it is the same stack.
use mathlib.Core.Path.{◌≡◌, refl, ap, ◌∙◌}
use mathlib.Core.List.{List}
use Prim.Native.Nat.{ℕ}
use native.Mathlib.Omega.{arith}
use Rattle.layout.specs.declared.Held.{Held}
use Rattle.layout.specs.declared.Place.{Place}
use Rattle.layout.specs.declared.Lane.{Lane}
use Rattle.layout.specs.Words.{above, bottom, least_word, first}
use Rattle.layout.specs.Frames.{Same, entry}
use Rattle.stack.specs.Entries.{Stacked, Covers, Rests}

module _ {w v : List ℕ} {k : Lane} (a : Same entry k w v) where
  -- an entry has the same word
  least_same : (t : Place) → least_word v k t ≡ least_word w k t
  least_same t = a.words t.0 4 (omega arith) refl

  -- its run starts at the same row
  first_same : (t : Place) → (first v k t).0 ≡ (first w k t).0
  first_same t = a.words t.0 5 (omega arith) refl

  -- the same stack
  pub stacked_same : {rows : Held} {height : Place} → Stacked w k rows height → Stacked v k rows height
  stacked_same s = record {
    low = s.low;
    some = s.some;
    bottom = λ l. ap (λ (n : ℕ). record { 0 = n }) (first_same bottom) ∙ s.bottom l;
    below = λ t l. omega (arith, first_same t, s.below t l);
    rising = λ t l. omega (arith, first_same t, first_same (above t), s.rising t l);
    ascending = λ t l. omega (arith, least_same t, least_same (above t), s.ascending t l);
  }

  -- a row is in the same run
  pub covers_same : {height t : Place} {h : Held} → Covers w k height t h → Covers v k height t h
  covers_same {height} {t} c = record { on = c.on; from = omega (arith, first_same t, c.from); to = λ l. omega (arith, first_same (above t), c.to l) }

  -- a row has the same word
  pub rests_same : {height : Place} {h : Held} {x : ℕ} → Rests w k height h x → Rests v k height h x
  rests_same r = record { place = r.place; covers = covers_same r.covers; same = least_same r.place ∙ r.same }
