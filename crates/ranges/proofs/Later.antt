-- The minimum of a mark that stands still, from its own lane's and the lowest entries of the lanes after it: source document 000, Lemma 7, "From the three possible values we return the overall
-- minimum".
use mathlib.Core.Path.{◌≡◌, sym, ap, subst, ◌∙◌}
use mathlib.Core.List.{List}
use Prim.Native.Nat.{ℕ, min}
use native.Mathlib.Omega.{arith}
use lib.IntN.{ℤ}
use lib.ListN.{length, take}
use lib.Seq.{take-take, length-take-le}
use Rattle.history.specs.declared.Position.{Position}
use Rattle.history.specs.Minima.{minimum}
use Rattle.layout.specs.declared.Extent.{Extent}
use Rattle.layout.specs.Words.{Earlier, Lower, NotHigher, row₀, bottom, position, least_word, Room}
use Rattle.packing.specs.Packing.{packed, Faithful}
use Rattle.ranges.specs.Holding.{origin, LaneHolds, Roles, Laid, Started}
use Rattle.ranges.proofs.Lanes.{room_less}
use Rattle.ranges.proofs.Parts.{packed_parts, faithful_parts, lowest_entry}

-- room for the rows and for the entries of a lane
pub rooms : {w : List ℕ} {e : Extent} {vs : List ℤ} → LaneHolds w e vs → Room w e.rows.0
rooms {e = e} b = room_less b.linked.room e.rows.0 b.linked.full

pub heights : {w : List ℕ} {e : Extent} {vs : List ℤ} → LaneHolds w e vs → Room w e.height.0
heights {e = e} b = room_less (rooms b) e.height.0 b.stacked.low

module _ {s : Roles} {w : List ℕ} {values : List ℤ} {l : ℕ} (a : Laid s w values l) where
  -- the values up to where the active lane starts
  abbrev pub until : List ℤ
  until = take s.start.0 values

  pub until_long : length until ≡ s.start.0
  until_long = length-take-le s.start.0 values a.ends

  -- a mark of the older lane, up to where the active lane starts: its own lane's, and the younger lane's lowest
  module _ (p : Position) (z : Earlier origin p) (b : Earlier p s.middle) (f : Faithful (minimum (take s.middle.0 values) p)) (some : Lower row₀ s.younger.rows) where
    same_part : take s.middle.0 until ≡ take s.middle.0 values
    same_part = take-take s.middle.0 s.start.0 values a.order

    faithful_part : Faithful (minimum (take s.middle.0 until) p)
    faithful_part = subst (λ (vs : List ℤ). Faithful (minimum vs p)) (sym same_part) f

    here : position w s.younger.lane row₀ ≡ s.middle
    here = a.middle_row (omega arith) some

    faithful_rest : Faithful (minimum until s.middle)
    faithful_rest = subst (λ (q : Position). Faithful (minimum until q)) here (a.younger.row row₀ some).faithful

    pub older_word : min (packed (minimum (take s.middle.0 values) p)) (least_word w s.younger.lane bottom) ≡ packed (minimum until p)
    older_word =
        (λ i. min (packed (minimum (sym same_part i) p)) ((lowest_entry a.younger some ∙ ap (λ (q : Position). packed (minimum until q)) here) i))
        ∙ packed_parts until p s.middle z (omega arith) (omega (arith, until_long, a.order)) faithful_part faithful_rest

    pub older_faithful : Faithful (minimum until p)
    older_faithful = faithful_parts until p s.middle z (omega arith) (omega (arith, until_long, a.order)) faithful_part faithful_rest

  -- with no younger lane, its own lane's are all up to there
  pub older_whole : NotHigher s.younger.rows row₀ → take s.middle.0 values ≡ until
  older_whole z = ap (λ (q : Position). take q.0 values) (a.whole z)

  -- a mark that stands still, up to now: that up to where the active lane starts, and the active lane's lowest
  module _ (started : Started s w) (p : Position) (z : Earlier origin p) (b : Earlier p s.start) (f : Faithful (minimum until p)) where
    first : Lower row₀ s.active.rows × (position w s.active.lane row₀ ≡ s.start)
    first = started (omega arith)

    faithful_now : Faithful (minimum values s.start)
    faithful_now = subst (λ (q : Position). Faithful (minimum values q)) first.1 (a.active.row row₀ first.0).faithful

    pub still_word : min (packed (minimum until p)) (least_word w s.active.lane bottom) ≡ packed (minimum values p)
    still_word =
        ap (min (packed (minimum until p))) (lowest_entry a.active first.0 ∙ ap (λ (q : Position). packed (minimum values q)) first.1)
        ∙ packed_parts values p s.start z (omega arith) a.ends f faithful_now

    pub still_faithful : Faithful (minimum values p)
    still_faithful = faithful_parts values p s.start z (omega arith) a.ends f faithful_now
