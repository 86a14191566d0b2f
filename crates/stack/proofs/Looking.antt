-- What a look at the place whose run has a row says of the row's word: the stack has only one, and it is that place's entry.
use mathlib.Core.Path.{refl, ap}
use mathlib.Core.List.{List}
use Rattle.std.specs.Prelude.{Some}
use Prim.Native.Nat.{ℕ}
use Rattle.layout.specs.declared.Held.{Held}
use Rattle.layout.specs.declared.Place.{Place}
use Rattle.layout.specs.declared.Lane.{Lane}
use Rattle.layout.specs.Words.{Under, bottom, least_word, Room}
use Rattle.stack.specs.Calls.{Looked}
use Rattle.stack.specs.Private.{Located}
use Rattle.stack.proofs.Runs.{covers_rests, rests_unique}

-- the entry at the row's place is its word
pub seen : {w : List ℕ} {k : Lane} {height t : Place} {h : Held} → Room w height.0 → Under bottom height → Located w k height h t → Looked w k height h (Some (least_word w k t))
seen {t = t} o some p = record {
  nothing = λ f. absurd (f o some);
  shown = λ o l. (t, p.within, refl);
  right = λ rows u s l x q. ap Some (rests_unique s (covers_rests (p.covers rows u s l)) q);
}
