-- `blocks::place_of` meets its contract: the first offset where the least value stands is the place that is found.
use Rattle.std.proofs.Common.{◌≡◌, refl, sym, ◌∙◌, ◌<◌, ℕ, Bool, true, false, cond, List, length, get_or, nat_lt, pos, ℤ, arith, Some, None}
use Rattle.std.specs.List.{position, position_or_len}
use Rattle.std.specs.Option.{unwrap_or}
use Rattle.std.specs.Ordering.{int_eq}
use Rattle.std.proofs.lemmas.Bool.Decides.{Decides-int_eq}
use Rattle.std.proofs.lemmas.List.Sums.{position_or_len_is}
use borrow.Author.Tests.{ltb-true, lt-ltb}
use mir.Facts.{to_z-of_z}
use Rattle.blocks.specs.Takes.{minimum_from}
use Rattle.blocks.specs.Private.{PlaceOf}
use Rattle.blocks.proofs.Founds.{found_inside}
use Rattle.blocks.proofs.Scanning.{stands, none_before}
use Rattle.blocks.proofs.place_of.Goals as goal

module _ (vs : List ℤ) (v : ℤ) (h : 0 < length vs) where
  abbrev is_v : ℤ → Bool
  is_v w = int_eq w v

  -- an offset, whether v stands anywhere or not
  inside : (t : Bool) → nat_lt (position_or_len is_v vs) (length vs) ≡ t → unwrap_or (cond t (Some (position_or_len is_v vs)) None) 0 < length vs
  inside true q = ltb-true (position_or_len is_v vs) (length vs) q
  inside false q = h

  -- before the place of the least value no value equals it
  first : v ≡ (minimum_from vs 0).value → position_or_len is_v vs ≡ (minimum_from vs 0).place.0
  first e = position_or_len_is is_v vs (minimum_from vs 0).place.0 (pos 0) (omega (arith, found_inside vs h)) (λ k l. before k l (is_v (get_or vs k (pos 0))) refl) (λ _. (Decides-int_eq (get_or vs (minimum_from vs 0).place.0 (pos 0)) v).1 (stands vs h ∙ sym e))
    where
      before : (k : ℕ) → k < (minimum_from vs 0).place.0 → (t : Bool) → is_v (get_or vs k (pos 0)) ≡ t → t ≡ false
      before k l true q = let n = none_before vs h k ((Decides-int_eq (get_or vs k (pos 0)) v).0 q ∙ e) in absurd (omega arith)
      before k l false q = refl

  place_found : PlaceOf vs v (record { 0 = unwrap_or (position is_v vs) 0 })
  place_found = record {
    inside = inside (nat_lt (position_or_len is_v vs) (length vs)) refl;
    stands = λ e. simp (first e, lt-ltb (minimum_from vs 0).place.0 (length vs) (found_inside vs h));
  }

pub returns : goal.returns
returns c = rw (c.unwrap_or.ensures, c.first_at.ensures, to_z-of_z c.ranges.v) (place_found c.args.values.now c.args.v c.requires)
