-- What is known of the texts in a line: that of values one after the other.
use mathlib.Core.Path.{◌≡◌, sym, ap, ◌∙◌}
use mathlib.Core.List.{List, [], ◌∷◌, ◌++◌, append_assoc, append-nil}
use Prim.Native.Nat.{ℕ, ◌+◌, ◌<◌}
use native.Mathlib.Numerals.{add-one}
use lib.IntN.{ℤ, pos}
use lib.ListN.{length, take, get_or}
use lib.Seq.{take-suc}
use Rattle.text.specs.Parts.{value_text}
use Rattle.listing.specs.Lines.{values_text}

-- values, and one more
values_append : (vs : List ℤ) (v : ℤ) → values_text (vs ++ (v ∷ [])) ≡ values_text vs ++ value_text v
values_append [] v = append-nil (value_text v)
values_append (x ∷ xs) v = ap (λ (t : List ℕ). value_text x ++ t) (values_append xs v) ∙ sym (append_assoc (value_text x) (values_text xs) (value_text v))

-- the first i of them, and the next
pub values_next : (vs : List ℤ) (i : ℕ) → i < length vs → values_text (take (i + 1) vs) ≡ values_text (take i vs) ++ value_text (get_or vs i (pos 0))
values_next vs i l = rw (add-one i, take-suc vs i (pos 0) l) (values_append (take i vs) (get_or vs i (pos 0)))
