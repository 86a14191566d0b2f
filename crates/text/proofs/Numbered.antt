-- Lines with running numbers: one line more, behind the others.
use mathlib.Core.Path.{◌≡◌, sym, ap, ◌∙◌}
use mathlib.Core.List.{List, [], ◌∷◌, ◌++◌, append_assoc, append-nil}
use Prim.Native.Nat.{ℕ, suc, ◌+◌}
use native.Mathlib.Nat.{add-zero}
use native.Mathlib.Omega.{arith}
use lib.ListN.{length}
use Rattle.text.specs.Numbered.{lines_from}

module _ {Command Told : Type 0} (line : ℕ → Command → Told → List ℕ) (c : Command) (t : Told) where
  pub lines_more : (n : ℕ) (cs : List Command) (ts : List Told) → length cs ≡ length ts
      → lines_from line n (cs ++ (c ∷ [])) (ts ++ (t ∷ [])) ≡ lines_from line n cs ts ++ line (n + length cs) c t
  lines_more n [] [] e = append-nil (line n c t) ∙ ap (λ (k : ℕ). line k c t) (sym (add-zero n))
  lines_more n [] (u ∷ us) e = absurd (omega arith)
  lines_more n (d ∷ ds) [] e = absurd (omega arith)
  lines_more n (d ∷ ds) (u ∷ us) e =
      let k : n + 1 + length ds ≡ n + suc (length ds) = omega arith in
      ap (λ (x : List ℕ). line n d u ++ x) (lines_more (n + 1) ds us (omega arith))
      ∙ sym (append_assoc (line n d u) (lines_from line (n + 1) ds us) (line (n + 1 + length ds) c t))
      ∙ ap (λ (x : ℕ). (line n d u ++ lines_from line (n + 1) ds us) ++ line x c t) k
