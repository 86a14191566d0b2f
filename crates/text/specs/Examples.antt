-- Worked examples of a program's whole output, where that is a function of its bytes.
use Rattle.std.specs.Prelude.{◌≡◌, List, map, ℕ}

-- bytes, and all that is printed of them
pub record Example : Type 0 where
  pub bytes : List ℕ
  pub output : List ℕ

-- the whole output of the bytes of each of a list is what it says
abbrev pub AllPrinted : (output_of : List ℕ → List ℕ) → List Example → Type 0
AllPrinted output_of es = map (λ (e : Example). output_of e.bytes) es ≡ map (λ (e : Example). e.output) es
