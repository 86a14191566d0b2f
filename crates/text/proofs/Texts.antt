-- Texts written one after the other.
use mathlib.Core.Path.{refl, sym, ap, ◌∙◌}
use mathlib.Core.List.{List, [], ◌++◌, append_assoc, append-nil}
use Prim.Native.Nat.{ℕ, ◌≤◌}
use native.Mathlib.Omega.{arith}
use lib.ListN.{length, take, length-append, length-take}
use Rattle.io.specs.Counts.{IsPrefixLen}
use Rattle.text.specs.declared.Page.{Page}
use Rattle.text.specs.Writing.{Adds}
use Rattle.text.specs.Pages.{Puts}

-- no text
pub nothing : (out : List ℕ) (used : ℕ) → Adds out used [] out used
nothing out used = record { says = sym (append-nil (take used out)); counts = omega arith; long = refl }

-- two texts in a row are one
pub then : {a b c s t : List ℕ} {u v w : ℕ} → Adds a u s b v → Adds b v t c w → Adds a u (s ++ t) c w
then {a} {s = s} {t = t} {u = u} f g = record {
  says = g.says ∙ ap (λ (x : List ℕ). x ++ t) f.says ∙ append_assoc (take u a) s t;
  counts = omega (arith, f.counts, g.counts, length-append s t);
  long = g.long ∙ f.long;
}

-- so many bytes at the start
pub counted : (r : ℕ) (xs : List ℕ) → r ≤ length xs → IsPrefixLen r xs
counted r xs l = (l, simp length-take (omega arith))

-- the same of what is put on a page
pub put_nothing : (page : Page) → Puts page [] page
put_nothing page = record { same = refl; adds = nothing page.out.now page.used }

pub put_then : {a b c : Page} {s t : List ℕ} → Puts a s b → Puts b t c → Puts a (s ++ t) c
put_then f g = record { same = g.same ∙ f.same; adds = then f.adds g.adds }
