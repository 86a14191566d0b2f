-- Some words of the header are written one after another: what each word of it is then, and that no lane's words are written.
use mathlib.Core.Path.{◌≡◌, refl, ap, ◌∙◌}
use mathlib.Core.Bool.{Bool, true, cond, ◌&&◌, and-eq-true_iff}
use mathlib.Core.List.{List, [], ◌∷◌}
use native.Mathlib.Decide.{ℕ_discrete}
use Prim.Native.Nat.{ℕ, ◌<◌, ◌≤◌}
use native.Mathlib.Omega.{arith}
use lib.Dec.{eqb, ltb}
use lib.ListN.{length, get_or, set, length-set}
use lib.Seq.{get_or-set_same, get_or-set_other}
use borrow.Author.Tests.{eq-eqb, ne_eqb, ltb-true}
use Rattle.layout.specs.declared.Held.{Held}
use Rattle.layout.specs.declared.Place.{Place}
use Rattle.layout.specs.declared.Role.{Role}
use Rattle.layout.specs.declared.Role.TheVariants.{Active, Younger, Older, Next}
use Rattle.layout.specs.Words.{Put, puts, rows_puts, left_puts}
use Rattle.layout.specs.Frames.{SameLanes}
use Rattle.layout.proofs.Written.{wrote_header, lanes_then, lanes_stay}

-- what word j is then, if it was y
abbrev pub reading : List Put → ℕ → ℕ → ℕ
reading [] j y = y
reading (p ∷ ps) j y = reading ps j (cond (eqb j p.at) p.to y)

-- all are words of the header
abbrev pub in_header : List Put → Bool
in_header [] = true
in_header (p ∷ ps) = ltb p.at 32 && in_header ps

-- those of the rows and the height are, of whatever role
pub rows_in_header : (r : Role) (h : Held) (t : Place) → in_header (rows_puts r h t) ≡ true
rows_in_header Active h t = refl
rows_in_header Younger h t = refl
rows_in_header Older h t = refl
rows_in_header Next h t = refl

-- so are those of the next row and its run
pub left_in_header : (r : Role) (h : Held) (t : Place) → in_header (left_puts r h t) ≡ true
left_in_header Active h t = refl
left_in_header Younger h t = refl
left_in_header Older h t = refl
left_in_header Next h t = refl

-- one word
put_reads : (w : List ℕ) (i j x : ℕ) → i < length w → get_or (set w i x) j 0 ≡ cond (eqb j i) x (get_or w j 0)
put_reads w i j x l = elim (ℕ_discrete j i) [
  | yes e ↦ rw (eq-eqb j i e, e) (get_or-set_same w i x 0 l)
  | no n ↦ rw (ne_eqb j i n) (get_or-set_other w i j x 0 n)
]

pub puts_read : (ps : List Put) (w : List ℕ) (j : ℕ) → in_header ps ≡ true → 32 ≤ length w → get_or (puts ps w) j 0 ≡ reading ps j (get_or w j 0)
puts_read [] w j e l = refl
puts_read (p ∷ ps) w j e l =
    let b = (and-eq-true_iff (ltb p.at 32) (in_header ps)).0 e in
    puts_read ps (set w p.at p.to) j b.1 (simp length-set l)
    ∙ ap (reading ps j) (put_reads w p.at j p.to (omega (arith, ltb-true p.at 32 b.0)))

pub puts_lanes : (ps : List Put) (w : List ℕ) → in_header ps ≡ true → SameLanes w (puts ps w)
puts_lanes [] w e = lanes_stay w
puts_lanes (p ∷ ps) w e =
    let b = (and-eq-true_iff (ltb p.at 32) (in_header ps)).0 e in
    lanes_then (wrote_header w p.at p.to (ltb-true p.at 32 b.0)) (puts_lanes ps (set w p.at p.to) b.1)
