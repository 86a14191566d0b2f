-- The words from an index on, numbered from the first of them or from the index: how many do not hold the pattern.
use mathlib.Core.Path.{◌≡◌, refl, sym, ap, ◌∙◌}
use mathlib.Core.Bool.{Bool, cond, not}
use mathlib.Core.List.{List, [], ◌∷◌}
use Prim.Native.Nat.{ℕ, zero, suc, ◌+◌, ◌≤◌, min}
use native.Mathlib.Nat.{min-eq_left, min-eq_right}
use native.Mathlib.Decide.{dec_lt}
use native.Mathlib.Omega.{arith}
use lib.Dec.{eqb}
use lib.ListN.{length, drop}
use Rattle.std.specs.List.{count_by, enumerate_from, fold}
use Rattle.compare.specs.Words.{pattern_at, off_pattern}

-- numbered from n + m on, as numbered from m on and n more
shifted : (p : ℕ × ℕ → Bool) (n m a : ℕ) (w : List ℕ)
    → fold (λ s q. s + cond (p q) 1 0) a (enumerate_from (n + m) w) ≡ fold (λ s q. s + cond (p (n + q.0, q.1)) 1 0) a (enumerate_from m w)
shifted p n m a [] = refl
shifted p n m a (x ∷ w) =
    let next : n + m + 1 ≡ n + (m + 1) = omega arith in
    let b : ℕ = a + cond (p (n + m, x)) 1 0 in
    ap (λ (k : ℕ). fold (λ s q. s + cond (p q) 1 0) b (enumerate_from k w)) next ∙ shifted p n (m + 1) b w

-- numbered and then dropped, as dropped and numbered from there
dropped : (k n : ℕ) (w : List ℕ) → drop k (enumerate_from n w) ≡ enumerate_from (n + k) (drop k w)
dropped zero n w =
    let same : n ≡ n + 0 = omega arith in
    ap (λ (m : ℕ). enumerate_from m w) same
dropped (suc k) n [] = refl
dropped (suc k) n (x ∷ w) =
    let next : n + 1 + k ≡ n + suc k = omega arith in
    dropped k (n + 1) w ∙ ap (λ (m : ℕ). enumerate_from m (drop k w)) next

-- behind the last there are none
none_left : (k : ℕ) (w : List ℕ) → length w ≤ k → drop k w ≡ []
none_left zero [] l = refl
none_left (suc k) [] l = refl
none_left zero (x ∷ w) l = absurd (omega arith)
none_left (suc k) (x ∷ w) l = none_left k w (omega arith)

-- so many words off the pattern, behind an index or behind all where there are fewer, numbered from the first of them
pub off_behind : (w : List ℕ) (from r : ℕ)
    → r ≡ count_by (λ q. not (eqb q.1 (pattern_at (min from (length w) + q.0)))) (enumerate_from 0 (drop (min from (length w)) w)) → r ≡ off_pattern w from
off_behind w from r e =
    let off : ℕ × ℕ → Bool = λ p. not (eqb p.1 (pattern_at p.0)) in
    let k : ℕ = min from (length w) in
    let same : k + 0 ≡ k = omega arith in
    let zero_first : from ≡ 0 + from = omega arith in
    let start : r ≡ count_by off (enumerate_from k (drop k w)) =
    e ∙ sym (shifted off k 0 0 (drop k w)) ∙ ap (λ (n : ℕ). count_by off (enumerate_from n (drop k w))) same in
    start
    ∙ elim (dec_lt from (length w)) [
      | yes l ↦
          rw (min-eq_left {n = from} {m = length w} (omega arith))
          (ap (λ (n : ℕ). count_by off (enumerate_from n (drop from w))) zero_first ∙ ap (count_by off) (sym (dropped from 0 w)))
      | no n ↦
          let l : length w ≤ from = omega arith in
          rw (min-eq_right {n = length w} {m = from} l, none_left (length w) w (omega arith), dropped from 0 w, none_left from w l) refl
    ]
