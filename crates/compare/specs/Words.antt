-- How many words were changed. Document 01: "In each refusal .. the area is untouched", and "A word is as lent when it equals what it held just before the opening."
use Rattle.std.specs.Prelude.{◌≡◌, not, List, ℕ, ◌-◌, ◌<◌, eqb, length, get_or, drop}
use Rattle.std.specs.List.{count_by, zip, enumerate_from}

-- at how many indices the words of two areas differ: 0 where "the area is untouched"
abbrev pub differing_words : List ℕ → List ℕ → ℕ
differing_words a b = count_by (λ w. not (eqb w.0 w.1)) (zip a b)

-- the word that an area is filled with at an index, before a run
abbrev pub pattern_at : ℕ → ℕ
pattern_at i = 18446744073709551615 - i

-- an area of the same length that holds the pattern
pub record Filled (before after : List ℕ) : Type 0 where
  pub long : length after ≡ length before
  pub holds : (i : ℕ) → i < length after → get_or after i 0 ≡ pattern_at i

-- how many words from an index on do not hold the pattern: 0 where each "equals what it held just before the opening"
abbrev pub off_pattern : List ℕ → ℕ → ℕ
off_pattern w from = count_by (λ p. not (eqb p.1 (pattern_at p.0))) (drop from (enumerate_from 0 w))
