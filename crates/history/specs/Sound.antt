-- What holds of every history that an opening and commands lead to. It is said of the paper alone, and nobody has to believe it: proofs/Soundness shows that it holds
-- after an opening and that every step keeps it.
use Rattle.std.specs.Prelude.{◌≡◌, List, [], ◌∷◌, ℕ, ◌+◌, ◌*◌, ◌-◌, ◌<◌, ◌≤◌, length}
use Rattle.history.specs.declared.Position.{Position}
use Rattle.history.specs.declared.Standing.TheVariants.{Unmarked}
use Rattle.history.specs.Histories.{History}

-- positions that rise, each after `from` and none after `to`
pub data Rising : (from to : ℕ) → List Position → Type 0 where
  done : {from to : ℕ} → from ≤ to → Rising from to []
  then : {from to : ℕ} {a : Position} {rest : List Position} → from < a.0 → Rising a.0 to rest → Rising from to (a ∷ rest)

pub record Sound (h : History) : Type 0 where
  -- K is at most 4,096, and so many marks' words are in an area that was opened
  pub few : h.limit ≤ 4096
  pub wide : (h.words ≡ 0 → ⊥) → 512 + 64 * h.limit ≤ h.words
  -- no more marks are active than ever were, nor were there ever more than K
  pub peaked : length h.active ≤ h.peak
  pub limited : h.peak ≤ h.limit
  -- the active marks stand at positions from 1 to the present one, in ascending order
  pub rising : Rising 0 (length h.values) h.active
  -- where the present position is unmarked there is one, and it is not among them
  pub some : h.standing ≡ Unmarked → 0 < length h.values
  pub fresh : h.standing ≡ Unmarked → Rising 0 (length h.values - 1) h.active
