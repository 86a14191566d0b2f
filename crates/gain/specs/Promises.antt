-- Document 02, point 1: what holds of the entries and the gains that Gains defines. The theorem is `point_1` of proofs/Point.
use Rattle.std.specs.Prelude.{◌≡◌, true, ℕ, ◌≤◌, ◌<◌, ℤ, pos, neg_ℤ, ◌≤ℤ◌}
use Rattle.gain.specs.Gains.{fits, Largest, entry_of, gain_of}

-- the clauses on entries hold for every n, of which the list has those up to 240
pub record Point1 : Type 0 where
  -- "The list's rule holds for each entry", and for no other number. Of the constant list GAINS in src/lib.rt it is the promise of `entry` there.
  pub rule : (n : ℕ) → Largest n (entry_of n)
  pub only : (n g : ℕ) → Largest n g → g ≡ entry_of n
  -- "the largest whole g with g^80 × 10^n at most 32,768^80": whatever fits is at most g
  pub largest : (n g h : ℕ) → Largest n g → fits n h ≡ true → h ≤ g
  -- "the gains never rise as n grows"
  pub never_rises : (n m : ℕ) → n ≤ m → entry_of m ≤ entry_of n
  -- "A dip value of 0 or more gets 32,768; a value −n down to −240 gets entry n; anything lower gets 0." 0 is both 0 or more and −n with n = 0.
  pub high : (n : ℕ) → gain_of (pos n) ≡ 32768
  pub entries : (n : ℕ) → n ≤ 240 → gain_of (neg_ℤ (pos n)) ≡ entry_of n
  pub low : (n : ℕ) → 240 < n → gain_of (neg_ℤ (pos n)) ≡ 0
  -- "a gain from 0 to 32,768"
  pub within : (v : ℤ) → gain_of v ≤ 32768
  -- over all values, the gain never falls as the value grows
  pub never_falls : (v w : ℤ) → v ≤ℤ w → gain_of v ≤ gain_of w
