-- Point 1 of document 02, from the laws of the rule and of the three cases.
use mathlib.Core.Path.{◌≡◌, refl, sym}
use Prim.Native.Nat.{ℕ, zero, suc, ◌≤◌, ◌<◌}
use native.Mathlib.Omega.{arith}
use lib.IntN.{pos, neg_ℤ}
use Rattle.gain.specs.Gains.{entry_of, gain_of}
use Rattle.gain.specs.Promises.{Point1}
use Rattle.gain.proofs.Rule.{largest_of, largest_only, entry_largest, entries_never_rise, entry_is}
use Rattle.gain.proofs.Cases.{with_entry, without_entry, gain_at_most, gain_never_falls}
use Rattle.gain.proofs.entry.Reads as reads

entries : (n : ℕ) → n ≤ 240 → gain_of (neg_ℤ (pos n)) ≡ entry_of n
entries zero h = sym (entry_is 0 32768 refl)
entries (suc k) h = with_entry k h

low : (n : ℕ) → 240 < n → gain_of (neg_ℤ (pos n)) ≡ 0
low zero h = absurd (omega arith)
low (suc k) h = without_entry k h

-- of the code's own list: `entry`, whose contract is read as it stands in the source, may be asked for each n up to 240, and gives what the definition gives
entry_asked : (n : ℕ) → n ≤ 240 → reads.Asked tt (n, tt)
entry_asked n h = h

entry_told : (n r : ℕ) → reads.Learnt tt (n, tt) r (n, tt) → r ≡ entry_of n
entry_told n r l = largest_only n r (entry_of n) l (entry_largest n)

pub point_1 : Point1
point_1 = record {
  rule = entry_largest;
  only = λ n g l. largest_only n g (entry_of n) l (entry_largest n);
  largest = largest_of;
  never_rises = entries_never_rise;
  high = λ n. refl;
  entries = entries;
  low = low;
  within = gain_at_most;
  never_falls = gain_never_falls;
}
