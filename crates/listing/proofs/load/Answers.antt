-- `listing::load` meets its contract: the values that are read are the input's, and the index is filled with −1.
use mathlib.Core.Path.{◌≡◌, ap, ◌∙◌}
use mathlib.Core.List.{List}
use Prim.Native.Nat.{ℕ, ◌+◌, ◌*◌}
use native.Mathlib.Omega.{arith}
use lib.IntN.{ℤ, pos, negsuc}
use lib.ListN.{length, take, replicate, length-take, length-replicate}
use Rattle.numbers.specs.FourBytes.{values_from}
use Rattle.listing.proofs.Whole.{take_replicate}
use Rattle.listing.proofs.load.Goals as goal

pub run-requires-clause-holds : goal.run-requires-clause-holds
run-requires-clause-holds c =
    let h = c.requires.headed in
    let bytes : List ℕ = c.args.input.bytes.now in
    let n : ℕ = c.args.heading.values in
    let m : ℕ = c.args.heading.entries in
    let room : length {A = ℤ} (take n (replicate 8192 (pos 0))) ≡ n = simp (length-take, length-replicate) (omega (arith, h.most)) in
    let index : take m (replicate 256 (negsuc 0)) ≡ replicate m (negsuc 0) = take_replicate 256 m (negsuc 0) h.few in
    record {
      some = h.some;
      begins = ap (λ (k : ℕ). 8 + 4 * k) h.values;
      within = omega (arith, h.values, h.within);
      taken = c.read_values.ensures ∙ ap (λ (k : ℕ). values_from k 4 bytes) (room ∙ h.values);
      filled = index ∙ ap (λ (k : ℕ). replicate k (negsuc 0)) h.entries;
      few = rw index (omega (arith, length-replicate m (negsuc 0), h.few));
    }
