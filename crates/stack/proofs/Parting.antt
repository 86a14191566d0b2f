-- Where a word parts the entries of a stack, whose words do not fall: the entry at a place is above it, and the one before that is not.
use mathlib.Core.Path.{◌≡◌, sym}
use mathlib.Core.Bool.{true, false}
use mathlib.Core.List.{List}
use Prim.Native.Nat.{ℕ, ◌+◌, ◌-◌}
use native.Mathlib.Omega.{arith}
use borrow.Author.Tests.{ltb-true, ltb-false}
use Rattle.layout.specs.declared.Place.{Place}
use Rattle.layout.specs.declared.Lane.{Lane}
use Rattle.layout.specs.Words.{Under, NotAbove, word}
use Rattle.stack.specs.Private.{is_above, Parted}
use Rattle.stack.proofs.Rises.{rises}

pub parted : {w : List ℕ} {k : Lane} {height : Place} {x : ℕ} {r : Place} → NotAbove r height → (Under r height → true ≡ is_above w k x r)
    → ((n : ℕ) → n + 1 ≡ r.0 → false ≡ is_above w k x (record { 0 = n })) → Parted w k height x r
parted {w} {k} {height} {x} {r} l here before = record {
  within = l;
  right = λ s.
      let up = rises {a = λ n. word w k n 4} {top = height.0} (λ n. s (record { 0 = n })) in
      record {
        stay = λ u m. omega (arith, up u.0 (r.0 - 1) (omega arith) (omega arith), ltb-false _ _ (sym (before (r.0 - 1) (omega arith))));
        go = λ u m h. omega (arith, up r.0 u.0 m h, ltb-true _ _ (sym (here (omega arith))));
      };
}
