-- `stack::push` meets its contract: the top is the last entry below the height, and only where there is none, or it has another word, is there an entry more. Here the top has the word.
use Rattle.std.proofs.Common.{arith}
use Rattle.std.proofs.lemmas.Bool.Decides.{nat_tests}
use mathlib.Core.Path.{refl, ap}
use Prim.Native.Nat.{ℕ, ◌-◌}
use Rattle.layout.specs.Words.{Under, bottom}
use Rattle.stack.proofs.push.Goals as goal

pub returns-then-area-least : goal.returns-then-area-least
returns-then-area-least c =
    let height = c.args.e.height in
    let some : Under bottom height = grind (arith, nat_tests) in
    record {
      idle = λ f. (refl, refl);
      joins = λ t e q. (refl, refl);
      raises = λ o f. absurd (f (record { 0 = height.0 - 1 }) (ap (λ (n : ℕ). record { 0 = n }) (omega arith)) (let q = rw c.least.ensures at c.if-area-least.true in omega (arith, q)));
    }
