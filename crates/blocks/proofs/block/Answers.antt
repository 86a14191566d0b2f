-- `blocks::block` meets its contract: 64 values of the take, or what is left of it.
use Rattle.std.proofs.Common.{◌≡◌, ◌*◌, ◌-◌, length, ℕ, ap, ◌∙◌, arith, List, take, drop, length-drop}
use Prim.Native.Nat.{min}
use lib.IntN.{ℤ}
use Rattle.std.proofs.lemmas.List.{take_min}
use Rattle.blocks.proofs.block.Goals as goal

pub returns : goal.returns
returns c =
    let rest : List ℤ = drop (64 * c.args.b) c.args.take.now in
    let q : c.min.result - 64 * c.args.b ≡ min 64 (length rest) = omega (arith, c.min.ensures, length-drop (64 * c.args.b) c.args.take.now) in
    ap (λ (k : ℕ). take k rest) q ∙ take_min 64 rest
