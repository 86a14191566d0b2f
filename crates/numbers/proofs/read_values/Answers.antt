use Rattle.std.proofs.Common.{ap, ◌∙◌, arith, ℕ}
use Rattle.std.proofs.Math.Facts.{to_z-of_z}
use borrow.Author.Rules.{sfits_of}
use mir.Syntax.{w32}
use Rattle.numbers.specs.FourBytes.{values_from}
use Rattle.numbers.proofs.Values.{values_none, values_set, values_all}
use Rattle.numbers.proofs.read_values.Goals as goal

pub loop-i-init : goal.loop-i-init
loop-i-init c = values_none _ _

pub loop-i-preserved : goal.loop-i-preserved
loop-i-preserved c =
    let v = to_z-of_z {w = w32} (sfits_of c.value_at.type_inv) ∙ c.value_at.ensures in
    rw v (values_set c.loop-i.values c.loop-i.i c.args.at c.args.bytes.now (omega arith) c.loop-i.invariant)

pub returns : goal.returns
returns c =
    values_all c.loop-i.values c.loop-i.i c.args.at c.args.bytes.now c.loop-i.invariant (omega arith)
    ∙ ap (λ (n : ℕ). values_from n c.args.at c.args.bytes.now) (omega arith)
