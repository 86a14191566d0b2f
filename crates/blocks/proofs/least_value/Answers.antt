use Rattle.std.proofs.Common.{rules, tests, ◌∙◌, pos, get_or, w32}
use Rattle.std.proofs.lemmas.Iterator.{YieldsList-from_slice}
use Rattle.std.proofs.lemmas.Iterator.Consumers.{fold_from_yields_List}
use borrow.Author.Rules.{sfits_of}
use mir.Facts.{to_z-of_z}
use mir.Val.{SFits}
use Rattle.blocks.proofs.Scanning.{step, folded}
use Rattle.blocks.proofs.least_value.Goals as goal

pub returns : goal.returns
returns c =
    let vs = c.args.values.now in
    let fits : SFits w32 (get_or vs 0 (pos 0)) = search rules in
    to_z-of_z {w = w32} (sfits_of c.fold.type_inv)
    ∙ fold_from_yields_List _ step _ c.fold.result c.fold.ensures.ran (YieldsList-from_slice vs cc) (λ a x b q k. search (rules, tests))
    ∙ rw (to_z-of_z fits) (folded vs c.requires)
