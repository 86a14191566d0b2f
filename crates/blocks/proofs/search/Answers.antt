-- `blocks::search` meets its contract, of the refusal that is due and of what is found.
use Rattle.std.proofs.lemmas.Result.{err_from_is_err_and}
use Rattle.blocks.proofs.Answers.{refused}
use Rattle.blocks.proofs.search.Goals as goal

pub returns-in_err-due : goal.returns-in_err-due
returns-in_err-due c =
    let a = c.args in
    let p = err_from_is_err_and c.from_residual.result c.from_residual.ensures.1 in
    rw (p.1, p.2) (refused a.take.now a.index.now a.i a.j c.in_err-due.field-0.0 c.in_err-due.ensures)
