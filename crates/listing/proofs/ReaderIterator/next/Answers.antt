-- `Reader::next` meets its contract: a request is read, and then those behind it; or none is.
use borrow.Author.Rules.{rules}
use mathlib.Core.Path.{◌≡◌, sym, ap}
use Prim.Native.Nat.{suc, ◌+◌}
use lib.ListN.{length}
use Rattle.listing.specs.Input.{requests_behind}
use Rattle.listing.proofs.Requests.{behind_more, behind_none}
use Rattle.listing.proofs.ReaderIterator.next.Goals as goal

pub returns-in_err-request-clause-steps : goal.returns-in_err-request-clause-steps
returns-in_err-request-clause-steps c =
    let s = c.args.self.now in
    let e = behind_none s.bytes.now s.at (sym c.in_err-request.ensures) in
    rw c.from_residual.ensures (e, e)

pub returns-clause-steps : goal.returns-clause-steps
returns-clause-steps c = behind_more c.args.self.now.bytes.now c.args.self.now.at (sym c.in_ok-request.ensures)

pub returns-clause-goes : goal.returns-clause-goes
returns-clause-goes c =
    let s = c.args.self.now in
    let e : length (requests_behind s.at s.bytes.now) ≡ suc (length (requests_behind (s.at + 13) s.bytes.now)) = ap length (behind_more s.bytes.now s.at (sym c.in_ok-request.ensures)) in
    search rules
