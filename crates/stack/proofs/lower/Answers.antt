-- `stack::lower` meets its contract. With no room nothing is done.
use mathlib.Core.Path.{refl}
use native.Mathlib.Omega.{arith}
use Rattle.stack.proofs.lower.Goals as goal

pub returns-then-not-has_room : goal.returns-then-not-has_room
returns-then-not-has_room c =
    let no = c.has_room.ensures.no c.if-not-has_room.true in
    record {
      idle = λ f. (refl, refl);
      at = c.args.e.height;
      within = omega arith;
      none = λ l. (refl, refl);
      some = λ o l. absurd (no o);
      right = λ a o. absurd (no o);
    }
