-- Steps of point 5 of the engine, of any run: what a Query is told, and the least value that is shown. `Earliest` states both too, and takes them from here, so that no statement there rests on another.
use mathlib.Core.Path.{◌≡◌, refl}
use mathlib.Core.List.{List}
use Rattle.std.specs.Prelude.{Some}
use Prim.Native.Nat.{ℕ}
use lib.ListN.{length}
use Rattle.history.specs.declared.Position.{Position}
use Rattle.history.specs.Minimum.{Minimum}
use Rattle.history.specs.declared.Session.{Session}
use Rattle.history.specs.declared.Command.TheVariants.{Query}
use Rattle.engine.specs.Answers.{Answer}
use Rattle.history.specs.Minima.{Least}
use Rattle.history.specs.Replies.{told}
use Rattle.history.specs.Histories.{History}
use Rattle.engine.specs.Consequences.{Reached, Replied}
use Rattle.engine.proofs.Tied.{Opened, Called}
use Rattle.engine.proofs.Plain.{every_run}

module _ (first words : List ℕ) (h : History) (s : Session) (run : Reached Opened Called first s words h) where
  module _ (i : Position) (lent left : List ℕ) (a : Answer) (own : (h.words ≡ 0 → ⊥) → length lent ≡ h.words → lent ≡ words) (call : Called s (Query i) lent left a) where
    pub replied : Replied h (Query i) lent left (told a.reply)
    replied = every_run.replies first words h s run (Query i) lent left a own call

    pub least : (m : Minimum) → (told a.reply).shown ≡ Some m → Least h.values i m
    least m shows = (replied.only_least i m refl shows).1
