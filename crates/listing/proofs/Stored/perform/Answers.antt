-- `Stored::perform` meets its contract: each arm knows the request. A `set` past the end of the index sets nothing, in the code as in the definition.
use borrow.Author.Rules.{rules}
use mathlib.Core.Path.{◌≡◌, sym, ap, ◌∙◌}
use mathlib.Core.List.{List}
use Prim.Native.Nat.{ℕ}
use native.Mathlib.Omega.{arith}
use lib.IntN.{ℤ}
use lib.ListN.{set}
use lib.Seq.{set_out}
use mir.Syntax.{w32}
use mir.Val.{SFits}
use mir.Facts.{to_z-of_z}
use Rattle.listing.specs.declared.Stored.{Stored}
use Rattle.listing.proofs.Requests.{stretched, looked, entered}
use Rattle.listing.proofs.Stored.perform.Goals as goal
use Rattle.listing.proofs.Stored.perform.Goals.{Joined-entry-self, then-entry-self, else-entry-self}

pub returns-in-Stretch-clause-performs : goal.returns-in-Stretch-clause-performs
returns-in-Stretch-clause-performs c =
    stretched {stored = c.args.self.now} {part = c.stretch.result.now} c.in-Stretch.is c.stretch.ensures.has c.stretch-in-Stretch.ensures.text

pub returns-in-Rough-clause-performs : goal.returns-in-Rough-clause-performs
returns-in-Rough-clause-performs c = looked {stored = c.args.self.now} c.in-Rough.is (rw c.entries-in-Rough.ensures at c.read.ensures) c.rough.ensures.text

-- the number is one of 32 bits
fits : (c : Joined-entry-self) → SFits w32 c.in-Set.value
fits c = search rules

-- the entry is the index's, or there is none
altered : (c : Joined-entry-self) → c.if-entry-self.self.index.now ≡ set c.args.self.now.index.now c.in-Set.entry c.in-Set.value
altered c =
    let index : List ℤ = c.args.self.now.index.now in
    let entry : ℕ = c.in-Set.entry in
    let v : ℤ = c.in-Set.value in
    elim c.if-entry-self.branch [
      | then-entry-self w ↦ ap (λ (s : Stored). s.index.now) w.self-is ∙ ap (set index entry) (to_z-of_z (fits c))
      | else-entry-self w ↦ ap (λ (s : Stored). s.index.now) w.self-is ∙ sym (set_out index entry v (omega (arith, w.if-entry-self.false)))
    ]

pub returns-after-entry-self-clause-performs : goal.returns-after-entry-self-clause-performs
returns-after-entry-self-clause-performs c =
    entered {stored = c.args.self.now} c.in-Set.is (search rules) (altered (goal.at.returns-after-entry-self-clause-performs c).Joined-entry-self) c.set.ensures.text
