-- What a search answers, as its contract has it: the refusal that is due, and else what is found.
use mathlib.Core.Path.{◌≡◌, refl, ap, ◌∙◌}
use mathlib.Core.List.{List}
use Prim.Native.Nat.{ℕ, ◌+◌}
use native.Mathlib.Omega.{arith}
use lib.IntN.{ℤ}
use lib.ListN.{length}
use borrow.Author.Tests.{ne_eqb}
use Rattle.std.specs.Prelude.{Ok, Err}
use Rattle.history.specs.declared.Refusal.{Refusal}
use Rattle.history.specs.Replies.{numbered, number_of}
use Rattle.history.proofs.Steps.{some_number}
use Rattle.blocks.specs.Found.{Found}
use Rattle.blocks.specs.Takes.{Told, range_minimum, search_refusal}
use Rattle.blocks.specs.Calls.{Searches}
use Rattle.blocks.specs.Private.{Covers}

module _ (values index : List ℤ) (i j : ℕ) where
  pub refused : (why : Refusal) → number_of why ≡ search_refusal (length values) (length index) i j → Searches values index i j (Err why)
  refused why e =
      let n : search_refusal (length values) (length index) i j ≡ 0 → ⊥ = λ z. some_number why (e ∙ z) in
      record {
        shows = range_minimum values i j;
        choice = record { inside = λ q. absurd (n q); correct = λ _. refl };
        tells = simp (ne_eqb (search_refusal (length values) (length index) i j) 0 n) (ap {B = Told} numbered e);
      }

  pub found : (f : Found) → search_refusal (length values) (length index) i j ≡ 0 → Covers values index i (j + 1) f → Searches values index i j (Ok f)
  found f r c = record { shows = f; choice = record { inside = λ _. (c.from, omega (arith, c.to)); correct = c.correct }; tells = simp r }
