-- The worked examples: the paper computes to them, and so, by the claim over a list, does every run of the functions.
use mathlib.Core.Path.{◌≡◌, refl, ap, ◌∙◌}
use mathlib.Core.List.{List, [], ◌∷◌, map}
use Prim.Native.Nat.{ℕ}
use lib.IntN.{ℤ}
use Rattle.history.specs.Minima.{lowest}
use Rattle.runs.specs.Lists.{replies_of, commands_of}
use Rattle.runs.proofs.Lists.{each_call, told_all}
use Rattle.window.specs.Windows.{opening, model}
use Rattle.window.specs.Claim.{Meets}
use Rattle.window.specs.Examples.{Example, worked, AllWorked, examples, AlwaysGives, AllGiven}
use Rattle.window.proofs.Tied.{Opened, Valued}
use Rattle.window.proofs.Functions.{every_run}

-- THE PAPER WORKS THEM OUT
pub examples_worked : AllWorked examples
unfolding lowest
examples_worked = refl

-- an example that the paper works out is given by every run
gives : (e : Example) → worked e ≡ e → AlwaysGives Opened Valued e
gives e w first left o calls n q m cs l =
    let d = every_run e.width first left o calls q m in
    record {
      opens = d.0.tells ∙ ap (λ (k : ℕ). (opening k e.width).tells) n ∙ ap (λ (x : Example). x.opens) w;
      tells = told_all model _ e.words first left _ calls (each_call model (Meets _ first) _ (λ now p later c x. x.agrees) _ left _ calls d.1) l
          ∙ ap (λ (k : ℕ). replies_of model (opening k e.width).paper e.words (commands_of model calls)) n
          ∙ ap (λ (x : List ℤ). replies_of model (opening e.words e.width).paper e.words x) cs
          ∙ ap (λ (x : Example). x.tells) w;
    }

gives_all : (es : List Example) → AllWorked es → AllGiven Opened Valued es
gives_all [] w = tt
gives_all (e ∷ es) w =
    let here : worked e ≡ e = cc in
    let rest : map worked es ≡ es = cc in
    (gives e here, gives_all es rest)

-- THE EXAMPLES, by every run of the functions
pub examples_given : AllGiven Opened Valued examples
examples_given = gives_all examples examples_worked
