-- The examples of `history Examples` come out in every run of the engine: by demand 3 it tells what the bookkeeper tells, and that computes to them.
use mathlib.Core.Path.{◌≡◌, ap, ◌∙◌}
use mathlib.Core.List.{List, [], ◌∷◌, map}
use Prim.Native.Nat.{ℕ}
use Rattle.history.specs.declared.Session.{Session}
use Rattle.history.specs.declared.Command.{Command}
use Rattle.history.specs.Histories.{opening, model}
use Rattle.history.specs.Examples.{Example, worked, AllWorked, examples}
use Rattle.history.proofs.Worked.{examples_worked}
use Rattle.runs.specs.Lists.{replies_of, commands_of}
use Rattle.runs.proofs.Lists.{each_call, told_all}
use Rattle.engine.specs.Demand.{Meets}
use Rattle.engine.specs.Consequences.{AlwaysGives, AllGiven}
use Rattle.engine.proofs.Tied.{Opened, Called}
use Rattle.engine.proofs.Functions.{demand_3}

-- an example that the bookkeeper works out is given by every run
gives : (e : Example) → worked e ≡ e → AlwaysGives Opened Called e
gives e w first left o calls n q m cs l =
    let d = demand_3 first left o calls q m in
    record {
      opens = d.0.tells ∙ ap (λ (k : ℕ). (opening k).tells) n ∙ ap (λ (x : Example). x.opens) w;
      limit = ap (λ (s : Session). s.limit) d.0.session ∙ ap (λ (k : ℕ). (opening k).history.limit) n ∙ ap (λ (x : Example). x.limit) w;
      tells = told_all model _ e.words first left _ calls (each_call model (Meets _ first) _ (λ now h later c x. x.agrees) _ left _ calls d.1) l
          ∙ ap (λ (k : ℕ). replies_of model (opening k).history e.words (commands_of model calls)) n
          ∙ ap (λ (x : List Command). replies_of model (opening e.words).history e.words x) cs
          ∙ ap (λ (x : Example). x.tells) w;
    }

gives_all : (es : List Example) → AllWorked es → AllGiven Opened Called es
gives_all [] w = tt
gives_all (e ∷ es) w =
    let here : worked e ≡ e = cc in
    let rest : map worked es ≡ es = cc in
    (gives e here, gives_all es rest)

-- THE EXAMPLES, by every run of the engine
pub examples_given : AllGiven Opened Called examples
examples_given = gives_all examples examples_worked
