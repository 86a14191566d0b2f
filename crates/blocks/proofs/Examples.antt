-- The worked examples: the definitions compute to them, and so every call of the functions gives them.
use mathlib.Core.Path.{◌≡◌, refl, sym, ap, ◌∙◌}
use mathlib.Core.List.{List, [], ◌∷◌, map}
use Prim.Native.Nat.{ℕ}
use native.Mathlib.Decide.{ℕ_discrete}
use lib.IntN.{ℤ}
use lib.ListN.{length}
use borrow.Author.Tests.{ne_eqb}
use Rattle.history.specs.Minima.{lowest}
use Rattle.std.specs.Prelude.{Result}
use Rattle.history.specs.declared.Refusal.{Refusal}
use Rattle.blocks.specs.Found.{Found}
use Rattle.blocks.specs.Takes.{range_minimum, block_count, block_minima_from, block_minima, search_refusal, told, answering}
use Rattle.blocks.specs.Calls.{Searches}
use Rattle.blocks.specs.Promises.{Fitting}
use Rattle.blocks.specs.Examples.{Search, searched, searches, Index, indexed, indexes, Stretch, stretched, stretches, SearchGives, BuildGives, StretchGives, Each}
use Rattle.blocks.proofs.Indexes.{length_index}
use Rattle.blocks.proofs.Tied.{Built, Searched, Stretched}
use Rattle.blocks.proofs.Functions.{point_3}
use Rattle.blocks.proofs.Tied as tied

-- THE DEFINITIONS WORK THEM OUT
pub searches_worked : map searched searches ≡ searches
unfolding lowest
searches_worked = refl

pub indexes_worked : map indexed indexes ≡ indexes
unfolding lowest block_minima_from
indexes_worked = refl

pub stretches_worked : map stretched stretches ≡ stretches
stretches_worked = refl

-- what a search is told where its index is the take's, if it has as many entries
answers : (values index : List ℤ) (i j : ℕ) (r : Result Found Refusal) → Searches values index i j r → (Fitting values index → index ≡ block_minima values)
    → told r ≡ answering (search_refusal (length values) (length index) i j) (range_minimum values i j)
answers values index i j r d f = elim (ℕ_discrete (length index) (block_count (length values))) [
  | yes n ↦ d.tells ∙ ap (answering (search_refusal (length values) (length index) i j)) (d.choice.correct (f n))
  | no n ↦
      let e : search_refusal (length values) (length index) i j ≡ 15 = simp (ne_eqb (length index) (block_count (length values)) n) in
      d.tells ∙ (simp e)
]

search_gives : (e : Search) → searched e ≡ e → SearchGives Searched e
search_gives e w index r q n f =
    answers e.values index e.i e.j r (tied.searches e.values index e.i e.j r q) f
    ∙ ap (λ (m : ℕ). answering (search_refusal (length e.values) m e.i e.j) (range_minimum e.values e.i e.j)) n
    ∙ ap (λ (x : Search). x.tells) w

build_gives : (e : Index) → indexed e ≡ e → BuildGives Built e
build_gives e w before after r q n =
    let long : length e.entries ≡ block_count (length e.values) = sym (ap (λ (x : Index). length x.entries) w) ∙ length_index e.values in
    let b = (point_3.building e.values before after r q).writes (n ∙ long) in
    (b.0, b.1 ∙ ap (λ (x : Index). x.entries) w)

stretch_gives : (e : Stretch) → stretched e ≡ e → StretchGives Stretched e
stretch_gives e w at start part q = (tied.stretches at e.values e.i e.j start part q).has ∙ ap (λ (x : Stretch). x.part) w

-- each of a list that the definitions work out
pub each : {E : Type 0} (worked : E → E) (Gives : E → Type 0) → ((e : E) → worked e ≡ e → Gives e) → (es : List E) → map worked es ≡ es → Each Gives es
each worked Gives g [] w = tt
each worked Gives g (e ∷ es) w =
    let here : worked e ≡ e = cc in
    let rest : map worked es ≡ es = cc in
    (g e here, each worked Gives g es rest)

-- THE EXAMPLES, by every call of the functions
pub searches_given : Each (SearchGives Searched) searches
searches_given = each searched (SearchGives Searched) search_gives searches searches_worked

pub indexes_given : Each (BuildGives Built) indexes
indexes_given = each indexed (BuildGives Built) build_gives indexes indexes_worked

pub stretches_given : Each (StretchGives Stretched) stretches
stretches_given = each stretched (StretchGives Stretched) stretch_gives stretches stretches_worked
