-- The worked examples: the definitions compute to them, and so every call of the function gives them.
use mathlib.Core.Path.{◌≡◌, refl, ap, ◌∙◌}
use mathlib.Core.List.{map}
use Rattle.history.specs.Minima.{lowest}
use Rattle.blocks.specs.Takes.{block_minima_from}
use Rattle.blocks.specs.Examples.{Each}
use Rattle.blocks.proofs.Examples.{each}
use Rattle.rough.specs.Looks.{up_from}
use Rattle.rough.specs.Examples.{Rough, roughed, readings, ordered, orders, Gives, full_count}
use Rattle.rough.proofs.Tied.{Read, reads}

-- THE DEFINITIONS WORK THEM OUT
pub readings_worked : map roughed readings ≡ readings
unfolding lowest block_minima_from up_from
readings_worked = refl

pub orders_worked : map ordered orders ≡ orders
unfolding up_from
orders_worked = refl

pub full_count_worked : full_count ≡ 80
unfolding up_from
full_count_worked = refl

-- THE EXAMPLES, by every call of the function
gives : (e : Rough) → roughed e ≡ e → Gives Read e
gives e w r d = reads e.values e.index e.i e.j e.budget r d ∙ ap (λ (x : Rough). x.tells) w

pub readings_given : Each (Gives Read) readings
readings_given = each roughed (Gives Read) gives readings readings_worked
