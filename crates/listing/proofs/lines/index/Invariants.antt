-- `listing::lines::index` meets its contract. The loop's invariant: the word and the entries so far are put, each entry in twelve bytes at most.
use Prim.Native.Nat.{◌+◌, ◌*◌, ◌≤◌}
use mathlib.Core.List.{◌∷◌}
use lib.ListN.{take}
use Rattle.text.specs.Pages.{Puts}
use Rattle.listing.specs.Lines.{values_text}
use Rattle.listing.proofs.lines.index.Given as goal

abbrev pub invariant-loop-entry : goal.invariant-loop-entry
invariant-loop-entry l =
    Puts l.fn.page (105 ∷ 110 ∷ 100 ∷ 101 ∷ 120 ∷ values_text (take l.entry-index l.entries)) l.page × (l.page.used ≤ l.fn.page.used + 5 + 12 * l.entry-index)
