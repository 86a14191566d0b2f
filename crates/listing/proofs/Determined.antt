-- Without a `set` there is no choice. Building leaves the take's index, over which each search finds the least by its contract; or it is refused, since the index has another length, and then
-- each search is refused with 15 and shows nothing.
use mathlib.Core.Path.{◌≡◌, refl, sym, ap, ◌∙◌}
use mathlib.Core.Bool.{true≢false, Bool, true, false, cond}
use mathlib.Core.List.{List, [], ◌∷◌, ◌++◌, map}
use Prim.Native.Nat.{ℕ, ◌+◌}
use lib.Dec.{eqb}
use lib.IntN.{ℤ}
use lib.ListN.{length}
use Rattle.history.specs.Replies.{numbered}
use Rattle.blocks.specs.Found.{Found}
use Rattle.blocks.specs.Takes.{Told, range_minimum, block_count, block_minima, search_refusal, build_refusal, answering, built}
use Rattle.blocks.specs.Calls.{Choice}
use Rattle.text.specs.Stops.{stop_lines}
use Rattle.listing.specs.declared.Request.{Request}
use Rattle.listing.specs.declared.Request.TheVariants.{Search, Stretch, Rough, Set}
use Rattle.listing.specs.Lines.{no_take_line, build_line, index_line, search_line, end_line}
use Rattle.listing.specs.Input.{take_of, no_take, requests_of, end_of, left_of}
use Rattle.listing.specs.Output.{filled_of, built_of, request_line, request_lines, read_of}
use Rattle.listing.specs.Choices.{AllAllowed, least_for, NoSet, Determined}

-- an index that leaves a search no choice: if its length is the number of blocks, it is the take's
abbrev Settled : (values index : List ℤ) → Type 0
Settled values index = eqb (length index) (block_count (length values)) ≡ true → index ≡ block_minima values

-- such is an index as building leaves it
settled_built : (values before : List ℤ) → Settled values (built values before)
settled_built values before = go (eqb (length before) (block_count (length values))) refl
  where
    go : (b : Bool) → eqb (length before) (block_count (length values)) ≡ b
        → eqb (length (cond b (block_minima values) before)) (block_count (length values)) ≡ true → cond b (block_minima values) before ≡ block_minima values
    go true e t = refl
    go false e t = absurd (true≢false (sym t ∙ e))

-- what a search over such an index is told
search_told : (values index : List ℤ) (i j : ℕ) (f : Found) → Settled values index → Choice values index i j f
    → answering (search_refusal (length values) (length index) i j) f ≡ answering (search_refusal (length values) (length index) i j) (range_minimum values i j)
search_told values index i j f s c = go (eqb (length index) (block_count (length values))) refl
  where
    go : (b : Bool) → eqb (length index) (block_count (length values)) ≡ b
        → answering (search_refusal (length values) (length index) i j) f ≡ answering (search_refusal (length values) (length index) i j) (range_minimum values i j)
    go true e = ap (answering (search_refusal (length values) (length index) i j)) (c.correct (s e))
    go false e = rw e

-- and so the lines of requests that do not alter it
lines_determined : (values index : List ℤ) (n : ℕ) (rs : List Request) (fs : List Found) → Settled values index → NoSet rs → AllAllowed values index rs fs
    → request_lines values index n rs fs ≡ request_lines values index n rs (map (least_for values) rs)
lines_determined values index n [] [] s u a = refl
lines_determined values index n [] (f ∷ fs) s u a = absurd a
lines_determined values index n (r ∷ rs) [] s u a = absurd a
lines_determined values index n (Search i j ∷ rs) (f ∷ fs) s u a =
    ap (λ (t : Told). search_line n t ++ request_lines values index (n + 1) rs fs) (search_told values index i j f s a.0)
    ∙ ap (λ (x : List ℕ). request_line values index n (Search i j) (range_minimum values i j) ++ x) (lines_determined values index (n + 1) rs fs s u a.1)
lines_determined values index n (Stretch i j ∷ rs) (f ∷ fs) s u a =
    ap (λ (x : List ℕ). request_line values index n (Stretch i j) f ++ x) (lines_determined values index (n + 1) rs fs s u a.1)
lines_determined values index n (Rough i j budget ∷ rs) (f ∷ fs) s u a =
    ap (λ (x : List ℕ). request_line values index n (Rough i j budget) f ++ x) (lines_determined values index (n + 1) rs fs s u a.1)
lines_determined values index n (Set e v ∷ rs) (f ∷ fs) s u a = absurd u

-- THERE IS NO CHOICE WITHOUT A `set`
pub determined : Determined
determined bytes text u p =
    let b : List ℕ = read_of bytes in
    p.says
    ∙ ap (λ (lines : List ℕ). cond (no_take b) no_take_line
    (build_line (numbered (build_refusal (length (take_of b)) (length (filled_of b))))
    ++ (index_line (built_of b) ++ (lines ++ (stop_lines (left_of b) (end_of b) ++ end_line (length (requests_of b)))))))
    (lines_determined (take_of b) (built_of b) 1 (requests_of b) p.found (settled_built (take_of b) (filled_of b)) u p.allowed)
