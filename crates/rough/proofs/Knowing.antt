-- What the looks that are used make known, in other words: the high figure is one of it and at most each of it.
use mathlib.Core.Path.{◌≡◌, refl, sym, ap, ◌∙◌}
use mathlib.Core.Bool.{Bool, true, false, cond, true≢false}
use mathlib.Core.List.{List, [], ◌∷◌}
use Rattle.std.specs.List.{filter_map, cons_option}
use mathlib.Core.Logic.{inl, inr}
use Rattle.std.specs.Prelude.{Option, None, Some}
use Rattle.std.proofs.lemmas.Option.{none-some}
use Rattle.rough.proofs.Sequences.{same_some}
use Prim.Native.Nat.{ℕ, zero, suc, ◌<◌, ◌≤◌}
use native.Mathlib.Omega.{arith}
use lib.IntN.{ℤ, pos}
use lib.Signed.{le_z}
use lib.ListN.{length, get_or, take}
use Rattle.rough.specs.Looks.{Look, Entry, Value, looks, looks_used, wholly_inside, known_from, high_after}
use Rattle.rough.specs.Promises.{Partly, Among, MakesKnown, read_by}
use Rattle.rough.proofs.Bounds.{least_under, least_one, least_exists}
use Rattle.rough.proofs.Listed.{every_look, partly, not_whole}

-- what is kept of some looks: each that is kept stands in the list, and each of the list is kept of a look
module _ (f : Look → Option ℤ) where
  kept_at : (ls : List Look) (look : Look) (x : ℤ) → Among look ls → f look ≡ Some x → (t : ℕ) × (t < length (filter_map f ls)) × (get_or (filter_map f ls) t (pos 0) ≡ x)
  kept_at [] look x m e = elim m [ ]
  kept_at (l ∷ ls) look x (inl q) e = here (f l) (sym (ap f q) ∙ e)
    where
      here : (o : Option ℤ) → o ≡ Some x
          → (t : ℕ) × (t < length (cons_option o (filter_map f ls))) × (get_or (cons_option o (filter_map f ls)) t (pos 0) ≡ x)
      here None e = absurd (none-some x e)
      here (Some y) e = (0, omega arith, same_some y x e)
  kept_at (l ∷ ls) look x (inr m) e = later (f l) (kept_at ls look x m e)
    where
      later : (o : Option ℤ) → (t : ℕ) × (t < length (filter_map f ls)) × (get_or (filter_map f ls) t (pos 0) ≡ x)
          → (t : ℕ) × (t < length (cons_option o (filter_map f ls))) × (get_or (cons_option o (filter_map f ls)) t (pos 0) ≡ x)
      later None r = r
      later (Some y) r = (suc r.0, omega (arith, r.1), r.2)

  kept_of : (ls : List Look) (t : ℕ) → t < length (filter_map f ls) → (look : Look) × Among look ls × (f look ≡ Some (get_or (filter_map f ls) t (pos 0)))
  kept_of [] t h = absurd (omega (arith, h))
  kept_of (l ∷ ls) t h = go (λ s g. let r = kept_of ls s g in (r.0, inr r.1, r.2)) (f l) refl t h
    where
      go : ((s : ℕ) → s < length (filter_map f ls) → (look : Look) × Among look (l ∷ ls) × (f look ≡ Some (get_or (filter_map f ls) s (pos 0)))) → (o : Option ℤ) → f l ≡ o → (t : ℕ)
          → t < length (cons_option o (filter_map f ls))
          → (look : Look) × Among look (l ∷ ls) × (f look ≡ Some (get_or (cons_option o (filter_map f ls)) t (pos 0)))
      go behind None e t h = behind t h
      go behind (Some y) e zero h = (l, inl refl, e)
      go behind (Some y) e (suc t) h = behind t (omega (arith, h))

-- the first of a list are among all
among_first : (look : Look) (k : ℕ) (ls : List Look) → Among look (take k ls) → Among look ls
among_first look zero ls m = absurd m
among_first look (suc k) [] m = absurd m
among_first look (suc k) (l ∷ ls) (inl q) = inl q
among_first look (suc k) (l ∷ ls) (inr m) = inr (among_first look k ls m)

module _ (values index : List ℤ) (i j : ℕ) (l : i ≤ j) (h : j < length values) where
  abbrev n : ℕ
  n = length values

  abbrev known : Look → Option ℤ
  known = known_from values index i j

  -- a look at the range makes a value known just where it says so
  known_is : (look : Look) → Among look (looks n i j) → MakesKnown n i j look → known look ≡ Some (read_by values index look)
  known_is (Value k) m u = refl
  known_is (Entry b) m u = go (wholly_inside n i j b) refl
    where
      go : (t : Bool) → wholly_inside n i j b ≡ t → cond t (Some (get_or index b (pos 0))) None ≡ Some (get_or index b (pos 0))
      go true q = refl
      go false q =
          let r = (every_look n i j l h).only_met b m in
          absurd (u (rw r.3 at (not_whole n i j l h r.0 r.1 r.2 (ap (wholly_inside n i j) r.3 ∙ q))))

  is_known : (look : Look) (x : ℤ) → Among look (looks n i j) → known look ≡ Some x → MakesKnown n i j look × (read_by values index look ≡ x)
  is_known (Value k) x m e = (tt, same_some (get_or values k (pos 0)) x e)
  is_known (Entry b) x m e = go (wholly_inside n i j b) refl e
    where
      go : (t : Bool) → wholly_inside n i j b ≡ t → cond t (Some (get_or index b (pos 0))) None ≡ Some x → (Partly n i j b → ⊥) × (get_or index b (pos 0) ≡ x)
      go false q e = absurd (none-some x e)
      go true q e =
          let r = (every_look n i j l h).only_met b m in (
            λ p. true≢false (sym q ∙ sym (ap (wholly_inside n i j) r.3) ∙ partly n i j l h r.0 r.1 r.2 (rw (sym r.3) at p)),
            same_some (get_or index b (pos 0)) x e,
          )

  module _ (B : ℕ) where
    abbrev used : List Look
    used = looks_used n i j B

    pub high_one : (v : ℤ) → high_after values index i j used ≡ Some v → (look : Look) × Among look used × MakesKnown n i j look × (read_by values index look ≡ v)
    high_one v e =
        let o = least_one (filter_map known used) v e in
        let r = kept_of known used o.0 o.1 in
        let k = is_known r.0 v (among_first r.0 B (looks n i j) r.1) (r.2 ∙ ap Some o.2) in
        (r.0, r.1, k.0, k.1)

    pub high_under : (v : ℤ) → high_after values index i j used ≡ Some v → (look : Look) → Among look used → MakesKnown n i j look → le_z v (read_by values index look) ≡ true
    high_under v e look m u =
        let a = kept_at known used look (read_by values index look) m (known_is look (among_first look B (looks n i j) m) u) in
        ap (le_z v) (sym a.2) ∙ least_under (filter_map known used) v e a.0 a.1

    pub high_none : high_after values index i j used ≡ None → (look : Look) → Among look used → MakesKnown n i j look → ⊥
    high_none e look m u =
        let a = kept_at known used look (read_by values index look) m (known_is look (among_first look B (looks n i j) m) u) in
        let x = least_exists (filter_map known used) (omega (arith, a.1)) in
        none-some x.0 (sym e ∙ x.1)
