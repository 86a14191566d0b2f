-- The looks are real: what they make known, and the entries among them, are told from what they read.
use mathlib.Core.Path.{◌≡◌, refl, ap, ◌∙◌}
use mathlib.Core.Bool.{cond}
use mathlib.Core.List.{List, [], ◌∷◌, map}
use Rattle.std.specs.List.{filter_map, cons_option}
use Rattle.std.specs.Prelude.{Option, None, Some}
use Prim.Native.Nat.{ℕ}
use lib.Dec.{eqb, ltb}
use lib.IntN.{ℤ, pos, negsuc}
use lib.ListN.{length, get_or}
use Rattle.blocks.specs.Takes.{search_refusal, least_of}
use Rattle.rough.specs.Looks.{Look, Entry, Value, entry_looks, looks, looks_used, known_from, entry_from, ToldReading, figures_after, refused_with, rough_reading, wholly_inside}
use Rattle.rough.specs.Promises.{read_by}

module _ (values index others entries : List ℤ) (i j : ℕ) (long : length values ≡ length others) where
  head_of : ℤ → List ℤ → ℤ
  head_of d [] = d
  head_of d (x ∷ xs) = x

  tail_of : List ℤ → List ℤ
  tail_of [] = []
  tail_of (x ∷ xs) = xs

  same_known : (look : Look) → read_by values index look ≡ read_by others entries look → known_from values index i j look ≡ known_from others entries i j look
  same_known (Entry b) e =
      ap (λ (k : ℕ). cond (wholly_inside k i j b) (Some (get_or index b (pos 0))) None) long ∙ ap (λ (x : ℤ). cond (wholly_inside (length others) i j b) (Some x) None) e
  same_known (Value k) e = ap Some e

  same_entry : (look : Look) → read_by values index look ≡ read_by others entries look → entry_from index look ≡ entry_from entries look
  same_entry (Entry b) e = ap Some e
  same_entry (Value k) e = refl

  all_same : (f g : Look → Option ℤ) → ((look : Look) → read_by values index look ≡ read_by others entries look → f look ≡ g look) → (ls : List Look)
      → map (read_by values index) ls ≡ map (read_by others entries) ls → filter_map f ls ≡ filter_map g ls
  unfolding head_of tail_of
  all_same f g s [] e = refl
  all_same f g s (x ∷ xs) e =
      let here : f x ≡ g x = s x (ap (head_of (pos 0)) e) in
      let rest : filter_map f xs ≡ filter_map g xs = all_same f g s xs (ap tail_of e) in
      ap (λ (o : Option ℤ). cons_option o (filter_map f xs)) here ∙ ap (λ (ys : List ℤ). cons_option (g x) ys) rest

  same_figures : (ls : List Look) → map (read_by values index) ls ≡ map (read_by others entries) ls → figures_after values index i j ls ≡ figures_after others entries i j ls
  same_figures ls e =
      let known = all_same (known_from values index i j) (known_from others entries i j) same_known ls e in
      let read = all_same (entry_from index) (entry_from entries) same_entry ls e in
      λ x. record {
        number = 0;
        looks = length ls;
        high = least_of (known x);
        low =
            cond (ltb (length ls) (length (entry_looks i j))) (Some (negsuc 2147483647))
            (cond (ltb (length ls) (length (looks (long x) i j))) (least_of (read x)) (least_of (known x)));
      }

  pub same_reading : (B : ℕ) → length index ≡ length entries
      → map (read_by values index) (looks_used (length values) i j B) ≡ map (read_by others entries) (looks_used (length values) i j B)
      → rough_reading values index i j B ≡ rough_reading others entries i j B
  same_reading B m e =
      let used : List Look = looks_used (length values) i j B in
      ap (λ (t : ToldReading). cond (eqb (search_refusal (length values) (length index) i j) 0) t (refused_with (search_refusal (length values) (length index) i j))) (same_figures used e)
      ∙ (λ x.
      cond (eqb (search_refusal (long x) (m x) i j) 0) (figures_after others entries i j (looks_used (long x) i j B)) (refused_with (search_refusal (long x) (m x) i j)))
