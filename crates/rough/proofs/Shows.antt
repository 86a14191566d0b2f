-- What the looks that are used show: of the entries of blocks wholly inside and of the values at both edges as many as the budget allows, and of all entries as many.
use mathlib.Core.Path.{◌≡◌, refl, sym, ap, ◌∙◌}
use mathlib.Core.List.{List, [], ◌++◌, map, append-nil, map-append}
use Rattle.std.specs.List.{filter_map}
use Rattle.std.proofs.lemmas.List.Elements.{filter_map-append}
use Rattle.std.specs.Prelude.{Option}
use Prim.Native.Nat.{ℕ, ◌+◌, ◌-◌, ◌/◌, ◌<◌, ◌≤◌}
use native.Mathlib.Omega.{arith}
use lib.IntN.{ℤ, pos}
use lib.ListN.{length, take, drop, length-append, length-map, length-take, length-drop}
use Rattle.blocks.specs.Takes.{block_count}
use Rattle.rough.specs.Looks.{Look, Entry, Value, up_from, entry_looks, value_looks, looks, looks_used, known_from, entry_from}
use Rattle.rough.proofs.Sequences.{length_up_from, up_from_parts, take_append, none_shown, all_shown}
use Rattle.rough.proofs.Orders.{inner_of, outer_of, left_end, right_start, cuts, edges, left_block, whole_block, right_block, values_parts}

-- the first k of three lists together, of which f keeps something
three : {A B : Type 0} (f : A → Option B) (k : ℕ) (xs ys zs : List A)
    → filter_map f (take k (xs ++ (ys ++ zs))) ≡ filter_map f (take k xs) ++ (filter_map f (take (k - length xs) ys) ++ filter_map f (take (k - length xs - length ys) zs))
three f k xs ys zs =
    ap (filter_map f) (take_append k xs (ys ++ zs) ∙ ap (λ (ws : List _). take k xs ++ ws) (take_append (k - length xs) ys zs))
    ∙ filter_map-append f (take k xs) (take (k - length xs) ys ++ take (k - length xs - length ys) zs)
    ∙ ap (λ (ws : List _). filter_map f (take k xs) ++ ws) (filter_map-append f (take (k - length xs) ys) (take (k - length xs - length ys) zs))

length_row : (g : ℕ → Look) (a n : ℕ) → length (map g (up_from a n)) ≡ n
length_row g a n = length-map (up_from a n) g ∙ length_up_from a n

-- how many entries are looked at
pub length_entries : (i j : ℕ) → length (entry_looks i j) ≡ j / 64 + 1 - i / 64
length_entries i j = length_row Entry (i / 64) (j / 64 + 1 - i / 64)

module _ (values index : List ℤ) (i j : ℕ) (l : i ≤ j) (h : j < length values) (m : length index ≡ block_count (length values)) where
  abbrev n : ℕ
  n = length values

  abbrev first : ℕ
  first = i / 64

  abbrev end : ℕ
  end = j / 64 + 1

  abbrev inner : ℕ
  inner = inner_of i

  abbrev outer : ℕ
  outer = outer_of n i j

  abbrev from : ℕ
  from = left_end n i j l h

  abbrev to : ℕ
  to = right_start n i j l h

  -- the parts of index and take that are looked at
  abbrev pub whole : List ℤ
  whole = take (outer - inner) (drop inner index)

  abbrev pub left : List ℤ
  left = take (from - i) (drop i values)

  abbrev pub right : List ℤ
  right = take (j + 1 - to) (drop to values)

  abbrev pub met : List ℤ
  met = take (end - first) (drop first index)

  abbrev known : Look → Option ℤ
  known = known_from values index i j

  entry_parts : entry_looks i j ≡ map Entry (up_from first (inner - first)) ++ (map Entry (up_from inner (outer - inner)) ++ map Entry (up_from outer (end - outer)))
  entry_parts =
      let c = cuts n i j l h in
      ap (map Entry) (up_from_parts first inner outer end c.0 c.1 c.2)
      ∙ map-append Entry (up_from first (inner - first)) (up_from inner (outer - inner) ++ up_from outer (end - outer))
      ∙ ap (λ (xs : List Look). map Entry (up_from first (inner - first)) ++ xs) (map-append Entry (up_from inner (outer - inner)) (up_from outer (end - outer)))

  -- what entries make known
  entries_known : (k : ℕ) → filter_map known (take k (entry_looks i j)) ≡ take (k - (inner - first)) whole
  entries_known k =
      let c = cuts n i j l h in
      let xs = map Entry (up_from first (inner - first)) in
      let ys = map Entry (up_from inner (outer - inner)) in
      let zs = map Entry (up_from outer (end - outer)) in
      ap (λ (ws : List Look). filter_map known (take k ws)) entry_parts
      ∙ three known k xs ys zs
      ∙ ap (λ (ws : List ℤ). ws ++ (filter_map known (take (k - length xs) ys) ++ filter_map known (take (k - length xs - length ys) zs)))
      (none_shown known Entry k first (inner - first) (λ b p q. simp (left_block n i j l h b (omega (arith, q, c)))))
      ∙ ap (λ (ws : List ℤ). filter_map known (take (k - length xs) ys) ++ ws)
      (none_shown known Entry (k - length xs - length ys) outer (end - outer) (λ b p q. simp (right_block n i j l h b p (omega (arith, q, c)))))
      ∙ append-nil (filter_map known (take (k - length xs) ys))
      ∙ all_shown known Entry index (pos 0) (k - length xs) inner (outer - inner) (omega (arith, c, m)) (λ b p q. simp (whole_block n i j l h b p (omega (arith, q, c))))
      ∙ ap (λ (x : ℕ). take (k - x) whole) (length_row Entry first (inner - first))

  -- and what they are
  entries_read : (k : ℕ) → filter_map (entry_from index) (take k (entry_looks i j)) ≡ take k met
  entries_read k = all_shown (entry_from index) Entry index (pos 0) k first (end - first) (omega (arith, m)) (λ b p q. refl)

  -- what values make known
  values_known : (k : ℕ) → filter_map known (take k (value_looks n i j)) ≡ take k (left ++ right)
  values_known k =
      let e = edges n i j l h in
      let xs = map Value (up_from i (from - i)) in
      let ys = map Value (up_from to (j + 1 - to)) in
      let long : length xs ≡ length left = length_row Value i (from - i) ∙ omega (arith, e, length-take (from - i) (drop i values), length-drop i values) in
      ap (λ (ws : List Look). filter_map known (take k ws)) (values_parts n i j l h)
      ∙ ap (filter_map known) (take_append k xs ys)
      ∙ filter_map-append known (take k xs) (take (k - length xs) ys)
      ∙ ap (λ (ws : List ℤ). ws ++ filter_map known (take (k - length xs) ys)) (all_shown known Value values (pos 0) k i (from - i) (omega (arith, e)) (λ b p q. refl))
      ∙ ap (λ (ws : List ℤ). take k left ++ ws) (all_shown known Value values (pos 0) (k - length xs) to (j + 1 - to) (omega (arith, e)) (λ b p q. refl))
      ∙ ap (λ (x : ℕ). take k left ++ take (k - x) right) long
      ∙ sym (take_append k left right)

  -- none is an entry
  values_no_entries : (k : ℕ) → filter_map (entry_from index) (take k (value_looks n i j)) ≡ []
  values_no_entries k =
      let xs = map Value (up_from i (from - i)) in
      let ys = map Value (up_from to (j + 1 - to)) in
      ap (λ (ws : List Look). filter_map (entry_from index) (take k ws)) (values_parts n i j l h)
      ∙ ap (filter_map (entry_from index)) (take_append k xs ys)
      ∙ filter_map-append (entry_from index) (take k xs) (take (k - length xs) ys)
      ∙ ap (λ (ws : List ℤ). ws ++ filter_map (entry_from index) (take (k - length xs) ys)) (none_shown (entry_from index) Value k i (from - i) (λ b p q. refl))
      ∙ none_shown (entry_from index) Value (k - length xs) to (j + 1 - to) (λ b p q. refl)

  module _ (B : ℕ) where
    -- THE LOOKS THAT ARE USED, entries and then values
    used_parts : looks_used n i j B ≡ take B (entry_looks i j) ++ take (B - (end - first)) (value_looks n i j)
    used_parts =
        take_append B (entry_looks i j) (value_looks n i j)
        ∙ ap (λ (x : ℕ). take B (entry_looks i j) ++ take (B - x) (value_looks n i j)) (length_entries i j)

    pub all_known : filter_map known (looks_used n i j B) ≡ take (B - (inner - first)) whole ++ take (B - (end - first)) (left ++ right)
    all_known =
        ap (filter_map known) used_parts
        ∙ filter_map-append known (take B (entry_looks i j)) (take (B - (end - first)) (value_looks n i j))
        ∙ ap (λ (ws : List ℤ). ws ++ filter_map known (take (B - (end - first)) (value_looks n i j))) (entries_known B)
        ∙ ap (λ (ws : List ℤ). take (B - (inner - first)) whole ++ ws) (values_known (B - (end - first)))

    pub all_entries : filter_map (entry_from index) (looks_used n i j B) ≡ take B met
    all_entries =
        ap (filter_map (entry_from index)) used_parts
        ∙ filter_map-append (entry_from index) (take B (entry_looks i j)) (take (B - (end - first)) (value_looks n i j))
        ∙ ap (λ (ws : List ℤ). ws ++ filter_map (entry_from index) (take (B - (end - first)) (value_looks n i j))) (entries_read B)
        ∙ ap (λ (ws : List ℤ). take B met ++ ws) (values_no_entries (B - (end - first)))
        ∙ append-nil (take B met)

  -- THE FULL COUNT
  pub full_count_lem : length (looks n i j) ≡ end - first + (from - i + (j + 1 - to))
  full_count_lem =
      length-append (entry_looks i j) (value_looks n i j)
      ∙ ap (λ (x : ℕ). x + length (value_looks n i j)) (length_entries i j)
      ∙ ap (λ (x : ℕ). end - first + x)
      (ap length (values_parts n i j l h)
      ∙ length-append (map Value (up_from i (from - i))) (map Value (up_from to (j + 1 - to)))
      ∙ ap (λ (x : ℕ). x + length (map Value (up_from to (j + 1 - to)))) (length_row Value i (from - i))
      ∙ ap (λ (x : ℕ). from - i + x) (length_row Value to (j + 1 - to)))
