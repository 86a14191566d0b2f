-- What all looks together show is the definition's: the cuts are where the definition's list is cut, the least of the parts is the least of what is known, and the tests of the budget are those of the
-- number of looks used.
use mathlib.Core.Path.{◌≡◌, refl, sym, ap, ◌∙◌}
use mathlib.Core.Bool.{Bool, cond}
use mathlib.Core.List.{List, ◌++◌}
use Rattle.std.specs.List.{filter_map}
use mathlib.Core.Logic.{inl, inr}
use Rattle.std.specs.Prelude.{Option, Some, IsSome}
use Prim.Native.Nat.{ℕ, ◌+◌, ◌*◌, ◌-◌, ◌/◌, ◌<◌, ◌≤◌, min, max}
use native.Mathlib.Omega.{arith}
use lib.Dec.{ltb}
use lib.IntN.{ℤ, negsuc}
use lib.ListN.{length, take, drop, length-append, length-take, length-drop}
use borrow.Author.Tests.{lt-ltb, le-ltb}
use Rattle.laws.proofs.Tests.{lt_or_ge}
use Rattle.blocks.specs.Takes.{least_of, block_count, blocks_before}
use Rattle.blocks.proofs.Scanning.{least_some}
use Rattle.rough.specs.declared.Seen.{Seen}
use Rattle.rough.specs.declared.Entries.{Entries}
use Rattle.rough.specs.declared.Cuts.{Cuts}
use Rattle.std.specs.Prelude.{Ok}
use Rattle.rough.specs.Looks.{Look, entry_looks, looks, looks_used, entry_from, high_after, low_after, figures_after, told}
use Rattle.rough.specs.Private.{lower_of, low_by, CutsAt}
use Rattle.rough.proofs.Leasts.{least_append}
use Rattle.rough.proofs.Budgets.{length_part, EntriesSeen, ValuesSeen}
use Rattle.rough.proofs.Orders.{cuts, edges, left_end, right_start}
use Rattle.rough.proofs.Shows.{whole, left, right, met, length_entries, all_known, all_entries, full_count_lem}

-- THE CUTS stand in their order
pub cuts_at : (n i j : ℕ) (r : Cuts) → i ≤ j → j < n → r.inner ≡ block_count i → r.outer ≡ max (block_count i) (blocks_before n (j + 1))
    → r.left ≡ min (64 * r.inner) (j + 1) → r.right ≡ min (64 * r.outer) (j + 1) → CutsAt n i j r
cuts_at n i j r l h p q s t = record {
  inner = p;
  outer = q;
  left_end = s;
  right_start = t;
  blocks = rw (p, q) (cuts n i j l h);
  values = rw (s, t, p, q) (edges n i j l h);
}

pub blocks_in_order : (n i j : ℕ) (r : Cuts) → CutsAt n i j r → (i / 64 ≤ r.inner) × (r.inner ≤ r.outer) × (r.outer ≤ j / 64 + 1)
blocks_in_order n i j r t = t.blocks

-- whether two numbers are below others alike
same_test : (a b c d : ℕ) → (a < b → c < d) → (b ≤ a → d ≤ c) → ltb a b ≡ ltb c d
same_test a b c d f g = elim (lt_or_ge a b) [ inl l ↦ lt-ltb a b l ∙ sym (lt-ltb c d (f l)) | inr l ↦ le-ltb a b l ∙ sym (le-ltb c d (g l)) ]

-- the budget of the full count reaches the entries of blocks wholly inside, and the values
first_some : (B a b c d v : ℕ) → a ≤ b → b < c → c ≤ d → d - a + v ≤ B → 0 < min (B - (b - a)) (c - b)
first_some B a b c d v l m h k = omega (arith, l, m, h, k)

second_some : (B e v : ℕ) → e + v ≤ B → 0 < v → 0 < min (B - e) v
second_some B e v l m = omega (arith, l, m)

-- of some values there is a least
pub shown_some : (vs : List ℤ) → 0 < length vs → IsSome (least_of vs)
shown_some vs h = rw (least_some vs h) refl

module _ (values index : List ℤ) (i j B : ℕ) (l : i ≤ j) (h : j < length values) (m : length index ≡ block_count (length values)) where
  abbrev n : ℕ
  n = length values

  abbrev used : List Look
  used = looks_used n i j B

  module _ (c : Cuts) (at : CutsAt n i j c) where
    abbrev full : ℕ
    full = j / 64 + 1 - i / 64 + (c.left - i + (j + 1 - c.right))

    abbrev from : ℕ
    from = left_end n i j l h

    left_is : c.left ≡ left_end n i j l h
    left_is = at.left_end ∙ ap (λ (x : ℕ). min (64 * x) (j + 1)) at.inner

    right_is : c.right ≡ right_start n i j l h
    right_is = at.right_start ∙ ap (λ (x : ℕ). min (64 * x) (j + 1)) at.outer

    -- the full count, by the cuts
    full_cut : length (looks n i j) ≡ full
    full_cut = rw (left_is, right_is) (full_count_lem values index i j l h m)

    -- how many looks are used
    used_count : length used ≡ min B full
    used_count = length-take B (looks n i j) ∙ ap (min B) full_cut

    -- the stages of the low figure, by the budget and by the looks that are used
    stages : (least high : Option ℤ) → low_by B (j / 64 + 1 - i / 64) full least high
        ≡ cond (ltb (length used) (length (entry_looks i j))) (Some (negsuc 2147483647)) (cond (ltb (length used) (length (looks n i j))) least high)
    stages least high =
        let u = used_count in
        let e = length_entries i j in
        let f = full_cut in
        let by_first : ltb B (j / 64 + 1 - i / 64) ≡ ltb (length used) (length (entry_looks i j)) = by_entries B (j / 64 + 1 - i / 64) (c.left - i + (j + 1 - c.right)) (length used) (length (entry_looks i j)) u e in
        let all : ltb B full ≡ ltb (length used) (length (looks n i j)) = by_all B full (length used) (length (looks n i j)) u f in
        ap (λ (t : Bool). cond t (Some (negsuc 2147483647)) (cond (ltb B full) least high)) by_first
        ∙ ap (λ (t : Bool). cond (ltb (length used) (length (entry_looks i j))) (Some (negsuc 2147483647)) (cond t least high)) all
      where
        by_entries : (B e v u f : ℕ) → u ≡ min B (e + v) → f ≡ e → ltb B e ≡ ltb u f
        by_entries B e v u f p q = same_test B e u f (λ l. omega (arith, l, p, q)) (λ l. omega (arith, l, p, q))

        by_all : (B e u f : ℕ) → u ≡ min B e → f ≡ e → ltb B e ≡ ltb u f
        by_all B e u f p q = same_test B e u f (λ l. omega (arith, l, p, q)) (λ l. omega (arith, l, p, q))

    module _ (entries : Entries) (edge : Seen) (high : Option ℤ) (es : EntriesSeen index (i / 64) c.inner c.outer (j / 64 + 1) B entries)
        (vs : ValuesSeen values i c.left c.right (j + 1) entries.rest edge) (hs : high ≡ lower_of entries.whole edge.least) where
      whole_seen : entries.whole ≡ least_of (take (B - (block_count i - i / 64)) (whole values index i j l h m))
      whole_seen =
          es.whole
          ∙ ap (λ (x : ℕ). least_of (take (B - (x - i / 64)) (take (c.outer - x) (drop x index)))) at.inner
          ∙ ap (λ (x : ℕ). least_of (take (B - (block_count i - i / 64)) (take (x - block_count i) (drop (block_count i) index)))) at.outer

      edges_seen : edge.least ≡ least_of (take (B - (j / 64 + 1 - i / 64)) (left values index i j l h m ++ right values index i j l h m))
      edges_seen =
          vs.least
          ∙ ap (λ (x : ℕ). least_of (take x (take (c.left - i) (drop i values) ++ take (j + 1 - c.right) (drop c.right values)))) es.rest
          ∙ ap (λ (x : ℕ). least_of (take (B - (j / 64 + 1 - i / 64)) (take (x - i) (drop i values) ++ take (j + 1 - c.right) (drop c.right values)))) left_is
          ∙ ap (λ (x : ℕ). least_of (take (B - (j / 64 + 1 - i / 64)) (left values index i j l h m ++ take (j + 1 - x) (drop x values)))) right_is

      -- the high figure
      pub high_seen : high ≡ high_after values index i j used
      high_seen =
          hs
          ∙ ap (λ (o : Option ℤ). lower_of o edge.least) whole_seen
          ∙ ap (lower_of (least_of (take (B - (block_count i - i / 64)) (whole values index i j l h m)))) edges_seen
          ∙ sym (least_append (take (B - (block_count i - i / 64)) (whole values index i j l h m)) (take (B - (j / 64 + 1 - i / 64)) (left values index i j l h m ++ right values index i j l h m)))
          ∙ sym (ap least_of (all_known values index i j l h m B))

      -- the least entry
      pub entries_seen : entries.all ≡ least_of (filter_map (entry_from index) used)
      entries_seen = es.all ∙ sym (ap least_of (all_entries values index i j l h m B))

      -- the looks that are used
      pub looks_seen : B - edge.rest ≡ length used
      looks_seen = counted B (j / 64 + 1 - i / 64) (c.left - i + (j + 1 - c.right)) entries.rest edge.rest es.rest vs.rest ∙ sym used_count
        where
          counted : (B e v r s : ℕ) → r ≡ B - e → s ≡ r - v → B - s ≡ min B (e + v)
          counted B e v r s p q = omega (arith, p, q)

      -- ALL OF IT
      pub reading : (low : ℤ) → Some low ≡ low_by B (j / 64 + 1 - i / 64) full entries.all high
          → told (Ok (record { looks = B - edge.rest; high = high; low = low })) ≡ figures_after values index i j used
      reading low q =
          let lows : Some low ≡ low_after values index i j used =
          q
          ∙ stages entries.all high
          ∙ ap (λ (o : Option ℤ). cond (ltb (length used) (length (entry_looks i j))) (Some (negsuc 2147483647)) (cond (ltb (length used) (length (looks n i j))) o high)) entries_seen
          ∙ ap (λ (o : Option ℤ). cond (ltb (length used) (length (entry_looks i j))) (Some (negsuc 2147483647)) (cond (ltb (length used) (length (looks n i j))) (least_of (filter_map (entry_from index) used)) o)) high_seen in
          λ x. record { number = 0; looks = looks_seen x; high = high_seen x; low = lows x }

      -- where all entries are read, there is a least; and at the full count something is known
      pub entries_shown : j / 64 + 1 - i / 64 ≤ B → IsSome entries.all
      entries_shown b = rw es.all (shown_some (take B (met values index i j l h m)) (omega (arith, length-take B (met values index i j l h m), long, b)))
        where
          long : length (met values index i j l h m) ≡ j / 64 + 1 - i / 64
          long = omega (arith, m, length-take (j / 64 + 1 - i / 64) (drop (i / 64) index), length-drop (i / 64) index)

      whole_long : length (whole values index i j l h m) ≡ c.outer - c.inner
      whole_long =
          ap (λ (x : ℕ). length (take (x - block_count i) (drop (block_count i) index))) (sym at.outer)
          ∙ ap (λ (x : ℕ). length (take (c.outer - x) (drop x index))) (sym at.inner)
          ∙ length_part c.inner c.outer index at.blocks.1 (omega (arith, at.blocks.2, m))

      edges_long : length (left values index i j l h m ++ right values index i j l h m) ≡ c.left - i + (j + 1 - c.right)
      edges_long =
          length-append (left values index i j l h m) (right values index i j l h m)
          ∙ ap (λ (x : ℕ). length (take (x - i) (drop i values)) + length (right values index i j l h m)) (sym left_is)
          ∙ ap (λ (x : ℕ). length (take (c.left - i) (drop i values)) + length (take (j + 1 - x) (drop x values))) (sym right_is)
          ∙ ap (λ (x : ℕ). x + length (take (j + 1 - c.right) (drop c.right values))) (length_part i c.left values at.values.0 (omega (arith, at.values)))
          ∙ ap (λ (x : ℕ). c.left - i + x) (length_part c.right (j + 1) values at.values.2 (omega (arith, h)))

      -- where no block is wholly inside, all of the range lies at its edges
      edge_some : c.outer ≤ c.inner → 0 < c.left - i + (j + 1 - c.right)
      edge_some k =
          let same : c.left ≡ c.right = at.left_end ∙ ap (λ (x : ℕ). min (64 * x) (j + 1)) (omega (arith, k, at.blocks.1)) ∙ sym at.right_start in
          omega (arith, same, at.values, l)

      pub high_shown : full ≤ B → IsSome high
      high_shown b = rw (high_seen ∙ ap least_of (all_known values index i j l h m B)) (shown_some (firsts ++ seconds) (rw (length-append firsts seconds) some_known))
        where
          firsts : List ℤ
          firsts = take (B - (block_count i - i / 64)) (whole values index i j l h m)

          seconds : List ℤ
          seconds = take (B - (j / 64 + 1 - i / 64)) (left values index i j l h m ++ right values index i j l h m)

          firsts_long : length firsts ≡ min (B - (c.inner - i / 64)) (c.outer - c.inner)
          firsts_long =
              length-take (B - (block_count i - i / 64)) (whole values index i j l h m)
              ∙ ap (min (B - (block_count i - i / 64))) whole_long
              ∙ ap (λ (x : ℕ). min (B - (x - i / 64)) (c.outer - c.inner)) (sym at.inner)

          seconds_long : length seconds ≡ min (B - (j / 64 + 1 - i / 64)) (c.left - i + (j + 1 - c.right))
          seconds_long = length-take (B - (j / 64 + 1 - i / 64)) (left values index i j l h m ++ right values index i j l h m) ∙ ap (min (B - (j / 64 + 1 - i / 64))) edges_long

          some_known : 0 < length firsts + length seconds
          some_known = elim (lt_or_ge c.inner c.outer) [
            | inl k ↦ omega (arith, firsts_long, first_some B (i / 64) c.inner c.outer (j / 64 + 1) (c.left - i + (j + 1 - c.right)) at.blocks.0 k at.blocks.2 b)
            | inr k ↦ omega (arith, seconds_long, second_some B (j / 64 + 1 - i / 64) (c.left - i + (j + 1 - c.right)) b (edge_some k))
          ]
