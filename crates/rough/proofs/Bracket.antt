-- Over an index built from the take the figures stand on both sides of the least value of the range, meet there at the full count, and come no further apart with a bigger budget.
use mathlib.Core.Path.{◌≡◌, refl, sym, ap, ◌∙◌}
use mathlib.Core.Bool.{true}
use mathlib.Core.List.{List, ◌++◌}
use Rattle.std.specs.List.{filter_map}
use Rattle.std.proofs.lemmas.List.Elements.{filter_map-append}
use mathlib.Core.Logic.{inl, inr}
use Rattle.std.specs.Prelude.{Option, Some}
use Rattle.rough.proofs.Sequences.{same_some}
use Prim.Native.Nat.{ℕ, ◌+◌, ◌*◌, ◌-◌, ◌/◌, ◌<◌, ◌≤◌, min}
use native.Mathlib.Omega.{arith}
use lib.IntN.{ℤ, pos}
use lib.Signed.{le_z}
use lib.ListN.{length, get_or, take, drop, length-append}
use lib.Seq.{take_all, take-add}
use Rattle.laws.proofs.Tests.{lt_or_ge}
use Rattle.laws.proofs.Order.{le_z_refl, le_z_trans, le_z_antisym}
use Rattle.blocks.specs.Takes.{range_minimum, block_minima, least_of}
use Rattle.blocks.specs.Promises.{Fitting}
use Rattle.blocks.proofs.Indexes.{length_index}
use Rattle.rough.specs.Looks.{Look, entry_looks, looks, looks_used, known_from, high_after}
use Rattle.rough.specs.Promises.{bottom, NoneBelow}
use Rattle.rough.specs.Private.{lower_of}
use Rattle.rough.proofs.Leasts.{least_append}
use Rattle.rough.proofs.Orders.{inner_of, outer_of, left_end, right_start, cuts, edges, whole_block, inside_is}
use Rattle.rough.proofs.Shows.{met, all_known, full_count_lem}
use Rattle.rough.proofs.Budgets.{part, length_part}
use Rattle.rough.proofs.Bounds.{Under, under_append, under_left, under_right, under_take, under_part, part_under, least_under, under_least, lower_falls, least_exists}
use Rattle.rough.proofs.Truth.{true_stands, true_under, entry_stands, entry_under}
use Rattle.rough.proofs.Stages.{low, low_early, low_between, low_full}

-- OVER AN INDEX BUILT FROM THAT TAKE
module _ (values : List ℤ) (i j : ℕ) (l : i ≤ j) (h : j < length values) where
  abbrev index : List ℤ
  index = block_minima values

  pub fitting : Fitting values index
  fitting = length_index values

  abbrev least : ℤ
  least = (range_minimum values i j).value

  abbrev first : ℕ
  first = i / 64

  abbrev end : ℕ
  end = j / 64 + 1

  abbrev inner : ℕ
  inner = inner_of i

  abbrev outer : ℕ
  outer = outer_of (length values) i j

  abbrev from : ℕ
  from = left_end (length values) i j l h

  abbrev to : ℕ
  to = right_start (length values) i j l h

  abbrev inside : List ℤ
  inside = part inner outer index

  abbrev before : List ℤ
  before = part i from values

  abbrev behind : List ℤ
  behind = part to (j + 1) values

  ordered : (first ≤ inner) × (inner ≤ outer) × (outer ≤ end)
  ordered = cuts (length values) i j l h

  along : (i ≤ from) × (from ≤ to) × (to ≤ j + 1)
  along = edges (length values) i j l h

  outer_few : outer ≤ length index
  outer_few = omega (arith, ordered.2, fitting, h)

  -- an entry of a block wholly inside is a value of the range
  least_under_entry : (b : ℕ) → inner ≤ b → b < outer → le_z least (get_or index b (pos 0)) ≡ true
  least_under_entry b p q =
      let s = inside_is (length values) i j b (whole_block (length values) i j l h b p q) in
      let e = entry_stands values b (omega (arith, q, outer_few, fitting)) in
      rw e.4 at (true_under values i j l h e.0 (omega (arith, s.0, e.1)) (omega (arith, s.1, e.2, e.3)))

  least_under_inside : Under least inside
  least_under_inside = under_part least inner outer index ordered.1 outer_few least_under_entry

  least_under_edges : Under least (before ++ behind)
  least_under_edges =
      let a = along in
      under_append least before behind
      (under_part least i from values a.0 (omega (arith, a, h)) (λ k p q. true_under values i j l h k p (omega (arith, q, a))))
      (under_part least to (j + 1) values a.2 (omega (arith, h)) (λ k p q. true_under values i j l h k (omega (arith, p, a)) (omega (arith, q))))

  module _ (B : ℕ) where
    abbrev high_b : Option ℤ
    high_b = high_after values index i j (looks_used (length values) i j B)

    high_is : high_b ≡ least_of (take (B - (inner - first)) inside ++ take (B - (end - first)) (before ++ behind))
    high_is = ap least_of (all_known values index i j l h fitting B)

    -- "nor a shown high below it"
    pub high_above : (v : ℤ) → high_b ≡ Some v → le_z least v ≡ true
    high_above v e =
        under_least (take (B - (inner - first)) inside ++ take (B - (end - first)) (before ++ behind)) least v
        (under_append least (take (B - (inner - first)) inside) (take (B - (end - first)) (before ++ behind)) (under_take least (B - (inner - first)) inside least_under_inside)
        (under_take least (B - (end - first)) (before ++ behind) least_under_edges))
        (sym high_is ∙ e)

  -- a value that is at most all that can be known is at most the least
  all_under : (v : ℤ) → Under v (inside ++ (before ++ behind)) → le_z v least ≡ true
  all_under v u =
      let p = true_stands values i j l h in
      let k : ℕ = p.0 in
      let a = along in
      let there : le_z v (get_or values k (pos 0)) ≡ true = elim (lt_or_ge k from) [
        | inl q ↦ part_under v i from values a.0 (omega (arith, a, h)) (under_left v before behind (under_right v inside (before ++ behind) u)) k p.1 q
        | inr q ↦ elim (lt_or_ge k to) [
          | inl s ↦
              let b = omega_blocks k q s in
              le_z_trans v (get_or index (k / 64) (pos 0)) (get_or values k (pos 0))
              (part_under v inner outer index ordered.1 outer_few (under_left v inside (before ++ behind) u) (k / 64) b.0 b.1)
              (entry_under values (k / 64) (omega (arith, p.2, h)) k (omega (arith, p.2, h)) refl)
          | inr s ↦ part_under v to (j + 1) values a.2 (omega (arith, h)) (under_right v before behind (under_right v inside (before ++ behind) u)) k s (omega (arith, p.2))
        ]
      ] in
      rw p.3 at there
    where
      omega_blocks : (k : ℕ) → from ≤ k → k < to → (inner ≤ k / 64) × (k / 64 < outer)
      omega_blocks k q s = (omega (arith, q, s), omega (arith, q, s))

  -- all that can be known is something
  all_some : 0 < length (inside ++ (before ++ behind))
  all_some =
      let a = along in
      let c = ordered in
      omega_some inner outer from to refl refl c.1 a.0 a.2
      (length-append inside (before ++ behind)
      ∙ ap (λ (x : ℕ). length inside + x) (length-append before behind)
      ∙ ap (λ (x : ℕ). x + (length before + length behind)) (length_part inner outer index c.1 outer_few)
      ∙ ap (λ (x : ℕ). outer - inner + (x + length behind)) (length_part i from values a.0 (omega (arith, a, h)))
      ∙ ap (λ (x : ℕ). outer - inner + (from - i + x)) (length_part to (j + 1) values a.2 (omega (arith, h))))
    where
      omega_some : (p q f t : ℕ) → f ≡ min (64 * p) (j + 1) → t ≡ min (64 * q) (j + 1) → p ≤ q → i ≤ f → t ≤ j + 1 → {x : ℕ} → x ≡ q - p + (f - i + (j + 1 - t)) → 0 < x
      omega_some p q f t e g c a b {x} d = elim (lt_or_ge p q) [
        | inl s ↦ omega (arith, d, s)
        | inr s ↦
            let same : f ≡ t = e ∙ ap (λ (y : ℕ). min (64 * y) (j + 1)) (omega (arith, s, c)) ∙ sym g in
            omega (arith, d, same, l, a, b)
      ]

  -- "both equal the exact least value once the full count is used"
  pub high_exact : (B : ℕ) → length (looks (length values) i j) ≤ B → high_b B ≡ Some least
  high_exact B b =
      let c = ordered in
      let a = along in
      let full = full_count_lem values index i j l h fitting in
      let knows : high_b B ≡ least_of (inside ++ (before ++ behind)) =
      high_is B
      ∙ ap (λ (xs : List ℤ). least_of (xs ++ take (B - (end - first)) (before ++ behind))) (take_all (B - (inner - first)) inside (reaches B first inner outer end (from - i + (j + 1 - to)) c.0 c.1 c.2 (rw full at b) (length_part inner outer index c.1 outer_few)))
      ∙ ap (λ (xs : List ℤ). least_of (inside ++ xs)) (take_all (B - (end - first)) (before ++ behind) (rest B (end - first) (from - i + (j + 1 - to)) (rw full at b)
      (length-append before behind
      ∙ ap (λ (x : ℕ). x + length behind) (length_part i from values a.0 (omega (arith, a, h)))
      ∙ ap (λ (x : ℕ). from - i + x) (length_part to (j + 1) values a.2 (omega (arith, h)))))) in
      let some-least = least_exists (inside ++ (before ++ behind)) all_some in
      let v : ℤ = some-least.0 in
      let shown : high_b B ≡ Some v = knows ∙ some-least.1 in
      shown ∙ ap Some (le_z_antisym v least (all_under v (least_under (inside ++ (before ++ behind)) v some-least.1)) (high_above B v shown))
    where
      reaches : (B a b c d v : ℕ) → a ≤ b → b ≤ c → c ≤ d → d - a + v ≤ B → {x : ℕ} → x ≡ c - b → x ≤ B - (b - a)
      reaches B a b c d v p q r s {x} e = omega (arith, p, q, r, s, e)

      rest : (B e v : ℕ) → e + v ≤ B → {x : ℕ} → x ≡ v → x ≤ B - e
      rest B e v p {x} q = omega (arith, p, q)

  -- the entries of all blocks that meet the range
  abbrev entries : List ℤ
  entries = met values index i j l h fitting

  end_few : end ≤ length index
  end_few = omega (arith, fitting, h)

  first_few : first ≤ end
  first_few = omega (arith, l)

  -- their least is at most the least value, and is a value
  entries_below : (v : ℤ) → least_of entries ≡ Some v → le_z v least ≡ true
  entries_below v e =
      let p = true_stands values i j l h in
      let k : ℕ = p.0 in
      let there : le_z v (get_or values k (pos 0)) ≡ true =
      le_z_trans v (get_or index (k / 64) (pos 0)) (get_or values k (pos 0))
      (part_under v first end index first_few end_few (least_under entries v e) (k / 64) (omega (arith, p.1)) (omega (arith, p.2)))
      (entry_under values (k / 64) (omega (arith, p.2, h)) k (omega (arith, p.2, h)) refl) in
      rw p.3 at there

  module _ (none_below : NoneBelow values) where
    bottom-least : le_z bottom least ≡ true
    bottom-least = let p = true_stands values i j l h in rw p.3 at (none_below p.0 (omega (arith, p.2, h)))

    bottom-entries : (v : ℤ) → least_of entries ≡ Some v → le_z bottom v ≡ true
    bottom-entries v e =
        under_least entries bottom v
        (under_part bottom first end index first_few end_few (λ b p q. let s = entry_stands values b (omega (arith, q, end_few, fitting)) in rw s.4 at (none_below s.0 s.3))) e

    abbrev low_b : ℕ → Option ℤ
    low_b B = low values index i j l h fitting B

    abbrev few : ℕ
    few = length (entry_looks i j)

    abbrev full : ℕ
    full = length (looks (length values) i j)

    -- "low is never above the true one"
    pub low_below : (B : ℕ) (v : ℤ) → low_b B ≡ Some v → le_z v least ≡ true
    low_below B v e = elim (lt_or_ge B few) [
      | inl b ↦ is bottom (low_early values index i j l h fitting B b) ∙ bottom-least
      | inr b ↦ elim (lt_or_ge B full) [
        | inl c ↦ entries_below v (sym (low_between values index i j l h fitting B b c) ∙ e)
        | inr c ↦ is least (low_full values index i j l h fitting B c ∙ high_exact B c) ∙ le_z_refl least
      ]
    ]
      where
        is : (u : ℤ) → low_b B ≡ Some u → le_z v least ≡ le_z u least
        is u q = ap (λ (x : ℤ). le_z x least) (same_some v u (sym e ∙ q))

    -- "a bigger budget never lowers low"
    pub low_rises : (B C : ℕ) (v w : ℤ) → B ≤ C → low_b B ≡ Some v → low_b C ≡ Some w → le_z v w ≡ true
    low_rises B C v w b e f = elim (lt_or_ge C full) [
      | inr c ↦ ap (le_z v) (same_some w least (sym f ∙ low_full values index i j l h fitting C c ∙ high_exact C c)) ∙ low_below B v e
      | inl c ↦ elim (lt_or_ge C few) [
        | inl d ↦ same (low_early values index i j l h fitting B (omega (arith, b, d)) ∙ sym (low_early values index i j l h fitting C d))
        | inr d ↦ elim (lt_or_ge B few) [
          | inl a ↦
              ap (λ (x : ℤ). le_z x w) (same_some v bottom (sym e ∙ low_early values index i j l h fitting B a))
              ∙ bottom-entries w (sym (low_between values index i j l h fitting C d c) ∙ f)
          | inr a ↦ same (low_between values index i j l h fitting B a (omega (arith, b, c)) ∙ sym (low_between values index i j l h fitting C d c))
        ]
      ]
    ]
      where
        same : low_b B ≡ low_b C → le_z v w ≡ true
        same q = ap (λ (x : ℤ). le_z x w) (same_some v w (sym e ∙ q ∙ f)) ∙ le_z_refl w

-- "raises a shown high or takes one away": the looks of a bigger budget are those of the smaller one, and more
pub high_falls : (values index : List ℤ) (i j B C : ℕ) (v : ℤ) → B ≤ C → high_after values index i j (looks_used (length values) i j B) ≡ Some v
    → (w : ℤ) × (high_after values index i j (looks_used (length values) i j C) ≡ Some w) × (le_z w v ≡ true)
high_falls values index i j B C v b e =
    let all : List Look = looks (length values) i j in
    let known = filter_map (known_from values index i j) in
    let more : List Look = take (C - B) (drop B all) in
    let q : C ≡ B + (C - B) = omega arith in
    let together : known (take C all) ≡ known (take B all) ++ known more =
    ap (λ (k : ℕ). known (take k all)) q ∙ ap known (take-add B (C - B) all) ∙ filter_map-append (known_from values index i j) (take B all) more in
    let f = lower_falls v (least_of (known more)) in
    (f.0, ap least_of together ∙ least_append (known (take B all)) (known more) ∙ ap (λ (o : Option ℤ). lower_of o (least_of (known more))) e ∙ f.1, f.2)
