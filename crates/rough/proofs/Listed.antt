-- The definition's list of looks, in other words: which looks are in it, and their order.
use mathlib.Core.Path.{◌≡◌, refl, sym, ap, ◌∙◌}
use mathlib.Core.Bool.{Bool, true, false, cond, true≢false}
use mathlib.Core.List.{List, [], ◌∷◌, ◌++◌}
use Rattle.std.specs.List.{filter_map, cons_option}
use mathlib.Core.Logic.{◌⊎◌, inl, inr}
use Rattle.std.specs.Prelude.{Option, None, Some}
use Rattle.std.proofs.lemmas.Option.{none-some}
use Rattle.rough.proofs.Sequences.{same_some, all_kept}
use Prim.Native.Nat.{ℕ, zero, suc, ◌+◌, ◌*◌, ◌-◌, ◌/◌, ◌<◌, ◌≤◌, min, max}
use native.Mathlib.Omega.{arith}
use Rattle.laws.proofs.Tests.{lt_or_ge}
use Rattle.rough.specs.Looks.{Look, Entry, Value, up_from, wholly_inside, entry_looks, edge_look, value_looks}
use Rattle.rough.specs.Promises.{Partly, Among, Before, InOrder, EveryLook}
use Rattle.rough.proofs.Orders.{inside, begins_before, ends_behind}

-- the number of a look
abbrev at : Look → ℕ
at (Entry b) = b
at (Value k) = k

entry_is_value : {b k : ℕ} → Entry b ≡ Value k → ⊥
entry_is_value e = true≢false (ap is_entry e)
  where
    is_entry : Look → Bool
    is_entry (Entry b) = true
    is_entry (Value k) = false

-- among two lists
among_left : (x : Look) (xs ys : List Look) → Among x xs → Among x (xs ++ ys)
among_left x [] ys m = elim m [ ]
among_left x (y ∷ xs) ys (inl e) = inl e
among_left x (y ∷ xs) ys (inr m) = inr (among_left x xs ys m)

among_right : (x : Look) (xs ys : List Look) → Among x ys → Among x (xs ++ ys)
among_right x [] ys m = m
among_right x (y ∷ xs) ys m = inr (among_right x xs ys m)

among_either : (x : Look) (xs ys : List Look) → Among x (xs ++ ys) → Among x xs ⊎ Among x ys
among_either x [] ys m = inr m
among_either x (y ∷ xs) ys (inl e) = inl (inl e)
among_either x (y ∷ xs) ys (inr m) = elim (among_either x xs ys m) [ inl n ↦ inl (inr n) | inr n ↦ inr n ]

in_order_append : (xs ys : List Look) → InOrder xs → InOrder ys → ((x y : Look) → Among x xs → Among y ys → Before x y) → InOrder (xs ++ ys)
in_order_append [] ys o p f = p
in_order_append (x ∷ xs) ys o p f = (
  λ y m. elim (among_either y xs ys m) [ inl n ↦ o.0 y n | inr n ↦ f x y (inl refl) n ],
  in_order_append xs ys o.1 p (λ a b m n. f a b (inr m) n),
)

-- looks that are kept of a row of numbers
module _ (f : ℕ → Option Look) where
  kept : (x : Look) (a c k : ℕ) → a ≤ k → k < a + c → f k ≡ Some x → Among x (filter_map f (up_from a c))
  unfolding up_from
  kept x a zero k l h e = absurd (omega (arith, l, h))
  kept x a (suc c) k l h e = elim (lt_or_ge a k) [
    | inl m ↦ later (f a) (kept x (a + 1) c k (omega (arith, m)) (omega (arith, h)) e)
    | inr m ↦ let q : k ≡ a = omega (arith, l, m) in here (f a) (sym (ap f q) ∙ e)
  ]
    where
      later : (o : Option Look) → Among x (filter_map f (up_from (a + 1) c)) → Among x (cons_option o (filter_map f (up_from (a + 1) c)))
      later None m = m
      later (Some y) m = inr m

      here : (o : Option Look) → o ≡ Some x → Among x (cons_option o (filter_map f (up_from (a + 1) c)))
      here None e = absurd (none-some x e)
      here (Some y) e = inl (sym (same_some y x e))

  kept_only : (x : Look) (a c : ℕ) → Among x (filter_map f (up_from a c)) → (k : ℕ) × (a ≤ k) × (k < a + c) × (f k ≡ Some x)
  unfolding up_from
  kept_only x a zero m = elim m [ ]
  kept_only x a (suc c) m = go (λ n. let r = kept_only x (a + 1) c n in (r.0, omega (arith, r.1), omega (arith, r.2), r.3)) (f a) refl m
    where
      go : (Among x (filter_map f (up_from (a + 1) c)) → (k : ℕ) × (a ≤ k) × (k < a + suc c) × (f k ≡ Some x)) → (o : Option Look) → f a ≡ o → Among x (cons_option o (filter_map f (up_from (a + 1) c)))
          → (k : ℕ) × (a ≤ k) × (k < a + suc c) × (f k ≡ Some x)
      go behind None e m = behind m
      go behind (Some y) e (inl q) = (a, omega arith, omega arith, e ∙ ap Some (sym q))
      go behind (Some y) e (inr m) = behind m

  -- where each that is kept stands before those behind it, they stand in order
  kept_in_order : ((k m : ℕ) (x y : Look) → k < m → f k ≡ Some x → f m ≡ Some y → Before x y) → (a c : ℕ) → InOrder (filter_map f (up_from a c))
  unfolding up_from
  kept_in_order g a zero = tt
  kept_in_order g a (suc c) = go (kept_in_order g (a + 1) c) (f a) refl
    where
      go : InOrder (filter_map f (up_from (a + 1) c)) → (o : Option Look) → f a ≡ o → InOrder (cons_option o (filter_map f (up_from (a + 1) c)))
      go behind None e = behind
      go behind (Some x) e = (λ y m. let r = kept_only y (a + 1) c m in g a r.0 x y (omega (arith, r.1)) e r.3, behind)

-- the entries: a row, each of which is kept
entries_kept : (i j : ℕ) → entry_looks i j ≡ filter_map (λ (b : ℕ). Some (Entry b)) (up_from (i / 64) (j / 64 + 1 - i / 64))
entries_kept i j = sym (all_kept (λ (b : ℕ). Some (Entry b)) Entry (i / 64) (j / 64 + 1 - i / 64) (λ b p q. refl))

module _ (n i j : ℕ) (l : i ≤ j) (h : j < n) where
  entry_among : (x : Look) → Among x (entry_looks i j) → (b : ℕ) × (i / 64 ≤ b) × (b < j / 64 + 1) × (x ≡ Entry b)
  entry_among x m =
      let r = kept_only (λ (b : ℕ). Some (Entry b)) x (i / 64) (j / 64 + 1 - i / 64) (rw (entries_kept i j) at m) in
      (r.0, r.1, omega (arith, r.1, r.2, l), sym (same_some (Entry r.0) x r.3))

  -- a value is kept where its block is not wholly inside
  edge_is : (k : ℕ) (x : Look) → edge_look n i j k ≡ Some x → (wholly_inside n i j (k / 64) ≡ false) × (x ≡ Value k)
  edge_is k x = go (wholly_inside n i j (k / 64)) refl
    where
      go : (t : Bool) → wholly_inside n i j (k / 64) ≡ t → cond t None (Some (Value k)) ≡ Some x → (wholly_inside n i j (k / 64) ≡ false) × (x ≡ Value k)
      go true q e = absurd (none-some x e)
      go false q e = (q, sym (same_some (Value k) x e))

  value_among : (x : Look) → Among x (value_looks n i j) → (k : ℕ) × (i ≤ k) × (k ≤ j) × (wholly_inside n i j (k / 64) ≡ false) × (x ≡ Value k)
  value_among x m =
      let r = kept_only (edge_look n i j) x i (j + 1 - i) m in
      let e = edge_is r.0 x r.3 in
      (r.0, r.1, omega (arith, r.2, l), e.0, e.1)

  -- a block is only partly inside just where it is not wholly inside
  pub partly : (k : ℕ) → i ≤ k → k ≤ j → Partly n i j (k / 64) → wholly_inside n i j (k / 64) ≡ false
  partly k f t (m, s, e, inl b) = begins_before n i j (k / 64) (omega (arith, e, b))
  partly k f t (m, s, e, inr b) = elim (lt_or_ge (64 * (k / 64)) i) [
    | inl c ↦ begins_before n i j (k / 64) c
    | inr c ↦ ends_behind n i j (k / 64) c (omega (arith, e, b, s))
  ]

  pub not_whole : (k : ℕ) → i ≤ k → k ≤ j → wholly_inside n i j (k / 64) ≡ false → Partly n i j (k / 64)
  not_whole k f t e = elim (lt_or_ge (64 * (k / 64)) i) [
    | inl c ↦ (64 * (k / 64), omega (arith, t, h), omega arith, inl c)
    | inr c ↦ elim (lt_or_ge (j + 1) (min (64 * (k / 64) + 64) n)) [
      | inl d ↦ (j + 1, omega (arith, d), omega (arith, d, t), inr (omega arith))
      | inr d ↦ absurd (true≢false (sym (inside n i j (k / 64) c d) ∙ e))
    ]
  ]

  pub every_look : EveryLook n i j
  every_look = record {
    entry = λ b m.
        among_left (Entry b) (entry_looks i j) (value_looks n i j)
        (rw (entries_kept i j) (kept (λ (c : ℕ). Some (Entry c)) (Entry b) (i / 64) (j / 64 + 1 - i / 64) b (omega (arith, m.1, m.3)) (omega (arith, m.2, m.3, l)) refl));
    only_met = λ b m. elim (among_either (Entry b) (entry_looks i j) (value_looks n i j) m) [
      | inl p ↦ let r = entry_among (Entry b) p in let q : b ≡ r.0 = ap at r.3 in (max i (64 * b), omega arith, omega (arith, r.2, q, l), omega (arith, r.1, q))
      | inr p ↦ let r = value_among (Entry b) p in absurd (entry_is_value r.4)
    ];
    value = λ k f t p.
        among_right (Value k) (entry_looks i j) (value_looks n i j)
        (kept (edge_look n i j) (Value k) i (j + 1 - i) k f (omega (arith, t, l)) (ap (λ (b : Bool). cond b None (Some (Value k))) (partly k f t p)));
    only_partly = λ k m. elim (among_either (Value k) (entry_looks i j) (value_looks n i j) m) [
      | inl p ↦ let r = entry_among (Value k) p in absurd (entry_is_value (sym r.3))
      | inr p ↦
          let r = value_among (Value k) p in
          let q : r.0 ≡ k = sym (ap at r.4) in
          (rw q at r.1, rw q at r.2, rw q at (not_whole r.0 r.1 r.2 r.3))
    ];
    order =
        in_order_append (entry_looks i j) (value_looks n i j)
        (rw (entries_kept i j) (kept_in_order (λ (b : ℕ). Some (Entry b)) (λ k m x y s e f. entries_before k m x y s e f) (i / 64) (j / 64 + 1 - i / 64)))
        (kept_in_order (edge_look n i j) (λ k m x y s e f. values_before k m x y s (edge_is k x e).1 (edge_is m y f).1) i (j + 1 - i))
        (λ x y m p. let r = entry_among x m in let s = value_among y p in rw (r.3, s.4) tt);
  }
    where
      entries_before : (k m : ℕ) (x y : Look) → k < m → Some (Entry k) ≡ Some x → Some (Entry m) ≡ Some y → Before x y
      entries_before k m x y s e f = rw (sym (same_some (Entry k) x e), sym (same_some (Entry m) y f)) s

      values_before : (k m : ℕ) (x y : Look) → k < m → x ≡ Value k → y ≡ Value m → Before x y
      values_before k m x y s e f = rw (e, f) s
