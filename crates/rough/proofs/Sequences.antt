-- Laws of lists: numbers in a row, the first of two lists together, and what looks at a row of elements show.
use mathlib.Core.Path.{◌≡◌, refl, sym, ap, ◌∙◌}
use mathlib.Core.List.{List, [], ◌∷◌, ◌++◌, map}
use Rattle.std.specs.List.{filter_map, cons_option}
use Rattle.std.specs.Prelude.{Option, None, Some}
use Rattle.std.specs.Option.{unwrap_or}
use Prim.Native.Nat.{ℕ, zero, suc, ◌+◌, ◌-◌, ◌<◌, ◌≤◌}
use native.Mathlib.Omega.{arith}
use lib.ListN.{length, get_or, take, drop}
use lib.Seq.{drop-cons}
use Rattle.rough.specs.Looks.{up_from}

pub length_up_from : (a n : ℕ) → length (up_from a n) ≡ n
unfolding up_from
length_up_from a zero = refl
length_up_from a (suc n) = ap suc (length_up_from (a + 1) n)

-- n numbers and then m more
up_from_add : (a n m : ℕ) → up_from a (n + m) ≡ up_from a n ++ up_from (a + n) m
unfolding up_from
up_from_add a zero m =
    let p : 0 + m ≡ m = omega arith in
    let q : a ≡ a + 0 = omega arith in
    ap (up_from a) p ∙ ap (λ (x : ℕ). up_from x m) q
up_from_add a (suc n) m =
    let p : suc n + m ≡ suc (n + m) = omega arith in
    let q : a + 1 + n ≡ a + suc n = omega arith in
    ap (up_from a) p ∙ ap (λ (xs : List ℕ). a ∷ xs) (up_from_add (a + 1) n m ∙ ap (λ (x : ℕ). up_from (a + 1) n ++ up_from x m) q)

-- a row in two parts, and in three
up_from_both : (a b c : ℕ) → a ≤ b → b ≤ c → up_from a (c - a) ≡ up_from a (b - a) ++ up_from b (c - b)
up_from_both a b c l m =
    let p : c - a ≡ b - a + (c - b) = omega arith in
    let q : a + (b - a) ≡ b = omega arith in
    ap (up_from a) p ∙ up_from_add a (b - a) (c - b) ∙ ap (λ (x : ℕ). up_from a (b - a) ++ up_from x (c - b)) q

pub up_from_parts : (a b c d : ℕ) → a ≤ b → b ≤ c → c ≤ d → up_from a (d - a) ≡ up_from a (b - a) ++ (up_from b (c - b) ++ up_from c (d - c))
up_from_parts a b c d l m h = up_from_both a b d l (omega arith) ∙ ap (λ (xs : List ℕ). up_from a (b - a) ++ xs) (up_from_both b c d m h)

-- the first k of two lists together
pub take_append : {A : Type 0} (k : ℕ) (xs ys : List A) → take k (xs ++ ys) ≡ take k xs ++ take (k - length xs) ys
take_append k [] ys = let q : k ≡ k - 0 = omega arith in take_nil_append k ys ∙ ap (λ (x : ℕ). take k [] ++ take x ys) q
  where
    take_nil_append : {A : Type 0} (k : ℕ) (ys : List A) → take k ys ≡ take k [] ++ take k ys
    take_nil_append zero ys = refl
    take_nil_append (suc k) ys = refl
take_append zero (x ∷ xs) ys = let q : 0 ≡ 0 - suc (length xs) = omega arith in ap (λ (z : ℕ). take z ys) q
take_append (suc k) (x ∷ xs) ys =
    let q : k - length xs ≡ suc k - suc (length xs) = omega arith in
    ap (λ (zs : List _). x ∷ zs) (take_append k xs ys ∙ ap (λ (z : ℕ). take k xs ++ take z ys) q)

pub same_some : {A : Type 0} (a b : A) → Some a ≡ Some b → a ≡ b
same_some a b e = ap (λ (o : Option _). unwrap_or o a) e

-- what is kept of the first of a list stands before what is kept of the others
kept_or_not : {A B : Type 0} (f : A → Option B) (x : A) (xs : List A) (o : Option B) → f x ≡ o → filter_map f (x ∷ xs) ≡ cons_option o (filter_map f xs)
kept_or_not f x xs o e = ap (λ (r : Option _). cons_option r (filter_map f xs)) e

-- a row of numbers of which none is kept, and of which each is
module _ {B : Type 0} (f : ℕ → Option B) where
  pub none_kept : (a n : ℕ) → ((b : ℕ) → a ≤ b → b < a + n → f b ≡ None) → filter_map f (up_from a n) ≡ []
  unfolding up_from
  none_kept a zero h = refl
  none_kept a (suc n) h =
      kept_or_not f a (up_from (a + 1) n) None (h a (omega arith) (omega arith)) ∙ none_kept (a + 1) n (λ b l m. h b (omega (arith, l)) (omega (arith, m)))

  pub all_kept : (g : ℕ → B) (a n : ℕ) → ((b : ℕ) → a ≤ b → b < a + n → f b ≡ Some (g b)) → filter_map f (up_from a n) ≡ map g (up_from a n)
  unfolding up_from
  all_kept g a zero h = refl
  all_kept g a (suc n) h =
      kept_or_not f a (up_from (a + 1) n) (Some (g a)) (h a (omega arith) (omega arith))
      ∙ ap (λ (zs : List B). g a ∷ zs) (all_kept g (a + 1) n (λ b l m. h b (omega (arith, l)) (omega (arith, m))))

module _ {A B : Type 0} (f : A → Option B) (g : ℕ → A) where
  -- looks at n elements of which none shows anything, as far as the budget k goes
  pub none_shown : (k a n : ℕ) → ((b : ℕ) → a ≤ b → b < a + n → f (g b) ≡ None) → filter_map f (take k (map g (up_from a n))) ≡ []
  unfolding up_from
  none_shown zero a zero h = refl
  none_shown zero a (suc n) h = refl
  none_shown (suc k) a zero h = refl
  none_shown (suc k) a (suc n) h =
      kept_or_not f (g a) (take k (map g (up_from (a + 1) n))) None (h a (omega arith) (omega arith))
      ∙ none_shown k (a + 1) n (λ b l m. h b (omega (arith, l)) (omega (arith, m)))

  -- and of which each shows the element of a list that stands there
  pub all_shown : (l : List B) (d : B) (k a n : ℕ) → a + n ≤ length l → ((b : ℕ) → a ≤ b → b < a + n → f (g b) ≡ Some (get_or l b d))
      → filter_map f (take k (map g (up_from a n))) ≡ take k (take n (drop a l))
  unfolding up_from
  all_shown l d zero a zero s h = refl
  all_shown l d zero a (suc n) s h = refl
  all_shown l d (suc k) a zero s h = refl
  all_shown l d (suc k) a (suc n) s h =
      let q : suc a ≡ a + 1 = omega arith in
      kept_or_not f (g a) (take k (map g (up_from (a + 1) n))) (Some (get_or l a d)) (h a (omega arith) (omega arith))
      ∙ ap (λ (zs : List B). get_or l a d ∷ zs) (all_shown l d k (a + 1) n (omega arith) (λ b m e. h b (omega (arith, m)) (omega (arith, e))))
      ∙ sym (ap (λ (zs : List B). take (suc k) (take (suc n) zs)) (drop-cons l a d (omega arith) ∙ ap (λ (x : ℕ). get_or l a d ∷ drop x l) q))
