-- Looks at parts of a list, one part after the other: what the budget leaves, and the least of what is seen.
use mathlib.Core.Path.{◌≡◌, sym, ap, ◌∙◌}
use mathlib.Core.List.{List, ◌++◌}
use Prim.Native.Nat.{ℕ, ◌+◌, ◌-◌, ◌≤◌}
use native.Mathlib.Omega.{arith}
use lib.IntN.{ℤ}
use lib.ListN.{length, take, drop, length-append, length-take, length-drop}
use lib.Seq.{take-add, drop-drop}
use Rattle.std.specs.Prelude.{Option}
use Rattle.blocks.specs.Takes.{least_of}
use Rattle.rough.specs.declared.Seen.{Seen}
use Rattle.rough.specs.declared.Entries.{Entries}
use Rattle.rough.specs.Private.{lower_of, Sees, SeesEntries, SeesValues}
use Rattle.rough.proofs.Sequences.{take_append}
use Rattle.rough.proofs.Leasts.{least_append}

-- the elements from a to before b
abbrev pub part : (a b : ℕ) → List ℤ → List ℤ
part a b l = take (b - a) (drop a l)

pub length_part : (a b : ℕ) (l : List ℤ) → a ≤ b → b ≤ length l → length (part a b l) ≡ b - a
length_part a b l h s = omega (arith, length-take (b - a) (drop a l), length-drop a l)

-- two parts that stand side by side are one
side_by_side : (a b c : ℕ) (l : List ℤ) → a ≤ b → b ≤ c → part a c l ≡ part a b l ++ part b c l
side_by_side a b c l h s =
    let p : c - a ≡ b - a + (c - b) = omega arith in
    let q : a + (b - a) ≡ b = omega arith in
    ap (λ (k : ℕ). take k (drop a l)) p
    ∙ take-add (b - a) (c - b) (drop a l)
    ∙ ap (λ (xs : List ℤ). part a b l ++ take (c - b) xs) (drop-drop (b - a) a l ∙ ap (λ (k : ℕ). drop k l) q)

-- looks at one list and then at another
two_seen : (x y u : Option ℤ) (B : ℕ) (xs ys : List ℤ) → x ≡ least_of (take B xs) → y ≡ least_of (take (B - length xs) ys) → u ≡ lower_of x y → u ≡ least_of (take B (xs ++ ys))
two_seen x y u B xs ys p q e =
    e ∙ ap (λ (o : _). lower_of o y) p ∙ ap (lower_of (least_of (take B xs))) q
    ∙ sym (least_append (take B xs) (take (B - length xs) ys)) ∙ sym (ap least_of (take_append B xs ys))

rest_after : (B m n r s : ℕ) → r ≡ B - m → s ≡ r - n → s ≡ B - (m + n)
rest_after B m n r s p q = omega (arith, p, q)

-- at values in two parts
pub values_seen : (before behind : List ℤ) (B : ℕ) (s t : Seen) (u : Option ℤ) → Sees before B s → Sees behind s.rest t → u ≡ lower_of s.least t.least
    → SeesValues before behind B (record { rest = t.rest; least = u })
values_seen before behind B s t u p q h = record {
  rest = rest_after B (length before) (length behind) s.rest t.rest p.rest q.rest ∙ ap (λ (k : ℕ). B - k) (sym (length-append before behind));
  least = two_seen s.least t.least u B before behind p.least (q.least ∙ ap (λ (k : ℕ). least_of (take k behind)) p.rest) h;
}

-- at entries in three
pub entries_seen : (before inside behind : List ℤ) (B : ℕ) (s t r : Seen) (u v : Option ℤ) → Sees before B s → Sees inside s.rest t → Sees behind t.rest r
    → u ≡ lower_of s.least t.least → v ≡ lower_of u r.least → SeesEntries before inside behind B (record { rest = r.rest; all = v; whole = t.least })
entries_seen before inside behind B s t r u v a b c p q =
    let both = values_seen before inside B s t u a b p in
    let all = values_seen (before ++ inside) behind B (record { rest = t.rest; least = u }) r v (record { rest = both.rest; least = both.least }) c q in
    record { rest = all.rest; all = all.least; whole = b.least ∙ ap (λ (k : ℕ). least_of (take k inside)) a.rest }

-- THE PARTS of an index and of a take that are looked at, as they stand there
pub record EntriesSeen (index : List ℤ) (first inner outer end B : ℕ) (r : Entries) : Type 0 where
  pub rest : r.rest ≡ B - (end - first)
  pub all : r.all ≡ least_of (take B (part first end index))
  pub whole : r.whole ≡ least_of (take (B - (inner - first)) (part inner outer index))

pub entries_in : (index : List ℤ) (first inner outer end B : ℕ) (r : Entries) → first ≤ inner → inner ≤ outer → outer ≤ end → end ≤ length index
    → SeesEntries (part first inner index) (part inner outer index) (part outer end index) B r → EntriesSeen index first inner outer end B r
entries_in index first inner outer end B r f g h k s =
    let both : part first inner index ++ part inner outer index ≡ part first outer index = sym (side_by_side first inner outer index f g) in
    let one : part first inner index ++ part inner outer index ++ part outer end index ≡ part first end index =
    ap (λ (xs : List ℤ). xs ++ part outer end index) both ∙ sym (side_by_side first outer end index (omega arith) h) in
    record {
      rest = s.rest ∙ ap (λ (xs : List ℤ). B - length xs) one ∙ ap (λ (n : ℕ). B - n) (length_part first end index (omega arith) k);
      all = s.all ∙ ap (λ (xs : List ℤ). least_of (take B xs)) one;
      whole = s.whole ∙ ap (λ (n : ℕ). least_of (take (B - n) (part inner outer index))) (length_part first inner index f (omega arith));
    }

pub record ValuesSeen (values : List ℤ) (i a z e B : ℕ) (r : Seen) : Type 0 where
  pub rest : r.rest ≡ B - (a - i + (e - z))
  pub least : r.least ≡ least_of (take B (part i a values ++ part z e values))

pub values_in : (values : List ℤ) (i a z e B : ℕ) (r : Seen) → i ≤ a → a ≤ z → z ≤ e → e ≤ length values → SeesValues (part i a values) (part z e values) B r → ValuesSeen values i a z e B r
values_in values i a z e B r f g h k s =
    let long : length (part i a values ++ part z e values) ≡ a - i + (e - z) =
    length-append (part i a values) (part z e values) ∙ ap (λ (n : ℕ). n + length (part z e values)) (length_part i a values f (omega arith))
    ∙ ap (λ (n : ℕ). a - i + n) (length_part z e values h k) in
    record { rest = s.rest ∙ ap (λ (n : ℕ). B - n) long; least = s.least }
