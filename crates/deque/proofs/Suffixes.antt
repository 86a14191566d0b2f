-- The laws of the suffix minima: the first leaves or stays as the oldest position moves on, and a value that comes takes over the last ones.
use mathlib.Core.Path.{◌≡◌, refl, sym, ap, ◌∙◌}
use mathlib.Core.Bool.{Bool, true, false, cond}
use mathlib.Core.List.{List, [], ◌∷◌, ◌++◌}
use mathlib.Core.Logic.{⊎_elim}
use Prim.Native.Nat.{ℕ, zero, suc, ◌+◌, ◌-◌, ◌<◌, ◌≤◌}
use native.Mathlib.Nat.{eq-or-lt_of_le}
use native.Mathlib.Omega.{arith}
use lib.IntN.{ℤ}
use lib.Signed.{le_z}
use lib.ListN.{length, length-append}
use Rattle.laws.proofs.Tests.{clash, refuted}
use Rattle.history.specs.declared.Position.{Position}
use Rattle.history.specs.Minimum.{Minimum}
use Rattle.history.specs.Minima.{takes_over, stands_at, next, present_at, minimum}
use Rattle.history.proofs.Choice.{monotone, lower_as}
use Rattle.history.proofs.Lowest.{last_of_more, minimum_more, minimum_new, minimum_least, minimum_rises, minimum_later}
use Rattle.deque.specs.Suffixes.{start_of, SuffixMinima}

-- before the first value there are none
pub none_yet : (entry : ℕ → Minimum) → SuffixMinima [] (record { 0 = 1 }) 0 entry
none_yet entry = record { some = omega arith; starts = λ k l. absurd (omega arith); minima = λ k l. absurd (omega arith); ends = refl }

module _ {values : List ℤ} {i : Position} {count : ℕ} {entry : ℕ → Minimum} (s : SuffixMinima values i count entry) where
  abbrev start : ℕ → Position
  start = start_of i entry

  -- no entry stands before where it starts
  pub from : (k : ℕ) → k < count → 0 < (start k).0 → (start k).0 ≤ (entry k).place.0
  from k l z = omega (arith, ap (λ (m : Minimum). m.place.0) (s.minima k l), (minimum_least values (start k) z (s.starts k l)).from)

  -- each starts behind as many positions as entries come before it
  rises : (k : ℕ) → k ≤ count → i.0 + k ≤ (start k).0
  rises zero l = omega arith
  rises (suc k) l = let r = rises k (omega arith) in omega (arith, from k (omega arith) (omega (arith, r, s.some)))

  pub positive : (k : ℕ) → k ≤ count → 0 < (start k).0
  positive k l = omega (arith, rises k l, s.some)

  -- so there are no more than positions from i on
  pub few : i.0 + count ≤ length values + 1
  few = omega (arith, rises count (omega arith), s.ends)

  -- a later one starts later
  later : (j k : ℕ) → j ≤ k → k ≤ count → (start j).0 ≤ (start k).0
  later j zero l m =
      let z : j ≡ 0 = omega arith in
      let e : (start j).0 ≡ (start 0).0 = ap (λ (n : ℕ). (start n).0) z in
      omega (arith, e)
  later j (suc k) l m =
      ⊎_elim
      (λ (b : j ≡ suc k). let e : (start j).0 ≡ (start (suc k)).0 = ap (λ (n : ℕ). (start n).0) b in omega (arith, e))
      (λ (b : j < suc k). omega (arith, later j k (omega arith) (omega arith), from k (omega arith) (positive k (omega arith))))
      (eq-or-lt_of_le l)

  -- and its value is no smaller
  values_rise : (j k : ℕ) → j ≤ k → k < count → le_z (entry j).value (entry k).value ≡ true
  values_rise j k l h =
      rw (s.minima j (omega arith), s.minima k h)
      (minimum_rises values (start j) (start k) (positive j (omega arith)) (later j k l (omega arith)) (s.starts k h))

  -- THE FIRST LEAVES, where it stands at position i: those behind it are the suffix minima from the next position on
  pub leaves : (rest : ℕ → Minimum) (n : ℕ) → ((k : ℕ) → k < n → rest k ≡ entry (suc k)) → suc n ≡ count → (entry 0).place.0 ≡ i.0 → SuffixMinima values (next i) n rest
  leaves rest n same e p = record {
    some = omega arith;
    starts = λ k l. rw (moved k (omega arith)) (s.starts (suc k) (omega arith));
    minima = λ k l. rw (moved k (omega arith)) (same k l ∙ s.minima (suc k) (omega arith));
    ends = rw (moved n (omega arith)) (ap (λ (k : ℕ). (start k).0) e ∙ s.ends);
  }
    where
      moved : (k : ℕ) → k ≤ n → start_of (next i) rest k ≡ start (suc k)
      moved zero l = ap (λ (n : ℕ). record { 0 = n + 1 }) (sym p)
      moved (suc k) l = ap (λ (m : Minimum). next m.place) (same k (omega arith))

  -- THE FIRST STAYS, where it stands behind position i
  pub stays : 0 < count → i.0 < (entry 0).place.0 → SuffixMinima values (next i) count entry
  stays z p = record { some = omega arith; starts = starts; minima = minima; ends = ends count z s.ends }
    where
      first : entry 0 ≡ minimum values i
      first = s.minima 0 z

      starts : (k : ℕ) → k < count → (start_of (next i) entry k).0 ≤ length values
      starts zero l = omega (arith, ap (λ (m : Minimum). m.place.0) first, (minimum_least values i s.some (s.starts 0 z)).to)
      starts (suc k) l = s.starts (suc k) l

      minima : (k : ℕ) → k < count → entry k ≡ minimum values (start_of (next i) entry k)
      minima zero l = first ∙ sym (minimum_later values i s.some (s.starts 0 z) (omega (arith, ap (λ (m : Minimum). m.place.0) first)))
      minima (suc k) l = s.minima (suc k) l

      ends : (n : ℕ) → 0 < n → (start n).0 ≡ length values + 1 → (start_of (next i) entry n).0 ≡ length values + 1
      ends zero l e = absurd (omega arith)
      ends (suc n) l e = e

  -- A VALUE COMES: it takes over the entries from c on, and none before, and stands at the end
  module _ (v : ℤ) (c : ℕ) (new : ℕ → Minimum) (within : c ≤ count) (over : c < count → takes_over v (entry c).value ≡ true)
      (under : (k : ℕ) → k + 1 ≡ c → takes_over v (entry k).value ≡ false) (same : (k : ℕ) → k < c → new k ≡ entry k)
      (last : new c ≡ stands_at v (next (present_at values))) where
    abbrev more : List ℤ
    more = values ++ (v ∷ [])

    long : length more ≡ length values + 1
    long = length-append values (v ∷ [])

    starts_same : (k : ℕ) → k ≤ c → start_of i new k ≡ start k
    starts_same zero l = refl
    starts_same (suc k) l = ap (λ (m : Minimum). next m.place) (same k (omega arith))

    -- the entries before c are not taken over
    kept : (k : ℕ) → k < c → takes_over v (entry k).value ≡ false
    kept k l =
        refuted _ (λ e. clash (monotone v (entry k).value (entry (c - 1)).value (values_rise k (c - 1) (omega arith) (omega arith)) e) (under (c - 1) (omega arith)))

    -- an entry, with the value behind it
    lowered : (k : ℕ) → k < count → (b : Bool) → takes_over v (entry k).value ≡ b → minimum more (start k) ≡ cond b (stands_at v (next (present_at values))) (entry k)
    lowered k l b e =
        let m : Minimum = stands_at v (next (present_at values)) in
        minimum_more values v (start k) (positive k (omega arith)) (s.starts k l) ∙ lower_as m b (s.minima k l) e ∙ ap (cond b m) (sym (s.minima k l))

    starts : (k : ℕ) → k < suc c → (start_of i new k).0 ≤ length more
    starts k l = rw (starts_same k (omega arith)) (omega (arith, long, s.ends, later k count (omega arith) (omega arith)))

    newest : minimum more (start c) ≡ stands_at v (next (present_at values))
    newest =
        ⊎_elim
        (λ (e : c ≡ count).
        let p : start c ≡ present_at more = ap start e ∙ ap (λ (n : ℕ). record { 0 = n }) (s.ends ∙ sym long) in
        rw p (minimum_new more ∙ rw (last_of_more values v, long)))
        (λ (l : c < count). lowered c l true (over l))
        (eq-or-lt_of_le within)

    minima : (k : ℕ) → k < suc c → new k ≡ minimum more (start_of i new k)
    minima k l =
        let h : k ≤ c = omega arith in
        rw (starts_same k h)
        (⊎_elim
        (λ (e : k ≡ c). rw e (last ∙ sym newest))
        (λ (b : k < c). same k b ∙ sym (lowered k (omega arith) false (kept k b)))
        (eq-or-lt_of_le h))

    pub comes : (n : ℕ) → n ≡ suc c → SuffixMinima more i n new
    comes n e = rw e (record { some = s.some; starts = starts; minima = minima; ends = omega (arith, long, ap (λ (m : Minimum). m.place.0) last) })
