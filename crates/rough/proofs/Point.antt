-- POINT 6, from the contract: an accepted reading is the definition's figures after the looks that are used. So each clause is a law of these: of their stages, of what they make known, of both sides of the least
-- value, and of what they read.
use mathlib.Core.Path.{◌≡◌, refl, sym, ap, ◌∙◌}
use mathlib.Core.List.{List}
use Rattle.std.specs.Prelude.{None, Some}
use Prim.Native.Nat.{ℕ, ◌+◌, ◌/◌, ◌<◌, ◌≤◌}
use native.Mathlib.Omega.{arith}
use lib.IntN.{ℤ}
use lib.ListN.{length, length-take}
use borrow.Author.Tests.{eq-eqb, ne_eqb}
use Rattle.history.proofs.Steps.{some_number}
use Rattle.blocks.specs.Takes.{block_count, block_minima, least_of}
use Rattle.blocks.specs.Promises.{Fitting, Outside}
use Rattle.blocks.proofs.Refusals.{in_range}
use Rattle.blocks.proofs.Indexes.{length_index}
use Rattle.blocks.proofs.Point.{outside_range}
use Rattle.std.specs.Prelude.{Result, Ok, Err}
use Rattle.history.specs.declared.Refusal.{Refusal}
use Rattle.rough.specs.declared.Figures.{Figures}
use Rattle.rough.specs.Looks.{entry_looks, looks, looks_used, high_after, low_after, ToldReading, figures_after, refused_with, rough_reading, told}
use Rattle.rough.specs.Promises.{ReadSays, bottom, EveryReading, Point6}
use Rattle.rough.proofs.Shows.{met, length_entries}
use Rattle.rough.proofs.Budgets.{length_part}
use Rattle.rough.proofs.Bounds.{get_d_part, part_under, least_under, least_one}
use Rattle.rough.proofs.Listed.{every_look}
use Rattle.rough.proofs.Knowing.{high_one, high_under, high_none}
use Rattle.rough.proofs.Stages.{low_early, low_between, low_full}
use Rattle.rough.proofs.Bracket.{high_above, high_exact, low_below, low_rises, high_falls}
use Rattle.rough.proofs.Agreement.{same_reading}

-- what is refused, and what is not
module _ (values index : List ℤ) (i j B : ℕ) where
  refused_index : (Fitting values index → ⊥) → rough_reading values index i j B ≡ refused_with 15
  refused_index n = simp (ne_eqb (length index) (block_count (length values)) n)

  refused_range : Fitting values index → Outside values i j → rough_reading values index i j B ≡ refused_with 14
  refused_range n o = simp (eq-eqb (length index) (block_count (length values)) n, outside_range values i j o)

  not_refused : Fitting values index → i ≤ j → j < length values → rough_reading values index i j B ≡ figures_after values index i j (looks_used (length values) i j B)
  not_refused n l h = simp (eq-eqb (length index) (block_count (length values)) n, in_range (length values) i j l h)

-- EVERY READING
module _ (values index : List ℤ) (i j B : ℕ) (r : Result Figures Refusal) (d : told r ≡ rough_reading values index i j B) where
  shown_figures : Fitting values index → i ≤ j → j < length values → told r ≡ figures_after values index i j (looks_used (length values) i j B)
  shown_figures n l h = d ∙ not_refused values index i j B n l h

  -- a reading that is accepted has a low figure
  some-low : (s : Result Figures Refusal) → (told s).number ≡ 0 → (v : ℤ) × ((told s).low ≡ Some v)
  some-low (Ok f) e = (f.low, refl)
  some-low (Err why) e = absurd (some_number why e)

  entries_some : i ≤ j → 0 < length (entry_looks i j)
  entries_some l = omega (arith, length_entries i j, l)

  every_reading : EveryReading values index i j B r
  every_reading = record {
    other_index = λ n. d ∙ refused_index values index i j B n;
    outside = λ n o. d ∙ refused_range values index i j B n o;
    accepted = λ n l h. ap (λ (t : ToldReading). t.number) (shown_figures n l h);
    count = λ n l h. ap (λ (t : ToldReading). t.looks) (shown_figures n l h) ∙ length-take B (looks (length values) i j);
    low = λ n l h. some-low r (ap (λ (t : ToldReading). t.number) (shown_figures n l h));
    nothing = λ n l h e.
        let none-used : figures_after values index i j (looks_used (length values) i j 0) ≡ record { number = 0; looks = 0; high = None; low = Some bottom } = λ x. record {
          number = 0;
          looks = 0;
          high = None;
          low = low_early values index i j l h n 0 (entries_some l) x;
        } in
        shown_figures n l h ∙ ap (λ (b : ℕ). figures_after values index i j (looks_used (length values) i j b)) e ∙ none-used;
    between = λ n l h b c v e.
        let least : least_of (met values index i j l h n) ≡ Some v =
        sym (ap (λ (t : ToldReading). t.low) (shown_figures n l h) ∙ low_between values index i j l h n B (omega (arith, length_entries i j, b)) c) ∙ e in
        let o = least_one (met values index i j l h n) v least in
        let first : i / 64 ≤ j / 64 + 1 = omega (arith, l) in
        let few : j / 64 + 1 ≤ length index = omega (arith, n, h) in
        let long = length_part (i / 64) (j / 64 + 1) index first few in (
          (i / 64 + o.0, omega arith, omega (arith, o.1, long), sym (get_d_part (i / 64) (j / 64 + 1) index o.0 (omega (arith, o.1, long))) ∙ o.2),
          λ d p q. part_under v (i / 64) (j / 64 + 1) index first few (least_under (met values index i j l h n) v least) d p (omega (arith, q)),
        );
    full = λ n l h b.
        ap (λ (t : ToldReading). t.low) (shown_figures n l h) ∙ low_full values index i j l h n B b ∙ sym (ap (λ (t : ToldReading). t.high) (shown_figures n l h));
    high = λ n l h v e.
        let is : high_after values index i j (looks_used (length values) i j B) ≡ Some v = sym (ap (λ (t : ToldReading). t.high) (shown_figures n l h)) ∙ e in
        (high_one values index i j l h B v is, high_under values index i j l h B v is);
    unknown = λ n l h e. high_none values index i j l h B (sym (ap (λ (t : ToldReading). t.high) (shown_figures n l h)) ∙ e);
    early = λ n l h b. ap (λ (t : ToldReading). t.low) (shown_figures n l h) ∙ low_early values index i j l h n B (omega (arith, length_entries i j, b));
  }

-- of a function of which at least the contract is known
pub point_6 : (reads : ReadSays) → ((values index : List ℤ) (i j B : ℕ) (r : Result Figures Refusal) → reads values index i j B r → told r ≡ rough_reading values index i j B) → Point6 reads
point_6 reads f = record {
  looked = every_look;
  reading = λ values index i j B r d. every_reading values index i j B r (f values index i j B r d);
  built = λ values index i j B r d e l h.
      let shown : told r ≡ figures_after values (block_minima values) i j (looks_used (length values) i j B) =
      f values index i j B r d ∙ ap (λ (xs : List ℤ). rough_reading values xs i j B) e ∙ not_refused values (block_minima values) i j B (length_index values) l h in
      let high : (told r).high ≡ high_after values (block_minima values) i j (looks_used (length values) i j B) = ap (λ (t : ToldReading). t.high) shown in
      let low : (told r).low ≡ low_after values (block_minima values) i j (looks_used (length values) i j B) = ap (λ (t : ToldReading). t.low) shown in
      record {
        exact = λ b. (high ∙ high_exact values i j l h B b, low ∙ low_full values (block_minima values) i j l h (length_index values) B b ∙ high_exact values i j l h B b);
        below = λ n v s. low_below values i j l h n B v (sym low ∙ s);
        above = λ v s. high_above values i j l h B v (sym high ∙ s);
      };
  bigger = λ values index i j B C r s d e n l h b.
      let shown : (D : ℕ) (t : Result Figures Refusal) → reads values index i j D t → told t ≡ figures_after values index i j (looks_used (length values) i j D) = λ D t g.
      f values index i j D t g ∙ not_refused values index i j D n l h in
      record {
        low = λ q m v w x y.
            let over : (D : ℕ) (t : Result Figures Refusal) → reads values index i j D t → (told t).low ≡ low_after values (block_minima values) i j (looks_used (length values) i j D) = λ D t g.
            ap (λ (u : ToldReading). u.low) (shown D t g) ∙ ap (λ (xs : List ℤ). low_after values xs i j (looks_used (length values) i j D)) q in
            low_rises values i j l h m B C v w b (sym (over B r d) ∙ x) (sym (over C s e) ∙ y);
        high = λ v x.
            let falls = high_falls values index i j B C v b (sym (ap (λ (u : ToldReading). u.high) (shown B r d)) ∙ x) in
            (falls.0, ap (λ (u : ToldReading). u.high) (shown C s e) ∙ falls.1, falls.2);
      };
  agreed = λ values index others entries i j B r s d e n m q.
      f values index i j B r d ∙ same_reading values index others entries i j n B m q ∙ sym (f others entries i j B s e);
}
