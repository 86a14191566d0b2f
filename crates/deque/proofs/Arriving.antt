-- The deque's words as its functions write them: cleared, and after a value has come.
use mathlib.Core.Path.{◌≡◌, refl, sym, ap, ◌∙◌, subst}
use mathlib.Core.Bool.{true, false}
use mathlib.Core.List.{List, [], ◌∷◌, ◌++◌}
use mathlib.Core.Logic.{◌⊎◌, inl, inr, ⊎_elim}
use Prim.Native.Nat.{ℕ, suc, ◌+◌, ◌-◌, ◌<◌, ◌≤◌}
use native.Mathlib.Nat.{eq-or-lt_of_le, eq-zero-or-pos}
use native.Mathlib.Omega.{arith}
use lib.IntN.{ℤ}
use lib.ListN.{length, get_or, set, length-set, length-append}
use lib.Seq.{get_or-set_same, get_or-set_other}
use borrow.Author.Tests.{leb-true, leb-false}
use Rattle.std.specs.Prelude.{Option, Some, None}
use Rattle.history.specs.declared.Position.{Position}
use Rattle.history.specs.Minimum.{Minimum}
use Rattle.history.specs.Minima.{stands_at, next, present_at, minimum}
use Rattle.deque.specs.Suffixes.{start_of, SuffixMinima}
use Rattle.packing.specs.Packing.{place_in, unpacked}
use Rattle.deque.specs.Words.{front, count, entry_word, entry_at, Twice, Holds}
use Rattle.deque.specs.declared.Ring.{Ring}
use Rattle.deque.specs.Calls.{Cleared, SlotAfter, Alone, Put, Comes, Arrived}
use Rattle.deque.specs.Left.{gone, Rest, Stayed, NoneStayed, Left}
use Rattle.deque.proofs.Suffixes.{none_yet, from, few, leaves, stays, comes}

-- word 0 is 0, and so is the number of entries
pub cleared : (w : List ℕ) → 0 < length w → Cleared w (set w 0 0)
cleared w l =
    let h : get_or (set w 0 0) 0 0 ≡ 0 = get_or-set_same w 0 0 0 l in
    record {
      long = simp length-set;
      kept = λ i z. get_or-set_other w 0 i 0 0 (λ e. omega arith);
      holds = λ slots r. record {
        room = record { some = r.some; few = r.few; wide = simp length-set r.wide };
        within = omega (arith, h, r.some);
        fits = omega (arith, r.some);
        holds = rw h (none_yet _);
        twice = λ k l. absurd (omega (arith, h));
      };
    }

-- a value comes to words that hold the suffix minima from position i on
module _ {w : List ℕ} {slots : ℕ} {values : List ℤ} {i oldest place : Position} (q : Holds w slots values i) (c : Comes values i oldest slots place) where
  at : place.0 ≡ length values + 1
  at = ap (λ (x : Position). x.0) c.at

  whole : Stayed w slots values i (front w) (count w)
  whole = record { slot = q.within; holds = q.holds; twice = q.twice }

  -- the front entry is no earlier than i
  first : 0 < count w → i.0 ≤ (place_in (entry_word w (front w) 0)).0
  first z = from q.holds 0 z q.holds.some

  -- where there is none, the oldest position is what it was: no value stands between
  none_moves : count w ≡ 0 → oldest ≡ i
  none_moves z =
      ⊎_elim
      (λ (e : oldest ≡ i). e)
      (λ (e : oldest ≡ next i).
      let f : (start_of i (entry_at w (front w)) (count w)).0 ≡ i.0 = ap (λ (n : ℕ). (start_of i (entry_at w (front w)) n).0) z in
      absurd (omega (arith, at, c.before, ap (λ (x : Position). x.0) e, q.holds.ends)))
      c.moves

  -- where any has left, there are as many positions from the oldest one on as slots
  as_many : oldest ≡ next i → oldest.0 + slots ≡ place.0 + 1
  as_many e =
      let o : oldest.0 ≡ i.0 + 1 = ap (λ (x : Position). x.0) e in
      ⊎_elim (λ (x : oldest.0 ≡ 1). absurd (omega (arith, q.holds.some))) (λ (x : oldest.0 + slots ≡ place.0 + 1). x) c.tight

  -- THE FRONT ENTRY STAYS, where fewer positions than there are slots have come since
  stayed : place.0 < (place_in (entry_word w (front w) 0)).0 + slots → Stayed w slots values oldest (front w) (count w)
  stayed b = elim (eq-zero-or-pos (count w)) [
    | inl z ↦ rw (none_moves z) whole
    | inr z ↦
        ⊎_elim
        (λ (e : oldest ≡ i). rw e whole)
        (λ (e : oldest ≡ next i).
        let o : oldest.0 ≡ i.0 + 1 = ap (λ (x : Position). x.0) e in
        rw e (record { slot = q.within; holds = stays q.holds z (omega (arith, as_many e)); twice = q.twice }))
        c.moves
  ]

  -- IT LEAVES, where as many have come: it stood at i, and the oldest position is the next one
  module _ (b : (place_in (entry_word w (front w) 0)).0 + slots ≤ place.0) (z : 0 < count w) where
    leaves_next : (oldest ≡ next i) × ((entry_at w (front w) 0).place.0 ≡ i.0)
    leaves_next =
        ⊎_elim
        (λ (e : oldest ≡ i). let o : oldest.0 ≡ i.0 = ap (λ (x : Position). x.0) e in absurd (omega (arith, first z, c.wide)))
        (λ (e : oldest ≡ next i). let o : oldest.0 ≡ i.0 + 1 = ap (λ (x : Position). x.0) e in (e, omega (arith, first z, as_many e)))
        c.moves

    -- the next entry is then the front, in the slot behind it or, after the last slot, in the first, where it stands once more
    left : {f n : ℕ} → n + 1 ≡ count w → SlotAfter slots (front w) f → Stayed w slots values oldest f n
    left {f} {n} e (inl (g, l)) = rw leaves_next.0 (record {
      slot = l;
      holds = leaves q.holds (entry_at w f) n (λ k l. ap (λ (x : ℕ). unpacked (get_or w x 0)) (omega (arith, g))) (omega (arith, e)) leaves_next.1;
      twice = λ k l b.
          let x = q.twice (k + 1) (omega (arith, e)) (omega (arith, g)) in
          ap (λ (y : ℕ). get_or w y 0) (omega (arith, g)) ∙ x ∙ ap (λ (y : ℕ). get_or w y 0) (omega (arith, g));
    })
    left {f} {n} e (inr (g, o)) = rw leaves_next.0 (record {
      slot = omega (arith, q.room.some);
      holds = leaves q.holds (entry_at w f) n
          (λ k l. ap unpacked (ap (λ (x : ℕ). get_or w x 0) (omega (arith, g, o)) ∙ q.twice (suc k) (omega (arith, e)) (omega (arith, o)))) (omega (arith, e)) leaves_next.1;
      twice = λ k l b. absurd (omega (arith, g, e, few q.holds, q.fits));
    })

-- the words after the value has come, from what is left of the suffix minima
module _ (m : Minimum) {w : List ℕ} {slots : ℕ} {values : List ℤ} {i oldest : Position} (q : Holds w slots values i) (c : Comes values i oldest slots m.place) where
  newest : m ≡ stands_at m.value (next (present_at values))
  newest = ap (stands_at m.value) c.at

  holds_more : (v : List ℕ) → length v ≡ length w → front v < slots → SuffixMinima (values ++ (m.value ∷ [])) oldest (count v) (entry_at v (front v)) → Twice v slots (front v) (count v)
      → Holds v slots (values ++ (m.value ∷ [])) oldest
  holds_more v l f s t = record {
    room = record { some = q.room.some; few = q.room.few; wide = omega (arith, l, q.room.wide) };
    within = f;
    fits = omega (arith, at q c, c.wide, length-append values (m.value ∷ []));
    holds = s;
    twice = t;
  }

  -- it is the only entry
  alone_holds : {v : List ℕ} {r : Minimum} (entry : ℕ → Minimum) → SuffixMinima values oldest 0 entry → Alone w v m r
      → let more : List ℤ = values ++ (m.value ∷ []) in Holds v slots more oldest × (r ≡ minimum more oldest)
  alone_holds {v} entry s a =
      let f : front v ≡ 0 = omega (arith, a.head) in
      let n : count v ≡ 1 = omega (arith, a.head) in
      let e : entry_at v (front v) 0 ≡ m = ap (λ (x : ℕ). unpacked (get_or v x 0)) (omega (arith, f)) ∙ ap unpacked a.new ∙ a.faithful in
      let held = comes s m.value 0 (entry_at v (front v)) (omega arith) (λ l. absurd (omega arith)) (λ k x. absurd (omega arith)) (λ k l. absurd (omega arith)) (e ∙ newest) (count v) n in (
        holds_more v a.long (omega (arith, f, q.room.some)) held (λ k l b. absurd (omega (arith, f, n, q.room.some))),
        a.returns ∙ sym e ∙ held.minima 0 (omega (arith, n)),
      )

  -- it is put behind those that it does not take over from
  put_holds : {v : List ℕ} {f n : ℕ} {r : Minimum} → Stayed w slots values oldest f n → n < slots → Put w v slots f n m r
      → let more : List ℤ = values ++ (m.value ∷ []) in Holds v slots more oldest × (r ≡ minimum more oldest)
  put_holds {v} {f} s l a =
      let small = q.room.few in
      let inside = a.found.within in
      let e : front v ≡ f = omega (arith, a.head) in
      let n : count v ≡ suc a.k = omega (arith, a.head) in
      let older : (j : ℕ) → j < a.k → get_or v (1 + f + j) 0 ≡ get_or w (1 + f + j) 0 = λ j b. a.kept (1 + f + j) (omega arith) (λ x. omega arith) (λ x y. omega arith) in
      let held = comes s.holds m.value a.k (entry_at v f) inside a.found.over a.found.under (λ j b. ap unpacked (older j b)) (ap unpacked a.new ∙ a.faithful ∙ newest) (count v) n in (
        holds_more v a.long (omega (arith, e, s.slot)) (rw e held)
            (rw e (λ j b x.
            let y : j ≤ a.k = omega (arith, n) in
            ⊎_elim
            (λ (e : j ≡ a.k). rw e (a.again (omega arith) ∙ sym a.new))
            (λ (b : j < a.k).
            a.kept (1 + f + j - slots) (omega arith) (λ y. omega (arith, s.slot)) (λ y z. omega arith) ∙ s.twice j (omega arith) x ∙ sym (older j b))
            (eq-or-lt_of_le y))),
        a.returns ∙ ap (λ (x : ℕ). unpacked (get_or v x 0)) (omega arith) ∙ held.minima 0 (omega (arith, n)),
      )

-- WHAT IS LEFT of the header's entries
module _ {w : List ℕ} {slots : ℕ} {place : Position} where
  -- the only entry is gone, or there was none
  none_left : (gone w slots (front w) place ≡ true) × (count w ≤ 1) → {values : List ℤ} {i oldest : Position} → Holds w slots values i → Comes values i oldest slots place
      → NoneStayed values oldest
  none_left (g, l) {values} {i} q c = elim (eq-zero-or-pos (count w)) [
    | inl z ↦ (entry_at w (front w), rw (none_moves q c z) (subst (λ (n : ℕ). SuffixMinima values i n (entry_at w (front w))) z q.holds))
    | inr z ↦ let x = leaves_next q c (leb-true _ _ g) z in
        ((λ k. entry_at w (front w) (suc k)), rw x.0 (leaves q.holds (λ k. entry_at w (front w) (suc k)) 0 (λ k l. refl) (omega arith) x.1))
  ]

  -- all but the front entry are left, or all
  some_left : {f n : ℕ} → ((gone w slots (front w) place ≡ true) × (n + 1 ≡ count w) × SlotAfter slots (front w) f) ⊎ ((gone w slots (front w) place ≡ false) × (f ≡ front w) × (n ≡ count w))
      → {values : List ℤ} {i oldest : Position} → Holds w slots values i → Comes values i oldest slots place → Stayed w slots values oldest f n
  some_left (inl (g, e, a)) q c = left q c (leb-true _ _ g) (omega (arith, e)) e a
  some_left (inr (g, e, n)) q c = rw (e, n) (stayed q c (leb-false _ _ g))

  module _ {r : Option Ring} (rest : Rest w slots (front w) (count w) place r) where
    pub left_none : r ≡ None → {s : Option Ring} → s ≡ None → Left w slots place s
    left_none e z = rw z (record { none = λ _ values i oldest q c. none_left (rest.none e) q c; some = λ ring x. cc })

    module _ (ring : Ring) (e : r ≡ Some ring) where
      -- there are as many as slots: the words hold no deque
      pub left_full : slots ≤ ring.count → Left w slots place None
      left_full l = record {
        none = λ _ values i oldest q c. absurd (omega (arith, few (some_left (rest.some ring e).1 q c).holds, at q c, c.wide));
        some = λ ring x. cc;
      }

      pub left_some : ring.count < slots → Left w slots place (Some ring)
      left_some l = record {
        none = λ x. cc;
        some = λ other x. let same : ring ≡ other = cc in rw (← same) ((rest.some ring e).0, l, λ values i oldest q c. some_left (rest.some ring e).1 q c);
      }

-- THE VALUE ARRIVES: it is the only entry, where none is left; else it is put behind others
module _ {w v : List ℕ} {slots : ℕ} {m r : Minimum} (some : 0 < slots) {left : Option Ring} (l : Left w slots m.place left) where
  pub arrived_alone : left ≡ None → Alone w v m r → Arrived w v slots m r
  arrived_alone e a = record {
    long = a.long;
    kept = λ i l. a.kept i (omega arith);
    arrives = λ values i oldest q c. let x = l.none e values i oldest q c in alone_holds m q c x.0 x.1 a;
  }

  pub arrived_put : (rest : Ring) → left ≡ Some rest → Put w v rest.slots rest.front rest.count m r → Arrived w v slots m r
  arrived_put rest e b =
      let x = l.some rest e in
      let slot : rest.front < slots = omega (arith, rest.within, x.0) in
      let a : Put w v slots rest.front rest.count m r = rw x.0 at b in
      record {
        long = a.long;
        kept = λ i b. a.kept i (omega arith) (λ y. omega (arith, slot, a.found.within)) (λ y z. omega (arith, slot, a.found.within));
        arrives = λ values i oldest q c. put_holds m q c (x.2 values i oldest q c) x.1 a;
      }
