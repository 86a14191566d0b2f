-- The laws of the range minimum: what one value more makes of it, what it is at the present position, and that it is the least
-- value's earliest place and nothing else is.
use mathlib.Core.Path.{◌≡◌, refl, sym, ap, ◌∙◌}
use mathlib.Core.Bool.{Bool, true, false, cond}
use mathlib.Core.List.{List, [], ◌∷◌, ◌++◌, append_assoc, append-nil}
use Prim.Native.Nat.{ℕ, ◌+◌, ◌-◌, ◌<◌, ◌≤◌}
use native.Mathlib.Decide.{ℕ_discrete, dec_lt}
use native.Mathlib.Omega.{arith}
use lib.IntN.{ℤ, pos}
use lib.Signed.{le_z}
use lib.ListN.{length, take, drop, length-append, length-drop, take-append-drop, get_or-append}
use lib.Seq.{drop-append-le, drop-length, get_or_at, length-take-le, get_or-take}
use Rattle.laws.proofs.Tests.{clash, refuted, neither_below}
use Rattle.laws.proofs.Order.{le_z_refl, le_z_trans}
use Rattle.history.specs.declared.Position.{Position}
use Rattle.history.specs.Minimum.{Minimum}
use Rattle.history.specs.Minima.{takes_over, lower, stands_at, next, lowest, present_at, value_at, last_of, minimum, Least}
use Rattle.history.proofs.Choice.{is_lower, no_larger, no_smaller}

-- one value more at the end of a list of values
length_more : (vs : List ℤ) (v : ℤ) → length (vs ++ (v ∷ [])) ≡ length vs + 1
length_more vs v = length-append vs (v ∷ [])

value_at_older : (vs : List ℤ) (v : ℤ) (k : Position) → 0 < k.0 → k.0 ≤ length vs → value_at (vs ++ (v ∷ [])) k ≡ value_at vs k
value_at_older vs v k z h = get_or-append vs (v ∷ []) (pos 0) (k.0 - 1) (omega arith)

value_at_newest : (vs : List ℤ) (v : ℤ) (k : Position) → k.0 ≡ length vs + 1 → value_at (vs ++ (v ∷ [])) k ≡ v
value_at_newest vs v k e = get_or_at vs v [] (pos 0) (k.0 - 1) (omega arith)

-- the value that comes last is the last one
pub last_of_more : (vs : List ℤ) (v : ℤ) → last_of (vs ++ (v ∷ [])) ≡ v
last_of_more vs v = value_at_newest vs v (present_at (vs ++ (v ∷ []))) (length_more vs v)

-- one value more at the end of the values that follow the least so far
lowest_more : (d : Minimum) (i : Position) (vs : List ℤ) (v : ℤ)
    → lowest d i (vs ++ (v ∷ [])) ≡ lower (lowest d i vs) (stands_at v (record { 0 = i.0 + length vs }))
unfolding lowest
lowest_more d i [] v = ap (λ (k : ℕ). lower d (stands_at v (record { 0 = k }))) (omega arith)
lowest_more d i (u ∷ us) v =
    lowest_more (lower d (stands_at u i)) (next i) us v
    ∙ ap (λ (k : ℕ). lower (lowest (lower d (stands_at u i)) (next i) us) (stands_at v (record { 0 = k }))) (omega arith)

-- THE LAW OF VALUE: with one value more, the minimum is the lower of the minimum before and that value
pub minimum_more : (vs : List ℤ) (v : ℤ) (i : Position) → 0 < i.0 → i.0 ≤ length vs
    → minimum (vs ++ (v ∷ [])) i ≡ lower (minimum vs i) (stands_at v (next (present_at vs)))
minimum_more vs v i z h =
    let a = value_at_older vs v i z h in
    let b = drop-append-le i.0 vs (v ∷ []) h in
    rw (a, b)
    (lowest_more (stands_at (value_at vs i) i) (next i) (drop i.0 vs) v
    ∙ ap (λ (k : ℕ). lower (minimum vs i) (stands_at v (record { 0 = k }))) (omega (arith, length-drop i.0 vs)))

-- THE LAW OF MARK: at the present position the minimum is the last value, there
pub minimum_new : (vs : List ℤ) → minimum vs (present_at vs) ≡ stands_at (last_of vs) (present_at vs)
unfolding lowest
minimum_new vs = rw (drop-length vs)

-- the least value so far stays so, or the new value takes over
least_more : (vs : List ℤ) (v : ℤ) (i : Position) (d : Minimum) → 0 < i.0 → i.0 ≤ length vs → Least vs i d
    → Least (vs ++ (v ∷ [])) i (lower d (stands_at v (next (present_at vs))))
least_more vs v i d z h l = go (takes_over v d.value) refl
  where
    more : length (vs ++ (v ∷ [])) ≡ length vs + 1
    more = length_more vs v

    old : (k : Position) → 0 < k.0 → k.0 ≤ length vs → value_at (vs ++ (v ∷ [])) k ≡ value_at vs k
    old k = value_at_older vs v k

    new : (k : Position) → k.0 ≡ length vs + 1 → value_at (vs ++ (v ∷ [])) k ≡ v
    new k = value_at_newest vs v k

    go : (b : Bool) → takes_over v d.value ≡ b → Least (vs ++ (v ∷ [])) i (cond b (stands_at v (next (present_at vs))) d)
    go true e = record {
      some = z;
      from = omega arith;
      to = omega (arith, more);
      stands = new (next (present_at vs)) refl;
      least = λ k f t. elim (ℕ_discrete k.0 (length vs + 1)) [
        | yes q ↦ rw (new k q) (le_z_refl v)
        | no q ↦ rw (old k (omega arith) (omega (arith, q, more)))
            (le_z_trans v d.value (value_at vs k) (no_larger v d.value e) (l.least k f (omega (arith, q, more))))
      ];
      earliest = λ k f t. rw (old k (omega arith) (omega arith))
          (refuted (le_z (value_at vs k) v) (λ g. clash (le_z_trans d.value (value_at vs k) v (l.least k f (omega arith)) g) (is_lower v d.value e)));
    }
    go false e = record {
      some = z;
      from = l.from;
      to = omega (arith, l.to, more);
      stands = old d.place (omega (arith, l.from)) l.to ∙ l.stands;
      least = λ k f t. elim (ℕ_discrete k.0 (length vs + 1)) [
        | yes q ↦ rw (new k q) (no_smaller v d.value e)
        | no q ↦ rw (old k (omega arith) (omega (arith, q, more))) (l.least k f (omega (arith, q, more)))
      ];
      earliest = λ k f t. rw (old k (omega arith) (omega (arith, l.to))) (l.earliest k f t);
    }

-- the least so far of the values before, and those that follow
lowest_least : (before after : List ℤ) (i : Position) (d : Minimum) → 0 < i.0 → i.0 ≤ length before → Least before i d
    → Least (before ++ after) i (lowest d (next (present_at before)) after)
unfolding lowest
lowest_least before [] i d z h l = rw (append-nil before) l
lowest_least before (v ∷ after) i d z h l =
    let n = length_more before v in
    let r = lowest_least (before ++ (v ∷ [])) after i (lower d (stands_at v (next (present_at before)))) z (omega arith) (least_more before v i d z h l) in
    rw (n, append_assoc) at r

-- THE MINIMUM IS THE LEAST: of an active mark's position, which is at least 1 and at most the present one
pub minimum_least : (vs : List ℤ) (i : Position) → 0 < i.0 → i.0 ≤ length vs → Least vs i (minimum vs i)
minimum_least vs i z h =
    let n = length-take-le i.0 vs h in
    let a : value_at (take i.0 vs) i ≡ value_at vs i = get_or-take i.0 vs (i.0 - 1) (pos 0) (omega arith) in
    let first : Least (take i.0 vs) i (stands_at (value_at vs i) i) = record {
      some = z;
      from = omega arith;
      to = omega arith;
      stands = a;
      least = λ k f t.
          let e : ◌≡◌ {A = Position} k i = λ x. record { 0 = only k f t x } in
          rw (e, a) (le_z_refl (value_at vs i));
      earliest = λ k f t. absurd (omega arith);
    } in
    let r = lowest_least (take i.0 vs) (drop i.0 vs) i (stands_at (value_at vs i) i) z (omega arith) first in
    rw (n, take-append-drop) at r
  where
    only : (k : Position) → i.0 ≤ k.0 → k.0 ≤ length (take i.0 vs) → k.0 ≡ i.0
    only k f t = omega (arith, length-take-le i.0 vs h)

-- two minima that stand at one place are equal
same_place : (vs : List ℤ) {i j : Position} {d e : Minimum} → Least vs i d → Least vs j e → d.place.0 ≡ e.place.0 → d ≡ e
same_place vs {d = d} {e} l m p =
    let q : d.value ≡ e.value = sym l.stands ∙ ap (λ (k : ℕ). value_at vs (record { 0 = k })) p ∙ m.stands in
    λ n. record { value = q n; place = record { 0 = p n } }

-- of two minima of one position, neither stands before the other
not_before : (vs : List ℤ) {i : Position} {d e : Minimum} → Least vs i d → Least vs i e → d.place.0 < e.place.0 → ⊥
not_before vs {d = d} {e} l m p =
    clash (rw m.stands at (l.least e.place m.from m.to)) (rw l.stands at (m.earliest d.place l.from p))

-- AND NOTHING ELSE IS: "For a given tap the dip has one value and one place"
pub least_only : (vs : List ℤ) (i : Position) (d e : Minimum) → Least vs i d → Least vs i e → d ≡ e
least_only vs i d e l m = same_place vs l m (neither_below (not_before vs l m) (not_before vs m l))

-- of two positions, the later one's minimum is no lower
pub minimum_rises : (vs : List ℤ) (i j : Position) → 0 < i.0 → i.0 ≤ j.0 → j.0 ≤ length vs
    → le_z (minimum vs i).value (minimum vs j).value ≡ true
minimum_rises vs i j z o h =
    let l = minimum_least vs i z (omega arith) in
    let m = minimum_least vs j (omega arith) h in
    rw m.stands at (l.least (minimum vs j).place (omega (arith, m.from)) m.to)

-- and where it is no higher either, it stands no earlier
pub minimum_later_place : (vs : List ℤ) (i j : Position) → 0 < i.0 → i.0 ≤ j.0 → j.0 ≤ length vs
    → (minimum vs i).value ≡ (minimum vs j).value → (minimum vs i).place.0 ≤ (minimum vs j).place.0
minimum_later_place vs i j z o h e =
    let l = minimum_least vs i z (omega arith) in
    let m = minimum_least vs j (omega arith) h in
    elim (dec_lt (minimum vs j).place.0 (minimum vs i).place.0) [
      | yes b ↦ clash (rw (sym e) (le_z_refl (minimum vs i).value)) (rw m.stands at (l.earliest (minimum vs j).place (omega (arith, m.from)) b))
      | no n ↦ omega arith
    ]

-- two positions whose minima stand at one place have one minimum
pub minimum_shared : (vs : List ℤ) (i j : Position) → 0 < i.0 → i.0 ≤ length vs → 0 < j.0 → j.0 ≤ length vs
    → (minimum vs i).place.0 ≡ (minimum vs j).place.0 → minimum vs i ≡ minimum vs j
minimum_shared vs i j z h y g = same_place vs (minimum_least vs i z h) (minimum_least vs j y g)

-- where the minimum does not stand at its first position, it is the next one's too
pub minimum_later : (vs : List ℤ) (i : Position) → 0 < i.0 → i.0 ≤ length vs → i.0 < (minimum vs i).place.0 → minimum vs (next i) ≡ minimum vs i
minimum_later vs i z h l =
    let m = minimum_least vs i z h in
    let later : Least vs (next i) (minimum vs i) = record {
      some = omega arith;
      from = omega arith;
      to = m.to;
      stands = m.stands;
      least = λ k f t. m.least k (omega arith) t;
      earliest = λ k f t. m.earliest k (omega arith) t;
    } in
    least_only vs (next i) (minimum vs (next i)) (minimum vs i) (minimum_least vs (next i) (omega arith) (omega (arith, m.to))) later
