-- When the answer of a value meets its contract, by the way out.
use mathlib.Core.Path.{◌≡◌, refl, sym, ap, ◌∙◌, subst}
use mathlib.Core.List.{List, [], ◌∷◌, ◌++◌}
use Prim.Native.Nat.{ℕ, ◌≤◌}
use native.Mathlib.Omega.{arith}
use lib.IntN.{ℤ}
use lib.ListN.{length, length-append}
use Rattle.history.specs.declared.Position.{Position}
use Rattle.history.specs.Minimum.{Minimum}
use Rattle.history.specs.declared.Refusal.{Refusal}
use Rattle.std.specs.Prelude.{Some, Ok, Err}
use Rattle.history.specs.Minima.{stands_at, next, present_at, minimum}
use Rattle.history.specs.Replies.{numbered, number_of, value_refusal, lent_refusal}
use Rattle.history.proofs.Steps.{some_number, lent_due, lent_unopened, lent_other, lent_own, lent_none, last_due, earlier_free}
use Rattle.deque.specs.Words.{Holds}
use Rattle.deque.specs.Calls.{Arrived}
use Rattle.window.specs.declared.Window.{Window}
use Rattle.window.specs.Windows.{Paper, session_of, oldest, refusal_of, accept, step}
use Rattle.window.specs.Keeping.{Sound, Keeps, Represents}
use Rattle.window.specs.Calls.{Does}
use Rattle.window.proofs.Inside.{newest_inside, as_wide, as_many, moves_on}
use Rattle.window.proofs.Steps.{refused, step-refused, step_accepted}

-- the present position, with one value more
one_more : (values : List ℤ) (v : ℤ) → next (present_at values) ≡ present_at (values ++ (v ∷ []))
one_more values v = ap (λ (n : ℕ). record { 0 = n }) (sym (length-append values (v ∷ [])))

-- the words that held a paper's window hold it with one value more, and what the deque returns is its least
arrives_at : (p : Paper) {v : ℤ} {w after : List ℕ} {m : Minimum} → 1 ≤ p.width → Arrived w after p.width (stands_at v (next (present_at p.values))) m
    → Holds w p.width p.values (oldest (present_at p.values) p.width)
    → let more : List ℤ = p.values ++ (v ∷ []) in let i : Position = oldest (present_at more) p.width in Holds after p.width more i × (m ≡ minimum more i)
arrives_at p {v} {after = after} {m} some q k =
    let here : Position = present_at p.values in
    let more : List ℤ = p.values ++ (v ∷ []) in
    subst (λ (x : Position). Holds after p.width more (oldest x p.width) × (m ≡ minimum more (oldest x p.width))) (one_more p.values v)
    (q.arrives p.values (oldest here p.width) (oldest (next here) p.width) k
    (record {
      at = refl;
      moves = moves_on here p.width some;
      before = newest_inside here p.width some;
      wide = as_wide here p.width some;
      tight = as_many here p.width some;
    }))

-- what is to be shown of every paper that the session and the words represent
abbrev ForEach : Window → List ℕ → (Paper → List ℕ → Type 0) → Type 0
ForEach s w P = (p : Paper) (first : List ℕ) → Sound p → Represents p first s w → P p first

-- the number of the first refusal that applies to a value, by the session and the length lent
abbrev due_of : Window → ℕ → ℕ
due_of s n = lent_refusal s.words n (value_refusal s.present)

module _ (s : Window) (v : ℤ) (w : List ℕ) where
  -- what the paper finds due is the refusal of the session
  due_of_lem : {p : Paper} {first : List ℕ} → Represents p first s w → refusal_of p (length w) ≡ due_of s (length w)
  due_of_lem r = ap (λ (x : Window). due_of x (length w)) (sym r.session)

  -- A VALUE THAT IS REFUSED
  pub does_refused : (why : Refusal) → number_of why ≡ due_of s (length w) → Does s v w w (record { reply = Err why; session = s })
  does_refused why e =
      let own = value_refusal s.present in
      record {
        any = record {
          unopened = λ z. (ap numbered (e ∙ lent_unopened s.words (length w) own z), refl, refl);
          other_length = λ z o. (ap numbered (e ∙ lent_other s.words (length w) own z o), refl, refl);
          last_position = λ z o l. (ap numbered (e ∙ lent_own s.words (length w) own z o ∙ last_due s.present l), refl, refl);
          accepts = λ z o n. absurd (some_number why (e ∙ lent_own s.words (length w) own z o ∙ earlier_free s.present n));
          rest = λ i l. refl;
          long = refl;
        };
        tells = λ p first y r. rw (there p first y r);
        represents = λ p first y r. rw (there p first y r) r;
      }
    where
      there : ForEach s w (λ p first. step p (length w) v ≡ refused p (number_of why))
      there p first y r = step-refused p (length w) v (number_of why) (due_of_lem r ∙ sym e) (some_number why)

  -- by the lengths alone: 4 and 5
  pub does_lent : (why : Refusal) → number_of why ≡ lent_refusal s.words (length w) 0 → Does s v w w (record { reply = Err why; session = s })
  does_lent why e = does_refused why (sym (lent_due s.words (length w) (value_refusal s.present) (some_number why) (sym e)))

  -- A VALUE THAT IS ACCEPTED: the least is what the deque returned
  module _ (lent : 0 ≡ lent_refusal s.words (length w) 0) (none : 0 ≡ value_refusal s.present)
      {after : List ℕ} {m : Minimum} (q : Arrived w after s.width (stands_at v (next s.present)) m) where
    free : (s.words ≡ 0 → ⊥) × (length w ≡ s.words)
    free = let l = lent_none s.words (length w) 0 (sym lent) in (l.0, l.1)

    there : ForEach s w (λ p g. step p (length w) v ≡ accept p v)
    there p g y r = step_accepted p (length w) v (due_of_lem r ∙ lent_own s.words (length w) (value_refusal s.present) free.0 free.1 ∙ sym none)

    -- the session after it
    abbrev later : Window
    later = record { words = s.words; width = s.width; present = next s.present }

    session : ForEach s w (λ p g. later ≡ session_of (accept p v).paper)
    session p g y r =
        ap (λ (x : Window). record { words = x.words; width = x.width; present = next x.present }) r.session
        ∙ ap (λ (x : Position). record { words = p.words; width = p.width; present = x }) (one_more p.values v)

    held : ForEach s w (λ p g. Keeps (accept p v).paper g after × (m ≡ minimum (p.values ++ (v ∷ [])) (oldest (present_at (p.values ++ (v ∷ []))) p.width)))
    held p g y r =
        let e = ap (λ (x : Window). x.words) r.session in
        let k = r.own (λ x. free.0 (e ∙ x)) (free.1 ∙ e) in
        let a = arrives_at p (y.some (λ x. free.0 (e ∙ x))) (rw r.session at q) k.holds in
        (record { holds = a.0; rest = λ i l. q.kept i (rw r.session l) ∙ k.rest i l }, a.1)

    at_next : Does s v w after (record { reply = Ok (Some m); session = later })
    at_next = record {
      any = record {
        unopened = λ e. absurd (free.0 e);
        other_length = λ a b. absurd (b free.1);
        last_position = λ a b c. absurd (omega (arith, last_due s.present c, none));
        accepts = λ a b c. (m, refl, refl);
        rest = q.kept;
        long = q.long;
      };
      tells = λ p g y r. rw (there p g y r, (held p g y r).1);
      represents = λ p g y r. rw (there p g y r) (record { session = session p g y r; own = λ _ _. (held p g y r).0 });
    }

  pub does_accepted : 0 ≡ lent_refusal s.words (length w) 0 → 0 ≡ value_refusal s.present → {after : List ℕ} {m : Minimum} (place : Position) → place ≡ next s.present
      → Arrived w after s.width (stands_at v place) m
      → Does s v w after (record { reply = Ok (Some m); session = record { words = s.words; width = s.width; present = place } })
  does_accepted lent none place e q = rw e (at_next lent none (rw e at q))
