-- When a command's answer meets its contract, whichever command it is. It is refused by what the session and the lengths say, refused otherwise, or accepted. What is left
-- to show of each way out is a fact about the session and, where the words are a history's, that the program takes the position for active where the history does and
-- that the words hold the history that follows. That the session then is that history's is shown here, once.
use mathlib.Core.Path.{◌≡◌, refl, sym, ap, ◌∙◌}
use mathlib.Core.Bool.{Bool, true, false, false≢true}
use mathlib.Core.List.{List}
use mathlib.Core.Logic.{inl, inr}
use Prim.Native.Nat.{ℕ, ◌≤◌}
use lib.IntN.{ℤ}
use lib.ListN.{length}
use Rattle.history.specs.declared.Position.{Position}
use Rattle.history.specs.declared.Standing.{Standing}
use Rattle.history.specs.declared.Session.{Session}
use Rattle.history.specs.declared.Command.{Command}
use Rattle.history.specs.declared.Command.TheVariants.{Mark}
use Rattle.history.specs.declared.Refusal.{Refusal}
use Rattle.history.specs.declared.Refusal.TheVariants.{Full}
use Rattle.engine.specs.Answers.{Answer}
use Rattle.history.specs.Replies.{numbered, number_of, told, own_refusal, lent_refusal, refusal}
use Rattle.history.specs.Histories.{History, session_of, is_active, accept, refusal_of, step}
use Rattle.history.specs.Sessions.{count_after, session_after}
use Rattle.history.specs.Sound.{Sound}
use Rattle.history.proofs.Steps.{some_number, lent_due, lent_none, refused, step-refused, step_accepted}
use Rattle.history.proofs.Following.{session_follows}
use Rattle.engine.specs.Promises.{AfterAcceptance, Possible}
use Rattle.ranges.specs.Holding.{Holds}
use Rattle.engine.specs.Keeping.{Represents}
use Rattle.engine.specs.Calls.{Does}
use Rattle.engine.specs.Private.{refused_with, accepted_with}

-- what is to be shown of every history that the session and the words represent
abbrev pub ForEach : Session → List ℕ → (History → List ℕ → Type 0) → Type 0
ForEach s w P = (h : History) (first : List ℕ) → Sound h → Represents h first s w → P h first

-- where the lengths refuse nothing, the session is opened and the words are as many
pub opened : (words n : ℕ) → 0 ≡ lent_refusal words n 0 → (words ≡ 0 → ⊥) × (n ≡ words)
opened words n e = let l = lent_none words n 0 (sym e) in (l.0, l.1)

module _ (c : Command) (s : Session) (w : List ℕ) where
  -- what the bookkeeper finds due is the refusal of the session
  due_of_lem : {h : History} {first : List ℕ} → Represents h first s w → refusal_of h (length w) c ≡ refusal s (length w) (is_active h c) c
  due_of_lem {h} r = ap (λ (x : Session). refusal x (length w) (is_active h c) c) (sym r.session)

  -- REFUSED, where the program takes the position for active or not, as b says, and a history says the same
  module _ (k : Refusal) (b : Bool) (y : b ≡ true → Possible s c) (e : refusal s (length w) b c ≡ number_of k)
      (f : ForEach s w (λ h first. refusal s (length w) (is_active h c) c ≡ number_of k)) where
    pub does_refused : Does s c w w (refused_with s k)
    does_refused = record {
      long = refl;
      settled = record {
        taken = b;
        possible = y;
        refuses = λ z. record { tells = ap numbered (sym e); session = refl; words = refl };
        accepts = λ z. absurd (some_number k (sym e ∙ z));
      };
      tells = λ h first q r. rw (there h first q r);
      represents = λ h first q r. rw (there h first q r) r;
    }
      where
        there : ForEach s w (λ h first. step h (length w) c ≡ refused h (number_of k))
        there h first q r = step-refused h (length w) c (number_of k) (due_of_lem r ∙ f h first q r) (some_number k)

  -- refused by what the session and the lengths say alone
  pub does_due : (k : Refusal) → ((b : Bool) → refusal s (length w) b c ≡ number_of k) → Does s c w w (refused_with s k)
  does_due k e = does_refused k false (λ x. absurd (false≢true x)) (e false) (λ h first q r. e (is_active h c))

  -- by the lengths alone: 4 and 5
  pub does_lent : (k : Refusal) → number_of k ≡ lent_refusal s.words (length w) 0 → Does s c w w (refused_with s k)
  does_lent k e = does_due k (λ b. lent_due s.words (length w) (own_refusal s b c) (some_number k) (sym e))

  -- words of the opened length are the history's
  pub own_of : (s.words ≡ 0 → ⊥) → length w ≡ s.words → {h : History} {first : List ℕ} → Represents h first s w → Holds h first w
  own_of z o r =
      let e = ap (λ (x : Session). x.words) r.session in
      r.own (λ q. z (e ∙ q)) (o ∙ e)

  -- ACCEPTED, where the program takes the position for active or not, as b says, and a history says the same; it counts as many active marks as the history has then,
  -- and the words hold that history
  module _ (b : Bool) (y : b ≡ true → Possible s c) {after : List ℕ} {r : Answer} (l : length after ≡ length w) (e : refusal s (length w) b c ≡ 0)
      (a : AfterAcceptance c s w after r.session (told r.reply))
      (f : ForEach s w (λ h first. (refusal s (length w) (is_active h c) c ≡ 0) × (told r.reply ≡ (accept h c).tells)
      × (count_after (length h.active) c a.counted ≡ length (accept h c).history.active) × Holds (accept h c).history first after)) where
    pub does_accepted : Does s c w after r
    does_accepted = record {
      long = l;
      settled = record {
        taken = b;
        possible = y;
        refuses = λ z. absurd (z e);
        accepts = λ z. inl a;
      };
      tells = λ h first q t. rw (there h first q t) (f h first q t).1;
      represents = λ h first q t. rw (there h first q t) (record { session = session h first q t; own = λ _ _. (f h first q t).3 });
    }
      where
        there : ForEach s w (λ h first. step h (length w) c ≡ accept h c)
        there h first q t = step_accepted h (length w) c (due_of_lem t ∙ (f h first q t).0)

        session : ForEach s w (λ h first. r.session ≡ session_of (accept h c).history)
        session h first q t =
            a.session
            ∙ ap (λ (x : Session). session_after x c a.counted) t.session
            ∙ session_follows h c a.counted (f h first q t).2

-- a Mark on a session that is no history's, refused as full
pub does_full : (s : Session) (w : List ℕ) → 4096 ≤ s.active → refusal s (length w) false Mark ≡ 0 → ForEach s w (λ h first. ⊥) → Does s Mark w w (refused_with s Full)
does_full s w m e n = record {
  long = refl;
  settled = record {
    taken = false;
    possible = λ x. absurd (false≢true x);
    refuses = λ z. absurd (z e);
    accepts = λ z. inr (refl, m, record { tells = refl; session = refl; words = refl });
  };
  tells = λ h first q r. absurd (n h first q r);
  represents = λ h first q r. absurd (n h first q r);
}

-- an acceptance, of parts that are those it should have
pub does_with : {c : Command} {s : Session} {w after : List ℕ} {p q : Position} {l m : ℤ} {a b : ℕ} {j k : Standing}
    → p ≡ q → l ≡ m → a ≡ b → j ≡ k → Does s c w after (accepted_with s q m b k) → Does s c w after (accepted_with s p l a j)
does_with p l a j d = rw (p, l, a, j) d
