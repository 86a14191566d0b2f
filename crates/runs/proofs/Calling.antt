-- Calls that are made one after the other: one call goes before those that follow it. A call lent words of the opened length is lent the opening's, and leaves them to the next one; a
-- call lent others leaves the opening's as they were. Calls that agree with the model have the lines that it makes, and return the session of its state.
use mathlib.Core.Path.{◌≡◌, refl, sym, ap, ◌∙◌}
use mathlib.Core.List.{List, [], ◌∷◌}
use mathlib.Core.Logic.{◌⊎◌}
use Prim.Native.Nat.{ℕ}
use lib.ListN.{length}
use Rattle.laws.proofs.Tests.{clash}
use Rattle.runs.specs.Runs.{Model, Call, words_after, state_after, Made, AllAgree}
use Rattle.runs.specs.Lists.{Line, lines_of, asked_of, worked, state_after_asked, last_session, Commanded}
use Rattle.runs.proofs.Induction.{own_lent, other_lent}

module _ {M : Model} {did : M.Session → Call M → Type 0} where
  -- no call
  pub none_left : {n : ℕ} {s : M.Session} {words : List ℕ} → Commanded M did n s words words [] s
  none_left = record { calls = []; made = tt; asked = refl; returned = refl; leaves = refl; long = refl }

  module _ {n : ℕ} {s r : M.Session} (c : Call M) (d : did s c) {asks : List (M.Command × ℕ)} where
    -- a call lent the opening's words, and those that follow
    pub own_then : {after : List ℕ} → (n ≡ 0 → ⊥) → length c.lent ≡ n → length c.left ≡ length c.lent
        → (length c.left ≡ n → Commanded M did n c.session c.left after asks r) → Commanded M did n s c.lent after ((c.command, n) ∷ asks) r
    own_then z l long f =
        let m = f (long ∙ l) in
        record {
          calls = c ∷ m.calls;
          made = ((λ _. refl), d, rw (own_lent n c.lent z l) m.made);
          asked = rw m.asked (ap (λ (x : ℕ). (c.command, x) ∷ asks) l);
          returned = m.returned;
          leaves = rw (own_lent n c.lent z l) m.leaves;
          long = m.long ∙ long;
        }

    -- a call lent words that are not the opening's, which stay as they were, and those that follow
    pub other_then : {before after : List ℕ} (k : ℕ) → (n ≡ 0) ⊎ (length c.lent ≡ n → ⊥) → length c.lent ≡ k → Commanded M did n c.session before after asks r
        → Commanded M did n s before after ((c.command, k) ∷ asks) r
    other_then k z l m =
        let o = other_lent n c.lent z in
        record {
          calls = c ∷ m.calls;
          made = ((λ e. clash e o), d, rw o m.made);
          asked = rw m.asked (ap (λ (x : ℕ). (c.command, x) ∷ asks) l);
          returned = m.returned;
          leaves = rw o m.leaves;
          long = m.long;
        }

-- calls of which one thing is known are calls of which what follows from it is known
pub made_follows : {M : Model} {did also : M.Session → Call M → Type 0} → ((s : M.Session) (c : Call M) → did s c → also s c)
    → (n : ℕ) (s : M.Session) (words : List ℕ) (cs : List (Call M)) → Made M did n s words cs → Made M also n s words cs
made_follows f n s words [] m = tt
made_follows {M} f n s words (c ∷ cs) m = (m.0, f s c m.1, made_follows f n c.session (words_after M n words c) cs m.2)

module _ (M : Model) (n : ℕ) (first : List ℕ) where
  -- calls that agree have the lines that the model makes of what they were asked
  lines_worked : (words : List ℕ) (h : M.State) (cs : List (Call M)) → AllAgree M n first words h cs → lines_of M cs ≡ worked M h (asked_of M cs)
  lines_worked words h [] a = refl
  lines_worked words h (c ∷ cs) a =
      ap (λ (t : M.Told). (c.command, length c.lent, t) ∷ lines_of M cs) a.0.tells
      ∙ ap (λ (ls : List (Line M)). (c.command, length c.lent, M.tells h (length c.lent) c.command) ∷ ls) (lines_worked (words_after M n words c) (state_after M h c) cs a.1)

  -- and return the session of its state
  session_worked : (words : List ℕ) (h : M.State) (s : M.Session) (cs : List (Call M)) → s ≡ M.session_of h → AllAgree M n first words h cs
      → last_session M s cs ≡ M.session_of (state_after_asked M h (asked_of M cs))
  session_worked words h s [] e a = e
  session_worked words h s (c ∷ cs) e a = session_worked (words_after M n words c) (state_after M h c) c.session cs a.0.session a.1

  -- so calls that were made have the lines that the model makes of what was asked, and the last of them returned the session of its state
  pub played : {did : M.Session → Call M → Type 0} {s r : M.Session} {words after : List ℕ} {asks : List (M.Command × ℕ)} (h : M.State) (m : Commanded M did n s words after asks r)
      → s ≡ M.session_of h → AllAgree M n first words h m.calls → (lines_of M m.calls ≡ worked M h asks) × (r ≡ M.session_of (state_after_asked M h asks))
  played {s = s} {words = words} h m e a = (
    lines_worked words h m.calls a ∙ ap (worked M h) m.asked,
    sym m.returned ∙ session_worked words h s m.calls e a ∙ ap (λ (x : List (M.Command × ℕ)). M.session_of (state_after_asked M h x)) m.asked,
  )
