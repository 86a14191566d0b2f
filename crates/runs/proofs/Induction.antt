-- THE INDUCTION OVER A RUN, for any machine that is held to a model. Between two calls the session is the state's, the state is sound, and the start's words
-- keep it. A call lent the start's words leaves words that keep the state that follows; a call lent others alters neither these, nor the start's, nor the state.
-- So what is left to show of a machine is what one call does: `OneCall`.
use mathlib.Core.Path.{◌≡◌, refl, sym, ◌∙◌}
use mathlib.Core.Bool.{Bool, true, false, cond}
use mathlib.Core.List.{List, [], ◌∷◌}
use mathlib.Core.Logic.{◌⊎◌, inl, inr}
use Prim.Native.Nat.{ℕ, ◌≤◌}
use native.Mathlib.Decide.{ℕ_discrete}
use lib.ListN.{length, get_or}
use borrow.Author.Tests.{eq-eqb, ne_eqb, eqb-true}
use Rattle.laws.proofs.Tests.{clash}
use Rattle.runs.specs.Runs.{Model, AsLent, is_own, Call, words_after, state_after, Made, Agrees, EachCall}

-- the start's words are of the opened length, which is not 0
pub own_length : (n : ℕ) (lent : List ℕ) → is_own n lent ≡ true → (n ≡ 0 → ⊥) × (length lent ≡ n)
own_length n lent e = elim (ℕ_discrete n 0) [
  | yes z ↦ clash e (rw (eq-eqb n 0 z))
  | no z ↦ (z, eqb-true (length lent) n (rw (ne_eqb n 0 z) at e))
]

-- and words of the opened length, which is not 0, are the start's
pub own_lent : (n : ℕ) (lent : List ℕ) → (n ≡ 0 → ⊥) → length lent ≡ n → is_own n lent ≡ true
own_lent n lent z l = rw (ne_eqb n 0 z) (eq-eqb (length lent) n l)

-- and no others are
pub other_lent : (n : ℕ) (lent : List ℕ) → ((n ≡ 0) ⊎ (length lent ≡ n → ⊥)) → is_own n lent ≡ false
other_lent n lent (inl z) = rw (eq-eqb n 0 z)
other_lent n lent (inr o) = elim (ℕ_discrete n 0) [
  | yes z ↦ rw (eq-eqb n 0 z)
  | no z ↦ rw (ne_eqb n 0 z) (ne_eqb (length lent) n o)
]

-- and what is not is of another length, where words were opened at all
pub other_length_lem : (n : ℕ) (lent : List ℕ) → is_own n lent ≡ false → (n ≡ 0) ⊎ (length lent ≡ n → ⊥)
other_length_lem n lent e = elim (ℕ_discrete n 0) [
  | yes z ↦ inl z
  | no z ↦ inr (λ l. clash (own_lent n lent z l) e)
]

-- words that are as lent equal, from the bound on, what they were
pub as_lent_at : (bound : ℕ) (first now : List ℕ) → AsLent bound first now → (i : ℕ) → bound ≤ i → get_or now i 0 ≡ get_or first i 0
as_lent_at bound first now a i l = a i l

-- What one call does, of which `did` is known. `Sound` is what holds of every state that a start and commands lead to; `Keeps h first words`: the words keep the state h
-- since the start on the words `first`
pub record OneCall (M : Model) (Sound : M.State → Type 0) (Keeps : M.State → List ℕ → List ℕ → Type 0) (did : M.Session → Call M → Type 0) : Type 0 where
  -- of the state alone: a command leaves it sound, and opens no other words
  pub sound : (h : M.State) (n : ℕ) (k : M.Command) → Sound h → Sound (M.step h n k)
  pub opened : (h : M.State) (n : ℕ) (k : M.Command) → M.words (M.step h n k) ≡ M.words h
  -- of any session and any words
  pub long : (s : M.Session) (c : Call M) → did s c → length c.left ≡ length c.lent
  -- of the state's session: the call tells what the model tells, and returns the session of the state that follows
  pub tells : (h : M.State) (first : List ℕ) (c : Call M) → Sound h → did (M.session_of h) c → (is_own (M.words h) c.lent ≡ true → Keeps h first c.lent)
      → (c.told ≡ M.tells h (length c.lent) c.command) × (c.session ≡ M.session_of (state_after M h c))
  -- the start's words keep the state that follows
  pub keeps : (h : M.State) (first : List ℕ) (c : Call M) → Sound h → did (M.session_of h) c → is_own (M.words h) c.lent ≡ true → Keeps h first c.lent
      → Keeps (state_after M h c) first c.left
  -- others are not altered, nor is the state
  pub others : (h : M.State) (c : Call M) → did (M.session_of h) c → is_own (M.words h) c.lent ≡ false → (c.left ≡ c.lent) × (state_after M h c ≡ h)
  -- words that keep a state are as lent from its bound on
  pub rest : (h : M.State) (first words : List ℕ) → Keeps h first words → AsLent (M.bound h) first words

module _ (M : Model) (Sound : M.State → Type 0) (Keeps : M.State → List ℕ → List ℕ → Type 0) (did : M.Session → Call M → Type 0) (one : OneCall M Sound Keeps did) where
  -- what stands between the calls: n words were opened of `first`, and they are now `words`
  record Stands (n : ℕ) (first words : List ℕ) (h : M.State) (s : M.Session) : Type 0 where
    session : s ≡ M.session_of h
    sound : Sound h
    opened : M.words h ≡ n
    rest : AsLent (M.bound h) first words
    keeps : (n ≡ 0 → ⊥) → Keeps h first words

  module _ (n : ℕ) (first words : List ℕ) (h : M.State) (s : M.Session) (c : Call M) (i : Stands n first words h s)
      (lent : is_own n c.lent ≡ true → c.lent ≡ words) (d : did s c) where
    abbrev later : M.State
    later = state_after M h c

    called : did (M.session_of h) c
    called = rw (sym i.session) d

    owned : is_own n c.lent ≡ true → Keeps h first c.lent
    owned o = rw (lent o) (i.keeps (own_length n c.lent o).0)

    said : (c.told ≡ M.tells h (length c.lent) c.command) × (c.session ≡ M.session_of later)
    said = one.tells h first c i.sound called (λ o. owned (rw i.opened at o))

    still : M.words later ≡ n
    still = one.opened h (length c.lent) c.command ∙ i.opened

    after : Sound later
    after = one.sound h (length c.lent) c.command i.sound

    -- by whether the words lent are the start's
    step : (b : Bool) → is_own n c.lent ≡ b
        → Agrees M n first (cond b c.left words) h later c × Stands n first (cond b c.left words) later c.session
    step true o =
        let k = one.keeps h first c i.sound called (rw i.opened o) (owned o) in
        let r = one.rest later first c.left k in (
          record { tells = said.0; session = said.1; rest = r; long = one.long s c d; elsewhere = λ e. clash o e },
          record { session = said.1; sound = after; opened = still; rest = r; keeps = λ _. k },
        )
    step false o =
        let u = one.others h c called (rw i.opened o) in
        let r : AsLent (M.bound later) first words = rw u.1 i.rest in (
          record { tells = said.0; session = said.1; rest = r; long = one.long s c d; elsewhere = λ _. u.0 },
          record { session = said.1; sound = after; opened = still; rest = r; keeps = λ z. rw u.1 (i.keeps z) },
        )

  -- P is to be shown of each call, and follows from its agreement and from a sound state before it
  module _ (P : List ℕ → M.State → M.State → Call M → Type 0) (n : ℕ) (first : List ℕ)
      (follows : (now : List ℕ) (h : M.State) (c : Call M) → M.words h ≡ n → Sound h → Agrees M n first now h (state_after M h c) c → P now h (state_after M h c) c) where
    all : (words : List ℕ) (h : M.State) (s : M.Session) (cs : List (Call M)) → Stands n first words h s → Made M did n s words cs → EachCall M P n words h cs
    all words h s [] i m = tt
    all words h s (c ∷ cs) i m =
        let r = step n first words h s c i m.0 m.1 (is_own n c.lent) refl in
        (follows _ h c i.opened i.sound r.0, all (words_after M n words c) (state_after M h c) c.session cs r.1 m.2)

    -- THE THEOREM: from any start whose words keep a sound state, where it has words at all
    pub run : (words : List ℕ) (h : M.State) (s : M.Session) (cs : List (Call M)) → s ≡ M.session_of h → Sound h → M.words h ≡ n → AsLent (M.bound h) first words
        → ((n ≡ 0 → ⊥) → Keeps h first words) → Made M did n s words cs → EachCall M P n words h cs
    run words h s cs e o q r k m = all words h s cs (record { session = e; sound = o; opened = q; rest = r; keeps = k }) m
