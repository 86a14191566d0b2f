-- Lists of calls: calls that agree with a model are told what the model tells their commands; calls made in turn are a run; and one call more, at the end, of which is known what is
-- known of each.
use mathlib.Core.Path.{◌≡◌, refl, ap, ◌∙◌}
use mathlib.Core.Bool.{true}
use mathlib.Core.List.{List, [], ◌∷◌, ◌++◌}
use Prim.Native.Nat.{ℕ, suc}
use lib.ListN.{length}
use Rattle.runs.specs.Runs.{Model, is_own, Call, words_after, state_after, Made, EachCall, AllAgree}
use Rattle.runs.specs.Lists.{replies_of, state_of, commands_of, told_to, AllLent, InTurn, state_after_all, words_after_all, last_session, last_words}
use Rattle.runs.proofs.Induction.{own_length, own_lent}

-- what follows from what is known of each call is known of each call
pub each_call : (M : Model) (P Q : List ℕ → M.State → M.State → Call M → Type 0) → ((now : List ℕ) (h later : M.State) (c : Call M) → P now h later c → Q now h later c)
    → (n : ℕ) (words : List ℕ) (h : M.State) (cs : List (Call M)) → EachCall M P n words h cs → EachCall M Q n words h cs
each_call M P Q f n words h [] a = tt
each_call M P Q f n words h (c ∷ cs) a = (f _ h _ c a.0, each_call M P Q f n (words_after M n words c) (state_after M h c) cs a.1)

module _ (M : Model) (n m : ℕ) (first : List ℕ) where
  -- what calls of m words each are told is what the model tells their commands
  pub told_all : (words : List ℕ) (h : M.State) (cs : List (Call M)) → AllAgree M n first words h cs → AllLent M m cs → told_to M cs ≡ replies_of M h m (commands_of M cs)
  told_all words h [] a l = refl
  told_all words h (c ∷ cs) a l =
      let rest : told_to M cs ≡ replies_of M (M.step h (length c.lent) c.command) m (commands_of M cs) = told_all (words_after M n words c) (state_after M h c) cs a.1 l.1 in
      rw l.0 at (ap (λ (t : M.Told). t ∷ told_to M cs) a.0.tells ∙ ap (λ (ts : List M.Told). M.tells h (length c.lent) c.command ∷ ts) rest)

  -- and the session that the last one returns is that of the state after them all
  pub session_last : (words : List ℕ) (h : M.State) (s : M.Session) (cs : List (Call M)) → s ≡ M.session_of h → AllAgree M n first words h cs → AllLent M m cs
      → last_session M s cs ≡ M.session_of (state_of M h m (commands_of M cs))
  session_last words h s [] e a l = e
  session_last words h s (c ∷ cs) e a l =
      let rest : last_session M c.session cs ≡ M.session_of (state_of M (M.step h (length c.lent) c.command) m (commands_of M cs)) =
      session_last (words_after M n words c) (state_after M h c) c.session cs a.0.session a.1 l.1 in
      rw l.0 at rest

module _ (M : Model) (did : M.Session → Call M → Type 0) where
  -- calls made in turn from m words are a run, each lent as many, where these are the opening's; and where nothing is opened they are a run as well, for then no words are the opening's
  pub in_turn_made : (long : (s : M.Session) (c : Call M) → did s c → length c.left ≡ length c.lent) (n m : ℕ) → ((n ≡ 0 → ⊥) → m ≡ n)
      → (s : M.Session) (words opened : List ℕ) (cs : List (Call M)) → ((n ≡ 0 → ⊥) → words ≡ opened) → length words ≡ m → InTurn M did s words cs
      → Made M did n s opened cs × AllLent M m cs
  in_turn_made long n m e s words opened [] o l t = (tt, tt)
  in_turn_made long n m e s words opened (c ∷ cs) o l t =
      let k : length c.lent ≡ m = ap length t.0 ∙ l in
      let rest = in_turn_made long n m e c.session c.left (words_after M n opened c) cs (λ z. rw (own_lent n c.lent z (k ∙ e z))) (long s c t.1 ∙ k) t.2 in
      (((λ own. t.0 ∙ o (own_length n c.lent own).0), t.1, rest.0), (k, rest.1))

  -- one call more, after those that were made in turn
  pub in_turn_more : (s : M.Session) (words : List ℕ) (cs : List (Call M)) (c : Call M) → InTurn M did s words cs → c.lent ≡ last_words M words cs
      → did (last_session M s cs) c → InTurn M did s words (cs ++ (c ∷ []))
  in_turn_more s words [] c t e d = (e, d, tt)
  in_turn_more s words (a ∷ cs) c t e d = (t.0, t.1, in_turn_more a.session a.left cs c t.2 e d)

  -- and one call more of a run
  pub made_more : (n : ℕ) (s : M.Session) (words : List ℕ) (cs : List (Call M)) (c : Call M) → Made M did n s words cs
      → (is_own n c.lent ≡ true → c.lent ≡ words_after_all M n words cs) → did (last_session M s cs) c → Made M did n s words (cs ++ (c ∷ []))
  made_more n s words [] c m e d = (e, d, tt)
  made_more n s words (a ∷ cs) c m e d = (m.0, m.1, made_more n a.session (words_after M n words a) cs c m.2 e d)

-- what is known of each call of a run is known of the last one
pub last_call : (M : Model) (P : List ℕ → M.State → M.State → Call M → Type 0) (n : ℕ) (words : List ℕ) (h : M.State) (cs : List (Call M)) (c : Call M)
    → EachCall M P n words h (cs ++ (c ∷ [])) → P (words_after M n (words_after_all M n words cs) c) (state_after_all M h cs) (state_after M (state_after_all M h cs) c) c
last_call M P n words h [] c a = a.0
last_call M P n words h (b ∷ cs) c a = last_call M P n (words_after M n words b) (state_after M h b) cs c a.1

module _ (M : Model) where
  pub state_more : (h : M.State) (cs : List (Call M)) (c : Call M) → state_after_all M h (cs ++ (c ∷ [])) ≡ M.step (state_after_all M h cs) (length c.lent) c.command
  state_more h [] c = refl
  state_more h (a ∷ cs) c = state_more (M.step h (length a.lent) a.command) cs c

  pub run_words_more : (n : ℕ) (words : List ℕ) (cs : List (Call M)) (c : Call M)
      → words_after_all M n words (cs ++ (c ∷ [])) ≡ words_after M n (words_after_all M n words cs) c
  run_words_more n words [] c = refl
  run_words_more n words (a ∷ cs) c = run_words_more n (words_after M n words a) cs c

  pub commands_more : (cs : List (Call M)) (c : Call M) → commands_of M (cs ++ (c ∷ [])) ≡ commands_of M cs ++ (c.command ∷ [])
  commands_more [] c = refl
  commands_more (a ∷ cs) c = ap (λ (x : List M.Command). a.command ∷ x) (commands_more cs c)

  pub told_more : (cs : List (Call M)) (c : Call M) → told_to M (cs ++ (c ∷ [])) ≡ told_to M cs ++ (c.told ∷ [])
  told_more [] c = refl
  told_more (a ∷ cs) c = ap (λ (x : List M.Told). a.told ∷ x) (told_more cs c)

  -- there are as many commands as calls, and as many are told
  pub commands_length : (cs : List (Call M)) → length (commands_of M cs) ≡ length cs
  commands_length [] = refl
  commands_length (c ∷ cs) = ap suc (commands_length cs)

  pub told_length : (cs : List (Call M)) → length (told_to M cs) ≡ length cs
  told_length [] = refl
  told_length (c ∷ cs) = ap suc (told_length cs)

  pub session_more : (s : M.Session) (cs : List (Call M)) (c : Call M) → last_session M s (cs ++ (c ∷ [])) ≡ c.session
  session_more s [] c = refl
  session_more s (a ∷ cs) c = session_more a.session cs c

  pub words_more : (words : List ℕ) (cs : List (Call M)) (c : Call M) → last_words M words (cs ++ (c ∷ [])) ≡ c.left
  words_more words [] c = refl
  words_more words (a ∷ cs) c = words_more a.left cs c
