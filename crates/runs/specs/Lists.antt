-- Lists of commands, as a model works them out; what stands in a list of calls; calls that are each lent what the last one left; and runs that were made, line by line.
use Rattle.std.specs.Prelude.{◌≡◌, List, [], ◌∷◌, cond, ℕ, length}
use Rattle.runs.specs.Runs.{Model, is_own, Call, Made}

module _ (M : Model) where
  -- what the model tells the commands
  abbrev pub replies_of : M.State → ℕ → List M.Command → List M.Told
  replies_of h n [] = []
  replies_of h n (c ∷ cs) = M.tells h n c ∷ replies_of (M.step h n c) n cs

  -- the state after all the commands
  abbrev pub state_of : M.State → ℕ → List M.Command → M.State
  state_of h n [] = h
  state_of h n (c ∷ cs) = state_of (M.step h n c) n cs

  -- the commands of the calls, and what they were told
  abbrev pub commands_of : List (Call M) → List M.Command
  commands_of [] = []
  commands_of (c ∷ cs) = c.command ∷ commands_of cs

  abbrev pub told_to : List (Call M) → List M.Told
  told_to [] = []
  told_to (c ∷ cs) = c.told ∷ told_to cs

  -- each call was lent n words
  abbrev pub AllLent : ℕ → List (Call M) → Type 0
  AllLent n [] = Unit {0}
  AllLent n (c ∷ cs) = (length c.lent ≡ n) × AllLent n cs

  -- the calls were made one after the other, each with the session that the last one returned and lent the words that it left
  abbrev pub InTurn : (M.Session → Call M → Type 0) → M.Session → List ℕ → List (Call M) → Type 0
  InTurn did s words [] = Unit {0}
  InTurn did s words (c ∷ cs) = (c.lent ≡ words) × did s c × InTurn did c.session c.left cs

  -- the model's state after all the calls of a run, and the start's words after them, n of them
  abbrev pub state_after_all : M.State → List (Call M) → M.State
  state_after_all h [] = h
  state_after_all h (c ∷ cs) = state_after_all (M.step h (length c.lent) c.command) cs

  abbrev pub words_after_all : ℕ → List ℕ → List (Call M) → List ℕ
  words_after_all n words [] = words
  words_after_all n words (c ∷ cs) = words_after_all n (cond (is_own n c.lent) c.left words) cs

  -- the session after all the calls, and the words after calls that were made in turn
  abbrev pub last_session : M.Session → List (Call M) → M.Session
  last_session s [] = s
  last_session s (c ∷ cs) = last_session c.session cs

  abbrev pub last_words : List ℕ → List (Call M) → List ℕ
  last_words words [] = words
  last_words words (c ∷ cs) = last_words c.left cs

  -- a line of a run: a command, the length lent for it, and what it was told
  abbrev pub Line : Type 0
  Line = M.Command × ℕ × M.Told

  -- the lines of calls that were made
  abbrev pub lines_of : List (Call M) → List Line
  lines_of [] = []
  lines_of (c ∷ cs) = (c.command, length c.lent, c.told) ∷ lines_of cs

  -- lines without what was told; and the commands of calls, with the lengths lent for them
  abbrev pub asked : List Line → List (M.Command × ℕ)
  asked [] = []
  asked ((c, n, t) ∷ ls) = (c, n) ∷ asked ls

  abbrev pub asked_of : List (Call M) → List (M.Command × ℕ)
  asked_of [] = []
  asked_of (c ∷ cs) = (c.command, length c.lent) ∷ asked_of cs

  -- the lines that the model makes of commands and lengths, and its state after them
  abbrev pub worked : M.State → List (M.Command × ℕ) → List Line
  worked h [] = []
  worked h ((k, n) ∷ asks) = (k, n, M.tells h n k) ∷ worked (M.step h n k) asks

  abbrev pub state_after_asked : M.State → List (M.Command × ℕ) → M.State
  state_after_asked h [] = h
  state_after_asked h ((k, n) ∷ asks) = state_after_asked (M.step h n k) asks

  -- calls of these commands and lengths were made after an opening of n words, `did` being known of each, from the session s and the opening's words `before`, which they left as `after`;
  -- r is the session after them
  pub record Commanded (did : M.Session → Call M → Type 0) (n : ℕ) (s : M.Session) (before after : List ℕ) (asks : List (M.Command × ℕ)) (r : M.Session) : Type 0 where
    pub calls : List (Call M)
    pub made : Made M did n s before calls
    pub asked : asked_of calls ≡ asks
    pub returned : last_session s calls ≡ r
    pub leaves : words_after_all n before calls ≡ after
    pub long : length after ≡ length before
