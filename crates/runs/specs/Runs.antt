-- A run: a start on lent words, such as an opening, and then calls, each with the session that the last one returned. What a run is, and when it agrees with a model of
-- the machine, is said of any machine, whatever its commands, its session and the model's states are.
use Rattle.std.specs.Prelude.{◌≡◌, Bool, true, false, cond, List, [], ◌∷◌, ℕ, ◌≤◌, eqb, length, get_or}

-- A model of a machine: document 01's "bookkeeper", with what stands "on the paper" for its state. It is told "the commands and the lent lengths, and nothing of the pedal's":
-- the state after a command, and what the command is told, follow from the state before it, the command and the length lent for it
pub record Model : Type 1 where
  pub Command : Type 0
  pub Told : Type 0
  pub Session : Type 0
  pub State : Type 0
  pub step : State → ℕ → Command → State
  pub tells : State → ℕ → Command → Told
  -- what a session should be
  pub session_of : State → Session
  -- N, which is 0 where nothing was opened
  pub words : State → ℕ
  -- the index from which on every word is still as it was lent
  pub bound : State → ℕ

-- "every word from index .. on is still as it was lent": the words were `first` when they were lent, and are `now`
abbrev pub AsLent : ℕ → List ℕ → List ℕ → Type 0
AsLent bound first now = (i : ℕ) → bound ≤ i → get_or now i 0 ≡ get_or first i 0

-- whether the words lent are the start's, of n words: "When N is not 0, a command lent N words is lent the opening's words"
abbrev pub is_own : ℕ → List ℕ → Bool
is_own n lent = cond (eqb n 0) false (eqb (length lent) n)

-- a call that was made: the command, the words lent for it, the words as it left them, what it told, and the session that it returned
pub record Call (M : Model) : Type 0 where
  pub command : M.Command
  pub lent : List ℕ
  pub left : List ℕ
  pub told : M.Told
  pub session : M.Session

module _ (M : Model) where
  -- the start's words after a call, and the model's state after it
  abbrev pub words_after : ℕ → List ℕ → Call M → List ℕ
  words_after n words c = cond (is_own n c.lent) c.left words

  abbrev pub state_after : M.State → Call M → M.State
  state_after h c = M.step h (length c.lent) c.command

  -- The calls were made one after the other, and `did` is known of each. "Each call gets the session the last call returned and words as document 01 lends them; nobody else
  -- writes the opening's words meanwhile": a call lent N words gets the opening's "as last left"; "Any other command may be lent any words"
  abbrev pub Made : (M.Session → Call M → Type 0) → ℕ → M.Session → List ℕ → List (Call M) → Type 0
  Made did n s words [] = Unit {0}
  Made did n s words (c ∷ cs) = (is_own n c.lent ≡ true → c.lent ≡ words) × did s c × Made did n c.session (words_after n words c) cs

  -- One call agrees with the model, whose state is h before it and `later` after it. The start was on the words `first`, which are `now` after the call
  pub record Agrees (n : ℕ) (first now : List ℕ) (h later : M.State) (c : Call M) : Type 0 where
    -- "the pedal's reply is the bookkeeper's, value and place included, and the session's numbers and standing are those on the paper"
    pub tells : c.told ≡ M.tells h (length c.lent) c.command
    pub session : c.session ≡ M.session_of later
    -- "A word is as lent when it equals what it held just before the opening."
    pub rest : AsLent (M.bound later) first now
    pub long : length c.left ≡ length c.lent
    -- "Any other command may be lent any words, and alters none of them."
    pub elsewhere : is_own n c.lent ≡ false → c.left ≡ c.lent

  -- "after every command in the list": P of the start's words after each call, the state before it, the state after it, and the call
  abbrev pub EachCall : (List ℕ → M.State → M.State → Call M → Type 0) → ℕ → List ℕ → M.State → List (Call M) → Type 0
  EachCall P n words h [] = Unit {0}
  EachCall P n words h (c ∷ cs) = P (words_after n words c) h (state_after h c) c × EachCall P n (words_after n words c) (state_after h c) cs

  -- each call of a list agrees
  abbrev pub AllAgree : ℕ → List ℕ → List ℕ → M.State → List (Call M) → Type 0
  AllAgree n first = EachCall (Agrees n first) n
