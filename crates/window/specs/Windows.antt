-- THE LOOK-AHEAD WINDOW of document 02, point 2, as a bookkeeper has it on paper: told the opening's length and W, then each value and the length lent for it, and nothing of the
-- program's.
use Rattle.std.specs.Prelude.{cond, ◌&&◌, List, [], ◌∷◌, ◌++◌, ℕ, ◌*◌, ◌-◌, max, ℤ, leb, ltb, eqb}
use Rattle.runs.specs.Runs.{Model}
use Rattle.history.specs.declared.Position.{Position}
use Rattle.history.specs.Minimum.{Minimum}
use Rattle.history.specs.Minima.{present_at, minimum}
use Rattle.history.specs.Replies.{Told, numbered, accepted, showing, value_refusal, lent_refusal}
use Rattle.window.specs.declared.Window.{Window}

-- On the paper stand N, W and the values in the order of their positions: `words` is N, `width` is W
pub record Paper : Type 0 where
  pub words : ℕ
  pub width : ℕ
  pub values : List ℤ

-- what is compared with the session, which is a `Window`: N, W and the present position, which "is how many values stand there"
abbrev pub session_of : Paper → Window
session_of p = record { words = p.words; width = p.width; present = present_at p.values }

-- the paper after an opening or a value, and what the caller is told
pub record Stepped : Type 0 where
  pub paper : Paper
  pub tells : Told

-- "12 at the window's opening for W outside 1 to 4,096; then 13 there for fewer than 2 × W words"; 0: none applies to an opening of n words
abbrev pub opening_refusal : (n width : ℕ) → ℕ
opening_refusal n width = cond (leb 1 width && leb width 4096) (cond (ltb n (2 * width)) 13 0) 12

-- N words and the width W, and no values yet
abbrev pub blank : (n width : ℕ) → Paper
blank n width = record { words = n; width = width; values = [] }

-- the opening: "both .. return the unopened window session", so N and W are 0. Otherwise N is the length told
abbrev pub opening : (n width : ℕ) → Stepped
opening n width = cond (eqb (opening_refusal n width) 0)
    (record { paper = blank n width; tells = accepted })
    (record { paper = blank 0 0; tells = numbered (opening_refusal n width) })

-- "Values enter one by one and leave when W newer ones have come; before W have come, all count": the oldest position whose value has not left
abbrev pub oldest : (present : Position) (width : ℕ) → Position
oldest present width = record { 0 = max 1 (present.0 - (width - 1)) }

-- "the dip of the last W values": "It equals what a tap at the window's oldest position would be told, whether or not a tap stands there." And, by the same definition, "The window and stored takes follow the same rule" (point 5)
abbrev pub least : (width : ℕ) → List ℤ → Minimum
least width values = minimum values (oldest (present_at values) width)

-- "each value meets 4, 5 and 6 as in the engine", lent n words; 0: none applies
abbrev pub refusal_of : Paper → ℕ → ℕ
refusal_of p n = lent_refusal p.words n (value_refusal (present_at p.values))

-- "Reply after each value: least value and place."
abbrev pub accept : Paper → ℤ → Stepped
accept p v =
    let values : List ℤ = p.values ++ (v ∷ []) in
    record { paper = record { words = p.words; width = p.width; values = values }; tells = showing (least p.width values) }

-- a value that is refused changes nothing
abbrev pub step : Paper → ℕ → ℤ → Stepped
step p n v = cond (eqb (refusal_of p n) 0) (accept p v) (record { paper = p; tells = numbered (refusal_of p n) })

-- the window as a model that runs are held to. That the words from index 2 × W on stay as lent is a promise of ours, beyond the papers: a longer area's further words are the caller's own
abbrev pub model : Model
model = record {
  Command = ℤ;
  Told = Told;
  Session = Window;
  State = Paper;
  step = λ p n v. (step p n v).paper;
  tells = λ p n v. (step p n v).tells;
  session_of = λ p. session_of p;
  words = λ p. p.words;
  bound = λ p. 2 * p.width;
}
