-- What an opening and a value hand out for EVERY session and EVERY words, also ones that no call ever returned or left: document 02, point 2, with document 01's rule that all but what is
-- free "is determined by its promise for every input". That no word outside the ends is read or written and that each call ends is what the checker shows of every function.
use Rattle.std.specs.Prelude.{◌≡◌, List, ◌⊎◌, ℕ, ◌*◌, ◌<◌, ◌≤◌, ℤ, length, get_or}
use Rattle.history.specs.Minimum.{Minimum}
use Rattle.history.specs.Minima.{next}
use Rattle.history.specs.Replies.{Told, numbered, accepted, showing}
use Rattle.window.specs.declared.Window.{Window}
use Rattle.window.specs.Answers.{Answer}

-- what is known of an opening: W, the words before and after, and its answer; and of a value: the session that went in, the value, the words before and after, and its answer
abbrev pub OpeningSays : Type 1
OpeningSays = ℕ → List ℕ → List ℕ → Answer → Type 0

abbrev pub ValueSays : Type 1
ValueSays = Window → ℤ → List ℕ → List ℕ → Answer → Type 0

-- a session of N words and the width W, at a present position
abbrev pub window_of : (words width present : ℕ) → Window
window_of words width present = record { words = words; width = width; present = record { 0 = present } }

-- REFUSED with a number: the session is the one given, no word is written, and no value or place is shown
abbrev pub Refused : ℕ → Window → List ℕ → List ℕ → Window → Told → Type 0
Refused number given before after returned a = (a ≡ numbered number) × (returned ≡ given) × (after ≡ before)

-- AN OPENING, of words of any content and any W
pub record AnyOpening (width : ℕ) (first left : List ℕ) (t : Window) (a : Told) : Type 0 where
  -- "12 at the window's opening for W outside 1 to 4,096"; "both write nothing and return the unopened window session", all its numbers 0
  pub out_of_range : (width < 1) ⊎ (4096 < width) → Refused 12 (window_of 0 0 0) first left t a
  -- "then 13 there for fewer than 2 × W words"
  pub too_short : 1 ≤ width → width ≤ 4096 → length first < 2 * width → Refused 13 (window_of 0 0 0) first left t a
  -- and else it is opened: N is the length lent
  pub opens : 1 ≤ width → width ≤ 4096 → 2 * width ≤ length first → (a ≡ accepted) × (t ≡ window_of (length first) width 0)
  -- no word from index 2 × W on is written: ours, beyond the papers
  pub rest : (i : ℕ) → 2 * width ≤ i → get_or left i 0 ≡ get_or first i 0
  pub long : length left ≡ length first

-- A VALUE, of any session and any words: "each value meets 4, 5 and 6 as in the engine", in this order
pub record AnyValue (s : Window) (lent left : List ℕ) (t : Window) (a : Told) : Type 0 where
  -- 4 "when the session is unopened", 5 "when the area lent now is not N words long", 6 "when the present position is 4,294,967,295"
  pub unopened : s.words ≡ 0 → Refused 4 s lent left t a
  pub other_length : (s.words ≡ 0 → ⊥) → (length lent ≡ s.words → ⊥) → Refused 5 s lent left t a
  pub last_position : (s.words ≡ 0 → ⊥) → length lent ≡ s.words → s.present.0 ≡ 4294967295 → Refused 6 s lent left t a
  -- and else it is accepted. Free, on a session and words that the last call did not leave: the value and place shown; of those that it left, the claim over a list fixes them. Always free:
  -- what stands in the first 2 × W words. Every choice has in common that the reply is 0, a value and a place are shown, N and W stay, and the present position is the next
  pub accepts : (s.words ≡ 0 → ⊥) → length lent ≡ s.words → (s.present.0 ≡ 4294967295 → ⊥)
      → (m : Minimum) × (a ≡ showing m) × (t ≡ record { words = s.words; width = s.width; present = next s.present })
  -- no word from index 2 × W on is written: ours, beyond the papers
  pub rest : (i : ℕ) → 2 * s.width ≤ i → get_or left i 0 ≡ get_or lent i 0
  pub long : length left ≡ length lent
