-- Worked examples of the window: which openings are refused, and what values are told. That the paper works them out so is the theorem `examples_worked` of proofs/Examples; that every run of
-- the functions gives them, `examples_given`.
use Rattle.std.specs.Prelude.{◌≡◌, List, [], ◌∷◌, map, ℕ, ℤ, pos, negsuc, length}
use Rattle.history.specs.Minima.{stands_at}
use Rattle.history.specs.Replies.{Told, numbered, accepted, showing, told}
use Rattle.runs.specs.Runs.{Call, Made}
use Rattle.runs.specs.Lists.{replies_of, commands_of, told_to, AllLent}
use Rattle.window.specs.Answers.{Answer}
use Rattle.window.specs.Windows.{opening, model}
use Rattle.window.specs.Promises.{OpeningSays, ValueSays}
use Rattle.window.specs.Claim.{Answered}

-- an opening of a width W on so many words, what it is told, the values, each lent as many words, and what each is told
pub record Example : Type 0 where
  pub width : ℕ
  pub words : ℕ
  pub opens : Told
  pub values : List ℤ
  pub tells : List Told

-- what the paper makes of an example's opening and values
abbrev pub worked : Example → Example
worked e = record {
  width = e.width;
  words = e.words;
  opens = (opening e.words e.width).tells;
  values = e.values;
  tells = replies_of model (opening e.words e.width).paper e.words e.values;
}

-- each example of a list is as the paper makes it
abbrev pub AllWorked : List Example → Type 0
AllWorked es = map worked es ≡ es

-- the opening alone
abbrev opened : ℕ → ℕ → Told → Example
opened width words t = record { width = width; words = words; opens = t; values = []; tells = [] }

-- values after an opening that is accepted
abbrev valued : ℕ → ℕ → List ℤ → List Told → Example
valued width words vs ts = record { width = width; words = words; opens = accepted; values = vs; tells = ts }

-- the least value, and its place
abbrev least : ℤ → ℕ → Told
least v i = showing (stands_at v (record { 0 = i }))

abbrev pub examples : List Example
examples =
    -- "12 at the window's opening for W outside 1 to 4,096", whatever is lent; 4,097 lent no words is 12 and not 13
    opened 0 0 (numbered 12)
    ∷ opened 0 8192 (numbered 12)
    ∷ opened 4097 0 (numbered 12)
    ∷ opened 4097 8194 (numbered 12)
    ∷ opened 9223372036854775808 0 (numbered 12)
    ∷ opened 18446744073709551615 8192 (numbered 12)
    -- "then 13 there for fewer than 2 × W words"
    ∷ opened 1 0 (numbered 13)
    ∷ opened 1 1 (numbered 13)
    ∷ opened 1 2 accepted
    ∷ opened 144 287 (numbered 13)
    ∷ opened 144 288 accepted
    ∷ opened 4096 8191 (numbered 13)
    ∷ opened 4096 8192 accepted
    ∷ opened 4096 8193 accepted
    -- W = 2: 3, 1, 2, 2 tells 3 at 1, 1 at 2, 1 at 2, 2 at 3
    ∷ valued 2 4 (pos 3 ∷ pos 1 ∷ pos 2 ∷ pos 2 ∷ []) (least (pos 3) 1 ∷ least (pos 1) 2 ∷ least (pos 1) 2 ∷ least (pos 2) 3 ∷ [])
    -- W = 1 tells the value just given
    ∷ valued 1 2 (pos 5 ∷ pos 9 ∷ negsuc 2 ∷ []) (least (pos 5) 1 ∷ least (pos 9) 2 ∷ least (negsuc 2) 3 ∷ [])
    -- among equal values the earliest place that has not left
    ∷ valued 4 8 (pos 7 ∷ pos 7 ∷ pos 8 ∷ pos 7 ∷ pos 9 ∷ []) (least (pos 7) 1 ∷ least (pos 7) 1 ∷ least (pos 7) 1 ∷ least (pos 7) 1 ∷ least (pos 7) 2 ∷ [])
    -- a constant stream: always the oldest position
    ∷ valued 3 6 (pos 5 ∷ pos 5 ∷ pos 5 ∷ pos 5 ∷ pos 5 ∷ []) (least (pos 5) 1 ∷ least (pos 5) 1 ∷ least (pos 5) 1 ∷ least (pos 5) 2 ∷ least (pos 5) 3 ∷ [])
    -- both ends of the range, −2,147,483,648 and 2,147,483,647, are ordinary values; the least leaves when W newer ones have come, here on words of a longer area
    ∷ valued 3 9 (pos 2147483647 ∷ negsuc 2147483647 ∷ pos 6 ∷ pos 6 ∷ pos 2147483647 ∷ pos 2147483647 ∷ pos 2147483647 ∷ [])
    (least (pos 2147483647) 1 ∷ least (negsuc 2147483647) 2 ∷ least (negsuc 2147483647) 2 ∷ least (negsuc 2147483647) 2 ∷ least (pos 6) 3 ∷ least (pos 6) 4 ∷ least (pos 2147483647) 5 ∷ [])
    -- "before W have come, all count"
    ∷ valued 144 288 (pos 4 ∷ pos 9 ∷ []) (least (pos 4) 1 ∷ least (pos 4) 1 ∷ [])
    -- a value after a refused opening gets 4
    ∷ record { width = 0; words = 4; opens = numbered 12; values = pos 1 ∷ []; tells = numbered 4 ∷ [] }
    ∷ record { width = 3; words = 5; opens = numbered 13; values = pos 1 ∷ pos 2 ∷ []; tells = numbered 4 ∷ numbered 4 ∷ [] }
    ∷ []

-- an opening and calls give what an example says
pub record Gives (e : Example) (o : Answer) (calls : List (Call model)) : Type 0 where
  pub opens : told o.reply ≡ e.opens
  pub tells : told_to model calls ≡ e.tells

-- every run of an example's values gives it
abbrev pub AlwaysGives : OpeningSays → ValueSays → Example → Type 0
AlwaysGives opens says e =
    (first left : List ℕ) (o : Answer) (calls : List (Call model))
    → length first ≡ e.words
    → opens e.width first left o
    → Made model (Answered says) (opening (length first) e.width).paper.words o.session left calls
    → commands_of model calls ≡ e.values
    → AllLent model e.words calls
    → Gives e o calls

-- each example of a list is always given
abbrev pub AllGiven : OpeningSays → ValueSays → List Example → Type 0
AllGiven opens says [] = Unit {0}
AllGiven opens says (e ∷ es) = AlwaysGives opens says e × AllGiven opens says es
