-- Document 01, "Played examples": those marked *, in its order, with what stands in the same item, and those of document 02, point 5, which changes one of them. "Every case opens with 576 words (K = 1) unless it says otherwise."
-- That the model works them out so is the theorem `examples_worked` of proofs/Worked.
use Rattle.std.specs.Prelude.{◌≡◌, List, [], ◌∷◌, map, ℕ, pos, negsuc}
use Rattle.history.specs.declared.Position.{Position}
use Rattle.history.specs.declared.Command.{Command}
use Rattle.history.specs.declared.Command.TheVariants.{Value, Mark, Query, Close}
use Rattle.history.specs.Minima.{stands_at}
use Rattle.history.specs.Replies.{Told, numbered, accepted, showing}
use Rattle.history.specs.Histories.{opening, model}
use Rattle.runs.specs.Lists.{replies_of}

-- an opening of so many words, what it is told, the limit K, the commands, each lent as many words, and what each is told
pub record Example : Type 0 where
  pub words : ℕ
  pub opens : Told
  pub limit : ℕ
  pub commands : List Command
  pub tells : List Told

-- what the bookkeeper makes of an example's opening and commands
abbrev pub worked : Example → Example
worked e = record {
  words = e.words;
  opens = (opening e.words).tells;
  limit = (opening e.words).history.limit;
  commands = e.commands;
  tells = replies_of model (opening e.words).history e.words e.commands;
}

-- each example of a list is as the bookkeeper makes it
abbrev pub AllWorked : List Example → Type 0
AllWorked es = map worked es ≡ es

abbrev at : ℕ → Position
at n = record { 0 = n }

-- the opening alone
abbrev opened : ℕ → Told → ℕ → Example
opened n t k = record { words = n; opens = t; limit = k; commands = []; tells = [] }

-- commands after an opening of 576 words
abbrev commanded : List Command → List Told → Example
commanded cs ts = record { words = 576; opens = accepted; limit = 1; commands = cs; tells = ts }

abbrev pub examples : List Example
examples =
    -- "Opening with 575 words: 1. With 576: K = 1."
    opened 575 (numbered 1) 0
    ∷ opened 576 accepted 1
    -- "With 640: K = 2; with 639: K = 1."
    ∷ opened 640 accepted 2
    ∷ opened 639 accepted 1
    -- "With 262,656: K = 4,096, and with 262,720 also 4,096."
    ∷ opened 262656 accepted 4096
    ∷ opened 262720 accepted 4096
    -- "First command Mark: 7. First command Query 0: 11."
    ∷ commanded (Mark ∷ []) (numbered 7 ∷ [])
    ∷ commanded (Query (at 0) ∷ []) (numbered 11 ∷ [])
    -- "V 5, M, Q 1: dip 5 at 1."
    ∷ commanded (Value (pos 5) ∷ Mark ∷ Query (at 1) ∷ []) (accepted ∷ accepted ∷ showing (stands_at (pos 5) (at 1)) ∷ [])
    -- "V 5, M, V 5, Q 1 becomes 5 at 1." (document 02, point 5)
    ∷ commanded (Value (pos 5) ∷ Mark ∷ Value (pos 5) ∷ Query (at 1) ∷ []) (accepted ∷ accepted ∷ accepted ∷ showing (stands_at (pos 5) (at 1)) ∷ [])
    -- "V 5, M, V 5, M, then Q 1 gives place 1 and Q 2 gives place 2 (K = 2)." (document 02, point 5)
    ∷ record {
      words = 640;
      opens = accepted;
      limit = 2;
      commands = Value (pos 5) ∷ Mark ∷ Value (pos 5) ∷ Mark ∷ Query (at 1) ∷ Query (at 2) ∷ [];
      tells = accepted ∷ accepted ∷ accepted ∷ accepted ∷ showing (stands_at (pos 5) (at 1)) ∷ showing (stands_at (pos 5) (at 2)) ∷ [];
    }
    -- "V 5, M, V 6, Q 1: dip 5 at 1."
    ∷ commanded (Value (pos 5) ∷ Mark ∷ Value (pos 6) ∷ Query (at 1) ∷ []) (accepted ∷ accepted ∷ accepted ∷ showing (stands_at (pos 5) (at 1)) ∷ [])
    -- "V −2,147,483,648, M, V 2,147,483,647, Q 1: dip −2,147,483,648 at 1." The value −n − 1 is `negsuc n`
    ∷ commanded (Value (negsuc 2147483647) ∷ Mark ∷ Value (pos 2147483647) ∷ Query (at 1) ∷ [])
    (accepted ∷ accepted ∷ accepted ∷ showing (stands_at (negsuc 2147483647) (at 1)) ∷ [])
    -- "V 2,147,483,647, M, Q 1: dip 2,147,483,647 at 1."
    ∷ commanded (Value (pos 2147483647) ∷ Mark ∷ Query (at 1) ∷ []) (accepted ∷ accepted ∷ showing (stands_at (pos 2147483647) (at 1)) ∷ [])
    -- "V 1, M, M: the second Mark gets 8."
    ∷ commanded (Value (pos 1) ∷ Mark ∷ Mark ∷ []) (accepted ∷ accepted ∷ numbered 8 ∷ [])
    -- "V 1, M, C 1, M: 9, though nothing is active."
    ∷ commanded (Value (pos 1) ∷ Mark ∷ Close (at 1) ∷ Mark ∷ []) (accepted ∷ accepted ∷ accepted ∷ numbered 9 ∷ [])
    -- "V 1, M, V 2, M: 10."
    ∷ commanded (Value (pos 1) ∷ Mark ∷ Value (pos 2) ∷ Mark ∷ []) (accepted ∷ accepted ∷ accepted ∷ numbered 10 ∷ [])
    -- "V 1, M, V 2, C 1, M: accepted, and Q 2 gives 2 at 2."
    ∷ commanded (Value (pos 1) ∷ Mark ∷ Value (pos 2) ∷ Close (at 1) ∷ Mark ∷ Query (at 2) ∷ [])
    (accepted ∷ accepted ∷ accepted ∷ accepted ∷ accepted ∷ showing (stands_at (pos 2) (at 2)) ∷ [])
    ∷ []
