-- Document 01, "The bookkeeper of demand 3", sentence by sentence, but for 6, which no short list reaches: openings and commands, what each is told, and at the end all that stands on the
-- paper. And the numbers of the refusals. That the model works them out so are the theorems `traces_worked` and `refusals_numbered` of proofs/Worked; of 6 there are `last_refused` and
-- `last_accepted`.
use Rattle.std.specs.Prelude.{◌≡◌, List, [], ◌∷◌, map, ℕ, ℤ, pos, negsuc}
use Rattle.history.specs.declared.Position.{Position}
use Rattle.history.specs.declared.Standing.{Standing}
use Rattle.history.specs.declared.Standing.TheVariants.{None, Unmarked, Marked, Closed}
use Rattle.history.specs.declared.Session.{Session}
use Rattle.history.specs.declared.Command.{Command}
use Rattle.history.specs.declared.Command.TheVariants.{Value, Mark, Query, Close}
use Rattle.history.specs.declared.Refusal.{Refusal}
use Rattle.history.specs.Minima.{stands_at}
use Rattle.history.specs.Replies.{Told, numbered, accepted, showing, number_of}
use Rattle.history.specs.Histories.{History, opening, model}

abbrev at : ℕ → Position
at n = record { 0 = n }

-- a command, and the length lent for it: "then each command with its argument and the length lent for it"
pub record Lent : Type 0 where
  pub command : Command
  pub words : ℕ

-- the state after the commands, and what each is told
abbrev pub state_after_each : History → List Lent → History
state_after_each h [] = h
state_after_each h (c ∷ cs) = state_after_each (model.step h c.words c.command) cs

abbrev pub tells_each : History → List Lent → List Told
tells_each h [] = []
tells_each h (c ∷ cs) = model.tells h c.words c.command ∷ tells_each (model.step h c.words c.command) cs

-- An opening and what it is told, commands and what each is told, and at the end the whole state: "N, K, the values in order, the active taps, the standing and l"; with it the
-- session that demand 3 compares, and the index from which on every word is as lent
pub record Trace : Type 0 where
  pub opened : ℕ
  pub opens : Told
  pub commands : List Lent
  pub tells : List Told
  pub state : History
  pub session : Session
  pub bound : ℕ

-- what the model makes of a trace's opening and commands
abbrev pub traced : Trace → Trace
traced p = record {
  opened = p.opened;
  opens = (opening p.opened).tells;
  commands = p.commands;
  tells = tells_each (opening p.opened).history p.commands;
  state = state_after_each (opening p.opened).history p.commands;
  session = model.session_of (state_after_each (opening p.opened).history p.commands);
  bound = model.bound (state_after_each (opening p.opened).history p.commands);
}

-- each trace of a list is as the model makes it
abbrev pub AllTraced : List Trace → Type 0
AllTraced ps = map traced ps ≡ ps

-- the commands, each lent n words
abbrev each : ℕ → List Command → List Lent
each n cs = map (λ (c : Command). record { command = c; words = n }) cs

-- one command, lent n words
abbrev lent : ℕ → Command → Lent
lent n c = record { command = c; words = n }

-- the Value n
abbrev value : ℕ → Command
value n = Value (pos n)

-- N, K, the values, the active marks, the standing and l
abbrev in_state : ℕ → ℕ → List ℤ → List Position → Standing → ℕ → History
in_state n k values active standing l = record { words = n; limit = k; values = values; active = active; standing = standing; peak = l }

-- N, K, the present position, the last value, the number of active marks and the standing
abbrev in_session : ℕ → ℕ → ℕ → ℤ → ℕ → Standing → Session
in_session n k j v a standing = record { words = n; limit = k; present = at j; last = v; active = a; standing = standing }

abbrev pub traces : List Trace
traces =
    -- "Opening: no values, no taps, standing none, l = 0. .. Otherwise: reply 0, N is the length told, and K follows from it as above."
    record {
      opened = 703;
      opens = accepted;
      commands = [];
      tells = [];
      state = in_state 703 2 [] [] None 0;
      session = in_session 703 2 0 (pos 0) 0 None;
      bound = 512;
    }
    -- "at most 4,096"
    ∷ record {
      opened = 262720;
      opens = accepted;
      commands = [];
      tells = [];
      state = in_state 262720 4096 [] [] None 0;
      session = in_session 262720 4096 0 (pos 0) 0 None;
      bound = 512;
    }
    -- "Below 576: reply 1, and N and K are 0": each command then gets 4, whatever the length, and the paper stays
    ∷ record {
      opened = 575;
      opens = numbered 1;
      commands = lent 575 (value 1) ∷ lent 576 Mark ∷ lent 0 (Query (at 1)) ∷ lent 704 (Close (at 1)) ∷ [];
      tells = numbered 4 ∷ numbered 4 ∷ numbered 4 ∷ numbered 4 ∷ [];
      state = in_state 0 0 [] [] None 0;
      session = in_session 0 0 0 (pos 0) 0 None;
      bound = 512;
    }
    -- another length than N gets 5, before any of 6 to 11, and the paper stays
    ∷ record {
      opened = 704;
      opens = accepted;
      commands = lent 704 (value 8) ∷ lent 703 (value 1) ∷ lent 705 Mark ∷ lent 0 (Query (at 0)) ∷ lent 576 (Close (at 0)) ∷ [];
      tells = accepted ∷ numbered 5 ∷ numbered 5 ∷ numbered 5 ∷ numbered 5 ∷ [];
      state = in_state 704 3 (pos 8 ∷ []) [] Unmarked 0;
      session = in_session 704 3 1 (pos 8) 0 Unmarked;
      bound = 512;
    }
    -- "Value: it is written after the others; standing unmarked."
    ∷ record {
      opened = 704;
      opens = accepted;
      commands = each 704 (value 5 ∷ Mark ∷ Value (negsuc 6) ∷ []);
      tells = accepted ∷ accepted ∷ accepted ∷ [];
      state = in_state 704 3 (pos 5 ∷ negsuc 6 ∷ []) (at 1 ∷ []) Unmarked 1;
      session = in_session 704 3 2 (negsuc 6) 1 Unmarked;
      bound = 576;
    }
    -- "Mark: the present position joins the taps; standing marked. l rises to the number of taps where that is more."
    ∷ record {
      opened = 704;
      opens = accepted;
      commands = each 704 (value 5 ∷ value 6 ∷ Mark ∷ value 7 ∷ Mark ∷ []);
      tells = accepted ∷ accepted ∷ accepted ∷ accepted ∷ accepted ∷ [];
      state = in_state 704 3 (pos 5 ∷ pos 6 ∷ pos 7 ∷ []) (at 2 ∷ at 3 ∷ []) Marked 2;
      session = in_session 704 3 3 (pos 7) 2 Marked;
      bound = 640;
    }
    -- and l stays where it is not more
    ∷ record {
      opened = 704;
      opens = accepted;
      commands = each 704 (value 1 ∷ Mark ∷ value 2 ∷ Mark ∷ Close (at 1) ∷ value 3 ∷ Mark ∷ []);
      tells = accepted ∷ accepted ∷ accepted ∷ accepted ∷ accepted ∷ accepted ∷ accepted ∷ [];
      state = in_state 704 3 (pos 1 ∷ pos 2 ∷ pos 3 ∷ []) (at 2 ∷ at 3 ∷ []) Marked 2;
      session = in_session 704 3 3 (pos 3) 2 Marked;
      bound = 640;
    }
    ∷ record {
      opened = 704;
      opens = accepted;
      commands = each 704 (value 1 ∷ Mark ∷ value 2 ∷ Mark ∷ Close (at 1) ∷ Close (at 2) ∷ value 3 ∷ Mark ∷ []);
      tells = accepted ∷ accepted ∷ accepted ∷ accepted ∷ accepted ∷ accepted ∷ accepted ∷ accepted ∷ [];
      state = in_state 704 3 (pos 1 ∷ pos 2 ∷ pos 3 ∷ []) (at 3 ∷ []) Marked 2;
      session = in_session 704 3 3 (pos 3) 1 Marked;
      bound = 640;
    }
    -- "Query: the reply shows the dip, taken over the written values; the paper stays." Three marks share a dip; an older one has its own, and so has a
    -- younger one, whose dip has the same value at a later place: "Two taps with one dip value may now have different places" (document 02, point 5)
    ∷ record {
      opened = 896;
      opens = accepted;
      commands = each 896 (value 2 ∷ Mark ∷ value 5 ∷ Mark ∷ value 7 ∷ Mark ∷ value 3 ∷ Mark ∷ value 3 ∷ Mark ∷ value 4 ∷ Query (at 1) ∷ Query (at 2) ∷ Query (at 3) ∷ Query (at 4) ∷ Query (at 5) ∷ []);
      tells = accepted ∷ accepted ∷ accepted ∷ accepted ∷ accepted ∷ accepted ∷ accepted ∷ accepted ∷ accepted ∷ accepted ∷ accepted ∷ showing (stands_at (pos 2) (at 1))
          ∷ showing (stands_at (pos 3) (at 4)) ∷ showing (stands_at (pos 3) (at 4)) ∷ showing (stands_at (pos 3) (at 4)) ∷ showing (stands_at (pos 3) (at 5)) ∷ [];
      state = in_state 896 6 (pos 2 ∷ pos 5 ∷ pos 7 ∷ pos 3 ∷ pos 3 ∷ pos 4 ∷ []) (at 1 ∷ at 2 ∷ at 3 ∷ at 4 ∷ at 5 ∷ []) Unmarked 5;
      session = in_session 896 6 6 (pos 4) 5 Unmarked;
      bound = 832;
    }
    -- a value takes over from a higher dip, and not from one that equals it
    ∷ record {
      opened = 704;
      opens = accepted;
      commands = each 704 (value 3 ∷ Mark ∷ value 4 ∷ Mark ∷ value 3 ∷ Query (at 1) ∷ Query (at 2) ∷ []);
      tells = accepted ∷ accepted ∷ accepted ∷ accepted ∷ accepted ∷ showing (stands_at (pos 3) (at 1)) ∷ showing (stands_at (pos 3) (at 3)) ∷ [];
      state = in_state 704 3 (pos 3 ∷ pos 4 ∷ pos 3 ∷ []) (at 1 ∷ at 2 ∷ []) Unmarked 2;
      session = in_session 704 3 3 (pos 3) 2 Unmarked;
      bound = 640;
    }
    -- "Close: its position is struck from the taps." An older one leaves the standing, be it unmarked, marked or closed
    ∷ record {
      opened = 704;
      opens = accepted;
      commands = each 704 (value 1 ∷ Mark ∷ value 2 ∷ Close (at 1) ∷ []);
      tells = accepted ∷ accepted ∷ accepted ∷ accepted ∷ [];
      state = in_state 704 3 (pos 1 ∷ pos 2 ∷ []) [] Unmarked 1;
      session = in_session 704 3 2 (pos 2) 0 Unmarked;
      bound = 576;
    }
    ∷ record {
      opened = 704;
      opens = accepted;
      commands = each 704 (value 1 ∷ Mark ∷ value 2 ∷ Mark ∷ value 3 ∷ Mark ∷ Close (at 2) ∷ []);
      tells = accepted ∷ accepted ∷ accepted ∷ accepted ∷ accepted ∷ accepted ∷ accepted ∷ [];
      state = in_state 704 3 (pos 1 ∷ pos 2 ∷ pos 3 ∷ []) (at 1 ∷ at 3 ∷ []) Marked 3;
      session = in_session 704 3 3 (pos 3) 2 Marked;
      bound = 704;
    }
    ∷ record {
      opened = 704;
      opens = accepted;
      commands = each 704 (value 1 ∷ Mark ∷ value 2 ∷ Mark ∷ Close (at 2) ∷ Close (at 1) ∷ []);
      tells = accepted ∷ accepted ∷ accepted ∷ accepted ∷ accepted ∷ accepted ∷ [];
      state = in_state 704 3 (pos 1 ∷ pos 2 ∷ []) [] Closed 2;
      session = in_session 704 3 2 (pos 2) 0 Closed;
      bound = 640;
    }
    -- "If it is the present position, standing is closed."
    ∷ record {
      opened = 704;
      opens = accepted;
      commands = each 704 (value 1 ∷ Mark ∷ value 2 ∷ Mark ∷ Close (at 2) ∷ []);
      tells = accepted ∷ accepted ∷ accepted ∷ accepted ∷ accepted ∷ [];
      state = in_state 704 3 (pos 1 ∷ pos 2 ∷ []) (at 1 ∷ []) Closed 2;
      session = in_session 704 3 2 (pos 2) 1 Closed;
      bound = 640;
    }
    -- "the paper stays" after 7,
    ∷ record {
      opened = 576;
      opens = accepted;
      commands = each 576 (Mark ∷ []);
      tells = numbered 7 ∷ [];
      state = in_state 576 1 [] [] None 0;
      session = in_session 576 1 0 (pos 0) 0 None;
      bound = 512;
    }
    -- after 8,
    ∷ record {
      opened = 576;
      opens = accepted;
      commands = each 576 (value 1 ∷ Mark ∷ Mark ∷ []);
      tells = accepted ∷ accepted ∷ numbered 8 ∷ [];
      state = in_state 576 1 (pos 1 ∷ []) (at 1 ∷ []) Marked 1;
      session = in_session 576 1 1 (pos 1) 1 Marked;
      bound = 576;
    }
    -- after 9,
    ∷ record {
      opened = 576;
      opens = accepted;
      commands = each 576 (value 1 ∷ Mark ∷ Close (at 1) ∷ Mark ∷ []);
      tells = accepted ∷ accepted ∷ accepted ∷ numbered 9 ∷ [];
      state = in_state 576 1 (pos 1 ∷ []) [] Closed 1;
      session = in_session 576 1 1 (pos 1) 0 Closed;
      bound = 576;
    }
    -- after 10, "exactly K taps" with K = 1 and with K = 3,
    ∷ record {
      opened = 576;
      opens = accepted;
      commands = each 576 (value 1 ∷ Mark ∷ value 2 ∷ Mark ∷ []);
      tells = accepted ∷ accepted ∷ accepted ∷ numbered 10 ∷ [];
      state = in_state 576 1 (pos 1 ∷ pos 2 ∷ []) (at 1 ∷ []) Unmarked 1;
      session = in_session 576 1 2 (pos 2) 1 Unmarked;
      bound = 576;
    }
    ∷ record {
      opened = 704;
      opens = accepted;
      commands = each 704 (value 1 ∷ Mark ∷ value 2 ∷ Mark ∷ value 3 ∷ Mark ∷ value 4 ∷ Mark ∷ []);
      tells = accepted ∷ accepted ∷ accepted ∷ accepted ∷ accepted ∷ accepted ∷ accepted ∷ numbered 10 ∷ [];
      state = in_state 704 3 (pos 1 ∷ pos 2 ∷ pos 3 ∷ pos 4 ∷ []) (at 1 ∷ at 2 ∷ at 3 ∷ []) Unmarked 3;
      session = in_session 704 3 4 (pos 4) 3 Unmarked;
      bound = 704;
    }
    -- and after 11: "0, future, unmarked and closed positions included"
    ∷ record {
      opened = 704;
      opens = accepted;
      commands = each 704 (value 1 ∷ value 2 ∷ Mark ∷ Query (at 0) ∷ Query (at 3) ∷ Query (at 1) ∷ Close (at 0) ∷ Close (at 3) ∷ Close (at 1) ∷ []);
      tells = accepted ∷ accepted ∷ accepted ∷ numbered 11 ∷ numbered 11 ∷ numbered 11 ∷ numbered 11 ∷ numbered 11 ∷ numbered 11 ∷ [];
      state = in_state 704 3 (pos 1 ∷ pos 2 ∷ []) (at 2 ∷ []) Marked 1;
      session = in_session 704 3 2 (pos 2) 1 Marked;
      bound = 576;
    }
    ∷ record {
      opened = 704;
      opens = accepted;
      commands = each 704 (value 1 ∷ Mark ∷ Close (at 1) ∷ value 2 ∷ Query (at 1) ∷ Close (at 1) ∷ []);
      tells = accepted ∷ accepted ∷ accepted ∷ accepted ∷ numbered 11 ∷ numbered 11 ∷ [];
      state = in_state 704 3 (pos 1 ∷ pos 2 ∷ []) [] Unmarked 1;
      session = in_session 704 3 2 (pos 2) 0 Unmarked;
      bound = 576;
    }
    ∷ []

-- Document 01, "Replies in checking order": the refusals, in the order of its numbers
abbrev pub refusals : List Refusal
refusals =
    Refusal.AreaTooShort
    ∷ Refusal.UnknownKind
    ∷ Refusal.ArgumentCutOff
    ∷ Refusal.Unopened
    ∷ Refusal.OtherLength
    ∷ Refusal.LastPosition
    ∷ Refusal.NothingToMark
    ∷ Refusal.AlreadyMarked
    ∷ Refusal.AlreadyClosed
    ∷ Refusal.Full
    ∷ Refusal.NotActive
    ∷ []

-- each has its number: 1 to 11
abbrev pub AllNumbered : List Refusal → Type 0
AllNumbered rs = map number_of rs ≡ 1 ∷ 2 ∷ 3 ∷ 4 ∷ 5 ∷ 6 ∷ 7 ∷ 8 ∷ 9 ∷ 10 ∷ 11 ∷ []
