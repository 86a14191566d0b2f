-- The demands of the exported calls, from what their contracts say, by the engine's own. A list of calls in numbers is one of the engine's calls, each with the session that the numbers stand for, told what
-- the numbers tell; so what the engine's demand 3 says of these holds in numbers.
use mathlib.Core.Path.{◌≡◌, refl, sym, ap, ◌∙◌}
use mathlib.Core.List.{List, [], ◌∷◌}
use Rattle.std.specs.Prelude.{None, Some, cond, eqb}
use Prim.Native.Nat.{ℕ, min}
use native.Mathlib.Decide.{ℕ_discrete}
use lib.ListN.{length}
use borrow.Author.Tests.{eq-eqb, ne_eqb}
use Rattle.history.specs.declared.Position.{Position}
use Rattle.history.specs.Minimum.{Minimum}
use Rattle.history.specs.declared.Standing.{Standing}
use Rattle.history.specs.declared.Standing.TheVariants.{Closed}
use Rattle.history.specs.declared.Session.{Session}
use Rattle.history.specs.declared.Command.{Command}
use Rattle.history.specs.declared.Command.TheVariants.{Value, Mark, Query, Close}
use Rattle.history.specs.Replies.{Told, told}
use Rattle.history.specs.Histories.{History, opening}
use Rattle.history.specs.Histories as Paper
use Rattle.runs.specs.Runs.{Call, words_after, state_after, Made, EachCall}
use Rattle.engine.specs.Answers.{Answer}
use Rattle.engine.specs.Demand as Engine
use Rattle.engine.specs.Calls.{Does}
use Rattle.engine.proofs.Settling.{any_opening, settled_refused, any_number, any_acceptance, query_reads_only}
use Rattle.engine.proofs.Theorem as engine
use Rattle.firmware.specs.declared.sessions.SessionNumbers.{SessionNumbers}
use Rattle.firmware.specs.declared.sessions.AnswerNumbers.{AnswerNumbers}
use Rattle.firmware.specs.Replies.{shown_of}
use Rattle.firmware.specs.Sessions.{standing_number, standing_from, session_from, numbers_of, in_numbers, numbers_after, told_numbers, OpensInNumbers, DoesInNumbers}
use Rattle.firmware.specs.Demands.{OpeningSays, CommandSays, session_with, plainly, AnyOpening, AnyRefusal, AnyAcceptance, AnyCommand, Demand1InC, told_of, minimum_told, model, Answered, Meets, Demand3InC}
use Rattle.firmware.proofs.Numbers.{session_back, number_back, accepted_numbers, refused_numbers, after_numbers}

-- the engine's call that a call in numbers is
abbrev engine_call : Call model → Answer → Call Paper.model
engine_call c a = record { command = c.command; lent = c.lent; left = c.left; told = told a.reply; session = a.session }

-- what demand 3 says of the engine's call it says in numbers. `shows`: an accepted Query shows a minimum
meets : (n : ℕ) (first now : List ℕ) (h later : History) (c : Call model) (a : Answer) → c.told ≡ told_numbers (told a.reply) → c.session ≡ numbers_of a.session
    → ((i : Position) → c.command ≡ Query i → (told a.reply).number ≡ 0 → (m : Minimum) × ((told a.reply).shown ≡ Some m))
    → Engine.Meets n first now h later (engine_call c a) → Meets n first now h later c
meets n first now h later c a e f shows x = record {
  agrees = record {
    tells = e ∙ ap told_numbers x.agrees.tells;
    session = f ∙ ap numbers_of x.agrees.session;
    rest = x.agrees.rest;
    long = x.agrees.long;
    elsewhere = x.agrees.elsewhere;
  };
  full = λ q z o u. rw e (x.full q z o u);
  gets = λ i q o b. let y = x.gets i q o b in rw (e, y.1) (refl, y.2);
  shown = λ i q z.
      let m = shows i q (rw e at z) in
      let y = x.shown i m.0 q m.1 in
      (y.0, rw (ap minimum_told e ∙ ap shown_of m.1) y.1);
}

-- a call on the numbers of a session is one on that session
on_session : {s : SessionNumbers} {t : Session} {c : Command} {lent left : List ℕ} {a : Answer} → s ≡ numbers_of t → Does (session_from s) c lent left a → Does t c lent left a
on_session {t = t} e d = rw (e, session_back t) at d

-- an acceptance that shows nothing, in numbers
plain : {s t : SessionNumbers} {a : Told} → a.number ≡ 0 → a.shown ≡ None → s ≡ t → in_numbers s a ≡ plainly 0 t
plain n e f = λ i. record { session = f i; number = n i; value = (shown_of (e i)).value; place = (shown_of (e i)).place.0 }

-- DEMAND 1, clause by clause. An opening
opening_in_c : (first left : List ℕ) (r : AnswerNumbers) → OpensInNumbers first left r → AnyOpening first left r
opening_in_c first left r w =
    let a = w.answer in
    let x = any_opening first left a w.opens in
    record {
      too_short = λ l. let y = x.too_short l in (w.numbers ∙ (λ i. in_numbers (numbers_of (y.2 i)) (y.0 i)), y.1);
      long_enough = λ l. let y = x.long_enough l in w.numbers ∙ (λ i. in_numbers (numbers_of (y.1 i)) (y.0 i));
      rest = x.rest;
      long = x.long;
    }

-- a refused command leaves the numbers that it was handed
refused_after : (s : SessionNumbers) (c : Command) (a : Answer) → ((told a.reply).number ≡ 0 → ⊥) → numbers_after s c a ≡ s
refused_after s (Value v) a z = refused_numbers s a.session a.reply z
refused_after s Mark a z = refused_numbers s a.session a.reply z
refused_after s (Query i) a z = refl
refused_after s (Close i) a z = refused_numbers s a.session a.reply z

module _ (s : SessionNumbers) (lent left : List ℕ) (r : AnswerNumbers) where
  number_in_c : (c : Command) (w : DoesInNumbers s c lent left r) → r.number ≡ (told w.answer.reply).number
  number_in_c c w = ap (λ (x : AnswerNumbers). x.number) w.numbers

  refused_in_c : (c : Command) → DoesInNumbers s c lent left r → (r.number ≡ 0 → ⊥) → AnyRefusal s lent left r
  refused_in_c c w z =
      let n = number_in_c c w in
      let y : (told w.answer.reply).number ≡ 0 → ⊥ = λ e. z (n ∙ e) in
      let x = settled_refused w.does.settled y in
      let k = refused_after s c w.answer y in
      (w.numbers ∙ (λ i. record { session = k i; number = sym n i; value = (shown_of (x.2 i)).value; place = (shown_of (x.2 i)).place.0 }), x.0)

  accepted_in_c : (c : Command) → DoesInNumbers s c lent left r → r.number ≡ 0 → AnyAcceptance c s lent left r
  accepted_in_c (Value v) w z =
      let y = sym (number_in_c (Value v) w) ∙ z in
      let t = w.answer.session in
      let x = any_acceptance (Value v) (session_from s) lent left t (told w.answer.reply) w.does.settled y in
      let k = accepted_numbers s t w.answer.reply y in
      (t.active, w.numbers ∙ (λ i. in_numbers (k i) (told w.answer.reply)) ∙ plain y x.5 (λ i. session_with (x.0 i) (x.1 i) t.active (x.2 i) (x.3 i) (standing_number (x.4 i))))
  accepted_in_c Mark w z =
      let y = sym (number_in_c Mark w) ∙ z in
      let t = w.answer.session in
      let x = any_acceptance Mark (session_from s) lent left t (told w.answer.reply) w.does.settled y in
      let k = accepted_numbers s t w.answer.reply y in
      (t.active, w.numbers ∙ (λ i. in_numbers (k i) (told w.answer.reply)) ∙ plain y x.5 (λ i. session_with (x.0 i) (x.1 i) t.active (x.2 i).0 (x.3 i) (standing_number (x.4 i))))
  accepted_in_c (Query i) w z = (ap (λ (x : AnswerNumbers). x.session) w.numbers, query_reads_only w.does.settled)
  accepted_in_c (Close i) w z =
      let y = sym (number_in_c (Close i) w) ∙ z in
      let t = w.answer.session in
      let x = any_acceptance (Close i) (session_from s) lent left t (told w.answer.reply) w.does.settled y in
      let k = accepted_numbers s t w.answer.reply y in
      (t.active, w.numbers ∙ (λ j. in_numbers (k j) (told w.answer.reply)) ∙ plain y x.4 (λ j. session_with (x.0 j) (x.1 j) t.active (x.2 j).0 (x.3 j) (closed_number i x.5 x.6 j)))
    where
      closed_number : {k : Standing} (i : Position) → (i.0 ≡ s.present → k ≡ Closed) → ((i.0 ≡ s.present → ⊥) → k ≡ standing_from s.standing)
          → standing_number k ≡ cond (eqb i.0 s.present) 3 (min s.standing 3)
      closed_number i f g = elim (ℕ_discrete i.0 s.present) [
        | yes e ↦ rw (f e, eq-eqb i.0 s.present e) refl
        | no e ↦ rw (g e, ne_eqb i.0 s.present e) (number_back s.standing)
      ]

  any_command : (c : Command) → DoesInNumbers s c lent left r → AnyCommand s c lent left r
  any_command c w = record {
    number = rw (number_in_c c w) (any_number c (session_from s) lent left w.answer.session (told w.answer.reply) w.does.settled);
    refused = refused_in_c c w;
    accepted = accepted_in_c c w;
    long = w.does.long;
  }

module _ (opened : OpeningSays) (says : CommandSays) (opens : (first left : List ℕ) (r : AnswerNumbers) → opened first left r → OpensInNumbers first left r)
    (does : (s : SessionNumbers) (c : Command) (lent left : List ℕ) (r : AnswerNumbers) → says s c lent left r → DoesInNumbers s c lent left r) where
  -- calls in numbers, from those of the session t on, are calls of the engine from t on, and what demand 3 says of these it says of those
  engine_calls : (n : ℕ) (first words : List ℕ) (h : History) (t : Session) (s : SessionNumbers) (cs : List (Call model)) → s ≡ numbers_of t → Made model (Answered says) n s words cs
      → (ds : List (Call Paper.model)) × Made Paper.model (Engine.Answered Does) n t words ds
      × (EachCall Paper.model (Engine.Meets n first) n words h ds → EachCall model (Meets n first) n words h cs)
  engine_calls n first words h t s [] e m = ([], tt, λ _. tt)
  engine_calls n first words h t s (c ∷ cs) e m =
      let r = m.1.0 in
      let w = does s c.command c.lent c.left r m.1.1 in
      let a = w.answer in
      let d : Does t c.command c.lent c.left a = on_session e w.does in
      let f : c.session ≡ numbers_of a.session = m.1.3 ∙ ap (λ (x : AnswerNumbers). x.session) w.numbers ∙ ap (λ (x : SessionNumbers). numbers_after x c.command a) e ∙ after_numbers c.command a d.settled in
      let rest = engine_calls n first (words_after model n words c) (state_after model h c) a.session c.session cs f m.2 in (
        engine_call c a ∷ rest.0,
        (m.0, (a, d, refl, refl), rest.1),
        λ x. (meets n first _ h _ c a (m.1.2 ∙ ap told_of w.numbers) f (λ i q z. shows i c.command d q z) x.0, rest.2 x.1),
      )
    where
      shows : {t : Session} {lent left : List ℕ} {a : Answer} (i : Position) (c : Command) → Does t c lent left a → c ≡ Query i → (told a.reply).number ≡ 0 → (m : Minimum) × ((told a.reply).shown ≡ Some m)
      shows {t} {lent} {left} {a} i c d q z = let y = any_acceptance (Query i) t lent left a.session (told a.reply) (rw q at d.settled) z in (y.2, y.3)

  pub demand_3 : Demand3InC opened says
  demand_3 first left r calls q m =
      let w = opens first left r q in
      let a = w.answer in
      let start : History = (opening (length first)).history in
      let c = engine_calls start.words first left start a.session r.session calls (ap (λ (x : AnswerNumbers). x.session) w.numbers) m in
      let x = engine.by_contract first left a c.0 w.opens c.1 in (
        record {
          tells = ap told_of w.numbers ∙ ap told_numbers x.0.tells;
          session = ap (λ (y : AnswerNumbers). y.session) w.numbers ∙ ap numbers_of x.0.session;
          rest = x.0.rest;
          long = x.0.long;
        },
        c.2 x.1,
      )

  pub demand_1 : Demand1InC opened says
  demand_1 = record {
    opening = λ first left r q. opening_in_c first left r (opens first left r q);
    command = λ s c lent left r q. any_command s lent left r c (does s c lent left r q);
  }

-- DEMAND 3, where no more is known of the functions than their contracts: for a caller of `firmware`
pub by_contract : Demand3InC OpensInNumbers DoesInNumbers
by_contract = demand_3 OpensInNumbers DoesInNumbers (λ first left r d. d) (λ s c lent left r d. d)
