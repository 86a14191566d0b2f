-- The promises of demand 3 in plain numbers, from demand 3 alone. Wherever a run has come to, there is a list of calls that were made; one call more, at its end, meets the demand, and
-- each promise is one of its clauses with the numbers written out.
use mathlib.Core.Path.{◌≡◌, refl, sym, ap, ◌∙◌}
use mathlib.Core.Bool.{Bool, true, false, cond}
use mathlib.Core.List.{List, [], ◌∷◌, ◌++◌}
use mathlib.Core.Logic.{◌⊎◌, inl, inr}
use Prim.Native.Nat.{ℕ, ◌+◌, ◌*◌}
use native.Mathlib.Omega.{arith}
use lib.ListN.{length}
use Rattle.history.specs.declared.Session.{Session}
use Rattle.history.specs.declared.Command.{Command}
use Rattle.engine.specs.Answers.{Answer}
use Rattle.history.specs.Replies.{Told, told}
use Rattle.history.specs.Histories.{History, Stepped, session_of, is_active, opening, refusal_of, step, model}
use Rattle.history.proofs.Steps.{refusal_unopened, refusal_other, step-refused, step_words, opening_refused, opening-accepted}
use Rattle.history.proofs.Following.{told_inactive}
use Rattle.runs.specs.Runs.{AsLent, is_own, Call, words_after, Made}
use Rattle.runs.specs.Lists.{state_after_all, words_after_all, last_session}
use Rattle.runs.proofs.Induction.{own_length, own_lent, other_lent, other_length_lem, as_lent_at}
use Rattle.runs.proofs.Lists.{made_more, last_call, state_more, run_words_more, session_more}
use Rattle.engine.specs.Demand.{Answered, Meets}
use Rattle.engine.specs.Consequences.{Reached, opened, own_words, other_words, Matches, Replied, EveryRun}
use Rattle.engine.proofs.Tied.{Opened, Called}
use Rattle.engine.proofs.Functions.{demand_3}

-- the paper after the opening of the words `first`
abbrev paper : List ℕ → History
paper first = (opening (length first)).history

-- a list of calls that leads to a session, words and paper
record Run (first words : List ℕ) (h : History) (s : Session) : Type 0 where
  left : List ℕ
  answer : Answer
  calls : List (Call model)
  opens : Opened first left answer
  made : Made model (Answered Called) (paper first).words answer.session left calls
  session : last_session model answer.session calls ≡ s
  now : words_after_all model (paper first).words left calls ≡ words
  state : state_after_all model (paper first) calls ≡ h
  opened : h.words ≡ (paper first).words

-- ONE CALL MORE of such a list
module _ {first words : List ℕ} {h : History} {s : Session} (g : Run first words h s) (c : Command) (lent left : List ℕ) (r : Answer)
    (e : (h.words ≡ 0 → ⊥) → length lent ≡ h.words → lent ≡ words) (d : Called s c lent left r) where
  abbrev call : Call model
  call = record { command = c; lent = lent; left = left; told = told r.reply; session = r.session }

  more : Made model (Answered Called) (paper first).words g.answer.session g.left (g.calls ++ (call ∷ []))
  more =
      made_more model (Answered Called) (paper first).words g.answer.session g.left g.calls call g.made
      (λ o.
      let l = own_length (paper first).words lent o in
      e (λ z. l.0 (sym g.opened ∙ z)) (l.1 ∙ sym g.opened) ∙ sym g.now)
      (rw g.session (r, d, refl, refl))

  -- it meets the demand
  meets : Meets (paper first).words first (words_after model (paper first).words words call) h (step h (length lent) c).history call
  meets =
      rw (g.now, g.state) at
      (last_call model (Meets (paper first).words first) (paper first).words g.left (paper first) g.calls call
      (demand_3 first g.left g.answer (g.calls ++ (call ∷ [])) g.opens more).1)

  run_more : Run first (words_after model (paper first).words words call) (step h (length lent) c).history r.session
  run_more = record {
    left = g.left;
    answer = g.answer;
    calls = g.calls ++ (call ∷ []);
    opens = g.opens;
    made = more;
    session = session_more model g.answer.session g.calls call;
    now = run_words_more model (paper first).words g.left g.calls call ∙ ap (λ (w : List ℕ). words_after model (paper first).words w call) g.now;
    state = state_more model (paper first) g.calls call ∙ ap (λ (x : History). (step x (length lent) c).history) g.state;
    opened = step_words h (length lent) c ∙ g.opened;
  }

-- what the demand says of the session and the words, written out
on_paper : {first words : List ℕ} {h : History} {s : Session} → s ≡ session_of h → AsLent (model.bound h) first words → length words ≡ length first
    → Matches first words h s
on_paper {first} {words} {h} e a l = record {
  words_opened = ap (λ (x : Session). x.words) e;
  limit = ap (λ (x : Session). x.limit) e;
  present = ap (λ (x : Session). x.present.0) e;
  last = ap (λ (x : Session). x.last) e;
  active = ap (λ (x : Session). x.active) e;
  standing = ap (λ (x : Session). x.standing) e;
  rest = as_lent_at (512 + 64 * h.peak) first words a;
  long = l;
}

-- words that are not the opening's are not its words
not_lent : {n : ℕ} {words lent : List ℕ} → ((n ≡ 0) ⊎ (length lent ≡ n → ⊥)) → (n ≡ 0 → ⊥) → length lent ≡ n → lent ≡ words
not_lent (inl z) y l = absurd (y z)
not_lent (inr o) y l = absurd (o l)

-- such a list, and what the demand says where it leads to
record Come (first words : List ℕ) (h : History) (s : Session) : Type 0 where
  run : Run first words h s
  stands : Matches first words h s

come_opened : {first left : List ℕ} {o : Answer} → Opened first left o → Come first left (paper first) o.session
come_opened {first} {left} {o} q =
    let a = (demand_3 first left o [] q tt).0 in
    record {
      run = record { left = left; answer = o; calls = []; opens = q; made = tt; session = refl; now = refl; state = refl; opened = refl };
      stands = on_paper a.session (λ i l. a.rest i (omega arith)) a.long;
    }

module _ {first words : List ℕ} {h : History} {s : Session} (x : Come first words h s) (c : Command) {left : List ℕ} {r : Answer} where
  come_own : (h.words ≡ 0 → ⊥) → length words ≡ h.words → Called s c words left r → Come first left (step h (length words) c).history r.session
  come_own z l d =
      let o = own_lent (paper first).words words (λ q. z (x.run.opened ∙ q)) (l ∙ x.run.opened) in
      let a = (meets x.run c words left r (λ _ _. refl) d).agrees in
      record { run = rw o at (run_more x.run c words left r (λ _ _. refl) d); stands = on_paper a.session (rw o at a.rest) (a.long ∙ x.stands.long) }

  come_other : (lent : List ℕ) → ((h.words ≡ 0) ⊎ (length lent ≡ h.words → ⊥)) → Called s c lent left r
      → Come first words (step h (length lent) c).history r.session
  come_other lent y d =
      let o = other_lent (paper first).words lent (rw x.run.opened at y) in
      let a = (meets x.run c lent left r (not_lent y) d).agrees in
      record { run = rw o at (run_more x.run c lent left r (not_lent y) d); stands = on_paper a.session (rw o at a.rest) x.stands.long }

-- WHEREVER A RUN HAS COME TO
come : {first words : List ℕ} {h : History} {s : Session} → Reached Opened Called first s words h → Come first words h s
come (opened q) = come_opened q
come (own_words c g z l d) = come_own (come g) c z l d
come (other_words c lent g y d) = come_other (come g) c lent y d

-- EVERY LIST OF CALLS REACHES A POINT. One call more, lent the opening's words or others
module _ {first words : List ℕ} {h : History} {s : Session} (n : ℕ) (g : Reached Opened Called first s words h) (e : h.words ≡ n) (c : Call model)
    (lent : is_own n c.lent ≡ true → c.lent ≡ words) (d : Answered Called s c) where
  further : (b : Bool) → is_own n c.lent ≡ b → Reached Opened Called first c.session (cond b c.left words) (step h (length c.lent) c.command).history
  further true o =
      let l = own_length n c.lent o in
      rw (d.3, lent o) (own_words c.command g (λ z. l.0 (sym e ∙ z)) (ap length (sym (lent o)) ∙ l.1 ∙ sym e) (rw (lent o) at d.1))
  further false o = rw d.3 (other_words c.command c.lent g (rw (← e) at (other_length_lem n c.lent o)) d.1)

go_on : {first words : List ℕ} {h : History} {s : Session} (n : ℕ) → Reached Opened Called first s words h → h.words ≡ n → (cs : List (Call model))
    → Made model (Answered Called) n s words cs → Reached Opened Called first (last_session model s cs) (words_after_all model n words cs) (state_after_all model h cs)
go_on n g e [] m = g
go_on {words = words} {h = h} n g e (c ∷ cs) m =
    go_on {words = cond (is_own n c.lent) c.left words} n (further n g e c m.0 m.1 (is_own n c.lent) refl) (step_words h (length c.lent) c.command ∙ e) cs m.2

-- THE NEXT REPLY
replied : {first words : List ℕ} {h : History} {s : Session} → Run first words h s → (c : Command) (lent left : List ℕ) (r : Answer)
    → ((h.words ≡ 0 → ⊥) → length lent ≡ h.words → lent ≡ words) → Called s c lent left r → Replied h c lent left (told r.reply)
replied {first} {words} {h} g c lent left r e d =
    let m = meets g c lent left r e d in
    let number = ap (λ (x : Told). x.number) m.agrees.tells in
    record {
      number = number;
      shown = ap (λ (x : Told). x.shown) m.agrees.tells;
      long = m.agrees.long;
      unopened = λ z. (
        number ∙ told_other 4 (refusal_unopened (session_of h) (length lent) (is_active h c) c z) (λ x. omega arith),
        m.agrees.elsewhere (other_lent (paper first).words lent (inl (sym g.opened ∙ z))),
      );
      other_length = λ z o. (
        number ∙ told_other 5 (refusal_other (session_of h) (length lent) (is_active h c) c z o) (λ x. omega arith),
        m.agrees.elsewhere (other_lent (paper first).words lent (inr (λ l. o (l ∙ sym g.opened)))),
      );
      full = λ q z l u. (m.full q z l u).1;
      only_full = λ q z l u. (m.full q z l u).0;
      least = λ i q z l b.
          let x = m.gets i q (own_lent (paper first).words lent (λ y. z (g.opened ∙ y)) (l ∙ g.opened)) b in
          (x.0, ap (λ (y : Told). y.number) x.1, ap (λ (y : Told). y.shown) x.1, x.2);
      inactive = λ i q z l b.
          let x = m.agrees.tells ∙ ap (λ (y : Command). (step h (length lent) y).tells) q ∙ told_inactive h (length lent) z l i b in
          (ap (λ (y : Told). y.number) x, ap (λ (y : Told). y.shown) x);
      only_least = λ i v q t. m.shown i v q t;
    }
  where
    told_other : (k : ℕ) → refusal_of h (length lent) c ≡ k → (k ≡ 0 → ⊥) → (step h (length lent) c).tells.number ≡ k
    told_other k f z = ap (λ (x : Stepped). x.tells.number) (step-refused h (length lent) c k f z)

-- THE PROMISES OF DEMAND 3, ONE BY ONE, of the functions themselves
pub every_run : EveryRun Opened Called
every_run = record {
  refuses = λ first left o q l.
      let t = (demand_3 first left o [] q tt).0.tells ∙ ap (λ (x : Stepped). x.tells) (opening_refused (length first) l) in
      (ap (λ (x : Told). x.number) t, ap (λ (x : Told). x.shown) t);
  accepts = λ first left o q l.
      let t = (demand_3 first left o [] q tt).0.tells ∙ ap (λ (x : Stepped). x.tells) (opening-accepted (length first) l) in
      (ap (λ (x : Told). x.number) t, ap (λ (x : Told). x.shown) t);
  reaches = λ first left o calls q m. go_on (paper first).words (opened q) refl calls m;
  stands = λ first words h s g. (come g).stands;
  replies = λ first words h s g c lent left r e d. replied (come g).run c lent left r e d;
}
