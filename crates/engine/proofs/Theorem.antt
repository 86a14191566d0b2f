-- The demands, from what the contracts say of an opening and of a command. Demand 3 is the induction over a run, of the engine's instance, from the opening; what it says of a Mark
-- and a Query besides follows from the paper alone. Demand 1 is read off the contracts.
use mathlib.Core.Path.{◌≡◌, refl, sym, ap, ◌∙◌}
use mathlib.Core.List.{List, [], ◌∷◌}
use Prim.Native.Nat.{ℕ}
use native.Mathlib.Omega.{arith}
use lib.ListN.{length}
use Rattle.history.specs.declared.Session.{Session}
use Rattle.history.specs.declared.Command.{Command}
use Rattle.engine.specs.Answers.{Answer}
use Rattle.history.specs.Minima.{minimum}
use Rattle.history.specs.Replies.{Told, numbered, told}
use Rattle.history.specs.Histories.{History, Stepped, session_of, blank, opening, step, model}
use Rattle.history.specs.Sound.{Sound}
use Rattle.history.proofs.Steps.{opening_refused, opening_short, opening-words}
use Rattle.history.proofs.Soundness.{opening_sound}
use Rattle.history.proofs.Following.{full_when, told_minimum, active_least, shown-minimum}
use Rattle.runs.specs.Runs.{AsLent, Call, state_after, Made, Agrees, EachCall}
use Rattle.runs.proofs.Induction.{own_length, run}
use Rattle.engine.specs.Demand.{OpeningSays, CommandSays, Answered, Meets, Demand3}
use Rattle.engine.specs.Promises.{Demand1}
use Rattle.engine.specs.Consequences.{AllTold, OnlyFours}
use Rattle.ranges.specs.Holding.{Holds}
use Rattle.engine.specs.Calls.{Opens, Does}
use Rattle.engine.proofs.Instance.{one_call}
use Rattle.engine.proofs.Settling.{any_opening, settled_refused, any_number, any_acceptance}

-- a call that agrees with the bookkeeper meets demands 2 and 3
meets : (n : ℕ) (first now : List ℕ) (h : History) (c : Call model) → h.words ≡ n → Sound h → Agrees model n first now h (state_after model h c) c
    → Meets n first now h (state_after model h c) c
meets n first now h c e y a = record {
  agrees = a;
  full = λ q z o u. rw (a.tells, q) (full_when h (length c.lent) z o u);
  gets = λ i q o b.
      let l = own_length n c.lent o in
      (minimum h.values i, rw (a.tells, q) (told_minimum h (length c.lent) (λ z. l.0 (sym e ∙ z)) (l.1 ∙ sym e) i b), active_least h i y b);
  shown = λ i m q t.
      let u = shown-minimum h (length c.lent) i m (ap (λ (x : Command). (step h (length c.lent) x).tells.shown) (sym q) ∙ ap (λ (x : Told). x.shown) (sym a.tells) ∙ t) in
      (u.0, rw u.1 (active_least h i y u.0));
}

-- on the history of a refused opening every command is told 4
fours : (first words : List ℕ) (cs : List (Call model)) → EachCall model (Meets 0 first) 0 words (blank 0 0) cs → AllTold (numbered 4) cs
fours first words [] a = tt
fours first words (c ∷ cs) a = (a.0.agrees.tells, a.0.agrees.elsewhere refl, fours first words cs a.1)

-- what is known of the functions gives what the contracts say
module _ (opened : OpeningSays) (says : CommandSays) (opens : (first left : List ℕ) (o : Answer) → opened first left o → Opens first left o)
    (does : (s : Session) (c : Command) (lent left : List ℕ) (r : Answer) → says s c lent left r → Does s c lent left r) where
  -- from any start on the words `first` that returned the session of a sound history and left words that keep it
  pub from_start : (first left : List ℕ) (h : History) (s : Session) (cs : List (Call model)) → s ≡ session_of h → Sound h → AsLent (model.bound h) first left
      → ((h.words ≡ 0 → ⊥) → Holds h first left) → Made model (Answered says) h.words s left cs
      → EachCall model (Meets h.words first) h.words left h cs
  from_start first left h s cs e y r k m =
      run model Sound Holds (Answered says) (one_call says does) (Meets h.words first) h.words first (meets h.words first) left h s cs e y refl r k m

  pub demand_3 : Demand3 opened says
  demand_3 first left o cs q m =
      let p = opens first left o q in (
        record { tells = p.tells; session = p.represents.session; rest = p.rest; long = p.long },
        from_start first left (opening (length first)).history o.session cs p.represents.session (opening_sound (length first))
            (λ i l. p.rest i (omega arith)) (λ z. p.represents.own z (p.long ∙ sym (opening-words (length first) z))) m,
      )

  pub demand_1 : Demand1 opened says
  demand_1 = record {
    opening = λ first left o q. any_opening first left o (opens first left o q);
    numbers = λ s c lent left r q. any_number c s lent left r.session (told r.reply) (does s c lent left r q).settled;
    refused_opening = λ first left o q z.
        let p = opens first left o q in
        let l = opening_short (length first) (λ e. z (ap (λ (x : Told). x.number) p.tells ∙ e)) in
        let e = opening_refused (length first) l in (
          p.refused l,
          p.represents.session ∙ ap (λ (x : Stepped). session_of x.history) e,
          ap (λ (x : Told). x.shown) p.tells ∙ ap (λ (x : Stepped). x.tells.shown) e,
        );
    refused_command = λ s c lent left r q z. settled_refused (does s c lent left r q).settled z;
    accepted_command = λ s c lent left r q z. any_acceptance c s lent left r.session (told r.reply) (does s c lent left r q).settled z;
    long = λ s c lent left r q. (does s c lent left r q).long;
    settled = λ s c lent left r q. (does s c lent left r q).settled;
  }

  pub only_fours : OnlyFours opened says
  only_fours first left o cs l q m =
      let e = ap (λ (x : Stepped). x.history) (opening_refused (length first) l) in
      let n : (opening (length first)).history.words ≡ 0 = ap (λ (h : History). h.words) e in
      fours first left cs (rw (n, e) at (demand_3 first left o cs q (rw n m)).1)

-- DEMAND 3, where no more is known of the functions than their contracts: for a caller of the engine
pub by_contract : Demand3 Opens Does
by_contract = demand_3 Opens Does (λ first left o d. d) (λ s c lent left r d. d)
