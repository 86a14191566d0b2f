-- Point 2, from what the contracts say of an opening and of a value: the claim over a list is the induction over a run, of the window's instance, from the opening; that what is told is the
-- least of the values that have not left follows from the paper alone.
use mathlib.Core.Path.{◌≡◌, refl, sym, ap, ◌∙◌}
use mathlib.Core.List.{List, [], ◌∷◌, ◌++◌}
use Prim.Native.Nat.{ℕ}
use lib.IntN.{ℤ}
use lib.ListN.{length}
use Rattle.history.specs.Minima.{present_at}
use Rattle.history.specs.Replies.{Told, showing, value_refusal}
use Rattle.history.proofs.Steps.{lent_own, earlier_free}
use Rattle.history.proofs.Following.{told_minimum}
use Rattle.runs.specs.Runs.{Call, state_after, Agrees}
use Rattle.runs.proofs.Induction.{own_length, run}
use Rattle.window.specs.declared.Window.{Window}
use Rattle.window.specs.Answers.{Answer}
use Rattle.window.specs.Windows.{Paper, Stepped, opening, oldest, least, model}
use Rattle.window.specs.Promises.{OpeningSays, ValueSays}
use Rattle.window.specs.Claim.{Answered, Meets, EveryRun, EveryInput, AsATap}
use Rattle.window.specs.Keeping.{Sound, Keeps}
use Rattle.window.specs.Calls.{Opens, Does}
use Rattle.window.proofs.Steps.{opening_sound, opening-words, step_accepted, least_told, shown_least}
use Rattle.window.proofs.Instance.{one_call}

-- a call that agrees with the paper tells the least from the window's oldest position on
meets : (n : ℕ) (first now : List ℕ) (p : Paper) (c : Call model) → p.words ≡ n → Sound p → Agrees model n first now p (state_after model p c) c
    → Meets n first now p (state_after model p c) c
meets n first now p c e y a = record {
  agrees = a;
  gets = λ o b.
      let l = own_length n c.lent o in
      let d = lent_own p.words (length c.lent) (value_refusal (present_at p.values)) (λ z. l.0 (sym e ∙ z)) (l.1 ∙ sym e) ∙ earlier_free (present_at p.values) b in (
        least p.width (p.values ++ (c.command ∷ [])),
        a.tells ∙ ap (λ (x : Stepped). x.tells) (step_accepted p (length c.lent) c.command d),
        least_told p (length c.lent) c.command y d,
      );
  shown = λ m t.
      let u = shown_least p (length c.lent) c.command m (ap (λ (x : Told). x.shown) (sym a.tells) ∙ t) in
      rw u.1 (least_told p (length c.lent) c.command y u.0);
}

-- what is known of the functions gives what the contracts say
module _ (opened : OpeningSays) (says : ValueSays) (opens : (width : ℕ) (first left : List ℕ) (o : Answer) → opened width first left o → Opens width first left o)
    (does : (s : Window) (v : ℤ) (lent left : List ℕ) (r : Answer) → says s v lent left r → Does s v lent left r) where
  pub every_run : EveryRun opened says
  every_run width first left o cs q m =
      let p = opens width first left o q in
      let start : Paper = (opening (length first) width).paper in (
        record { tells = p.tells; session = p.represents.session; rest = p.rest; long = p.any.long },
        run model Sound Keeps (Answered says) (one_call says does) (Meets start.words first) start.words first (meets start.words first) left start o.session cs
            p.represents.session (opening_sound (length first) width) refl p.rest
            (λ z. p.represents.own z (p.any.long ∙ sym (opening-words (length first) width z))) m,
      )

  pub every_input : EveryInput opened says
  every_input = record { opening = λ width first left o q. (opens width first left o q).any; value = λ s v lent left r q. (does s v lent left r q).any }

-- WHAT A TAP WOULD BE TOLD
pub as_a_tap : AsATap
as_a_tap p n v h free e z a =
    ap (λ (x : Stepped). x.tells) (step_accepted p n v free)
    ∙ ap (λ (x : List ℤ). showing (least p.width x)) (sym e)
    ∙ sym (told_minimum h h.words z refl (oldest (present_at h.values) p.width) a)

-- POINT 2, where no more is known of the functions than their contracts: for a caller of the window
pub by_contract : EveryRun Opens Does
by_contract = every_run Opens Does (λ width first left o d. d) (λ s v lent left r d. d)
