-- Commands that are followed: none at first, and one more, which is one call more at the end of the list, and one line.
use mathlib.Core.Path.{◌≡◌, refl, sym, ap, ◌∙◌}
use mathlib.Core.List.{List, [], ◌∷◌, ◌++◌}
use Prim.Native.Nat.{ℕ, ◌+◌}
use native.Mathlib.Omega.{arith}
use lib.ListN.{length, length-append}
use Rattle.runs.specs.Runs.{Model, Call}
use Rattle.runs.specs.Lists.{told_to}
use Rattle.runs.proofs.Lists.{in_turn_more, commands_more, told_more, commands_length, told_length, session_more, words_more}
use Rattle.text.specs.declared.Page.{Page}
use Rattle.text.proofs.Texts.{put_nothing, put_then}
use Rattle.text.proofs.Numbered.{lines_more}
use Rattle.following.specs.declared.Progress.{Progress}
use Rattle.following.specs.Following.{Performs, Followed}

module _ (M : Model) (did : M.Session → Call M → Type 0) (line : ℕ → M.Command → M.Told → List ℕ) (acceptances : List M.Told → ℕ) where
  -- no command yet
  pub followed_start : {r : Progress M.Session} (before : List ℕ) (page : Page) → r.read ≡ 0 → r.accepted ≡ acceptances []
      → Followed M did line acceptances r.session [] before before page page r
  followed_start before page e f = record {
    calls = [];
    made = tt;
    asked = refl;
    session = refl;
    words = refl;
    read = e;
    accepted = f;
    prints = put_nothing page;
  }

  -- one command more
  pub followed_more : ((ts : List M.Told) (t : M.Told) → acceptances (ts ++ (t ∷ [])) ≡ acceptances ts + acceptances (t ∷ []))
      → {s : M.Session} {commands : List M.Command} {before words after : List ℕ} {page written printed : Page} {progress r : Progress M.Session} {c : M.Command}
      → Followed M did line acceptances s commands before words page written progress → Performs M did line acceptances progress c words after written printed r
      → Followed M did line acceptances s (commands ++ (c ∷ [])) before after page printed r
  followed_more sums {s} {commands} {before} {words} {after} {progress = progress} {r} {c} u o =
      let call : Call M = record { command = c; lent = words; left = after; told = o.told; session = r.session } in
      record {
        calls = u.calls ++ (call ∷ []);
        made = in_turn_more M did s before u.calls call u.made u.words (rw u.session at o.done);
        asked = ap (λ (cs : List M.Command). cs ++ (c ∷ [])) u.asked ∙ sym (commands_more M u.calls call);
        session = sym (session_more M s u.calls call);
        words = sym (words_more M before u.calls call);
        read = omega (arith, o.read, u.read, length-append commands (c ∷ []));
        accepted = rw (told_more M u.calls call) (omega (arith, o.accepted, u.accepted, sums (told_to M u.calls) o.told));
        prints =
            let k : r.read ≡ 1 + length commands = omega (arith, o.read, u.read) in
            let l : length commands ≡ length (told_to M u.calls) = ap length u.asked ∙ commands_length M u.calls ∙ sym (told_length M u.calls) in
            rw (told_more M u.calls call, lines_more line c o.told 1 commands (told_to M u.calls) l) (put_then u.prints (rw k at o.prints));
      }
