-- A whole run, from its opening to its last line. By the window's list theorem what the calls were told is what stands on the paper; so the lines that were written one after the other are
-- those of the input.
use mathlib.Core.Path.{◌≡◌, refl, sym, ap, ◌∙◌}
use mathlib.Core.List.{List, ◌++◌}
use Prim.Native.Nat.{ℕ, ◌-◌, ◌%◌, ◌≤◌}
use lib.IntN.{ℤ}
use native.Mathlib.Omega.{arith}
use lib.ListN.{length}
use Rattle.history.specs.Replies as Replies
use Rattle.history.specs.Replies.{Told, acceptances}
use Rattle.runs.specs.Runs.{Made, EachCall, AllAgree}
use Rattle.runs.specs.Lists.{replies_of, told_to, AllLent}
use Rattle.runs.proofs.Lists.{each_call, told_all, in_turn_made}
use Rattle.window.specs.Answers.{Answer}
use Rattle.window.specs.declared.Window.{Window}
use Rattle.window.specs.Windows.{Paper, opening, model}
use Rattle.window.specs.Claim.{Answered, OpeningAgrees, Meets}
use Rattle.window.specs.Calls.{Opens, Does}
use Rattle.window.proofs.Steps.{opening-words}
use Rattle.window.proofs.Theorem.{by_contract}
use Rattle.text.specs.declared.Page.{Page}
use Rattle.text.specs.Pages.{Puts}
use Rattle.text.specs.Stops.{stop_lines}
use Rattle.text.proofs.Texts.{put_then}
use Rattle.following.specs.declared.Progress.{Progress}
use Rattle.readout.specs.Lines.{open_line, end_line}
use Rattle.readout.specs.Input.{width_of, values_of, left_of, end_of}
use Rattle.readout.specs.Output.{value_lines, printed}
use Rattle.readout.specs.Private.{Follows}

-- how many bytes are left behind the values, and where they stand
left_behind : (bytes : List ℕ) → 8 ≤ length bytes → length bytes % 4 ≡ left_of bytes
left_behind bytes l = omega (arith, l)

end_behind : (bytes : List ℕ) → 8 ≤ length bytes → length bytes - length bytes % 4 ≡ end_of bytes
end_behind bytes l = omega (arith, l)

module _ {first left later : List ℕ} (bytes : List ℕ) {heading written : Page} {o : Answer} {progress : Progress Window} (p : Opens (width_of bytes) first left o)
    (f : Follows o.session (values_of bytes) left later heading written progress) where
  abbrev paper : Paper
  paper = (opening (length first) (width_of bytes)).paper

  made : Made model (Answered Does) paper.words o.session left f.calls × AllLent model (length first) f.calls
  made =
      in_turn_made model (Answered Does) (λ s c d. d.1.any.long) paper.words (length first) (λ z. sym (opening-words (length first) (width_of bytes) z)) o.session left left
      f.calls (λ z. refl) p.any.long f.made

  claim : OpeningAgrees (width_of bytes) first left o × EachCall model (Meets paper.words first) paper.words left paper f.calls
  claim = by_contract (width_of bytes) first left o f.calls p made.0

  agrees : AllAgree model paper.words first left paper f.calls
  agrees = each_call model (Meets paper.words first) _ (λ now h later c x. x.agrees) paper.words left paper f.calls claim.1

  -- what the paper tells the values
  abbrev replies : List Told
  replies = replies_of model paper (length first) (values_of bytes)

  told : told_to model f.calls ≡ replies
  told =
      told_all model paper.words (length first) first left paper f.calls agrees made.1
      ∙ ap (λ (vs : List ℤ). replies_of model paper (length first) vs) (sym f.asked)

  -- the lines, as they were written, are those of the input
  lines : open_line (Replies.told o.reply)
      ++ (value_lines 1 (values_of bytes) (told_to model f.calls) ++ (stop_lines (left_of bytes) (end_of bytes) ++ end_line progress.read progress.accepted))
      ≡ printed (length first) bytes
  lines =
      let stop : List ℕ = stop_lines (left_of bytes) (end_of bytes) in
      let first-line : List ℕ = open_line (opening (length first) (width_of bytes)).tells in
      ap (λ (t : Told). open_line t ++ (value_lines 1 (values_of bytes) (told_to model f.calls) ++ (stop ++ end_line progress.read progress.accepted))) claim.0.tells
      ∙ ap (λ (n : ℕ). first-line ++ (value_lines 1 (values_of bytes) (told_to model f.calls) ++ (stop ++ end_line n progress.accepted))) f.read
      ∙ ap (λ (n : ℕ). first-line ++ (value_lines 1 (values_of bytes) (told_to model f.calls) ++ (stop ++ end_line (length (values_of bytes)) n))) f.accepted
      ∙ ap (λ (ts : List Told). first-line ++ (value_lines 1 (values_of bytes) ts ++ (stop ++ end_line (length (values_of bytes)) (acceptances ts)))) told

  pub whole : {page stopped end : Page} → 8 ≤ length bytes → Puts page (open_line (Replies.told o.reply)) heading
      → Puts written (stop_lines (length bytes % 4) (length bytes - length bytes % 4)) stopped → Puts stopped (end_line progress.read progress.accepted) end
      → Puts page (printed (length first) bytes) end
  whole l a b z =
      rw lines at (put_then a (put_then f.prints (put_then (rw (end_behind bytes l, left_behind bytes l) at b) z)))
