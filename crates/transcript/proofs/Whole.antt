-- A whole run, from its opening to its last line. By the engine's list theorem what the calls were told is what the bookkeeper tells, and the last session is the paper's; so the lines
-- that were written one after the other are those of the stream.
use mathlib.Core.Path.{◌≡◌, refl, sym, ap, ◌∙◌}
use mathlib.Core.List.{List, ◌++◌}
use Prim.Native.Nat.{ℕ, ◌≤◌}
use native.Mathlib.Omega.{arith}
use lib.ListN.{length}
use Rattle.engine.specs.Answers.{Answer}
use Rattle.history.specs.declared.Command.{Command}
use Rattle.history.specs.declared.Session.{Session}
use Rattle.history.specs.Replies.{Told, acceptances}
use Rattle.history.specs.Histories.{History, Stepped, session_of, opening, model}
use Rattle.history.proofs.Steps.{opening-accepted}
use Rattle.runs.specs.Runs.{Call, Made, EachCall, AllAgree}
use Rattle.runs.specs.Lists.{replies_of, state_of, commands_of, told_to, AllLent}
use Rattle.runs.proofs.Lists.{each_call, told_all, session_last, in_turn_made}
use Rattle.engine.specs.Demand.{Answered, OpeningAgrees, Meets}
use Rattle.engine.specs.Calls.{Opens, Does}
use Rattle.engine.proofs.Theorem.{by_contract}
use Rattle.text.specs.declared.Page.{Page}
use Rattle.text.specs.Pages.{Puts}
use Rattle.text.proofs.Texts.{put_then}
use Rattle.following.specs.declared.Progress.{Progress}
use Rattle.transcript.specs.Lines.{taps_line, end_line}
use Rattle.transcript.specs.Streams.{stream_of}
use Rattle.transcript.specs.Output.{answer_lines, stop_lines, printed}
use Rattle.transcript.specs.Private.{Follows}

module _ {first left later : List ℕ} (bytes : List ℕ) {heading written : Page} {o : Answer} {progress : Progress Session} (m : 576 ≤ length first) (p : Opens first left o)
    (f : Follows o.session left later bytes heading written progress) where
  -- the calls that were made
  abbrev calls : List (Call model)
  calls = f.followed.calls

  abbrev h : History
  h = (opening (length first)).history

  words : h.words ≡ length first
  words = ap (λ (x : Stepped). x.history.words) (opening-accepted (length first) m)

  made : Made model (Answered Does) h.words o.session left calls × AllLent model h.words calls
  made = in_turn_made model (Answered Does) (λ s c d. d.1.long) h.words h.words (λ z. refl) o.session left left calls (λ z. refl) (p.long ∙ sym words) f.followed.made

  demand : OpeningAgrees first left o × EachCall model (Meets h.words first) h.words left h calls
  demand = by_contract first left o calls p made.0

  agrees : AllAgree model h.words first left h calls
  agrees = each_call model (Meets h.words first) _ (λ now h later c x. x.agrees) h.words left h calls demand.1

  told : told_to model calls ≡ replies_of model h (length first) (commands_of model calls)
  told = rw words at (told_all model h.words h.words first left h calls agrees made.1)

  last : progress.session ≡ session_of (state_of model h (length first) (commands_of model calls))
  last = f.followed.session ∙ rw words at (session_last model h.words h.words first left h o.session calls demand.0.session agrees made.1)

  -- what the bookkeeper tells the commands
  abbrev replies : List Told
  replies = replies_of model h (length first) f.commands

  -- the lines, as they were written, are those of the stream
  lines : taps_line o.session.limit
      ++ (answer_lines 1 f.commands (told_to model calls) ++ (stop_lines f.at f.refusal ++ end_line progress.read progress.accepted progress.session.active))
      ≡ printed (length first) (stream_of bytes)
  lines =
      let stop : List ℕ = stop_lines f.at f.refusal in
      let told-is : told_to model calls ≡ replies = told ∙ ap (replies_of model h (length first)) (sym f.followed.asked) in
      let last-is : progress.session ≡ session_of (state_of model h (length first) f.commands) = last ∙ ap (λ (cs : List Command). session_of (state_of model h (length first) cs)) (sym f.followed.asked) in
      ap (λ (s : Session). taps_line s.limit ++ (answer_lines 1 f.commands (told_to model calls) ++ (stop ++ end_line progress.read progress.accepted progress.session.active))) demand.0.session
      ∙ ap (λ (k : ℕ). taps_line h.limit ++ (answer_lines 1 f.commands (told_to model calls) ++ (stop ++ end_line k progress.accepted progress.session.active))) f.followed.read
      ∙ ap (λ (k : ℕ). taps_line h.limit ++ (answer_lines 1 f.commands (told_to model calls) ++ (stop ++ end_line (length f.commands) k progress.session.active))) f.followed.accepted
      ∙ ap (λ (s : Session). taps_line h.limit ++ (answer_lines 1 f.commands (told_to model calls) ++ (stop ++ end_line (length f.commands) (acceptances (told_to model calls)) s.active))) last-is
      ∙ ap (λ (ts : List Told). taps_line h.limit
      ++ (answer_lines 1 f.commands ts ++ (stop ++ end_line (length f.commands) (acceptances ts) (length (state_of model h (length first) f.commands).active)))) told-is
      ∙ ap (printed (length first)) (sym f.reads)

  pub whole : {page end : Page} → Puts page (taps_line o.session.limit) heading → Puts written (end_line progress.read progress.accepted progress.session.active) end
      → Puts page (printed (length first) (stream_of bytes)) end
  whole a z = rw lines at (put_then a (put_then f.followed.prints (put_then f.stops z)))

-- the same, of so many words
pub whole_run : {first left later bytes : List ℕ} {page heading written end : Page} {n : ℕ} {o : Answer} {progress : Progress Session} → length first ≡ n → 576 ≤ n → Opens first left o
    → Puts page (taps_line o.session.limit) heading → Follows o.session left later bytes heading written progress
    → Puts written (end_line progress.read progress.accepted progress.session.active) end → Puts page (printed n (stream_of bytes)) end
whole_run {bytes = bytes} l m p a f z = rw l at (whole bytes (omega arith) p f a z)
