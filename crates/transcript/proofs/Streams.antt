-- A stream of commands that is followed. Before each command the calls made so far are those of the commands before the present place, made in turn; the counts and the lines are theirs.
-- One command more is one call more at the end of the list, and one line. When no further command is read, the engine's list theorem says of the whole list what the bookkeeper tells.
use mathlib.Core.Path.{◌≡◌, refl, sym, ap, ◌∙◌}
use mathlib.Core.List.{List, [], ◌∷◌, ◌++◌, append_assoc, append-nil}
use Rattle.std.specs.Prelude.{Result, Option, Ok, Some, None}
use Prim.Native.Nat.{ℕ, zero, suc, ◌+◌, ◌*◌, ◌-◌, ◌≤◌}
use native.Mathlib.Omega.{arith}
use lib.ListN.{length, take, drop, length-drop}
use lib.Seq.{take_all, drop-drop}
use Rattle.history.specs.declared.Command.{Command}
use Rattle.history.specs.declared.Refusal.{Refusal}
use Rattle.history.specs.declared.Session.{Session}
use Rattle.history.specs.Replies.{acceptances}
use Rattle.history.specs.Histories.{model}
use Rattle.history.proofs.Acceptances.{acceptances_more}
use Rattle.reading.specs.declared.Next.{Next}
use Rattle.reading.specs.Kinds.{bytes_of}
use Rattle.reading.specs.Outcomes.{Outcome, next, read_as, reading_of}
use Rattle.reading.proofs.Lengths.{some_byte, next_within}
use Rattle.engine.specs.Demand.{Answered}
use Rattle.engine.specs.Calls.{Does}
use Rattle.text.specs.declared.Page.{Page}
use Rattle.text.specs.Pages.{Puts}
use Rattle.following.specs.declared.Progress.{Progress}
use Rattle.following.proofs.Following.{followed_start, followed_more}
use Rattle.transcript.specs.Lines.{answer_line}
use Rattle.transcript.specs.Streams.{Stream, stops, stream_from, stream_of}
use Rattle.transcript.specs.Output.{stop_lines}
use Rattle.transcript.specs.Private.{Performs, Followed, Follows}

-- the rest of a stream, as it is lent, is all that is behind a place
pub rest : (s : List ℕ) (at : ℕ) → take (length s - at) (drop at s) ≡ drop at s
rest s at = take_all (length s - at) (drop at s) (simp length-drop (omega arith))

-- commands that were read before a stream
abbrev behind : List Command → Stream → Stream
behind cs s = record { commands = cs ++ s.commands; at = s.at; refusal = s.refusal }

-- a command is read, and then what is behind it
reads_on : (most at : ℕ) (left : List ℕ) {c : Command} {used : ℕ} → reading_of left ≡ next c used
    → stream_from (suc most) at left ≡ behind (c ∷ []) (stream_from most (at + used) (drop used left))
unfolding stream_from
reads_on most at left e = rw e

-- no command is read
reads_none : (most at : ℕ) (left : List ℕ) → length left ≤ most → (reading_of left).command ≡ None → stream_from most at left ≡ stops at (reading_of left).number
unfolding stream_from
reads_none zero at [] l e = refl
reads_none zero at (b ∷ bs) l e = absurd (omega arith)
reads_none (suc most) at left l e = rw e

-- what holds at a place of the stream, of a following from the session s and the words `before`
pub record Reached (bytes before : List ℕ) (s : Session) (page : Page) (words : List ℕ) (written : Page) (progress : Progress Session) (at : ℕ) : Type 0 where
  pub within : at ≤ length bytes
  pub small : progress.read ≤ at
  pub long : length words ≡ length before
  pub commands : List Command
  pub more : ℕ
  pub enough : length bytes ≤ at + more
  pub reads : stream_of bytes ≡ behind commands (stream_from more at (drop at bytes))
  pub followed : Followed s commands before words page written progress
  pub fits : written.used ≤ page.used + 11 * at

-- nothing is read yet
pub reached_start : {bytes before : List ℕ} {s : Session} {page : Page} {r : Progress Session} → r.session ≡ s → r.read ≡ 0 → r.accepted ≡ 0
    → Reached bytes before s page before page r 0
reached_start {bytes} {before} {page = page} i e f = record {
  within = omega arith;
  small = omega arith;
  long = refl;
  commands = [];
  more = length bytes;
  enough = omega arith;
  reads = refl;
  followed = rw (← i) (followed_start model (Answered Does) answer_line acceptances before page e f);
  fits = omega arith;
}

-- a command that is read moves the place, and leaves it within the stream
pub moves : (bytes : List ℕ) (at : ℕ) {g : Result (Option Next) Refusal} (n : Next) → at ≤ length bytes
    → read_as g ≡ reading_of (take (length bytes - at) (drop at bytes)) → g ≡ Ok (Some n) → (1 ≤ n.length) × (at + n.length ≤ length bytes) × (n.length ≡ bytes_of n.command)
moves bytes at n l e is =
    let w = next_within (drop at bytes) (e ∙ ap reading_of (rest bytes at)) is in
    (omega (arith, w.0, some_byte n.command), omega (arith, w.1, length-drop at bytes), w.0)

-- one command more before a stream
behind_more : (cs : List Command) (c : Command) (s : Stream) → behind cs (behind (c ∷ []) s) ≡ behind (cs ++ (c ∷ [])) s
behind_more cs c s = ap (λ (x : List Command). record { commands = x; at = s.at; refusal = s.refusal }) (sym (append_assoc cs (c ∷ []) s.commands))

-- the commands read so far, with one more
reads_more : (bytes : List ℕ) (cs : List Command) (most at : ℕ) {c : Command} {used : ℕ} → length bytes ≤ at + most → 1 ≤ used → at + used ≤ length bytes
    → stream_of bytes ≡ behind cs (stream_from most at (drop at bytes)) → reading_of (drop at bytes) ≡ next c used
    → (more : ℕ) × (length bytes ≤ at + used + more) × (stream_of bytes ≡ behind (cs ++ (c ∷ [])) (stream_from more (at + used) (drop (at + used) bytes)))
reads_more bytes cs zero at l some inside e r = absurd (omega arith)
reads_more bytes cs (suc more) at {c} {used} l some inside e r = (
  more,
  omega arith,
  e ∙ ap (behind cs) (reads_on more at (drop at bytes) r ∙ ap (λ (x : List ℕ). behind (c ∷ []) (stream_from more (at + used) x)) (drop-drop used at bytes))
      ∙ behind_more cs c (stream_from more (at + used) (drop (at + used) bytes)),
)

-- one command more
pub reached_more : {bytes before words after : List ℕ} {s : Session} {page written printed : Page} {progress r : Progress Session} {at : ℕ} {g : Result (Option Next) Refusal} (n : Next)
    → Reached bytes before s page words written progress at → read_as g ≡ reading_of (take (length bytes - at) (drop at bytes)) → g ≡ Ok (Some n)
    → Performs progress n.command words after written printed r → length after ≡ length words → printed.used ≤ written.used + 11 * bytes_of n.command
    → Reached bytes before s page after printed r (at + n.length)
reached_more {bytes} {at = at} n u e is o same few =
    let m = moves bytes at n u.within e is in
    let found : reading_of (drop at bytes) ≡ next n.command n.length = sym (e ∙ ap reading_of (rest bytes at)) ∙ ap read_as is in
    let on = reads_more bytes u.commands u.more at u.enough m.0 m.1 u.reads found in
    record {
      within = m.1;
      small = omega (arith, m.0, u.small, o.read);
      long = same ∙ u.long;
      commands = u.commands ++ (n.command ∷ []);
      more = on.0;
      enough = on.1;
      reads = on.2;
      followed = followed_more model (Answered Does) answer_line acceptances acceptances_more u.followed o;
      fits = omega (arith, u.fits, few, m.2);
    }

-- no command more, where the stream ends or after the line of a refusal
pub reached_end : {bytes before words : List ℕ} {s : Session} {page written printed : Page} {progress : Progress Session} {at : ℕ} {g : Result (Option Next) Refusal}
    (v : Result (Option Next) Refusal) → Reached bytes before s page words written progress at → read_as g ≡ reading_of (take (length bytes - at) (drop at bytes)) → g ≡ v
    → (read_as v).command ≡ None → Puts written (stop_lines at (read_as v).number) printed → Follows s before words bytes page printed progress
reached_end {bytes} {written = written} {at = at} v u e n z w =
    let o : reading_of (drop at bytes) ≡ read_as v = sym (e ∙ ap reading_of (rest bytes at)) ∙ ap read_as n in
    let c : (reading_of (drop at bytes)).command ≡ None = ap (λ (x : Outcome). x.command) o ∙ z in
    record {
      commands = u.commands;
      at = at;
      refusal = (read_as v).number;
      last = written;
      reads = u.reads ∙ ap (behind u.commands) (reads_none u.more at (drop at bytes) (omega (arith, u.enough, length-drop at bytes)) c
          ∙ ap (λ (x : Outcome). stops at x.number) o)
          ∙ ap (λ (x : List Command). record { commands = x; at = at; refusal = (read_as v).number }) (append-nil u.commands);
      followed = u.followed;
      stops = w;
    }
