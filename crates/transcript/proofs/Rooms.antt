-- How many bytes a command's line takes: no more than eleven for each byte of the command. The line of a Mark, which has one byte, shows no minimum; any other command has five bytes.
use mathlib.Core.Path.{◌≡◌}
use mathlib.Core.List.{List, [], ◌∷◌, ◌++◌}
use Rattle.std.specs.Prelude.{None}
use Prim.Native.Nat.{ℕ, ◌+◌, ◌*◌, ◌<◌, ◌≤◌}
use native.Mathlib.Omega.{arith}
use native.Mathlib.Decide.{ℕ_discrete}
use lib.ListN.{length, length-append}
use Rattle.history.specs.declared.Session.{Session}
use Rattle.history.specs.declared.Command.{Command}
use Rattle.history.specs.declared.Command.TheVariants.{Value, Mark, Query, Close}
use Rattle.engine.specs.Answers.{Answer}
use Rattle.history.specs.Replies.{Told, told}
use Rattle.reading.specs.Kinds.{bytes_of}
use Rattle.engine.specs.Calls.{Does}
use Rattle.engine.proofs.Settling.{settled_refused, any_acceptance}
use Rattle.text.specs.declared.Page.{Page}
use Rattle.text.specs.Pages.{Puts}
use Rattle.text.specs.Writing.{decimal_of}
use Rattle.text.specs.Parts.{newline, reply_text}
use Rattle.text.proofs.Decimals.{within}
use Rattle.text.proofs.ReplyTexts.{told_few}
use Rattle.transcript.specs.Lines.{answer_line}

-- a Mark is shown nothing, accepted or refused
mark_bare : {s : Session} {before after : List ℕ} {r : Answer} → Does s Mark before after r → (told r.reply).shown ≡ None
mark_bare {s} {before} {after} {r} d = elim (ℕ_discrete (told r.reply).number 0) [
  | yes z ↦ (any_acceptance Mark s before after r.session (told r.reply) d.settled z).5
  | no z ↦ (settled_refused d.settled z).2
]

-- its line: five digits, a space, the letter, a space, two digits and the line's end
mark_line : (n : ℕ) (t : Told) → n < 100000 → t.number < 100 → t.shown ≡ None → length (answer_line n Mark t) ≤ 11
mark_line n t few small bare =
    let reply : length (reply_text t) ≡ length (decimal_of t.number ++ []) = rw bare in
    let behind : List ℕ = 32 ∷ 77 ∷ 32 ∷ (reply_text t ++ newline) in
    omega (arith, reply, length-append (decimal_of t.number) [], length-append (reply_text t) newline, length-append (decimal_of n) behind, within 20 4 n few, within 20 1 t.number small)

-- what the line of a command takes
pub takes : {s : Session} (c : Command) {before after : List ℕ} {page written : Page} {r : Answer} {n : ℕ} → Does s c before after r → n < 100000
    → Puts page (answer_line n c (told r.reply)) written → written.used ≤ page.used + 35 → written.used ≤ page.used + 11 * bytes_of c
takes (Value v) d few a l = omega arith
takes Mark {r = r} {n} d few a l = omega (arith, a.adds.counts, mark_line n (told r.reply) few (told_few r.reply) (mark_bare d))
takes (Query i) d few a l = omega arith
takes (Close i) d few a l = omega arith
