use borrow.Author.Rules.{rules}
use mathlib.Core.Path.{refl}
use Prim.Native.Nat.{◌+◌, ◌≤◌}
use native.Mathlib.Omega.{arith}
use lib.ListN.{length}
use Rattle.std.specs.Prelude.{Ok, Err, None}
use Rattle.text.proofs.Texts.{put_nothing}
use Rattle.transcript.proofs.Streams.{reached_start, moves, reached_more, reached_end}
use Rattle.transcript.proofs.follow.Goals as goal
use Rattle.transcript.proofs.follow.Goals.{In-Ok-Some}

pub loop-progress-init : goal.loop-progress-init
loop-progress-init c = reached_start c.new-progress.ensures.session c.new-progress.ensures.read c.new-progress.ensures.accepted

-- the command that was read moves the place, and leaves it within the stream
moved : (c : In-Ok-Some)
    → (1 ≤ c.in-Ok-Some.next.length) × (c.loop-progress.at + c.in-Ok-Some.next.length ≤ length c.args.input.bytes.now)
moved c =
    let m = moves c.args.input.bytes.now c.loop-progress.at c.in-Ok-Some.next c.loop-progress.invariant.within c.read.ensures (search rules) in
    (m.0, m.1)

pub loop-progress-smaller : goal.loop-progress-smaller
loop-progress-smaller c = omega (arith, moved (goal.at.loop-progress-smaller c).In-Ok-Some)

pub loop-progress-preserved : goal.loop-progress-preserved
loop-progress-preserved c =
    reached_more c.in-Ok-Some.next c.loop-progress.invariant c.read.ensures (search rules) c.perform-progress.ensures.performs (search rules) c.perform-progress.ensures.few

pub returns-in-Ok-None-clause-follows : goal.returns-in-Ok-None-clause-follows
returns-in-Ok-None-clause-follows c =
    reached_end (Ok None) c.loop-progress.invariant c.read.ensures (search rules) refl (put_nothing c.loop-progress.page)

pub returns-in-Err-clause-follows : goal.returns-in-Err-clause-follows
returns-in-Err-clause-follows c =
    reached_end (Err c.in-Err.why) c.loop-progress.invariant c.read.ensures (search rules) refl c.stop.ensures.text
