-- A command that is read has its own number of bytes, one at least, and no more than are left: a reader that goes on behind each command ends, and stays within the stream.
use mathlib.Core.Path.{◌≡◌, refl, sym, ap, ◌∙◌}
use mathlib.Core.List.{List, [], ◌∷◌}
use Rattle.std.specs.Prelude.{Option, Some, None, Result, Ok}
use Rattle.history.specs.declared.Refusal.{Refusal}
use Prim.Native.Nat.{ℕ, suc, ◌≤◌}
use native.Mathlib.Decide.{dec_lt}
use native.Mathlib.Omega.{arith}
use lib.ListN.{length, take}
use borrow.Author.Tests.{lt-ltb, le-ltb}
use Rattle.history.specs.declared.Command.{Command}
use Rattle.endian.specs.Numbers.{little_endian}
use Rattle.reading.specs.declared.Kind.{Kind}
use Rattle.reading.specs.declared.Next.{Next}
use Rattle.reading.specs.Kinds.{kind_of, argument_bytes, length_of, command_of, bytes_of}
use Rattle.reading.specs.Outcomes.{Outcome, next, read_as, of_kind, of_kind_byte, reading_of}

-- where an outcome has a command, it uses that command's bytes, and no more than n
abbrev Within : ℕ → Outcome → Type 0
Within n o = (command : Command) → o.command ≡ Some command → (o.used ≡ bytes_of command) × (o.used ≤ n)

-- an outcome with no command is none with one
absent : {command : Command} → None ≡ Some command → ⊥
absent e = let z : ◌≡◌ {A = ℕ} 0 1 = cc in omega arith

-- a kind's length is that of its commands
sized : (kind : Kind) (n : ℕ) → length_of kind ≡ bytes_of (command_of kind n)
sized Kind.Value n = refl
sized Kind.Mark n = refl
sized Kind.Query n = refl
sized Kind.Close n = refl

-- a known kind, with the bytes that follow it
of_kind_lem : (kind : Kind) (behind : List ℕ) → Within (suc (length behind)) (of_kind kind behind)
of_kind_lem kind behind command e = elim (dec_lt (length behind) (argument_bytes kind)) [
  | yes l ↦ absurd (absent (simp (lt-ltb (length behind) (argument_bytes kind) l) at e))
  | no l ↦
      let whole = le-ltb (length behind) (argument_bytes kind) (omega arith) in
      let n = little_endian (take (argument_bytes kind) behind) in
      let found = simp whole at e in
      let same : command_of kind n ≡ command = cc in
      simp whole (sized kind n ∙ ap bytes_of same, omega arith)
]

-- any byte, with those that follow it
of_kind_byte_lem : (first : Option Kind) (behind : List ℕ) → Within (suc (length behind)) (of_kind_byte first behind)
of_kind_byte_lem None behind command e = absurd (absent e)
of_kind_byte_lem (Some kind) behind command e = of_kind_lem kind behind command e

-- the rest of a stream
within : (rest : List ℕ) → Within (length rest) (reading_of rest)
within [] command e = absurd (absent e)
within (first ∷ behind) command e = of_kind_byte_lem (kind_of first) behind command e

-- no command is without a byte
pub some_byte : (command : Command) → 1 ≤ bytes_of command
some_byte (Command.Value v) = omega arith
some_byte Command.Mark = omega arith
some_byte (Command.Query i) = omega arith
some_byte (Command.Close i) = omega arith

-- a command that is read is as long as its kind says, and no longer than what is left
pub next_within : (rest : List ℕ) {r : Result (Option Next) Refusal} {n : Next} → read_as r ≡ reading_of rest → r ≡ Ok (Some n)
    → (n.length ≡ bytes_of n.command) × (n.length ≤ length rest)
next_within rest {r} {n} e at =
    let o : next n.command n.length ≡ reading_of rest = sym (ap read_as at) ∙ e in
    rw (← (ap (λ (x : Outcome). x.used) o)) at (within rest n.command (sym (ap (λ (x : Outcome). x.command) o)))
