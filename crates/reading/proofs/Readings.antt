-- The four ways out of a reading, of any list of bytes: what the tests on the way show, and the outcome that is then right.
use mathlib.Core.Path.{◌≡◌, refl}
use mathlib.Core.List.{List, [], ◌∷◌}
use Prim.Native.Nat.{ℕ, ◌+◌, ◌-◌, ◌<◌, ◌≤◌}
use native.Mathlib.Nat.{add-sub_cancel_left}
use native.Mathlib.Omega.{arith}
use lib.ListN.{length, get_or, take, drop}
use borrow.Author.Tests.{lt-ltb, le-ltb}
use Rattle.std.specs.Prelude.{None, Some}
use Rattle.history.specs.declared.Command.{Command}
use Rattle.endian.specs.Numbers.{little_endian}
use Rattle.reading.specs.declared.Kind.{Kind}
use Rattle.reading.specs.Kinds.{kind_of, argument_bytes, command_of}
use Rattle.reading.specs.Outcomes.{ended, next, refused, reading_of}

-- no argument is longer than four bytes
pub four : (kind : Kind) → argument_bytes kind ≤ 4
four Kind.Value = omega arith
four Kind.Mark = omega arith
four Kind.Query = omega arith
four Kind.Close = omega arith

-- nothing is left
pub at_end : (s : List ℕ) → length s ≡ 0 → ended ≡ reading_of s
at_end [] e = refl
at_end (k ∷ behind) e = absurd (omega arith)

-- the first byte is no kind
pub unknown : (s : List ℕ) → (length s ≡ 0 → ⊥) → kind_of (get_or s 0 0) ≡ None → refused 2 ≡ reading_of s
unknown [] more e = absurd (more refl)
unknown (k ∷ behind) more e = rw e

-- something is left, the first byte of it is a kind, and the kind's argument has w bytes
pub record Begins (s : List ℕ) (kind : Kind) (w : ℕ) : Type 0 where
  pub more : length s ≡ 0 → ⊥
  pub first : kind_of (get_or s 0 0) ≡ Some kind
  pub width : w ≡ argument_bytes kind

-- fewer bytes follow than the argument has
pub cut_off : (s : List ℕ) {kind : Kind} {w : ℕ} → Begins s kind w → length s - 1 < w → refused 3 ≡ reading_of s
cut_off [] b short = absurd (b.more refl)
cut_off (_ ∷ behind) {kind} b short = rw b.first (simp (lt-ltb (length behind) (argument_bytes kind) (omega (arith, b.width))))

-- the argument follows, makes the number n, and n the command
pub whole : (s : List ℕ) {kind : Kind} {w : ℕ} (n : ℕ) (command : Command) → Begins s kind w → w ≤ length s - 1
    → n ≡ little_endian (take (1 + w - 1) (drop 1 s)) → command ≡ command_of kind n → next command (1 + w) ≡ reading_of s
whole [] n command b long sum made = absurd (b.more refl)
whole (_ ∷ behind) {kind} n command b long sum made =
    rw b.first (simp (le-ltb (length behind) (argument_bytes kind) (omega (arith, b.width)), made, sum, add-sub_cancel_left, b.width))
