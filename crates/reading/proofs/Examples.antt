-- Document 01, "Played examples", of the bytes; both ends of the value range, and the greatest position; and that no other byte is a kind. What is found is written out: the number of a
-- refusal, the command, and the bytes used.
use mathlib.Core.Path.{◌≡◌, refl}
use mathlib.Core.List.{List, [], ◌∷◌}
use Rattle.std.specs.Prelude.{None, Some}
use Prim.Native.Nat.{ℕ, ◌+◌, ◌*◌}
use native.Mathlib.Omega.{arith}
use lib.ListN.{length}
use lib.IntN.{pos, negsuc}
use borrow.Author.Tests.{ne_eqb, le-ltb}
use Rattle.history.specs.declared.Command.TheVariants.{Value, Mark, Query, Close}
use Rattle.reading.specs.Outcomes.{reading_of}

-- "With nothing left the answer is end."
pub nothing_left : reading_of [] ≡ record { number = None; command = None; used = 0 }
nothing_left = refl

-- "Bytes 05: 2." "a reading refusal uses 0 bytes"
pub unknown_alone : reading_of (5 ∷ []) ≡ record { number = Some 2; command = None; used = 0 }
unknown_alone = refl

-- 2: "when the kind byte is none of the four"
pub unknown_kind : (kind : ℕ) (behind : List ℕ) → (kind ≡ 1 → ⊥) → (kind ≡ 2 → ⊥) → (kind ≡ 3 → ⊥) → (kind ≡ 4 → ⊥)
    → reading_of (kind ∷ behind) ≡ record { number = Some 2; command = None; used = 0 }
unknown_kind kind behind a b c d = rw (ne_eqb kind 1 a, ne_eqb kind 2 b, ne_eqb kind 3 c, ne_eqb kind 4 d)

-- "Bytes 03 01 00 00: 3."
pub one_short : reading_of (3 ∷ 1 ∷ 0 ∷ 0 ∷ []) ≡ record { number = Some 3; command = None; used = 0 }
one_short = refl

-- "Byte 02: Mark, 1 byte."
pub mark_alone : reading_of (2 ∷ []) ≡ record { number = None; command = Some Mark; used = 1 }
mark_alone = refl

-- the least value, whose last byte is the most significant
pub least : reading_of (1 ∷ 0 ∷ 0 ∷ 0 ∷ 128 ∷ []) ≡ record { number = None; command = Some (Value (negsuc 2147483647)); used = 5 }
least = refl

-- the greatest
pub greatest : reading_of (1 ∷ 255 ∷ 255 ∷ 255 ∷ 127 ∷ []) ≡ record { number = None; command = Some (Value (pos 2147483647)); used = 5 }
greatest = refl

-- the greatest position, and one whose bytes differ
pub last_position : reading_of (3 ∷ 255 ∷ 255 ∷ 255 ∷ 255 ∷ []) ≡ record { number = None; command = Some (Query (record { 0 = 4294967295 })); used = 5 }
last_position = refl

pub some_position : reading_of (4 ∷ 4 ∷ 3 ∷ 2 ∷ 1 ∷ []) ≡ record { number = None; command = Some (Close (record { 0 = 16909060 })); used = 5 }
some_position = refl

-- "Arguments are four bytes, least significant first", of any bytes
pub query_read : (a b c d : ℕ) (rest : List ℕ)
    → reading_of (3 ∷ a ∷ b ∷ c ∷ d ∷ rest) ≡ record { number = None; command = Some (Query (record { 0 = a + 256 * (b + 256 * (c + 256 * (d + 256 * 0))) })); used = 5 }
query_read a b c d rest = rw (le-ltb (length (a ∷ b ∷ c ∷ d ∷ rest)) 4 (omega arith))

pub close_read : (a b c d : ℕ) (rest : List ℕ)
    → reading_of (4 ∷ a ∷ b ∷ c ∷ d ∷ rest) ≡ record { number = None; command = Some (Close (record { 0 = a + 256 * (b + 256 * (c + 256 * (d + 256 * 0))) })); used = 5 }
close_read a b c d rest = rw (le-ltb (length (a ∷ b ∷ c ∷ d ∷ rest)) 4 (omega arith))
