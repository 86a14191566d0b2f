-- What is read of an input: whether there is a take, and the request at an offset.
use mathlib.Core.Path.{◌≡◌}
use mathlib.Core.List.{List}
use Prim.Native.Nat.{ℕ, ◌+◌, ◌<◌}
use lib.ListN.{length}
use borrow.Author.Tests.{lt-ltb}
use Rattle.std.specs.Prelude.{None}
use Rattle.listing.specs.Input.{request_at}

-- no request where fewer than 13 bytes are left
pub cut_off : (bytes : List ℕ) (at : ℕ) → length bytes < at + 13 → request_at bytes at ≡ None
cut_off bytes at l = rw (lt-ltb (length bytes) (at + 13) l)
