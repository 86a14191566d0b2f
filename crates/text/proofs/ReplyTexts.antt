-- The text of a reply to a command, and how large a reply's number is at most.
use mathlib.Core.Path.{◌≡◌, refl, sym}
use mathlib.Core.List.{List, append-nil}
use Prim.Native.Nat.{ℕ, ◌<◌, ◌≤◌}
use native.Mathlib.Omega.{arith}
use lib.ListN.{length}
use Rattle.history.specs.declared.Refusal.{Refusal}
use Rattle.std.specs.Prelude.{None, Some, Ok, Err}
use Rattle.history.specs.Replies.{Reply, ToldOf, number_of, told}
use Rattle.text.specs.Writing.{Adds, decimal_of}
use Rattle.text.specs.Parts.{told_text, minimum_text, shown_text, replied_text, reply_text}
use Rattle.text.proofs.Decimals.{within, byte_few}
use Rattle.text.proofs.Texts.{then}

module _ {Shown : Type 0} (text : Shown → List ℕ) (t : ToldOf Shown) where
  -- the text of a reply that shows nothing
  pub bare : {a b : List ℕ} {n u v : ℕ} → n ≡ t.number → t.shown ≡ None → Adds a u (decimal_of n) b v → Adds a u (told_text text t) b v
  bare e s f = rw (s, ← e) (rw append-nil f)

  -- the text of one that shows something
  pub shows : {a b c : List ℕ} {n u v w : ℕ} {shown : Shown} → n ≡ t.number → t.shown ≡ Some shown → Adds a u (decimal_of n) b v → Adds b v (text shown) c w
      → Adds a u (told_text text t) c w
  shows e s f g = rw (s, ← e) (then f g)

-- no refusal's number has more than two digits
number_small : (why : Refusal) → number_of why < 100
number_small Refusal.AreaTooShort = omega arith
number_small Refusal.UnknownKind = omega arith
number_small Refusal.ArgumentCutOff = omega arith
number_small Refusal.Unopened = omega arith
number_small Refusal.OtherLength = omega arith
number_small Refusal.LastPosition = omega arith
number_small Refusal.NothingToMark = omega arith
number_small Refusal.AlreadyMarked = omega arith
number_small Refusal.AlreadyClosed = omega arith
number_small Refusal.Full = omega arith
number_small Refusal.NotActive = omega arith
number_small Refusal.WidthOutOfRange = omega arith
number_small Refusal.TooFewWords = omega arith
number_small Refusal.RangeOutOfTake = omega arith
number_small Refusal.OtherIndexLength = omega arith

-- nor has any reply's
pub told_few : (r : Reply) → (told r).number < 100
told_few (Ok None) = omega arith
told_few (Ok (Some m)) = omega arith
told_few (Err why) = number_small why

-- so the text of a refusal's number has no more than three bytes; that of an acceptance's has one
pub zero_few : length (decimal_of 0) ≤ 1
zero_few = within 20 0 0 (omega arith)

pub number_few : (why : Refusal) → length (decimal_of (number_of why)) ≤ 3
number_few why = byte_few (number_of why) (omega (arith, number_small why))

-- what is put of a reply to a command is what a caller is told
pub replied_told : (reply : Reply) → replied_text (shown_text minimum_text) reply ≡ reply_text (told reply)
replied_told (Ok None) = refl
replied_told (Ok (Some m)) = refl
replied_told (Err why) = sym (append-nil (decimal_of (number_of why)))
