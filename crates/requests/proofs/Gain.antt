-- POINT 1 of document 02. Its theorem and its worked numbers are cited under their statements; and each clause is used, of the rule in plain numbers, and of what
-- C is told. So a clause that is dropped, or that gains a hypothesis or an alternative, no longer proves what stands here.
use mathlib.Core.Path.{◌≡◌, refl, ap, ◌∙◌}
use mathlib.Core.List.{[], ◌∷◌, map}
use Prim.Native.Nat.{ℕ, suc, ◌*◌, ◌^◌, ◌≤◌, ◌<◌}
use lib.IntN.{ℤ, pos, neg_ℤ}
use lib.Signed.{◌≤ℤ◌}
use mir.Syntax.{w16, w32}
use borrow.Author.Tests.{leb-true, leb-false, le-leb, lt-leb}
use borrow.Fn.Kinds.{p_s_num, r_num}
use Rattle.gain.specs.Gains.{entry_of, gain_of}
use Rattle.gain.specs.Promises.{Point1}
use Rattle.gain.specs.Examples.{Example, AllWorked, examples}
use Rattle.gain.proofs.Point as point
use Rattle.gain.proofs.Examples as worked
use Rattle.gain.proofs.gain.Reads as gain-reads
use Rattle.firmware.proofs.filkotar_gain.Kinds as kinds
use Rattle.firmware.proofs.filkotar_gain.Reads as reads

point_1 : Point1
point_1 = point.point_1

examples_worked : AllWorked examples
examples_worked = worked.examples_worked

-- "the largest whole g with g^80 × 10^n at most 32,768^80": the entry and not the number after it; nothing larger; nothing else
entry_fits : (n : ℕ) → entry_of n ^ 80 * 10 ^ n ≤ 32768 ^ 80
entry_fits n = leb-true _ _ (point_1.rule n).this

next_does_not : (n : ℕ) → 32768 ^ 80 < suc (entry_of n) ^ 80 * 10 ^ n
next_does_not n = leb-false _ _ (point_1.rule n).next

nothing_larger : (n h : ℕ) → h ^ 80 * 10 ^ n ≤ 32768 ^ 80 → h ≤ entry_of n
nothing_larger n h f = point_1.largest n (entry_of n) h (point_1.rule n) (le-leb _ _ f)

nothing_else : (n g : ℕ) → g ^ 80 * 10 ^ n ≤ 32768 ^ 80 → 32768 ^ 80 < suc g ^ 80 * 10 ^ n → g ≡ entry_of n
nothing_else n g f h = point_1.only n g (record { this = le-leb _ _ f; next = lt-leb _ _ h })

-- "the gains never rise as n grows"
never_rises : (n m : ℕ) → n ≤ m → entry_of m ≤ entry_of n
never_rises = point_1.never_rises

-- what C is told of v by `filkotar_gain`, whose contract is read as it stands in the source
abbrev Told : ℤ → ℕ → Type 0
Told v r = reads.Learnt tt (v, tt) r (v, tt)

-- it takes a signed number of 32 bits, gives an unsigned one of 16, and asks for nothing; nor does `gain`, which gives the same
takes : kinds.ps ≡ p_s_num w32 ∷ []
takes = refl

gives : kinds.r ≡ r_num w16
gives = refl

asks_nothing : (v : ℤ) → reads.Asked tt (v, tt)
asks_nothing v = tt

gain_asks_nothing : (v : ℤ) → gain-reads.Asked tt (v, tt)
gain_asks_nothing v = tt

gain_told : (v : ℤ) (r : ℕ) → gain-reads.Learnt tt (v, tt) r (v, tt) → Told v r
gain_told v r t = t

-- "A dip value of 0 or more gets 32,768; a value −n down to −240 gets entry n; anything lower gets 0."
told_high : (n r : ℕ) → Told (pos n) r → r ≡ 32768
told_high n r t = t ∙ point_1.high n

told_entry : (n r : ℕ) → n ≤ 240 → Told (neg_ℤ (pos n)) r → r ≡ entry_of n
told_entry n r h t = t ∙ point_1.entries n h

told_low : (n r : ℕ) → 240 < n → Told (neg_ℤ (pos n)) r → r ≡ 0
told_low n r h t = t ∙ point_1.low n h

-- "a gain from 0 to 32,768", which never falls as the value grows
told_within : (v : ℤ) (r : ℕ) → Told v r → r ≤ 32768
told_within v r t = rw t (point_1.within v)

told_never_falls : (v w : ℤ) (q r : ℕ) → v ≤ℤ w → Told v q → Told w r → q ≤ r
told_never_falls v w q r h t u = rw (t, u) (point_1.never_falls v w h)

-- "So −80 gives 3,276, −240 gives 32 and −241 gives 0.", and the numbers around 0 and at both ends
gains_worked :
    map gain_of (neg_ℤ (pos 80) ∷ neg_ℤ (pos 240) ∷ neg_ℤ (pos 241) ∷ pos 1 ∷ pos 0 ∷ neg_ℤ (pos 1) ∷ pos 2147483647 ∷ neg_ℤ (pos 2147483648) ∷ [])
    ≡ 3276 ∷ 32 ∷ 0 ∷ 32768 ∷ 32768 ∷ 31838 ∷ 32768 ∷ 0 ∷ []
gains_worked = ap (map (λ (e : Example). e.gain)) examples_worked
