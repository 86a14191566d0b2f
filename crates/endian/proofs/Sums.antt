-- The sum that a loop makes of bytes, from the last down to the first, is their number.
use Rattle.std.proofs.Common.{◌≡◌, ap, ◌∙◌, sym, append_assoc, append-nil, length-append, refl, arith, List, [], ◌∷◌, ◌++◌, length, ℕ, ◌+◌, ◌*◌, ◌<◌, ◌≤◌, ◌^◌}
use Rattle.std.proofs.Math.Nat.{pow-succ', pow-le-pow_right}
use Rattle.endian.specs.Numbers.{little_endian}

-- the bytes are those that are left and those that were taken, from the last one down, of which the sum is the number
pub record Summed (bytes left : List ℕ) (n : ℕ) : Type 0 where
  pub taken : List ℕ
  pub all : bytes ≡ left ++ taken
  pub sum : n ≡ little_endian taken
  pub small : n < 256 ^ length taken

-- the next byte down is added to 256 times the sum
pub summed_more : {bytes left : List ℕ} {n : ℕ} → Summed bytes left n → (b : ℕ) (lower : List ℕ) → left ≡ lower ++ (b ∷ []) → b < 256 → Summed bytes lower (b + 256 * n)
summed_more {n = n} s b lower e l = record {
  taken = b ∷ s.taken;
  all = s.all ∙ ap (λ (x : List ℕ). x ++ s.taken) e ∙ append_assoc lower (b ∷ []) s.taken;
  sum = ap (λ (x : ℕ). b + 256 * x) s.sum;
  small = rw pow-succ' (omega (arith, s.small));
}

-- before the last byte is taken, the sum is 0
pub summed_none : {bytes left : List ℕ} → bytes ≡ left → Summed bytes left 0
summed_none {left = left} e = record { taken = []; all = e ∙ sym (append-nil left); sum = refl; small = omega arith }

-- with every byte taken, it is the number of them all
pub summed_all : {bytes left : List ℕ} {n : ℕ} → Summed bytes left n → length left ≡ 0 → n ≡ little_endian bytes
summed_all {left = []} s l = s.sum ∙ ap little_endian (sym s.all)
summed_all {left = b ∷ more} s l = absurd (omega arith)

-- of at most four bytes, while one is left to take, the sum has room for it in 32 bits
pub summed_room : {bytes left : List ℕ} {n : ℕ} → Summed bytes left n → length bytes ≤ 4 → (lower : List ℕ) (b : ℕ) → left ≡ lower ++ (b ∷ []) → n < 16777216
summed_room {left = left} s l lower b e =
    let all = ap (λ (x : List ℕ). length x) s.all ∙ length-append left s.taken in
    let one = ap (λ (x : List ℕ). length x) e ∙ length-append lower (b ∷ []) in
    omega (arith, s.small, pow-le-pow_right {n = 256} (omega arith) {i = length s.taken} {j = 3} (omega arith))
