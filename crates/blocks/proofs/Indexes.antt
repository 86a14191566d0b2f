-- The index of a take: how many entries it has, which each is, and that the least of some blocks stands in the block whose entry is the least of theirs.
use mathlib.Core.Path.{◌≡◌, refl, sym, ap, ◌∙◌}
use mathlib.Core.Bool.{Bool, true, false, cond, not}
use mathlib.Core.List.{List, [], ◌∷◌, ◌++◌}
use Prim.Native.Nat.{ℕ, zero, suc, ◌+◌, ◌*◌, ◌-◌, ◌<◌, ◌≤◌, min}
use native.Mathlib.Omega.{arith}
use lib.IntN.{ℤ, pos}
use lib.ListN.{length, get_or, set, take, drop, length-take, length-drop}
use lib.Seq.{take-suc, take-suc-set, take_all, length-take-le, get_or-take, get_or-drop, drop-drop, take-append_seam, drop-append_seam}
use Rattle.std.proofs.lemmas.List.{take_min, drop_min}
use Rattle.history.specs.Minima.{takes_over, stands_at, minimum}
use Rattle.std.specs.Int.Signed.{le_z}
use Rattle.laws.proofs.Order.{le_z_antisym, lt_z_le_z}
use Rattle.history.specs.declared.Position.{Position}
use Rattle.history.proofs.Lowest.{minimum_new, minimum_least}
use Rattle.blocks.specs.Found.{Found}
use Rattle.blocks.specs.Takes.{from_zero, minimum_from, block_of, block_count, block_minima_from, block_minima}
use Rattle.blocks.specs.Private.{shifted, lower_of}
use Rattle.blocks.proofs.Founds.{joined, handed_on}

length_entries : (n b : ℕ) (values : List ℤ) → length (block_minima_from n b values) ≡ n
unfolding block_minima_from
length_entries zero b values = refl
length_entries (suc n) b values = ap suc (length_entries n (b + 1) values)

-- the index has as many entries as the take has blocks
pub length_index : (values : List ℤ) → length (block_minima values) ≡ block_count (length values)
length_index values = length_entries (block_count (length values)) 0 values

entry_of : (n b : ℕ) (values : List ℤ) (k : ℕ) → k < n → get_or (block_minima_from n b values) k (pos 0) ≡ (minimum_from (block_of values (b + k)) 0).value
unfolding block_minima_from
entry_of zero b values k h = absurd (omega arith)
entry_of (suc n) b values zero h = let q : b ≡ b + 0 = omega arith in ap (λ (x : ℕ). (minimum_from (block_of values x) 0).value) q
entry_of (suc n) b values (suc k) h =
    let q : b + 1 + k ≡ b + suc k = omega arith in
    entry_of n (b + 1) values k (omega arith) ∙ ap (λ (x : ℕ). (minimum_from (block_of values x) 0).value) q

-- entry b is the least of block b
pub entry : (values : List ℤ) (b : ℕ) → b < block_count (length values) → get_or (block_minima values) b (pos 0) ≡ (minimum_from (block_of values b) 0).value
entry values b h =
    let q : 0 + b ≡ b = omega arith in
    entry_of (block_count (length values)) 0 values b h ∙ ap (λ (x : ℕ). (minimum_from (block_of values x) 0).value) q

-- the first entries of an index that is being written: one more, and all
pub built_more : (values w : List ℤ) (b : ℕ) (v : ℤ) → b < length w → b < block_count (length values) → v ≡ (minimum_from (block_of values b) 0).value
    → take b w ≡ take b (block_minima values) → take (b + 1) (set w b v) ≡ take (b + 1) (block_minima values)
built_more values w b v l h e q =
    let one : b + 1 ≡ suc b = omega arith in
    rw one
    (take-suc-set w b v l
    ∙ ap (λ (xs : List ℤ). xs ++ (v ∷ [])) q
    ∙ ap (λ (x : ℤ). take b (block_minima values) ++ (x ∷ [])) (e ∙ sym (entry values b h))
    ∙ sym (take-suc (block_minima values) b (pos 0) (omega (arith, length_index values))))

pub built_all : (values w : List ℤ) (b : ℕ) → block_count (length values) ≤ b → length w ≤ b → take b w ≡ take b (block_minima values) → w ≡ block_minima values
built_all values w b h l q = sym (take_all b w l) ∙ q ∙ take_all b (block_minima values) (omega (arith, length_index values))

-- the blocks as `chunks` hands them out: the next one, and what is left behind it
pub next_block : (values part rest : List ℤ) (b : ℕ) → drop (64 * b) values ≡ part ++ rest → length part ≡ min 64 (length (drop (64 * b) values))
    → (part ≡ block_of values b) × (rest ≡ drop (64 * (b + 1)) values)
next_block values part rest b q n =
    let all : List ℤ = drop (64 * b) values in
    let front : take (length part) all ≡ part = ap (take (length part)) q ∙ take-append_seam part rest in
    let back : drop (length part) all ≡ rest = ap (drop (length part)) q ∙ drop-append_seam part rest in
    let next : 64 * b + 64 ≡ 64 * (b + 1) = omega arith in (
      sym front ∙ ap (λ (k : ℕ). take k all) n ∙ take_min 64 all,
      sym back ∙ ap (λ (k : ℕ). drop k all) n ∙ drop_min 64 all ∙ drop-drop 64 (64 * b) values ∙ ap (λ (k : ℕ). drop k values) next,
    )

-- of one value, that value there
pub one_value : (vs : List ℤ) (k : ℕ) → k < length vs → minimum_from (take (k + 1) vs) k ≡ record { value = get_or vs k (pos 0); place = record { 0 = k } }
one_value vs k h =
    let ws : List ℤ = take (k + 1) vs in
    let n : length ws ≡ k + 1 = length-take-le (k + 1) vs (omega arith) in
    let back : k + 1 - 1 ≡ k = omega arith in
    let new : minimum ws (record { 0 = k + 1 }) ≡ stands_at (get_or ws (k + 1 - 1) (pos 0)) (record { 0 = k + 1 }) = rw n at (minimum_new ws) in
    let v : get_or ws (k + 1 - 1) (pos 0) ≡ get_or vs k (pos 0) = ap (λ (i : ℕ). get_or ws i (pos 0)) back ∙ get_or-take (k + 1) vs k (pos 0) (omega arith) in
    ap from_zero new ∙ (λ x. record { value = v x; place = record { 0 = back x } })

-- what is found in block b, as it is counted in the take
abbrev pub in_block : List ℤ → ℕ → Found
in_block values b = shifted (64 * b) (minimum_from (block_of values b) 0)

-- which is what is found from where the block begins to where it ends
found_in_block : (values : List ℤ) (b : ℕ) → 64 * b < length values → minimum_from (take (64 * (b + 1)) values) (64 * b) ≡ in_block values b
found_in_block values b h =
    let n : 64 * (b + 1) - 64 * b ≡ 64 = omega arith in
    rw n at (handed_on values (64 * b) (64 * (b + 1)) (omega arith) h)

-- the least of the first b blocks is v, and stands in block `at`
pub record Leading (values : List ℤ) (b at : ℕ) (v : ℤ) : Type 0 where
  pub some : at < b
  pub value : v ≡ (minimum_from (block_of values at) 0).value
  pub whole : minimum_from (take (64 * b) values) 0 ≡ in_block values at

pub leading_one : (values : List ℤ) (v : ℤ) → 0 < length values → v ≡ (minimum_from (block_of values 0) 0).value → Leading values 1 0 v
leading_one values v h e = record { some = omega arith; value = e; whole = found_in_block values 0 h }

pub leading_more : (values : List ℤ) (b at : ℕ) (v new : ℤ) (t : Bool) → 64 * b < length values → Leading values b at v → new ≡ (minimum_from (block_of values b) 0).value
    → takes_over new v ≡ t → Leading values (b + 1) (cond t b at) (cond t new v)
leading_more values b at v new t h l e q =
    let whole : minimum_from (take (64 * (b + 1)) values) 0 ≡ lower_of (in_block values at) (in_block values b) =
    joined values 0 (64 * b) (64 * (b + 1)) (omega (arith, l.some)) (omega arith) h
    ∙ ap (λ (x : Found). lower_of x (minimum_from (take (64 * (b + 1)) values) (64 * b))) l.whole
    ∙ ap (lower_of (in_block values at)) (found_in_block values b h) in
    let same : takes_over (in_block values b).value (in_block values at).value ≡ t =
    ap (λ (x : ℤ). takes_over x (in_block values at).value) (sym e) ∙ ap (takes_over new) (sym l.value) ∙ q in
    go t (whole ∙ ap (λ (x : Bool). cond x (in_block values b) (in_block values at)) same)
  where
    go : (t : Bool) → minimum_from (take (64 * (b + 1)) values) 0 ≡ cond t (in_block values b) (in_block values at) → Leading values (b + 1) (cond t b at) (cond t new v)
    go true w = record { some = omega arith; value = e; whole = w }
    go false w = record { some = omega (arith, l.some); value = l.value; whole = w }

-- before the first block, its first value stands for its least
abbrev pub Led : List ℤ → ℕ → ℕ → ℤ → Type 0
Led values b at v = (b ≡ 0 → (at ≡ 0) × (v ≡ get_or values 0 (pos 0))) × (0 < b → Leading values b at v)

-- it is no lower than that, so that where the least does not take over, they are equal
first_is_least : (values : List ℤ) (v new : ℤ) → 0 < length values → v ≡ get_or values 0 (pos 0) → new ≡ (minimum_from (block_of values 0) 0).value → takes_over new v ≡ false → v ≡ new
first_is_least values v new h q e f =
    let one : Position = record { 0 = 1 } in
    let long = length-take 64 (drop (64 * 0) values) in
    let rest = length-drop (64 * 0) values in
    let m = minimum_least (block_of values 0) one (omega arith) (omega (arith, long, rest)) in
    let same : get_or (block_of values 0) 0 (pos 0) ≡ v = get_or-take 64 (drop (64 * 0) values) 0 (pos 0) (omega arith) ∙ get_or-drop (64 * 0) values 0 (pos 0) ∙ sym q in
    let below : le_z new v ≡ true = rw (e, sym same) (m.least one (omega arith) (omega (arith, long, rest))) in
    let above : not (le_z v new) ≡ false = sym (lt_z_le_z new v) ∙ f in
    le_z_antisym v new (not_false (le_z v new) above) below
  where
    not_false : (b : Bool) → not b ≡ false → b ≡ true
    not_false true z = refl
    not_false false z = cc

pub led_more : (values : List ℤ) (b at : ℕ) (v new : ℤ) (t : Bool) → 64 * b < length values → Led values b at v → new ≡ (minimum_from (block_of values b) 0).value
    → takes_over new v ≡ t → Leading values (b + 1) (cond t b at) (cond t new v)
led_more values (suc b) at v new t h l e q = leading_more values (suc b) at v new t h (l.1 (omega arith)) e q
led_more values zero at v new t h l e q = go t q
  where
    start : (at ≡ 0) × (v ≡ get_or values 0 (pos 0))
    start = l.0 refl

    go : (t : Bool) → takes_over new v ≡ t → Leading values 1 (cond t 0 at) (cond t new v)
    go true q = leading_one values new (omega arith) e
    go false q = rw start.0 (leading_one values v (omega arith) (first_is_least values v new (omega arith) start.1 e q ∙ e))

-- a turn over the blocks that `chunks` hands out: n are behind it, and the next is `part`
pub led_turn : (values part left right : List ℤ) (n m at : ℕ) (v new : ℤ) (t : Bool) → left ≡ drop (64 * n) values → left ≡ part ++ right → length part ≡ min 64 (length left) → 0 < length left
    → m ≡ n + 1 → Led values n at v → new ≡ (minimum_from part 0).value → takes_over new v ≡ t
    → (right ≡ drop (64 * m) values) × (m ≤ block_count (length values)) × Leading values m (cond t n at) (cond t new v)
led_turn values part left right n m at v new t q split long some one l e asked =
    let next = next_block values part right n (sym q ∙ split) (long ∙ ap (λ (xs : List ℤ). min 64 (length xs)) q) in
    let inside : 64 * n < length values = omega (arith, some, ap length q, length-drop (64 * n) values) in
    let least : new ≡ (minimum_from (block_of values n) 0).value = e ∙ ap (λ (xs : List ℤ). (minimum_from xs 0).value) next.0 in
    (rw one next.1, omega (arith, inside, one), rw one (led_more values n at v new t inside l least asked))

-- of all blocks, and so of all values, with the place in the block
pub leading_all : (values : List ℤ) (b at p : ℕ) (v : ℤ) → length values ≤ 64 * b → Leading values b at v → p ≡ (minimum_from (block_of values at) 0).place.0
    → record { value = v; place = record { 0 = 64 * at + p } } ≡ minimum_from values 0
leading_all values b at p v h l q =
    (λ x. record { value = l.value x; place = record { 0 = 64 * at + q x } }) ∙ sym l.whole ∙ ap (λ (vs : List ℤ). minimum_from vs 0) (take_all (64 * b) values h)

-- of the blocks from `first` on, n and one more
module _ (values : List ℤ) (first : ℕ) where
  abbrev index : List ℤ
  index = block_minima values

  -- what is found among the entries before `end`, and among the values of those blocks: a block, and its least
  pub record Agree (end : ℕ) : Type 0 where
    pub value : (minimum_from (take (64 * end) values) (64 * first)).value ≡ (minimum_from (take end index) first).value
    pub whole : minimum_from (take (64 * end) values) (64 * first) ≡ in_block values (minimum_from (take end index) first).place.0

  agree_one : first < block_count (length values) → Agree (first + 1)
  agree_one h =
      let one = one_value index first (omega (arith, length_index values)) in
      let here = found_in_block values first (omega arith) in
      record {
        value = ap (λ (f : Found). f.value) here ∙ sym (entry values first h) ∙ sym (ap (λ (f : Found). f.value) one);
        whole = here ∙ sym (ap (λ (f : Found). in_block values f.place.0) one);
      }

  agree_more : (end : ℕ) → first < end → end < block_count (length values) → Agree end → Agree (end + 1)
  agree_more end l h r =
      let e : ℤ = get_or index end (pos 0) in
      let f : Found = minimum_from (take end index) first in
      let new : Found = record { value = e; place = record { 0 = end } } in
      let n : end < length index = omega (arith, length_index values) in
      let among : minimum_from (take (end + 1) index) first ≡ lower_of f new =
      joined index first end (end + 1) l (omega arith) n ∙ ap (lower_of f) (one_value index end n) in
      let within : minimum_from (take (64 * (end + 1)) values) (64 * first) ≡ lower_of (in_block values f.place.0) (in_block values end) =
      joined values (64 * first) (64 * end) (64 * (end + 1)) (omega arith) (omega arith) (omega arith)
      ∙ ap (λ (x : Found). lower_of x (minimum_from (take (64 * (end + 1)) values) (64 * end))) r.whole
      ∙ ap (lower_of (in_block values f.place.0)) (found_in_block values end (omega arith)) in
      let older : (in_block values f.place.0).value ≡ f.value = sym (ap (λ (x : Found). x.value) r.whole) ∙ r.value in
      let newer : (in_block values end).value ≡ e = sym (entry values end h) in
      let same : takes_over (in_block values end).value (in_block values f.place.0).value ≡ takes_over e f.value =
      ap (λ (v : ℤ). takes_over v (in_block values f.place.0).value) newer ∙ ap (takes_over e) older in
      let placed : lower_of (in_block values f.place.0) (in_block values end) ≡ cond (takes_over e f.value) (in_block values end) (in_block values f.place.0) =
      ap (λ (t : Bool). cond t (in_block values end) (in_block values f.place.0)) same in
      record {
        value = ap (λ (x : Found). x.value) (within ∙ placed) ∙ value_chosen (takes_over e f.value) new f newer older ∙ sym (ap (λ (x : Found). x.value) among);
        whole = within ∙ placed ∙ block_chosen (takes_over e f.value) new f ∙ sym (ap (λ (x : Found). in_block values x.place.0) among);
      }
    where
      -- the choice among the entries is the choice among the blocks
      value_chosen : (t : Bool) (new f : Found) → (in_block values new.place.0).value ≡ new.value → (in_block values f.place.0).value ≡ f.value
          → (cond t (in_block values new.place.0) (in_block values f.place.0)).value ≡ (cond t new f).value
      value_chosen true new f p q = p
      value_chosen false new f p q = q

      block_chosen : (t : Bool) (new f : Found) → cond t (in_block values new.place.0) (in_block values f.place.0) ≡ in_block values (cond t new f).place.0
      block_chosen true new f = refl
      block_chosen false new f = refl

  -- SO IT IS OF ANY BLOCKS, of which there is one
  pub agree : (n : ℕ) → first + suc n ≤ block_count (length values) → Agree (first + suc n)
  agree zero h = agree_one (omega arith)
  agree (suc n) h =
      let q : first + suc n + 1 ≡ first + suc (suc n) = omega arith in
      rw q at (agree_more (first + suc n) (omega arith) (omega arith) (agree n (omega arith)))
