-- The roles that the header gives, after some of its words are written.
use mathlib.Core.Path.{◌≡◌}
use mathlib.Core.Bool.{true}
use mathlib.Core.List.{List}
use Prim.Native.Nat.{ℕ, ◌<◌, ◌≤◌}
use native.Mathlib.Omega.{arith}
use lib.ListN.{length, get_or}
use Rattle.layout.specs.declared.Extent.{Extent}
use Rattle.layout.specs.Words.{Put, puts}
use Rattle.layout.proofs.Puts.{reading, in_header, puts_read}
use Rattle.ranges.specs.Holding.{Roles, roles_of}

-- an extent by its four numbers
abbrev pub extent : ℕ → ℕ → ℕ → ℕ → Extent
extent k rows capacity height = record { lane = record { 0 = k }; rows = record { 0 = rows }; capacity = record { 0 = capacity }; height = record { 0 = height } }

-- the roles by the header's words
abbrev pub roles_by : (ℕ → ℕ) → Roles
roles_by f = record {
  active = extent (f 0) (f 1) (f 2) (f 3);
  younger = extent (f 8) (f 9) (f 10) (f 11);
  older = extent (f 16) (f 17) (f 18) (f 19);
  next = extent (f 24) (f 25) (f 26) (f 27);
  start = record { 0 = f 4 };
  middle = record { 0 = f 12 };
  younger_left = record { 0 = f 13 };
  younger_run = record { 0 = f 14 };
  older_left = record { 0 = f 21 };
  older_run = record { 0 = f 22 };
}

-- after words of the header are written
pub roles_put : (ps : List Put) (w : List ℕ) → in_header ps ≡ true → 32 ≤ length w → roles_of (puts ps w) ≡ roles_by (λ j. reading ps j (get_or w j 0))
roles_put ps w e l = λ n. roles_by (λ j. puts_read ps w j e l n)

-- the roles depend on the header's words alone
pub roles_by_lem : (f g : ℕ → ℕ) → ((i : ℕ) → i < 32 → f i ≡ g i) → roles_by f ≡ roles_by g
roles_by_lem f g e = λ n. record {
  active = extent (e 0 (omega arith) n) (e 1 (omega arith) n) (e 2 (omega arith) n) (e 3 (omega arith) n);
  younger = extent (e 8 (omega arith) n) (e 9 (omega arith) n) (e 10 (omega arith) n) (e 11 (omega arith) n);
  older = extent (e 16 (omega arith) n) (e 17 (omega arith) n) (e 18 (omega arith) n) (e 19 (omega arith) n);
  next = extent (e 24 (omega arith) n) (e 25 (omega arith) n) (e 26 (omega arith) n) (e 27 (omega arith) n);
  start = record { 0 = e 4 (omega arith) n };
  middle = record { 0 = e 12 (omega arith) n };
  younger_left = record { 0 = e 13 (omega arith) n };
  younger_run = record { 0 = e 14 (omega arith) n };
  older_left = record { 0 = e 21 (omega arith) n };
  older_run = record { 0 = e 22 (omega arith) n };
}

-- words with the same header have the same roles
pub roles_same : (w v : List ℕ) → ((i : ℕ) → i < 32 → get_or v i 0 ≡ get_or w i 0) → roles_of v ≡ roles_of w
roles_same w v f = roles_by_lem (λ i. get_or v i 0) (λ i. get_or w i 0) f

-- the roles with another active lane, or another next one
abbrev pub with_active : Roles → Extent → Roles
with_active s e = record {
  active = e;
  younger = s.younger;
  older = s.older;
  next = s.next;
  start = s.start;
  middle = s.middle;
  younger_left = s.younger_left;
  younger_run = s.younger_run;
  older_left = s.older_left;
  older_run = s.older_run;
}

abbrev pub with_next : Roles → Extent → Roles
with_next s e = record {
  active = s.active;
  younger = s.younger;
  older = s.older;
  next = e;
  start = s.start;
  middle = s.middle;
  younger_left = s.younger_left;
  younger_run = s.younger_run;
  older_left = s.older_left;
  older_run = s.older_run;
}
