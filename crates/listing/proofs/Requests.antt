-- Requests that are answered. One request leaves the index as the definition says and adds its line. Before each request those before it are answered in turn; one request more is one more at
-- the end of the list, and one line.
use mathlib.Core.Path.{◌≡◌, refl, sym, ap, ◌∙◌}
use mathlib.Core.List.{List, [], ◌∷◌, ◌++◌, append_assoc, append-nil}
use Prim.Native.Nat.{ℕ, zero, suc, ◌+◌, ◌*◌, ◌≤◌}
use native.Mathlib.Nat.{add-zero}
use native.Mathlib.Decide.{dec_lt}
use native.Mathlib.Omega.{arith}
use lib.IntN.{ℤ}
use lib.ListN.{length, set, length-append, length-set}
use Rattle.std.specs.Prelude.{Option, None, Some}
use Rattle.blocks.specs.Found.{Found}
use Rattle.blocks.specs.Takes.{stretch_of}
use Rattle.rough.specs.Looks.{ToldReading, rough_reading}
use Rattle.text.specs.declared.Page.{Page}
use Rattle.text.specs.Pages.{Puts}
use Rattle.text.proofs.Texts.{put_nothing, put_then}
use Rattle.listing.specs.declared.Request.{Request}
use Rattle.listing.specs.declared.Request.TheVariants.{Search, Stretch, Rough, Set}
use Rattle.listing.specs.declared.Stored.{Stored}
use Rattle.listing.specs.Lines.{stretch_line, rough_line, set_line}
use Rattle.listing.specs.Input.{request_at, goes_on, requests_from, requests_behind}
use Rattle.listing.specs.Output.{index_after, request_line, request_lines}
use Rattle.listing.specs.Choices.{unused, Allowed, AllAllowed}
use Rattle.listing.specs.Private.{Performs, Follows}
use Rattle.listing.proofs.Readings.{cut_off}

-- a stretch: nothing is found, so anything stands for it
pub stretched : {stored : Stored} {part : List ℤ} {n i j : ℕ} {request : Request} {page written : Page} → request ≡ Stretch i j → part ≡ stretch_of stored.take.now i j
    → Puts page (stretch_line n part) written → Performs stored stored n request page written
stretched {n = n} e s a = rw e (record { found = unused; allowed = tt; kept = refl; alters = refl; prints = rw (ap (stretch_line n) s) at a })

-- a rough reading, of which nothing is found either
pub looked : {stored : Stored} {n i j budget : ℕ} {request : Request} {t : ToldReading} {page written : Page} → request ≡ Rough i j budget
    → t ≡ rough_reading stored.take.now stored.index.now i j budget → Puts page (rough_line n t) written → Performs stored stored n request page written
looked {n = n} e s a = rw e (record { found = unused; allowed = tt; kept = refl; alters = refl; prints = rw (ap (rough_line n) s) at a })

-- another entry
pub entered : {stored after : Stored} {n a : ℕ} {v : ℤ} {request : Request} {page written : Page} → request ≡ Set a v → after.take.now ≡ stored.take.now
    → after.index.now ≡ set stored.index.now a v → Puts page (set_line n) written → Performs stored after n request page written
entered e k s p = rw e (record { found = unused; allowed = tt; kept = k; alters = s; prints = p })

-- the index after all of some requests
abbrev index_after_all : List ℤ → List Request → List ℤ
index_after_all index [] = index
index_after_all index (r ∷ rs) = index_after_all (index_after index r) rs

-- one request more: the index after it
index_more : (index : List ℤ) (rs : List Request) (r : Request) → index_after_all index (rs ++ (r ∷ [])) ≡ index_after (index_after_all index rs) r
index_more index [] r = refl
index_more index (q ∷ qs) r = index_more (index_after index q) qs r

-- what stands for it
allowed_more : (values index : List ℤ) (rs : List Request) (fs : List Found) (r : Request) (f : Found) → AllAllowed values index rs fs → Allowed values (index_after_all index rs) r f
    → AllAllowed values index (rs ++ (r ∷ [])) (fs ++ (f ∷ []))
allowed_more values index [] [] r f a b = (b, tt)
allowed_more values index [] (g ∷ gs) r f a b = absurd a
allowed_more values index (q ∷ qs) [] r f a b = absurd a
allowed_more values index (q ∷ qs) (g ∷ gs) r f a b = (a.0, allowed_more values (index_after index q) qs gs r f a.1 b)

-- and its line
lines_more : (values index : List ℤ) (n : ℕ) (rs : List Request) (fs : List Found) (r : Request) (f : Found) → AllAllowed values index rs fs
    → request_lines values index n (rs ++ (r ∷ [])) (fs ++ (f ∷ [])) ≡ request_lines values index n rs fs ++ request_line values (index_after_all index rs) (n + length rs) r f
lines_more values index n [] [] r f a = append-nil (request_line values index n r f) ∙ ap (λ (k : ℕ). request_line values index k r f) (sym (add-zero n))
lines_more values index n [] (g ∷ gs) r f a = absurd a
lines_more values index n (q ∷ qs) [] r f a = absurd a
lines_more values index n (q ∷ qs) (g ∷ gs) r f a =
    let next : List ℤ = index_after index q in
    let k : n + 1 + length qs ≡ n + suc (length qs) = omega arith in
    ap (λ (x : List ℕ). request_line values index n q g ++ x) (lines_more values next (n + 1) qs gs r f a.1)
    ∙ sym (append_assoc (request_line values index n q g) (request_lines values next (n + 1) qs gs) (request_line values (index_after_all next qs) (n + 1 + length qs) r f))
    ∙ ap (λ (x : ℕ). (request_line values index n q g ++ request_lines values next (n + 1) qs gs) ++ request_line values (index_after_all next qs) x r f) k

-- a request that is read has its 13 bytes
pub has_bytes : (bytes : List ℕ) (at : ℕ) {r : Request} → request_at bytes at ≡ Some r → at + 13 ≤ length bytes
has_bytes bytes at e = elim (dec_lt (length bytes) (at + 13)) [
  | yes l ↦ absurd (let z : ◌≡◌ {A = ℕ} 0 1 = cc (cut_off bytes at l) in omega arith)
  | no l ↦ omega arith
]

module _ (bytes : List ℕ) where
  -- where no bytes are left no request is read, however many there may be
  enough : (most at : ℕ) → length bytes ≤ at + most → requests_from (suc most) at bytes ≡ requests_from most at bytes
  unfolding requests_from
  enough zero at l = rw (cut_off bytes at (omega arith))
  enough (suc most) at l = ap (goes_on (request_at bytes at)) (enough most (at + 13) (omega arith))

  -- a request is read, and then those behind it
  pub behind_more : (at : ℕ) {r : Request} → request_at bytes at ≡ Some r → requests_behind at bytes ≡ r ∷ requests_behind (at + 13) bytes
  unfolding requests_from
  behind_more at e = sym (enough (length bytes) at (omega arith)) ∙ rw e

  -- no request is read
  pub behind_none : (at : ℕ) → request_at bytes at ≡ None → requests_behind at bytes ≡ []
  unfolding requests_from
  behind_none at e = sym (enough (length bytes) at (omega arith)) ∙ rw e

  -- the requests that are read stand within the bytes
  module _ (at most : ℕ) (rest : at + 13 ≤ length bytes → at + 13 + 13 * length (requests_from most (at + 13) bytes) ≤ length bytes) (l : at ≤ length bytes) where
    one_within : (o : Option Request) → request_at bytes at ≡ o → at + 13 * length (goes_on o (requests_from most (at + 13) bytes)) ≤ length bytes
    one_within None e = omega arith
    one_within (Some r) e = omega (arith, rest (has_bytes bytes at e))

  all_within : (most at : ℕ) → at ≤ length bytes → at + 13 * length (requests_from most at bytes) ≤ length bytes
  unfolding requests_from
  all_within zero at l = omega arith
  all_within (suc most) at l = one_within at most (all_within most (at + 13)) l (request_at bytes at) refl

  pub behind_within : (at : ℕ) → at ≤ length bytes → at + 13 * length (requests_behind at bytes) ≤ length bytes
  behind_within at l = all_within (length bytes) at l

-- no request alters how many entries there are
index_length : (index : List ℤ) (r : Request) → length (index_after index r) ≡ length index
index_length index (Search i j) = refl
index_length index (Stretch i j) = refl
index_length index (Rough i j budget) = refl
index_length index (Set a v) = length-set index a v

-- what holds with some requests still behind, of a following of `all` over a take and its index as they stood `before`
pub record Reached (before : Stored) (all behind : List Request) (now : Stored) (page written : Page) (read : ℕ) : Type 0 where
  pub few : length all ≤ 5040
  pub kept : now.take.now ≡ before.take.now
  pub long : length now.index.now ≡ length before.index.now
  pub requests : List Request
  pub found : List Found
  pub reads : all ≡ requests ++ behind
  pub allowed : AllAllowed before.take.now before.index.now requests found
  pub altered : now.index.now ≡ index_after_all before.index.now requests
  pub count : read ≡ length requests
  pub prints : Puts page (request_lines before.take.now before.index.now 1 requests found) written
  pub fits : written.used ≤ page.used + 59 * read

-- no request yet
pub reached_start : (before : Stored) (bytes : List ℕ) (start : ℕ) (page : Page) → start ≤ length bytes → length bytes ≤ start + 65528
    → Reached before (requests_behind start bytes) (requests_behind start bytes) before page page 0
reached_start before bytes start page l most = record {
  few = omega (arith, behind_within bytes start l);
  kept = refl;
  long = refl;
  requests = [];
  found = [];
  reads = refl;
  allowed = tt;
  altered = refl;
  count = refl;
  prints = put_nothing page;
  fits = omega arith;
}

-- one request more
pub reached_more : {before now after : Stored} {all behind rest : List Request} {page written printed : Page} {read : ℕ} {request : Request}
    → Reached before all behind now page written read → behind ≡ request ∷ rest
    → Performs now after (read + 1) request written printed → printed.used ≤ written.used + 59 → Reached before all rest after page printed (read + 1)
reached_more {before} {now} {after} {rest = rest} {read = read} {request} u e o few =
    let values : List ℤ = before.take.now in
    let first : List ℤ = before.index.now in
    let k : read + 1 ≡ 1 + length u.requests = omega (arith, u.count) in
    record {
      few = u.few;
      kept = o.kept ∙ u.kept;
      long = ap length o.alters ∙ index_length now.index.now request ∙ u.long;
      requests = u.requests ++ (request ∷ []);
      found = u.found ++ (o.found ∷ []);
      reads = u.reads ∙ ap (λ (x : List Request). u.requests ++ x) e ∙ sym (append_assoc u.requests (request ∷ []) rest);
      allowed = allowed_more values first u.requests u.found request o.found u.allowed (rw (u.kept, u.altered) at o.allowed);
      altered = o.alters ∙ ap (λ (x : List ℤ). index_after x request) u.altered ∙ sym (index_more first u.requests request);
      count = omega (arith, u.count, length-append u.requests (request ∷ []));
      prints =
          rw (lines_more values first 1 u.requests u.found request o.found u.allowed)
          (put_then u.prints (rw (k, u.kept, u.altered) at o.prints));
      fits = omega (arith, u.fits, few);
    }

-- no request more
pub reached_end : {before now : Stored} {bytes : List ℕ} {behind : List Request} {page written : Page} {start read : ℕ}
    → Reached before (requests_behind start bytes) behind now page written read → start ≤ length bytes → behind ≡ [] → Follows before bytes start page written read
reached_end {bytes = bytes} {start = start} u l e =
    let all : u.requests ≡ requests_behind start bytes = sym (u.reads ∙ ap (λ (x : List Request). u.requests ++ x) e ∙ append-nil u.requests) in
    record {
      found = u.found;
      allowed = rw all at u.allowed;
      count = u.count ∙ ap length all;
      within = omega (arith, u.count, ap length all, behind_within bytes start l);
      prints = rw all at u.prints;
    }
