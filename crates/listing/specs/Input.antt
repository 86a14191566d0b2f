-- The input of `lookup`: a take, the length of its index, and requests. The quotes are from its description, at the head of Output.
use Rattle.std.specs.Prelude.{Bool, cond, ◌||◌, List, [], ◌∷◌, ℕ, zero, suc, ◌+◌, ◌*◌, ◌-◌, eqb, ltb, ℤ, length, get_or, Option, None, Some}
use Rattle.signed.specs.TwosComplement.{signed_of}
use Rattle.numbers.specs.FourBytes.{number_at, values_from}
use Rattle.listing.specs.declared.Request.{Request}
use Rattle.listing.specs.declared.Request.TheVariants.{Search, Stretch, Rough, Set}

-- "n (unsigned), then n values (two's complement)"
abbrev pub count_of : List ℕ → ℕ
count_of bytes = number_at bytes 0

abbrev pub take_of : List ℕ → List ℤ
take_of bytes = values_from (count_of bytes) 4 bytes

-- "then m (unsigned), the index's length"
abbrev pub entries_of : List ℕ → ℕ
entries_of bytes = number_at bytes (4 + 4 * count_of bytes)

-- "then requests": the offset at which they begin
abbrev pub start_of : List ℕ → ℕ
start_of bytes = 8 + 4 * count_of bytes

-- "Where n is above 8,192, m above 256, or the bytes end before the requests begin"
abbrev pub no_take : List ℕ → Bool
no_take bytes = ltb 8192 (count_of bytes) || (ltb 256 (entries_of bytes) || ltb (length bytes) (start_of bytes))

-- "requests of 13 bytes: a kind byte and three numbers a, b, c": 01 "searches from a to b", 02 "is the stretch from a to b", 03 "is a rough reading from a to b with the budget c", 04 "makes
-- index entry a the signed number b". Any other kind byte is unknown. "c is used by 03 alone"
abbrev pub request_of : (kind a b c : ℕ) → Option Request
request_of kind a b c =
    cond (eqb kind 1) (Some (Search a b))
    (cond (eqb kind 2) (Some (Stretch a b))
    (cond (eqb kind 3) (Some (Rough a b c))
    (cond (eqb kind 4) (Some (Set a (signed_of b)))
    None)))

-- the request at an offset. There is none where "fewer than 13 bytes .. are left"
abbrev pub request_at : List ℕ → ℕ → Option Request
request_at bytes at =
    cond (ltb (length bytes) (at + 13)) None
    (request_of (get_or bytes at 0) (number_at bytes (at + 1)) (number_at bytes (at + 5)) (number_at bytes (at + 9)))

-- a request, where there is one, and those behind it; where there is none, "it reads no more"
abbrev pub goes_on : Option Request → (behind : List Request) → List Request
goes_on None behind = []
goes_on (Some r) behind = r ∷ behind

-- the requests from an offset on, `most` of them at most
unfoldable pub requests_from : (most at : ℕ) → List ℕ → List Request
requests_from zero at bytes = []
requests_from (suc most) at bytes = goes_on (request_at bytes at) (requests_from most (at + 13) bytes)

-- all of them: there are no more requests than bytes
abbrev pub requests_behind : ℕ → List ℕ → List Request
requests_behind at bytes = requests_from (length bytes) at bytes

-- THE REQUESTS of an input: none without a take
abbrev pub requests_of : List ℕ → List Request
requests_of bytes = cond (no_take bytes) [] (requests_behind (start_of bytes) bytes)

-- "the offset of the kind byte" that is no request's, or of the bytes' end; and how many bytes are left there
abbrev pub end_of : List ℕ → ℕ
end_of bytes = start_of bytes + 13 * length (requests_of bytes)

abbrev pub left_of : List ℕ → ℕ
left_of bytes = length bytes - end_of bytes
