-- `lookup`, a program for document 02, points 3 and 6. It reads at most the first 65,536 bytes of standard input, all numbers four bytes, least significant first: n (unsigned), then n values
-- (two's complement), then m (unsigned), the index's length, then requests of 13 bytes: a kind byte and three numbers a, b, c. Where n is above 8,192, m above 256, or the bytes end before the
-- requests begin, it prints `no take` alone. It fills the index's m entries with −1, builds, and prints a line `build` with the reply and a line `index` with all m entries as they then are
-- (the word alone where m is 0). Request 01 searches from a to b: its running number from 1, `search`, the reply, and on 0 the value and place. Request 02 is the stretch from a to b: number,
-- `stretch`, its length, and its first and last value where it has any. Request 03 is a rough reading from a to b with the budget c: number, `rough`, the reply, the looks used, the high
-- figure or `-`, the low figure or `-` (so a refusal reads `15 0 - -`). Request 04 makes index entry a the signed number b, where there is one, and prints number and `set` in either case.
-- c is used by 03 alone. An unknown kind byte, or fewer than 13 bytes that are left, gives `stop` and the offset of the kind byte, after which it reads no more; finally `end` and the number
-- of requests before that. A take without requests is fine.
--
-- This is its whole output, as a function of its bytes and of what each search finds. What a search may find is said in Choices: where the index is the take's there is no choice. What a rough
-- reading tells is a function of the take, the index as it then is, and the request.
-- `listing::write` leaves the output in an array; the program's `main` reads the bytes before and writes the array after.
use Rattle.std.specs.Prelude.{cond, List, [], ◌∷◌, ◌++◌, ℕ, ◌+◌, ℤ, negsuc, length, take, set, replicate}
use Rattle.history.specs.Replies.{numbered}
use Rattle.blocks.specs.Found.{Found}
use Rattle.blocks.specs.Takes.{built, stretch_of, search_refusal, build_refusal, answering}
use Rattle.rough.specs.Looks.{rough_reading}
use Rattle.text.specs.Stops.{stop_lines}
use Rattle.listing.specs.declared.Request.{Request}
use Rattle.listing.specs.declared.Request.TheVariants.{Search, Stretch, Rough, Set}
use Rattle.listing.specs.Lines.{no_take_line, build_line, index_line, search_line, stretch_line, rough_line, set_line, end_line}
use Rattle.listing.specs.Input.{take_of, entries_of, no_take, requests_of, end_of, left_of}

-- "It fills the index's m entries with −1": −1 is `negsuc 0`
abbrev pub filled_of : List ℕ → List ℤ
filled_of bytes = replicate (entries_of bytes) (negsuc 0)

-- "builds": the index is then the take's; where building is refused, it is as it was
abbrev pub built_of : List ℕ → List ℤ
built_of bytes = built (take_of bytes) (filled_of bytes)

-- "Request 04 makes index entry a the signed number b, where there is one": the index after a request, which no other kind alters. `set` past the end of a list sets nothing
abbrev pub index_after : List ℤ → Request → List ℤ
index_after index (Search i j) = index
index_after index (Stretch i j) = index
index_after index (Rough i j budget) = index
index_after index (Set a v) = set index a v

-- the line of the n-th request, over a take and the index as it then is. A search that is not refused shows f
abbrev pub request_line : (values index : List ℤ) → ℕ → Request → (f : Found) → List ℕ
request_line values index n (Search i j) f = search_line n (answering (search_refusal (length values) (length index) i j) f)
request_line values index n (Stretch i j) f = stretch_line n (stretch_of values i j)
request_line values index n (Rough i j budget) f = rough_line n (rough_reading values index i j budget)
request_line values index n (Set a v) f = set_line n

-- "its running number", here from n on: a line for each request, over the index as the requests before it leave it, with what stands for it in a list of what is found
abbrev pub request_lines : (values index : List ℤ) → ℕ → List Request → (found : List Found) → List ℕ
request_lines values index n [] found = []
request_lines values index n (r ∷ rs) [] = []
request_lines values index n (r ∷ rs) (f ∷ fs) = request_line values index n r f ++ request_lines values (index_after index r) (n + 1) rs fs

-- what is printed of an input with a take: "a line `build` .. and a line `index` .. as they then are", a line for each request, `stop`, and "finally `end` and the number of requests"
abbrev pub printed : (found : List Found) → List ℕ → List ℕ
printed found bytes =
    build_line (numbered (build_refusal (length (take_of bytes)) (length (filled_of bytes))))
    ++ (index_line (built_of bytes)
    ++ (request_lines (take_of bytes) (built_of bytes) 1 (requests_of bytes) found
    ++ (stop_lines (left_of bytes) (end_of bytes) ++ end_line (length (requests_of bytes)))))

-- "Where n is above 8,192, .. it prints `no take` alone."
abbrev pub printed_of : (found : List Found) → List ℕ → List ℕ
printed_of found bytes = cond (no_take bytes) no_take_line (printed found bytes)

-- "It reads at most the first 65,536 bytes of standard input"
abbrev pub read_of : List ℕ → List ℕ
read_of bytes = take 65536 bytes

-- THE WHOLE OUTPUT, where each search finds what stands for it in the list
abbrev pub output_of : (found : List Found) → List ℕ → List ℕ
output_of found bytes = printed_of found (read_of bytes)
