-- The contracts of the private functions.
use Rattle.std.specs.Prelude.{◌≡◌, true, false, List, ℕ, ◌+◌, ◌*◌, ◌<◌, ◌≤◌, length, Option, None, Some, ◌⊎◌}
use Rattle.blocks.specs.Found.{Found}
use Rattle.text.specs.declared.Page.{Page}
use Rattle.text.specs.Pages.{Puts}
use Rattle.numbers.specs.FourBytes.{number_at}
use Rattle.listing.specs.declared.Request.{Request}
use Rattle.listing.specs.declared.Heading.{Heading}
use Rattle.listing.specs.declared.Stored.{Stored}
use Rattle.listing.specs.Input.{count_of, take_of, entries_of, start_of, no_take, requests_behind, requests_of}
use Rattle.listing.specs.Output.{filled_of, built_of, index_after, request_line, request_lines, printed_of}
use Rattle.listing.specs.Choices.{Allowed, AllAllowed}

-- `number_within`: the number at an offset, or one of two reasons why there is none
abbrev pub Within : (bytes : List ℕ) (at most : ℕ) → Option ℕ → Type 0
Within bytes at most (Some n) = (n ≡ number_at bytes at) × (n ≤ most) × (at + 4 ≤ length bytes)
Within bytes at most None = (length bytes < at + 4) ⊎ (most < number_at bytes at)

-- a take, with an index
pub record Headed (bytes : List ℕ) (heading : Heading) : Type 0 where
  pub some : no_take bytes ≡ false
  pub values : heading.values ≡ count_of bytes
  pub entries : heading.entries ≡ entries_of bytes
  pub most : heading.values ≤ 8192
  pub few : heading.entries ≤ 256
  pub within : start_of bytes ≤ length bytes

-- `read_heading`: such a take, or none
abbrev pub Heads : List ℕ → Option Heading → Type 0
Heads bytes (Some heading) = Headed bytes heading
Heads bytes None = no_take bytes ≡ true

-- `perform`: one request over a take and its index as they stand `before`, of which it leaves the index as it is `after`, with the line of the n-th
pub record Performs (before after : Stored) (n : ℕ) (request : Request) (page written : Page) : Type 0 where
  pub found : Found
  pub allowed : Allowed before.take.now before.index.now request found
  pub kept : after.take.now ≡ before.take.now
  pub alters : after.index.now ≡ index_after before.index.now request
  pub prints : Puts page (request_line before.take.now before.index.now n request found) written

-- `follow`: every request from the offset `start` on, in turn, over a take and its index as they stand `before`, with the lines of all
pub record Follows (before : Stored) (bytes : List ℕ) (start : ℕ) (page written : Page) (read : ℕ) : Type 0 where
  pub found : List Found
  pub allowed : AllAllowed before.take.now before.index.now (requests_behind start bytes) found
  pub count : read ≡ length (requests_behind start bytes)
  pub within : start + 13 * read ≤ length bytes
  pub prints : Puts page (request_lines before.take.now before.index.now 1 (requests_behind start bytes) found) written

-- what `run` needs: a take that is the input's, and an index as it is before building
pub record Holds (bytes : List ℕ) (start : ℕ) (stored : Stored) : Type 0 where
  pub some : no_take bytes ≡ false
  pub begins : start ≡ start_of bytes
  pub within : start ≤ length bytes
  pub taken : stored.take.now ≡ take_of bytes
  pub filled : stored.index.now ≡ filled_of bytes
  pub few : length stored.index.now ≤ 256

-- `run`, `load` and `play`: all that is printed of bytes that are all read
pub record Plays (bytes : List ℕ) (page written : Page) : Type 0 where
  pub found : List Found
  pub allowed : AllAllowed (take_of bytes) (built_of bytes) (requests_of bytes) found
  pub prints : Puts page (printed_of found bytes) written
