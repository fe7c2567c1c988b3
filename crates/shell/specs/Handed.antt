-- What can be said of work that reads files and writes a sheet. Which bytes a read gives, and what becomes of those that are handed out, is the
-- system's: what is said is that there are such bytes, and that they make this sheet.
use Rattle.std.specs.Prelude.{◌≡◌, List, [], ◌++◌, ℕ, ◌*◌, ◌≤◌, length, take}
use Rattle.lines.specs.Lines.{cut}
use Rattle.lines.specs.Cutting.{Cutting, fresh, feed, closed}
use Rattle.sheet.specs.Sheet.{sheet_of}
use Rattle.reader.specs.Reading.{State, rehearsing, under, Took}
use Rattle.listfile.specs.ListWords.{file_words}
use Rattle.listfile.specs.Listing.{storing}

-- the bytes `read` of a file lead from state a to state b
pub record Reached (a b : State) : Type 0 where
  pub read : List ℕ
  pub took : Took a read b

-- a file whose bytes are `read` leads from state a to state b, where `sent` was handed out on the way
pub record Closed (a b : State) : Type 0 where
  pub read : List ℕ
  pub sent : List ℕ
  pub same : closed rehearsing (feed rehearsing a read) ≡ under sent b

-- what was handed out before, and then `last`, is the sheet of the two files that were read
pub record Handed (last : List ℕ) : Type 0 where
  pub crate_file : List ℕ
  pub run_file : List ℕ
  pub sent : List ℕ
  pub same : sent ++ last ≡ sheet_of crate_file run_file

-- ---- a run file read to a list
-- the bytes `read` of a file, none of whose lines is past the last that is read, lead to state b
pub record Listed (b : Cutting (List ℕ)) : Type 0 where
  pub read : List ℕ
  pub whole : length (cut [] read) ≤ 99999
  pub same : b ≡ feed storing (fresh []) read

-- the first words are those of the run file that was read, all of whose lines they hold
pub record Stored (many : ℕ) (words : List ℕ) : Type 0 where
  pub file : List ℕ
  pub few : many ≤ 99999
  pub lines : many ≡ length (cut [] file)
  pub same : take (6 * many) words ≡ file_words file
