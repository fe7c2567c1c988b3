-- Text that was put into a buffer: all of the buffer after it, and the next free place.
use Rattle.std.specs.Prelude.{ℕ, ◌+◌, ◌≡◌, List, ◌++◌, length, take, drop}

-- `before` with `text` in the place of the bytes from `at` on, and all other bytes as they were
unfoldable pub pasted : List ℕ → ℕ → List ℕ → List ℕ
pasted before at text = take at before ++ text ++ drop (at + length text) before

-- what is left once `text` was put at `at`: the buffer `after`, and the place `next` that follows the text
pub record Put (before : List ℕ) (at : ℕ) (text after : List ℕ) (next : ℕ) : Type 0 where
  pub buffer : after ≡ pasted before at text
  pub place : next ≡ at + length text

-- the same behind a gap of so many bytes, whatever these hold then
pub record Behind (before : List ℕ) (at gap : ℕ) (text after : List ℕ) (next : ℕ) : Type 0 where
  pub free : List ℕ
  pub width : length free ≡ gap
  pub put : Put before at (free ++ text) after next
