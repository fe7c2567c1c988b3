-- A file read byte by byte: what each byte does to the state, over what is done with a line. Nobody has to believe this file: `file-law` of proofs/Whole says
-- that a file read so, in parts of any length, comes to what its lines come to.
use Rattle.std.specs.Prelude.{ℕ, ◌+◌, Bool, cond, ◌&&◌, List, [], ◌∷◌, ◌++◌, ltb, eqb, length}

-- what a reader does: whether it still takes lines, and what the line of a number leaves of what the reader held
pub record Does (S : Type 0) : Type 0 where
  pub more : S → Bool
  pub line : (number : ℕ) → List ℕ → S → S

-- part: the first 81 bytes of the line that is being read; number: how many lines of the file were read; held: what the reader holds
pub record Cutting (S : Type 0) : Type 0 where
  pub part : List ℕ
  pub number : ℕ
  pub held : S

-- before the file
abbrev pub fresh : {S : Type 0} → S → Cutting S
fresh h = record { part = []; number = 0; held = h }

-- a line may still be read
abbrev pub opened : {S : Type 0} → Does S → Cutting S → Bool
opened d s = ltb s.number 99999 && d.more s.held

-- the line ends
unfoldable pub ended : {S : Type 0} → Does S → Cutting S → Cutting S
ended d s = record { part = []; number = s.number + 1; held = d.line (s.number + 1) s.part s.held }

-- a byte of a line. Of a longer line the first 81 bytes are kept, by which it is garbled
unfoldable pub kept : {S : Type 0} → Cutting S → ℕ → Cutting S
kept s b = record { part = cond (ltb (length s.part) 81) (s.part ++ (b ∷ [])) s.part; number = s.number; held = s.held }

-- one byte of a file; LF ends a line
unfoldable pub step : {S : Type 0} → Does S → Cutting S → ℕ → Cutting S
step d s b = cond (opened d s) (cond (eqb b 10) (ended d s) (kept s b)) s

-- bytes of a file
abbrev pub feed : {S : Type 0} → Does S → Cutting S → List ℕ → Cutting S
feed d s [] = s
feed d s (b ∷ t) = feed d (step d s b) t

-- the end of a file ends a line that has bytes
unfoldable pub closed : {S : Type 0} → Does S → Cutting S → Cutting S
closed d s = cond (opened d s && ltb 0 (length s.part)) (ended d s) s

-- ---- the same in whole lines: what they come to, one after the other, where k were read before
abbrev pub after_lines : {S : Type 0} → Does S → (k : ℕ) → S → List (List ℕ) → S
after_lines d k h [] = h
after_lines d k h (l ∷ ls) = cond (d.more h) (after_lines d (k + 1) (d.line (k + 1) l h) ls) h

-- ---- a file in parts
abbrev pub feed_parts : {S : Type 0} → Does S → Cutting S → List (List ℕ) → Cutting S
feed_parts d s [] = s
feed_parts d s (c ∷ cs) = feed_parts d (feed d s c) cs

abbrev pub join : List (List ℕ) → List ℕ
join [] = []
join (c ∷ cs) = c ++ join cs
