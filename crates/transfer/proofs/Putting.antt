-- A put under way: its path, with a zero for each word used up, since F16 reads nothing. A lemma for each way that a turn of the loops can go.
-- Assumes nothing.
use mathlib.Core.Path.{◌≡◌, refl}
use mathlib.Core.Bool.{Bool, true, false, ◌&&◌}
use mathlib.Core.List.{List, [], ◌∷◌}
use Prim.Native.Nat.{ℕ, zero, suc, ◌+◌, ◌≤◌, ◌<◌}
use native.Mathlib.Omega.{arith}
use lib.Dec.{ltb}
use lib.ListN.{length, get_or, replicate, length-replicate, replicate-append-replicate}
use Rattle.blocks.specs.Blocks.{block_of}
use Rattle.kinds.specs.Cases.{is_one_of}
use Rattle.station.specs.Block.{kind_of, count_of, with_register}
use Rattle.station.specs.Outcome.{accept, done}
use Rattle.station.specs.Group1.{overwrite_of}
use Rattle.station.specs.Command.{command_of, functions_of}
use Rattle.station.specs.declared.Reply.{Reply}
use Rattle.dataway.specs.Crate.{FitCrate}
use Rattle.dataway.specs.Stations.{reply_of, after_command}
use Rattle.dataway.proofs.StationLaws.{command-fit}
use Rattle.transfer.specs.declared.Transfer.{Transfer}
use Rattle.transfer.specs.Cycle.{Ended, transfer_of, store}
use Rattle.transfer.specs.Put.{writes, put_of}
use Rattle.transfer.proofs.Path.{Path, path-over, path-past, path-miss, path-more, path-full}

-- F16 reads nothing
write-zero : (m : List ℕ) (n a w : ℕ) → (reply_of m n a 16 w).r ≡ 0
unfolding reply_of command_of functions_of overwrite_of
write-zero m n a w = go (is_one_of (kind_of (block_of m n)) (2 ∷ 5 ∷ []) && ltb a (count_of (block_of m n)))
  where
    go : (t : Bool) → (accept t (block_of m n) (done (with_register (block_of m n) a w))).reply.r ≡ 0
    go true = refl
    go false = refl

abbrev pub zeroes : ℕ → List ℕ
zeroes k = replicate k 0

-- every word offered has 24 bits
abbrev pub Narrow : List ℕ → Type 0
Narrow offered = (k : ℕ) → get_or offered k 0 ≤ 16777215

-- it began at n₀, a₀ of the memory m₀, which is m, with so many words used up
pub record Putting (offered : List ℕ) (to n₀ a₀ : ℕ) (m₀ m : List ℕ) (n a words cycles : ℕ) : Type 0 where
  pub fit : FitCrate m
  pub narrow : Narrow offered
  pub last : to ≤ 23
  pub room : words < length offered
  pub path : Path (writes offered) to (length offered) (put_of m₀ n₀ a₀ to (length offered) offered) m n a (zeroes words) cycles

-- a command F16 with the word w was made on m: its reply, and the memory after it
abbrev pub Wrote : (m : List ℕ) (n a w : ℕ) (reply : Reply) (m' : List ℕ) → Type 0
Wrote m n a w reply m' = record { answer : reply ≡ reply_of m n a 16 w; memory : m' ≡ after_command m n a 16 w }

-- the promises of a put's contract, about what it comes to
abbrev pub Used : Ended → Transfer → List ℕ → Type 0
Used e answer m = record { answer : answer ≡ transfer_of e; memory : m ≡ e.memory }

module _ {offered : List ℕ} {to n₀ a₀ : ℕ} {m₀ m : List ℕ} {n a words cycles : ℕ} (g : Putting offered to n₀ a₀ m₀ m n a words cycles) where
  counted : length (zeroes words) ≡ words
  counted = length-replicate {A = ℕ} words 0

  -- past A15: A0 of the next station
  pub put-over : 15 < a → Putting offered to n₀ a₀ m₀ m (n + 1) 0 words cycles
  put-over l = record { fit = g.fit; narrow = g.narrow; last = g.last; room = g.room; path = path-over g.path l }

  module _ (low : a ≤ 15) where
    -- past `to`
    pub put-past : to < n → Used (put_of m₀ n₀ a₀ to (length offered) offered) (record { end = 2; words = words; cycles = cycles }) m
    put-past l = rw (path-past g.path low l, counted) (record { answer = refl; memory = refl })

    module _ {reply : Reply} {m' : List ℕ} (onto : n ≤ to) (d : Wrote m n a (get_or offered words 0) reply m') where
      memory : m' ≡ (writes offered m n a (length (zeroes words))).memory
      memory = rw counted d.memory

      answer : reply ≡ (writes offered m n a (length (zeroes words))).reply
      answer = rw counted d.answer

      zeros : store (writes offered m n a (length (zeroes words))).reply (zeroes words) ≡ zeroes (words + 1)
      zeros = rw (write-zero m n a (get_or offered (length (zeroes words)) 0)) (replicate-append-replicate words 1 0)

      fit : FitCrate m'
      fit = rw d.memory (command-fit m n g.fit g.path.from (omega (arith, g.last)) a 16 (get_or offered words 0) low (g.narrow words))

      -- Q = 0: A0 of the next station, with the same word
      pub put-miss : (reply.q ≡ 1 → ⊥) → Putting offered to n₀ a₀ m₀ m' (n + 1) 0 words (cycles + 1)
      put-miss q =
          record { fit = fit; narrow = g.narrow; last = g.last; room = g.room; path = rw memory (path-miss g.path low onto (rw answer at q)) }

      -- Q = 1: the next subaddress, with the next word
      pub put-more : reply.q ≡ 1 → (words + 1 ≡ length offered → ⊥) → Putting offered to n₀ a₀ m₀ m' n (a + 1) (words + 1) (cycles + 1)
      put-more q l = record {
        fit = fit;
        narrow = g.narrow;
        last = g.last;
        room = omega (arith, g.room);
        path = rw (memory, ← zeros) (path-more g.path low onto (rw answer at q) (λ x. l (omega (arith, counted))));
      }

      -- Q = 1, and every word offered is used up
      pub put_full : reply.q ≡ 1 → words + 1 ≡ length offered
          → Used (put_of m₀ n₀ a₀ to (length offered) offered) (record { end = 1; words = words + 1; cycles = cycles + 1 }) m'
      put_full q l =
          rw (path-full g.path low onto (rw answer at q) (omega (arith, counted)), zeros, length-replicate {A = ℕ} (words + 1) 0)
          (record { answer = refl; memory = memory })

-- ---- one word for all

pub same-narrow : (k w : ℕ) → w ≤ 16777215 → Narrow (replicate k w)
same-narrow zero w h i = omega arith
same-narrow (suc k) w h zero = h
same-narrow (suc k) w h (suc i) = same-narrow k w h i
