-- A scan under way: its path, with the words in the first places of the lent buffer. A lemma for each way that a turn of the loops can go.
-- Assumes nothing.
use mathlib.Core.Path.{◌≡◌, sym}
use mathlib.Core.List.{List}
use Prim.Native.Nat.{ℕ, ◌+◌, ◌≤◌, ◌<◌}
use native.Mathlib.Omega.{arith}
use lib.ListN.{length, take, set}
use Rattle.acceptance.specs.declared.Span.{Span}
use Rattle.station.specs.declared.Reply.{Reply}
use Rattle.dataway.specs.Stations.{reply_of, AcceptsAt}
use Rattle.transfer.specs.Cycle.{reads, store}
use Rattle.transfer.specs.Scan.{scan_of}
use Rattle.transfer.proofs.Lent.{Lent, Place, Made, lent-kept, lent-put, still-accepts, put-words, lent-words, Done, finish}
use Rattle.transfer.proofs.Path.{Path, path-over, path-past, path-miss, path-more, path-full}

-- it began at n₀, a₀ with the slices m₀ and buf₀, which are m and buf, with so many words stored
pub record Going (f to limit n₀ a₀ : ℕ) (m₀ buf₀ m buf : List ℕ) (n a words cycles : ℕ) : Type 0 where
  pub lent : Lent m₀ buf₀ m buf words
  pub long : limit ≤ length buf₀
  pub last : to ≤ 23
  pub room : words < limit
  pub path : Path (reads f) to limit (scan_of m₀ n₀ a₀ f to limit) m n a (take words buf) cycles

module _ {f to limit n₀ a₀ : ℕ} {m₀ buf₀ m buf : List ℕ} {n a words cycles : ℕ} (g : Going f to limit n₀ a₀ m₀ buf₀ m buf n a words cycles) where
  counted : length (take words buf) ≡ words
  counted = lent-words g.lent (omega (arith, g.room, g.long))

  -- past A15: A0 of the next station
  pub go-over : 15 < a → Going f to limit n₀ a₀ m₀ buf₀ m buf (n + 1) 0 words cycles
  go-over l = record { lent = g.lent; long = g.long; last = g.last; room = g.room; path = path-over g.path l }

  module _ (low : a ≤ 15) where
    -- past `to`
    pub go-past : to < n → Done (scan_of m₀ n₀ a₀ f to limit) buf₀ (record { end = 2; words = words; cycles = cycles }) m buf
    go-past l = finish g.lent (omega (arith, g.room, g.long)) (path-past g.path low l)

    module _ {reply : Reply} {m' : List ℕ} (onto : n ≤ to) (d : Made m n a f reply m') where
      place : Place n a
      place = record { from = g.path.from; station = omega (arith, g.last); low = low }

      -- the station accepts F where it did
      pub go-accepts : (t : Span) → AcceptsAt m n f t → AcceptsAt m' n f t
      go-accepts = still-accepts f g.lent place d

      put : store (reply_of m n a f 0) (take words buf) ≡ take (words + 1) (set buf words reply.r)
      put = sym (put-words f g.lent place d (omega (arith, g.room, g.long)))

      -- Q = 0: A0 of the next station
      pub go-miss : (reply.q ≡ 1 → ⊥) → Going f to limit n₀ a₀ m₀ buf₀ m' buf (n + 1) 0 words (cycles + 1)
      go-miss q = record {
        lent = lent-kept f g.lent place d;
        long = g.long;
        last = g.last;
        room = g.room;
        path = rw d.memory (path-miss g.path low onto (rw d.answer at q));
      }

      -- Q = 1: the next subaddress
      pub go-more : reply.q ≡ 1 → (words + 1 ≡ limit → ⊥)
          → Going f to limit n₀ a₀ m₀ buf₀ m' (set buf words reply.r) n (a + 1) (words + 1) (cycles + 1)
      go-more q l = record {
        lent = lent-put f g.lent place d;
        long = g.long;
        last = g.last;
        room = omega (arith, g.room);
        path = rw (d.memory, ← put) (path-more g.path low onto (rw d.answer at q) (λ x. l (omega (arith, counted))));
      }

      -- Q = 1, and the limit is reached
      pub go-full : reply.q ≡ 1 → words + 1 ≡ limit
          → Done (scan_of m₀ n₀ a₀ f to limit) buf₀ (record { end = 1; words = words + 1; cycles = cycles + 1 }) m' (set buf words reply.r)
      go-full q l =
          finish (lent-put f g.lent place d) (omega (arith, g.long))
          (rw (d.memory, ← put) (path-full g.path low onto (rw d.answer at q) (omega (arith, counted))))
