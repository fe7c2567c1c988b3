-- What reaches one station leaves a fit crate fit: the block's own law, put into the memory. And a block that was lent to the station's own function
-- comes back as the definition at the crate says.
-- Assumes nothing.
use Prim.Native.Nat.{ℕ, ◌+◌, ◌-◌, ◌*◌, ◌≤◌, ◌<◌}
use mathlib.Core.Path.{◌≡◌, sym, ap, ◌∙◌}
use mathlib.Core.List.{List}
use native.Mathlib.Omega.{arith}
use borrow.Rule.Slice.PartMut.{put_mid, mid_of}
use lib.ListN.{length, replicate, set}
use Rattle.blocks.specs.Blocks.{block_of, with_block, inhibit_of}
use Rattle.blocks.proofs.Blocks.{length-block, block_same, part-block, part-back}
use Rattle.acceptance.specs.declared.Span.{Span}
use Rattle.station.specs.Block.{FitBlock}
use Rattle.station.specs.Accepted.{Accepts}
use Rattle.station.specs.Kept.{Kept}
use Rattle.station.specs.declared.Reply.{Reply}
use Rattle.station.specs.Outcome.{Outcome}
use Rattle.station.specs.Command.{command_of}
use Rattle.station.specs.Front.{Event, front_of}
use Rattle.station.specs.Control.{covered_block}
use Rattle.station.proofs.AcceptedLaws.{accepts-same}
use Rattle.station.proofs.CommandLaws.{command-kept}
use Rattle.station.proofs.FrontLaws.{front_kept}
use Rattle.dataway.specs.Crate.{FitCrate}
use Rattle.dataway.specs.Stations.{reply_of, after_command, AcceptsAt, taken_of, after_front}
use Rattle.dataway.proofs.CrateLaws.{fit-with}

module _ (m : List ℕ) (n : ℕ) (h : FitCrate m) (lo : 1 ≤ n) (hi : n ≤ 23) where
  -- the block that a command leaves, and the memory
  pub command-block : (a f w : ℕ) → a ≤ 15 → w ≤ 16777215 → Kept (block_of m n) (command_of (block_of m n) a f w).block
  command-block a f w s l = command-kept (block_of m n) (h.station n lo hi) a (omega arith) f w (omega arith)

  pub command-fit : (a f w : ℕ) → a ≤ 15 → w ≤ 16777215 → FitCrate (after_command m n a f w)
  unfolding after_command
  command-fit a f w s l = fit-with m n (command_of (block_of m n) a f w).block h lo hi (command-block a f w s l)

  -- which keep the subaddresses that the station accepts, for every function
  pub command-accepts : (a f w : ℕ) → a ≤ 15 → w ≤ 16777215 → (g : ℕ) (t : Span) → AcceptsAt m n g t → AcceptsAt (after_command m n a f w) n g t
  unfolding after_command
  command-accepts a f w s l g t e =
      let c = (command_of (block_of m n) a f w).block in
      let k = command-block a f w s l in
      rw (block_same m n c h.size (omega arith) k.fit.long) (accepts-same (block_of m n) c g t k.same e)

  -- the block that a front event leaves, and the memory
  pub front-block : (a v : ℕ) → a ≤ 15 → v ≤ 16777215 → Kept (block_of m n) (front_of (inhibit_of m) (block_of m n) a v).block
  front-block a v s l = front_kept (block_of m n) (h.station n lo hi) v (omega arith) (inhibit_of m) a (omega arith)

  pub front-fit : (a v : ℕ) → a ≤ 15 → v ≤ 16777215 → FitCrate (after_front m n a v)
  unfolding after_front
  front-fit a v s l = fit-with m n (front_of (inhibit_of m) (block_of m n) a v).block h lo hi (front-block a v s l)

-- ---- a block lent
module _ (m : List ℕ) (n from to : ℕ) (start : from ≡ 32 * n) (end : to ≡ 32 * n + 32) where
  abbrev lent : List ℕ
  lent = mid_of from (to - from) m

  abbrev back : List ℕ → List ℕ
  back b = put_mid from (to - from) m b

  -- of a fit crate it is fit
  pub fit_lent : FitCrate m → 1 ≤ n → n ≤ 23 → FitBlock lent
  fit_lent h lo hi = rw (part-block m n from to start end) (h.station n lo hi)

  -- the subaddresses that it accepts are the station's
  pub accepts_lent : (f : ℕ) (t : Span) → AcceptsAt m n f t → Accepts lent f t
  accepts_lent f t q = rw (part-block m n from to start end) q

  pub accepts_at : (f : ℕ) (t : Span) → Accepts lent f t → AcceptsAt m n f t
  accepts_at f t q = rw (part-block m n from to start end) at q

  -- to what makes g of it
  pub block_lent : (g : List ℕ → List ℕ) (b : List ℕ) → b ≡ g lent → back b ≡ with_block m n (g (block_of m n))
  block_lent g b q = part-back m n from to start end b ∙ ap (with_block m n) (q ∙ ap g (part-block m n from to start end))

  -- to what zeroes it, and then says that it is covered
  pub cover_lent : length m ≡ 768 → n < 24 → (b : List ℕ) → b ≡ replicate (length lent) 0 → back (set b 7 1) ≡ with_block m n covered_block
  cover_lent size l b q =
      block_lent (λ (x : List ℕ). set (replicate (length x) 0) 7 1) (set b 7 1) (ap (λ (x : List ℕ). set x 7 1) q)
      ∙ ap (λ (k : ℕ). with_block m n (set (replicate k 0) 7 1)) (length-block m n size l)

  -- to the station's command
  module _ (a f w : ℕ) (b : List ℕ) (r : Reply) (q : command_of lent a f w ≡ record { block = b; reply = r }) where
    of-block : command_of (block_of m n) a f w ≡ record { block = b; reply = r }
    of-block = rw (part-block m n from to start end) at q

    pub command_reply : r ≡ reply_of m n a f w
    unfolding reply_of
    command_reply = sym (ap (λ (o : Outcome). o.reply) of-block)

    pub command_leaves : back b ≡ after_command m n a f w
    unfolding after_command
    command_leaves = part-back m n from to start end b ∙ sym (ap (λ (o : Outcome). with_block m n o.block) of-block)

  -- to the station's front event
  module _ (a v : ℕ) (b : List ℕ) (t : ℕ) (q : front_of (inhibit_of m) lent a v ≡ record { block = b; taken = t }) where
    at-block : front_of (inhibit_of m) (block_of m n) a v ≡ record { block = b; taken = t }
    at-block = rw (part-block m n from to start end) at q

    pub front_taken : t ≡ taken_of m n a v
    unfolding taken_of
    front_taken = sym (ap (λ (o : Event). o.taken) at-block)

    pub front_leaves : back b ≡ after_front m n a v
    unfolding after_front
    front_leaves = part-back m n from to start end b ∙ sym (ap (λ (o : Event). with_block m n o.block) at-block)
