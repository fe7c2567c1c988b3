-- A Repeat under way: from where it stands now it comes to what it is to come to, with the words in the first places of the lent buffer. A lemma for each way
-- that a turn of its loop can go.
-- Assumes nothing.
use mathlib.Core.Path.{◌≡◌, sym, ap, subst, ◌∙◌}
use mathlib.Core.List.{List}
use Prim.Native.Nat.{ℕ, ◌+◌, ◌-◌, ◌≤◌, ◌<◌}
use native.Mathlib.Omega.{arith}
use lib.ListN.{length, take, set}
use Rattle.acceptance.specs.declared.Span.{Span}
use Rattle.station.specs.declared.Reply.{Reply}
use Rattle.dataway.specs.Stations.{reply_of}
use Rattle.transfer.specs.Cycle.{reads, keep}
use Rattle.transfer.specs.Repeat.{repeat_from, repeat_of}
use Rattle.transfer.proofs.RepeatLaws.{keep-hit, keep-miss, repeat-full, repeat-over, repeat-fault, repeat-more}
use Rattle.transfer.proofs.Lent.{Staying, Made, stay-kept, stay-put, stay-words, lent-words, Done, finish}

-- with so many cycles made
pub record Repeating (n a f limit tries : ℕ) (t : Span) (m₀ buf₀ m buf : List ℕ) (words cycles : ℕ) : Type 0 where
  pub at : Staying n a f limit t m₀ buf₀ m buf words
  pub room : words < limit
  pub left : cycles ≤ tries
  pub rest : repeat_from (tries - cycles) (reads f) n a limit m (take words buf) cycles ≡ repeat_of m₀ n a f limit tries

module _ {n a f limit tries : ℕ} {t : Span} {m₀ buf₀ m buf : List ℕ} {words cycles : ℕ}
    (g : Repeating n a f limit tries t m₀ buf₀ m buf words cycles) where
  below : length (take words buf) < limit
  below = omega (arith, lent-words g.at.lent (omega (arith, g.room, g.at.room)), g.room)

  from : {k : ℕ} → tries - cycles ≡ k → repeat_of m₀ n a f limit tries ≡ repeat_from k (reads f) n a limit m (take words buf) cycles
  from p = sym g.rest ∙ ap (λ (k : ℕ). repeat_from k (reads f) n a limit m (take words buf) cycles) p

  -- no try is left
  pub repeating-over : tries ≤ cycles → Done (repeat_of m₀ n a f limit tries) buf₀ (record { end = 2; words = words; cycles = tries }) m buf
  repeating-over l =
      let e : cycles ≡ tries = omega (arith, g.left) in
      subst (λ (k : ℕ). Done (repeat_of m₀ n a f limit tries) buf₀ (record { end = 2; words = words; cycles = k }) m buf) e
      (finish g.at.lent (omega (arith, g.room, g.at.room)) (from (omega arith) ∙ repeat-over (reads f) n a limit m (take words buf) cycles below))

  module _ {m' : List ℕ} {reply : Reply} (d : Made m n a f reply m') (more : cycles < tries) where
    -- X = 0
    pub repeating-fault : (reply.x ≡ 1 → ⊥) → Done (repeat_of m₀ n a f limit tries) buf₀ (record { end = 3; words = words; cycles = cycles + 1 }) m' buf
    repeating-fault x =
        finish (stay-kept g.at d).lent (omega (arith, g.room, g.at.room))
        (rw d.memory
        (from (omega arith) ∙ repeat-fault (reads f) n a limit m (take words buf) cycles (tries - (cycles + 1)) below (rw d.answer at x)))

    -- X = 1
    next : reply.x ≡ 1
        → repeat_of m₀ n a f limit tries ≡ repeat_from (tries - (cycles + 1)) (reads f) n a limit m' (keep (reply_of m n a f 0) (take words buf)) (cycles + 1)
    next x =
        rw d.memory
        (from (omega arith) ∙ repeat-more (reads f) n a limit m (take words buf) cycles (tries - (cycles + 1)) below (rw d.answer at x))

    put : reply.q ≡ 1 → keep (reply_of m n a f 0) (take words buf) ≡ take (words + 1) (set buf words reply.r)
    put q = keep-hit (reply_of m n a f 0) (take words buf) (rw d.answer at q) ∙ sym (stay-words g.at d g.room)

    -- X = 1 and Q = 0
    pub repeating-miss : reply.x ≡ 1 → (reply.q ≡ 1 → ⊥) → Repeating n a f limit tries t m₀ buf₀ m' buf words (cycles + 1)
    repeating-miss x q = record {
      at = stay-kept g.at d;
      room = g.room;
      left = omega arith;
      rest = rw (← keep-miss (reply_of m n a f 0) (take words buf) (rw d.answer at q)) (sym (next x));
    }

    -- X = 1 and Q = 1, and there is room for more
    pub repeating-hit : reply.x ≡ 1 → reply.q ≡ 1 → (words + 1 ≡ limit → ⊥)
        → Repeating n a f limit tries t m₀ buf₀ m' (set buf words reply.r) (words + 1) (cycles + 1)
    repeating-hit x q l = record {
      at = stay-put g.at d;
      room = omega (arith, g.room);
      left = omega arith;
      rest = rw (← put q) (sym (next x));
    }

    -- X = 1 and Q = 1, and the limit is reached
    pub repeating-full : reply.x ≡ 1 → reply.q ≡ 1 → words + 1 ≡ limit
        → Done (repeat_of m₀ n a f limit tries) buf₀ (record { end = 1; words = words + 1; cycles = cycles + 1 }) m' (set buf words reply.r)
    repeating-full x q l =
        let lent = (stay-put g.at d).lent in
        finish lent (omega (arith, g.at.room))
        (rw (put q) at next x
        ∙ repeat-full (reads f) n a limit m' _ (cycles + 1) (tries - (cycles + 1)) (omega (arith, lent-words lent (omega (arith, g.at.room)))))
