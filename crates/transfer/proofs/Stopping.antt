-- A Stop under way: from where it stands now it comes to what it is to come to, with the words in the first places of the lent buffer; every cycle so far
-- stored one. A lemma for each way that a turn of its loop can go.
-- Assumes nothing.
use mathlib.Core.Path.{◌≡◌, sym, ap, subst, ◌∙◌}
use mathlib.Core.List.{List}
use Prim.Native.Nat.{ℕ, suc, ◌+◌, ◌-◌, ◌≤◌, ◌<◌}
use native.Mathlib.Omega.{arith}
use lib.ListN.{take, set}
use Rattle.acceptance.specs.declared.Span.{Span}
use Rattle.station.specs.declared.Reply.{Reply}
use Rattle.transfer.specs.Cycle.{reads}
use Rattle.transfer.specs.Stop.{stop_from, stop_of}
use Rattle.transfer.proofs.StopLaws.{stop-full, stop-fault, stop-miss, stop-more}
use Rattle.transfer.proofs.Lent.{Staying, Made, stay-kept, stay-put, stay-words, Done, finish}

pub record Stopping (n a f limit : ℕ) (t : Span) (m₀ buf₀ m buf : List ℕ) (words : ℕ) : Type 0 where
  pub at : Staying n a f limit t m₀ buf₀ m buf words
  pub left : words ≤ limit
  pub rest : stop_from (limit - words) (reads f) n a m (take words buf) words ≡ stop_of m₀ n a f limit

module _ {n a f limit : ℕ} {t : Span} {m₀ buf₀ m buf : List ℕ} {words : ℕ} (g : Stopping n a f limit t m₀ buf₀ m buf words) where
  from : {k : ℕ} → limit - words ≡ k → stop_of m₀ n a f limit ≡ stop_from k (reads f) n a m (take words buf) words
  from p = sym g.rest ∙ ap (λ (k : ℕ). stop_from k (reads f) n a m (take words buf) words) p

  -- every word is stored
  pub stopping-full : limit ≤ words → Done (stop_of m₀ n a f limit) buf₀ (record { end = 1; words = limit; cycles = limit }) m buf
  stopping-full l =
      let e : words ≡ limit = omega (arith, g.left) in
      subst (λ (k : ℕ). Done (stop_of m₀ n a f limit) buf₀ (record { end = 1; words = k; cycles = k }) m buf) e
      (finish g.at.lent (omega (arith, g.at.room)) (from (omega arith) ∙ stop-full (reads f) n a m (take words buf) words))

  module _ {m' : List ℕ} {reply : Reply} (d : Made m n a f reply m') (more : words < limit) where
    less : limit - words ≡ suc (limit - (words + 1))
    less = omega arith

    -- X = 0
    pub stopping-fault : (reply.x ≡ 1 → ⊥) → Done (stop_of m₀ n a f limit) buf₀ (record { end = 3; words = words; cycles = words + 1 }) m' buf
    stopping-fault x =
        finish (stay-kept g.at d).lent (omega (arith, g.at.room))
        (rw d.memory (from less ∙ stop-fault (reads f) n a m (take words buf) words _ (rw d.answer at x)))

    -- X = 1 and Q = 0
    pub stopping-miss : reply.x ≡ 1 → (reply.q ≡ 1 → ⊥)
        → Done (stop_of m₀ n a f limit) buf₀ (record { end = 2; words = words; cycles = words + 1 }) m' buf
    stopping-miss x q =
        finish (stay-kept g.at d).lent (omega (arith, g.at.room))
        (rw d.memory (from less ∙ stop-miss (reads f) n a m (take words buf) words _ (rw d.answer at x) (rw d.answer at q)))

    -- X = 1 and Q = 1
    pub stopping-hit : reply.x ≡ 1 → reply.q ≡ 1 → Stopping n a f limit t m₀ buf₀ m' (set buf words reply.r) (words + 1)
    stopping-hit x q = record {
      at = stay-put g.at d;
      left = omega arith;
      rest = rw (d.memory, stay-words g.at d more)
          (sym (from less ∙ stop-more (reads f) n a m (take words buf) words (limit - (words + 1)) (rw d.answer at x) (rw d.answer at q)));
    }
