-- The loop over a list of steps: after k turns the memory, the answers and the buffers are those of the first k steps, and the rest is as it was.
-- Assumes nothing.
use Prim.Native.Nat.{ℕ, ◌+◌, ◌-◌, ◌*◌, ◌≤◌, ◌<◌}
use mathlib.Core.Path.{◌≡◌, refl, sym, ap, ap₂, ◌∙◌}
use mathlib.Core.List.{List, [], ◌∷◌, ◌++◌, append-nil, append_assoc}
use native.Mathlib.Numerals.{add-one}
use native.Mathlib.Omega.{arith}
use lib.ListN.{length, drop}
use borrow.Rule.Slice.PartMut.{mid_of, put_mid, same_len_mid}
use Rattle.regroup.specs.Lists.{run, outs}
use Rattle.dataway.specs.Crate.{FitCrate}
use Rattle.controller.specs.Answers.{answer_words}
use Rattle.controller.specs.Steps.{Order, Out, leaves, gives}
use Rattle.controller.specs.declared.Answer.{Answer}
use Rattle.lists.specs.Words.{reading_of, part, with_part, order_at, orders_of}
use Rattle.lists.specs.Runs.{joined, answer_of, buffer_of, ran_of}
use Rattle.lists.proofs.Parts.{part-lent, part-long, part-back, next-part, part-done}
use Rattle.std.specs.Prelude.{Ok}

-- ---- one more step at a list's end
pub run-snoc : (m : List ℕ) (xs : List Order) (s : Order) → run leaves m (xs ++ (s ∷ [])) ≡ leaves (run leaves m xs) s
run-snoc m [] s = refl
run-snoc m (x ∷ xs) s = run-snoc (leaves m x) xs s

pub outs-snoc : (m : List ℕ) (xs : List Order) (s : Order) → outs leaves gives m (xs ++ (s ∷ [])) ≡ outs leaves gives m xs ++ (gives (run leaves m xs) s ∷ [])
outs-snoc m [] s = refl
outs-snoc m (x ∷ xs) s = ap (λ (l : List Out). gives m x ∷ l) (outs-snoc (leaves m x) xs s)

joined_snoc : (g : Out → List ℕ) (os : List Out) (o : Out) → joined g (os ++ (o ∷ [])) ≡ joined g os ++ g o
unfolding joined
joined_snoc g [] o = append-nil (g o)
joined_snoc g (x ∷ os) o = ap (λ (l : List ℕ). g x ++ l) (joined_snoc g os o) ∙ sym (append_assoc (g x) (joined g os) (g o))

orders-more : (ws bs : List ℕ) (k : ℕ) → orders_of ws bs (k + 1) ≡ orders_of ws bs k ++ (order_at ws k bs k ∷ [])
unfolding orders_of
orders-more ws bs k = rw (add-one k)

-- ---- the loop's invariant
pub record Running (m₀ ws a₀ b₀ m a b : List ℕ) (k : ℕ) : Type 0 where
  pub fit : FitCrate m
  pub along : length a ≡ length a₀
  pub blong : length b ≡ length b₀
  pub memory : m ≡ run leaves m₀ (orders_of ws b₀ k)
  pub answers : a ≡ joined answer_of (outs leaves gives m₀ (orders_of ws b₀ k)) ++ drop (4 * k) a₀
  pub buffers : b ≡ joined buffer_of (outs leaves gives m₀ (orders_of ws b₀ k)) ++ drop (512 * k) b₀

-- before the first step
pub running-start : (m ws a b : List ℕ) → FitCrate m → Running m ws a b m a b 0
unfolding orders_of joined
running-start m ws a b f = record { fit = f; along = refl; blong = refl; memory = refl; answers = refl; buffers = refl }

-- one step more
module _ (m₀ ws a₀ b₀ m a b : List ℕ) (count k : ℕ) (ha : 4 * count ≤ length a₀) (hb : 512 * count ≤ length b₀) (hk : k < count)
    (s : Running m₀ ws a₀ b₀ m a b k) where
  abbrev front : List Out
  front = outs leaves gives m₀ (orders_of ws b₀ k)

  -- the answer's place has four words
  pub answer-place : length (mid_of (4 * k) (4 * k + 4 - 4 * k) a) ≡ 4
  answer-place = ap length (part-lent 4 a k) ∙ part-long 4 a k (omega (arith, s.along))

  pub running_more : (m' : List ℕ) (r : Answer) (b' z : List ℕ)
      → r ≡ (gives m (order_at ws k b k)).answer → m' ≡ leaves m (order_at ws k b k) → b' ≡ with_part 512 b k (gives m (order_at ws k b k)).buffer
      → FitCrate m' → length b' ≡ length b → z ≡ answer_words r → length z ≡ length (mid_of (4 * k) (4 * k + 4 - 4 * k) a)
      → Running m₀ ws a₀ b₀ m' (put_mid (4 * k) (4 * k + 4 - 4 * k) a z) b' (k + 1)
  running_more m' r b' z er em eb fit lb ez lz = record {
    fit = fit;
    along = same_len_mid (4 * k) (4 * k + 4 - 4 * k) a z lz ∙ s.along;
    blong = lb ∙ s.blong;
    memory =
        em
        ∙ ap₂ (λ (x : List ℕ) (o : Order). leaves x o) s.memory here
        ∙ sym (ap (run leaves m₀) (orders-more ws b₀ k) ∙ run-snoc m₀ (orders_of ws b₀ k) (order_at ws k b₀ k));
    answers =
        part-back 4 a k z
        ∙ part-done 4 k a₀ a (joined answer_of front) (omega arith) s.along s.answers z
        ∙ ap₂ (λ (x : List ℕ) (i : ℕ). x ++ drop i a₀)
        (ap (λ (x : List ℕ). joined answer_of front ++ x) (ez ∙ ap answer_words (er ∙ ap (λ (o : Out). o.answer) gave)) ∙ sym (words answer_of))
        four;
    buffers =
        eb
        ∙ part-done 512 k b₀ b (joined buffer_of front) (omega arith) s.blong s.buffers (gives m (order_at ws k b k)).buffer
        ∙ ap₂ (λ (x : List ℕ) (i : ℕ). x ++ drop i b₀) (ap (λ (o : Out). joined buffer_of front ++ o.buffer) gave ∙ sym (words buffer_of)) big;
  }
    where
      -- the step is the list's, with the buffer that the list was lent
      here : order_at ws k b k ≡ order_at ws k b₀ k
      here =
          ap (λ (x : List ℕ). record { reading = reading_of (part 6 ws k); buffer = x })
          (next-part 512 k b₀ b (joined buffer_of front) (omega arith) s.blong s.buffers)

      last : Out
      last = gives (run leaves m₀ (orders_of ws b₀ k)) (order_at ws k b₀ k)

      gave : gives m (order_at ws k b k) ≡ last
      gave = ap₂ (λ (x : List ℕ) (o : Order). gives x o) s.memory here

      words : (g : Out → List ℕ) → joined g (outs leaves gives m₀ (orders_of ws b₀ (k + 1))) ≡ joined g front ++ g last
      words g =
          ap (λ (l : List Order). joined g (outs leaves gives m₀ l)) (orders-more ws b₀ k)
          ∙ ap (joined g) (outs-snoc m₀ (orders_of ws b₀ k) (order_at ws k b₀ k))
          ∙ joined_snoc g front last

      four : 4 * k + 4 ≡ 4 * (k + 1)
      four = omega arith

      big : 512 * k + 512 ≡ 512 * (k + 1)
      big = omega arith

-- after the last step
pub running-done : (m₀ ws a₀ b₀ m a b : List ℕ) (count k : ℕ) → k ≡ count → Running m₀ ws a₀ b₀ m a b k
    → ran_of m₀ count ws a₀ b₀ ≡ record { verdict = Ok tt; memory = m; answers = a; buffers = b }
unfolding ran_of
running-done m₀ ws a₀ b₀ m a b count k e s =
    rw (← e) (λ i. record { verdict = Ok tt; memory = sym s.memory i; answers = sym s.answers i; buffers = sym s.buffers i })
