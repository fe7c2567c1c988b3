-- The orders of a lent list and the words that running them leaves: each order gives four words of answer and as many of buffer as it was lent, so a step's
-- words are a part of all.
-- Assumes nothing.
use Prim.Native.Nat.{ℕ, zero, suc, ◌+◌, ◌*◌, ◌≤◌, ◌<◌}
use mathlib.Core.Path.{◌≡◌, refl, sym, ap, ◌∙◌}
use mathlib.Core.Logic.{◌⊎◌, inl, inr}
use mathlib.Core.List.{List, [], ◌∷◌, ◌++◌, append_assoc}
use native.Mathlib.Nat.{not-suc-le-zero, le_of_suc-le-suc, eq-or-lt_of_le, mul-suc, mul-zero}
use native.Mathlib.Omega.{arith}
use lib.ListN.{length, get_or, take, drop, length-append, get_or-append}
use lib.Seq.{get_or_at, take_at, drop-append-add}
use Rattle.regroup.specs.Lists.{outs}
use Rattle.controller.specs.Answers.{answer_words}
use Rattle.controller.specs.Steps.{Order, Out, leaves, gives}
use Rattle.controller.specs.Regrouping.{beyond}
use Rattle.controller.specs.declared.Answer.{Answer}
use Rattle.controller.specs.declared.Answer.TheVariants.{Replied, Taken, Done, Looked, Transferred, Wrote, Listed, Refused}
use Rattle.controller.proofs.Sentences.{step-long}
use Rattle.lists.specs.Words.{part, order_at, orders_of}
use Rattle.lists.specs.Runs.{joined, answer_of, buffer_of}
use Rattle.lists.proofs.Parts.{part-long}

-- ---- a step's words among those of its list
-- each has w words
abbrev pub Long : (Out → List ℕ) → ℕ → List Out → Type 0
Long g w [] = Unit {0}
Long g w (o ∷ os) = (length (g o) ≡ w) × Long g w os

-- part k of the words of all is those of step k, whatever follows
pub part_of : (g : Out → List ℕ) (w : ℕ) (os : List Out) (t : List ℕ) (k : ℕ) (d : Out) → Long g w os → k < length os
    → part w (joined g os ++ t) k ≡ g (get_or os k d)
unfolding joined
part_of g w [] t k d l h = absurd (not-suc-le-zero h)
part_of g w (o ∷ os) t zero d l h =
    ap (λ (x : List ℕ). take w (drop (w * 0) x)) (append_assoc (g o) (joined g os) t)
    ∙ ap (λ (i : ℕ). take w (drop i (g o ++ (joined g os ++ t)))) (mul-zero w)
    ∙ take_at (g o) (joined g os ++ t) w l.0
part_of g w (o ∷ os) t (suc k) d l h =
    let e : w * suc k ≡ length (g o) + w * k = omega (arith, mul-suc w k, l.0) in
    ap (λ (x : List ℕ). take w (drop (w * suc k) x)) (append_assoc (g o) (joined g os) t)
    ∙ ap (λ (i : ℕ). take w (drop i (g o ++ (joined g os ++ t)))) e
    ∙ ap (take w) (drop-append-add (g o) (joined g os ++ t) (w * k))
    ∙ part_of g w os t k d l.1 (le_of_suc-le-suc h)

-- ---- an answer has four words
pub answer-long : (a : Answer) → length (answer_words a) ≡ 4
answer-long (Replied r) = refl
answer-long (Taken t) = refl
answer-long Done = refl
answer-long (Looked r) = refl
answer-long (Transferred r) = refl
answer-long (Wrote r) = refl
answer-long (Listed count) = refl
answer-long (Refused q) = refl

pub answers-long : (os : List Out) → Long answer_of 4 os
answers-long [] = tt
answers-long (o ∷ os) = (answer-long o.answer, answers-long os)

-- ---- a buffer keeps its 512
abbrev pub LongOrders : List Order → Type 0
LongOrders [] = Unit {0}
LongOrders (x ∷ xs) = (length x.buffer ≡ 512) × LongOrders xs

pub buffers-long : (m : List ℕ) (xs : List Order) → LongOrders xs → Long buffer_of 512 (outs leaves gives m xs)
buffers-long m [] h = tt
buffers-long m (x ∷ xs) h = (step-long m x ∙ h.0, buffers-long (leaves m x) xs h.1)

snoc-long : (xs : List Order) (x : Order) → LongOrders xs → length x.buffer ≡ 512 → LongOrders (xs ++ (x ∷ []))
snoc-long [] x h l = (l, tt)
snoc-long (y ∷ xs) x h l = (h.0, snoc-long xs x h.1 l)

-- the first k orders of a list, where 512 words are lent for each
pub orders-long : (ws bs : List ℕ) (count k : ℕ) → 512 * count ≤ length bs → k ≤ count → LongOrders (orders_of ws bs k)
unfolding orders_of
orders-long ws bs count zero l h = tt
orders-long ws bs count (suc k) l h =
    snoc-long (orders_of ws bs k) (order_at ws k bs k) (orders-long ws bs count k l (omega arith))
    (part-long 512 bs k (omega arith))

-- they are k
pub orders-length : (ws bs : List ℕ) (k : ℕ) → length (orders_of ws bs k) ≡ k
unfolding orders_of
orders-length ws bs zero = refl
orders-length ws bs (suc k) = length-append (orders_of ws bs k) (order_at ws k bs k ∷ []) ∙ omega (arith, orders-length ws bs k)

-- order i is step i with its own buffer
pub order-at : (ws bs : List ℕ) (k i : ℕ) → i < k → get_or (orders_of ws bs k) i beyond ≡ order_at ws i bs i
unfolding orders_of
order-at ws bs zero i h = absurd (not-suc-le-zero h)
order-at ws bs (suc k) i h = go (eq-or-lt_of_le (le_of_suc-le-suc h)) (λ l. order-at ws bs k i l)
  where
    go : (i ≡ k) ⊎ (i < k) → (i < k → get_or (orders_of ws bs k) i beyond ≡ order_at ws i bs i)
        → get_or (orders_of ws bs k ++ (order_at ws k bs k ∷ [])) i beyond ≡ order_at ws i bs i
    go (inl e) ih = get_or_at (orders_of ws bs k) (order_at ws k bs k) [] beyond i (orders-length ws bs k ∙ sym e) ∙ ap (λ (j : ℕ). order_at ws j bs j) (sym e)
    go (inr l) ih = get_or-append (orders_of ws bs k) (order_at ws k bs k ∷ []) beyond i (omega (arith, orders-length ws bs k)) ∙ ih l
