-- A memory of 768 words is its 24 blocks, and a block can be taken out, changed and put back without a change to the others. Every law is shown word
-- by word: word i of the memory is word i % 32 of block i / 32.
-- Assumes nothing.
use mathlib.Core.Path.{◌≡◌, sym, ap, ◌∙◌}
use mathlib.Core.List.{List, ◌++◌, append_assoc}
use Prim.Native.Nat.{ℕ, ◌+◌, ◌*◌, ◌/◌, ◌%◌, ◌-◌, ◌<◌}
use native.Mathlib.Omega.{arith}
use native.Mathlib.Nat.{add-sub_cancel_left}
use native.Mathlib.Decide.{dec_lt, ℕ_discrete}
use borrow.Rule.Slice.PartMut.{put_mid, mid_of}
use lib.ListN.{length, get_or, set, take, drop, length-set, length-append, length-take, length-drop, get_or-append}
use lib.Seq.{ext_get_or, get_or-take, get_or-drop, length-take-le, get_or-append-add, get_or-set_same, get_or-set_other, drop-drop}
use Rattle.blocks.specs.Blocks.{Agree, word, block_of, with_block}

-- ---- a memory is its blocks

at : (i : ℕ) → 32 * (i / 32) + i % 32 ≡ i
at i = omega arith

-- two memories that agree on every block are equal
pub blocks-ext : (m m' : List ℕ) → length m ≡ 768 → length m' ≡ 768 → ((n : ℕ) → n < 24 → Agree m m' n) → m ≡ m'
blocks-ext m m' l l' h =
    ext_get_or 0 m m' (l ∙ sym l') (λ i b. rw at at (h (i / 32) (omega arith) (i % 32) (omega arith)))

-- ---- a block taken out

-- it has 32 words
pub length-block : (m : List ℕ) (n : ℕ) → length m ≡ 768 → n < 24 → length (block_of m n) ≡ 32
unfolding block_of
length-block m n l h = length-take-le 32 (drop (32 * n) m) (simp length-drop (omega arith))

-- and they are the memory's
pub word-block : (m : List ℕ) (n w : ℕ) → w < 32 → get_or (block_of m n) w 0 ≡ word m n w
unfolding block_of
word-block m n w h = get_or-take 32 (drop (32 * n) m) w 0 h ∙ get_or-drop (32 * n) m w 0

-- equal blocks agree
pub agree-of-block : (m m' : List ℕ) (n : ℕ) → block_of m n ≡ block_of m' n → Agree m m' n
agree-of-block m m' n e w h = sym (word-block m n w h) ∙ ap (λ (l : List ℕ). get_or l w 0) e ∙ word-block m' n w h

-- and blocks that agree are equal
pub block-of-agree : (m m' : List ℕ) (n : ℕ) → length m ≡ length m' → Agree m m' n → block_of m n ≡ block_of m' n
unfolding block_of
block-of-agree m m' n l a =
    ext_get_or 0 (block_of m n) (block_of m' n) same_length
    (λ w b.
    let b' : w < 32 = omega (arith, simp (length-take, length-drop) at b) in
    word-block m n w b' ∙ a w b' ∙ sym (word-block m' n w b'))
  where
    same_length : length (block_of m n) ≡ length (block_of m' n)
    same_length = simp (length-take, length-drop) (omega arith)

-- ---- a block put in

module _ (m : List ℕ) (n : ℕ) (b : List ℕ) (lm : length m ≡ 768) (hn : n < 24) (lb : length b ≡ 32) where
  below_length : length (take (32 * n) m) ≡ 32 * n
  below_length = length-take-le (32 * n) m (omega arith)

  upto-length : length (take (32 * n) m ++ b) ≡ 32 * n + 32
  upto-length = length-append (take (32 * n) m) b ∙ (omega (arith, below_length))

  -- the words up to the end of block n, and those above it
  parted : with_block m n b ≡ take (32 * n) m ++ b ++ drop (32 * n + 32) m
  unfolding with_block
  parted = sym (append_assoc (take (32 * n) m) b (drop (32 * n + 32) m))

  -- the memory is as long as it was
  pub length-with : length (with_block m n b) ≡ 768
  length-with =
      ap length parted
      ∙ length-append (take (32 * n) m ++ b) (drop (32 * n + 32) m)
      ∙ (omega (arith, upto-length, length-drop (32 * n + 32) m))

  with-below : (i : ℕ) → i < 32 * n → get_or (with_block m n b) i 0 ≡ get_or m i 0
  with-below i h =
      ap (λ (l : List ℕ). get_or l i 0) parted
      ∙ get_or-append (take (32 * n) m ++ b) (drop (32 * n + 32) m) 0 i (omega (arith, upto-length))
      ∙ get_or-append (take (32 * n) m) b 0 i (omega (arith, below_length))
      ∙ get_or-take (32 * n) m i 0 h

  with-above : (i : ℕ) → get_or (with_block m n b) (32 * n + 32 + i) 0 ≡ get_or m (32 * n + 32 + i) 0
  with-above i =
      ap (λ (l : List ℕ). get_or l (32 * n + 32 + i) 0) parted
      ∙ ap (λ (k : ℕ). get_or (take (32 * n) m ++ b ++ drop (32 * n + 32) m) (k + i) 0) (sym upto-length)
      ∙ get_or-append-add (take (32 * n) m ++ b) (drop (32 * n + 32) m) i 0
      ∙ get_or-drop (32 * n + 32) m i 0

  -- the words of block n are those that were put in
  pub put_in : (w : ℕ) → w < 32 → word (with_block m n b) n w ≡ get_or b w 0
  put_in w h =
      ap (λ (l : List ℕ). get_or l (32 * n + w) 0) parted
      ∙ get_or-append (take (32 * n) m ++ b) (drop (32 * n + 32) m) 0 (32 * n + w) (omega (arith, upto-length))
      ∙ ap (λ (k : ℕ). get_or (take (32 * n) m ++ b) (k + w) 0) (sym below_length)
      ∙ get_or-append-add (take (32 * n) m) b w 0

  -- and those of any other block are as they were
  pub put_other : (k w : ℕ) → w < 32 → (k ≡ n → ⊥) → word (with_block m n b) k w ≡ word m k w
  put_other k w h ne = go (dec_lt k n)
    where
      go : Dec (k < n) → word (with_block m n b) k w ≡ word m k w
      go (yes l) = with-below (32 * k + w) (omega arith)
      go (no l) =
          let e : 32 * n + 32 + (32 * k + w - (32 * n + 32)) ≡ 32 * k + w = omega arith in
          rw e at (with-above (32 * k + w - (32 * n + 32)))

  -- the same two, of whole blocks
  pub block_same : block_of (with_block m n b) n ≡ b
  block_same =
      let long : length (block_of (with_block m n b) n) ≡ 32 = length-block (with_block m n b) n length-with hn in
      ext_get_or 0 (block_of (with_block m n b) n) b (long ∙ sym lb)
      (λ w i. let h : w < 32 = omega arith in word-block (with_block m n b) n w h ∙ put_in w h)

  pub block-other : (k : ℕ) → (k ≡ n → ⊥) → block_of (with_block m n b) k ≡ block_of m k
  block-other k ne = block-of-agree (with_block m n b) m k (length-with ∙ sym lm) (λ w h. put_other k w h ne)

-- a block put back as it was changes nothing
pub put-block : (m : List ℕ) (n : ℕ) → length m ≡ 768 → n < 24 → with_block m n (block_of m n) ≡ m
put-block m n lm hn =
    blocks-ext (with_block m n (block_of m n)) m (length-with m n (block_of m n) lm hn lb) lm (λ k h x i. each k x i (ℕ_discrete k n))
  where
    lb : length (block_of m n) ≡ 32
    lb = length-block m n lm hn

    each : (k x : ℕ) → x < 32 → Dec (k ≡ n) → word (with_block m n (block_of m n)) k x ≡ word m k x
    each k x i (yes e) = rw e (put_in m n (block_of m n) lm hn lb x i ∙ word-block m n x i)
    each k x i (no e) = put_other m n (block_of m n) lm hn lb k x i e

-- ---- a word stored

-- a store at word w of a block that was put in might have gone into the block before
pub set-put : (m : List ℕ) (n : ℕ) (b : List ℕ) (w v : ℕ) → length m ≡ 768 → n < 24 → length b ≡ 32 → w < 32
    → set (with_block m n b) (32 * n + w) v ≡ with_block m n (set b w v)
set-put m n b w v lm hn lb hw =
    blocks-ext (set (with_block m n b) (32 * n + w) v) (with_block m n (set b w v))
    (length-set (with_block m n b) (32 * n + w) v ∙ lp) (length-with m n (set b w v) lm hn lb')
    (λ k h x i. each k x i (ℕ_discrete k n) (ℕ_discrete x w))
  where
    lp : length (with_block m n b) ≡ 768
    lp = length-with m n b lm hn lb

    lb' : length (set b w v) ≡ 32
    lb' = length-set b w v ∙ lb

    each : (k x : ℕ) → x < 32 → Dec (k ≡ n) → Dec (x ≡ w)
        → word (set (with_block m n b) (32 * n + w) v) k x ≡ word (with_block m n (set b w v)) k x
    each k x i (yes e) (yes f) =
        rw (e, f) (get_or-set_same (with_block m n b) (32 * n + w) v 0 (omega (arith, lp))
        ∙ sym (put_in m n (set b w v) lm hn lb' w hw ∙ get_or-set_same b w v 0 (omega arith)))
    each k x i (yes e) (no f) =
        rw e (get_or-set_other (with_block m n b) (32 * n + w) (32 * n + x) v 0 (λ z. f (omega arith))
        ∙ put_in m n b lm hn lb x i
        ∙ sym (put_in m n (set b w v) lm hn lb' x i ∙ get_or-set_other b w x v 0 f))
    each k x i (no e) f =
        get_or-set_other (with_block m n b) (32 * n + w) (32 * k + x) v 0 (λ z. e (omega arith))
        ∙ put_other m n b lm hn lb k x i e
        ∙ sym (put_other m n (set b w v) lm hn lb' k x i e)

-- a store into the memory is a store into a block of it
pub set-is-put : (m : List ℕ) (n w v : ℕ) → length m ≡ 768 → n < 24 → w < 32
    → set m (32 * n + w) v ≡ with_block m n (set (block_of m n) w v)
set-is-put m n w v lm hn hw =
    ap (λ (l : List ℕ). set l (32 * n + w) v) (sym (put-block m n lm hn))
    ∙ set-put m n (block_of m n) w v lm hn (length-block m n lm hn) hw

-- ---- a block lent to a call

-- the part of a memory that the code lends, from 32 n up to 32 n + 32, is block n
module _ (m : List ℕ) (n from to : ℕ) (e : from ≡ 32 * n) (f : to ≡ 32 * n + 32) where
  pub part-block : mid_of from (to - from) m ≡ block_of m n
  unfolding block_of
  part-block = rw (e, f, add-sub_cancel_left (32 * n) 32)

  -- and what comes back takes its place
  pub part-back : (b : List ℕ) → put_mid from (to - from) m b ≡ with_block m n b
  unfolding with_block
  part-back b = rw (e, f, add-sub_cancel_left (32 * n) 32, drop-drop 32 (32 * n) m)
