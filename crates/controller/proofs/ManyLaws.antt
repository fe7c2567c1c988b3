-- A command to many stations: the memory that it leaves, block by block; its answer, bit by bit; and both are what the commands to each of them come to, one
-- after the other in any order.
-- Assumes nothing.
use Prim.Native.Nat.{ℕ, zero, suc, ◌+◌, ◌≤◌, ◌<◌, ◌^◌, max}
use mathlib.Core.Path.{◌≡◌, subst, refl, sym, ap, ap₂, ◌∙◌}
use mathlib.Core.Logic.{⊎_elim}
use mathlib.Core.Bool.{Bool, true, false, cond, ◌||◌, true≢false, or-true}
use mathlib.Core.List.{List, [], ◌∷◌, map}
use native.Mathlib.Nat.{pow-suc}
use native.Mathlib.Omega.{arith}
use borrow.Author.Tests.{eq-eqb, ne_eqb}
use lib.Dec.{eqb}
use lib.Bits.{bit_or, or_comm}
use Rattle.word24.specs.Word.{bit_of}
use Rattle.word24.proofs.BitLaws.{bit-or, bit-ext, high_bit}
use Rattle.blocks.specs.Blocks.{block_of}
use Rattle.blocks.proofs.Blocks.{blocks-ext, agree-of-block, block_same, block-other}
use Rattle.kinds.specs.Cases.{is_one_of}
use Rattle.kinds.proofs.TestLaws.{by_cases, decided, alike, one-of-apart}
use Rattle.regroup.specs.Lists.{run, outs}
use Rattle.station.specs.Command.{command_of}
use Rattle.station.specs.declared.Reply.{Reply}
use Rattle.dataway.specs.Crate.{FitCrate}
use Rattle.dataway.specs.Stations.{reply_of, after_command}
use Rattle.dataway.specs.Addressed.{is_addressed, silent, joined, replies_to, command_where, many_of}
use Rattle.controller.specs.Many.{ManyBlocks, JoinedBits, ManyBits, Once, EachOnce, joined_all, InAnyOrder}
use Rattle.dataway.proofs.StationLaws.{command-block, command-fit}
use Rattle.dataway.proofs.ControlLaws.{each-size, each-front, each-block}
use Rattle.dataway.proofs.AddressLaws.{where-kept}

-- ---- numbers of a list
here : (n : ℕ) (ns : List ℕ) → is_one_of n (n ∷ ns) ≡ true
here n ns = rw (eq-eqb n n refl)

later : (n k : ℕ) (ns : List ℕ) → is_one_of n ns ≡ true → is_one_of n (k ∷ ns) ≡ true
later n k ns h = rw h (or-true (eqb n k))

-- one that is not the first stands behind it
behind : (n k : ℕ) (ns : List ℕ) → (n ≡ k → ⊥) → is_one_of n (k ∷ ns) ≡ true → is_one_of n ns ≡ true
behind n k ns d h = rw (ne_eqb n k d) at h

-- tests that hold in the same cases are the same
same_test : (t u : Bool) → (t ≡ true → u ≡ true) → (u ≡ true → t ≡ true) → t ≡ u
same_test true u f g = sym (f refl)
same_test false true f g = g refl
same_test false false f g = refl

-- ---- numbers by their bits
lt-pow : (n : ℕ) → n < 2 ^ n
lt-pow zero = omega arith
lt-pow (suc n) = omega (arith, pow-suc 2 n, lt-pow n)

same_bit : (b c : ℕ) → b < 2 → c < 2 → (b ≡ 1 → c ≡ 1) → (c ≡ 1 → b ≡ 1) → b ≡ c
same_bit b c l h f g =
    ⊎_elim
    (λ (e : b ≡ 1). e ∙ sym (f e))
    (λ (d : b ≡ 1 → ⊥). ⊎_elim (λ (e : c ≡ 1). g e ∙ sym e) (λ (z : c ≡ 1 → ⊥). omega arith) (alike c 1))
    (alike b 1)

-- two numbers with the same bits are the same
same_bits : (x y : ℕ) → ((i : ℕ) → bit_of i x ≡ 1 → bit_of i y ≡ 1) → ((i : ℕ) → bit_of i y ≡ 1 → bit_of i x ≡ 1) → x ≡ y
same_bits x y f g =
    bit-ext (x + y) x y (omega (arith, lt-pow (x + y))) (omega (arith, lt-pow (x + y))) (λ i l. same_bit _ _ (omega arith) (omega arith) (f i) (g i))

-- ---- the stations of a pattern, as a list: those from k down to 1
unfoldable pub listed : (pattern k : ℕ) → List ℕ
listed pattern zero = []
listed pattern (suc k) = cond (is_addressed pattern (suc k)) (suc k ∷ listed pattern k) (listed pattern k)

module _ (pattern : ℕ) where
  abbrev Among : ℕ → ℕ → Type 0
  Among k n = (1 ≤ n) × (n ≤ k) × (is_addressed pattern n ≡ true)

  -- `EachOnce` of those up to k
  record To (k : ℕ) (ns : List ℕ) : Type 0 where
    only : (n : ℕ) → is_one_of n ns ≡ true → Among k n
    each : (n : ℕ) → Among k n → is_one_of n ns ≡ true
    once : Once ns

  -- station k + 1 is addressed
  to-more : (k : ℕ) (ns : List ℕ) → is_addressed pattern (suc k) ≡ true → To k ns → To (suc k) (suc k ∷ ns)
  to-more k ns e t = record {
    only = λ n h. ⊎_elim
        (λ (p : n ≡ suc k). rw p (omega arith, omega arith, e))
        (λ (d : n ≡ suc k → ⊥). let b = t.only n (behind n (suc k) ns d h) in (b.0, omega (arith, b.1), b.2))
        (alike n (suc k));
    each = λ n b. ⊎_elim
        (λ (p : n ≡ suc k). subst (λ (z : ℕ). is_one_of z (suc k ∷ ns) ≡ true) (sym p) (here (suc k) ns))
        (λ (d : n ≡ suc k → ⊥). later n (suc k) ns (t.each n (b.0, omega (arith, b.1), b.2)))
        (alike n (suc k));
    once = (⊎_elim (λ (h : is_one_of (suc k) ns ≡ true). absurd (omega (arith, (t.only (suc k) h).1))) (λ h. h) (decided (is_one_of (suc k) ns)), t.once);
  }

  -- it is not
  to_same : (k : ℕ) (ns : List ℕ) → is_addressed pattern (suc k) ≡ false → To k ns → To (suc k) ns
  to_same k ns e t = record {
    only = λ n h. let b = t.only n h in (b.0, omega (arith, b.1), b.2);
    each = λ n b. ⊎_elim
        (λ (p : n ≡ suc k). absurd (true≢false (sym b.2 ∙ rw p e)))
        (λ (d : n ≡ suc k → ⊥). t.each n (b.0, omega (arith, b.1), b.2))
        (alike n (suc k));
    once = t.once;
  }

  listed-to : (k : ℕ) → To k (listed pattern k)
  unfolding listed
  listed-to zero = record { only = λ n h. absurd (true≢false (sym h)); each = λ n b. absurd (omega (arith, b.0, b.1)); once = tt }
  listed-to (suc k) =
      by_cases (To (suc k)) (is_addressed pattern (suc k)) (suc k ∷ listed pattern k) (listed pattern k)
      (λ e. to-more k (listed pattern k) e (listed-to k)) (λ e. to_same k (listed pattern k) e (listed-to k))

  -- every pattern has such a list
  pub stations-listed : EachOnce pattern (listed pattern 23)
  stations-listed =
      let t = listed-to 23 in record { only = t.only; each = λ n lo hi e. t.each n (lo, hi, e); once = t.once }

-- two lists of the stations of a pattern have the same numbers
stations-same : (pattern : ℕ) (ns ks : List ℕ) → EachOnce pattern ns → EachOnce pattern ks → (n : ℕ) → is_one_of n ns ≡ is_one_of n ks
stations-same pattern ns ks t u n =
    same_test _ _ (λ h. let b = t.only n h in u.each n b.0 b.1 b.2) (λ h. let b = u.only n h in t.each n b.0 b.1 b.2)

-- ---- answers joined
abbrev reply : (x q r : ℕ) → Reply
reply x q r = record { x = x; q = q; r = r }

reply-same : (p t : Reply) → p.x ≡ t.x → p.q ≡ t.q → p.r ≡ t.r → p ≡ t
reply-same p t e g h = ap₂ (λ (x q : ℕ). reply x q p.r) e g ∙ ap (reply t.x t.q) h

joined-comm : (p t : Reply) → joined p t ≡ joined t p
joined-comm p t = reply-same (joined p t) (joined t p) (or_comm p.x t.x) (or_comm p.q t.q) (or_comm p.r t.r)

-- the answers of a pattern's stations are those of its list
one_more : (of : ℕ → Reply) (t : Bool) (p : Reply) (k : ℕ) (ns : List ℕ) → p ≡ joined_all (map of ns)
    → cond t (joined p (of k)) p ≡ joined_all (map of (cond t (k ∷ ns) ns))
one_more of true p k ns e = joined-comm p (of k) ∙ ap (joined (of k)) e
one_more of false p k ns e = e

replies-listed : (m : List ℕ) (pattern a f w k : ℕ) → replies_to pattern a f w k m ≡ joined_all (map (λ (n : ℕ). reply_of m n a f w) (listed pattern k))
unfolding replies_to listed
replies-listed m pattern a f w zero = refl
replies-listed m pattern a f w (suc k) =
    one_more (λ (n : ℕ). reply_of m n a f w) (is_addressed pattern (suc k)) _ (suc k) (listed pattern k) (replies-listed m pattern a f w k)

-- of X, Q or R, the answer of each n being `of n`
module _ (part : Reply → ℕ) (none : part silent ≡ 0) (join : (p t : Reply) → part (joined p t) ≡ bit_or (part p) (part t)) (of : ℕ → Reply) where
  module _ (i : ℕ) where
    abbrev bit : Reply → ℕ
    bit p = bit_of i (part p)

    bit-silent : bit silent ≡ 0
    bit-silent = ap (bit_of i) none ∙ high_bit 0 i 0 (omega arith) (omega arith)

    bit-joined : (p t : Reply) → bit (joined p t) ≡ max (bit p) (bit t)
    bit-joined p t = ap (bit_of i) (join p t) ∙ bit-or i (part p) (part t)

    -- bit i of the answers of a list, joined, is 1 where that of one of them is
    list_on : (ns : List ℕ) (n : ℕ) → is_one_of n ns ≡ true → bit (of n) ≡ 1 → bit (joined_all (map of ns)) ≡ 1
    list_on [] n h e = absurd (true≢false (sym h))
    list_on (k ∷ ns) n h e =
        let j = bit-joined (of k) (joined_all (map of ns)) in
        ⊎_elim
        (λ (p : n ≡ k). omega (arith, ap (λ (z : ℕ). bit (of z)) p))
        (λ (d : n ≡ k → ⊥). omega (arith, list_on ns n (behind n k ns d h) e))
        (alike n k)

    -- and only there
    list_of : (ns : List ℕ) → bit (joined_all (map of ns)) ≡ 1 → (n : ℕ) × (is_one_of n ns ≡ true) × (bit (of n) ≡ 1)
    list_of [] e = absurd (omega (arith, bit-silent))
    list_of (k ∷ ns) e =
        let j = bit-joined (of k) (joined_all (map of ns)) in
        ⊎_elim
        (λ (p : bit (of k) ≡ 1). (k, here k ns, p))
        (λ (d : bit (of k) ≡ 1 → ⊥). let t = list_of ns (omega arith) in (t.0, later t.0 k ns t.1, t.2))
        (alike (bit (of k)) 1)

  -- so lists of the same numbers come to the same
  list_same : (ns ks : List ℕ) → ((n : ℕ) → is_one_of n ns ≡ is_one_of n ks) → part (joined_all (map of ns)) ≡ part (joined_all (map of ks))
  list_same ns ks h =
      same_bits _ _
      (λ i e. let t = list_of i ns e in list_on i ks t.0 (sym (h t.0) ∙ t.1) t.2)
      (λ i e. let t = list_of i ks e in list_on i ns t.0 (h t.0 ∙ t.1) t.2)

-- in whatever order answers are joined
module _ (of : ℕ → Reply) (ns ks : List ℕ) (h : (n : ℕ) → is_one_of n ns ≡ is_one_of n ks) where
  answers-same : joined_all (map of ns) ≡ joined_all (map of ks)
  answers-same =
      reply-same (joined_all (map of ns)) (joined_all (map of ks))
      (list_same (λ (p : Reply). p.x) refl (λ p t. refl) of ns ks h)
      (list_same (λ (p : Reply). p.q) refl (λ p t. refl) of ns ks h)
      (list_same (λ (p : Reply). p.r) refl (λ p t. refl) of ns ks h)

-- ---- bit by bit
joined-bits : (part : Reply → ℕ) → part silent ≡ 0 → ((p t : Reply) → part (joined p t) ≡ bit_or (part p) (part t)) → JoinedBits part
joined-bits part none join m pattern a f w i =
    let t = stations-listed pattern in
    let e = ap (λ (p : Reply). bit_of i (part p)) (replies-listed m pattern a f w 23) in (
      λ h. let n = list_of part none join (λ (k : ℕ). reply_of m k a f w) i (listed pattern 23) (sym e ∙ h) in
          let b = t.only n.0 n.1 in (n.0, (b.0, b.1, b.2, n.2)),
      λ n b. e ∙ list_on part none join (λ (k : ℕ). reply_of m k a f w) i (listed pattern 23) n (t.each n b.0 b.1 b.2) b.3,
    )

pub many-bits : ManyBits
many-bits = record {
  x = joined-bits (λ (p : Reply). p.x) refl (λ p t. refl);
  q = joined-bits (λ (p : Reply). p.q) refl (λ p t. refl);
  r = joined-bits (λ (p : Reply). p.r) refl (λ p t. refl);
}

-- ---- block by block
module _ (a f w : ℕ) (s : a ≤ 15) (l : w ≤ 16777215) where
  -- a command leaves its station the block that it says, and the others theirs
  module _ (m : List ℕ) (n : ℕ) (q : FitCrate m) (lo : 1 ≤ n) (hi : n ≤ 23) where
    own_block : block_of (after_command m n a f w) n ≡ (command_of (block_of m n) a f w).block
    unfolding after_command
    own_block = block_same m n (command_of (block_of m n) a f w).block q.size (omega arith) (command-block m n q lo hi a f w s l).fit.long

    other_block : (k : ℕ) → (k ≡ n → ⊥) → block_of (after_command m n a f w) k ≡ block_of m k
    unfolding after_command
    other_block k d = block-other m n (command_of (block_of m n) a f w).block q.size (omega arith) (command-block m n q lo hi a f w s l).fit.long k d

  -- the commands of a list of stations, one after the other
  abbrev does : List ℕ → ℕ → List ℕ
  does x n = after_command x n a f w

  abbrev Within : List ℕ → Type 0
  Within ns = (n : ℕ) → is_one_of n ns ≡ true → (1 ≤ n) × (n ≤ 23)

  rest : (k : ℕ) (ns : List ℕ) → Within (k ∷ ns) → Within ns
  rest k ns b n h = b n (later n k ns h)

  next : (k : ℕ) (ns x : List ℕ) → Within (k ∷ ns) → FitCrate x → FitCrate (does x k)
  next k ns x b q = let r = b k (here k ns) in command-fit x k q r.0 r.1 a f w s l

  run-fit : (ns x : List ℕ) → Within ns → FitCrate x → FitCrate (run does x ns)
  run-fit [] x b q = q
  run-fit (k ∷ ns) x b q = run-fit ns (does x k) (rest k ns b) (next k ns x b q)

  -- each of the list has the block of its own command, any other its old one
  run-block : (ns x : List ℕ) → Within ns → FitCrate x → Once ns → (n : ℕ)
      → block_of (run does x ns) n ≡ cond (is_one_of n ns) (command_of (block_of x n) a f w).block (block_of x n)
  run-block [] x b q o n = refl
  run-block (k ∷ ns) x b q o n =
      let r = b k (here k ns) in
      run-block ns (does x k) (rest k ns b) (next k ns x b q) o.1 n
      ∙ ⊎_elim
      (λ (e : n ≡ k). subst
      (λ (z : ℕ). cond (is_one_of z ns) (command_of (block_of (does x k) z) a f w).block (block_of (does x k) z)
      ≡ cond (is_one_of z (k ∷ ns)) (command_of (block_of x z) a f w).block (block_of x z))
      (sym e) (rw (here k ns, o.0) (own_block x k q r.0 r.1)))
      (λ (d : n ≡ k → ⊥). rw (ne_eqb n k d, other_block x k q r.0 r.1 n d))
      (alike n k)

  -- and gives the answer that it gives from the memory m, where its block is still m's
  outs-same : (m ns x : List ℕ) → Within ns → FitCrate x → Once ns → ((n : ℕ) → is_one_of n ns ≡ true → block_of x n ≡ block_of m n)
      → outs does (λ (y : List ℕ) (n : ℕ). reply_of y n a f w) x ns ≡ map (λ (n : ℕ). reply_of m n a f w) ns
  unfolding reply_of
  outs-same m [] x b q o h = refl
  outs-same m (k ∷ ns) x b q o h =
      let r = b k (here k ns) in
      ap₂ ◌∷◌ (ap (λ (c : List ℕ). (command_of c a f w).reply) (h k (here k ns)))
      (outs-same m ns (does x k) (rest k ns b) (next k ns x b q) o.1
      (λ n i. other_block x k q r.0 r.1 n (one-of-apart n k ns i o.0) ∙ h n (later n k ns i)))

pub many-blocks : ManyBlocks
unfolding command_where
many-blocks m pattern a f w q s l = (
  each-front (command_where pattern a f w) (where-kept pattern a f w s l) m q 23 (omega arith),
  λ n lo hi. each-block (command_where pattern a f w) (where-kept pattern a f w s l) m q 23 n lo hi (omega arith)
      ∙ ap (λ (b : List ℕ). cond (is_addressed pattern n) b (block_of m n)) (sym (own_block a f w s l m n q lo hi)),
)

-- ---- in any order
module _ (m : List ℕ) (pattern a f w : ℕ) (ns : List ℕ) (q : FitCrate m) (s : a ≤ 15) (l : w ≤ 16777215) (t : EachOnce pattern ns) where
  within : Within a f w s l ns
  within n h = let b = t.only n h in (b.0, b.1)

  -- a station stands in the list exactly where it is addressed
  in_list : (n : ℕ) → 1 ≤ n → n ≤ 23 → is_one_of n ns ≡ is_addressed pattern n
  in_list n lo hi = same_test _ _ (λ h. (t.only n h).2) (λ h. t.each n lo hi h)

  not_first : is_one_of 0 ns ≡ false
  not_first = ⊎_elim (λ (h : is_one_of 0 ns ≡ true). absurd (omega (arith, (t.only 0 h).0))) (λ h. h) (decided (is_one_of 0 ns))

  same_block : (n : ℕ) → n < 24 → block_of (run (does a f w s l) m ns) n ≡ block_of (many_of m pattern a f w).memory n
  same_block n h =
      run-block a f w s l ns m within q t.once n
      ∙ ⊎_elim
      (λ (e : n ≡ 0). rw (e, not_first) (sym (many-blocks m pattern a f w q s l).0))
      (λ (d : n ≡ 0 → ⊥).
      let lo : 1 ≤ n = omega arith in
      let hi : n ≤ 23 = omega arith in
      rw (in_list n lo hi, ← own_block a f w s l m n q lo hi) (sym ((many-blocks m pattern a f w q s l).1 n lo hi)))
      (alike n 0)

  same_memory : run (does a f w s l) m ns ≡ (many_of m pattern a f w).memory
  same_memory =
      blocks-ext _ _ (run-fit a f w s l ns m within q).size (each-size (command_where pattern a f w) (where-kept pattern a f w s l) m q 23 (omega arith))
      (λ n h. agree-of-block _ _ n (same_block n h))

  same_answer : joined_all (map (λ (n : ℕ). reply_of m n a f w) ns) ≡ replies_to pattern a f w 23 m
  same_answer =
      answers-same (λ (n : ℕ). reply_of m n a f w) ns (listed pattern 23) (stations-same pattern ns (listed pattern 23) t (stations-listed pattern))
      ∙ sym (replies-listed m pattern a f w 23)

pub in-any-order : InAnyOrder
in-any-order m pattern a f w ns q s l t = (
  same_memory m pattern a f w ns q s l t,
  ap joined_all (outs-same a f w s l m ns m (within m pattern a f w ns q s l t) q t.once (λ n h. refl)) ∙ same_answer m pattern a f w ns q s l t,
)

-- ---- samples: pattern 20 is stations 3 and 5, in either order
pub falling-sample : EachOnce 20 (5 ∷ 3 ∷ [])
unfolding listed
falling-sample = stations-listed 20

pub rising-sample : EachOnce 20 (3 ∷ 5 ∷ [])
rising-sample = record {
  only = λ n h. falling-sample.only n (turned n ∙ h);
  each = λ n lo hi e. sym (turned n) ∙ falling-sample.each n lo hi e;
  once = (refl, (refl, tt));
}
  where
    swap : (t u : Bool) → t || (u || false) ≡ u || (t || false)
    swap true true = refl
    swap true false = refl
    swap false true = refl
    swap false false = refl

    turned : (n : ℕ) → is_one_of n (5 ∷ 3 ∷ []) ≡ is_one_of n (3 ∷ 5 ∷ [])
    turned n = swap (eqb n 5) (eqb n 3)
