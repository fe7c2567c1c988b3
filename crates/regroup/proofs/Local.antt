-- How to show that something keeps to a set of stations (`Local`). What does nothing keeps to any set; whatever leaves the memory fit keeps to all
-- 23; what puts a new block in the place of one station's keeps to a set with that station; and one such thing after another keeps to the set too.
-- Steps are made of these, so the law of a step (`Law`) asks for no look at what a module does with its words.
-- Assumes nothing.
use mathlib.Core.Path.{◌≡◌, refl, sym, ap, ap₂, ◌∙◌}
use mathlib.Core.Bool.{Bool, true, false, true≢false}
use mathlib.Core.Logic.{◌⊎◌, inl, inr}
use mathlib.Core.List.{List}
use Prim.Native.Nat.{ℕ, zero, suc, ◌≤◌, ◌<◌}
use native.Mathlib.Omega.{arith}
use native.Mathlib.Decide.{ℕ_discrete}
use lib.ListN.{length, get_or}
use Rattle.blocks.specs.Blocks.{Agree, word, inhibit_of, block_of, with_block}
use Rattle.blocks.proofs.Blocks.{blocks-ext, block-of-agree, put_in, put_other}
use Rattle.regroup.specs.Local.{All, Seen, Local}
use Rattle.regroup.proofs.Stations.{Outside, untouched}

module _ (fit : List ℕ → Type 0) (size : (m : List ℕ) → fit m → length m ≡ 768) where
  -- fit memories that are the same wherever what keeps to all 23 may look are equal
  seen_all : (on : ℕ → Bool) (m m' : List ℕ) → fit m → fit m' → All on → Seen on m m' → m ≡ m'
  seen_all on m m' f f' all h = blocks-ext m m' (size m f) (size m' f') each
    where
      each : (n : ℕ) → n < 24 → Agree m m' n
      each zero l = h.1 all
      each (suc n) l = (h.0 (suc n) (omega arith) (omega arith) (all (suc n) (omega arith) (omega arith))).0

  -- ---- nothing, everything, one station

  -- what changes nothing, and gives back what does not hang on the memory, keeps to any set
  pub local-none : {Out : Type 0} (on : ℕ → Bool) (o : Out) → Local fit on (λ (m : List ℕ). m) (λ (m : List ℕ). o)
  local-none on o = record {
    keeps = λ m f. f;
    frame = λ m f n a b h. (λ w i. refl, λ w i. refl);
    reads = λ m m' f f' s. (refl, λ n a b h. (s.0 n a b h).0);
  }

  -- whatever keeps the memory fit keeps to all 23
  pub local-all : {Out : Type 0} (on : ℕ → Bool) (f : List ℕ → List ℕ) (g : List ℕ → Out) → All on
      → ((m : List ℕ) → fit m → fit (f m)) → Local fit on f g
  local-all on f g all keep = record {
    keeps = keep;
    frame = λ m q n a b h. absurd (true≢false (sym (all n a b) ∙ h));
    reads = λ m m' p p' s.
        let e : m ≡ m' = seen_all on m m' p p' all s in
        (ap g e, λ n a b h w i. ap (λ (k : List ℕ). word (f k) n w) e);
  }

  -- one station: its block becomes `act` of I and the block, and what is given back is `ans` of the two
  pub local-one : {Out : Type 0} (on : ℕ → Bool) (n : ℕ) → 1 ≤ n → n ≤ 23 → on n ≡ true
      → (act : ℕ → List ℕ → List ℕ) (ans : ℕ → List ℕ → Out)
      → ((m : List ℕ) → fit m → length (act (inhibit_of m) (block_of m n)) ≡ 32)
      → ((m : List ℕ) → fit m → fit (with_block m n (act (inhibit_of m) (block_of m n))))
      → Local fit on (λ (m : List ℕ). with_block m n (act (inhibit_of m) (block_of m n))) (λ (m : List ℕ). ans (inhibit_of m) (block_of m n))
  local-one on n a b here act ans long keep = record {
    keeps = keep;
    frame = λ m q k x y off. (
      λ w i. put_other m n (after m) (size m q) (omega arith) (long m q) k w i (other k off),
      λ w i. put_other m n (after m) (size m q) (omega arith) (long m q) 0 w i (omega arith),
    );
    reads = λ m m' q q' s.
        let same_block : block_of m n ≡ block_of m' n = block-of-agree m m' n (size m q ∙ sym (size m' q')) (s.0 n a b here).0 in
        let same-inhibit : inhibit_of m ≡ inhibit_of m' = (s.0 n a b here).1 in
        (ap₂ ans same-inhibit same_block, λ k x y h. left m m' q q' s (ap₂ act same-inhibit same_block) k x y h (ℕ_discrete k n));
  }
    where
      after : List ℕ → List ℕ
      after m = act (inhibit_of m) (block_of m n)

      other : (k : ℕ) → on k ≡ false → k ≡ n → ⊥
      other k off e = true≢false (sym here ∙ ap on (sym e) ∙ off)

      left : (m m' : List ℕ) (q : fit m) (q' : fit m') → Seen on m m' → after m ≡ after m'
          → (k : ℕ) → 1 ≤ k → k ≤ 23 → on k ≡ true → Dec (k ≡ n) → Agree (with_block m n (after m)) (with_block m' n (after m')) k
      left m m' q q' s e k x y h (yes d) = λ w i.
          ap (λ (j : ℕ). word (with_block m n (after m)) j w) d
          ∙ put_in m n (after m) (size m q) (omega arith) (long m q) w i
          ∙ ap (λ (l : List ℕ). get_or l w 0) e
          ∙ sym (put_in m' n (after m') (size m' q') (omega arith) (long m' q') w i)
          ∙ ap (λ (j : ℕ). word (with_block m' n (after m')) j w) (sym d)
      left m m' q q' s e k x y h (no d) = λ w i.
          put_other m n (after m) (size m q) (omega arith) (long m q) k w i d
          ∙ (s.0 k x y h).0 w i
          ∙ sym (put_other m' n (after m') (size m' q') (omega arith) (long m' q') k w i d)

  -- ---- another answer

  -- something made of what was given back, given back in its stead
  pub local-map : {A B : Type 0} (on : ℕ → Bool) (f : List ℕ → List ℕ) (g : List ℕ → A) (h : A → B)
      → Local fit on f g → Local fit on f (λ (m : List ℕ). h (g m))
  local-map on f g h l = record {
    keeps = l.keeps;
    frame = l.frame;
    reads = λ m m' q q' s. (ap h (l.reads m m' q q' s).0, (l.reads m m' q q' s).1);
  }

  -- ---- one thing after another

  -- memories that were the same wherever it may look still are after it
  seen-after : {Out : Type 0} (on : ℕ → Bool) (f : List ℕ → List ℕ) (g : List ℕ → Out) → Local fit on f g
      → (m m' : List ℕ) → fit m → fit m' → Seen on m m' → Seen on (f m) (f m')
  seen-after on f g l m m' q q' s =
      (λ n a b h. ((l.reads m m' q q' s).1 n a b h, inhibit n a b h (untouched on 23)), λ all w i. equal all 0 w)
    where
      equal : All on → (n w : ℕ) → word (f m) n w ≡ word (f m') n w
      equal all n w = ap (λ (k : List ℕ). word (f k) n w) (seen_all on m m' q q' all s)

      inhibit : (n : ℕ) → 1 ≤ n → n ≤ 23 → on n ≡ true → Outside on 23 ⊎ All on → inhibit_of (f m) ≡ inhibit_of (f m')
      inhibit n a b h (inl u) =
          (l.frame m q u.0 u.1 u.2 u.3).1 0 (omega arith)
          ∙ (s.0 n a b h).1
          ∙ sym ((l.frame m' q' u.0 u.1 u.2 u.3).1 0 (omega arith))
      inhibit n a b h (inr all) = equal all 0 0

  -- one thing, and then another that may hang on what the first gave back from a fit memory
  pub local-next : {A B : Type 0} (on : ℕ → Bool) (f : List ℕ → List ℕ) (g : List ℕ → A) (f' : A → List ℕ → List ℕ) (g' : A → List ℕ → B)
      → Local fit on f g → ((m : List ℕ) → fit m → Local fit on (f' (g m)) (g' (g m)))
      → Local fit on (λ (m : List ℕ). f' (g m) (f m)) (λ (m : List ℕ). g' (g m) (f m))
  local-next {A} on f g f' g' l l' = record {
    keeps = λ m q. (l' m q).keeps (f m) (l.keeps m q);
    frame = λ m q n a b h.
        let x = (l' m q).frame (f m) (l.keeps m q) n a b h in
        let y = l.frame m q n a b h in
        (λ w i. x.0 w i ∙ y.0 w i, λ w i. x.1 w i ∙ y.1 w i);
    reads = λ m m' q q' s.
        let e = (l.reads m m' q q' s).0 in
        let r = (l' m q).reads (f m) (f m') (l.keeps m q) (l.keeps m' q') (seen-after on f g l m m' q q' s) in
        (r.0 ∙ ap (λ (a : A). g' a (f m')) e, λ n a b h w i. r.1 n a b h w i ∙ ap (λ (a : A). word (f' a (f m')) n w) e);
  }

  -- the same, where the second keeps to the set whatever the first gave back
  pub local-then : {A B : Type 0} (on : ℕ → Bool) (f : List ℕ → List ℕ) (g : List ℕ → A) (f' : A → List ℕ → List ℕ) (g' : A → List ℕ → B)
      → Local fit on f g → ((a : A) → Local fit on (f' a) (g' a))
      → Local fit on (λ (m : List ℕ). f' (g m) (f m)) (λ (m : List ℕ). g' (g m) (f m))
  local-then on f g f' g' l l' = local-next on f g f' g' l (λ m q. l' (g m))
