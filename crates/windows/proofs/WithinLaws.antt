-- Laws of the list of registers inside a window: what the code reads, the loop that lists, and that the list has exactly the registers inside, ascending.
-- Assumes nothing.
use Prim.Native.Nat.{ℕ, zero, suc, ◌+◌, ◌-◌, ◌*◌, ◌/◌, ◌%◌, ◌<◌, ◌≤◌}
use mathlib.Core.Path.{◌≡◌, refl, sym, ap, ap₂, ◌∙◌}
use mathlib.Core.List.{List, [], ◌∷◌, ◌++◌, append_assoc, append-nil}
use mathlib.Core.Bool.{Bool, true, false, cond, ◌&&◌, ◌||◌, true≢false, or_assoc, or-true, or-false}
use mathlib.Core.Logic.{◌⊎◌, inl, inr, ⊎_elim}
use native.Mathlib.Numerals.{add-one}
use native.Mathlib.Omega.{arith}
use borrow.Author.Tests.{lt-ltb, le-leb, lt-leb, le-ltb, eq-eqb, ne_eqb, leb-true, leb-false, ltb-true, ltb-false}
use lib.Dec.{leb, ltb, eqb}
use lib.ListN.{length, get_or, drop, set, length-append, length-drop}
use lib.Seq.{set_at, drop-cons}
use Rattle.std.specs.Prelude.{Some, None}
use Rattle.blocks.proofs.Blocks.{word-block}
use Rattle.kinds.specs.Cases.{is_one_of}
use Rattle.kinds.proofs.TestLaws.{decided, alike, both_false, one-of-first}
use Rattle.step.specs.Verdict.{within, places_of}
use Rattle.windows.specs.Within.{holder, listed_kinds, is_there, value_of, is_inside, picked, within_of, listed_in, Above, Ascending}
use Rattle.windows.specs.Within.{WithinListing, OnlyListing}
use Rattle.windows.specs.Found.{ListedKind}

-- ---- what the code reads
module _ (m : List ℕ) (p at : ℕ) (e : at ≡ 32 * (p / 16)) where
  kind_at : get_or m (at + 0) 0 ≡ get_or (holder m p) 0 0
  kind_at = rw e (sym (word-block m (p / 16) 0 (omega arith)))

  count_at : get_or m (at + 1) 0 ≡ get_or (holder m p) 1 0
  count_at = rw e (sym (word-block m (p / 16) 1 (omega arith)))

  of-kind : (kind : ℕ) → get_or (holder m p) 0 0 ≡ kind → is_one_of kind listed_kinds ≡ true → is_there m p ≡ ltb (p % 16) (get_or (holder m p) 1 0)
  unfolding is_there
  of-kind kind k t = rw (k, t)

  by_kind : ListedKind (get_or m (at + 0) 0) → is_there m p ≡ ltb (p % 16) (get_or (holder m p) 1 0)
  by_kind (inl h) = of-kind 1 (sym kind_at ∙ h) refl
  by_kind (inr (inl h)) = of-kind 3 (sym kind_at ∙ h) refl
  by_kind (inr (inr h)) = of-kind 5 (sym kind_at ∙ h) refl

  there-some : ListedKind (get_or m (at + 0) 0) → ltb (p % 16) (get_or m (at + 1) 0) ≡ is_there m p
  there-some k = ap (ltb (p % 16)) count_at ∙ sym (by_kind k)

  there-none : (ListedKind (get_or m (at + 0) 0) → ⊥) → is_there m p ≡ false
  unfolding is_there
  there-none n =
      simp (
        ne_eqb (get_or (holder m p) 0 0) 1 (λ h. n (inl (kind_at ∙ h))),
        ne_eqb (get_or (holder m p) 0 0) 3 (λ h. n (inr (inl (kind_at ∙ h)))),
        ne_eqb (get_or (holder m p) 0 0) 5 (λ h. n (inr (inr (kind_at ∙ h)))),
      )

  value-at : get_or m (at + 16 + p % 16) 0 ≡ value_of m p
  unfolding value_of
  value-at = rw e (ap (λ (i : ℕ). get_or m i 0) (omega arith) ∙ sym (word-block m (p / 16) (16 + p % 16) (omega arith)))

  -- below r, at r and above, and in a station of no such kind
  pub register_below : ListedKind (get_or m (at + 0) 0) → p % 16 < get_or m (at + 1) 0
      → Some (get_or m (at + 16 + p % 16) 0) ≡ cond (is_there m p) (Some (value_of m p)) None
  register_below k l = rw (sym (there-some k) ∙ lt-ltb (p % 16) (get_or m (at + 1) 0) l, value-at)

  pub register_above : ListedKind (get_or m (at + 0) 0) → get_or m (at + 1) 0 ≤ p % 16 → None ≡ cond (is_there m p) (Some (value_of m p)) None
  register_above k l = rw (sym (there-some k) ∙ le-ltb (p % 16) (get_or m (at + 1) 0) l)

  pub register_none : (ListedKind (get_or m (at + 0) 0) → ⊥) → None ≡ cond (is_there m p) (Some (value_of m p)) None
  register_none n = rw (there-none n)

-- ---- picking
module _ (t : ℕ → Bool) (from : ℕ) where
  pub picked-suc : (k : ℕ) → picked t from (k + 1) ≡ picked t from k ++ cond (t (from + k)) ((from + k) ∷ []) []
  unfolding picked
  picked-suc k = simp add-one

  pub picked-in : (k : ℕ) → t (from + k) ≡ true → picked t from (k + 1) ≡ picked t from k ++ ((from + k) ∷ [])
  picked-in k e = rw (picked-suc k, e)

  pub picked-out : (k : ℕ) → t (from + k) ≡ false → picked t from (k + 1) ≡ picked t from k
  picked-out k e = rw (picked-suc k, e) (append-nil (picked t from k))

  pub picked_none : picked t from 0 ≡ []
  unfolding picked
  picked_none = refl

  pub picked-few : (k : ℕ) → length (picked t from k) ≤ k
  picked-few zero = rw picked_none (omega arith)
  picked-few (suc k) =
      let ih = picked-few k in
      rw (sym (add-one k))
      (⊎_elim
      (λ e. rw (picked-in k e) (omega (arith, length-append (picked t from k) ((from + k) ∷ []))))
      (λ e. rw (picked-out k e) (omega arith))
      (decided (t (from + k))))

  -- ---- the loop: what was listed so far, and the buffer's rest
  -- one register more is listed
  listed_in_next : (k at : ℕ) (b₀ b : List ℕ) → t (from + k) ≡ true → k < length b₀ → at ≡ length (picked t from k) → b ≡ listed_in (picked t from k) b₀
      → (at + 1 ≡ length (picked t from (k + 1))) × (set b at (from + k) ≡ listed_in (picked t from (k + 1)) b₀)
  listed_in_next k at b₀ b e lt ea eb =
      let q = picked-in k e in
      let few = picked-few k in
      let rest : drop at b₀ ≡ get_or b₀ at 0 ∷ drop (suc at) b₀ = drop-cons b₀ at 0 (omega arith) in
      let len : length (picked t from k ++ ((from + k) ∷ [])) ≡ suc at = omega (arith, length-append (picked t from k) ((from + k) ∷ [])) in (
        rw q (omega arith),
        ap (λ (l : List ℕ). set l at (from + k)) (eb ∙ ap (λ (j : ℕ). picked t from k ++ drop j b₀) (sym ea) ∙ ap (λ (l : List ℕ). picked t from k ++ l) rest)
            ∙ set_at (picked t from k) (get_or b₀ at 0) (drop (suc at) b₀) (from + k) at (sym ea)
            ∙ rw (q, len) (sym (append_assoc (picked t from k) ((from + k) ∷ []) (drop (suc at) b₀))),
      )

  -- the loop's turn at register p: it is listed
  pub within-in : (p at : ℕ) (b₀ b : List ℕ) → t p ≡ true → from ≤ p → p - from < length b₀
      → at ≡ length (picked t from (p - from)) → b ≡ listed_in (picked t from (p - from)) b₀
      → (at + 1 ≡ length (picked t from (p + 1 - from))) × (set b at p ≡ listed_in (picked t from (p + 1 - from)) b₀)
  within-in p at b₀ b s l h ea eb =
      let e : from + (p - from) ≡ p = omega arith in
      let f : p + 1 - from ≡ p - from + 1 = omega arith in
      let turn = listed_in_next (p - from) at b₀ b (ap t e ∙ s) h ea eb in
      rw f (turn.0, ap (set b at) (sym e) ∙ turn.1)

  -- or it is not
  pub within-out : (p at : ℕ) (b₀ b : List ℕ) → t p ≡ false → from ≤ p
      → at ≡ length (picked t from (p - from)) → b ≡ listed_in (picked t from (p - from)) b₀
      → (at ≡ length (picked t from (p + 1 - from))) × (b ≡ listed_in (picked t from (p + 1 - from)) b₀)
  within-out p at b₀ b s l ea eb =
      let e : from + (p - from) ≡ p = omega arith in
      let f : p + 1 - from ≡ p - from + 1 = omega arith in
      rw (f, picked-out (p - from) (ap t e ∙ s)) (ea, eb)

-- tests that agree pick the same
pub picked-alike : (t u : ℕ → Bool) (from k : ℕ) → ((j : ℕ) → j < k → t (from + j) ≡ u (from + j)) → picked t from k ≡ picked u from k
unfolding picked
picked-alike t u from zero h = refl
picked-alike t u from (suc k) h =
    ap₂ (λ (x : List ℕ) (s : Bool). x ++ cond s ((from + k) ∷ []) []) (picked-alike t u from k (λ j l. h j (omega arith))) (h k (omega arith))

pub within-starts : (t : ℕ → Bool) (from : ℕ) (b : List ℕ) → (0 ≡ length (picked t from (from - from))) × (b ≡ listed_in (picked t from (from - from)) b)
within-starts t from b = let e : from - from ≡ 0 = omega arith in rw (e, picked_none t from) (refl, refl)

pub listed-long : (t : ℕ → Bool) (from k : ℕ) (b₀ b : List ℕ) → k ≤ length b₀ → b ≡ listed_in (picked t from k) b₀ → length b ≡ length b₀
listed-long t from k b₀ b h e =
    let few = picked-few t from k in
    rw e (omega (arith, length-append (picked t from k) (drop (length (picked t from k)) b₀), length-drop (length (picked t from k)) b₀))

-- ---- what the list is: exactly the registers inside the window, each once, ascending
one-of-append : (x : ℕ) (ys zs : List ℕ) → is_one_of x (ys ++ zs) ≡ is_one_of x ys || is_one_of x zs
one-of-append x [] zs = refl
one-of-append x (y ∷ ys) zs = rw (one-of-append x ys zs, or_assoc (eqb x y) (is_one_of x ys) (is_one_of x zs))

and_alike : (a b c : Bool) → (a ≡ true → b ≡ c) → a && b ≡ a && c
and_alike true b c f = f refl
and_alike false b c f = refl

module _ (t : ℕ → Bool) (from : ℕ) where
  -- a number that is not the k-th
  apart : (k p : ℕ) → (p ≡ from + k → ⊥) → leb from p && ltb p (from + (k + 1)) ≡ leb from p && ltb p (from + k)
  apart k p n = and_alike (leb from p) (ltb p (from + (k + 1))) (ltb p (from + k)) (λ e. below (decided (ltb p (from + k))))
    where
      below : (ltb p (from + k) ≡ true) ⊎ (ltb p (from + k) ≡ false) → ltb p (from + (k + 1)) ≡ ltb p (from + k)
      below (inl e) = lt-ltb p (from + (k + 1)) (omega (arith, ltb-true p (from + k) e)) ∙ sym e
      below (inr e) = le-ltb p (from + (k + 1)) (omega (arith, ltb-false p (from + k) e)) ∙ sym e

  last : (k p : ℕ) → p ≡ from + k → leb from p && ltb p (from + (k + 1)) ≡ true
  last k p q = rw (le-leb from p (omega arith), lt-ltb p (from + (k + 1)) (omega arith))

  has-next : (k p : ℕ) → (t (from + k) ≡ true) ⊎ (t (from + k) ≡ false) → (p ≡ from + k) ⊎ (p ≡ from + k → ⊥)
      → is_one_of p (picked t from k) ≡ (leb from p && ltb p (from + k)) && t p
      → is_one_of p (picked t from (k + 1)) ≡ (leb from p && ltb p (from + (k + 1))) && t p
  has-next k p (inl e) (inl q) ih =
      rw (picked-in t from k e, one-of-append p (picked t from k) ((from + k) ∷ []), eq-eqb p (from + k) q, last k p q)
      (or-true (is_one_of p (picked t from k)) ∙ sym (ap t q ∙ e))
  has-next k p (inl e) (inr n) ih =
      rw (picked-in t from k e, one-of-append p (picked t from k) ((from + k) ∷ []), ne_eqb p (from + k) n, apart k p n)
      (or-false (is_one_of p (picked t from k)) ∙ ih)
  has-next k p (inr e) (inl q) ih =
      let z : t p ≡ false = ap t q ∙ e in
      rw (picked-out t from k e) (ih ∙ ap (λ (s : Bool). (leb from p && ltb p (from + k)) && s) z ∙ both_false (leb from p && ltb p (from + k))
      ∙ sym (ap (λ (s : Bool). (leb from p && ltb p (from + (k + 1))) && s) z ∙ both_false (leb from p && ltb p (from + (k + 1)))))
  has-next k p (inr e) (inr n) ih = rw (picked-out t from k e, apart k p n) ih

  -- p is one of them exactly when it is one of the k numbers from `from` on and t holds of it
  pub picked-has : (k p : ℕ) → is_one_of p (picked t from k) ≡ (leb from p && ltb p (from + k)) && t p
  picked-has zero p = rw (picked_none t from) (none (decided (leb from p)))
    where
      none : (leb from p ≡ true) ⊎ (leb from p ≡ false) → false ≡ (leb from p && ltb p (from + 0)) && t p
      none (inl e) = rw (e, le-ltb p (from + 0) (omega (arith, leb-true from p e)))
      none (inr e) = rw e
  picked-has (suc k) p = rw (sym (add-one k)) (has-next k p (decided (t (from + k))) (alike p (from + k)) (picked-has k p))

-- ---- ascending
-- every number of the list is below x
abbrev Below : ℕ → List ℕ → Type 0
Below x [] = Unit
Below x (y ∷ ys) = (y < x) × Below x ys

below_more : (x z : ℕ) (ys : List ℕ) → x ≤ z → Below x ys → Below z ys
below_more x z [] h b = tt
below_more x z (y ∷ ys) h b = (omega arith, below_more x z ys h b.1)

below-snoc : (x : ℕ) (ys : List ℕ) (y : ℕ) → Below x ys → y < x → Below x (ys ++ (y ∷ []))
below-snoc x [] y b h = (h, tt)
below-snoc x (z ∷ ys) y b h = (b.0, below-snoc x ys y b.1 h)

above-snoc : (x : ℕ) (ys : List ℕ) (y : ℕ) → Above x ys → x < y → Above x (ys ++ (y ∷ []))
above-snoc x [] y a h = (h, tt)
above-snoc x (z ∷ ys) y a h = (a.0, above-snoc x ys y a.1 h)

ascending-snoc : (xs : List ℕ) (y : ℕ) → Ascending xs → Below y xs → Ascending (xs ++ (y ∷ []))
ascending-snoc [] y a b = (tt, tt)
ascending-snoc (x ∷ xs) y a b = (above-snoc x xs y a.0 b.0, ascending-snoc xs y a.1 b.1)

picked-ascending : (t : ℕ → Bool) (from k : ℕ) → Ascending (picked t from k) × Below (from + k) (picked t from k)
picked-ascending t from zero = rw (picked_none t from) (tt, tt)
picked-ascending t from (suc k) =
    let ih = picked-ascending t from k in
    let more = below_more (from + k) (from + (k + 1)) (picked t from k) (omega arith) ih.1 in
    rw (sym (add-one k))
    (⊎_elim
    (λ (e : t (from + k) ≡ true). rw (picked-in t from k e)
    (ascending-snoc (picked t from k) (from + k) ih.0 ih.1, below-snoc (from + (k + 1)) (picked t from k) (from + k) more (omega arith)))
    (λ (e : t (from + k) ≡ false). rw (picked-out t from k e) (ih.0, more))
    (decided (t (from + k))))

-- ---- THE LIST HAS THE REGISTERS ASKED FOR, AND NO OTHER LIST HAS THEM SO
-- a number is one of those of N to `to` exactly where its station is
span : (n to p : ℕ) → leb (16 * n) p && ltb p (16 * n + places_of n to) ≡ within n (p / 16) to
span n to p = both (decided (leb n (p / 16))) (decided (leb (p / 16) to))
  where
    both : (leb n (p / 16) ≡ true) ⊎ (leb n (p / 16) ≡ false) → (leb (p / 16) to ≡ true) ⊎ (leb (p / 16) to ≡ false)
        → leb (16 * n) p && ltb p (16 * n + places_of n to) ≡ within n (p / 16) to
    both (inl a) (inl b) =
        let l = leb-true n (p / 16) a in
        let h = leb-true (p / 16) to b in
        rw (a, b, le-leb (16 * n) p (omega (arith, l)), lt-ltb p (16 * n + 16 * (to + 1 - n)) (omega (arith, l, h)))
    both (inl a) (inr b) =
        let l = leb-true n (p / 16) a in
        let h = leb-false (p / 16) to b in
        rw (a, b, le-leb (16 * n) p (omega (arith, l)), le-ltb p (16 * n + 16 * (to + 1 - n)) (omega (arith, l, h)))
    both (inr a) b = rw (a, lt-leb (16 * n) p (omega (arith, leb-false n (p / 16) a)))

pub within-listing : WithinListing
unfolding within_of
within-listing m n to lo hi = record {
  exact = λ p. picked-has (is_inside m lo hi) (16 * n) (16 * (to + 1 - n)) p ∙ ap (λ (s : Bool). s && is_inside m lo hi p) (span n to p);
  ascending = (picked-ascending (is_inside m lo hi) (16 * n) (16 * (to + 1 - n))).0;
}

-- what is above all of a list is none of it
above-not : (x : ℕ) (ys : List ℕ) → Above x ys → is_one_of x ys ≡ false
above-not x [] a = refl
above-not x (y ∷ ys) a = rw (ne_eqb x y (λ e. omega arith), above-not x ys a.1)

above-has : (x : ℕ) (ys : List ℕ) (p : ℕ) → Above x ys → is_one_of p ys ≡ true → x < p
above-has x [] p a h = absurd (true≢false (sym h))
above-has x (y ∷ ys) p a h = ⊎_elim (λ (e : p ≡ y). omega arith) (above-has x ys p a.1) (one-of-first p y ys h)

same_head : (x y : ℕ) (xs ys : List ℕ) → Above x xs → Above y ys → ((p : ℕ) → is_one_of p (x ∷ xs) ≡ is_one_of p (y ∷ ys)) → x ≡ y
same_head x y xs ys a b h = ⊎_elim (λ e. e) (λ n. absurd (lost n)) (alike x y)
  where
    lost : (x ≡ y → ⊥) → ⊥
    lost n =
        let p : is_one_of x ys ≡ true = (sym (rw (eq-eqb x x refl, ne_eqb x y n) at (h x))) in
        let q : is_one_of y xs ≡ true = (rw (eq-eqb y y refl, ne_eqb y x (λ e. n (sym e))) at (h y)) in
        omega (arith, above-has y ys x b p, above-has x xs y a q)

-- two ascending lists of the same numbers are the same
pub ascending-only : (xs ys : List ℕ) → Ascending xs → Ascending ys → ((p : ℕ) → is_one_of p xs ≡ is_one_of p ys) → xs ≡ ys
ascending-only [] [] a b h = refl
ascending-only [] (y ∷ ys) a b h = absurd (true≢false (sym (rw (eq-eqb y y refl) at (h y))))
ascending-only (x ∷ xs) [] a b h = absurd (true≢false (rw (eq-eqb x x refl) at (h x)))
ascending-only (x ∷ xs) (y ∷ ys) a b h =
    let e = same_head x y xs ys a.0 b.0 h in
    ap₂ (λ (u : ℕ) (us : List ℕ). u ∷ us) e
    (ascending-only xs ys a.1 b.1 (λ p. rest p e (alike p x)))
  where
    rest : (p : ℕ) → x ≡ y → (p ≡ x) ⊎ (p ≡ x → ⊥) → is_one_of p xs ≡ is_one_of p ys
    rest p e (inl q) = rw (q) (above-not x xs a.0 ∙ sym (rw e (above-not y ys b.0)))
    rest p e (inr n) = rw (ne_eqb p x n, ne_eqb p y (λ q. n (q ∙ sym e))) at (h p)

pub only-listing : OnlyListing
only-listing m n to lo hi ps l =
    let w = within-listing m n to lo hi in
    ascending-only ps (within_of m n to lo hi) l.ascending w.ascending (λ p. l.exact p ∙ sym (w.exact p))

-- ---- a buffer keeps its length
pub within-long : (m : List ℕ) (n to lo hi : ℕ) (b : List ℕ) → places_of n to ≤ length b → length (listed_in (within_of m n to lo hi) b) ≡ length b
unfolding within_of
within-long m n to lo hi b h = listed-long (is_inside m lo hi) (16 * n) (places_of n to) b _ h refl
