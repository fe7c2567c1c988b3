-- The loops of the code: the next step that a watch sees, the two cursors of a watch, the watches one after the other, and where a step stands.
-- Assumes nothing.
use mathlib.Core.Path.{◌≡◌, refl, sym, ap, ap₂, ◌∙◌, subst}
use mathlib.Core.Bool.{Bool, true, false, cond}
use mathlib.Core.Logic.{◌⊎◌, inl, inr}
use mathlib.Core.List.{List, [], ◌∷◌, ◌++◌, append-nil, append_assoc}
use Prim.Native.Nat.{ℕ, zero, suc, ◌+◌, ◌-◌, ◌≤◌, ◌<◌}
use native.Mathlib.Nat.{le_of_suc-le-suc, eq-or-lt_of_le}
use native.Mathlib.Numerals.{add-one}
use native.Mathlib.Decide.{dec_lt}
use native.Mathlib.Omega.{arith}
use lib.ListN.{length, drop, length-append}
use lib.Seq.{drop_at}
use Rattle.verdict.specs.Watches.{only, last_watch, Watch}
use Rattle.verdict.specs.Counted.{see, count, step_at, firsts, past, seen_to, seen, is_refused, refused_to}
use Rattle.verdict.specs.Compared.{Next, Parts, Watched, Stands, Compared}
use Rattle.verdict.specs.declared.Parted.{Parted}
use Rattle.verdict.proofs.Trace.{only-in, only_out, head-is}
use Rattle.verdict.proofs.Promises.{promised, seen_alike}
use denote.Param.Members.{Mut, Called}
use Rattle.std.specs.Iterator.Runs.{Run, SomeRun, ItemsCountUp, CallKeepsClosure, AllItemsGive, IsFirstToGive}
use Rattle.std.specs.declared.ops.RangeInclusive.{RangeInclusive}
use Rattle.std.specs.Range.{range_inclusive_start, range_inclusive_end, range_inclusive_exhausted}
use Rattle.std.proofs.iter.runs.Sources.{nat_range_inclusive_steps, inclusive_listed}
use Rattle.std.specs.List.{filter, range_with_len}
use Rattle.std.specs.Option.{unwrap_or}
use Rattle.std.proofs.lemmas.List.Elements.{filter-append}
use Rattle.std.specs.Prelude.{Ok, Err, is_err, Option, None, Some, MatchOption, IfSome, IsSomeAnd, IsTrue, option_map}
use Rattle.step.specs.Results.{Reading}

-- ---- a list's first steps

firsts_more : (ws : List ℕ) (k : ℕ) → firsts (step_at ws) (k + 1) ≡ firsts (step_at ws) k ++ (step_at ws k ∷ [])
unfolding firsts
firsts_more ws k = rw (add-one k)

only-append : {A : Type 0} (f : A → Bool) (xs ys : List A) → only f (xs ++ ys) ≡ only f xs ++ only f ys
only-append f [] ys = refl
only-append f (x ∷ xs) ys = go (f x) (only-append f xs ys)
  where
    go : (b : Bool) → only f (xs ++ ys) ≡ only f xs ++ only f ys
        → cond b (x ∷ only f (xs ++ ys)) (only f (xs ++ ys)) ≡ cond b (x ∷ only f xs) (only f xs) ++ only f ys
    go true ih = ap (λ l. x ∷ l) ih
    go false ih = ih

firsts-in : (ws : List ℕ) (k i : ℕ) → see k (step_at ws i) ≡ true → seen_to k ws (i + 1) ≡ seen_to k ws i ++ (step_at ws i ∷ [])
firsts-in ws k i t =
    ap (only (see k)) (firsts_more ws i) ∙ only-append (see k) (firsts (step_at ws) i) (step_at ws i ∷ [])
    ∙ ap (λ l. seen_to k ws i ++ l) (only-in (see k) past (step_at ws i) [] t)

firsts-out : (ws : List ℕ) (k i : ℕ) → see k (step_at ws i) ≡ false → seen_to k ws (i + 1) ≡ seen_to k ws i
firsts-out ws k i t =
    ap (only (see k)) (firsts_more ws i) ∙ only-append (see k) (firsts (step_at ws) i) (step_at ws i ∷ [])
    ∙ ap (λ l. seen_to k ws i ++ l) (only_out (see k) past (step_at ws i) [] t) ∙ append-nil (seen_to k ws i)

-- ---- how many are refused

refused-more : (ws : List ℕ) (i : ℕ) → refused_to ws (suc i) ≡ refused_to ws i + length (only is_refused (step_at ws i ∷ []))
refused-more ws i =
    ap (refused_to ws) (sym (add-one i)) ∙ ap length (ap (only is_refused) (firsts_more ws i) ∙ only-append is_refused (firsts (step_at ws) i) (step_at ws i ∷ []))
    ∙ length-append (only is_refused (firsts (step_at ws) i)) (only is_refused (step_at ws i ∷ []))

one-few : (r : Reading) → length (only is_refused (r ∷ [])) ≤ 1
one-few (Ok s) = omega arith
one-few (Err q) = omega arith

-- no more than there are steps
pub refused-few : (ws : List ℕ) (i : ℕ) → refused_to ws i ≤ i
unfolding firsts
refused-few ws zero = omega arith
refused-few ws (suc i) = omega (arith, refused-more ws i, refused-few ws i, one-few (step_at ws i))

places-more : (a n m : ℕ) → a + n ≡ m → range_with_len a (suc n) ≡ range_with_len a n ++ (m ∷ [])
places-more a zero m e = let f : a ≡ m = omega (arith, e) in ap (λ (k : ℕ). range_with_len k 1) f
places-more a (suc n) m e = ap (λ (l : List ℕ). a ∷ l) (places-more (a + 1) n m (omega (arith, e)))

-- the places of the refused among the first n steps
pub refused_places : (ws : List ℕ) (n : ℕ) → length (filter (λ i. is_err (step_at ws i)) (range_with_len 0 n)) ≡ refused_to ws n
unfolding firsts
refused_places ws zero = refl
refused_places ws (suc n) =
    ap length (ap (filter (λ i. is_err (step_at ws i))) (places-more 0 n n (omega arith)) ∙ filter-append (λ i. is_err (step_at ws i)) (range_with_len 0 n) (n ∷ []))
    ∙ length-append (filter (λ i. is_err (step_at ws i)) (range_with_len 0 n)) (filter (λ i. is_err (step_at ws i)) (n ∷ []))
    ∙ ap₂ (λ (a b : ℕ). a + b) (refused_places ws n) (one (step_at ws n) n) ∙ sym (refused-more ws n)
  where
    one : (r : Reading) (n : ℕ) → length (cond (is_err r) (n ∷ []) []) ≡ length (only is_refused (r ∷ []))
    one (Ok s) n = refl
    one (Err q) n = refl

-- ---- the next step that a watch sees

-- past steps that the watch does not see, it has seen no more
skipped : (ws : List ℕ) (k from n : ℕ) → from ≤ n → ((i : ℕ) → from ≤ i → i < n → see k (step_at ws i) ≡ false) → seen_to k ws n ≡ seen_to k ws from
skipped ws k from zero h none = let e : ◌≡◌ {A = ℕ} 0 from = omega (arith, h) in ap (λ (n : ℕ). seen_to k ws n) e
skipped ws k from (suc n) h none = go (eq-or-lt_of_le h) (λ l. skipped ws k from n l (λ i a b. none i a (omega (arith, b))))
  where
    go : (from ≡ suc n) ⊎ (from < suc n) → (from ≤ n → seen_to k ws n ≡ seen_to k ws from) → seen_to k ws (suc n) ≡ seen_to k ws from
    go (inl e) ih = ap (λ (n : ℕ). seen_to k ws n) (sym e)
    go (inr l) ih =
        ap (λ (n : ℕ). seen_to k ws n) (sym (add-one n)) ∙ firsts-out ws k n (none n (le_of_suc-le-suc l) (omega arith)) ∙ ih (le_of_suc-le-suc l)

pub next_found : (ws : List ℕ) (k from : ℕ) (r : Option ℕ) → from ≤ count ws
    → MatchOption r ((i : ℕ) → from ≤ i → i < count ws → see k (step_at ws i) ≡ false)
    (λ n. (from ≤ n) × (n < count ws) × (see k (step_at ws n) ≡ true) × ((i : ℕ) → from ≤ i → i < n → see k (step_at ws i) ≡ false))
    → Next ws k from (unwrap_or r (count ws))
next_found ws k from None l h = record { low = l; high = omega arith; skips = skipped ws k from (count ws) l h; here = λ b. absurd (omega (arith, b)) }
next_found ws k from (Some n) l h = record { low = h.0; high = omega (arith, h.1); skips = skipped ws k from n h.0 h.3; here = λ b. h.2 }

-- ---- the two cursors of a watch

pub record Walking (us ws : List ℕ) (k i j : ℕ) : Type 0 where
  pub first : i ≤ count us
  pub second : j ≤ count ws
  pub before : seen_to k us i ≡ seen_to k ws j

pub walking_start : (us ws : List ℕ) (k : ℕ) → Walking us ws k 0 0
unfolding firsts
walking_start us ws k = record { first = omega arith; second = omega arith; before = refl }

module _ (us ws : List ℕ) (k i j x y : ℕ) (s : Walking us ws k i j) (a : Next us k i x) (b : Next ws k j y) where
  so_far : seen_to k us x ≡ seen_to k ws y
  so_far = a.skips ∙ s.before ∙ sym b.skips

  pub walking-more : x < count us → y < count ws → step_at us x ≡ step_at ws y → Walking us ws k (x + 1) (y + 1)
  walking-more hx hy e = record {
    first = omega (arith, hx);
    second = omega (arith, hy);
    before =
        firsts-in us k x (a.here hx) ∙ ap (λ l. l ++ (step_at us x ∷ [])) so_far
        ∙ ap (λ t. seen_to k ws y ++ (t ∷ [])) e ∙ sym (firsts-in ws k y (b.here hy));
  }

-- ---- where lists part, they part for good

-- what a watch sees from place i on
pub rest_of : (ws : List ℕ) (k i c : ℕ) → i ≤ c → (l : List Reading) × (seen_to k ws c ≡ seen_to k ws i ++ l)
unfolding firsts
rest_of ws k i zero h = let e : ◌≡◌ {A = ℕ} 0 i = omega (arith, h) in ([], ap (λ (n : ℕ). seen_to k ws n) e ∙ sym (append-nil (seen_to k ws i)))
rest_of ws k i (suc c) h = go (eq-or-lt_of_le h) (λ l. rest_of ws k i c l)
  where
    go : (i ≡ suc c) ⊎ (i < suc c) → (i ≤ c → (l : List Reading) × (seen_to k ws c ≡ seen_to k ws i ++ l))
        → (l : List Reading) × (seen_to k ws (suc c) ≡ seen_to k ws i ++ l)
    go (inl e) ih = ([], ap (λ (n : ℕ). seen_to k ws n) (sym e) ∙ sym (append-nil (seen_to k ws i)))
    go (inr l) ih =
        let r : (l : List Reading) × (seen_to k ws c ≡ seen_to k ws i ++ l) = ih (le_of_suc-le-suc l) in (
          r.0 ++ only (see k) (step_at ws c ∷ []),
          only-append (see k) (firsts (step_at ws) c) (step_at ws c ∷ []) ∙ ap (λ t. t ++ only (see k) (step_at ws c ∷ [])) r.1
              ∙ append_assoc (seen_to k ws i) r.0 (only (see k) (step_at ws c ∷ [])),
        )

-- what it sees of the first c steps from place i on, where it sees the step there
abbrev pub FromPlace : List ℕ → ℕ → ℕ → ℕ → Type 0
FromPlace ws k i c = (l : List Reading) × (seen_to k ws c ≡ seen_to k ws i ++ (step_at ws i ∷ l))

pub from_place : (ws : List ℕ) (k i c : ℕ) → i < c → see k (step_at ws i) ≡ true → FromPlace ws k i c
from_place ws k i c h t =
    let r : (l : List Reading) × (seen_to k ws c ≡ seen_to k ws (i + 1) ++ l) = rest_of ws k (i + 1) c (omega (arith, h)) in
    (r.0, r.1 ∙ ap (λ p. p ++ r.0) (firsts-in ws k i t) ∙ append_assoc (seen_to k ws i) (step_at ws i ∷ []) r.0)

at-end : (ws : List ℕ) (k i : ℕ) → i ≡ count ws → seen k ws ≡ seen_to k ws i ++ []
at-end ws k i e = ap (λ (n : ℕ). seen_to k ws n) (sym e) ∙ sym (append-nil (seen_to k ws i))

pub cancel : (p q : List Reading) (xs ys : List Reading) → p ≡ q → p ++ xs ≡ q ++ ys → xs ≡ ys
cancel p q xs ys e h = sym (drop_at p xs (length p) refl) ∙ ap (λ l. drop (length p) l) h ∙ drop_at q ys (length p) (ap length (sym e))

cons-nil : (x : Reading) (xs : List Reading) → x ∷ xs ≡ [] → ⊥
cons-nil x xs e = let z : ◌≡◌ {A = ℕ} (suc (length xs)) 0 = ap length e in omega (arith, z)

pub parts-differ : (us ws : List ℕ) (k i j : ℕ) → Parts us ws k i j → seen k us ≡ seen k ws → ⊥
parts-differ us ws k i j p h = go (dec_lt i (count us)) (dec_lt j (count ws))
  where
    go : Dec (i < count us) → Dec (j < count ws) → ⊥
    go (yes a) (yes b) =
        let x : FromPlace us k i (count us) = from_place us k i (count us) a (p.seen_first a) in
        let y : FromPlace ws k j (count ws) = from_place ws k j (count ws) b (p.seen-second b) in
        p.apart a b (head-is (step_at us i) (step_at ws j) x.0 y.0
        (cancel (seen_to k us i) (seen_to k ws j) (step_at us i ∷ x.0) (step_at ws j ∷ y.0) p.before (sym x.1 ∙ h ∙ y.1)))
    go (yes a) (no b) =
        let x : FromPlace us k i (count us) = from_place us k i (count us) a (p.seen_first a) in
        cons-nil (step_at us i) x.0
        (cancel (seen_to k us i) (seen_to k ws j) (step_at us i ∷ x.0) [] p.before
        (sym x.1 ∙ h ∙ at-end ws k j (omega (arith, b, p.second))))
    go (no a) (yes b) =
        let y : FromPlace ws k j (count ws) = from_place ws k j (count ws) b (p.seen-second b) in
        cons-nil (step_at ws j) y.0
        (sym (cancel (seen_to k us i) (seen_to k ws j) [] (step_at ws j ∷ y.0) p.before
        (sym (at-end us k i (omega (arith, a, p.first))) ∙ h ∙ y.1)))
    go (no a) (no b) = neither p.one
      where
        neither : (i < count us) ⊎ (j < count ws) → ⊥
        neither (inl c) = a c
        neither (inr c) = b c

-- ---- the watches one after the other

-- the watches below k see the same
abbrev pub Below : List ℕ → List ℕ → ℕ → Type 0
Below us ws k = (n : ℕ) → 1 ≤ n → n < k → seen n us ≡ seen n ws

-- what a run of calls over the numbers from a first to a last says of each of them
module _ (p : Run nat_range_inclusive_steps) (fresh : range_inclusive_exhausted p.from ≡ false) where
  abbrev low : ℕ
  low = range_inclusive_start p.from

  abbrev high : ℕ
  high = range_inclusive_end p.from

  unmapped : (o : Option ℕ) (n : ℕ) → option_map (λ y. y) o ≡ Some n → o ≡ Some n
  unmapped None n e = cc
  unmapped (Some x) n e = e

  counts : (p.len ≤ high + 1 - low) × (p.whole ≡ true → p.len ≡ high + 1 - low) × ((k : ℕ) → k < p.len → p.at k ≡ Some (low + k))
  counts =
      let h = inclusive_listed p p.seen in
      let up : ItemsCountUp p h.0 h.1 = (h.4 fresh).0 in (
        omega (arith, up.0, h.2, h.3),
        λ w. omega (arith, up.1 w, h.2, h.3),
        λ k l. unmapped (p.at k) (low + k) (up.3 k l ∙ ap (λ (a : ℕ). Some (a + k)) h.2),
      )

  one_number : (P : ℕ → Type 0) (k : ℕ) → k < p.len → IfSome (p.at k) P → P (low + k)
  one_number P k l h = subst (λ (o : Option ℕ). IfSome o P) (counts.2 k l) h

  that_number : (P : ℕ → Type 0) (k : ℕ) → k < p.len → IsSomeAnd (p.at k) P → P (low + k)
  that_number P k l h = subst (λ (o : Option ℕ). IsSomeAnd o P) (counts.2 k l) h

-- the first watch of those up to the last that parts
module _ (us ws : List ℕ) {F : Type 0} (g : Mut F (ℕ × Unit {0}) (Option Parted)) (f : F) (keeps : CallKeepsClosure g f)
    (says : (k : ℕ) (v : Option Parted) (q : F) → Called g f (k, tt) v q → Watched us ws k v) where
  pub compared_found : (s : RangeInclusive ℕ) (v : Option Parted) → range_inclusive_start s ≡ 1 → range_inclusive_end s ≡ last_watch → range_inclusive_exhausted s ≡ false
      → SomeRun nat_range_inclusive_steps s
      (λ p. MatchOption v (IsTrue p.whole × AllItemsGive p g f None) (λ y. (i : ℕ) × (i < p.len) × (p.len ≡ i + 1) × IsFirstToGive p g f (Some y) None i))
      → Compared us ws v
  compared_found s v begins ends fresh (p, e, h) = go v h
    where
      new : range_inclusive_exhausted p.from ≡ false
      new = ap range_inclusive_exhausted e ∙ fresh

      first : range_inclusive_start p.from ≡ 1
      first = ap range_inclusive_start e ∙ begins

      last : range_inclusive_end p.from ≡ last_watch
      last = ap range_inclusive_end e ∙ ends

      -- the call at place k is at watch k + 1
      said : (v : Option Parted) (k n : ℕ) → n ≡ k + 1 → Called g f (range_inclusive_start p.from + k, tt) v f → Watched us ws n v
      said v k n i c =
          subst (λ (x : ℕ). Watched us ws x v) {x = range_inclusive_start p.from + k} {y = n} (omega (arith, first, i)) (says (range_inclusive_start p.from + k) v f c)

      go : (v : Option Parted)
          → MatchOption v (IsTrue p.whole × AllItemsGive p g f None) (λ y. (i : ℕ) × (i < p.len) × (p.len ≡ i + 1) × IsFirstToGive p g f (Some y) None i)
          → Compared us ws v
      go None h = (alike, promised us ws alike)
        where
          alike : (n : ℕ) → Watch n → seen n us ≡ seen n ws
          alike n b =
              let long : p.len ≡ last_watch = omega (arith, (counts p new).1 h.0, first, last) in
              let l : n - 1 < p.len = omega (arith, b.0, b.1, long) in
              said None (n - 1) n (omega (arith, b.0)) (one_number p new (λ (x : ℕ). Called g f (x, tt) None f) (n - 1) l (h.1 keeps (n - 1))) b
      go (Some d) (i, l, m, t) =
          let hit : Watched us ws (i + 1) (Some d) = said (Some d) i (i + 1) refl (that_number p new (λ (x : ℕ). Called g f (x, tt) (Some d) f) i l (t keeps).0) in
          let w : Watched us ws d.watch (Some d) = subst (λ (x : ℕ). Watched us ws x (Some d)) (sym hit.1) hit in (
            w.0,
            λ n a b.
                let c : n - 1 < i = omega (arith, a, b, hit.1) in
                said None (n - 1) n (omega (arith, a))
                (that_number p new (λ (x : ℕ). Called g f (x, tt) None f) (n - 1) (omega (arith, c, l)) ((t keeps).1 (n - 1) c))
                (a, omega (arith, b, w.0.1)),
            w.2,
            λ q r. parts-differ us ws d.watch d.first d.second w.2 (seen_alike us ws q r d.watch w.0),
          )

-- ---- where a step stands
pub stands_found : (us : List ℕ) (i : ℕ) (ws : List ℕ) (from : ℕ) (r : Option ℕ) → i < count us
    → MatchOption r ((j : ℕ) → from ≤ j → j < count ws → step_at us i ≡ step_at ws j → ⊥)
    (λ n. (from ≤ n) × (n < count ws) × (step_at us i ≡ step_at ws n) × ((j : ℕ) → from ≤ j → j < n → step_at us i ≡ step_at ws j → ⊥))
    → Stands us i ws from (unwrap_or r (count ws))
stands_found us i ws from None l h = record { high = omega arith; here = λ b. absurd (omega (arith, b)); before = λ j a b c. h j a b }
stands_found us i ws from (Some n) l h = record { high = omega (arith, h.1); here = λ b. (h.0, l, h.2); before = λ j a b c. h.3 j a b }
