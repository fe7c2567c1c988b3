-- The requesting stations among the first k: one station more is the last of them, or none. So count and first are read off the list.
-- Assumes nothing.
use Prim.Native.Nat.{ℕ, zero, suc, ◌+◌, ◌*◌, ◌≤◌, ◌<◌}
use mathlib.Core.Path.{◌≡◌, refl, sym, ap, ◌∙◌}
use mathlib.Core.Bool.{Bool, cond}
use mathlib.Core.List.{List, [], ◌∷◌, ◌++◌}
use native.Mathlib.Decide.{dec_lt, ℕ_discrete}
use native.Mathlib.Omega.{arith}
use borrow.Author.Tests.{ne_eqb, lt-ltb}
use lib.Dec.{eqb}
use lib.ListN.{length, get_or, length-append, get_or-append}
use lib.Seq.{get_or_at}
use Rattle.blocks.specs.Blocks.{block_of}
use Rattle.station.specs.Block.{request_of}
use Rattle.dataway.specs.Lam.{is_requesting, requests, count_to, first_from, lam_of}
use Rattle.dataway.proofs.LamLaws.{first_to, first-suc}
use Rattle.dataway.specs.Asking.{Asks, CountAndFirst}

module _ (m : List ℕ) where
  -- the same of stations 1 to k
  record To (k : ℕ) (ns : List ℕ) : Type 0 where
    only : (i : ℕ) → i < length ns → (1 ≤ get_or ns i 0) × (get_or ns i 0 ≤ k) × Asks m (get_or ns i 0)
    each : (n : ℕ) → 1 ≤ n → n ≤ k → Asks m n → (i : ℕ) × (i < length ns) × (get_or ns i 0 ≡ n)
    rising : (i j : ℕ) → i < j → j < length ns → get_or ns i 0 < get_or ns j 0
    count : count_to k m ≡ length ns
    first : first_to m k ≡ get_or ns 0 0

  -- station k + 1 does not request
  module _ (k : ℕ) (ns : List ℕ) (t : To k ns) (e : request_of (block_of m (suc k)) ≡ 0) where
    not-asked : requests m (suc k) ≡ 0
    unfolding requests is_requesting
    not-asked = simp e

    first-same : (x : ℕ) → first_to m k ≡ x → first_to m (suc k) ≡ x
    first-same x f = first-suc m k ∙ rw not-asked (rw f (pick x))
      where
        pick : (x : ℕ) → cond (eqb x 0) (0 * suc k) x ≡ x
        pick zero = omega arith
        pick (suc x) = ap (λ (b : Bool). cond b (0 * suc k) (suc x)) (ne_eqb (suc x) 0 (λ z. omega arith))

    without : To (suc k) ns
    unfolding count_to
    without = record {
      only = λ i l. let h = t.only i l in (h.0, omega (arith, h.1), h.2);
      each = λ n lo hi a. elim (ℕ_discrete n (suc k)) [
        | yes p ↦ absurd (let z : 1 ≤ request_of (block_of m (suc k)) = rw p at a in omega arith)
        | no p ↦ t.each n lo (omega arith) a
      ];
      rising = t.rising;
      count = rw not-asked (omega (arith, t.count));
      first = first-same (get_or ns 0 0) t.first;
    }

  -- it does
  module _ (k : ℕ) (ns : List ℕ) (t : To k ns) (e : request_of (block_of m (suc k)) ≡ 0 → ⊥) where
    asked : requests m (suc k) ≡ 1
    unfolding requests is_requesting
    asked = simp (lt-ltb 0 (request_of (block_of m (suc k))) (omega arith))

    abbrev more : List ℕ
    more = ns ++ (suc k ∷ [])

    long : length more ≡ length ns + 1
    long = length-append ns (suc k ∷ [])

    old : (i : ℕ) → i < length ns → get_or more i 0 ≡ get_or ns i 0
    old i l = get_or-append ns (suc k ∷ []) 0 i l

    new : (i : ℕ) → i ≡ length ns → get_or more i 0 ≡ suc k
    new i p = get_or_at ns (suc k) [] 0 i (sym p)

    only-more : (i : ℕ) → i < length more → (1 ≤ get_or more i 0) × (get_or more i 0 ≤ suc k) × Asks m (get_or more i 0)
    only-more i l =
        elim (dec_lt i (length ns)) [
          | yes p ↦ let h = t.only i p in rw (old i p) (h.0, omega (arith, h.1), h.2)
          | no p ↦ let q : i ≡ length ns = omega (arith, long) in rw (new i q) (omega arith, omega arith, omega arith)
        ]

    rising-more : (i j : ℕ) → i < j → j < length more → get_or more i 0 < get_or more j 0
    rising-more i j b l =
        elim (dec_lt j (length ns)) [
          | yes p ↦ let q : i < length ns = omega arith in rw (old i q, old j p) (t.rising i j b p)
          | no p ↦
              let q : i < length ns = omega (arith, long) in
              let r : j ≡ length ns = omega (arith, long) in
              rw (old i q, new j r) (omega (arith, (t.only i q).1))
        ]

    each_more : (n : ℕ) → 1 ≤ n → n ≤ suc k → Asks m n → (i : ℕ) × (i < length more) × (get_or more i 0 ≡ n)
    each_more n lo hi a =
        elim (ℕ_discrete n (suc k)) [
          | yes p ↦ (length ns, omega (arith, long), new (length ns) refl ∙ sym p)
          | no p ↦ let h = t.each n lo (omega arith) a in (h.0, omega (arith, h.1, long), old h.0 h.1 ∙ h.2)
        ]

    first_more : first_to m (suc k) ≡ get_or more 0 0
    first_more =
        first-suc m k
        ∙ elim (dec_lt 0 (length ns)) [
          | yes p ↦
              let h : 1 ≤ get_or ns 0 0 = (t.only 0 p).0 in
              rw (t.first, ne_eqb (get_or ns 0 0) 0 (λ z. omega arith), old 0 p)
          | no p ↦
              let q : 0 ≡ length ns = omega arith in
              let z : get_or ns 0 0 ≡ 0 = nothing ns q in
              rw (t.first, z, asked, new 0 q) (omega arith)
        ]
      where
        nothing : (l : List ℕ) → 0 ≡ length l → get_or l 0 0 ≡ 0
        nothing [] h = refl
        nothing (x ∷ l) h = absurd (omega arith)

    with : To (suc k) more
    unfolding count_to
    with = record {
      only = only-more;
      each = each_more;
      rising = rising-more;
      count = rw asked (omega (arith, t.count, long));
      first = first_more;
    }

  asking-to : (k : ℕ) → (ns : List ℕ) × To k ns
  unfolding count_to first_from
  asking-to zero = (
    [],
    record {
      only = λ i l. absurd (omega arith);
      each = λ n lo hi a. absurd (omega arith);
      rising = λ i j b l. absurd (omega arith);
      count = refl;
      first = refl;
    },
  )
  asking-to (suc k) =
      let h = asking-to k in
      elim (ℕ_discrete (request_of (block_of m (suc k))) 0) [
        | yes e ↦ (h.0, without k h.0 h.1 e)
        | no e ↦ (h.0 ++ (suc k ∷ []), with k h.0 h.1 e)
      ]

pub count-and-first : CountAndFirst
unfolding lam_of
count-and-first m =
    let h = asking-to m 23 in
    (h.0, record { only = h.1.only; each = h.1.each; rising = h.1.rising }, h.1.count, h.1.first)
