-- That the claim is about something: sample steps that obey the law, a list of them with a rearrangement that moves steps, lists that are no
-- rearrangements whatever places are named, and two lists that, for want of the order, do not end alike.
-- Assumes nothing.
use mathlib.Core.Path.{◌≡◌, refl, sym, ap, ◌∙◌}
use mathlib.Core.Bool.{Bool, true, false, cond, ◌&&◌, and-eq-true_iff}
use mathlib.Core.List.{List, [], ◌∷◌}
use Prim.Native.Nat.{ℕ, zero, suc, ◌≤◌, ◌<◌}
use native.Mathlib.Omega.{arith}
use borrow.Author.Tests.{eqb-true, eq-eqb, leb-true}
use lib.Dec.{eqb, leb}
use lib.ListN.{length, get_or, set, length-set}
use lib.Seq.{get_or-set_same}
use Rattle.blocks.specs.Blocks.{inhibit_of, block_of, with_block}
use Rattle.blocks.proofs.Blocks.{length-block, length-with}
use Rattle.regroup.specs.Local.{Local}
use Rattle.regroup.specs.Lists.{Common, Rearranged, Law, Alike}
use Rattle.regroup.proofs.Local.{local-none, local-all, local-one}
use Rattle.regroup.proofs.Whole.{as_long, step-at, regroup}

-- ---- the steps

-- an event at station n, refused where there is no such station, and the step that sets Inhibit
pub data Sample : Type 0 where
  event : ℕ → Sample
  inhibit : Sample

-- an event touches its station, so a refused one none of the 23, and Inhibit touches them all
abbrev pub touches : Sample → ℕ → Bool
touches (event n) k = eqb n k
touches inhibit k = true

-- an event counts in word 16 of its station's block unless Inhibit is set
abbrev pub counted : ℕ → List ℕ → List ℕ
counted i b = cond (eqb i 0) (set b 16 (suc (get_or b 16 0))) b

-- and gives back the new count, or 0
abbrev pub count : ℕ → List ℕ → ℕ
count i b = cond (eqb i 0) (suc (get_or b 16 0)) 0

abbrev pub is_station : ℕ → Bool
is_station n = leb 1 n && leb n 23

abbrev pub does : List ℕ → Sample → List ℕ
does m (event n) = cond (is_station n) (with_block m n (counted (inhibit_of m) (block_of m n))) m
does m inhibit = set m 0 1

-- (the step that sets Inhibit gives back what it was)
abbrev pub gives : List ℕ → Sample → ℕ
gives m (event n) = cond (is_station n) (count (inhibit_of m) (block_of m n)) 0
gives m inhibit = inhibit_of m

-- here every memory of 768 words is fit
abbrev pub Fit : List ℕ → Type 0
Fit m = length m ≡ 768

-- ---- their law

counted-length : (i : ℕ) (b : List ℕ) → length b ≡ 32 → length (counted i b) ≡ 32
counted-length i b l = go (eqb i 0)
  where
    go : (t : Bool) → length (cond t (set b 16 (suc (get_or b 16 0))) b) ≡ 32
    go true = length-set b 16 (suc (get_or b 16 0)) ∙ l
    go false = l

local-sample : (s : Sample) → Local Fit (touches s) (λ (m : List ℕ). does m s) (λ (m : List ℕ). gives m s)
local-sample (event n) = go (is_station n) refl
  where
    long : (m : List ℕ) → n ≤ 23 → Fit m → length (counted (inhibit_of m) (block_of m n)) ≡ 32
    long m b f = counted-length (inhibit_of m) (block_of m n) (length-block m n f (omega arith))

    go : (t : Bool) → is_station n ≡ t
        → Local Fit (eqb n) (λ (m : List ℕ). cond t (with_block m n (counted (inhibit_of m) (block_of m n))) m)
        (λ (m : List ℕ). cond t (count (inhibit_of m) (block_of m n)) 0)
    go false e = local-none Fit (λ m f. f) (eqb n) 0
    go true e =
        let h = (and-eq-true_iff (leb 1 n) (leb n 23)).0 e in
        let low : 1 ≤ n = leb-true 1 n h.0 in
        let high : n ≤ 23 = leb-true n 23 h.1 in
        local-one Fit (λ m f. f) (eqb n) n low high (eq-eqb n n refl) counted count (λ m f. long m high f)
        (λ m f. length-with m n (counted (inhibit_of m) (block_of m n)) f (omega arith) (long m high f))
local-sample inhibit =
    local-all Fit (λ m f. f) (λ (k : ℕ). true) (λ (m : List ℕ). set m 0 1) inhibit_of (λ n a b. refl)
    (λ m f. length-set m 0 1 ∙ f)

pub law : Law does gives Fit touches
law = record { size = λ m f. f; local = local-sample }

-- ---- a rearrangement

abbrev pub first : List Sample
first = event 3 ∷ event 5 ∷ inhibit ∷ event 24 ∷ []

abbrev pub second : List Sample
second = event 24 ∷ event 5 ∷ event 3 ∷ inhibit ∷ []

abbrev pub places : List ℕ
places = 3 ∷ 1 ∷ 0 ∷ 2 ∷ []

-- the refused event passes all the others, and the events at stations 3 and 5 change places; neither passes Inhibit
pub sample : (d : Sample) → Rearranged touches d first second places
sample d = record { second = refl; places = below; each = every; once = once; order = order }
  where
    below : (k : ℕ) → k < 4 → get_or places k 0 < 4
    below zero h = omega arith
    below (suc zero) h = omega arith
    below (suc (suc zero)) h = omega arith
    below (suc (suc (suc zero))) h = omega arith
    below (suc (suc (suc (suc k)))) h = absurd (omega arith)

    every : (i : ℕ) → i < 4 → (k : ℕ) × (k < 4) × (get_or places k 0 ≡ i)
    every zero h = (2, omega arith, refl)
    every (suc zero) h = (1, omega arith, refl)
    every (suc (suc zero)) h = (3, omega arith, refl)
    every (suc (suc (suc zero))) h = (0, omega arith, refl)
    every (suc (suc (suc (suc i)))) h = absurd (omega arith)

    -- where each step of the first list stands in the second
    back : ℕ → ℕ
    back i = get_or (2 ∷ 1 ∷ 3 ∷ 0 ∷ []) i 0

    there : (k : ℕ) → k < 4 → back (get_or places k 0) ≡ k
    there zero h = refl
    there (suc zero) h = refl
    there (suc (suc zero)) h = refl
    there (suc (suc (suc zero))) h = refl
    there (suc (suc (suc (suc k)))) h = absurd (omega arith)

    once : (j k : ℕ) → j < 4 → k < 4 → get_or places j 0 ≡ get_or places k 0 → j ≡ k
    once j k a b e = sym (there j a) ∙ ap back e ∙ there k b

    order : (j k : ℕ) → j < k → k < 4 → Common touches (get_or second j d) (get_or second k d) → get_or places j 0 < get_or places k 0
    order zero k a b c = absurd (omega (arith, eqb-true 24 c.0 c.3, c.2))
    order (suc zero) (suc (suc zero)) a b c = absurd (omega (arith, eqb-true 5 c.0 c.3, eqb-true 3 c.0 c.4))
    order (suc zero) (suc (suc (suc zero))) a b c = omega arith
    order (suc (suc zero)) (suc (suc (suc zero))) a b c = omega arith
    order (suc j) zero a b c = absurd (omega arith)
    order (suc j) (suc zero) a b c = absurd (omega arith)
    order (suc (suc j)) (suc (suc zero)) a b c = absurd (omega arith)
    order (suc (suc (suc j))) (suc (suc (suc zero))) a b c = absurd (omega arith)
    order (suc j) (suc (suc (suc (suc k)))) a b c = absurd (omega arith)

-- and so the two lists end alike, from any memory
pub sample-alike : (m : List ℕ) → length m ≡ 768 → Alike does gives m first second places
sample-alike m f = regroup does gives Fit touches law inhibit m f first second places (sample inhibit)

-- ---- no rearrangements

-- an event may not pass Inhibit: both touch station 3
pub no-sample : (d : Sample) (p : List ℕ) → Rearranged touches d (event 3 ∷ inhibit ∷ []) (inhibit ∷ event 3 ∷ []) p → ⊥
no-sample d p r =
    let l : 2 ≡ length p = as_long touches d (event 3 ∷ inhibit ∷ []) (inhibit ∷ event 3 ∷ []) p r in
    let up : get_or p 0 0 < get_or p 1 0 = r.order 0 1 (omega arith) (omega arith) (3, omega arith, omega arith, refl, refl) in
    let e : get_or p 0 0 ≡ 0 = omega (arith, r.places 1 (omega arith)) in
    let s : inhibit ≡ event 3 = rw e at (step-at touches d (event 3 ∷ inhibit ∷ []) (inhibit ∷ event 3 ∷ []) p r 0 (omega arith)) in
    let z : ◌≡◌ {A = ℕ} 0 1 = cc in
    omega arith

-- and with good reason: the event counts before Inhibit is set, and no more after it
pub no-alike : (m : List ℕ) → length m ≡ 768 → inhibit_of m ≡ 0
    → Alike does gives m (event 3 ∷ inhibit ∷ []) (inhibit ∷ event 3 ∷ []) (1 ∷ 0 ∷ []) → ⊥
no-alike m l off a =
    let e : gives (set m 0 1) (event 3) ≡ gives m (event 3) = ap (λ (o : List ℕ). get_or o 1 0) (a.1 0) in
    let set-now : inhibit_of (set m 0 1) ≡ 1 = get_or-set_same m 0 1 0 (omega arith) in
    let z : 0 ≡ suc (get_or (block_of m 3) 16 0) = rw (set-now, off) at e in
    omega arith

-- one event twice in place of another: the other is nowhere
pub twice : (d : Sample) (p : List ℕ) → Rearranged touches d (event 3 ∷ event 5 ∷ []) (event 3 ∷ event 3 ∷ []) p → ⊥
twice d p r = go q.0 (omega (arith, q.1, l)) is-5
  where
    l : 2 ≡ length p
    l = as_long touches d (event 3 ∷ event 5 ∷ []) (event 3 ∷ event 3 ∷ []) p r

    q : (k : ℕ) × (k < length p) × (get_or p k 0 ≡ 1)
    q = r.each 1 (omega arith)

    is-5 : get_or (event 3 ∷ event 3 ∷ []) q.0 d ≡ event 5
    is-5 =
        step-at touches d (event 3 ∷ event 5 ∷ []) (event 3 ∷ event 3 ∷ []) p r q.0 q.1
        ∙ ap (λ (i : ℕ). get_or (event 3 ∷ event 5 ∷ []) i d) q.2

    go : (k : ℕ) → k < 2 → get_or (event 3 ∷ event 3 ∷ []) k d ≡ event 5 → ⊥
    go zero h e = let z : ◌≡◌ {A = ℕ} 3 5 = cc in omega arith
    go (suc zero) h e = let z : ◌≡◌ {A = ℕ} 3 5 = cc in omega arith
    go (suc (suc k)) h e = absurd (omega arith)

-- one event once more, though it is refused and its place does not matter
pub again : (d : Sample) (p : List ℕ) → Rearranged touches d (event 24 ∷ []) (event 24 ∷ event 24 ∷ []) p → ⊥
again d p r =
    let l : 2 ≡ length p = as_long touches d (event 24 ∷ []) (event 24 ∷ event 24 ∷ []) p r in
    let e : get_or p 0 0 ≡ get_or p 1 0 = omega (arith, r.places 0 (omega arith), r.places 1 (omega arith)) in
    let z : ◌≡◌ {A = ℕ} 0 1 = r.once 0 1 (omega arith) (omega arith) e in
    omega arith
