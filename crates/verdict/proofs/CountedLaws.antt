-- What a step counts as: which watches see it, and when two steps that are refused are equal.
-- Assumes nothing.
use mathlib.Core.Path.{◌≡◌, refl, sym, ap, ◌∙◌}
use mathlib.Core.Bool.{Bool, true, false, false≢true, ◌&&◌}
use mathlib.Core.Logic.{◌⊎◌, inl, inr}
use mathlib.Core.List.{List}
use Prim.Native.Nat.{ℕ, ◌+◌, ◌-◌, ◌≤◌, ◌<◌}
use native.Mathlib.Omega.{arith}
use native.Mathlib.Decide.{dec_lt, ℕ_discrete}
use borrow.Author.Tests.{eq-eqb, ne_eqb, le-leb, lt-leb}
use lib.Dec.{eqb, leb}
use lib.ListN.{length}
use Rattle.step.specs.Refusals.{refusal_number, refusals, verdict_number}
use Rattle.step.specs.Touches.{reach}
use Rattle.step.specs.Verdict.{is_fine, step_verdict, verdict_of}
use Rattle.step.proofs.Lengths.{Milder, judged-zeros}
use Rattle.step.proofs.Numbers.{numbered, number-injective}
use Rattle.step.proofs.ReachedLaws.{reach-all, reaches-one}
use Rattle.step.specs.declared.Refusal.{Refusal}
use Rattle.step.specs.declared.Step.{Step}
use Rattle.lists.specs.Words.{reading_of, part}
use Rattle.verdict.specs.Counted.{lent, Zeros, counted_as, counted, touches_lent, refusal_of, see, step_at}
use Rattle.verdict.proofs.Lawful.{Sorted, sees-station, sees-refusal}
use Rattle.std.specs.Prelude.{Ok, Err, is_ok, MatchResult}
use Rattle.step.specs.Results.{Reading, Verdict}

-- a slice of zeros is the buffer that steps are judged with
zeros-lent : (b : List ℕ) → Zeros b → b ≡ lent
unfolding lent
zeros-lent b e = e

judged-lent : (s : Step) (b : List ℕ) → Zeros b → step_verdict s b ≡ step_verdict s lent
judged-lent s b e = ap (step_verdict s) (zeros-lent b e)

-- and is judged best of the buffers of 512 words
pub lent-milder : (r : Reading) (b : List ℕ) → length b ≡ 512 → Milder (verdict_of r lent) (verdict_of r b)
unfolding lent
lent-milder (Ok s) b e = judged-zeros s b 512 e
lent-milder (Err q) b e = ((λ p h. h), λ h. h)

-- ---- every step is refused with a number of the table or touches a station
pub steps-sorted : Sorted touches_lent refusal_of
steps-sorted r = go r (verdict_of r lent) refl
  where
    go : (r : Reading) (v : Verdict) → verdict_of r lent ≡ v
        → ((1 ≤ refusal_of r) × (refusal_of r ≤ refusals)) ⊎ ((n : ℕ) × (1 ≤ n) × (n ≤ 23) × (touches_lent r n ≡ true))
    go r (Err q) e = let n = numbered q in inl (rw e (n.low, n.high))
    go (Err q) (Ok _) e = let n = numbered q in inl (n.low, n.high)
    go (Ok s) (Ok tt) e =
        let h = reaches-one s lent (ap is_fine e) in
        inr (h.0, h.1, h.2, ap (λ (v : Verdict). is_fine v && reach s h.0) e ∙ reach-all h.3)

-- ---- a step that counts
abbrev is_good : Reading → Bool
is_good (Ok s) = true
is_good (Err q) = false

-- a step with a verdict
pub counted-fine : (r : Reading) → verdict_of r lent ≡ Ok tt → counted r ≡ r
unfolding counted
counted-fine r e = ap (λ (v : Verdict). counted_as v r) e

pub counted-refused : (r : Reading) (q : Refusal) → verdict_of r lent ≡ Err q → counted r ≡ Err q
unfolding counted
counted-refused r q e = ap (λ (v : Verdict). counted_as v r) e

-- what counts counts as itself
pub counted-again : (r : Reading) → counted (counted r) ≡ counted r
counted-again r = go (verdict_of r lent) refl
  where
    go : (v : Verdict) → verdict_of r lent ≡ v → counted (counted r) ≡ counted r
    go (Ok _) e = ap counted (counted-fine r e)
    go (Err q) e = ap counted (counted-refused r q e) ∙ counted-refused (Err q) q refl ∙ sym (counted-refused r q e)

-- a step that counts as itself may be done
good-fine : (s : Step) → counted (Ok s) ≡ Ok s → verdict_of (Ok s) lent ≡ Ok tt
good-fine s h = go (verdict_of (Ok s) lent) refl
  where
    go : (v : Verdict) → verdict_of (Ok s) lent ≡ v → verdict_of (Ok s) lent ≡ Ok tt
    go (Ok _) e = e
    go (Err q) e = absurd (false≢true (ap is_good (sym (counted-refused (Ok s) q e) ∙ h)))

-- steps that count and are refused with the same number are equal
pub refused-equal : (r s : Reading) → counted r ≡ r → counted s ≡ s → 1 ≤ refusal_of r → refusal_of r ≡ refusal_of s → r ≡ s
refused-equal (Err q) (Err p) hr hs l e = ap Err (number-injective q p e)
refused-equal (Ok s) t hr hs l e = absurd (let z : refusal_of (Ok s) ≡ 0 = ap verdict_number (good-fine s hr) in omega (arith, l, z))
refused-equal (Err q) (Ok s) hr hs l e = absurd (let z : refusal_of (Ok s) ≡ 0 = ap verdict_number (good-fine s hs) in omega (arith, l, e, z))

-- ---- a step, judged and read
pub counted_by : (s : Step) (b : List ℕ) → Zeros b → counted (Ok s) ≡ counted_as (step_verdict s b) (Ok s)
unfolding counted
counted_by s b e = ap (λ (v : Verdict). counted_as v (Ok s)) (sym (judged-lent s b e))

pub bad_counts : (q : Refusal) → counted (Err q) ≡ Err q
bad_counts q = counted-refused (Err q) q refl

pub step_counts : (ws : List ℕ) (k : ℕ) (r : Reading) → r ≡ step_at ws k → counted r ≡ r
step_counts ws k r e = ap counted e ∙ counted-again (reading_of (part 6 ws k)) ∙ sym e

-- ---- which watches see it
pub see-good : (s : Step) (k : ℕ) → counted (Ok s) ≡ Ok s → k ≤ 23 → see k (Ok s) ≡ reach s k
see-good s k h l = sees-station touches_lent refusal_of k (Ok s) l ∙ ap (λ (v : Verdict). is_fine v && reach s k) (good-fine s h)

pub see-good-high : (s : Step) (k : ℕ) → counted (Ok s) ≡ Ok s → 23 < k → see k (Ok s) ≡ false
see-good-high s k h l =
    sees-refusal touches_lent refusal_of k (Ok s) l ∙ ap (λ (v : Verdict). eqb (verdict_number v) (k - 23)) (good-fine s h) ∙ ne_eqb 0 (k - 23) (λ e. omega (arith, e, l))

-- a station sees it where it is reached, and no refusal number does
pub see_by_reach : (s : Step) (k : ℕ) → counted (Ok s) ≡ Ok s → see k (Ok s) ≡ leb k 23 && reach s k
see_by_reach s k h = go (dec_lt 23 k)
  where
    go : Dec (23 < k) → see k (Ok s) ≡ leb k 23 && reach s k
    go (yes l) = see-good-high s k h l ∙ sym (ap (λ (b : Bool). b && reach s k) (lt-leb k 23 l))
    go (no l) = see-good s k h (omega (arith, l)) ∙ sym (ap (λ (b : Bool). b && reach s k) (le-leb k 23 (omega (arith, l))))

pub see-bad : (q : Refusal) (k : ℕ) → see k (Err q) ≡ eqb k (23 + refusal_number q)
see-bad q k = go (dec_lt 23 k)
  where
    pos : 1 ≤ refusal_number q
    pos = (numbered q).low

    go : Dec (23 < k) → see k (Err q) ≡ eqb k (23 + refusal_number q)
    go (no b) =
        sees-station touches_lent refusal_of k (Err q) (omega (arith, b)) ∙ sym (ne_eqb k (23 + refusal_number q) (λ e. omega (arith, e, b, pos)))
    go (yes b) = sees-refusal touches_lent refusal_of k (Err q) b ∙ at (ℕ_discrete (refusal_number q) (k - 23))
      where
        at : Dec (refusal_number q ≡ k - 23) → eqb (refusal_number q) (k - 23) ≡ eqb k (23 + refusal_number q)
        at (yes e) = eq-eqb (refusal_number q) (k - 23) e ∙ sym (eq-eqb k (23 + refusal_number q) (omega (arith, e, b)))
        at (no e) = ne_eqb (refusal_number q) (k - 23) e ∙ sym (ne_eqb k (23 + refusal_number q) (λ f. e (omega (arith, f, b))))

-- a station sees a step where it may be done and reaches the station
see-counted : (s : Step) (k : ℕ) (v : Verdict) → k ≤ 23 → verdict_of (Ok s) lent ≡ v → see k (counted (Ok s)) ≡ is_fine v && reach s k
see-counted s k (Ok _) l e = let c : counted (Ok s) ≡ Ok s = counted-fine (Ok s) e in ap (see k) c ∙ see-good s k c l
see-counted s k (Err q) l e =
    ap (see k) (counted-refused (Ok s) q e) ∙ see-bad q k ∙ ne_eqb k (23 + refusal_number q) (λ f. omega (arith, f, l, (numbered q).low))

pub see_unreached : (s : Step) (k : ℕ) → k ≤ 23 → reach s k ≡ false → see k (counted (Ok s)) ≡ false
see_unreached s k l f =
    see-counted s k (verdict_of (Ok s) lent) l refl ∙ ap (λ (b : Bool). is_fine (verdict_of (Ok s) lent) && b) f ∙ never (is_fine (verdict_of (Ok s) lent))
  where
    never : (b : Bool) → b && false ≡ false
    never true = refl
    never false = refl

pub see_judged : (s : Step) (k : ℕ) (b : List ℕ) → k ≤ 23 → Zeros b → reach s k ≡ true → see k (counted (Ok s)) ≡ is_ok (step_verdict s b)
see_judged s k b l n f = go (step_verdict s b) refl
  where
    go : (v : Verdict) → step_verdict s b ≡ v → see k (counted (Ok s)) ≡ is_ok v
    go (Ok _) e = see-counted s k (Ok tt) l (sym (judged-lent s b n) ∙ e) ∙ f
    go (Err q) e = see-counted s k (Err q) l (sym (judged-lent s b n) ∙ e)

-- a station sees a step that is read; what is no step it does not see
pub see_read : (k : ℕ) (r : Reading) (b : Bool) → k ≤ 23 → MatchResult r (λ s. b ≡ see k (counted (Ok s))) (λ q. b ≡ false) → b ≡ see k (counted r)
see_read k (Ok s) b l h = h
see_read k (Err q) b l h =
    h ∙ sym (ap (see k) (bad_counts q) ∙ see-bad q k ∙ ne_eqb k (23 + refusal_number q) (λ f. omega (arith, f, l, (numbered q).low)))

-- a refusal's number, and the watch that it makes
pub number_small : (q : Refusal) (x : ℕ) → x ≡ refusal_number q → x ≤ refusals
number_small q x e = omega (arith, e, (numbered q).high)

pub see-refused : (r : Reading) (q : Refusal) (k x : ℕ) → r ≡ Err q → x ≡ refusal_number q → eqb k (23 + x) ≡ see k r
see-refused r q k x er ex = ap (λ (n : ℕ). eqb k (23 + n)) ex ∙ sym (see-bad q k) ∙ ap (see k) (sym er)
