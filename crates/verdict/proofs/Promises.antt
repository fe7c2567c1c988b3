-- The promise: where the second list is a rearrangement of the first, the two end alike, run as they are lent. A step that is refused and its refusal come
-- to the same (`step-counted`), so the theorem about two whole lists speaks of what the steps count as.
-- Assumes nothing.
use mathlib.Core.Path.{◌≡◌, refl, sym, ap, ap₂, ◌∙◌}
use mathlib.Core.Bool.{true, cond, and-eq-true_iff}
use mathlib.Core.Logic.{◌⊎◌, inl, inr}
use mathlib.Core.List.{List, [], ◌∷◌, ◌++◌}
use Prim.Native.Nat.{ℕ, zero, suc, ◌*◌, ◌≤◌, ◌<◌}
use native.Mathlib.Nat.{not-suc-le-zero, le_of_suc-le-suc, eq-or-lt_of_le}
use native.Mathlib.Omega.{arith}
use lib.ListN.{length, get_or, length-append, length-map, get_or-append}
use lib.Seq.{get_or_at, ext_get_or}
use Rattle.regroup.specs.Lists.{run, outs, arranged, Rearranged, Alike}
use Rattle.regroup.proofs.Whole.{get_or-map-in, as_long, step-at}
use Rattle.dataway.specs.Crate.{is_fit_crate, FitCrate}
use Rattle.step.specs.Verdict.{is_fine, verdict_of}
use Rattle.step.specs.Touches.{reach_of}
use Rattle.step.specs.declared.Refusal.TheVariants.{UnfitCrate}
use Rattle.controller.specs.Steps.{Order, order, Out, Performed, refused, reading_done, done_of, step_of, leaves, gives, touches}
use Rattle.controller.specs.Regrouping.{beyond}
use Rattle.controller.proofs.Sentences.{refused-reading}
use Rattle.controller.proofs.StepLaws.{crate-regroup}
use Rattle.lists.specs.Words.{reading_of, part, order_at, orders_of}
use Rattle.lists.proofs.Parts.{part-long}
use Rattle.lists.proofs.Running.{run-snoc, outs-snoc}
use Rattle.verdict.specs.Watches.{Watch}
use Rattle.verdict.specs.Counted.{lent, counted, touches_lent, refusal_of, count, step_at, firsts, steps, past, seen}
use Rattle.verdict.specs.Compared.{Lawful, LentAlike, Promise}
use Rattle.verdict.proofs.Lawful.{Uniform, suffices, exact}
use Rattle.verdict.proofs.CountedLaws.{lent-milder, counted-fine, counted-refused, counted-again, refused-equal, steps-sorted}
use Rattle.std.specs.Prelude.{Ok, Err}
use Rattle.step.specs.Results.{Reading, Verdict}

-- ---- a step and what it counts as
done-counted : (m : List ℕ) (r : Reading) (b : List ℕ) → length b ≡ 512 → done_of m (order (counted r) b) ≡ done_of m (order r b)
unfolding done_of
done-counted m r b l = go (verdict_of r lent) refl
  where
    go : (v : Verdict) → verdict_of r lent ≡ v → reading_done m (counted r) b ≡ reading_done m r b
    go (Ok _) e = ap (λ (t : Reading). reading_done m t b) (counted-fine r e)
    go (Err q) e = ap (λ (t : Reading). reading_done m t b) (counted-refused r q e) ∙ sym (refused-reading m r b q ((lent-milder r b l).0 q e))

step-counted : (m : List ℕ) (r : Reading) (b : List ℕ) → length b ≡ 512 → step_of m (order (counted r) b) ≡ step_of m (order r b)
unfolding step_of
step-counted m r b l = ap (λ (p : Performed). cond (is_fit_crate m) p (refused UnfitCrate m b)) (done-counted m r b l)

-- the same of the first k steps of a list, each with its own buffer
abbrev counted_at : List ℕ → List ℕ → ℕ → Order
counted_at ws bs i = order (step_at ws i) (part 512 bs i)

abbrev Runs : List ℕ → List Order → List Order → Type 0
Runs m xs ys = (run leaves m xs ≡ run leaves m ys) × (outs leaves gives m xs ≡ outs leaves gives m ys)

list_counted : (ws bs m : List ℕ) (k : ℕ) → 512 * k ≤ length bs → Runs m (firsts (counted_at ws bs) k) (orders_of ws bs k)
unfolding firsts orders_of
list_counted ws bs m zero h = (refl, refl)
list_counted ws bs m (suc k) h = more (list_counted ws bs m k (omega arith))
  where
    this : step_of (run leaves m (orders_of ws bs k)) (counted_at ws bs k) ≡ step_of (run leaves m (orders_of ws bs k)) (order_at ws k bs k)
    this = step-counted (run leaves m (orders_of ws bs k)) (reading_of (part 6 ws k)) (part 512 bs k) (part-long 512 bs k (omega arith))

    more : Runs m (firsts (counted_at ws bs) k) (orders_of ws bs k) → Runs m (firsts (counted_at ws bs) (suc k)) (orders_of ws bs (suc k))
    more ih = (
      run-snoc m (firsts (counted_at ws bs) k) (counted_at ws bs k)
          ∙ ap (λ (n : List ℕ). leaves n (counted_at ws bs k)) ih.0
          ∙ ap (λ (p : Performed). p.memory) this
          ∙ sym (run-snoc m (orders_of ws bs k) (order_at ws k bs k)),
      outs-snoc m (firsts (counted_at ws bs) k) (counted_at ws bs k)
          ∙ ap₂ (λ (l : List Out) (o : Out). l ++ (o ∷ [])) ih.1 (ap (λ (n : List ℕ). gives n (counted_at ws bs k)) ih.0 ∙ ap (λ (p : Performed). p.out) this)
          ∙ sym (outs-snoc m (orders_of ws bs k) (order_at ws k bs k)),
    )

-- ---- a row
module _ {A : Type 0} (f : ℕ → A) where
  pub firsts-length : (k : ℕ) → length (firsts f k) ≡ k
  unfolding firsts
  firsts-length zero = refl
  firsts-length (suc k) = length-append (firsts f k) (f k ∷ []) ∙ omega (arith, firsts-length k)

  pub firsts_at : (d : A) (k i : ℕ) → i < k → get_or (firsts f k) i d ≡ f i
  unfolding firsts
  firsts_at d zero i h = absurd (not-suc-le-zero h)
  firsts_at d (suc k) i h = go (eq-or-lt_of_le (le_of_suc-le-suc h)) (λ l. firsts_at d k i l)
    where
      go : (i ≡ k) ⊎ (i < k) → (i < k → get_or (firsts f k) i d ≡ f i) → get_or (firsts f k ++ (f k ∷ [])) i d ≡ f i
      go (inl e) ih = get_or_at (firsts f k) (f k) [] d i (firsts-length k ∙ sym e) ∙ ap f (sym e)
      go (inr l) ih = get_or-append (firsts f k) (f k ∷ []) d i (omega (arith, firsts-length k)) ∙ ih l

-- ---- the two lists, as what their steps count as
module _ (us ws p : List ℕ) (r : Lawful us ws p) (b1 b2 : List ℕ) (h : LentAlike us b1 ws b2 p) where
  abbrev xs : List Order
  xs = firsts (counted_at us b1) (count us)

  abbrev ys : List Order
  ys = firsts (counted_at ws b2) (count ws)

  long : length p ≡ count ws
  long = sym (as_long touches_lent past (steps us) (steps ws) p r) ∙ firsts-length (step_at ws) (count ws)

  place : (k : ℕ) → k < count ws → get_or p k 0 < count us
  place k l = omega (arith, r.places k (omega (arith, long)), firsts-length (step_at us) (count us))

  same_step : (k : ℕ) → k < count ws → step_at ws k ≡ step_at us (get_or p k 0)
  same_step k l =
      sym (firsts_at (step_at ws) past (count ws) k l) ∙ step-at touches_lent past (steps us) (steps ws) p r k (omega (arith, long))
      ∙ firsts_at (step_at us) past (count us) (get_or p k 0) (place k l)

  -- what a step touches with the words handed in it touches with good ones
  touched : (i n : ℕ) → i < count ws → touches (get_or ys i beyond) n ≡ true → touches_lent (get_or (steps ws) i past) n ≡ true
  touched i n l t =
      let s = step_at ws i in
      let b = part 512 b2 i in
      let u = (and-eq-true_iff (is_fine (verdict_of s b)) (reach_of s n)).0 (sym (ap (λ (o : Order). touches o n) (firsts_at (counted_at ws b2) beyond (count ws) i l)) ∙ t) in
      ap (λ (t : Reading). touches_lent t n) (firsts_at (step_at ws) past (count ws) i l)
      ∙ (and-eq-true_iff (is_fine (verdict_of s lent)) (reach_of s n)).1 ((lent-milder s b (part-long 512 b2 i (omega (arith, h.1)))).1 u.0, u.1)

  rearranged : Rearranged touches beyond xs ys p
  rearranged = record {
    second =
        ext_get_or beyond ys (arranged beyond xs p) (firsts-length (counted_at ws b2) (count ws) ∙ sym long ∙ sym (length-map p (λ (i : ℕ). get_or xs i beyond)))
        (λ k l.
        let c : k < count ws = omega (arith, firsts-length (counted_at ws b2) (count ws), l) in
        firsts_at (counted_at ws b2) beyond (count ws) k c ∙ ap₂ order (same_step k c) (h.2 k c)
        ∙ sym (firsts_at (counted_at us b1) beyond (count us) (get_or p k 0) (place k c))
        ∙ sym (get_or-map-in (λ (i : ℕ). get_or xs i beyond) p k 0 beyond (omega (arith, long, c))));
    places = λ k l. omega (arith, place k (omega (arith, long, l)), firsts-length (counted_at us b1) (count us));
    each = λ i l. r.each i (omega (arith, l, firsts-length (counted_at us b1) (count us), firsts-length (step_at us) (count us)));
    once = r.once;
    order = λ i j l b c.
        r.order i j l b (c.0, c.1, c.2, touched i c.0 (omega (arith, long, l, b)) c.3, touched j c.0 (omega (arith, long, b)) c.4);
  }

  ends-alike : (m : List ℕ) → FitCrate m → Alike leaves gives m (orders_of us b1 (count us)) (orders_of ws b2 (count ws)) p
  ends-alike m f =
      let a = crate-regroup m f xs ys p rearranged in
      let x = list_counted us b1 m (count us) h.0 in
      let y = list_counted ws b2 m (count ws) h.1 in
      (sym y.0 ∙ a.0 ∙ x.0, λ o. sym y.1 ∙ a.1 o ∙ ap (λ (l : List Out). arranged o l p) x.1)

-- ---- the promise
pub promised : (us ws : List ℕ) → ((n : ℕ) → Watch n → seen n us ≡ seen n ws) → Promise us ws
promised us ws h =
    let r : (p : List ℕ) × Lawful us ws p = suffices touches_lent refusal_of steps-sorted past (steps us) (steps ws) h in
    (r.0, r.1, λ m b1 b2 f g. ends-alike us ws r.0 r.1 b1 b2 g m f)

-- steps of a list that are refused with the same number are equal, so a rearrangement is seen alike
steps-uniform : (ws : List ℕ) → Uniform refusal_of past (steps ws)
steps-uniform ws i j hi hj l e =
    refused-equal (get_or (steps ws) i past) (get_or (steps ws) j past) (counts i (omega (arith, hi, n))) (counts j (omega (arith, hj, n))) l e
  where
    n : length (steps ws) ≡ count ws
    n = firsts-length (step_at ws) (count ws)

    counts : (i : ℕ) → i < count ws → counted (get_or (steps ws) i past) ≡ get_or (steps ws) i past
    counts i l = rw (firsts_at (step_at ws) past (count ws) i l) (counted-again (reading_of (part 6 ws i)))

pub seen_alike : (us ws p : List ℕ) → Lawful us ws p → (n : ℕ) → Watch n → seen n us ≡ seen n ws
seen_alike us ws p r = exact touches_lent refusal_of past (steps us) (steps ws) p (steps-uniform ws) r
