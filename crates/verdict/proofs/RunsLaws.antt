-- Compared, then run. Where the lists part nowhere, the promise speaks of what each step gives, and a step's words stand among those of its list. A
-- rearrangement of the steps themselves is one of what they count as, so where they part there is none.
-- Assumes nothing.
use mathlib.Core.Path.{◌≡◌, refl, sym, ap, ◌∙◌}
use mathlib.Core.Bool.{true, false≢true, and-eq-true_iff}
use mathlib.Core.List.{List, ◌++◌}
use Prim.Native.Nat.{ℕ, ◌*◌, ◌≤◌, ◌<◌}
use native.Mathlib.Omega.{arith}
use lib.ListN.{length, get_or, drop, length-map}
use lib.Seq.{ext_get_or}
use Rattle.regroup.specs.Lists.{outs, arranged, Alike}
use Rattle.regroup.proofs.Whole.{length-outs, as_long, step-at, get_or-map-in}
use Rattle.step.specs.Verdict.{is_fine, are_narrow, verdict_of}
use Rattle.step.proofs.Lengths.{narrow-take, narrow-drop, judged-narrow}
use Rattle.step.specs.Touches.{reach_of, touches_of}
use Rattle.controller.specs.Steps.{Order, Out, leaves, gives, touches}
use Rattle.controller.specs.Regrouping.{beyond}
use Rattle.lists.specs.Words.{reading_of, part, orders_of}
use Rattle.lists.specs.Runs.{joined, answer_of, buffer_of, list_of}
use Rattle.lists.proofs.Parts.{part-long}
use Rattle.lists.proofs.Orders.{Long, part_of, answers-long, buffers-long, orders-long, orders-length, order-at}
use Rattle.rehearsal.specs.Pairs.{RearrangedWords, AlikeWords}
use Rattle.rehearsal.proofs.PairLaws.{Went, list-went}
use Rattle.verdict.specs.Counted.{lent, counted, touches_lent, count, step_at, steps, past}
use Rattle.verdict.specs.Compared.{Lawful, LentAlike, Promise, Compared}
use Rattle.verdict.specs.Runs.{SameRuns, GoodWords, ComparedRuns, EachLent}
use Rattle.verdict.specs.declared.Parted.{Parted}
use Rattle.verdict.proofs.CountedLaws.{counted-fine, counted-refused}
use Rattle.verdict.proofs.Promises.{firsts-length, firsts_at}
use Rattle.std.specs.Prelude.{Ok, Err, Option, None, Some}
use Rattle.step.specs.Results.{Reading, Verdict}

-- ---- None: two lists that end alike, run as words
module _ (us ws p : List ℕ) (r : Lawful us ws p) where
  long-p : length p ≡ count ws
  long-p = sym (as_long touches_lent past (steps us) (steps ws) p r) ∙ firsts-length (step_at ws) (count ws)

  place : (k : ℕ) → k < count ws → get_or p k 0 < count us
  place k h = omega (arith, long-p, firsts-length (step_at us) (count us), r.places k (omega (arith, long-p)))

  -- each step is handed the same words, so each is handed those of its place
  pub lent-equal : (b1 b2 w : List ℕ) → EachLent us b1 w → EachLent ws b2 w → LentAlike us b1 ws b2 p
  lent-equal b1 b2 w x y = (x.0, y.0, λ k h. y.1 k h ∙ sym (x.1 (get_or p k 0) (place k h)))

  module _ (m a1 b1 a2 b2 : List ℕ) (l1 : 512 * count us ≤ length b1) (l2 : 512 * count ws ≤ length b2)
      (alike : Alike leaves gives m (orders_of us b1 (count us)) (orders_of ws b2 (count ws)) p) where
    abbrev xs : List Order
    xs = orders_of us b1 (count us)

    abbrev ys : List Order
    ys = orders_of ws b2 (count ws)

    d : Out
    d = gives m beyond

    same_out : (k : ℕ) → k < count ws → get_or (outs leaves gives m ys) k d ≡ get_or (outs leaves gives m xs) (get_or p k 0) d
    same_out k h =
        ap (λ (l : List Out). get_or l k d) (alike.1 d)
        ∙ get_or-map-in (λ (i : ℕ). get_or (outs leaves gives m xs) i d) p k 0 d (omega (arith, long-p))

    words : (g : Out → List ℕ) (w : ℕ) → Long g w (outs leaves gives m xs) → Long g w (outs leaves gives m ys) → (u v tu tv : List ℕ)
        → u ≡ joined g (outs leaves gives m xs) ++ tu → v ≡ joined g (outs leaves gives m ys) ++ tv → (k : ℕ) → k < count ws → part w v k ≡ part w u (get_or p k 0)
    words g w lx ly u v tu tv eu ev k h =
        ap (λ (l : List ℕ). part w l k) ev
        ∙ part_of g w (outs leaves gives m ys) tv k d ly (omega (arith, length-outs leaves gives m ys, orders-length ws b2 (count ws)))
        ∙ ap g (same_out k h)
        ∙ sym (ap (λ (l : List ℕ). part w l (get_or p k 0)) eu
        ∙ part_of g w (outs leaves gives m xs) tu (get_or p k 0) d lx (omega (arith, length-outs leaves gives m xs, orders-length us b1 (count us), place k h)))

    long1 : Long buffer_of 512 (outs leaves gives m xs)
    long1 = buffers-long m xs (orders-long us b1 (count us) (count us) l1 (omega arith))

    long2 : Long buffer_of 512 (outs leaves gives m ys)
    long2 = buffers-long m ys (orders-long ws b2 (count ws) (count ws) l2 (omega arith))

    runs-alike : (m1 z1 y1 m2 z2 y2 : List ℕ) (v1 v2 : Verdict) → Went m (count us) us a1 b1 m1 z1 y1 v1 → Went m (count ws) ws a2 b2 m2 z2 y2 v2
        → AlikeWords (record { verdict = v1; memory = m1; answers = z1; buffers = y1 }) (record { verdict = v2; memory = m2; answers = z2; buffers = y2 }) (count ws) p
    runs-alike m1 z1 y1 m2 z2 y2 v1 v2 h1 h2 = (
      h2.memory ∙ alike.0 ∙ sym h1.memory,
      λ k h. (
        words answer_of 4 (answers-long (outs leaves gives m xs)) (answers-long (outs leaves gives m ys)) z1 z2 (drop (4 * count us) a1) (drop (4 * count ws) a2)
            h1.answers h2.answers k h,
        words buffer_of 512 long1 long2 y1 y2 (drop (512 * count us) b1) (drop (512 * count ws) b2) h1.buffers h2.buffers k h,
      ),
    )

pub same_runs : (us ws : List ℕ) → Promise us ws → SameRuns us ws
same_runs us ws q = (
  q.0,
  q.1,
  λ m a1 b1 a2 b2 h f1 f2.
      let w1 = list-went m (count us) us a1 b1 _ _ _ _ refl f1 in
      let w2 = list-went m (count ws) ws a2 b2 _ _ _ _ refl f2 in
      runs-alike us ws q.0 q.1 m a1 b1 a2 b2 h.0 h.1 (q.2 m b1 b2 w1.fit h) _ _ _ _ _ _ _ _ w1 w2,
)

-- ---- Some: a rearrangement of the steps themselves is one of what they count as
-- what a step counts as touches no more than the step
counted-touches : (r : Reading) (b : List ℕ) (n : ℕ) → (is_fine (verdict_of r lent) ≡ true → is_fine (verdict_of r b) ≡ true)
    → touches_lent (counted r) n ≡ true → touches_of r b n ≡ true
counted-touches r b n l h = go (verdict_of r lent) refl
  where
    go : (v : Verdict) → verdict_of r lent ≡ v → touches_of r b n ≡ true
    go (Ok tt) e =
        let u = (and-eq-true_iff (is_fine (verdict_of r lent)) (reach_of r n)).0 (ap (λ (t : Reading). touches_of t lent n) (sym (counted-fine r e)) ∙ h) in
        (and-eq-true_iff (is_fine (verdict_of r b)) (reach_of r n)).1 (l u.0, u.1)
    go (Err q) e = absurd (false≢true (ap (λ (t : Reading). touches_of t lent n) (sym (counted-refused r q e)) ∙ h))

module _ (us ws b1 b2 p : List ℕ) (good : GoodWords ws b2) (raw : RearrangedWords (orders_of us b1 (count us)) (orders_of ws b2 (count ws)) p) where
  long-us : length (orders_of us b1 (count us)) ≡ count us
  long-us = orders-length us b1 (count us)

  raw-long : length p ≡ count ws
  raw-long = sym (as_long touches beyond (orders_of us b1 (count us)) (orders_of ws b2 (count ws)) p raw) ∙ orders-length ws b2 (count ws)

  raw-place : (k : ℕ) → k < count ws → get_or p k 0 < count us
  raw-place k h = omega (arith, long-us, raw.places k (omega (arith, raw-long)))

  same-reading : (k : ℕ) → k < count ws → reading_of (part 6 ws k) ≡ reading_of (part 6 us (get_or p k 0))
  same-reading k h =
      ap (λ (o : Order). o.reading)
      (sym (order-at ws b2 (count ws) k h)
      ∙ step-at touches beyond (orders_of us b1 (count us)) (orders_of ws b2 (count ws)) p raw k (omega (arith, raw-long))
      ∙ order-at us b1 (count us) (get_or p k 0) (raw-place k h))

  seen_at : (k : ℕ) → k < count ws → get_or (steps ws) k past ≡ step_at ws k
  seen_at k h = firsts_at (step_at ws) past (count ws) k h

  touch-at : (k n : ℕ) → k < count ws → touches_lent (get_or (steps ws) k past) n ≡ true → touches (get_or (orders_of ws b2 (count ws)) k beyond) n ≡ true
  touch-at k n h e =
      ap (λ (o : Order). touches o n) (order-at ws b2 (count ws) k h)
      ∙ counted-touches (reading_of (part 6 ws k)) (part 512 b2 k) n (good k h) (ap (λ (t : Reading). touches_lent t n) (sym (seen_at k h)) ∙ e)

  pub rearranged-lawful : Lawful us ws p
  rearranged-lawful = record {
    second =
        ext_get_or past (steps ws) (arranged past (steps us) p)
        (firsts-length (step_at ws) (count ws) ∙ sym raw-long ∙ sym (length-map p (λ (i : ℕ). get_or (steps us) i past)))
        (λ k h.
        let g : k < count ws = omega (arith, firsts-length (step_at ws) (count ws)) in
        seen_at k g ∙ ap counted (same-reading k g) ∙ sym (firsts_at (step_at us) past (count us) (get_or p k 0) (raw-place k g))
        ∙ sym (get_or-map-in (λ (i : ℕ). get_or (steps us) i past) p k 0 past (omega (arith, raw-long))));
    places = λ k h. omega (arith, raw-place k (omega (arith, raw-long)), firsts-length (step_at us) (count us));
    each = λ i h. raw.each i (omega (arith, long-us, firsts-length (step_at us) (count us)));
    once = raw.once;
    order = λ j k l h c.
        let g : k < count ws = omega (arith, raw-long) in
        let f : j < count ws = omega arith in
        raw.order j k l h (c.0, c.1, c.2, touch-at j c.0 f c.3, touch-at k c.0 g c.4);
  }

-- words of 24 bits are good
pub narrow_good : (ws b : List ℕ) → 512 * count ws ≤ length b → are_narrow b ≡ true → GoodWords ws b
unfolding lent
narrow_good ws b l n k h f = go (reading_of (part 6 ws k)) f
  where
    go : (r : Reading) → is_fine (verdict_of r lent) ≡ true → is_fine (verdict_of r (part 512 b k)) ≡ true
    go (Ok s) f =
        ap is_fine (judged-narrow s (part 512 b k) 512 (part-long 512 b k (omega (arith, l, h))) (narrow-take 512 (drop (512 * k) b) (narrow-drop (512 * k) b n))) ∙ f
    go (Err q) f = f

-- ---- COMPARED, THEN RUN
pub compared-runs : (us ws : List ℕ) (c : Option Parted) → Compared us ws c → ComparedRuns us ws c
compared-runs us ws None h = same_runs us ws h.1
compared-runs us ws (Some d) h = λ b1 b2 p good raw. h.3 p (rearranged-lawful us ws b1 b2 p good raw)

-- The same in the form of the contracts: `Compared` is what `compare` ensures, the two equations are what `run_list` and `run_pair` ensure. So a caller that
-- compares two lists and then runs both, on equal crates and with the same words w in each step's buffer, cites this law with the calls' `ensures`.
pub calls-alike : (us ws m n a1 b1 a2 b2 m1 z1 y1 m2 z2 y2 w : List ℕ) (v1 v2 : Verdict) → Compared us ws None
    → list_of m (count us) us a1 b1 ≡ record { verdict = v1; memory = m1; answers = z1; buffers = y1 }
    → list_of n (count ws) ws a2 b2 ≡ record { verdict = v2; memory = m2; answers = z2; buffers = y2 }
    → n ≡ m → v1 ≡ Ok tt → v2 ≡ Ok tt → EachLent us b1 w → EachLent ws b2 w
    → (p : List ℕ) × Lawful us ws p × AlikeWords (record { verdict = v1; memory = m1; answers = z1; buffers = y1 }) (record { verdict = v2; memory = m2; answers = z2; buffers = y2 }) (count ws) p
calls-alike us ws m n a1 b1 a2 b2 m1 z1 y1 m2 z2 y2 w v1 v2 c e1 e2 en f1 f2 x y =
    let q : Promise us ws = c.1 in
    let h : LentAlike us b1 ws b2 q.0 = lent-equal us ws q.0 q.1 b1 b2 w x y in
    let w1 : Went m (count us) us a1 b1 m1 z1 y1 v1 = list-went m (count us) us a1 b1 m1 z1 y1 v1 e1 f1 in
    let w2 : Went m (count ws) ws a2 b2 m2 z2 y2 v2 =
    list-went m (count ws) ws a2 b2 m2 z2 y2 v2 (ap (λ (x : List ℕ). list_of x (count ws) ws a2 b2) (sym en) ∙ e2) f2 in
    (q.0, q.1, runs-alike us ws q.0 q.1 m a1 b1 a2 b2 h.0 h.1 (q.2 m b1 b2 w1.fit h) m1 z1 y1 m2 z2 y2 v1 v2 w1 w2)
