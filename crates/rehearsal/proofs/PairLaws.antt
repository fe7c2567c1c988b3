-- Two lists of words, run: a run that was not refused leaves what the definition of a list's run says, so the theorem about two whole lists speaks of
-- the words that the two runs leave.
-- Assumes nothing.
use Prim.Native.Nat.{ℕ, ◌*◌, ◌≤◌, ◌<◌}
use mathlib.Core.Path.{◌≡◌, refl, sym, ap, ◌∙◌}
use mathlib.Core.Bool.{Bool, true, false, cond, ◌&&◌}
use mathlib.Core.List.{List, ◌++◌}
use native.Mathlib.Omega.{arith}
use borrow.Author.Tests.{leb-true}
use lib.Dec.{leb}
use lib.ListN.{length, get_or, drop}
use Rattle.regroup.specs.Lists.{run, outs}
use Rattle.regroup.proofs.Whole.{length-outs, as_long, regroup-at}
use Rattle.kinds.proofs.TestLaws.{both-snd}
use Rattle.dataway.specs.Crate.{is_fit_crate, FitCrate}
use Rattle.dataway.proofs.CrateLaws.{crate-facts}
use Rattle.step.specs.declared.Refusal.{Refusal}
use Rattle.step.specs.declared.Refusal.TheVariants.{ShortBuffer, UnfitCrate}
use Rattle.controller.specs.Steps.{Order, Out, leaves, gives, touches}
use Rattle.controller.specs.Regrouping.{beyond}
use Rattle.controller.proofs.StepLaws.{law, crate-regroup}
use Rattle.lists.specs.Words.{part, orders_of}
use Rattle.lists.specs.Runs.{joined, answer_of, buffer_of, Ran, ran_of, unrun, is_enough, list_of}
use Rattle.lists.proofs.Orders.{Long, part_of, answers-long, buffers-long, orders-long, orders-length}
use Rattle.rehearsal.specs.Pairs.{RearrangedWords, AlikeWords}
use Rattle.std.specs.Prelude.{Ok, Err}
use Rattle.step.specs.Results.{Verdict}

-- ---- a run that was not refused
module _ (m : List ℕ) (count : ℕ) (ws ans bs m' ans' bs' : List ℕ) (v : Verdict) where
  abbrev result : Ran
  result = record { verdict = v; memory = m'; answers = ans'; buffers = bs' }

  pub record Went : Type 0 where
    pub fit : FitCrate m
    pub long : 512 * count ≤ length bs
    pub memory : m' ≡ run leaves m (orders_of ws bs count)
    pub answers : ans' ≡ joined answer_of (outs leaves gives m (orders_of ws bs count)) ++ drop (4 * count) ans
    pub buffers : bs' ≡ joined buffer_of (outs leaves gives m (orders_of ws bs count)) ++ drop (512 * count) bs

  enough-long : is_enough count ws ans bs ≡ true → 512 * count ≤ length bs
  unfolding is_enough
  enough-long e =
      leb-true _ _ (both-snd (leb (4 * count) (length ans)) (leb (512 * count) (length bs))
      (both-snd (leb (6 * count) (length ws)) (leb (4 * count) (length ans) && leb (512 * count) (length bs)) e))

  went : is_fit_crate m ≡ true → is_enough count ws ans bs ≡ true → ran_of m count ws ans bs ≡ result → Went
  unfolding ran_of
  went f l e = record {
    fit = crate-facts m f;
    long = enough-long l;
    memory = sym (ap (λ (r : Ran). r.memory) e);
    answers = sym (ap (λ (r : Ran). r.answers) e);
    buffers = sym (ap (λ (r : Ran). r.buffers) e);
  }

  never : (q : Refusal) → v ≡ Ok tt → unrun q m ans bs ≡ result → Went
  never q z h = absurd (let w : Err q ≡ (Ok tt) = ap (λ (r : Ran). r.verdict) h ∙ z in let n : ◌≡◌ {A = ℕ} 0 1 = cc in omega arith)

  pub list-went : list_of m count ws ans bs ≡ result → v ≡ Ok tt → Went
  unfolding list_of
  list-went e z = go (is_fit_crate m) (is_enough count ws ans bs) refl refl e
    where
      go : (t u : Bool) → is_fit_crate m ≡ t → is_enough count ws ans bs ≡ u
          → cond t (cond u (ran_of m count ws ans bs) (unrun ShortBuffer m ans bs)) (unrun UnfitCrate m ans bs) ≡ result → Went
      go true true f l h = went f l h
      go true false f l h = never ShortBuffer z h
      go false u f l h = never UnfitCrate z h

-- ---- two runs from equal memories
module _ (m n s1 a1 b1 s2 a2 b2 : List ℕ) (c1 c2 : ℕ) (e : n ≡ m) (m1 z1 y1 m2 z2 y2 : List ℕ) (v1 v2 : Verdict)
    (h1 : Went m c1 s1 a1 b1 m1 z1 y1 v1) (h2 : Went n c2 s2 a2 b2 m2 z2 y2 v2) where
  abbrev xs : List Order
  xs = orders_of s1 b1 c1

  abbrev ys : List Order
  ys = orders_of s2 b2 c2

  pub pair-alike : (p : List ℕ) → RearrangedWords xs ys p
      → AlikeWords (record { verdict = v1; memory = m1; answers = z1; buffers = y1 }) (record { verdict = v2; memory = m2; answers = z2; buffers = y2 }) c2 p
  pair-alike p r = (h2.memory ∙ ap (λ (x : List ℕ). run leaves x ys) e ∙ (crate-regroup m h1.fit xs ys p r).0 ∙ sym h1.memory, each)
    where
      d : Out
      d = gives m beyond

      long-p : length p ≡ c2
      long-p = sym (as_long touches beyond xs ys p r) ∙ orders-length s2 b2 c2

      same : (k : ℕ) → k < c2 → get_or (outs leaves gives m ys) k d ≡ get_or (outs leaves gives m xs) (get_or p k 0) d
      same k h = regroup-at leaves gives FitCrate touches law beyond m h1.fit xs ys p r d k (omega (arith, long-p))

      here : (k : ℕ) → k < c2 → k < length (outs leaves gives m ys)
      here k h = omega (arith, length-outs leaves gives m ys, orders-length s2 b2 c2)

      there : (k : ℕ) → k < c2 → get_or p k 0 < length (outs leaves gives m xs)
      there k h = omega (arith, length-outs leaves gives m xs, r.places k (omega (arith, long-p)))

      words : (g : Out → List ℕ) (w : ℕ) → Long g w (outs leaves gives m xs) → Long g w (outs leaves gives m ys) → (u v tu tv : List ℕ)
          → u ≡ joined g (outs leaves gives m xs) ++ tu → v ≡ joined g (outs leaves gives n ys) ++ tv → (k : ℕ) → k < c2 → part w v k ≡ part w u (get_or p k 0)
      words g w lx ly u v tu tv eu ev k h =
          ap (λ (l : List ℕ). part w l k) (ev ∙ ap (λ (x : List ℕ). joined g (outs leaves gives x ys) ++ tv) e)
          ∙ part_of g w (outs leaves gives m ys) tv k d ly (here k h)
          ∙ ap g (same k h)
          ∙ sym (ap (λ (l : List ℕ). part w l (get_or p k 0)) eu ∙ part_of g w (outs leaves gives m xs) tu (get_or p k 0) d lx (there k h))

      long1 : Long buffer_of 512 (outs leaves gives m xs)
      long1 = buffers-long m xs (orders-long s1 b1 c1 c1 h1.long (omega arith))

      long2 : Long buffer_of 512 (outs leaves gives m ys)
      long2 = buffers-long m ys (orders-long s2 b2 c2 c2 h2.long (omega arith))

      each : (k : ℕ) → k < c2 → (part 4 z2 k ≡ part 4 z1 (get_or p k 0)) × (part 512 y2 k ≡ part 512 y1 (get_or p k 0))
      each k h = (
        words answer_of 4 (answers-long (outs leaves gives m xs)) (answers-long (outs leaves gives m ys)) z1 z2 (drop (4 * c1) a1) (drop (4 * c2) a2)
            h1.answers h2.answers k h,
        words buffer_of 512 long1 long2 y1 y2 (drop (512 * c1) b1) (drop (512 * c2) b2) h1.buffers h2.buffers k h,
      )
