-- Laws of a fit crate memory: the test and the facts say the same, the empty crate is fit, a station's block may be replaced by a fit one of the same module,
-- Inhibit by 0 or 1, and the Station Number Register by any 23 bits.
-- Assumes nothing.
use Prim.Native.Nat.{ℕ, ◌+◌, ◌-◌, ◌*◌, ◌≤◌, ◌<◌, ◌^◌}
use mathlib.Core.Path.{◌≡◌, refl, sym, ap, subst, ◌∙◌}
use mathlib.Core.List.{List, [], ◌∷◌}
use mathlib.Core.Bool.{true}
use mathlib.Core.Logic.{⊎_elim}
use native.Mathlib.Omega.{arith}
use borrow.Author.Tests.{ltb-true, eqb-true, lt-ltb, eq-eqb}
use lib.ListN.{length, get_or, set, length-set}
use lib.Dec.{ltb, eqb}
use lib.Seq.{get_or-set_same, get_or-set_other}
use Rattle.blocks.specs.Blocks.{word, block_of, with_block, inhibit_of, snr_of}
use Rattle.blocks.proofs.Blocks.{length-with, put_in, put_other, word-block, block_same, block-other, block-of-agree}
use Rattle.kinds.specs.Cases.{every}
use Rattle.kinds.specs.Table.{in_table}
use Rattle.station.specs.Block.{FitBlock, is_fit_block, is_fit_header, header_tests, is_fit_spare, is_fit_register, fit_tests, is_used, sources_of}
use Rattle.kinds.proofs.TestLaws.{alike, every-at, every-intro, all_true, all-intro, last-decides}
use Rattle.station.specs.Kept.{Kept}
use Rattle.station.proofs.Fitness.{fit-facts, facts-fit}
use Rattle.dataway.specs.Crate.{is_fit_rest, is_fit_station, cover_of, is_fit_cover, crate_tests, is_fit_crate, FitCrate, empty_crate}

-- ---- the test and the facts
rest-zero : (m : List ℕ) (i : ℕ) → is_fit_rest m i ≡ true → get_or m (2 + i) 0 ≡ 0
unfolding is_fit_rest
rest-zero m i h = eqb-true _ _ h

rest-fits : (m : List ℕ) (i : ℕ) → get_or m (2 + i) 0 ≡ 0 → is_fit_rest m i ≡ true
unfolding is_fit_rest
rest-fits m i h = eq-eqb _ _ h

station-facts : (m : List ℕ) (i : ℕ) → is_fit_station m i ≡ true → FitBlock (block_of m (1 + i))
unfolding is_fit_station
station-facts m i h = fit-facts (block_of m (1 + i)) h

station-fits : (m : List ℕ) (i : ℕ) → FitBlock (block_of m (1 + i)) → is_fit_station m i ≡ true
unfolding is_fit_station
station-fits m i h = facts-fit (block_of m (1 + i)) h

cover-facts : (m : List ℕ) (i : ℕ) → is_fit_cover m i ≡ true → word m (1 + i) 7 ≡ cover_of (word m i 6)
unfolding is_fit_cover
cover-facts m i h = eqb-true _ _ h

cover-fits : (m : List ℕ) (i : ℕ) → word m (1 + i) 7 ≡ cover_of (word m i 6) → is_fit_cover m i ≡ true
unfolding is_fit_cover
cover-fits m i h = eq-eqb _ _ h

-- a memory that passes the test is as the facts say
pub crate-facts : (m : List ℕ) → is_fit_crate m ≡ true → FitCrate m
unfolding is_fit_crate crate_tests
crate-facts m h =
    let p = all_true (crate_tests m) h in
    record {
      size = eqb-true _ _ p.0;
      inhibit = ltb-true _ _ p.1.0;
      snr = ltb-true _ _ p.1.1.0;
      rest = λ i l. rest-zero m i (every-at 30 (is_fit_rest m) i p.1.1.1.0 l);
      station = λ n lo hi.
          let e : 1 + (n - 1) ≡ n = omega arith in
          subst (λ (k : ℕ). FitBlock (block_of m k)) e (station-facts m (n - 1) (every-at 23 (is_fit_station m) (n - 1) p.1.1.1.1.0 (omega arith)));
      cover = λ i l. cover-facts m i (every-at 23 (is_fit_cover m) i p.1.1.1.1.1.0 l);
      last = ltb-true _ _ p.1.1.1.1.1.1.0;
    }

-- and a memory that is so passes it
pub facts-crate : (m : List ℕ) → FitCrate m → is_fit_crate m ≡ true
unfolding is_fit_crate crate_tests
facts-crate m h =
    all-intro (crate_tests m) (
      eq-eqb _ _ h.size,
      (
        lt-ltb _ _ h.inhibit,
        (
          lt-ltb _ _ h.snr,
          (
            every-intro 30 (is_fit_rest m) (λ i l. rest-fits m i (h.rest i l)),
            (
              every-intro 23 (is_fit_station m) (λ i l. station-fits m i (h.station (1 + i) (omega arith) (omega arith))),
              (every-intro 23 (is_fit_cover m) (λ i l. cover-fits m i (h.cover i l)), (lt-ltb _ _ h.last, tt)),
            ),
          ),
        ),
      ),
    )

-- where all tests but the last hold, the last decides
pub crate-last : (m : List ℕ) → length m ≡ 768 → inhibit_of m < 2 → snr_of m < 2 ^ 23 → every 30 (is_fit_rest m) ≡ true → every 23 (is_fit_station m) ≡ true
    → every 23 (is_fit_cover m) ≡ true → ltb (word m 23 6) 2 ≡ is_fit_crate m
unfolding is_fit_crate crate_tests
crate-last m size inhibit snr rest station cover =
    last-decides
    (eqb (length m) 768 ∷ ltb (inhibit_of m) 2 ∷ ltb (snr_of m) (2 ^ 23) ∷ every 30 (is_fit_rest m) ∷ every 23 (is_fit_station m) ∷ every 23 (is_fit_cover m) ∷ [])
    (ltb (word m 23 6) 2)
    (eq-eqb _ _ size, (lt-ltb _ _ inhibit, (lt-ltb _ _ snr, (rest, (station, (cover, tt))))))

-- the empty crate is fit
pub empty-fit : FitCrate empty_crate
unfolding is_fit_crate crate_tests is_fit_rest is_fit_station is_fit_cover is_fit_block fit_tests is_fit_header header_tests in_table is_fit_spare is_fit_register is_used sources_of block_of
empty-fit = crate-facts empty_crate refl

-- ---- fitness but for the covers, block by block
pub record FitBlocks (m : List ℕ) : Type 0 where
  pub size : length m ≡ 768
  pub inhibit : inhibit_of m < 2
  pub snr : snr_of m < 2 ^ 23
  pub rest : (i : ℕ) → i < 30 → get_or m (2 + i) 0 ≡ 0
  pub station : (n : ℕ) → 1 ≤ n → n ≤ 23 → FitBlock (block_of m n)

pub blocks-of : (m : List ℕ) → FitCrate m → FitBlocks m
blocks-of m f = record { size = f.size; inhibit = f.inhibit; snr = f.snr; rest = f.rest; station = f.station }

-- any fit block may be put in
pub blocks-with : (m : List ℕ) (n : ℕ) (b : List ℕ) → FitBlocks m → 1 ≤ n → n ≤ 23 → FitBlock b → FitBlocks (with_block m n b)
blocks-with m n b f lo hi g =
    let o : (w : ℕ) → w < 32 → get_or (with_block m n b) (32 * 0 + w) 0 ≡ get_or m (32 * 0 + w) 0 =
    λ w h. put_other m n b f.size (omega arith) g.long 0 w h (λ e. omega arith) in
    record {
      size = length-with m n b f.size (omega arith) g.long;
      inhibit = rw (o 0 (omega arith)) f.inhibit;
      snr = rw (o 1 (omega arith)) f.snr;
      rest = λ i h. let e : 32 * 0 + (2 + i) ≡ 2 + i = omega arith in (rw e at (o (2 + i) (omega arith))) ∙ f.rest i h;
      station = λ k p q.
          ⊎_elim
          (λ (e : k ≡ n). rw (e, block_same m n b f.size (omega arith) g.long) g)
          (λ (d : k ≡ n → ⊥). rw (block-other m n b f.size (omega arith) g.long k d) (f.station k p q))
          (alike k n);
    }

-- and with its covers the crate is fit
pub crate-of : (m : List ℕ) → FitBlocks m → ((i : ℕ) → i < 23 → word m (1 + i) 7 ≡ cover_of (word m i 6)) → word m 23 6 < 2 → FitCrate m
crate-of m b cover last = record { size = b.size; inhibit = b.inhibit; snr = b.snr; rest = b.rest; station = b.station; cover = cover; last = last }

-- ---- the covers hang on words 6 and 7 of the blocks alone
covers_of : (m m' : List ℕ) → FitBlocks m' → FitCrate m → ((n w : ℕ) → n ≤ 23 → 6 ≤ w → w < 8 → word m' n w ≡ word m n w) → FitCrate m'
covers_of m m' b f same =
    crate-of m' b
    (λ i h. same (1 + i) 7 (omega arith) (omega arith) (omega arith) ∙ f.cover i h ∙ ap cover_of (sym (same i 6 (omega arith) (omega arith) (omega arith))))
    (rw (same 23 6 (omega arith) (omega arith) (omega arith)) f.last)

-- ---- one block replaced by a fit one of the same module, as each step leaves it
pub fit-with : (m : List ℕ) (n : ℕ) (b : List ℕ) → FitCrate m → 1 ≤ n → n ≤ 23 → Kept (block_of m n) b → FitCrate (with_block m n b)
fit-with m n b f lo hi kept =
    let long = kept.fit.long in
    covers_of m (with_block m n b) (blocks-with m n b (blocks-of m f) lo hi kept.fit) f
    (λ k w h p q.
    ⊎_elim
    (λ (e : k ≡ n).
    let j : 6 + (w - 6) ≡ w = omega arith in
    rw e (put_in m n b f.size (omega arith) long w (omega arith) ∙ (rw j at (kept.same.fixed (w - 6) (omega arith))) ∙ word-block m n w (omega arith)))
    (λ (d : k ≡ n → ⊥). put_other m n b f.size (omega arith) long k w (omega arith) d)
    (alike k n))

-- ---- word 0 or 1 of block 0 replaced: no block and no cover hangs on it
front-set : (m : List ℕ) (j v : ℕ) → j < 2 → FitCrate m → inhibit_of (set m j v) < 2 → snr_of (set m j v) < 2 ^ 23 → FitCrate (set m j v)
front-set m j v low h inhibit snr =
    let blocks : FitBlocks (set m j v) = record {
      size = length-set m j v ∙ h.size;
      inhibit = inhibit;
      snr = snr;
      rest = λ i p. get_or-set_other m j (2 + i) v 0 (λ e. omega arith) ∙ h.rest i p;
      station = λ n p q.
          rw (block-of-agree (set m j v) m n (length-set m j v) (λ w d. get_or-set_other m j (32 * n + w) v 0 (λ e. omega arith)))
          (h.station n p q);
    } in
    covers_of m (set m j v) blocks h (λ k w p q t. get_or-set_other m j (32 * k + w) v 0 (λ e. omega arith))

-- Inhibit
pub fit-inhibit : (m : List ℕ) (v : ℕ) → FitCrate m → v ≤ 1 → FitCrate (set m 0 v)
fit-inhibit m v h l =
    front-set m 0 v (omega arith) h (rw (get_or-set_same m 0 v 0 (omega (arith, h.size))) (omega arith)) (rw (get_or-set_other m 0 1 v 0 (λ e. omega arith)) h.snr)

-- the Station Number Register
pub fit-snr : (m : List ℕ) (v : ℕ) → FitCrate m → v < 2 ^ 23 → FitCrate (set m 1 v)
fit-snr m v h l =
    front-set m 1 v (omega arith) h (rw (get_or-set_other m 1 0 v 0 (λ e. omega arith)) h.inhibit) (rw (get_or-set_same m 1 v 0 (omega (arith, h.size))) l)
