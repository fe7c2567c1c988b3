-- The test `is_fit_block` and the facts `FitBlock` say the same of a block.
-- Assumes nothing.
use Prim.Native.Nat.{ℕ, ◌≤◌, ◌<◌, ◌^◌}
use mathlib.Core.Path.{◌≡◌, sym}
use mathlib.Core.List.{List, [], ◌∷◌}
use mathlib.Core.Bool.{true, false, ◌||◌}
use mathlib.Core.Logic.{⊎_elim}
use native.Mathlib.Omega.{arith}
use borrow.Author.Tests.{ltb-true, leb-true, eqb-true, lt-ltb, le-leb, lt-leb, eq-eqb}
use lib.Dec.{leb, ltb, eqb}
use Rattle.kinds.specs.Table.{least_of, most_of, last_head_of, most_fill_of, least_width_of, most_width_of, most_covered_of, in_table}
use Rattle.kinds.proofs.TableLaws.{table-facts, facts-table, head_few, fill-few}
use Rattle.station.specs.Block.{kind_of, count_of, status_of, mask_of, head_of, fill_of, width_of, covered_of, spare_of, register_of, sources_of, is_used}
use Rattle.station.specs.Block.{header_tests, is_fit_header, is_fit_spare, is_fit_register, fit_tests, is_fit_block, FitBlock}
use Rattle.station.proofs.KindTable.{block-sources-few}
use Rattle.kinds.proofs.TestLaws.{both-fst, both-snd, every-at, every-intro, all_true, all-intro, last-decides, decided}

-- what the header's test says
pub record Header (b : List ℕ) : Type 0 where
  pub kind : kind_of b < 6
  pub least : least_of (kind_of b) ≤ count_of b
  pub most : count_of b ≤ most_of (kind_of b)
  pub status : status_of b < 2 ^ sources_of b
  pub mask : mask_of b < 2 ^ sources_of b
  pub last_head : head_of b ≤ last_head_of (kind_of b)
  pub most_fill : fill_of b ≤ most_fill_of (kind_of b)
  pub least_width : least_width_of (kind_of b) ≤ width_of b
  pub most_width : width_of b ≤ most_width_of (kind_of b)
  pub most_covered : covered_of b ≤ most_covered_of (kind_of b)

pub header-facts : (b : List ℕ) → is_fit_header b ≡ true → Header b
unfolding is_fit_header header_tests
header-facts b h =
    let p = all_true (header_tests b) h in
    let t = table-facts (kind_of b) (count_of b) (width_of b) p.0 in
    record {
      kind = t.0;
      least = t.1;
      most = t.2;
      status = ltb-true _ _ p.1.0;
      mask = ltb-true _ _ p.1.1.0;
      last_head = leb-true _ _ p.1.1.1.0;
      most_fill = leb-true _ _ p.1.1.1.1.0;
      least_width = t.3;
      most_width = t.4;
      most_covered = leb-true _ _ p.1.1.1.1.1.0;
    }

pub header-head : (b : List ℕ) → is_fit_header b ≡ true → head_of b < 16
header-head b h = let f = header-facts b h in omega (arith, head_few (kind_of b))

-- the tests one after the other: the first that fails decides, and where all but the last hold, the last
module _ (b : List ℕ) (table : in_table (kind_of b) (count_of b) (width_of b) ≡ true) where
  pub header-no-status : ltb (status_of b) (2 ^ sources_of b) ≡ false → is_fit_header b ≡ false
  unfolding is_fit_header header_tests
  header-no-status h = simp (table, h)

  module _ (status : ltb (status_of b) (2 ^ sources_of b) ≡ true) where
    pub header-no-mask : ltb (mask_of b) (2 ^ sources_of b) ≡ false → is_fit_header b ≡ false
    unfolding is_fit_header header_tests
    header-no-mask h = simp (table, status, h)

    module _ (mask : ltb (mask_of b) (2 ^ sources_of b) ≡ true) where
      pub header-no-head : last_head_of (kind_of b) < head_of b → is_fit_header b ≡ false
      unfolding is_fit_header header_tests
      header-no-head h = simp (table, status, mask, lt-leb _ _ h)

      module _ (head : head_of b ≤ last_head_of (kind_of b)) where
        pub header-no-fill : most_fill_of (kind_of b) < fill_of b → is_fit_header b ≡ false
        unfolding is_fit_header header_tests
        header-no-fill h = simp (table, status, mask, le-leb _ _ head, lt-leb _ _ h)

        pub header-last : fill_of b ≤ most_fill_of (kind_of b) → is_fit_header b ≡ leb (covered_of b) (most_covered_of (kind_of b))
        unfolding is_fit_header header_tests
        header-last h =
            sym (last-decides
            (in_table (kind_of b) (count_of b) (width_of b) ∷ ltb (status_of b) (2 ^ sources_of b) ∷ ltb (mask_of b) (2 ^ sources_of b) ∷ leb (head_of b) (last_head_of (kind_of b))
            ∷ leb (fill_of b) (most_fill_of (kind_of b)) ∷ [])
            (leb (covered_of b) (most_covered_of (kind_of b)))
            (table, (status, (mask, (le-leb _ _ head, (le-leb _ _ h, tt))))))

-- the facts behind the test of a place
register-small : (b : List ℕ) (i : ℕ) → is_fit_register b i ≡ true → register_of b i < 2 ^ 24
unfolding is_fit_register
register-small b i h = ltb-true _ _ (both-fst (ltb (register_of b i) (2 ^ 24)) ((is_used b i || eqb (register_of b i) 0)) h)

register-unused : (b : List ℕ) (i : ℕ) → is_fit_register b i ≡ true → is_used b i ≡ false → register_of b i ≡ 0
unfolding is_fit_register
register-unused b i h e = eqb-true _ _ (rw e at (both-snd (ltb (register_of b i) (2 ^ 24)) ((is_used b i || eqb (register_of b i) 0)) h))

spare-zero : (b : List ℕ) (i : ℕ) → is_fit_spare b i ≡ true → spare_of b i ≡ 0
unfolding is_fit_spare
spare-zero b i h = eqb-true _ _ h

-- a block that passes the test is as the facts say
pub fit-facts : (b : List ℕ) → is_fit_block b ≡ true → FitBlock b
unfolding is_fit_block fit_tests
fit-facts b h =
    let p = all_true (fit_tests b) h in
    let f = header-facts b p.1.0 in
    record {
      long = eqb-true _ _ p.0;
      kind = f.kind;
      least = f.least;
      most = f.most;
      status = f.status;
      mask = f.mask;
      last_head = f.last_head;
      most_fill = f.most_fill;
      least_width = f.least_width;
      most_width = f.most_width;
      most_covered = f.most_covered;
      spare = λ i l. spare-zero b i (every-at 8 (is_fit_spare b) i p.1.1.0 l);
      register = λ i l. register-small b i (every-at 16 (is_fit_register b) i p.1.1.1.0 l);
      unused = λ i l e. register-unused b i (every-at 16 (is_fit_register b) i p.1.1.1.0 l) e;
      sources = block-sources-few b f.most;
      head = omega (arith, head_few (kind_of b));
      fill = omega (arith, fill-few (kind_of b));
    }

register-fits : (b : List ℕ) (i : ℕ) → register_of b i < 2 ^ 24 → (is_used b i ≡ false → register_of b i ≡ 0) → is_fit_register b i ≡ true
unfolding is_fit_register
register-fits b i l f =
    simp (lt-ltb _ _ l)
    (⊎_elim (λ (e : is_used b i ≡ true). rw e) (λ (e : is_used b i ≡ false). rw e (eq-eqb _ _ (f e))) (decided (is_used b i)))

-- and a block that is so passes it
pub facts-fit : (b : List ℕ) → FitBlock b → is_fit_block b ≡ true
unfolding is_fit_block fit_tests is_fit_header header_tests is_fit_spare
facts-fit b f =
    all-intro (fit_tests b) (
      eq-eqb _ _ f.long,
      (
        all-intro (header_tests b) (
          facts-table _ _ _ f.kind f.least f.most f.least_width f.most_width,
          (lt-ltb _ _ f.status, (lt-ltb _ _ f.mask, (le-leb _ _ f.last_head, (le-leb _ _ f.most_fill, (le-leb _ _ f.most_covered, tt))))),
        ),
        (
          every-intro 8 (is_fit_spare b) (λ i l. eq-eqb _ _ (f.spare i l)),
          (every-intro 16 (is_fit_register b) (λ i l. register-fits b i (f.register i l) (f.unused i l)), tt),
        ),
      ),
    )
