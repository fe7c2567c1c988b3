-- A module put in leaves a fit crate fit, whatever stood in the stations that it fills: block by block from left to right, where the cover to the right of the
-- last one is still to be set (`FitBut`).
-- Assumes nothing.
use Prim.Native.Nat.{ℕ, ◌+◌, ◌-◌, ◌*◌, ◌≤◌, ◌<◌}
use mathlib.Core.Path.{◌≡◌, refl, sym, ap, ◌∙◌}
use mathlib.Core.List.{List}
use mathlib.Core.Logic.{⊎_elim}
use native.Mathlib.Omega.{arith}
use borrow.Author.Tests.{eqb-true, eqb-false, eq-eqb, ne_eqb}
use lib.Dec.{eqb}
use lib.ListN.{get_or, length-set}
use lib.Seq.{get_or-set_same, get_or-set_other}
use Rattle.blocks.specs.Blocks.{word, block_of, with_block}
use Rattle.blocks.proofs.Blocks.{put_in, put_other, block_same, block-of-agree, set-is-put}
use Rattle.kinds.specs.Table.{FitModule}
use Rattle.kinds.specs.declared.Module.{Module}
use Rattle.kinds.proofs.TableLaws.{module-width, module-room}
use Rattle.kinds.proofs.TestLaws.{alike, by_cases}
use Rattle.station.specs.Block.{width_of, covered_of, FitBlock}
use Rattle.station.specs.Control.{module_of, covered_block}
use Rattle.station.proofs.BlockLaws.{without_cover, fit-uncovered}
use Rattle.station.proofs.ControlLaws as control
use Rattle.dataway.specs.Crate.{cover_of, FitCrate}
use Rattle.dataway.specs.Stations.{occupied_by, uncovered, with_module}
use Rattle.dataway.proofs.CrateLaws.{FitBlocks, blocks-of, blocks-with, crate-of}

-- fit but for the cover of station 1 + k
record FitBut (m : List ℕ) (k : ℕ) : Type 0 where
  blocks : FitBlocks m
  cover : (i : ℕ) → i < 23 → (i ≡ k → ⊥) → word m (1 + i) 7 ≡ cover_of (word m i 6)
  last : word m 23 6 < 2

-- a block put into station n, with the cover that its left neighbour asks for: the cover to its right is still to be set
but-with : (m : List ℕ) (k n : ℕ) (b : List ℕ) → FitBut m k → n ≡ 1 + k → n ≤ 23 → FitBlock b → covered_of b ≡ cover_of (word m k 6)
    → (n ≡ 23 → width_of b < 2) → FitBut (with_block m n b) n
but-with m k n b f at hi g cover narrow =
    let size = f.blocks.size in
    let here : (i w : ℕ) → w < 32 → i ≡ n → word (with_block m n b) i w ≡ get_or b w 0 = λ i w h e. rw e (put_in m n b size (omega arith) g.long w h) in
    let else : (i w : ℕ) → w < 32 → (i ≡ n → ⊥) → word (with_block m n b) i w ≡ word m i w = λ i w h d. put_other m n b size (omega arith) g.long i w h d in
    record {
      blocks = blocks-with m n b f.blocks (omega arith) hi g;
      cover = λ i h d.
          let left = ap cover_of (sym (else i 6 (omega arith) d)) in
          ⊎_elim
          (λ (e : i ≡ k). here (1 + i) 7 (omega arith) (omega arith) ∙ cover ∙ ap (λ (j : ℕ). cover_of (word m j 6)) (sym e) ∙ left)
          (λ (q : i ≡ k → ⊥). else (1 + i) 7 (omega arith) (λ e. q (omega arith)) ∙ f.cover i h q ∙ left)
          (alike i k);
      last =
          ⊎_elim
          (λ (e : 23 ≡ n). rw (here 23 6 (omega arith) e) (narrow (sym e)))
          (λ (d : 23 ≡ n → ⊥). rw (else 23 6 (omega arith) d) f.last)
          (alike 23 n);
    }

-- ---- a cover taken away: of the words only word 7 of station n changes
uncovered-other : (m : List ℕ) (n i w : ℕ) → w < 32 → (i ≡ n → w ≡ 7 → ⊥) → word (uncovered m n) i w ≡ word m i w
uncovered-other m n i w h d = get_or-set_other m (32 * n + 7) (32 * i + w) 0 0 (λ e. d (omega arith) (omega arith))

blocks-uncovered : (m : List ℕ) (n : ℕ) → FitBlocks m → 1 ≤ n → FitBlocks (uncovered m n)
blocks-uncovered m n f lo =
    record {
      size = length-set m (32 * n + 7) 0 ∙ f.size;
      inhibit = rw (get_or-set_other m (32 * n + 7) 0 0 0 (λ e. omega arith)) f.inhibit;
      snr = rw (get_or-set_other m (32 * n + 7) 1 0 0 (λ e. omega arith)) f.snr;
      rest = λ i h. get_or-set_other m (32 * n + 7) (2 + i) 0 0 (λ e. omega arith) ∙ f.rest i h;
      station = λ i p q.
          ⊎_elim
          (λ (e : i ≡ n).
          let g = fit-uncovered (block_of m n) (f.station n lo (omega arith)) in
          let here : block_of (uncovered m n) n ≡ without_cover (block_of m n) =
          ap (λ (x : List ℕ). block_of x n) (set-is-put m n 7 0 f.size (omega arith) (omega arith))
          ∙ block_same m n (without_cover (block_of m n)) f.size (omega arith) g.long in
          rw (e, here) g)
          (λ (d : i ≡ n → ⊥).
          rw (block-of-agree (uncovered m n) m i (length-set m (32 * n + 7) 0) (λ w h. uncovered-other m n i w h (λ e. absurd (d e)))) (f.station i p q))
          (alike i n);
    }

-- where the left neighbour covers nothing, the crate is then fit
fit-uncover : (m : List ℕ) (k n : ℕ) → FitBut m k → n ≡ 1 + k → cover_of (word m k 6) ≡ 0 → FitCrate (uncovered m n)
fit-uncover m k n f at free =
    let six : (i : ℕ) → word (uncovered m n) i 6 ≡ word m i 6 = λ i. uncovered-other m n i 6 (omega arith) (λ e d. omega arith) in
    crate-of (uncovered m n) (blocks-uncovered m n f.blocks (omega arith))
    (λ i h.
    ⊎_elim
    (λ (e : i ≡ k).
    let j : 32 * (1 + i) + 7 ≡ 32 * n + 7 = omega arith in
    ap (λ (x : ℕ). get_or (uncovered m n) x 0) j
    ∙ get_or-set_same m (32 * n + 7) 0 0 (omega (arith, f.blocks.size))
    ∙ sym (ap cover_of (six i) ∙ ap (λ (x : ℕ). cover_of (word m x 6)) e ∙ free))
    (λ (d : i ≡ k → ⊥). uncovered-other m n (1 + i) 7 (omega arith) (λ e q. d (omega arith)) ∙ f.cover i h d ∙ ap cover_of (sym (six i)))
    (alike i k))
    (rw (six 23) f.last)

-- ---- a module put into a station that is not covered
module _ (m : List ℕ) (p : Module) (f : FitCrate m) (g : FitModule p) (free : word m p.n 7 ≡ 0) where
  width : (1 ≤ p.wide) × (p.wide ≤ 2)
  width = module-width p g

  -- its own block
  abbrev one : List ℕ
  one = with_block m p.n (module_of p)

  one-but : FitBut one p.n
  one-but =
      let k = p.n - 1 in
      let at : p.n ≡ 1 + k = omega (arith, g.first) in
      let bare : word m (1 + k) 7 ≡ 0 = ap (λ (x : ℕ). word m x 7) (sym at) ∙ free in
      but-with m k p.n (module_of p) (record { blocks = blocks-of m f; cover = λ i h d. f.cover i h; last = f.last }) at g.last (control.module-fit p g)
      (sym bare ∙ f.cover k (omega (arith, g.first, g.last)))
      (λ e. omega (arith, module-room p g))

  one_width : word one p.n 6 ≡ p.wide
  one_width = put_in m p.n (module_of p) f.size (omega (arith, g.last)) refl 6 (omega arith)

  pub module-fit : FitCrate (with_module m p)
  unfolding with_module occupied_by
  module-fit =
      by_cases (λ (x : List ℕ). FitCrate (uncovered x (p.n + p.wide))) (eqb p.wide 2) (with_block one (p.n + 1) covered_block) one
      (λ e.
      let two = eqb-true p.wide 2 e in
      let room = g.room two in
      let both = but-with one p.n (p.n + 1) covered_block one-but (omega arith) (omega arith) control.covered-fit (sym (ap cover_of (one_width ∙ two))) (λ q. omega arith) in
      fit-uncover (with_block one (p.n + 1) covered_block) (p.n + 1) (p.n + p.wide) both (omega arith)
      (ap cover_of (put_in one (p.n + 1) covered_block one-but.blocks.size (omega arith) refl 6 (omega arith))))
      (λ e.
      let d = eqb-false p.wide 2 e in
      fit-uncover one p.n (p.n + p.wide) one-but (omega (arith, width.0, width.1, d)) (ap cover_of one_width ∙ rw (ne_eqb p.wide 2 d)))

-- ---- what the code does, block by block
module _ (m m₁ : List ℕ) (p : Module) (e : m₁ ≡ with_block m p.n (module_of p)) where
  pub occupied-two : (m₂ : List ℕ) → p.wide ≡ 2 → m₂ ≡ with_block m₁ (p.n + 1) covered_block → m₂ ≡ occupied_by m p
  unfolding occupied_by
  occupied-two m₂ two e₂ = e₂ ∙ ap (λ (x : List ℕ). with_block x (p.n + 1) covered_block) e ∙ rw (eq-eqb p.wide 2 two)

  pub occupied-one : (p.wide ≡ 2 → ⊥) → m₁ ≡ occupied_by m p
  unfolding occupied_by
  occupied-one d = e ∙ rw (ne_eqb p.wide 2 d)
