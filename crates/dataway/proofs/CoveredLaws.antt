-- A covered station of a fit crate is empty, and so it answers as an empty one.
-- Assumes nothing.
use Prim.Native.Nat.{ℕ, ◌≤◌, ◌<◌}
use mathlib.Core.Path.{◌≡◌, refl, ap, ◌∙◌}
use mathlib.Core.Bool.{Bool, true, false}
use mathlib.Core.List.{List}
use native.Mathlib.Omega.{arith}
use borrow.Author.Tests.{leb-true, leb-false}
use lib.Dec.{leb}
use lib.ListN.{get_or-eq_default}
use Rattle.blocks.specs.Blocks.{word, block_of, with_block, inhibit_of}
use Rattle.blocks.proofs.Blocks.{word-block, put-block}
use Rattle.kinds.specs.Table.{in_table}
use Rattle.kinds.specs.declared.Module.{Module}
use Rattle.kinds.proofs.TableLaws.{covered-kind}
use Rattle.station.specs.Block.{kind_of, covered_of}
use Rattle.station.specs.Outcome.{Outcome}
use Rattle.station.specs.Front.{Event}
use Rattle.station.proofs.EmptyLaws.{empty-command, empty-front, empty-request}
use Rattle.dataway.specs.Crate.{FitCrate, empty_crate}
use Rattle.dataway.specs.Stations.{reply_of, after_command, taken_of, after_front, occupied_by, with_module}
use Rattle.dataway.specs.Lam.{is_requesting}
use Rattle.dataway.specs.Covered.{AsEmpty, CoveredAsEmpty}
use Rattle.dataway.proofs.CrateLaws.{empty-fit}
use Rattle.dataway.proofs.ModuleLaws.{module-fit}

-- what an empty station answers
module _ (m : List ℕ) (f : FitCrate m) (n : ℕ) (lo : 1 ≤ n) (hi : n ≤ 23) (k : kind_of (block_of m n) ≡ 0) where
  same : with_block m n (block_of m n) ≡ m
  same = put-block m n f.size (omega arith)

  empty-answers : AsEmpty m n
  unfolding reply_of after_command taken_of after_front is_requesting
  empty-answers =
      let b = block_of m n in
      let fit = f.station n lo hi in
      record {
        registers = omega (arith, rw k at fit.most);
        reply = λ a w v. ap (λ (o : Outcome). o.reply) (empty-command b fit k a w v);
        command = λ a w v. ap (λ (o : Outcome). with_block m n o.block) (empty-command b fit k a w v) ∙ same;
        taken = λ a v. ap (λ (e : Event). e.taken) (empty-front b fit k (inhibit_of m) a v);
        front = λ a v. ap (λ (e : Event). with_block m n e.block) (empty-front b fit k (inhibit_of m) a v) ∙ same;
        request = rw (empty-request b fit k);
      }

pub covered-empty : CoveredAsEmpty
covered-empty m f n lo hi covered =
    let fit = f.station n lo hi in
    let one : covered_of (block_of m n) ≡ 1 = word-block m n 7 (omega arith) ∙ covered in
    empty-answers m f n lo hi (covered-kind (kind_of (block_of m n)) (omega (arith, fit.most_covered, one)))

-- what is covered is a station: past the memory's end there is no word
pub covered-station : (m : List ℕ) → FitCrate m → (n : ℕ) → word m n 7 ≡ 1 → n ≤ 23
covered-station m f n covered = go (leb n 23) (leb-true n 23) (leb-false n 23)
  where
    go : (t : Bool) → (t ≡ true → n ≤ 23) → (t ≡ false → 23 < n) → n ≤ 23
    go true below above = below refl
    go false below above =
        let past : word m n 7 ≡ 0 = get_or-eq_default m 0 (omega (arith, f.size, above refl)) in
        absurd (omega (arith, covered, past))

-- there are such stations: a scaler two stations wide in 5 covers 6
abbrev wide5 : Module
wide5 = record { n = 5; kind = 1; r = 2; wide = 2 }

pub covered-sample : FitCrate (with_module empty_crate wide5) × (word (with_module empty_crate wide5) 6 7 ≡ 1)
unfolding in_table with_block occupied_by with_module
covered-sample = (
  module-fit empty_crate wide5 empty-fit (record { first = omega arith; last = omega arith; kind = omega arith; table = refl; room = λ e. omega arith }) refl,
  refl,
)
