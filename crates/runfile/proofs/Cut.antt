-- Of a line over 81 bytes only the first 81 matter: so much is over 80 bytes already. A reader of files need keep no more of a line.
use Prim.Native.Nat.{ℕ, ◌<◌}
use mathlib.Core.Path.{◌≡◌, refl, sym, ◌∙◌, ap}
use mathlib.Core.Bool.{Bool, true, false}
use mathlib.Core.List.{List}
use native.Mathlib.Omega.{arith}
use borrow.Author.Tests.{leb-true, leb-false}
use lib.Dec.{leb}
use lib.ListN.{length, take}
use lib.Seq.{take_all, length-take-le}
use Rattle.step.specs.declared.Refusal.TheVariants.{Garbled}
use Rattle.runfile.specs.Read.{read_line, read_module}
use Rattle.runfile.proofs.CrateLines.{long-module-is-garbled}
use Rattle.runfile.proofs.RunLines.{long-is-garbled}
use Rattle.std.specs.Prelude.{Err}

cut : {A : Type 0} (read : List ℕ → A) (bad : A) → ((l : List ℕ) → 80 < length l → read l ≡ bad) → (l : List ℕ) → read (take 81 l) ≡ read l
cut read bad long l = go (leb (length l) 81) refl
  where
    go : (t : Bool) → leb (length l) 81 ≡ t → read (take 81 l) ≡ read l
    go true t = ap read (take_all 81 l (leb-true (length l) 81 t))
    go false t =
        let over : 81 < length l = leb-false (length l) 81 t in
        let kept : length (take 81 l) ≡ 81 = length-take-le 81 l (omega arith) in
        long (take 81 l) (omega arith) ∙ sym (long l (omega arith))

pub cut_line : (l : List ℕ) → read_line (take 81 l) ≡ read_line l
cut_line = cut read_line (Err Garbled) long-is-garbled

pub cut-module : (l : List ℕ) → read_module (take 81 l) ≡ read_module l
cut-module = cut read_module (Err Garbled) long-module-is-garbled
