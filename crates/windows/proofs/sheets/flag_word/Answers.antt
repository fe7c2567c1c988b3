-- `flag_word` meets its contract: after some windows the flags are the word of their tests, and `bits-or` puts the next bit in its place.
use Prim.Native.Nat.{ℕ, ◌*◌, ◌%◌, ◌^◌}
use mathlib.Core.Path.{◌≡◌, refl, ap, ap₂, ◌∙◌}
use native.Mathlib.Omega.{arith}
use lib.Bits.{bit_or}
use lib.ListN.{length, drop, length-drop}
use Rattle.word24.specs.Word.{as_bit, bits_of}
use Rattle.word24.proofs.BitsOf.{bits-or}
use Rattle.step.specs.Verdict.{within}
use Rattle.windows.specs.Flags.{low_of, high_of, windows_in}
use Rattle.windows.proofs.SheetLaws.{window_cut}
use Rattle.windows.proofs.sheets.flag_word.Goals as goal

pub loop-i-init : goal.loop-i-init
unfolding bits_of
loop-i-init c = let items = c.enumerate-i-items.ensures in
    let cuts = c.chunks_exact.ensures in
    rw (c.into_iter-i-iterator.ensures.into_iter_gives, items.source, items.count) (cuts.size, omega arith, cuts.rest, refl)

pub loop-i-preserved : goal.loop-i-preserved
loop-i-preserved c = let entry = c.args in
    let sheet = entry.sheet.now in
    let loop = c.loop-i in
    let i = loop.i-iterator.count in
    let inv = loop.invariant in
    let steps = c.in-Some.ensures.steps in
    let cut = window_cut sheet loop.i-iterator.iter.rest.now c.in-Some.pair.now c.next.new.self.iter.rest.now i inv.2 steps.0.1.0 (steps.0.1.1 ∙ inv.0) in
    rw (steps.2, steps.1) (
      steps.0.0 ∙ inv.0,
      omega (arith, cut.0),
      cut.1,
      ap₂ (λ (x y : ℕ). bit_or x ((y * 2 ^ i) % 2 ^ 64)) inv.3
          (c.flag.ensures ∙ ap₂ (λ (lo hi : ℕ). as_bit (within lo entry.v hi)) cut.2 cut.3)
          ∙ bits-or (λ j. within (low_of sheet j) entry.v (high_of sheet j)) 64 i (omega (arith, cut.0, c.requires)),
    )

pub returns : goal.returns
returns c = let entry = c.args in
    let sheet = entry.sheet.now in
    let loop = c.loop-i in
    let inv = loop.invariant in
    let steps = c.in-None.ensures.steps in
    let rest : length loop.i-iterator.iter.rest.now ≡ length (drop (2 * loop.i-iterator.count) sheet) = ap length inv.2 in
    let last : loop.i-iterator.count ≡ windows_in sheet = omega (arith, rest, length-drop (2 * loop.i-iterator.count) sheet, steps.0.1.0, inv.0, inv.1) in
    inv.3 ∙ ap (bits_of (λ j. within (low_of sheet j) entry.v (high_of sheet j))) last
