-- `find_lf` meets its contract: no byte before the present one is LF, and of the last bytes, fewer than sixteen, the first LF is taken.
use native.Mathlib.Omega.{arith}
use borrow.Author.Tests.{tests}
use Prim.Native.Nat.{◌+◌, ◌-◌}
use mathlib.Core.Path.{◌≡◌, sym, ◌∙◌}
use lib.ListN.{drop}
use Rattle.std.proofs.Common.{rules}
use Rattle.std.proofs.lemmas.Iterator.{IsFirst-from_position, YieldsList-from_slice}
use Rattle.lines.proofs.LfLaws.{clear-join, clear-part, next-from, next_at, next_none}
use Rattle.lines.proofs.Parts.{rest_all}
use Rattle.lines.proofs.find_lf.Goals as goal

pub loop-i-preserved : goal.loop-i-preserved
loop-i-preserved c =
    let a = c.args in
    let loop = c.loop-i in
    let wide : loop.i + 16 - loop.i ≡ 16 = omega arith in
    let sixteen = clear-part a.text.now loop.i 16 (rw wide at (sym c.has_lf.ensures ∙ c.if-has_lf.false)) in
    record { from = omega arith; within = omega arith; clear = clear-join a.text.now a.from loop.i (loop.i + 16) loop.invariant.clear sixteen }

pub returns-in-Some : goal.returns-in-Some
returns-in-Some c =
    let l = c.args.text.now in
    let loop = c.loop-i in
    let rest = YieldsList-from_slice (drop loop.i l) (c.iter.ensures.rest ∙ rest_all l loop.i) in
    let first = IsFirst-from_position _ _ c.position.result (λ b. b ≡ 10) (λ b. b ≡ 10 → ⊥) c.position.ensures.ran rest
    (λ x q k. search (rules, tests)) (λ x q k. search (rules, tests)) in
    next-from l _ loop.i _ loop.invariant.from loop.invariant.clear (next_at l loop.i c.in-Some.k (rw c.in-Some.is at first))

pub returns-in-None : goal.returns-in-None
returns-in-None c =
    let l = c.args.text.now in
    let loop = c.loop-i in
    let rest = YieldsList-from_slice (drop loop.i l) (c.iter.ensures.rest ∙ rest_all l loop.i) in
    let none = IsFirst-from_position _ _ c.position.result (λ b. b ≡ 10) (λ b. b ≡ 10 → ⊥) c.position.ensures.ran rest
    (λ x q k. search (rules, tests)) (λ x q k. search (rules, tests)) in
    next-from l _ loop.i _ loop.invariant.from loop.invariant.clear (next_none l loop.i loop.invariant.within (rw c.in-None.is at none))
