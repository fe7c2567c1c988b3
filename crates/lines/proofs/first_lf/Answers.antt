-- `first_lf` meets its contract: of the bytes that have the first LF a half has it, and the last half is one byte.
use native.Mathlib.Omega.{arith}
use Rattle.lines.proofs.LfLaws.{Among, clear_none, among-half, among_one}
use Rattle.lines.proofs.first_lf.Goals as goal

pub returns : goal.returns
returns c = let start = c in
    let l = start.args.text.now in
    let f = start.args.from in
    let sixteen : Among l f f 16 = record { from = omega arith; within = omega arith; before = clear_none l f; there = start.requires.has_lf } in
    let eight = among-half l f _ 8 _ sixteen c.half-eight.ensures.value in
    let four = among-half l f _ 4 _ eight c.half-four.ensures.value in
    let two = among-half l f _ 2 _ four c.half-two.ensures.value in
    (omega arith, among_one l f _ (among-half l f _ 1 _ two c.half.ensures.value))
