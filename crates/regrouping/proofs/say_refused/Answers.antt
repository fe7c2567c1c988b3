-- What is said lies within its buffer.
use mathlib.Core.Path.{sym}
use lib.Seq.{length-take-le}
use Rattle.text.proofs.Paste.{put-within}
use Rattle.regrouping.proofs.say_refused.Goals as goal

pub slice_bounds-said-end : goal.slice_bounds-said-end
slice_bounds-said-end g c = put-within c.put_refused-end.ensures

pub slice_bounds-write_all-end : goal.slice_bounds-write_all-end
slice_bounds-write_all-end g c =
    let put = c.put_refused-end in
    sym (length-take-le put.result put.new.out (put-within put.ensures))
