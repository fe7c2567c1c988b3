-- What is told of the words is told of the files.
use Rattle.std.proofs.lemmas.Option.{MatchOption-at_some}
use Rattle.std.proofs.lemmas.Result.{MatchResult-weaker}
use Rattle.shell.specs.Handed.{Stored}
use Rattle.regrouping.proofs.FilesLaws.{answered}
use Rattle.regrouping.proofs.compare_files.Goals as goal

pub returns : goal.returns
returns g c =
    let old = c.take_list-old in
    let new = c.take_list-new in
    let first : Stored c.in-Some.old old.new.words = MatchOption-at_some _ _ _ c.in-Some.is old.ensures in
    let second : Stored c.in-Some-new.new new.new.words = MatchOption-at_some _ _ _ c.in-Some-new.is new.ensures in
    MatchResult-weaker c.tell.result c.tell.ensures (λ n h. answered first second h) (λ u h. answered first second h)
