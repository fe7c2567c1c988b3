-- `put_words` meets its contract: the lines of the words before the present one were put.
use lib.ListN.{take}
use Rattle.sheet.specs.Answers.{word_lines}
use Rattle.text.specs.Paste.{Put}
use Rattle.sheet.proofs.put_words.Given as goal

abbrev pub invariant-loop-w : goal.invariant-loop-w
invariant-loop-w l = Put l.initial.out l.at (word_lines (take l.w-index l.words)) l.out l.next
