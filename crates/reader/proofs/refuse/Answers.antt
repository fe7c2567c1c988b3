-- `refuse` meets its contract: the refusal is put behind what was printed (`put_front`), and the reader has ended: no byte held, phase Ended.
use Rattle.lines.proofs.Parts.{put_front}
use Rattle.reader.proofs.ReadingLaws.{states, put-within}
use mathlib.Core.Path.{refl}
use native.Mathlib.Omega.{arith}
use Rattle.reader.proofs.refuse.Goals as goal

pub returns : goal.returns
returns c = record { state = λ l m n. states refl refl refl refl refl (put_front c.put_crate_refusal-at.ensures (omega arith)); counts = (refl, put-within c.put_crate_refusal-at.ensures (omega arith)) }
