-- `do_step` meets its contract: what `perform` leaves and `put_step` prints is `after_step`.
use Rattle.lines.proofs.Parts.{put_front}
use Rattle.reader.proofs.ReadingLaws.{states, put-within}
use Rattle.reader.specs.Reading.{next, after_step, state_of}
use Rattle.controller.specs.Steps.{Performed}
use native.Mathlib.Omega.{arith}
use mathlib.Core.Path.{refl, sym, ap, ◌∙◌}
use Rattle.reader.proofs.do_step.Goals as goal

pub returns : goal.returns
returns c = let a = c.args in
    let done = c.perform-answer in
    let put = c.put_step-at.ensures in record {
      state = λ l. states refl refl refl refl refl (put_front put (omega arith))
          ∙ sym (ap (λ (p : Performed). next (after_step p) (state_of a.s l a.memory.now a.out.now)) done.ensures.done);
      counts = (refl, put-within put (omega arith));
      fit = done.ensures.fit;
    }
