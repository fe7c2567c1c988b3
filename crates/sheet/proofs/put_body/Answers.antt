-- `put_body` meets its contract: each arm puts the body of the answer that it matched.
use Prim.Native.Nat.{ℕ}
use mathlib.Core.Logic.{inl, inr}
use mathlib.Core.Path.{ap}
use native.Mathlib.Omega.{arith}
use Rattle.text.specs.Text.{field}
use Rattle.text.proofs.Decimal.{length-ten}
use Rattle.sheet.specs.Answers.{body}
use Rattle.sheet.proofs.Room.{field_room, of-text, of-answer}
use Rattle.sheet.proofs.put_body.Goals as goal

pub put_field-requires : goal.put_field-requires
put_field-requires c = field_room _ _ _ _ (omega arith)

pub put_field-requires-in-Listed : goal.put_field-requires-in-Listed
put_field-requires-in-Listed c = field_room _ _ _ _ (omega arith)

pub put_field-requires-in-Refused : goal.put_field-requires-in-Refused
put_field-requires-in-Refused c = omega (arith, length-ten c.refusal_number.result)

pub returns-in-Replied : goal.returns-in-Replied
unfolding body
returns-in-Replied c = of-answer c.in-Replied.is c.put_three.ensures

pub returns-in-Taken : goal.returns-in-Taken
unfolding body
returns-in-Taken c = of-answer c.in-Taken.is c.put_field.ensures

pub returns-in-Done : goal.returns-in-Done
unfolding body
returns-in-Done c = of-answer c.in-Done.is c.put_bytes.ensures

pub returns-in-Looked : goal.returns-in-Looked
unfolding body
returns-in-Looked c = of-answer c.in-Looked.is c.put_three-in-Looked.ensures

pub returns-in-Transferred : goal.returns-in-Transferred
unfolding body
returns-in-Transferred c =
    let put = c.put_three-in-Transferred.ensures in
    elim c.in-Transferred.is [ inl e ↦ of-answer e put | inr e ↦ of-answer e put ]

pub returns-in-Listed : goal.returns-in-Listed
unfolding body
returns-in-Listed c = of-answer c.in-Listed.is c.put_field-in-Listed.ensures

pub returns-in-Refused : goal.returns-in-Refused
unfolding body
returns-in-Refused c = of-answer c.in-Refused.is
    (of-text (ap (λ (n : ℕ). field " refused=" n) c.refusal_number.ensures) c.put_field-in-Refused.ensures)
