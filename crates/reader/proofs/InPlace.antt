-- A line that stands whole in a text, read where it stands: the line buffer need not hold it.
-- Assumes nothing.
use Prim.Native.Nat.{ℕ, ◌+◌, ◌-◌, ◌≤◌, ◌<◌}
use mathlib.Core.Path.{◌≡◌, refl, sym, ap, ◌∙◌}
use mathlib.Core.Bool.{true}
use mathlib.Core.List.{List, [], ◌++◌}
use native.Mathlib.Omega.{arith}
use lib.ListN.{length, take, drop}
use lib.Seq.{length-take-le, take-take}
use Rattle.lines.specs.Lines.{NoLf}
use Rattle.lines.specs.Cutting.{opened, ended, step, feed}
use Rattle.lines.proofs.CuttingLaws.{ended-part, step_end, feed-span, fed-span}
use Rattle.lines.proofs.CuttingLaws as cutting
use Rattle.reader.specs.declared.Reader.{Reader}
use Rattle.reader.specs.Reading.{State, rehearsing, state_of}
use Rattle.reader.proofs.ReadingLaws.{states}

-- after a line the next one is empty
pub none-held : (r : Reader) (window m o : List ℕ) (s : State) → r.fill ≤ length window → state_of r window m o ≡ ended rehearsing s → r.fill ≡ 0
none-held r window m o s h e =
    let p : take r.fill window ≡ [] = ap (λ (x : State). x.part) e ∙ ended-part rehearsing s in
    sym (length-take-le r.fill window h) ∙ ap length p

-- so its state does not tell where the line stood
pub anywhere : (r : Reader) (l window m o : List ℕ) → r.fill ≡ 0 → state_of r l m o ≡ state_of r window m o
anywhere r l window m o e = states (ap (λ (k : ℕ). take k l) e ∙ sym (ap (λ (k : ℕ). take k window) e)) refl refl refl refl refl

-- ---- a line t, taken from a state s that holds none of it, and its LF; p is as much of it as is read
pub in_place : (s : State) (p t : List ℕ) → s.part ≡ [] → opened rehearsing s ≡ true → NoLf t → p ≡ take 81 t
    → ended rehearsing (record { part = p; number = s.number; held = s.held }) ≡ step rehearsing (feed rehearsing s t) 10
in_place s p t e still n q =
    let held : State = record { part = p; number = s.number; held = s.held } in
    sym (step_end rehearsing held 10 still refl)
    ∙ ap (λ (x : State). step rehearsing x 10)
    (sym (feed-span rehearsing t s still (e ∙ ap (take 81) (sym e)) n
    ∙ cutting.states (ap (λ (x : List ℕ). take 81 (x ++ t)) e ∙ sym q) refl refl))

-- the bytes up to a line of a text, and then the line with its LF
pub fed-line : (s : State) (text : List ℕ) (i e : ℕ) → i ≤ e → e < length text
    → feed rehearsing s (take (e + 1) text)
    ≡ feed rehearsing (feed rehearsing s (take i text)) (take (e - i + 1) (take (length text - i) (drop i text)))
fed-line s text i e h k =
    let sum : e + 1 - i ≡ e - i + 1 = omega arith in
    let x = feed rehearsing s (take i text) in
    sym (fed-span rehearsing s text x i refl (e + 1) (feed rehearsing x (take (e + 1 - i) (drop i text))) (omega arith) refl)
    ∙ ap (feed rehearsing x)
    (ap (λ (n : ℕ). take n (drop i text)) sum ∙ sym (take-take (e - i + 1) (length text - i) (drop i text) (omega arith)))
