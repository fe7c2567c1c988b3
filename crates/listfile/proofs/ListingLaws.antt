-- A line that ends, as the code stores it.
-- Assumes nothing.
use Prim.Native.Nat.{ℕ, ◌+◌, ◌-◌, ◌*◌, ◌≤◌, ◌<◌}
use mathlib.Core.Path.{◌≡◌, refl, sym, ap, ◌∙◌}
use mathlib.Core.Bool.{true, false}
use mathlib.Core.List.{List, [], ◌++◌, append_assoc}
use native.Mathlib.Omega.{arith}
use borrow.Rule.Slice.PartMut.{put_mid}
use lib.ListN.{length, take, drop, length-append}
use lib.Seq.{take_at, length-take-le}
use Rattle.lines.specs.Cutting.{Cutting, opened, ended}
use Rattle.lines.proofs.CuttingLaws.{states, open-still, shut-over}
use Rattle.runfile.specs.Read.{read_line}
use Rattle.lists.proofs.Parts.{part-back}
use Rattle.listfile.specs.ListWords.{line_words}
use Rattle.listfile.specs.Listing.{storing}
use Rattle.listfile.proofs.WordLaws.{line-long}
use Rattle.step.specs.Results.{Reading}

-- lines are taken up to the last
pub taken : (s : Cutting (List ℕ)) → s.number < 99999 → opened storing s ≡ true
taken s h = open-still storing s h refl

pub past : (s : Cutting (List ℕ)) → 99999 ≤ s.number → opened storing s ≡ false
past s h = shut-over storing s h

-- a line ends: its words are stored in the next place
pub line-stored : (l w : List ℕ) (f n : ℕ) (r : Reading) (y : List ℕ) → 6 * n + 6 ≤ length w → r ≡ read_line (take f l) → y ≡ line_words r
    → ◌≡◌ {A = Cutting (List ℕ)} (record { part = []; number = n + 1; held = take (6 * (n + 1)) (put_mid (6 * n) (6 * n + 6 - 6 * n) w y) })
    (ended storing (record { part = take f l; number = n; held = take (6 * n) w }))
unfolding ended
line-stored l w f n r y h er ey =
    let six : length y ≡ 6 = ap length ey ∙ line-long r in
    let long : length (take (6 * n) w ++ y) ≡ 6 * (n + 1) = length-append (take (6 * n) w) y ∙ omega (arith, six, length-take-le (6 * n) w (omega arith)) in
    states refl refl
    (ap (take (6 * (n + 1))) (part-back 6 w n y ∙ sym (append_assoc (take (6 * n) w) y (drop (6 * n + 6) w)))
    ∙ take_at (take (6 * n) w ++ y) (drop (6 * n + 6) w) (6 * (n + 1)) long
    ∙ ap (λ (z : List ℕ). take (6 * n) w ++ z) (ey ∙ ap line_words er))
