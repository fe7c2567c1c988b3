-- A buffer memory's filled places: the distance of a place from head, modulo 16, is the number of the word that stands there.
-- Assumes nothing.
use Prim.Native.Nat.{ℕ, ◌+◌, ◌-◌, ◌<◌, ◌≤◌, ◌%◌}
use mathlib.Core.Path.{◌≡◌, sym, ap, ◌∙◌}
use mathlib.Core.Bool.{Bool, cond}
use mathlib.Core.List.{List}
use native.Mathlib.Decide.{dec_lt}
use native.Mathlib.Omega.{arith}
use borrow.Author.Tests.{eq-eqb, ltb-true, lt-ltb, le-ltb}
use lib.Dec.{ltb}
use Rattle.station.specs.Block.{kind_of, count_of, head_of, fill_of, is_used}
use Rattle.station.specs.Held.{UsedIsFilled, UnfilledZero}

used-at : (b : List ℕ) (i : ℕ) → kind_of b ≡ 4 → is_used b i ≡ ltb ((i + 16 - head_of b) % 16) (fill_of b)
unfolding is_used
used-at b i e = ap (λ (t : Bool). cond t (ltb ((i + 16 - head_of b) % 16) (fill_of b)) (ltb i (count_of b))) (eq-eqb (kind_of b) 4 e)

-- the place at that distance is the place itself
back : (i head : ℕ) → i < 16 → head < 16 → i ≡ (head + (i + 16 - head) % 16) % 16
back i head a b = omega arith

-- and the distance of place j from head on is j
distance : (i head fill j : ℕ) → i < 16 → head < 16 → fill ≤ 16 → j < fill → i ≡ (head + j) % 16 → (i + 16 - head) % 16 < fill
distance i head fill j a b c l e = omega arith

pub used-filled : UsedIsFilled
used-filled b k h f i l = (
  λ e. ((i + 16 - head_of b) % 16, ltb-true _ _ (sym (used-at b i k) ∙ e), back i (head_of b) l h),
  λ p. used-at b i k ∙ lt-ltb ((i + 16 - head_of b) % 16) (fill_of b) (distance i (head_of b) (fill_of b) p.0 l h f p.1 p.2),
)

pub unfilled-zero : UnfilledZero
unfilled-zero b g k i l n =
    g.unused i l (used-at b i k ∙ le-ltb ((i + 16 - head_of b) % 16) (fill_of b)
    (elim (dec_lt ((i + 16 - head_of b) % 16) (fill_of b)) [
      | yes p ↦ absurd (n ((i + 16 - head_of b) % 16, p, back i (head_of b) l g.head))
      | no p ↦ omega arith
    ]))
