-- A lent list that is worked on part by part: a part lent to a call is that part, and what comes back takes its place; of a list whose parts from `at` on
-- are as they were, the next part is as it was.
-- Assumes nothing.
use Prim.Native.Nat.{ℕ, ◌+◌, ◌-◌, ◌*◌, ◌≤◌}
use mathlib.Core.Path.{◌≡◌, sym, ap, ap₂, ◌∙◌}
use mathlib.Core.List.{List, ◌++◌, append_assoc}
use native.Mathlib.Omega.{arith}
use lib.ListN.{length, take, drop, length-append, length-drop}
use lib.Seq.{length-take-le, take_at, drop_at, drop-drop}
use borrow.Rule.Slice.PartMut.{mid_of, put_mid}
use Rattle.lists.specs.Words.{part, with_part}

width : (at w : ℕ) → at + w - at ≡ w
width at w = omega arith

-- a part lent
pub part-lent : (w : ℕ) (xs : List ℕ) (k : ℕ) → mid_of (w * k) (w * k + w - w * k) xs ≡ part w xs k
part-lent w xs k = ap (λ (i : ℕ). take i (drop (w * k) xs)) (width (w * k) w)

pub part-long : (w : ℕ) (xs : List ℕ) (k : ℕ) → w * k + w ≤ length xs → length (part w xs k) ≡ w
part-long w xs k h = length-take-le w (drop (w * k) xs) (omega (arith, length-drop (w * k) xs))

-- and put back
pub part-back : (w : ℕ) (xs : List ℕ) (k : ℕ) (y : List ℕ) → put_mid (w * k) (w * k + w - w * k) xs y ≡ with_part w xs k y
part-back w xs k y =
    ap₂ (λ (i : ℕ) (z : List ℕ). take (w * k) xs ++ (y ++ z)) (width (w * k) w)
    (ap (λ (i : ℕ). drop i (drop (w * k) xs)) (width (w * k) w) ∙ drop-drop w (w * k) xs)

-- ---- a list done up to part k: `all`, and then xs₀ as it was
module _ (w k : ℕ) (xs₀ xs all : List ℕ) (fits : w * k + w ≤ length xs₀) (long : length xs ≡ length xs₀) (is : xs ≡ all ++ drop (w * k) xs₀) where
  all-long : length all ≡ w * k
  all-long = omega (arith, ap length is ∙ length-append all (drop (w * k) xs₀), length-drop (w * k) xs₀)

  rest : drop (w * k) xs ≡ drop (w * k) xs₀
  rest = ap (λ (l : List ℕ). drop (w * k) l) is ∙ drop_at all (drop (w * k) xs₀) (w * k) all-long

  -- the next part is as it was
  pub next-part : part w xs k ≡ part w xs₀ k
  next-part = ap (take w) rest

  -- and with y in its place the list is done one part further
  pub part-done : (y : List ℕ) → with_part w xs k y ≡ (all ++ y) ++ drop (w * k + w) xs₀
  part-done y =
      ap₂ (λ (x z : List ℕ). x ++ (y ++ z))
      (ap (take (w * k)) is ∙ take_at all (drop (w * k) xs₀) (w * k) all-long)
      (sym (drop-drop w (w * k) xs) ∙ ap (drop w) rest ∙ drop-drop w (w * k) xs₀)
      ∙ sym (append_assoc all y (drop (w * k + w) xs₀))
