-- A test of every number below a bound, as a test of each item of a list, which is how `all` makes it.
-- Assumes nothing.
use Prim.Native.Nat.{ℕ, ◌<◌}
use mathlib.Core.Path.{◌≡◌, refl, sym, ap, ◌∙◌}
use mathlib.Core.Bool.{Bool, true, false}
use mathlib.Core.List.{List}
use mathlib.Core.Logic.{⊎_elim}
use native.Mathlib.Omega.{arith}
use lib.Dec.{eqb}
use lib.ListN.{length, get_or, take, drop, length-drop}
use lib.Seq.{length-take-le, get_or-take, get_or-drop}
use Rattle.std.specs.List.{list_all, range_with_len}
use Rattle.std.proofs.lemmas.List.Recursion.{and_at, and_from_places}
use Rattle.std.proofs.lemmas.List.FromFn.{length-range_with_len, get_or-range_with_len}
use Rattle.kinds.specs.Cases.{every}
use Rattle.dataway.specs.Crate.{is_fit_rest}
use Rattle.kinds.proofs.TestLaws.{decided, every-at, every-intro}

-- p of the item in place i is q of i
pub all-every : (p q : ℕ → Bool) (xs : List ℕ) (n : ℕ) → length xs ≡ n → ((i : ℕ) → i < n → p (get_or xs i 0) ≡ q i) → list_all p xs ≡ every n q
all-every p q xs n l e =
    ⊎_elim
    (λ (y : every n q ≡ true). and_from_places (list_all p) p refl (λ _ _. refl) xs 0 (λ i h. e i (omega arith) ∙ every-at n q i y (omega arith)) ∙ sym y)
    (λ (y : every n q ≡ false).
    ⊎_elim
    (λ (x : list_all p xs ≡ true). x ∙ sym (every-intro n q (λ i h. sym (e i h) ∙ and_at (list_all p) p refl (λ _ _. refl) xs i 0 (omega arith) x)))
    (λ (x : list_all p xs ≡ false). x ∙ sym y)
    (decided (list_all p xs)))
    (decided (every n q))

-- the numbers below n themselves
pub all-below : (p : ℕ → Bool) (n : ℕ) → list_all p (range_with_len 0 n) ≡ every n p
all-below p n = all-every p p (range_with_len 0 n) n (length-range_with_len 0 n) (λ i h. ap p (get_or-range_with_len 0 n i 0 h ∙ omega arith))

-- words 2 to 31 of the memory
pub all-rest : (m : List ℕ) → length m ≡ 768 → list_all (λ x. eqb x 0) (take 30 (drop 2 m)) ≡ every 30 (is_fit_rest m)
unfolding is_fit_rest
all-rest m size =
    all-every (λ x. eqb x 0) (is_fit_rest m) (take 30 (drop 2 m)) 30 (length-take-le 30 (drop 2 m) (simp length-drop (omega arith)))
    (λ i h. ap (λ (x : ℕ). eqb x 0) (get_or-take 30 (drop 2 m) i 0 h ∙ get_or-drop 2 m i 0))
