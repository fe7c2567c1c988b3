-- What the tests of a block need of each other: bounds that hold where its kind, r and width are of the table, or its header is fit; and a test of every number below a bound.
-- Assumes nothing.
use Prim.Native.Nat.{ℕ, ◌+◌, ◌<◌}
use mathlib.Core.Path.{◌≡◌, sym, subst, ◌∙◌}
use mathlib.Core.Bool.{Bool, true, false}
use mathlib.Core.List.{List}
use native.Mathlib.Omega.{arith}
use native.Mathlib.Nat.{zero-add}
use borrow.Author.Tests.{eq-eqb, ne_eqb}
use Rattle.std.proofs.lemmas.List.FromFn.{length-range_with_len, get_or-range_with_len}
use lib.ListN.{length, get_or, take, drop, length-drop}
use lib.Seq.{length-take-le, get_or-take, get_or-drop}
use Rattle.std.specs.Bool.{MatchBool}
use Rattle.std.specs.List.{AllWithin, HoldsAt, range_with_len}
use Rattle.kinds.specs.Cases.{every}
use Rattle.kinds.specs.Table.{in_table}
use Rattle.kinds.proofs.TableLaws.{table-facts}
use Rattle.kinds.proofs.TestLaws.{every-intro, every-false}
use Rattle.station.specs.Block.{kind_of, count_of, width_of, head_of, sources_of, is_fit_header, is_fit_spare}
use Rattle.station.proofs.KindTable.{block-sources-few}
use Rattle.station.proofs.Fitness.{header-head}

pub kind_below : (kind r wide : ℕ) → in_table kind r wide ≡ true → kind < 6
kind_below kind r wide h = (table-facts kind r wide h).0

pub sources_below : (b : List ℕ) → in_table (kind_of b) (count_of b) (width_of b) ≡ true → sources_of b < 32
sources_below b h = omega (arith, block-sources-few b (table-facts _ _ _ h).2)

pub ruleset table_bounds = (kind_below, sources_below)

pub head_below : (b : List ℕ) → is_fit_header b ≡ true → head_of b < 16
head_below b h = header-head b h

-- ---- what `all` answers of the items of a list; item k is asked what the test p of k asks
abbrev All : (Yes No : ℕ → Type 0) (xs : List ℕ) → Bool → Type 0
All Yes No xs r = MatchBool r (AllWithin Yes xs 0 (length xs)) ((k : ℕ) × (k < length xs) × HoldsAt No xs k)

every_all : (n : ℕ) (p : ℕ → Bool) (xs : List ℕ) (Yes No : ℕ → Type 0) (r : Bool) → length xs ≡ n
    → ((k : ℕ) → k < n → Yes (get_or xs k 0) → p k ≡ true) → ((k : ℕ) → k < n → No (get_or xs k 0) → p k ≡ false) → All Yes No xs r → r ≡ every n p
every_all n p xs Yes No true e f g h = sym (every-intro n p (λ k l. f k l (h k 0 (omega arith) (rw e l))))
every_all n p xs Yes No false e f g h = let l : h.0 < n = rw e at h.1 in sym (every-false n p h.0 l (g h.0 l (h.2 0)))

-- of the numbers below n
pub all_below : (n : ℕ) (p : ℕ → Bool) (r : Bool) → All (λ k. p k ≡ true) (λ k. p k ≡ false) (range_with_len 0 n) r → r ≡ every n p
all_below n p r h =
    every_all n p (range_with_len 0 n) (λ k. p k ≡ true) (λ k. p k ≡ false) r (length-range_with_len 0 n)
    (λ k l e. subst (λ (j : ℕ). p j ≡ true) (get_or-range_with_len 0 n k 0 l ∙ zero-add k) e)
    (λ k l e. subst (λ (j : ℕ). p j ≡ false) (get_or-range_with_len 0 n k 0 l ∙ zero-add k) e)
    h

-- of the spare words of a block
pub all_spares : (b : List ℕ) (r : Bool) → length b ≡ 32 → All (λ x. x ≡ 0) (λ x. x ≡ 0 → ⊥) (take 8 (drop 8 b)) r → r ≡ every 8 (is_fit_spare b)
unfolding is_fit_spare
all_spares b r l h =
    let item : (k : ℕ) → k < 8 → get_or (take 8 (drop 8 b)) k 0 ≡ get_or b (8 + k) 0 = λ k m. get_or-take 8 (drop 8 b) k 0 m ∙ get_or-drop 8 b k 0 in
    every_all 8 (is_fit_spare b) (take 8 (drop 8 b)) (λ x. x ≡ 0) (λ x. x ≡ 0 → ⊥) r (length-take-le 8 (drop 8 b) (simp length-drop (omega arith)))
    (λ k m e. eq-eqb _ _ (sym (item k m) ∙ e))
    (λ k m e. ne_eqb _ _ (λ z. e (item k m ∙ z)))
    h
