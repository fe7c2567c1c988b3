-- Laws of the rule: class 6, A0 only, is that of kind 4 at F0, F2, F3 and F9, and of nothing else.
-- Assumes nothing.
use Prim.Native.Nat.{ℕ, ◌<◌}
use mathlib.Core.Path.{◌≡◌, refl, sym, ap, ◌∙◌}
use mathlib.Core.Bool.{Bool, true, false, not, ◌&&◌, true≢false}
use borrow.Author.Tests.{eqb-true}
use lib.Dec.{eqb}
use Rattle.kinds.specs.Cases.{every, is_one_of}
use Rattle.kinds.proofs.TestLaws.{both-fst, both-snd, every-at}
use Rattle.acceptance.specs.Classes.{class_number, register_functions, class_of}
use Rattle.acceptance.specs.declared.Class.{Class}
use Rattle.acceptance.specs.declared.Class.TheVariants.{None, BelowR, BelowS, A12ToA14, A12AndA13, A13Only, A0Only}

-- of two tests, whether they agree
abbrev agree : Bool → Bool → Bool
agree true u = u
agree false u = not u

agreed : (t u : Bool) → agree t u ≡ true → t ≡ u
agreed true u h = sym h
agreed false true h = h
agreed false false h = refl

-- class 6, and kind 4 at one of the four functions: computed at each of the 192 pairs
abbrev six : (kind f : ℕ) → Bool
six kind f = eqb (class_number (class_of kind f)) 6

abbrev four : (kind f : ℕ) → Bool
four kind f = eqb kind 4 && is_one_of f register_functions

all-agree : every 6 (λ kind. every 32 (λ f. agree (six kind f) (four kind f))) ≡ true
unfolding class_of
all-agree = refl

six-four : (kind f : ℕ) → kind < 6 → f < 32 → six kind f ≡ four kind f
six-four kind f l m =
    agreed (six kind f) (four kind f)
    (every-at 32 (λ g. agree (six kind g) (four kind g)) f (every-at 6 (λ k. every 32 (λ g. agree (six k g) (four k g))) kind all-agree l) m)

by-six : (c : Class) → eqb (class_number c) 6 ≡ true → c ≡ A0Only
by-six None h = absurd (true≢false (sym h))
by-six BelowR h = absurd (true≢false (sym h))
by-six BelowS h = absurd (true≢false (sym h))
by-six A12ToA14 h = absurd (true≢false (sym h))
by-six A12AndA13 h = absurd (true≢false (sym h))
by-six A13Only h = absurd (true≢false (sym h))
by-six A0Only h = refl

pub record A0Exact (kind f : ℕ) : Type 0 where
  pub only : class_of kind f ≡ A0Only → (kind ≡ 4) × (is_one_of f register_functions ≡ true)
  pub there : kind ≡ 4 → is_one_of f register_functions ≡ true → class_of kind f ≡ A0Only

pub a0-exact : (kind f : ℕ) → kind < 6 → f < 32 → A0Exact kind f
a0-exact kind f l m =
    let same = six-four kind f l m in
    let at-four = is_one_of f register_functions in
    record {
      only = λ e. let h = sym same ∙ ap (λ (c : Class). eqb (class_number c) 6) e in (eqb-true kind 4 (both-fst (eqb kind 4) at-four h), both-snd (eqb kind 4) at-four h);
      there = λ k g. by-six (class_of kind f) (same ∙ (rw (k, g) refl));
    }
