-- The table of classes and the definitions of the 32 functions: a command is accepted exactly where its class has its subaddress; and what a class gives the
-- functions that are called where it has A.
-- Assumes nothing.
use Prim.Native.Nat.{ℕ, zero, suc, ◌≤◌, ◌<◌}
use mathlib.Core.Path.{◌≡◌, refl, sym, ap, ◌∙◌}
use mathlib.Core.List.{List, [], ◌∷◌}
use mathlib.Core.Bool.{Bool, true, false, true≢false, cond, ◌&&◌, ◌||◌}
use native.Mathlib.Omega.{arith}
use borrow.Author.Tests.{ltb-true, lt-ltb, le-ltb, eqb-true, eqb-false, ne_eqb}
use lib.Dec.{ltb, eqb}
use Rattle.kinds.specs.Cases.{every, is_one_of, Case, case_of}
use Rattle.kinds.specs.Table.{least_of, sources_with, in_table}
use Rattle.kinds.specs.declared.Module.{Module}
use Rattle.kinds.proofs.TestLaws.{both_false, by_cases, every-at, one-of-only, EachCase}
use Rattle.acceptance.specs.Classes.{class_number, with_sources, class_of, admits}
use Rattle.acceptance.specs.declared.Class.{Class}
use Rattle.acceptance.specs.declared.Class.TheVariants.{None, BelowR, BelowS, A12ToA14, A12AndA13, A13Only, A0Only}
use Rattle.station.specs.Block.{kind_of, count_of, fill_of, sources_of, FitBlock}
use Rattle.station.specs.Outcome.{Outcome, accept, not_accepted, tells}
use Rattle.station.specs.Buffer.{unless_empty, buffer_read_of, buffer_read_and_clear_of, buffer_read_complement_of, buffer_clear_of}
use Rattle.station.specs.Group1.{group1, register_kinds, read_of, read_and_clear_of, read_complement_of, clear_of, overwrite_of, selective_set_of, selective_clear_of, execute_of}
use Rattle.station.specs.Lam.{lam, test_lam_of, test_status_of, clear_lam_of, disable_of, enable_of}
use Rattle.station.specs.Group2.{group2, read_group2_of, clear_group2_of, overwrite_group2_of, selective_set_group2_of, selective_clear_group2_of}
use Rattle.station.specs.Command.{functions_of, command_of}
use Rattle.station.specs.Control.{module_of}
use Rattle.station.proofs.KindTable.{sources-at}
use Rattle.station.proofs.ControlLaws.{module-fit}

-- ---- a list of cases, where what is left is known to be none of them
abbrev NoneOf : {A : Type 0} → ℕ → List (Case A) → Type 0
NoneOf k [] = Unit
NoneOf k (c ∷ cs) = (k ≡ c.code → ⊥) × NoneOf k cs

case-each : {A : Type 0} (P : A → Type 0) (k : ℕ) (cs : List (Case A)) (o : A) → EachCase P k cs → (NoneOf k cs → P o) → P (case_of k cs o)
case-each P k [] o h g = g tt
case-each P k (c ∷ cs) o h g =
    by_cases P (eqb k c.code) c.outcome (case_of k cs o)
    (λ e. h.0 (eqb-true _ _ e))
    (λ e. case-each P k cs o h.1 (λ n. g (eqb-false _ _ e, n)))

-- ---- the classes of a family of functions, by the kind
-- of the kinds of a list this class, else none
abbrev pub of_kinds : List ℕ → Class → ℕ → Class
of_kinds kinds class kind = cond (is_one_of kind kinds) class None

-- F0, F2, F3 and F9
abbrev pub of_registers : ℕ → Class
of_registers kind = cond (is_one_of kind register_kinds) BelowR (of_kinds (4 ∷ []) A0Only kind)

module _ (b : List ℕ) (fit : FitBlock b) (a : ℕ) where
  -- the class has A
  abbrev pub has : Class → Bool
  has class = admits class a (count_of b) (sources_of b)

  -- kinds 0 and 2 have no sources
  bare : (k : ℕ) → kind_of b ≡ k → k < 6 → is_one_of k with_sources ≡ false → sources_of b ≡ 0
  bare zero e l h = sources-at b 0 e
  bare (suc zero) e l h = absurd (true≢false h)
  bare (suc (suc zero)) e l h = sources-at b 2 e
  bare (suc (suc (suc zero))) e l h = absurd (true≢false h)
  bare (suc (suc (suc (suc zero)))) e l h = absurd (true≢false h)
  bare (suc (suc (suc (suc (suc zero))))) e l h = absurd (true≢false h)
  bare (suc (suc (suc (suc (suc (suc k)))))) e l h = absurd (omega arith)

  -- the others have one at least
  sourced : (k : ℕ) → kind_of b ≡ k → k < 6 → least_of k ≤ count_of b → is_one_of k with_sources ≡ true → 0 < sources_of b
  sourced zero e s l h = absurd (true≢false (sym h))
  sourced (suc zero) e s l h = omega (arith, sources-at b 1 e)
  sourced (suc (suc zero)) e s l h = absurd (true≢false (sym h))
  sourced (suc (suc (suc zero))) e s l h = omega (arith, sources-at b 3 e)
  sourced (suc (suc (suc (suc zero)))) e s l h = omega (arith, sources-at b 4 e)
  sourced (suc (suc (suc (suc (suc zero))))) e s l h = omega (arith, sources-at b 5 e)
  sourced (suc (suc (suc (suc (suc (suc k)))))) e s l h = absurd (omega arith)

  -- ---- what a class gives where it has A
  at_register : (k : ℕ) → k < 6 → least_of k ≤ count_of b → has (of_registers k) ≡ true → a < count_of b
  unfolding admits
  at_register zero s l h = absurd (true≢false (sym h))
  at_register (suc zero) s l h = ltb-true _ _ h
  at_register (suc (suc zero)) s l h = ltb-true _ _ h
  at_register (suc (suc (suc zero))) s l h = ltb-true _ _ h
  at_register (suc (suc (suc (suc zero)))) s l h = omega (arith, eqb-true a 0 h, l)
  at_register (suc (suc (suc (suc (suc zero))))) s l h = ltb-true _ _ h
  at_register (suc (suc (suc (suc (suc (suc k)))))) s l h = absurd (omega arith)

  pub below-r : has (of_registers (kind_of b)) ≡ true → a < count_of b
  below-r h = at_register (kind_of b) fit.kind fit.least h

  -- of a class given to the kinds of a list: the kind is one of them, and the class has A
  pub of-kinds : (kinds : List ℕ) (class : Class) → has (of_kinds kinds class (kind_of b)) ≡ true → (is_one_of (kind_of b) kinds ≡ true) × (has class ≡ true)
  unfolding admits
  of-kinds kinds class h = go (is_one_of (kind_of b) kinds) h
    where
      go : (t : Bool) → has (cond t class None) ≡ true → (t ≡ true) × (has class ≡ true)
      go true h = (refl, h)
      go false h = absurd (true≢false (sym h))

  pub kinds-below-r : (kinds : List ℕ) → has (of_kinds kinds BelowR (kind_of b)) ≡ true → (a < count_of b) × (is_one_of (kind_of b) kinds ≡ true)
  unfolding admits
  kinds-below-r kinds h = let g = of-kinds kinds BelowR h in (ltb-true _ _ g.1, g.0)

  pub below-s : has (of_kinds with_sources BelowS (kind_of b)) ≡ true → a < sources_of b
  unfolding admits
  below-s h = ltb-true _ _ (of-kinds with_sources BelowS h).1

  pub at-group2 : (class : Class) → has (of_kinds with_sources class (kind_of b)) ≡ true → (0 < sources_of b) × (has class ≡ true)
  at-group2 class h = let g = of-kinds with_sources class h in (sourced (kind_of b) refl fit.kind fit.least g.0, g.1)

  pub at-thirteen : has (of_kinds with_sources A13Only (kind_of b)) ≡ true → a ≡ 13
  unfolding admits
  at-thirteen h = one-of-only a 13 (at-group2 A13Only h).1

  -- ---- acceptance: where the class does not have A nothing is done, where it has A the command has X = 1
  abbrev Decided : Bool → Outcome → Type 0
  Decided t o = (t ≡ false → o ≡ not_accepted b) × (t ≡ true → o.reply.x ≡ 1)

  nothing : Decided false (not_accepted b)
  nothing = (λ h. refl, λ h. absurd (true≢false (sym h)))

  -- an outcome with X = 1, behind a test that is the class's
  by-test : (t u : Bool) (o : Outcome) → t ≡ u → o.reply.x ≡ 1 → Decided u (accept t b o)
  by-test true u o e x = (λ h. absurd (true≢false (e ∙ h)), λ h. x)
  by-test false u o e x = (λ h. refl, λ h. absurd (true≢false (sym h ∙ sym e)))

  -- of a buffer memory F0, F2 and F3 have X = 1, empty or not
  with-x : (o : Outcome) → o.reply.x ≡ 1 → (unless_empty b o).reply.x ≡ 1
  with-x o x = by_cases (λ (p : Outcome). p.reply.x ≡ 1) (eqb (fill_of b) 0) (tells b 0) o (λ e. refl) (λ e. x)

  -- F0, F2, F3 and F9
  of-registers : (o p : Outcome) → o.reply.x ≡ 1 → p.reply.x ≡ 1 → (k : ℕ) → k < 6
      → Decided (has (of_registers k)) (cond (eqb k 4) (accept (eqb a 0) b o) (accept (is_one_of k register_kinds && ltb a (count_of b)) b p))
  unfolding admits
  of-registers o p x y zero l = by-test false _ p refl y
  of-registers o p x y (suc zero) l = by-test (ltb a (count_of b)) _ p refl y
  of-registers o p x y (suc (suc zero)) l = by-test (ltb a (count_of b)) _ p refl y
  of-registers o p x y (suc (suc (suc zero))) l = by-test (ltb a (count_of b)) _ p refl y
  of-registers o p x y (suc (suc (suc (suc zero)))) l = by-test (eqb a 0) _ o refl x
  of-registers o p x y (suc (suc (suc (suc (suc zero))))) l = by-test (ltb a (count_of b)) _ p refl y
  of-registers o p x y (suc (suc (suc (suc (suc (suc k)))))) l = absurd (omega arith)

  -- F16, F18, F21 and F25
  of_some : (kinds : List ℕ) (o : Outcome) → o.reply.x ≡ 1 → Decided (has (of_kinds kinds BelowR (kind_of b))) (group1 kinds b a o)
  unfolding admits
  of_some kinds o x = go (is_one_of (kind_of b) kinds)
    where
      go : (t : Bool) → Decided (has (cond t BelowR None)) (accept (t && ltb a (count_of b)) b o)
      go true = by-test (ltb a (count_of b)) _ o refl x
      go false = by-test false _ o refl x

  -- LAM commands
  of-lam : (o : Outcome) → o.reply.x ≡ 1 → Decided (has (of_kinds with_sources BelowS (kind_of b))) (lam b a o)
  unfolding admits
  of-lam o x = go (is_one_of (kind_of b) with_sources) refl
    where
      go : (t : Bool) → is_one_of (kind_of b) with_sources ≡ t → Decided (has (cond t BelowS None)) (lam b a o)
      go true e = by-test (ltb a (sources_of b)) _ o refl x
      go false e = by-test (ltb a (sources_of b)) _ o (le-ltb a _ (omega (arith, bare (kind_of b) refl fit.kind e))) x

  -- Group 2: the subaddresses of the class are those of the cases
  abbrev codes_of : List (Case Outcome) → List ℕ
  codes_of [] = []
  codes_of (c ∷ cs) = c.code ∷ codes_of cs

  abbrev EachX : List (Case Outcome) → Type 0
  EachX [] = Unit
  EachX (c ∷ cs) = (c.outcome.reply.x ≡ 1) × EachX cs

  of-cases : (cs : List (Case Outcome)) → EachX cs → Decided (is_one_of a (codes_of cs)) (case_of a cs (not_accepted b))
  of-cases [] x = nothing
  of-cases (c ∷ cs) x = go (of-cases cs x.1) (eqb a c.code)
    where
      go : Decided (is_one_of a (codes_of cs)) (case_of a cs (not_accepted b)) → (t : Bool)
          → Decided (t || is_one_of a (codes_of cs)) (cond t c.outcome (case_of a cs (not_accepted b)))
      go rest true = (λ h. absurd (true≢false h), λ h. x.0)
      go rest false = rest

  of-group2 : (class : Class) (cs : List (Case Outcome)) → has class ≡ is_one_of a (codes_of cs) → EachX cs
      → Decided (has (of_kinds with_sources class (kind_of b))) (group2 b a cs)
  unfolding admits group2
  of-group2 class cs same x = go (is_one_of (kind_of b) with_sources) refl
    where
      go : (t : Bool) → is_one_of (kind_of b) with_sources ≡ t → Decided (has (cond t class None)) (accept (ltb 0 (sources_of b)) b (case_of a cs (not_accepted b)))
      go true e = rw (lt-ltb 0 (sources_of b) (sourced (kind_of b) refl fit.kind fit.least e), same) (of-cases cs x)
      go false e = rw (bare (kind_of b) refl fit.kind e) nothing

  -- ---- all codes
  module _ (w : ℕ) where
    -- function f is decided by its class
    abbrev ByClass : ℕ → Outcome → Type 0
    ByClass f o = Decided (has (class_of (kind_of b) f)) o

    at_code : (f k : ℕ) (o : Outcome) → ByClass k o → f ≡ k → ByClass f o
    at_code f k o d e = rw e d

    by_read : ByClass 0 (read_of b a)
    unfolding class_of read_of buffer_read_of
    by_read = of-registers _ _ (with-x _ refl) refl (kind_of b) fit.kind

    by-read-group2 : ByClass 1 (read_group2_of b a)
    unfolding class_of read_group2_of admits
    by-read-group2 = of-group2 A12ToA14 _ refl (refl, (refl, (refl, tt)))

    by-read-and-clear : ByClass 2 (read_and_clear_of b a)
    unfolding class_of read_and_clear_of buffer_read_and_clear_of
    by-read-and-clear = of-registers _ _ (with-x _ refl) refl (kind_of b) fit.kind

    by-read-complement : ByClass 3 (read_complement_of b a)
    unfolding class_of read_complement_of buffer_read_complement_of
    by-read-complement = of-registers _ _ (with-x _ refl) refl (kind_of b) fit.kind

    by-test-lam : ByClass 8 (test_lam_of b a)
    unfolding class_of test_lam_of
    by-test-lam = of-lam _ refl

    by-clear : ByClass 9 (clear_of b a)
    unfolding class_of clear_of buffer_clear_of
    by-clear = of-registers _ _ refl refl (kind_of b) fit.kind

    by-clear-lam : ByClass 10 (clear_lam_of b a)
    unfolding class_of clear_lam_of
    by-clear-lam = of-lam _ refl

    by-clear-group2 : ByClass 11 (clear_group2_of b a)
    unfolding class_of clear_group2_of admits
    by-clear-group2 = of-group2 A12AndA13 _ refl (refl, (refl, tt))

    by-overwrite : ByClass 16 (overwrite_of b a w)
    unfolding class_of overwrite_of
    by-overwrite = of_some (2 ∷ 5 ∷ []) _ refl

    by-overwrite-group2 : ByClass 17 (overwrite_group2_of b a w)
    unfolding class_of overwrite_group2_of admits
    by-overwrite-group2 = of-group2 A13Only _ refl (refl, tt)

    by-selective-set : ByClass 18 (selective_set_of b a w)
    unfolding class_of selective_set_of
    by-selective-set = of_some (2 ∷ []) _ refl

    by-selective-set-group2 : ByClass 19 (selective_set_group2_of b a w)
    unfolding class_of selective_set_group2_of admits
    by-selective-set-group2 = of-group2 A13Only _ refl (refl, tt)

    by-selective-clear : ByClass 21 (selective_clear_of b a w)
    unfolding class_of selective_clear_of
    by-selective-clear = of_some (2 ∷ []) _ refl

    by-selective-clear-group2 : ByClass 23 (selective_clear_group2_of b a w)
    unfolding class_of selective_clear_group2_of admits
    by-selective-clear-group2 = of-group2 A12AndA13 _ refl (refl, (refl, tt))

    by-disable : ByClass 24 (disable_of b a)
    unfolding class_of disable_of
    by-disable = of-lam _ refl

    by-execute : ByClass 25 (execute_of b a)
    unfolding class_of execute_of
    by-execute = of_some (1 ∷ []) _ refl

    by-enable : ByClass 26 (enable_of b a)
    unfolding class_of enable_of
    by-enable = of-lam _ refl

    by-test-status : ByClass 27 (test_status_of b a)
    unfolding class_of test_status_of
    by-test-status = of-lam _ refl

    each-code : (f : ℕ) → EachCase (ByClass f) f (functions_of b a w)
    unfolding functions_of
    each-code f = (
      at_code f 0 _ by_read,
      (
        at_code f 1 _ by-read-group2,
        (
          at_code f 2 _ by-read-and-clear,
          (
            at_code f 3 _ by-read-complement,
            (
              at_code f 8 _ by-test-lam,
              (
                at_code f 9 _ by-clear,
                (
                  at_code f 10 _ by-clear-lam,
                  (
                    at_code f 11 _ by-clear-group2,
                    (
                      at_code f 16 _ by-overwrite,
                      (
                        at_code f 17 _ by-overwrite-group2,
                        (
                          at_code f 18 _ by-selective-set,
                          (
                            at_code f 19 _ by-selective-set-group2,
                            (
                              at_code f 21 _ by-selective-clear,
                              (
                                at_code f 23 _ by-selective-clear-group2,
                                (
                                  at_code f 24 _ by-disable,
                                  (
                                    at_code f 25 _ by-execute,
                                    (
                                      at_code f 26 _ by-enable,
                                      (at_code f 27 _ by-test-status, tt),
                                    ),
                                  ),
                                ),
                              ),
                            ),
                          ),
                        ),
                      ),
                    ),
                  ),
                ),
              ),
            ),
          ),
        ),
      ),
    )

    -- a code of no case has no class
    none_left : (f : ℕ) → NoneOf f (functions_of b a w) → class_of (kind_of b) f ≡ None
    unfolding class_of functions_of
    none_left f n = simp (
      ne_eqb f 0 n.0,
      ne_eqb f 1 n.1.0,
      ne_eqb f 2 n.1.1.0,
      ne_eqb f 3 n.1.1.1.0,
      ne_eqb f 8 n.1.1.1.1.0,
      ne_eqb f 9 n.1.1.1.1.1.0,
      ne_eqb f 10 n.1.1.1.1.1.1.0,
      ne_eqb f 11 n.1.1.1.1.1.1.1.0,
      ne_eqb f 16 n.1.1.1.1.1.1.1.1.0,
      ne_eqb f 17 n.1.1.1.1.1.1.1.1.1.0,
      ne_eqb f 18 n.1.1.1.1.1.1.1.1.1.1.0,
      ne_eqb f 19 n.1.1.1.1.1.1.1.1.1.1.1.0,
      ne_eqb f 21 n.1.1.1.1.1.1.1.1.1.1.1.1.0,
      ne_eqb f 23 n.1.1.1.1.1.1.1.1.1.1.1.1.1.0,
      ne_eqb f 24 n.1.1.1.1.1.1.1.1.1.1.1.1.1.1.0,
      ne_eqb f 25 n.1.1.1.1.1.1.1.1.1.1.1.1.1.1.1.0,
      ne_eqb f 26 n.1.1.1.1.1.1.1.1.1.1.1.1.1.1.1.1.0,
      ne_eqb f 27 n.1.1.1.1.1.1.1.1.1.1.1.1.1.1.1.1.1.0,
    )

    decided-all : (f : ℕ) → ByClass f (command_of b a f w)
    unfolding command_of admits
    decided-all f = case-each (ByClass f) f (functions_of b a w) (not_accepted b) (each-code f) (λ n. rw (none_left f n) nothing)

-- ---- the two theorems
-- acceptance is the table, exactly: where the class of a fit block's kind at F does not have A, the command is not accepted; where it has A, X is 1
pub record Admitted (b : List ℕ) (a f w : ℕ) : Type 0 where
  pub outside : admits (class_of (kind_of b) f) a (count_of b) (sources_of b) ≡ false → command_of b a f w ≡ not_accepted b
  pub inside : admits (class_of (kind_of b) f) a (count_of b) (sources_of b) ≡ true → (command_of b a f w).reply.x ≡ 1

pub admitted : (b : List ℕ) → FitBlock b → (a f w : ℕ) → Admitted b a f w
admitted b fit a f w = let d = decided-all b fit a w f in record { outside = d.0; inside = d.1 }

-- a fit block of this kind, and an A at which it accepts f
pub record Accepting (kind f : ℕ) : Type 0 where
  pub block : List ℕ
  pub a : ℕ
  pub fit : FitBlock block
  pub same : kind_of block ≡ kind
  pub last : a ≤ 15
  pub accepts : (w : ℕ) → (command_of block a f w).reply.x ≡ 1

-- class none, exactly: there no fit block of the kind accepts f at any A; elsewhere one does; so where none does, the class is none
pub record NoneExact (kind f : ℕ) : Type 0 where
  pub none : class_of kind f ≡ None → (b : List ℕ) (a w : ℕ) → FitBlock b → kind_of b ≡ kind → command_of b a f w ≡ not_accepted b
  pub some : (class_of kind f ≡ None → ⊥) → Accepting kind f
  pub only : (Accepting kind f → ⊥) → class_of kind f ≡ None

none-accept : (kind f : ℕ) → class_of kind f ≡ None → (b : List ℕ) (a w : ℕ) → FitBlock b → kind_of b ≡ kind → command_of b a f w ≡ not_accepted b
unfolding admits
none-accept kind f e b a w fit k =
    (admitted b fit a f w).outside (ap (λ (class : Class). admits class a (count_of b) (sources_of b)) (ap (λ (n : ℕ). class_of n f) k ∙ e))

-- a module with one register, one station wide
abbrev sample : ℕ → Module
sample kind = record { n = 1; kind = kind; r = 1; wide = 1 }

-- a subaddress of each class, of such a module just put in
abbrev place_of : Class → ℕ
place_of None = 0
place_of BelowR = 0
place_of BelowS = 0
place_of A12ToA14 = 12
place_of A12AndA13 = 12
place_of A13Only = 13
place_of A0Only = 0

place-few : (c : Class) → place_of c ≤ 15
place-few None = omega arith
place-few BelowR = omega arith
place-few BelowS = omega arith
place-few A12ToA14 = omega arith
place-few A12AndA13 = omega arith
place-few A13Only = omega arith
place-few A0Only = omega arith

-- whether a class is none
abbrev is_none : Class → Bool
is_none c = eqb (class_number c) 0

-- the class is none, or has that subaddress: computed at each of the 192 pairs
abbrev placed : (kind f : ℕ) → Bool
placed kind f = let class = class_of kind f in is_none class || admits class (place_of class) 1 (sources_with kind 1)

all_placed : every 6 (λ kind. every 32 (placed kind)) ≡ true
unfolding class_of admits
all_placed = refl

-- an empty station has class none at every function
pub empty-class : (f : ℕ) → class_of 0 f ≡ None
unfolding class_of
empty-class f = simp both_false

-- a kind that has a class is no empty station, and may have one register and be one station wide
sample-some : (kind f : ℕ) → (class_of kind f ≡ None → ⊥) → 1 ≤ kind
sample-some zero f n = absurd (n (empty-class f))
sample-some (suc kind) f n = omega arith

sample-table : (kind f : ℕ) → kind < 6 → (class_of kind f ≡ None → ⊥) → in_table kind 1 1 ≡ true
unfolding in_table
sample-table zero f l n = absurd (n (empty-class f))
sample-table (suc zero) f l n = refl
sample-table (suc (suc zero)) f l n = refl
sample-table (suc (suc (suc zero))) f l n = refl
sample-table (suc (suc (suc (suc zero)))) f l n = refl
sample-table (suc (suc (suc (suc (suc zero))))) f l n = refl
sample-table (suc (suc (suc (suc (suc (suc kind)))))) f l n = absurd (omega arith)

not_none : (c : Class) (t : Bool) → (c ≡ None → ⊥) → is_none c || t ≡ true → t ≡ true
not_none None t n h = absurd (n refl)
not_none BelowR t n h = h
not_none BelowS t n h = h
not_none A12ToA14 t n h = h
not_none A12AndA13 t n h = h
not_none A13Only t n h = h
not_none A0Only t n h = h

one-accepts : (kind f : ℕ) → kind < 6 → f < 32 → (class_of kind f ≡ None → ⊥) → Accepting kind f
unfolding sources_of
one-accepts kind f l m n =
    let class = class_of kind f in
    let fit = module-fit (sample kind) (record { first = omega arith; last = omega arith; kind = sample-some kind f n; table = sample-table kind f l n; room = λ two. omega arith }) in
    let here = every-at 32 (placed kind) f (every-at 6 (λ k. every 32 (placed k)) kind all_placed l) m in
    record {
      block = module_of (sample kind);
      a = place_of class;
      fit = fit;
      same = refl;
      last = place-few class;
      accepts = λ w. (admitted (module_of (sample kind)) fit (place_of class) f w).inside (not_none class _ n here);
    }

is-none : (c : Class) → ((c ≡ None → ⊥) → ⊥) → c ≡ None
is-none None h = refl
is-none BelowR h = absurd (h (λ e. true≢false (sym (ap is_none e))))
is-none BelowS h = absurd (h (λ e. true≢false (sym (ap is_none e))))
is-none A12ToA14 h = absurd (h (λ e. true≢false (sym (ap is_none e))))
is-none A12AndA13 h = absurd (h (λ e. true≢false (sym (ap is_none e))))
is-none A13Only h = absurd (h (λ e. true≢false (sym (ap is_none e))))
is-none A0Only h = absurd (h (λ e. true≢false (sym (ap is_none e))))

pub none-exact : (kind f : ℕ) → kind < 6 → f < 32 → NoneExact kind f
none-exact kind f l m =
    let some = one-accepts kind f l m in
    record { none = none-accept kind f; some = some; only = λ n. is-none (class_of kind f) (λ h. n (some h)) }
