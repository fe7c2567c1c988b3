-- Which subaddresses a kind of module accepts for a function, as a class (RULES 2.31 to 2.34).
use Rattle.std.specs.Prelude.{ℕ, ◌+◌, ◌≡◌, List, [], ◌∷◌, Bool, false, cond, ◌&&◌, eqb, ltb, leb}
use Rattle.kinds.specs.Cases.{is_one_of}
use Rattle.acceptance.specs.declared.Class.{Class}
use Rattle.acceptance.specs.declared.Span.{Span}
use Rattle.acceptance.specs.declared.Class.TheVariants.{None, BelowR, BelowS, A12ToA14, A12AndA13, A13Only, A0Only}

-- the number of each class
abbrev pub class_number : Class → ℕ
class_number None = 0
class_number BelowR = 1
class_number BelowS = 2
class_number A12ToA14 = 3
class_number A12AndA13 = 4
class_number A13Only = 5
class_number A0Only = 6

-- and that number as a digit, which is a byte from 48 on
abbrev pub digit_of : Class → ℕ
digit_of class = 48 + class_number class

-- the subaddresses a of each class, for a module with r registers and s sources
unfoldable pub admits : Class → (a r s : ℕ) → Bool
admits None a r s = false
admits BelowR a r s = ltb a r
admits BelowS a r s = ltb a s
admits A12ToA14 a r s = is_one_of a (12 ∷ 13 ∷ 14 ∷ [])
admits A12AndA13 a r s = is_one_of a (12 ∷ 13 ∷ [])
admits A13Only a r s = is_one_of a (13 ∷ [])
admits A0Only a r s = eqb a 0

-- whether subaddress a is in a span, from `first` up to `past`
abbrev pub is_in : Span → ℕ → Bool
is_in t a = leb t.first a && ltb a t.past

-- the span t has the subaddresses of a class, and no others
abbrev pub Spans : Span → Class → (r s : ℕ) → Type 0
Spans t class r s = (a : ℕ) → is_in t a ≡ admits class a r s

-- a row of the rule: these functions have this class, at modules of these kinds
pub record Row : Type 0 where
  pub functions : List ℕ
  pub kinds : List ℕ
  pub class : Class

abbrev pub row : List ℕ → List ℕ → Class → Row
row functions kinds class = record { functions = functions; kinds = kinds; class = class }

-- F0, F2, F3 and F9
abbrev pub register_functions : List ℕ
register_functions = 0 ∷ 2 ∷ 3 ∷ 9 ∷ []

-- the kinds that have sources
abbrev pub with_sources : List ℕ
with_sources = 1 ∷ 3 ∷ 4 ∷ 5 ∷ []

-- 01's list of functions
abbrev pub rule : List Row
rule =
    row register_functions (1 ∷ 2 ∷ 3 ∷ 5 ∷ []) BelowR
    ∷ row register_functions (4 ∷ []) A0Only
    ∷ row (16 ∷ []) (2 ∷ 5 ∷ []) BelowR
    ∷ row (18 ∷ 21 ∷ []) (2 ∷ []) BelowR
    ∷ row (25 ∷ []) (1 ∷ []) BelowR
    ∷ row (8 ∷ 10 ∷ 24 ∷ 26 ∷ 27 ∷ []) with_sources BelowS
    ∷ row (1 ∷ []) with_sources A12ToA14
    ∷ row (11 ∷ 23 ∷ []) with_sources A12AndA13
    ∷ row (17 ∷ 19 ∷ []) with_sources A13Only
    ∷ []

-- the class that a list of rows gives a kind at function f; none where no row has them
abbrev pub class_in : List Row → (kind f : ℕ) → Class
class_in [] kind f = None
class_in (t ∷ ts) kind f = cond (is_one_of f t.functions && is_one_of kind t.kinds) t.class (class_in ts kind f)

-- the class of a kind at function f
unfoldable pub class_of : (kind f : ℕ) → Class
class_of kind f = class_in rule kind f
