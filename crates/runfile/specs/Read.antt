-- A reader of lines that computes, by recursive descent. It need not be believed: `reads` proves that each reading claims what `Lines`
-- says of it, and `reads_only` that no other reading does. A line over 80 bytes is garbled (`long-is-garbled`) with no test of its
-- length, since the longest run line in form has 72 bytes and the longest crate line 49.
use Rattle.std.specs.Prelude.{ℕ, ◌+◌, ◌-◌, ◌*◌, Bool, true, false, cond, ◌&&◌, List, [], ◌∷◌, leb, ltb, eqb, Result, Ok, Err}
use Rattle.text.specs.Text.{bytes}
use Rattle.step.specs.declared.Refusal.{Refusal}
use Rattle.step.specs.declared.Refusal.TheVariants.{Garbled}
use Rattle.step.specs.declared.Step.{Step}
use Rattle.step.specs.declared.Step.TheVariants.{Command, Front, Z, C, Inhibit, LookAtMe, Scan, Repeat, Stop, Put, Within}
use Rattle.step.specs.Results.{ModuleLine, Reading}

-- the bytes `0` to `9`
abbrev pub digit : ℕ → Bool
digit b = leb 48 b && leb b 57

-- a number taken from the front of a list of bytes, with what is left; or none there
pub data Taken : Type 0 where
  taken : ℕ → List ℕ → Taken
  absent : Taken

-- a digit may follow the digits of v: not after a leading zero, and not after eight digits
abbrev pub open-ended : ℕ → Bool
open-ended v = ltb 0 v && ltb v 10000000

-- goes on with a number whose digits so far give v
abbrev pub digits_from : ℕ → List ℕ → Taken
digits_from v [] = taken v []
digits_from v (b ∷ l) = cond (digit b) (cond (open-ended v) (digits_from (v * 10 + (b - 48)) l) absent) (taken v (b ∷ l))

-- the number at the front
abbrev pub number : List ℕ → Taken
number [] = absent
number (b ∷ l) = cond (digit b) (digits_from (b - 48) l) absent

-- a keyword, and the number right after it
abbrev pub read_field : List ℕ → List ℕ → Taken
read_field [] l = number l
read_field (k ∷ ks) [] = absent
read_field (k ∷ ks) (b ∷ l) = cond (eqb b k) (read_field ks l) absent

-- the same bytes
abbrev pub equal : List ℕ → List ℕ → Bool
equal [] [] = true
equal [] (b ∷ l) = false
equal (k ∷ ks) [] = false
equal (k ∷ ks) (b ∷ l) = cond (eqb b k) (equal ks l) false

-- the step or the module, if nothing is left of the line
abbrev pub ended : {A : Type 0} → List ℕ → A → Result A Refusal
ended [] s = Ok s
ended (b ∷ l) s = Err Garbled

-- what follows a number, if there is one
abbrev pub and_then : {A : Type 0} → Taken → (ℕ → List ℕ → Result A Refusal) → Result A Refusal
and_then (taken v l) k = k v l
and_then absent k = Err Garbled

-- the first that is good
abbrev pub or_else : Reading → Reading → Reading
or_else (Ok s) r = Ok s
or_else (Err q) r = r

-- the step, if the test holds
abbrev pub exactly : Bool → Step → Reading
exactly true s = Ok s
exactly false s = Err Garbled

-- the numbers n, a and f taken from the front of a list of bytes, with what is left; or not there
pub data Heads : Type 0 where
  heads : ℕ → ℕ → ℕ → List ℕ → Heads
  headless : Heads

-- what follows a number, or a fault in the head
abbrev pub then_heads : Taken → (ℕ → List ℕ → Heads) → Heads
then_heads (taken v l) k = k v l
then_heads absent k = headless

-- the fields a and f behind the field n, if that is there
abbrev pub head_after : Taken → Heads
head_after first =
    then_heads first λ n l1.
    then_heads (read_field (bytes " a=") l1) λ a l2.
    then_heads (read_field (bytes " f=") l2) λ f l3.
    heads n a f l3

-- the fields n, a and f, after a keyword that ends with `n=`
unfoldable pub head_of : List ℕ → List ℕ → Heads
head_of key l = head_after (read_field key l)

-- what follows the head, if it is there
abbrev pub with_head : Heads → (ℕ → ℕ → ℕ → List ℕ → Reading) → Reading
with_head (heads n a f l) k = k n a f l
with_head headless k = Err Garbled

-- a line of each kind, with the paper's form of it above
-- op=naf n= a= f= w=
unfoldable pub naf_line : List ℕ → Reading
naf_line l =
    with_head (head_of (bytes "op=naf n=") l) λ n a f l3.
    and_then (read_field (bytes " w=") l3) λ w l4.
    ended l4 (Command n a f w)

-- op=front n= a= v=
unfoldable pub front_line : List ℕ → Reading
front_line l =
    and_then (read_field (bytes "op=front n=") l) λ n l1.
    and_then (read_field (bytes " a=") l1) λ a l2.
    and_then (read_field (bytes " v=") l2) λ v l3.
    ended l3 (Front n a v)

-- op=z, op=c, op=lam
unfoldable pub bare_line : List ℕ → Step → List ℕ → Reading
bare_line word s l = exactly (equal word l) s

-- op=i v=
unfoldable pub inhibit_line : List ℕ → Reading
inhibit_line l =
    and_then (read_field (bytes "op=i v=") l) λ v l1.
    ended l1 (Inhibit v)

-- op=scan n= a= f= to= limit=
unfoldable pub scan_line : List ℕ → Reading
scan_line l =
    with_head (head_of (bytes "op=scan n=") l) λ n a f l3.
    and_then (read_field (bytes " to=") l3) λ to l4.
    and_then (read_field (bytes " limit=") l4) λ limit l5.
    ended l5 (Scan n a f to limit)

-- op=repeat n= a= f= limit= tries=
unfoldable pub repeat_line : List ℕ → Reading
repeat_line l =
    with_head (head_of (bytes "op=repeat n=") l) λ n a f l3.
    and_then (read_field (bytes " limit=") l3) λ limit l4.
    and_then (read_field (bytes " tries=") l4) λ tries l5.
    ended l5 (Repeat n a f limit tries)

-- op=stop n= a= f= limit=
unfoldable pub stop_line : List ℕ → Reading
stop_line l =
    with_head (head_of (bytes "op=stop n=") l) λ n a f l3.
    and_then (read_field (bytes " limit=") l3) λ limit l4.
    ended l4 (Stop n a f limit)

-- op=put n= a= to= limit= w=
unfoldable pub put_line : List ℕ → Reading
put_line l =
    and_then (read_field (bytes "op=put n=") l) λ n l1.
    and_then (read_field (bytes " a=") l1) λ a l2.
    and_then (read_field (bytes " to=") l2) λ to l3.
    and_then (read_field (bytes " limit=") l3) λ limit l4.
    and_then (read_field (bytes " w=") l4) λ w l5.
    ended l5 (Put n a to limit w)

-- op=within n= to= lo= hi=
unfoldable pub within_line : List ℕ → Reading
within_line l =
    and_then (read_field (bytes "op=within n=") l) λ n l1.
    and_then (read_field (bytes " to=") l1) λ to l2.
    and_then (read_field (bytes " lo=") l2) λ lo l3.
    and_then (read_field (bytes " hi=") l3) λ hi l4.
    ended l4 (Within n to lo hi)

-- a line of a run file
unfoldable pub read_line : List ℕ → Reading
read_line l =
    or_else (naf_line l)
    (or_else (front_line l)
    (or_else (bare_line (bytes "op=z") Z l)
    (or_else (bare_line (bytes "op=c") C l)
    (or_else (inhibit_line l)
    (or_else (bare_line (bytes "op=lam") LookAtMe l)
    (or_else (scan_line l)
    (or_else (repeat_line l)
    (or_else (put_line l)
    (or_else (within_line l) (stop_line l))))))))))

-- a line of a crate file: n= kind= r= wide=
unfoldable pub read_module : List ℕ → ModuleLine
read_module l =
    and_then (read_field (bytes "n=") l) λ n l1.
    and_then (read_field (bytes " kind=") l1) λ kind l2.
    and_then (read_field (bytes " r=") l2) λ r l3.
    and_then (read_field (bytes " wide=") l3) λ wide l4.
    ended l4 (record { n = n; kind = kind; r = r; wide = wide })
