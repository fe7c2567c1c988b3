-- The letter after `op=` leaves one form of a run line to try, and two for `s`: a form with another letter there reads the line as garbled.
use Prim.Native.Nat.{ℕ, zero, suc, ◌≤◌, ◌<◌}
use Prim.Native.String.{String}
use mathlib.Core.Path.{◌≡◌, refl, sym, ◌∙◌, ap, ap₂}
use mathlib.Core.Bool.{Bool, true, false, cond}
use mathlib.Core.List.{List, [], ◌∷◌}
use native.Mathlib.Omega.{arith}
use borrow.Author.Tests.{eqb-false, ne_eqb}
use lib.Dec.{eqb}
use lib.ListN.{length, get_or}
use Rattle.text.specs.Text.{bytes}
use Rattle.step.specs.declared.Refusal.TheVariants.{Garbled}
use Rattle.step.specs.declared.Step.{Step}
use Rattle.step.specs.declared.Step.TheVariants.{Command, Front, Z, C, Inhibit, LookAtMe, Repeat, Put, Within}
use Rattle.runfile.specs.Read.{absent, read_field, equal, or_else, exactly, head_of}
use Rattle.runfile.specs.Read.{naf_line, front_line, bare_line, inhibit_line, scan_line, repeat_line, stop_line, put_line, within_line, read_line}
use Rattle.runfile.proofs.RunLines.{OnlyGarbled, only-ended, only_then, only-head}
use Rattle.std.specs.Prelude.{Ok, Err}
use Rattle.step.specs.Results.{Reading}

-- ---- a key or a word that differs from the line at place i
other-field : (i : ℕ) (key l : List ℕ) → i < length key → (get_or l i 0 ≡ get_or key i 0 → ⊥) → read_field key l ≡ absent
other-field i [] l h e = absurd (omega arith)
other-field i (k ∷ key) [] h e = refl
other-field zero (k ∷ key) (b ∷ l) h e = rw (ne_eqb b k e)
other-field (suc i) (k ∷ key) (b ∷ l) h e = go (eqb b k) (other-field i key l (omega arith) e)
  where
    go : (t : Bool) → read_field key l ≡ absent → cond t (read_field key l) absent ≡ absent
    go true q = q
    go false q = refl

other_word : (i : ℕ) (word l : List ℕ) → i < length word → (get_or l i 0 ≡ get_or word i 0 → ⊥) → equal word l ≡ false
other_word i [] l h e = absurd (omega arith)
other_word i (k ∷ word) [] h e = refl
other_word zero (k ∷ word) (b ∷ l) h e = rw (ne_eqb b k e)
other_word (suc i) (k ∷ word) (b ∷ l) h e = go (eqb b k) (other_word i word l (omega arith) e)
  where
    go : (t : Bool) → equal word l ≡ false → cond t (equal word l) false ≡ false
    go true q = q
    go false q = refl

-- ---- the letter
-- the byte after `op=`, 0 where the line ends before
abbrev pub letter : List ℕ → ℕ
letter l = get_or l 3 0

-- the one letter of a text
abbrev sign : String → ℕ
sign w = get_or (bytes w) 0 0

-- a reading, if the letter c is w; else garbled
abbrev at : ℕ → String → Reading → Reading
at c w r = cond (eqb c (sign w)) r (Err Garbled)

-- `read_line` with each form tried at its letter only
abbrev pub chosen : ℕ → List ℕ → Reading
chosen c l =
    or_else (at c "n" (naf_line l))
    (or_else (at c "f" (front_line l))
    (or_else (at c "z" (bare_line (bytes "op=z") Z l))
    (or_else (at c "c" (bare_line (bytes "op=c") C l))
    (or_else (at c "i" (inhibit_line l))
    (or_else (at c "l" (bare_line (bytes "op=lam") LookAtMe l))
    (or_else (at c "s" (scan_line l))
    (or_else (at c "r" (repeat_line l))
    (or_else (at c "p" (put_line l))
    (or_else (at c "w" (within_line l)) (at c "s" (stop_line l)))))))))))

module _ (l : List ℕ) where
  -- a form that reads a line with another letter as garbled may be tried at its letter only
  at-letter : (w : String) (r : Reading) → ((letter l ≡ sign w → ⊥) → r ≡ Err Garbled) → r ≡ at (letter l) w r
  at-letter w r other = go (eqb (letter l) (sign w)) refl
    where
      go : (t : Bool) → eqb (letter l) (sign w) ≡ t → r ≡ cond t r (Err Garbled)
      go true e = refl
      go false e = other (eqb-false (letter l) (sign w) e)

  at_n : naf_line l ≡ at (letter l) "n" (naf_line l)
  unfolding naf_line head_of
  at_n = at-letter "n" (naf_line l) λ h. rw (other-field 3 (bytes "op=naf n=") l (omega arith) h)

  at_f : front_line l ≡ at (letter l) "f" (front_line l)
  unfolding front_line
  at_f = at-letter "f" (front_line l) λ h. rw (other-field 3 (bytes "op=front n=") l (omega arith) h)

  at-z : bare_line (bytes "op=z") Z l ≡ at (letter l) "z" (bare_line (bytes "op=z") Z l)
  unfolding bare_line
  at-z = at-letter "z" (bare_line (bytes "op=z") Z l) λ h. rw (other_word 3 (bytes "op=z") l (omega arith) h)

  at_c : bare_line (bytes "op=c") C l ≡ at (letter l) "c" (bare_line (bytes "op=c") C l)
  unfolding bare_line
  at_c = at-letter "c" (bare_line (bytes "op=c") C l) λ h. rw (other_word 3 (bytes "op=c") l (omega arith) h)

  at_i : inhibit_line l ≡ at (letter l) "i" (inhibit_line l)
  unfolding inhibit_line
  at_i = at-letter "i" (inhibit_line l) λ h. rw (other-field 3 (bytes "op=i v=") l (omega arith) h)

  at-l : bare_line (bytes "op=lam") LookAtMe l ≡ at (letter l) "l" (bare_line (bytes "op=lam") LookAtMe l)
  unfolding bare_line
  at-l = at-letter "l" (bare_line (bytes "op=lam") LookAtMe l) λ h. rw (other_word 3 (bytes "op=lam") l (omega arith) h)

  at-scan : scan_line l ≡ at (letter l) "s" (scan_line l)
  unfolding scan_line head_of
  at-scan = at-letter "s" (scan_line l) λ h. rw (other-field 3 (bytes "op=scan n=") l (omega arith) h)

  at-r : repeat_line l ≡ at (letter l) "r" (repeat_line l)
  unfolding repeat_line head_of
  at-r = at-letter "r" (repeat_line l) λ h. rw (other-field 3 (bytes "op=repeat n=") l (omega arith) h)

  at_p : put_line l ≡ at (letter l) "p" (put_line l)
  unfolding put_line
  at_p = at-letter "p" (put_line l) λ h. rw (other-field 3 (bytes "op=put n=") l (omega arith) h)

  at-w : within_line l ≡ at (letter l) "w" (within_line l)
  unfolding within_line
  at-w = at-letter "w" (within_line l) λ h. rw (other-field 3 (bytes "op=within n=") l (omega arith) h)

  at-stop : stop_line l ≡ at (letter l) "s" (stop_line l)
  unfolding stop_line head_of
  at-stop = at-letter "s" (stop_line l) λ h. rw (other-field 3 (bytes "op=stop n=") l (omega arith) h)

  -- the letter c chooses among the forms; for a known c this computes
  pub by-letter : (c : ℕ) → letter l ≡ c → chosen c l ≡ read_line l
  unfolding read_line
  by-letter c e =
      ap (λ (c : ℕ). chosen c l) (sym e)
      ∙ sym (ap₂ or_else at_n (ap₂ or_else at_f (ap₂ or_else at-z (ap₂ or_else at_c (ap₂ or_else at_i (ap₂ or_else at-l
      (ap₂ or_else at-scan (ap₂ or_else at-r (ap₂ or_else at_p (ap₂ or_else at-w at-stop))))))))))

-- ---- what `read_line` answers at each letter
-- garbled is the one refusal of a form, so a last try that is garbled changes nothing
alone : (r : Reading) → OnlyGarbled r → r ≡ or_else r (Err Garbled)
alone (Ok s) o = refl
alone (Err q) o = ap Err o

only-exactly : (t : Bool) (s : Step) → OnlyGarbled (exactly t s)
only-exactly true s = tt
only-exactly false s = refl

module _ (l : List ℕ) where
  pub letter-n : letter l ≡ 110 → naf_line l ≡ read_line l
  unfolding naf_line
  letter-n e = alone (naf_line l)
      (only-head (head_of (bytes "op=naf n=") l) _ λ n a f r.
      only_then (read_field (bytes " w=") r) _ λ w r₁.
      only-ended r₁ (Command n a f w)) ∙ by-letter l 110 e

  pub letter-f : letter l ≡ 102 → front_line l ≡ read_line l
  unfolding front_line
  letter-f e = alone (front_line l)
      (only_then (read_field (bytes "op=front n=") l) _ λ n r₁.
      only_then (read_field (bytes " a=") r₁) _ λ a r₂.
      only_then (read_field (bytes " v=") r₂) _ λ v r₃.
      only-ended r₃ (Front n a v)) ∙ by-letter l 102 e

  pub letter-z : letter l ≡ 122 → bare_line (bytes "op=z") Z l ≡ read_line l
  unfolding bare_line
  letter-z e = alone (bare_line (bytes "op=z") Z l) (only-exactly (equal (bytes "op=z") l) Z) ∙ by-letter l 122 e

  pub letter-c : letter l ≡ 99 → bare_line (bytes "op=c") C l ≡ read_line l
  unfolding bare_line
  letter-c e = alone (bare_line (bytes "op=c") C l) (only-exactly (equal (bytes "op=c") l) C) ∙ by-letter l 99 e

  pub letter-i : letter l ≡ 105 → inhibit_line l ≡ read_line l
  unfolding inhibit_line
  letter-i e = alone (inhibit_line l)
      (only_then (read_field (bytes "op=i v=") l) _ λ v r.
      only-ended r (Inhibit v)) ∙ by-letter l 105 e

  pub letter-l : letter l ≡ 108 → bare_line (bytes "op=lam") LookAtMe l ≡ read_line l
  unfolding bare_line
  letter-l e = alone (bare_line (bytes "op=lam") LookAtMe l) (only-exactly (equal (bytes "op=lam") l) LookAtMe) ∙ by-letter l 108 e

  pub letter-s : letter l ≡ 115 → or_else (scan_line l) (stop_line l) ≡ read_line l
  letter-s e = by-letter l 115 e

  pub letter-r : letter l ≡ 114 → repeat_line l ≡ read_line l
  unfolding repeat_line
  letter-r e = alone (repeat_line l)
      (only-head (head_of (bytes "op=repeat n=") l) _ λ n a f r.
      only_then (read_field (bytes " limit=") r) _ λ limit r₁.
      only_then (read_field (bytes " tries=") r₁) _ λ tries r₂.
      only-ended r₂ (Repeat n a f limit tries)) ∙ by-letter l 114 e

  pub letter-p : letter l ≡ 112 → put_line l ≡ read_line l
  unfolding put_line
  letter-p e = alone (put_line l)
      (only_then (read_field (bytes "op=put n=") l) _ λ n r₁.
      only_then (read_field (bytes " a=") r₁) _ λ a r₂.
      only_then (read_field (bytes " to=") r₂) _ λ to r₃.
      only_then (read_field (bytes " limit=") r₃) _ λ limit r₄.
      only_then (read_field (bytes " w=") r₄) _ λ w r₅.
      only-ended r₅ (Put n a to limit w)) ∙ by-letter l 112 e

  pub letter-w : letter l ≡ 119 → within_line l ≡ read_line l
  unfolding within_line
  letter-w e = alone (within_line l)
      (only_then (read_field (bytes "op=within n=") l) _ λ n r₁.
      only_then (read_field (bytes " to=") r₁) _ λ to r₂.
      only_then (read_field (bytes " lo=") r₂) _ λ lo r₃.
      only_then (read_field (bytes " hi=") r₃) _ λ hi r₄.
      only-ended r₄ (Within n to lo hi)) ∙ by-letter l 119 e

-- a line that ends before its letter
pub no-letter : (l : List ℕ) → length l < 4 → Err Garbled ≡ read_line l
no-letter l h = by-letter l 0 (none l 3 (omega arith))
  where
    none : (l : List ℕ) (i : ℕ) → length l ≤ i → get_or l i 0 ≡ 0
    none [] i h = refl
    none (b ∷ l) zero h = absurd (omega arith)
    none (b ∷ l) (suc i) h = none l i (omega arith)

-- a letter of no form
pub other-letter : (l : List ℕ) (x : ℕ) → letter l ≡ x
    → (x ≡ 110 → ⊥) → (x ≡ 102 → ⊥) → (x ≡ 122 → ⊥) → (x ≡ 99 → ⊥) → (x ≡ 105 → ⊥)
    → (x ≡ 108 → ⊥) → (x ≡ 115 → ⊥) → (x ≡ 114 → ⊥) → (x ≡ 112 → ⊥) → (x ≡ 119 → ⊥)
    → Err Garbled ≡ read_line l
other-letter l x e n f z c i lam s r p w =
    rw (
      ne_eqb x 110 n,
      ne_eqb x 102 f,
      ne_eqb x 122 z,
      ne_eqb x 99 c,
      ne_eqb x 105 i,
      ne_eqb x 108 lam,
      ne_eqb x 115 s,
      ne_eqb x 114 r,
      ne_eqb x 112 p,
      ne_eqb x 119 w,
    )
    at (by-letter l x e)
