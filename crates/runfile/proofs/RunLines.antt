-- The lines of a run file: `read_line` gives a step exactly on the step's text, `reads` and `reads_only` say so of its every answer, and a
-- line over 80 bytes is garbled.
use Prim.Native.Nat.{ℕ, ◌≤◌, ◌<◌}
use mathlib.Core.Path.{◌≡◌, refl, sym, ◌∙◌, ap, subst, subst⁻¹}
use mathlib.Core.Bool.{Bool, true, false, cond, false≢true}
use mathlib.Core.List.{List, [], ◌∷◌, ◌++◌}
use native.Mathlib.Omega.{arith}
use borrow.Author.Tests.{eqb-true}
use lib.Dec.{eqb}
use lib.ListN.{length, length-append}
use Rattle.text.specs.Text.{bytes, decimal, field_then}
use Rattle.text.proofs.Decimal.{length-eight}
use Rattle.step.specs.declared.Refusal.{Refusal}
use Rattle.step.specs.declared.Refusal.TheVariants.{Garbled}
use Rattle.step.specs.declared.Step.{Step}
use Rattle.step.specs.declared.Step.TheVariants.{Command, Front, Z, C, Inhibit, LookAtMe, Scan, Repeat, Stop, Put, PutLent, Processor, Within}
use Rattle.step.specs.declared.Short.{Short}
use Rattle.runfile.specs.Lines.{text, FieldsFit, IsText, Reads}
use Rattle.runfile.specs.Read.{Taken, taken, absent, Heads, heads, headless, read_field, equal, ended, and_then, or_else, exactly}
use Rattle.runfile.specs.Read.{naf_line, front_line, bare_line, inhibit_line, scan_line, repeat_line, stop_line, put_line, within_line, read_line}
use Rattle.runfile.specs.Read.{then_heads, head_of, with_head}
use Rattle.runfile.proofs.Numbers.{read_number, field-written}
use Rattle.std.specs.Prelude.{Result, Ok, Err}
use Rattle.step.specs.Results.{Reading}

pub bad-good : {B : Type 0} {q : Refusal} {s : B} {A : Type 0} → Err q ≡ Ok s → A
bad-good e = let z : ◌≡◌ {A = ℕ} 0 1 = cc in absurd (omega arith)

-- each way to a good reading, with what then stands on the line

pub and-then : {B : Type 0} (key l : List ℕ) (k : ℕ → List ℕ → Result B Refusal) (s : B) {A : Type 0}
    → ((v : ℕ) (r : List ℕ) → l ≡ key ++ (decimal v ++ r) → v < 100000000 → k v r ≡ Ok s → A)
    → and_then (read_field key l) k ≡ Ok s
    → A
and-then key l k s {A = A} found e = go (read_field key l) refl e
  where
    go : (t : Taken) → read_field key l ≡ t → and_then t k ≡ Ok s → A
    go (taken v r) q e = found v r (field-written key l v r q).0 (field-written key l v r q).1 e
    go absent q e = bad-good e

pub and-ended : {B : Type 0} (P : B → Type 0) (r : List ℕ) (s₀ s : B) → (r ≡ [] → P s₀) → ended r s₀ ≡ Ok s → P s
and-ended P [] s₀ s found e = let q : s₀ ≡ s = cc in subst P q (found refl)
and-ended P (b ∷ r) s₀ s found e = bad-good e

heads-absent : {n a f : ℕ} {r : List ℕ} {A : Type 0} → headless ≡ heads n a f r → A
heads-absent e = let z : ◌≡◌ {A = ℕ} 0 1 = cc in absurd (omega arith)

then-heads : (key l : List ℕ) (k : ℕ → List ℕ → Heads) (h : Heads) {A : Type 0}
    → ((v : ℕ) (r : List ℕ) → l ≡ key ++ (decimal v ++ r) → v < 100000000 → k v r ≡ h → A)
    → (headless ≡ h → A)
    → then_heads (read_field key l) k ≡ h
    → A
then-heads key l k h {A} found none e = go (read_field key l) refl e
  where
    go : (t : Taken) → read_field key l ≡ t → then_heads t k ≡ h → A
    go (taken v r) q e = found v r (field-written key l v r q).0 (field-written key l v r q).1 e
    go absent q e = none e

with-head : (key l : List ℕ) (k : ℕ → ℕ → ℕ → List ℕ → Reading) (s : Step) {A : Type 0}
    → ((n a f : ℕ) (r : List ℕ) → l ≡ key ++ (decimal n ++ field_then " a=" a (field_then " f=" f r))
    → n < 100000000 → a < 100000000 → f < 100000000 → k n a f r ≡ Ok s → A)
    → with_head (head_of key l) k ≡ Ok s
    → A
unfolding head_of
with-head key l k s {A} found e = go (head_of key l) refl e
  where
    go : (t : Heads) → head_of key l ≡ t → with_head t k ≡ Ok s → A
    go headless q e = bad-good e
    go (heads n a f r) q e =
        then-heads key l _ (heads n a f r)
        (λ n' r₁ hn sn q₁. then-heads (bytes " a=") r₁ _ (heads n a f r)
        (λ a' r₂ ha sa q₂. then-heads (bytes " f=") r₂ _ (heads n a f r)
        (λ f' r₃ hf sf q₃.
        let en : n' ≡ n = cc in
        let ea : a' ≡ a = cc in
        let ef : f' ≡ f = cc in
        let er : r₃ ≡ r = cc in
        found n a f r (rw (ha, hf, en, ea, ef, er) at hn) (omega (arith, en)) (omega (arith, ea)) (omega (arith, ef)) e)
        heads-absent q₂) heads-absent q₁) heads-absent q

equal-eq : (word l : List ℕ) → equal word l ≡ true → l ≡ word
equal-eq [] [] e = refl
equal-eq [] (b ∷ l) e = absurd (false≢true e)
equal-eq (k ∷ word) [] e = absurd (false≢true e)
equal-eq (k ∷ word) (b ∷ l) e = go (eqb b k) refl e (equal-eq word l)
  where
    go : (t : Bool) → eqb b k ≡ t → cond t (equal word l) false ≡ true → (equal word l ≡ true → l ≡ word) → b ∷ l ≡ k ∷ word
    go true t e ih =
        let p = eqb-true b k t in
        let q = ih e in
        cc
    go false t e ih = absurd (false≢true e)

-- a good line of each kind is its step's text

bare-written : (word : List ℕ) (s₀ : Step) (l : List ℕ) (s : Step) → (l ≡ word → IsText l s₀) → bare_line word s₀ l ≡ Ok s → IsText l s
unfolding bare_line
bare-written word s₀ l s found e = go (equal word l) refl e
  where
    go : (t : Bool) → equal word l ≡ t → exactly t s₀ ≡ Ok s → IsText l s
    go true t e = let q : s₀ ≡ s = cc in subst (IsText l) q (found (equal-eq word l t))
    go false t e = bad-good e

naf-written : (l : List ℕ) (s : Step) → naf_line l ≡ Ok s → IsText l s
unfolding naf_line text
naf-written l s =
    with-head (bytes "op=naf n=") l _ s λ n a f r hl hn ha hf.
    and-then (bytes " w=") r _ s λ w r₁ hr hw.
    and-ended (IsText l) r₁ (Command n a f w) s λ hz.
    (rw (hr, hz) at hl, (hn, ha, hf, hw))

front-written : (l : List ℕ) (s : Step) → front_line l ≡ Ok s → IsText l s
unfolding front_line text
front-written l s =
    and-then (bytes "op=front n=") l _ s λ n r₁ hl hn.
    and-then (bytes " a=") r₁ _ s λ a r₂ h₁ ha.
    and-then (bytes " v=") r₂ _ s λ v r₃ h₂ hv.
    and-ended (IsText l) r₃ (Front n a v) s λ hz.
    (rw (h₁, h₂, hz) at hl, (hn, ha, hv))

inhibit-written : (l : List ℕ) (s : Step) → inhibit_line l ≡ Ok s → IsText l s
unfolding inhibit_line text
inhibit-written l s =
    and-then (bytes "op=i v=") l _ s λ v r hl hv.
    and-ended (IsText l) r (Inhibit v) s λ hz.
    (rw hz at hl, hv)

scan-written : (l : List ℕ) (s : Step) → scan_line l ≡ Ok s → IsText l s
unfolding scan_line text
scan-written l s =
    with-head (bytes "op=scan n=") l _ s λ n a f r hl hn ha hf.
    and-then (bytes " to=") r _ s λ to r₁ h₁ ht.
    and-then (bytes " limit=") r₁ _ s λ limit r₂ h₂ hm.
    and-ended (IsText l) r₂ (Scan n a f to limit) s λ hz.
    (rw (h₁, h₂, hz) at hl, (hn, ha, hf, ht, hm))

repeat-written : (l : List ℕ) (s : Step) → repeat_line l ≡ Ok s → IsText l s
unfolding repeat_line text
repeat-written l s =
    with-head (bytes "op=repeat n=") l _ s λ n a f r hl hn ha hf.
    and-then (bytes " limit=") r _ s λ limit r₁ h₁ hm.
    and-then (bytes " tries=") r₁ _ s λ tries r₂ h₂ ht.
    and-ended (IsText l) r₂ (Repeat n a f limit tries) s λ hz.
    (rw (h₁, h₂, hz) at hl, (hn, ha, hf, hm, ht))

stop-written : (l : List ℕ) (s : Step) → stop_line l ≡ Ok s → IsText l s
unfolding stop_line text
stop-written l s =
    with-head (bytes "op=stop n=") l _ s λ n a f r hl hn ha hf.
    and-then (bytes " limit=") r _ s λ limit r₁ h₁ hm.
    and-ended (IsText l) r₁ (Stop n a f limit) s λ hz.
    (rw (h₁, hz) at hl, (hn, ha, hf, hm))

put_written : (l : List ℕ) (s : Step) → put_line l ≡ Ok s → IsText l s
unfolding put_line text
put_written l s =
    and-then (bytes "op=put n=") l _ s λ n r₁ hl hn.
    and-then (bytes " a=") r₁ _ s λ a r₂ h₁ ha.
    and-then (bytes " to=") r₂ _ s λ to r₃ h₂ ht.
    and-then (bytes " limit=") r₃ _ s λ limit r₄ h₃ hm.
    and-then (bytes " w=") r₄ _ s λ w r₅ h₄ hw.
    and-ended (IsText l) r₅ (Put n a to limit w) s λ hz.
    (rw (h₁, h₂, h₃, h₄, hz) at hl, (hn, ha, ht, hm, hw))

within-written : (l : List ℕ) (s : Step) → within_line l ≡ Ok s → IsText l s
unfolding within_line text
within-written l s =
    and-then (bytes "op=within n=") l _ s λ n r₁ hl hn.
    and-then (bytes " to=") r₁ _ s λ to r₂ h₁ ht.
    and-then (bytes " lo=") r₂ _ s λ lo r₃ h₂ hlo.
    and-then (bytes " hi=") r₃ _ s λ hi r₄ h₃ hhi.
    and-ended (IsText l) r₄ (Within n to lo hi) s λ hz.
    (rw (h₁, h₂, h₃, hz) at hl, (hn, ht, hlo, hhi))

or-good : (a b : Reading) (s : Step) {A : Type 0} → (a ≡ Ok s → A) → (b ≡ Ok s → A) → or_else a b ≡ Ok s → A
or-good (Ok s₀) b s first second e = first e
or-good (Err q) b s first second e = second e

-- whatever is read as a step is the step's text
pub good-is-text : (l : List ℕ) (s : Step) → read_line l ≡ Ok s → IsText l s
unfolding read_line text
good-is-text l s =
    or-good (naf_line l) _ s (naf-written l s)
    (or-good (front_line l) _ s (front-written l s)
    (or-good (bare_line (bytes "op=z") Z l) _ s (bare-written (bytes "op=z") Z l s λ h. (h, tt))
    (or-good (bare_line (bytes "op=c") C l) _ s (bare-written (bytes "op=c") C l s λ h. (h, tt))
    (or-good (inhibit_line l) _ s (inhibit-written l s)
    (or-good (bare_line (bytes "op=lam") LookAtMe l) _ s (bare-written (bytes "op=lam") LookAtMe l s λ h. (h, tt))
    (or-good (scan_line l) _ s (scan-written l s)
    (or-good (repeat_line l) _ s (repeat-written l s)
    (or-good (put_line l) _ s (put_written l s)
    (or-good (within_line l) (stop_line l) s (within-written l s) (stop-written l s))))))))))

-- the text of a step is read as the step
pub text-is-good : (s : Step) → FieldsFit s → read_line (text s) ≡ Ok s
unfolding read_line text naf_line front_line bare_line inhibit_line scan_line repeat_line stop_line put_line within_line head_of
text-is-good (Command n a f w) h = rw (read_number n _ h.0, read_number a _ h.1, read_number f _ h.2, read_number w _ h.3)
text-is-good (Front n a v) h = rw (read_number n _ h.0, read_number a _ h.1, read_number v _ h.2)
text-is-good Z h = refl
text-is-good C h = refl
text-is-good (Inhibit v) h = rw (read_number v _ h)
text-is-good LookAtMe h = refl
text-is-good (Scan n a f to limit) h =
    rw (read_number n _ h.0, read_number a _ h.1, read_number f _ h.2, read_number to _ h.3, read_number limit _ h.4)
text-is-good (Repeat n a f limit tries) h =
    rw (read_number n _ h.0, read_number a _ h.1, read_number f _ h.2, read_number limit _ h.3, read_number tries _ h.4)
text-is-good (Stop n a f limit) h =
    rw (read_number n _ h.0, read_number a _ h.1, read_number f _ h.2, read_number limit _ h.3)
text-is-good (Put n a to limit w) h =
    rw (read_number n _ h.0, read_number a _ h.1, read_number to _ h.2, read_number limit _ h.3, read_number w _ h.4)
text-is-good (PutLent n a to limit) h = absurd h
text-is-good (Processor t) h = absurd h
text-is-good (Within n to lo hi) h = rw (read_number n _ h.0, read_number to _ h.1, read_number lo _ h.2, read_number hi _ h.3)

-- a bad reading has the one number, garbled
abbrev pub OnlyGarbled : {B : Type 0} → Result B Refusal → Type 0
OnlyGarbled (Ok s) = Unit {0}
OnlyGarbled (Err q) = q ≡ Garbled

pub only-ended : {B : Type 0} (l : List ℕ) (s : B) → OnlyGarbled (ended l s)
only-ended [] s = tt
only-ended (b ∷ l) s = refl

pub only_then : {B : Type 0} (t : Taken) (k : ℕ → List ℕ → Result B Refusal) → ((v : ℕ) (r : List ℕ) → OnlyGarbled (k v r)) → OnlyGarbled (and_then t k)
only_then (taken v r) k h = h v r
only_then absent k h = refl

pub only-head : (t : Heads) (k : ℕ → ℕ → ℕ → List ℕ → Reading) → ((n a f : ℕ) (r : List ℕ) → OnlyGarbled (k n a f r)) → OnlyGarbled (with_head t k)
only-head (heads n a f r) k h = h n a f r
only-head headless k h = refl

only-or : (a b : Reading) → OnlyGarbled b → OnlyGarbled (or_else a b)
only-or (Ok s) b h = tt
only-or (Err q) b h = h

-- the last alternative decides the number
only-garbled : (l : List ℕ) → OnlyGarbled (read_line l)
unfolding read_line stop_line
only-garbled l =
    only-or (naf_line l) _ (only-or (front_line l) _ (only-or (bare_line (bytes "op=z") Z l) _
    (only-or (bare_line (bytes "op=c") C l) _ (only-or (inhibit_line l) _ (only-or (bare_line (bytes "op=lam") LookAtMe l) _
    (only-or (scan_line l) _ (only-or (repeat_line l) _ (only-or (put_line l) _ (only-or (within_line l) _
    (only-head (head_of (bytes "op=stop n=") l) _ λ n a f r.
    only_then (read_field (bytes " limit=") r) _ λ limit r₁.
    only-ended r₁ (Stop n a f limit)))))))))))

pub reads : (l : List ℕ) → Reads l (read_line l)
reads l = go (read_line l) refl (only-garbled l)
  where
    go : (r : Reading) → read_line l ≡ r → OnlyGarbled r → Reads l r
    go (Ok s) e o = good-is-text l s e
    go (Err q) e o = (o, λ s h. bad-good (sym e ∙ (ap read_line h.0 ∙ text-is-good s h.1)))

pub reads_of : (l : List ℕ) (r : Reading) → r ≡ read_line l → Reads l r
reads_of l r e = subst⁻¹ (Reads l) e (reads l)

-- and it is the only reading that says so
pub reads_only : (l : List ℕ) (r : Reading) → Reads l r → r ≡ read_line l
reads_only l (Ok s) h = sym (ap read_line h.0 ∙ text-is-good s h.1)
reads_only l (Err q) h = go (read_line l) refl (reads l)
  where
    go : (r : Reading) → read_line l ≡ r → Reads l r → Err q ≡ read_line l
    go (Ok s) e o = absurd (h.1 s o)
    go (Err q') e o = ap Err (h.0 ∙ sym o.0) ∙ sym e

-- no line says a put of lent words
pub no-lent-line : (l : List ℕ) (n a to limit : ℕ) → read_line l ≡ Ok (PutLent n a to limit) → ⊥
no-lent-line l n a to limit e = (good-is-text l (PutLent n a to limit) e).1

-- nor a transfer at the trigger processor's entry
pub no-processor-line : (l : List ℕ) (t : Short) → read_line l ≡ Ok (Processor t) → ⊥
no-processor-line l t e = (good-is-text l (Processor t) e).1

-- a line in form has 72 bytes at most
pub longest-text : (s : Step) → FieldsFit s → length (text s) ≤ 72
unfolding text
longest-text (Command n a f w) h =
    simp length-append (omega (arith, length-eight n h.0, length-eight a h.1, length-eight f h.2, length-eight w h.3))
longest-text (Front n a v) h = simp length-append (omega (arith, length-eight n h.0, length-eight a h.1, length-eight v h.2))
longest-text Z h = omega arith
longest-text C h = omega arith
longest-text (Inhibit v) h = simp length-append (omega (arith, length-eight v h))
longest-text LookAtMe h = omega arith
longest-text (Scan n a f to limit) h =
    simp length-append (omega (
      arith,
      length-eight n h.0,
      length-eight a h.1,
      length-eight f h.2,
      length-eight to h.3,
      length-eight limit h.4,
    ))
longest-text (Repeat n a f limit tries) h =
    simp length-append (omega (
      arith,
      length-eight n h.0,
      length-eight a h.1,
      length-eight f h.2,
      length-eight limit h.3,
      length-eight tries h.4,
    ))
longest-text (Stop n a f limit) h =
    simp length-append (omega (arith, length-eight n h.0, length-eight a h.1, length-eight f h.2, length-eight limit h.3))
longest-text (Put n a to limit w) h =
    simp length-append (omega (
      arith,
      length-eight n h.0,
      length-eight a h.1,
      length-eight to h.2,
      length-eight limit h.3,
      length-eight w h.4,
    ))
longest-text (PutLent n a to limit) h = absurd h
longest-text (Processor t) h = absurd h
longest-text (Within n to lo hi) h =
    simp length-append (omega (arith, length-eight n h.0, length-eight to h.1, length-eight lo h.2, length-eight hi h.3))

pub short-text : (s : Step) → FieldsFit s → length (text s) ≤ 80
short-text s h = omega (arith, longest-text s h)

-- so a line of more than 80 bytes is garbled
pub long-is-garbled : (l : List ℕ) → 80 < length l → read_line l ≡ Err Garbled
long-is-garbled l h = sym (reads_only l (Err Garbled) (refl, λ s t. omega (arith, short-text s t.1, ap length t.0)))
