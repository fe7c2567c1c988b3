-- The calls of the C library: what a call is where too few words are lent, and where enough are; a run's and a crate line's record, told as a number.
-- Assumes nothing.
use Prim.Native.Nat.{ℕ, ◌≤◌, ◌<◌}
use mathlib.Core.Path.{◌≡◌, refl, sym, ap, ap₂, ◌∙◌}
use mathlib.Core.Bool.{Bool, true, false, cond, ◌&&◌}
use mathlib.Core.List.{List, [], ◌∷◌, ◌++◌}
use native.Mathlib.Omega.{arith}
use borrow.Author.Tests.{le-leb, lt-leb}
use lib.Dec.{leb}
use lib.ListN.{length, take, drop}
use Rattle.kinds.proofs.TestLaws.{both_false}
use Rattle.dataway.specs.Crate.{is_fit_crate}
use Rattle.step.specs.Refusals.{refusal_number}
use Rattle.step.specs.declared.Refusal.{Refusal}
use Rattle.step.specs.declared.Refusal.TheVariants.{ShortBuffer, UnfitCrate}
use Rattle.runfile.specs.Read.{read_line, read_module}
use Rattle.controller.specs.Answers.{answer_words}
use Rattle.controller.specs.Steps.{Performed, order, performed, refused, done_of, step_of}
use Rattle.controller.specs.declared.Answer.{Answer}
use Rattle.controller.specs.declared.Answer.TheVariants.{Refused}
use Rattle.lists.specs.Words.{kinds_of, reading_of}
use Rattle.lists.specs.Runs.{list_of}
use Rattle.rehearsal.specs.Modules.{install_of}
use Rattle.step.specs.Refusals.{verdict_number}
use Rattle.capi.specs.Calls.{answer_number, with_answer, Called, told, unless_unfit, if_lent, step_call, line_call, installed_call, crate_call, ran_call, list_call}
use Rattle.std.specs.Prelude.{Err}
use Rattle.step.specs.Results.{Reading, Verdict}

-- ---- the words of a step
-- words past the sixth are not looked at
pub reading-six : (ws : List ℕ) → 6 ≤ length ws → reading_of (take 6 ws) ≡ reading_of ws
unfolding reading_of kinds_of
reading-six [] h = absurd (omega arith)
reading-six (_ ∷ []) h = absurd (omega arith)
reading-six (_ ∷ _ ∷ []) h = absurd (omega arith)
reading-six (_ ∷ _ ∷ _ ∷ []) h = absurd (omega arith)
reading-six (_ ∷ _ ∷ _ ∷ _ ∷ []) h = absurd (omega arith)
reading-six (_ ∷ _ ∷ _ ∷ _ ∷ _ ∷ []) h = absurd (omega arith)
reading-six (_ ∷ _ ∷ _ ∷ _ ∷ _ ∷ _ ∷ ws) h = refl

-- ---- refusals
pub unless-fit : (m : List ℕ) (q : Refusal) → is_fit_crate m ≡ true → q ≡ unless_unfit m q
unfolding unless_unfit
unless-fit m q t = rw t

pub unless_not : (m : List ℕ) (q : Refusal) → is_fit_crate m ≡ false → UnfitCrate ≡ unless_unfit m q
unfolding unless_unfit
unless_not m q t = rw t

-- a garbled step: 9, else its refusal
pub step-bad : (m b : List ℕ) (q : Refusal) → step_of m (order (Err q) b) ≡ refused (unless_unfit m q) m b
unfolding step_of done_of unless_unfit
step-bad m b q = go (is_fit_crate m)
  where
    go : (t : Bool) → cond t (done_of m (order (Err q) b)) (refused UnfitCrate m b) ≡ refused (cond t q UnfitCrate) m b
    go true = refl
    go false = refl

-- the step of six words, read and done
module _ (m ws b : List ℕ) (reading : Reading) (h : 6 ≤ length ws) (e : reading ≡ reading_of (take 6 ws)) where
  pub words-read : (x : Reading) (p : Performed) → reading ≡ x → step_of m (order x b) ≡ p → step_of m (order (reading_of ws) b) ≡ p
  words-read x p g d = ap (λ (y : Reading). step_of m (order y b)) (sym (reading-six ws h) ∙ sym e ∙ g) ∙ d

  pub words-bad : (q r : Refusal) → reading ≡ Err q → r ≡ unless_unfit m q → step_of m (order (reading_of ws) b) ≡ performed m (Refused r) b
  words-bad q r g d = words-read (Err q) _ g (step-bad m b q ∙ ap (λ (x : Refusal). refused x m b) (sym d))

-- ---- a step or a run line, told
-- where four words are lent for the answer
tells : (m b out out' : List ℕ) (r : Answer) (n : ℕ) → 4 ≤ length out → n ≡ answer_number r → out' ≡ answer_words r ++ drop 4 out
    → told (performed m r b) out ≡ record { number = n; memory = m; answer = out'; buffer = b }
unfolding with_answer
tells m b out out' r n h e w =
    rw (le-leb 4 (length out) h) (λ i. record { number = sym e i; memory = m; answer = sym w i; buffer = b })

-- where fewer are lent
keeps : (m b out : List ℕ) (r : Answer) (n : ℕ) → length out < 4 → n ≡ answer_number r
    → told (performed m r b) out ≡ record { number = n; memory = m; answer = out; buffer = b }
unfolding with_answer
keeps m b out r n h e = rw (lt-leb 4 (length out) h) (λ i. record { number = sym e i; memory = m; answer = out; buffer = b })

-- a refusal for too few words, told
short-told : (m b out : List ℕ) (q : Refusal) → q ≡ unless_unfit m ShortBuffer → told (refused (unless_unfit m ShortBuffer) m b) out ≡ told (refused q m b) out
short-told m b out q e = ap (λ (x : Refusal). told (refused x m b) out) (sym e)

-- a step
module _ (m ws out b : List ℕ) where
  abbrev step_when : Bool → Called
  step_when t = told (if_lent t m (order (reading_of ws) b)) out

  pub step-untold : (q : Refusal) (n : ℕ) → length out < 4 → q ≡ unless_unfit m ShortBuffer → n ≡ refusal_number q
      → step_call m ws out b ≡ record { number = n; memory = m; answer = out; buffer = b }
  unfolding step_call
  step-untold q n h e g =
      ap (λ (t : Bool). step_when (leb 6 (length ws) && t)) (lt-leb 4 (length out) h)
      ∙ ap step_when (both_false (leb 6 (length ws)))
      ∙ short-told m b out q e
      ∙ keeps m b out (Refused q) n h g

  pub step-few : (q : Refusal) (n : ℕ) (out' : List ℕ) → 4 ≤ length out → length ws < 6 → q ≡ unless_unfit m ShortBuffer
      → n ≡ answer_number (Refused q) → out' ≡ answer_words (Refused q) ++ drop 4 out
      → step_call m ws out b ≡ record { number = n; memory = m; answer = out'; buffer = b }
  unfolding step_call
  step-few q n out' h k e g w =
      ap (λ (t : Bool). step_when (t && leb 4 (length out))) (lt-leb 6 (length ws) k)
      ∙ short-told m b out q e
      ∙ tells m b out out' (Refused q) n h g w

  pub step-told : (r : Answer) (n : ℕ) (m' out' b' : List ℕ) → 4 ≤ length out → 6 ≤ length ws → step_of m (order (reading_of ws) b) ≡ performed m' r b'
      → n ≡ answer_number r → out' ≡ answer_words r ++ drop 4 out
      → step_call m ws out b ≡ record { number = n; memory = m'; answer = out'; buffer = b' }
  unfolding step_call
  step-told r n m' out' b' h k e g w =
      ap₂ (λ (t u : Bool). step_when (t && u)) (le-leb 6 (length ws) k) (le-leb 4 (length out) h)
      ∙ ap (λ (p : Performed). told p out) e
      ∙ tells m' b' out out' r n h g w

-- a run line
module _ (m l out b : List ℕ) where
  abbrev line_when : Bool → Called
  line_when t = told (if_lent t m (order (read_line l) b)) out

  pub line-untold : (q : Refusal) (n : ℕ) → length out < 4 → q ≡ unless_unfit m ShortBuffer → n ≡ refusal_number q
      → line_call m l out b ≡ record { number = n; memory = m; answer = out; buffer = b }
  unfolding line_call
  line-untold q n h e g = ap line_when (lt-leb 4 (length out) h) ∙ short-told m b out q e ∙ keeps m b out (Refused q) n h g

  pub line-told : (r : Answer) (n : ℕ) (m' out' b' : List ℕ) → 4 ≤ length out → step_of m (order (read_line l) b) ≡ performed m' r b'
      → n ≡ answer_number r → out' ≡ answer_words r ++ drop 4 out
      → line_call m l out b ≡ record { number = n; memory = m'; answer = out'; buffer = b' }
  unfolding line_call
  line-told r n m' out' b' h e g w =
      ap line_when (le-leb 4 (length out) h) ∙ ap (λ (p : Performed). told p out) e ∙ tells m' b' out out' r n h g w

-- ---- a crate line and a list
pub crate-told : (m : List ℕ) (previous : ℕ) (l : List ℕ) (v : Verdict) (n : ℕ) (m' : List ℕ)
    → install_of m previous (read_module l) ≡ record { verdict = v; memory = m' } → n ≡ verdict_number v
    → crate_call m previous l ≡ record { number = n; memory = m' }
unfolding crate_call
crate-told m previous l v n m' e g = ap installed_call e ∙ (λ i. record { number = sym g i; memory = m' })

pub list-told : (m : List ℕ) (count : ℕ) (ws ans bs : List ℕ) (v : Verdict) (n : ℕ) (m' ans' bs' : List ℕ)
    → list_of m count ws ans bs ≡ record { verdict = v; memory = m'; answers = ans'; buffers = bs' } → n ≡ verdict_number v
    → list_call m count ws ans bs ≡ record { number = n; memory = m'; answers = ans'; buffers = bs' }
unfolding list_call
list-told m count ws ans bs v n m' ans' bs' e g = ap ran_call e ∙ (λ i. record { number = sym g i; memory = m'; answers = ans'; buffers = bs' })
