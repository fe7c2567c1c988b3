-- The cases of the state machine that the branches of a reader's code take, whatever it does with a line.
-- Assumes nothing.
use Prim.Native.Nat.{ℕ, suc, ◌+◌, ◌-◌, ◌≤◌, ◌<◌, zero-le, suc-le-suc}
use mathlib.Core.Path.{◌≡◌, refl, sym, ap, ◌∙◌}
use mathlib.Core.Bool.{Bool, true, false, cond, ◌&&◌}
use mathlib.Core.List.{List, [], ◌∷◌, ◌++◌, append-nil, append_assoc}
use native.Mathlib.Numerals.{add-one}
use native.Mathlib.Omega.{arith}
use borrow.Author.Tests.{lt-ltb, le-ltb, eq-eqb, ne_eqb}
use lib.Dec.{ltb, eqb}
use lib.ListN.{length, get_or, take, drop, take-append-drop}
use lib.Seq.{take_all, take-take, take-suc, take-add}
use Rattle.lines.specs.Lines.{NoLf}
use Rattle.lines.specs.Cutting.{Does, Cutting, opened, ended, kept, step, feed, closed}
use Rattle.lines.proofs.Parts.{absorb, part-more}

module _ {S : Type 0} where
  -- two states with the same parts are one
  pub states : {p q : List ℕ} {i j : ℕ} {x y : S} → p ≡ q → i ≡ j → x ≡ y
      → ◌≡◌ {A = Cutting S} (record { part = p; number = i; held = x }) (record { part = q; number = j; held = y })
  states a b c = cc

  -- of a line's bytes the first 81 are kept
  pub kept-part : (s : Cutting S) (p : List ℕ) (b : ℕ) → s.part ≡ take 81 p → (kept s b).part ≡ take 81 (p ++ (b ∷ []))
  unfolding kept
  kept-part s p b h = ap (λ (l : List ℕ). cond (ltb (length l) 81) (l ++ (b ∷ [])) l) h ∙ part-more p b (ltb (length p) 81) refl

  pub kept-number : (s : Cutting S) (b : ℕ) → (kept s b).number ≡ s.number
  unfolding kept
  kept-number s b = refl

  pub kept-held : (s : Cutting S) (b : ℕ) → (kept s b).held ≡ s.held
  unfolding kept
  kept-held s b = refl

  -- a state with bytes l more of its line
  abbrev pub spanned : Cutting S → List ℕ → Cutting S
  spanned s l = record { part = take 81 (s.part ++ l); number = s.number; held = s.held }

  kept-spanned : (s : Cutting S) (b : ℕ) (t : List ℕ) → s.part ≡ take 81 s.part → spanned (kept s b) t ≡ spanned s (b ∷ t)
  unfolding kept
  kept-spanned s b t h =
      states
      (ap (λ (p : List ℕ). take 81 (p ++ t)) (kept-part s s.part b h)
      ∙ absorb 81 (s.part ++ (b ∷ [])) t
      ∙ ap (take 81) (append_assoc s.part (b ∷ []) t))
      refl refl

  -- and leaves at most 81 bytes
  within : (s : Cutting S) (b : ℕ) → s.part ≡ take 81 s.part → (kept s b).part ≡ take 81 (kept s b).part
  within s b h =
      let e : (kept s b).part ≡ take 81 (s.part ++ (b ∷ [])) = kept-part s s.part b h in
      e ∙ sym (take-take 81 81 (s.part ++ (b ∷ [])) (omega arith)) ∙ ap (take 81) (sym e)

module _ {S : Type 0} (d : Does S) where
  -- ---- whether a line may still be read
  pub open-still : (s : Cutting S) → s.number < 99999 → d.more s.held ≡ true → opened d s ≡ true
  open-still s h k = ap (λ (t : Bool). t && d.more s.held) (lt-ltb s.number 99999 h) ∙ k

  pub shut-over : (s : Cutting S) → 99999 ≤ s.number → opened d s ≡ false
  shut-over s h = ap (λ (t : Bool). t && d.more s.held) (le-ltb s.number 99999 h)

  pub shut-ended : (s : Cutting S) → d.more s.held ≡ false → opened d s ≡ false
  shut-ended s k = ap (λ (t : Bool). ltb s.number 99999 && t) k ∙ go (ltb s.number 99999)
    where
      go : (t : Bool) → t && false ≡ false
      go true = refl
      go false = refl

  -- a byte that is kept ends no line
  kept-open : (s : Cutting S) (b : ℕ) → opened d (kept s b) ≡ opened d s
  unfolding kept
  kept-open s b = refl

  -- ---- what a line's end leaves
  pub ended-part : (s : Cutting S) → (ended d s).part ≡ []
  unfolding ended
  ended-part s = refl

  pub ended-number : (s : Cutting S) → (ended d s).number ≡ s.number + 1
  unfolding ended
  ended-number s = refl

  -- ---- one byte
  pub step-shut : (s : Cutting S) (b : ℕ) → opened d s ≡ false → step d s b ≡ s
  unfolding step
  step-shut s b e = ap (λ (o : Bool). cond o (cond (eqb b 10) (ended d s) (kept s b)) s) e

  pub step_end : (s : Cutting S) (b : ℕ) → opened d s ≡ true → eqb b 10 ≡ true → step d s b ≡ ended d s
  unfolding step
  step_end s b e l = ap (λ (o : Bool). cond o (cond (eqb b 10) (ended d s) (kept s b)) s) e ∙ ap (λ (t : Bool). cond t (ended d s) (kept s b)) l

  pub step_kept : (s : Cutting S) (b : ℕ) → opened d s ≡ true → eqb b 10 ≡ false → step d s b ≡ kept s b
  unfolding step
  step_kept s b e l = ap (λ (o : Bool). cond o (cond (eqb b 10) (ended d s) (kept s b)) s) e ∙ ap (λ (t : Bool). cond t (ended d s) (kept s b)) l

  -- ---- bytes
  -- bytes may be fed in parts
  pub feed-append : (s : Cutting S) (a b : List ℕ) → feed d s (a ++ b) ≡ feed d (feed d s a) b
  feed-append s [] b = refl
  feed-append s (x ∷ a) b = feed-append (step d s x) a b

  -- past the last line nothing is read
  pub feed-shut : (s : Cutting S) (t : List ℕ) → opened d s ≡ false → feed d s t ≡ s
  feed-shut s [] e = refl
  feed-shut s (b ∷ t) e = ap (λ (x : Cutting S). feed d x t) (step-shut s b e) ∙ feed-shut s t e

  -- bytes with no LF among them only lengthen the line
  pub feed-span : (l : List ℕ) (s : Cutting S) → opened d s ≡ true → s.part ≡ take 81 s.part → NoLf l → feed d s l ≡ spanned s l
  feed-span [] s e h n = states (h ∙ ap (take 81) (sym (append-nil s.part))) refl refl
  feed-span (b ∷ t) s e h n =
      ap (λ (x : Cutting S). feed d x t) (step_kept s b e (ne_eqb b 10 (n 0 (suc-le-suc zero-le))))
      ∙ feed-span t (kept s b) (kept-open s b ∙ e) (within s b h) (λ k g. n (suc k) (suc-le-suc g))
      ∙ kept-spanned s b t h

  -- ---- how far a text was taken: x is the state after its first i bytes
  module _ (s : Cutting S) (text : List ℕ) (x : Cutting S) (i : ℕ) (is : x ≡ feed d s (take i text)) where
    -- on to index e, where the next LF is
    pub fed-span : (e : ℕ) (y : Cutting S) → i ≤ e → y ≡ feed d x (take (e - i) (drop i text)) → y ≡ feed d s (take e text)
    fed-span e y h iy =
        let sum : e ≡ i + (e - i) = omega arith in
        iy
        ∙ ap (λ (z : Cutting S). feed d z (take (e - i) (drop i text))) is
        ∙ sym (ap (λ (n : ℕ). feed d s (take n text)) sum
        ∙ ap (feed d s) (take-add i (e - i) text)
        ∙ feed-append s (take i text) (take (e - i) (drop i text)))

    -- one byte more
    pub fed-more : i < length text → step d x (get_or text i 0) ≡ feed d s (take (i + 1) text)
    fed-more h =
        ap (λ (z : Cutting S). step d z (get_or text i 0)) is
        ∙ sym (ap (λ (n : ℕ). feed d s (take n text)) (add-one i)
        ∙ ap (feed d s) (take-suc text i 0 h)
        ∙ feed-append s (take i text) (get_or text i 0 ∷ []))

    -- which is LF
    pub fed-end : i < length text → get_or text i 0 ≡ 10 → opened d x ≡ true → ended d x ≡ feed d s (take (i + 1) text)
    fed-end h lf o = sym (step_end x (get_or text i 0) o (eq-eqb (get_or text i 0) 10 lf)) ∙ fed-more h

    -- to its end
    pub fed-all : length text ≤ i → x ≡ feed d s text
    fed-all h = is ∙ ap (feed d s) (take_all i text h)

    -- past the last line the rest changes nothing
    pub fed-over : opened d x ≡ false → x ≡ feed d s text
    fed-over h =
        sym (ap (feed d s) (sym (take-append-drop i text))
        ∙ feed-append s (take i text) (drop i text)
        ∙ ap (λ (z : Cutting S). feed d z (drop i text)) (sym is)
        ∙ feed-shut x (drop i text) h)

  -- ---- the end of a file
  pub closed-shut : (s : Cutting S) → opened d s ≡ false → closed d s ≡ s
  unfolding closed
  closed-shut s e = ap (λ (o : Bool). cond (o && ltb 0 (length s.part)) (ended d s) s) e

  pub closed_none : (s : Cutting S) → opened d s ≡ true → length s.part ≡ 0 → closed d s ≡ s
  unfolding closed
  closed_none s e h =
      ap (λ (o : Bool). cond (o && ltb 0 (length s.part)) (ended d s) s) e
      ∙ ap (λ (t : Bool). cond t (ended d s) s) (le-ltb 0 (length s.part) (omega arith))

  pub closed-end : (s : Cutting S) → opened d s ≡ true → 0 < length s.part → closed d s ≡ ended d s
  unfolding closed
  closed-end s e h =
      ap (λ (o : Bool). cond (o && ltb 0 (length s.part)) (ended d s) s) e
      ∙ ap (λ (t : Bool). cond t (ended d s) s) (lt-ltb 0 (length s.part) h)
