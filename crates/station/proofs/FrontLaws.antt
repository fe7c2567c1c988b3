-- Every front event keeps a fit block fit and its module the same: kind by kind, then all at once. What its digit tells, beside document 01's answer.
-- Assumes nothing.
use Prim.Native.Nat.{ℕ, zero, suc, ◌+◌, ◌-◌, ◌≤◌, ◌<◌, ◌^◌, ◌/◌, ◌%◌}
use mathlib.Core.Path.{◌≡◌, refl, subst, sym, ap, ◌∙◌}
use mathlib.Core.List.{List}
use mathlib.Core.Bool.{Bool, true, false, cond}
use mathlib.Core.Logic.{⊎_elim}
use native.Mathlib.Omega.{arith}
use native.Mathlib.Nat.{pow-suc, zero-div, div-one}
use borrow.Author.Tests.{ltb-true, ltb-false, eqb-true, eqb-false}
use lib.ListN.{length, length-set}
use lib.Seq.{set-get_or, get_or-set_same, get_or-set_other}
use lib.Dec.{ltb, eqb}
use Rattle.word24.specs.Word.{sum_of, carry_of, set_bits, clear_bits, bit_of}
use Rattle.word24.specs.Counter.{mod24, exact_sum, raises_at}
use Rattle.word24.proofs.BitLaws.{shr-suc, bit-or, bit-clear, clear-le, bit-ext}
use Rattle.word24.proofs.CounterLaws.{mod24-lt}
use Rattle.kinds.specs.Cases.{case_of}
use Rattle.kinds.specs.Table.{least_of, most_of}
use Rattle.station.specs.Block.{kind_of, count_of, status_of, head_of, fill_of, register_of, with_head, with_fill, with_register, set_status_bit, set_status_bit_when}
use Rattle.station.specs.Block.{sources_of, FitBlock}
use Rattle.station.specs.Group1.{added_of}
use Rattle.station.specs.Front.{Event, rises, raised, digit_of, taken, lost, not_taken, held_of, counted_of, stored_of, kind_events_of, front_of}
use Rattle.station.specs.Kept.{Kept}
use Rattle.station.specs.Digit.{answered, former_stored_of, former_events_of, former_front_of, formerly, AsBefore}
use Rattle.station.specs.Digit.{Sent, Open, Takes, Loses, Raised, Exactly, DigitWhere, TwoWhereRaised, NoneCleared, TwoWhereChanged}
use Rattle.station.specs.Digit.Open.{scaler, input, unfull, counter}
use Rattle.kinds.proofs.TestLaws.{by_cases, alike, decided, EachCase, case-all}
use Rattle.station.proofs.KindTable.{sources-at}
use Rattle.station.proofs.BlockLaws.{sources-same, kept_here, kept_then, kept-status-bit, kept-status-bit-when, kept_register, kept-moved}
use Rattle.station.proofs.CommandLaws.{kept-added}

-- ---- a buffer memory with one word more
abbrev place : List ℕ → ℕ
place b = (head_of b + fill_of b) % 16

-- a store of the head as it stands changes nothing
same_head : (b : List ℕ) (v : ℕ) → with_head (with_register b (place b) v) (head_of b) ≡ with_register b (place b) v
same_head b v =
    let e : head_of (with_register b (place b) v) ≡ head_of b = get_or-set_other b (16 + place b) 4 v 0 (λ e. omega arith) in
    subst (λ (h : ℕ). with_head (with_register b (place b) v) h ≡ with_register b (place b) v) e (set-get_or (with_register b (place b) v) 4 0)

kept-longer : (b : List ℕ) (v : ℕ) → FitBlock b → kind_of b ≡ 4 → fill_of b < 16 → v < 2 ^ 24 → Kept b (with_fill (with_register b (place b) v) (fill_of b + 1))
kept-longer b v f k room small =
    let head = f.head in
    subst (λ (c : List ℕ). Kept b (with_fill c (fill_of b + 1))) (same_head b v)
    (kept-moved b (place b) v (head_of b) (fill_of b + 1) f k (omega arith) f.head (omega arith) small
    (λ i t h. (λ e. absurd (omega arith), λ n. omega arith)))

-- ---- what holds of an event that is not taken, and of each kind's at A below r, holds of every event
front-all : (b : List ℕ) (v : ℕ) (P : Event → Type 0) (inhibit a : ℕ)
    → P (not_taken b) → (a < count_of b → EachCase P (kind_of b) (kind_events_of b a v)) → P (front_of inhibit b a v)
unfolding front_of
front-all b v P inhibit a n h =
    by_cases P (eqb inhibit 1) (not_taken b) _ (λ e. n)
    (λ e. by_cases P (ltb a (count_of b)) (case_of (kind_of b) (kind_events_of b a v) (not_taken b)) (not_taken b)
    (λ e. case-all P (kind_of b) (kind_events_of b a v) (not_taken b) (h (ltb-true _ _ e)) n)
    (λ e. n))

-- ---- each kind
module _ (b : List ℕ) (f : FitBlock b) (v : ℕ) (small : v < 2 ^ 24) where
  abbrev Keeps : Event → Type 0
  Keeps e = Kept b e.block

  kept-stored : kind_of b ≡ 4 → Keeps (stored_of b v)
  unfolding stored_of
  kept-stored k =
      let s = sources-at b 4 k in
      by_cases Keeps (ltb (fill_of b) 16) (taken b (set_status_bit (with_fill (with_register b (place b) v) (fill_of b + 1)) 0)) (lost (set_status_bit b 1))
      (λ e.
      let g = kept-longer b v f k (ltb-true _ _ e) small in
      kept_then g (kept-status-bit _ 0 g.fit (omega (arith, sources-same g.same))))
      (λ e. kept-status-bit b 1 f (omega arith))

  module _ (a : ℕ) (s : a < 16) (l : a < count_of b) where
    kept-held : kind_of b ≡ 3 → Kept b (held_of b a v)
    unfolding held_of
    kept-held k =
        let r = kept_register b a v f s (λ e. omega arith) l small in
        kept_then r (kept-status-bit (with_register b a v) a r.fit (omega (arith, sources-at b 3 k, sources-same r.same)))

    kept-counted : kind_of b ≡ 5 → Kept b (counted_of b a v)
    unfolding counted_of
    kept-counted k =
        let z = exact_sum (register_of b a) v in
        let r = kept_register b a (mod24 z) f s (λ e. omega arith) l (mod24-lt z) in
        kept_then r
        (kept-status-bit-when (raises_at (register_of b a) z) (with_register b a (mod24 z)) a r.fit
        (omega (arith, sources-at b 5 k, sources-same r.same)))

    kept-kinds : EachCase Keeps (kind_of b) (kind_events_of b a v)
    unfolding kind_events_of
    kept-kinds = (λ k. kept-added b a v f k s l, (λ k. kept-held k, (λ k. kept-stored k, (λ k. kept-counted k, tt))))

  pub front_kept : (inhibit a : ℕ) → a < 16 → Kept b (front_of inhibit b a v).block
  front_kept inhibit a s = front-all b v Keeps inhibit a (kept_here f) (λ l. kept-kinds a s l)

-- ---- beside document 01
-- two choices by one test
both : (t : Bool) (x y : Event) (p q : Event) → formerly x ≡ p → formerly y ≡ q → formerly (cond t x y) ≡ cond t p q
both true x y p q h g = h
both false x y p q h g = g

formerly-taken : (b c : List ℕ) → formerly (taken b c) ≡ answered 1 c
formerly-taken b c = by_cases (λ (d : ℕ). formerly (answered d c) ≡ answered 1 c) (raised b c) 2 1 (λ e. refl) (λ e. refl)

formerly-stored : (b : List ℕ) (v : ℕ) → formerly (stored_of b v) ≡ former_stored_of b v
unfolding stored_of former_stored_of
formerly-stored b v = both (ltb (fill_of b) 16) _ _ _ _ (formerly-taken b _) refl

pub as_before : AsBefore
unfolding front_of kind_events_of former_front_of former_events_of
as_before inhibit b a v =
    both (eqb inhibit 1) _ _ _ _ refl (both (ltb a (count_of b)) _ _ _ _ (
    both (eqb (kind_of b) 1) _ _ _ _ (formerly-taken b _) (
    both (eqb (kind_of b) 3) _ _ _ _ (formerly-taken b _) (
    both (eqb (kind_of b) 4) _ _ _ _ (formerly-stored b v) (
    both (eqb (kind_of b) 5) _ _ _ _ (formerly-taken b _) refl)))) refl)

-- ---- bits that went up
-- a word that is not 0 has a bit that is 1
some-bit : (n x : ℕ) → x < 2 ^ n → 0 < x → (k : ℕ) × (k < n) × (bit_of k x ≡ 1)
some-bit zero x l h = absurd (omega arith)
some-bit (suc n) x l h =
    ⊎_elim
    (λ (e : x % 2 ≡ 1). (0, omega arith, simp div-one e))
    (λ (e : x % 2 ≡ 1 → ⊥).
    let r = some-bit n (x / 2) (omega (arith, pow-suc 2 n)) (omega arith) in
    (suc r.0, omega (arith, r.1), rw (shr-suc x r.0) r.2))
    (alike (x % 2) 1)

-- the bits of y that are not set in x: one of them, or none
some_up : (n x y : ℕ) → y < 2 ^ n → rises x y ≡ true → (k : ℕ) × (k < n) × (bit_of k x ≡ 0) × (bit_of k y ≡ 1)
some_up n x y l h =
    let r = some-bit n (clear_bits y x) (omega (arith, clear-le y x)) (ltb-true _ _ h) in
    let e : bit_of r.0 y - bit_of r.0 x ≡ 1 = sym (bit-clear r.0 y x) ∙ r.2 in
    (r.0, r.1, omega arith, omega arith)

none-up : (x y k : ℕ) → rises x y ≡ false → bit_of k y ≤ bit_of k x
none-up x y k h =
    let z : clear_bits y x ≡ 0 = omega (arith, ltb-false 0 (clear_bits y x) h) in
    omega (arith, sym (bit-clear k y x) ∙ ap (bit_of k) z ∙ ap (λ (n : ℕ). n % 2) (zero-div (2 ^ k)))

-- ---- no status bit is cleared
abbrev Grows : (b c : List ℕ) → Type 0
Grows b c = (k : ℕ) → bit_of k (status_of b) ≤ bit_of k (status_of c)

grows-when : (t : Bool) (b c : List ℕ) (a : ℕ) → length c ≡ 32 → status_of c ≡ status_of b → Grows b (set_status_bit_when t c a)
grows-when t b c a l e = by_cases (Grows b) t (set_status_bit c a) c
    (λ h k. rw (get_or-set_same c 2 (set_bits (status_of c) (2 ^ a)) 0 (omega arith), e) (omega (arith, bit-or k (status_of b) (2 ^ a))))
    (λ h k. rw e (omega arith))

module _ (b : List ℕ) (f : FitBlock b) where
  register-long : (a v : ℕ) → length (with_register b a v) ≡ 32
  register-long a v = length-set b (16 + a) v ∙ f.long

  register-status : (a v : ℕ) → status_of (with_register b a v) ≡ status_of b
  register-status a v = get_or-set_other b (16 + a) 2 v 0 (λ e. omega arith)

  grows-register : (t : Bool) (a v : ℕ) → Grows b (set_status_bit_when t (with_register b a v) a)
  grows-register t a v = grows-when t b (with_register b a v) a (register-long a v) (register-status a v)

  grows-stored : (v : ℕ) → Grows b (stored_of b v).block
  unfolding stored_of
  grows-stored v =
      let c = with_register b (place b) v in
      by_cases (λ (e : Event). Grows b e.block) (ltb (fill_of b) 16) (taken b _) (lost _)
      (λ e. grows-when true b (with_fill c (fill_of b + 1)) 0 (length-set c 5 (fill_of b + 1) ∙ register-long (place b) v)
      (get_or-set_other c 5 2 (fill_of b + 1) 0 (λ e. omega arith) ∙ register-status (place b) v))
      (λ e. grows-when true b b 1 f.long refl)

  grows-kinds : (a v : ℕ) → EachCase (λ (e : Event). Grows b e.block) (kind_of b) (kind_events_of b a v)
  unfolding kind_events_of added_of held_of counted_of
  grows-kinds a v =
      let x = register_of b a in (
        λ k. grows-register (carry_of x v) a (sum_of x v),
        (
          λ k. grows-register true a v,
          (
            λ k. grows-stored v,
            (λ k. grows-register (raises_at x (exact_sum x v)) a (mod24 (exact_sum x v)), tt),
          ),
        ),
      )

pub none-cleared : NoneCleared
none-cleared i b a v s = front-all b v (λ (e : Event). Grows b e.block) i a (λ k. omega arith) (λ l. grows-kinds b s.fit a v)

-- ---- what each digit tells
-- a buffer memory has one subaddress
buffer-count : (b : List ℕ) → FitBlock b → kind_of b ≡ 4 → count_of b ≡ 1
buffer-count b f k =
    let low : 1 ≤ count_of b = subst (λ (n : ℕ). least_of n ≤ count_of b) k f.least in
    let high : count_of b ≤ 1 = subst (λ (n : ℕ). count_of b ≤ most_of n) k f.most in
    omega arith

-- a full buffer memory takes no word
apart : (i : ℕ) (b : List ℕ) (a : ℕ) → Takes i b a → Loses i b a → ⊥
apart i b a t h = go t.2
  where
    go : Open b → ⊥
    go (scaler e) = omega (arith, e, h.2)
    go (input e) = omega (arith, e, h.2)
    go (unfull e r) = omega (arith, r, h.3)
    go (counter e) = omega (arith, e, h.2)

-- an event: not taken, taken, or its word gone
data Row (i : ℕ) (b : List ℕ) (a : ℕ) (e : Event) : Type 0 where
  not : (Takes i b a → ⊥) → (Loses i b a → ⊥) → e.block ≡ b → e.taken ≡ 0 → Row i b a e
  took : Takes i b a → e.taken ≡ digit_of (raised b e.block) → Row i b a e
  gone : Loses i b a → e.taken ≡ 3 → Row i b a e

module _ (i : ℕ) (b : List ℕ) (a v : ℕ) (s : Sent i b a v) where
  abbrev Rows : Event → Type 0
  Rows e = Row i b a e

  module _ (n : i ≡ 0) (l : a < count_of b) where
    row-stored : kind_of b ≡ 4 → Rows (stored_of b v)
    unfolding stored_of
    row-stored k = by_cases Rows (ltb (fill_of b) 16) (taken b _) (lost _)
        (λ e. took (n, l, unfull k (ltb-true _ _ e)) refl)
        (λ e. gone (n, omega (arith, buffer-count b s.fit k), k, omega (arith, s.fit.fill, ltb-false (fill_of b) 16 e)) refl)

    shut : (kind_of b ≡ 1 → ⊥) → (kind_of b ≡ 3 → ⊥) → (kind_of b ≡ 4 → ⊥) → (kind_of b ≡ 5 → ⊥) → Open b → ⊥
    shut p q r t (scaler e) = p e
    shut p q r t (input e) = q e
    shut p q r t (unfull e h) = r e
    shut p q r t (counter e) = t e

    row-kinds : Rows (case_of (kind_of b) (kind_events_of b a v) (not_taken b))
    unfolding kind_events_of
    row-kinds =
        by_cases Rows (eqb (kind_of b) 1) _ _ (λ e. took (n, l, scaler (eqb-true _ _ e)) refl)
        (λ p. by_cases Rows (eqb (kind_of b) 3) _ _ (λ e. took (n, l, input (eqb-true _ _ e)) refl)
        (λ q. by_cases Rows (eqb (kind_of b) 4) _ _ (λ e. row-stored (eqb-true _ _ e))
        (λ r. by_cases Rows (eqb (kind_of b) 5) _ _ (λ e. took (n, l, counter (eqb-true _ _ e)) refl)
        (λ t. not
        (λ h. shut (eqb-false _ _ p) (eqb-false _ _ q) (eqb-false _ _ r) (eqb-false _ _ t) h.2)
        (λ h. eqb-false _ _ r h.2)
        refl refl))))

  row : Rows (front_of i b a v)
  unfolding front_of
  row =
      by_cases Rows (eqb i 1) (not_taken b) _
      (λ e. let o = eqb-true i 1 e in not (λ t. omega (arith, t.0)) (λ t. omega (arith, t.0)) refl refl)
      (λ e.
      let n : i ≡ 0 = omega (arith, s.inhibit, eqb-false i 1 e) in
      by_cases Rows (ltb a (count_of b)) (case_of (kind_of b) (kind_events_of b a v) (not_taken b)) (not_taken b)
      (λ e. row-kinds n (ltb-true _ _ e))
      (λ e.
      let h = ltb-false a (count_of b) e in
      not (λ t. omega (arith, t.1)) (λ t. omega (arith, t.1, buffer-count b s.fit t.2)) refl refl))

  -- the block that the event leaves, and its digit
  abbrev c : List ℕ
  c = (front_of i b a v).block

  abbrev digit : ℕ
  digit = (front_of i b a v).taken

  below : status_of c < 2 ^ sources_of b
  below =
      let k = front_kept b s.fit v s.word i a (omega (arith, s.subaddress)) in
      subst (λ (n : ℕ). status_of (front_of i b a v).block < 2 ^ n) (sources-same k.same) k.fit.status

  up : raised b c ≡ true → Raised b c
  up h = some_up (sources_of b) (status_of b) (status_of c) below h

  none : raised b c ≡ false → Raised b c → ⊥
  none h r = omega (arith, none-up (status_of b) (status_of c) r.0 h, r.2, r.3)

  where-row : Row i b a (front_of i b a v) → (digit ≤ 3) × Exactly ((1 ≤ digit) × (digit ≤ 2)) (Takes i b a) × Exactly (digit ≡ 3) (Loses i b a)
  where-row (not p q e d) = (omega arith, (λ x. absurd (omega (arith, x.0)), λ t. absurd (p t)), (λ x. absurd (omega arith), λ x. absurd (q x)))
  where-row (took t d) =
      let r = by_cases (λ (n : ℕ). (1 ≤ n) × (n ≤ 2)) (raised b c) 2 1 (λ e. (omega arith, omega arith)) (λ e. (omega arith, omega arith)) in (
        omega (arith, d, r.1),
        (λ x. t, λ x. (omega (arith, d, r.0), omega (arith, d, r.1))),
        (λ x. absurd (omega (arith, d, r.1)), λ x. absurd (apart i b a t x)),
      )
  where-row (gone l d) = (omega arith, (λ x. absurd (omega (arith, x.1)), λ t. absurd (apart i b a t l)), (λ x. l, λ x. d))

  raised-row : Row i b a (front_of i b a v) → Exactly (digit ≡ 2) (Takes i b a × Raised b c) × (digit ≤ 1 → Raised b c → ⊥)
  raised-row (not p q e d) = (
    (λ x. absurd (omega arith), λ x. absurd (p x.0)),
    λ z r. omega (arith, r.2, r.3, ap (λ (x : List ℕ). bit_of r.0 (status_of x)) e),
  )
  raised-row (took t d) =
      ⊎_elim
      (λ (u : raised b c ≡ true).
      let two : digit ≡ 2 = d ∙ ap digit_of u in
      ((λ x. (t, up u), λ x. two), λ z r. omega arith))
      (λ (u : raised b c ≡ false).
      let one : digit ≡ 1 = d ∙ ap digit_of u in
      ((λ x. absurd (omega arith), λ x. absurd (none u x.1)), λ z r. none u r))
      (decided (raised b c))
  raised-row (gone l d) = ((λ x. absurd (omega arith), λ x. absurd (apart i b a x.0 l)), λ z r. omega arith)

  -- where no bit went up, the status word is the same
  same : raised b c ≡ false → status_of c ≡ status_of b
  same h = bit-ext (sources_of b) (status_of c) (status_of b) below s.fit.status
      (λ k l. omega (arith, none-up (status_of b) (status_of c) k h, none-cleared i b a v s k))

  changed : Exactly (digit ≡ 2) (Takes i b a × (status_of c ≡ status_of b → ⊥))
  changed =
      let r = (raised-row row).0 in (
        λ x. let y = r.0 x in (y.0, λ e. let u = y.1 in omega (arith, u.2, u.3, ap (bit_of u.0) e)),
        λ x. ⊎_elim (λ (u : raised b c ≡ true). r.1 (x.0, up u)) (λ (u : raised b c ≡ false). absurd (x.1 (same u))) (decided (raised b c)),
      )

pub digit-where : DigitWhere
digit-where i b a v s = where-row i b a v s (row i b a v s)

pub two-where-raised : TwoWhereRaised
two-where-raised i b a v s = raised-row i b a v s (row i b a v s)

pub two-where-changed : TwoWhereChanged
two-where-changed i b a v s = changed i b a v s
