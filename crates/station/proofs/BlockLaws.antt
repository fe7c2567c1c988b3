-- Laws of a block's words: which stores keep a fit block fit and its module the same. Every step's law is put together from these.
-- Assumes nothing.
use Prim.Native.Nat.{ℕ, ◌+◌, ◌-◌, ◌≤◌, ◌<◌, ◌^◌, ◌%◌}
use mathlib.Core.Path.{◌≡◌, refl, sym, ap, subst, ◌∙◌}
use mathlib.Core.List.{List, [], ◌∷◌, ◌++◌, append-nil}
use mathlib.Core.Bool.{Bool, true, false, true≢false}
use mathlib.Core.Logic.{⊎_elim}
use native.Mathlib.Omega.{arith}
use native.Mathlib.Nat.{lt_of_le_of_lt}
use borrow.Author.Tests.{ltb-false, lt-ltb, le-ltb, eq-eqb, ne_eqb}
use borrow.Rule.Slice.PartMut.{put_mid, mid_of}
use lib.ListN.{length, get_or, set, take, drop, replicate, length-set, length-append, length-drop, drop_of_length-le, get_or-append, get_or-replicate}
use lib.Seq.{get_or-set_same, get_or-set_other, length-take-le, get_or-take, get_or-drop, get_or-append-add}
use lib.Pow.{pow-lt}
use lib.Bits.{or_lt}
use Rattle.word24.specs.Word.{clear_bits, set_bits}
use Rattle.word24.proofs.BitLaws.{clear-le}
use Rattle.station.specs.Block.{kind_of, count_of, status_of, mask_of, head_of, fill_of, fixed_of, spare_of, register_of, with_status, with_mask, with_head}
use Rattle.station.specs.Block.{width_of, covered_of, with_fill, with_register, set_status_bit, set_status_bit_when, zeroed_of, sources_of, is_used, FitBlock}
use Rattle.station.specs.Kept.{SameModule, Kept}
use Rattle.kinds.specs.Table.{last_head_of, most_fill_of, most_covered_of}
use Rattle.kinds.proofs.TestLaws.{by_cases, alike}
use Rattle.kinds.proofs.TableLaws.{head_few, fill-few}

-- ---- the same module
sources-as : (b c : List ℕ) → kind_of c ≡ kind_of b → count_of c ≡ count_of b → sources_of c ≡ sources_of b
unfolding sources_of
sources-as b c k r = rw (k, r)

pub sources-same : {b c : List ℕ} → SameModule b c → sources_of c ≡ sources_of b
sources-same {b} {c} s = sources-as b c s.kind s.count

spare-same : {b c : List ℕ} → SameModule b c → (i : ℕ) → i < 8 → spare_of c i ≡ spare_of b i
spare-same s i h = let e : 8 + i ≡ 6 + (2 + i) = omega arith in rw e (s.fixed (2 + i) (omega arith))

pub kept_here : {b : List ℕ} → FitBlock b → Kept b b
kept_here f = record { fit = f; same = record { kind = refl; count = refl; fixed = λ i h. refl } }

pub kept_then : {b c d : List ℕ} → Kept b c → Kept c d → Kept b d
kept_then p q = record {
  fit = q.fit;
  same = record {
    kind = q.same.kind ∙ p.same.kind;
    count = q.same.count ∙ p.same.count;
    fixed = λ i h. q.same.fixed i h ∙ p.same.fixed i h;
  };
}

-- a block with the kind, r and width of a fit one is fit, if the rest is as such a module may have it
fit-as : (b c : List ℕ) → FitBlock b → length c ≡ length b → kind_of c ≡ kind_of b → count_of c ≡ count_of b → width_of c ≡ width_of b
    → covered_of c ≤ most_covered_of (kind_of b) → ((i : ℕ) → i < 8 → spare_of c i ≡ 0)
    → status_of c < 2 ^ sources_of b → mask_of c < 2 ^ sources_of b → head_of c ≤ last_head_of (kind_of b) → fill_of c ≤ most_fill_of (kind_of b)
    → ((i : ℕ) → i < 16 → register_of c i < 2 ^ 24) → ((i : ℕ) → i < 16 → is_used c i ≡ false → register_of c i ≡ 0) → FitBlock c
fit-as b c f long k r width cover spare status mask head fill register unused =
    let s : sources_of c ≡ sources_of b = sources-as b c k r in
    record {
      long = long ∙ f.long;
      kind = rw k f.kind;
      least = rw (k, r) f.least;
      most = rw (k, r) f.most;
      status = rw s status;
      mask = rw s mask;
      last_head = rw k head;
      most_fill = rw k fill;
      least_width = rw (k, width) f.least_width;
      most_width = rw (k, width) f.most_width;
      most_covered = rw k cover;
      spare = spare;
      register = register;
      unused = unused;
      sources = rw s f.sources;
      head = omega (arith, head_few (kind_of b));
      fill = omega (arith, fill-few (kind_of b));
    }

-- a block of the same module as a fit one is fit, if status, mask, head, fill and registers are
pub kept_by : {b c : List ℕ} → FitBlock b → SameModule b c → length c ≡ length b
    → status_of c < 2 ^ sources_of b → mask_of c < 2 ^ sources_of b → head_of c ≤ last_head_of (kind_of b) → fill_of c ≤ most_fill_of (kind_of b)
    → ((i : ℕ) → i < 16 → register_of c i < 2 ^ 24) → ((i : ℕ) → i < 16 → is_used c i ≡ false → register_of c i ≡ 0) → Kept b c
kept_by {b} {c} f same long status mask head fill register unused = record {
  same = same;
  fit = fit-as b c f long same.kind same.count (same.fixed 0 (omega arith)) (rw (same.fixed 1 (omega arith)) f.most_covered)
      (λ i h. spare-same same i h ∙ f.spare i h) status mask head fill register unused;
}

-- ---- one store
-- word j after a store of v at k, both below a bound before
below_set : (b : List ℕ) (k v j m : ℕ) → k < length b → v < m → get_or b j 0 < m → get_or (set b k v) j 0 < m
below_set b k v j m l h g =
    ⊎_elim
    (λ (e : j ≡ k). rw (e, get_or-set_same b k v 0 l) h)
    (λ (n : j ≡ k → ⊥). rw (get_or-set_other b k j v 0 n) g)
    (alike j k)

-- a store to words 2 to 5 or to a register leaves the module the same
same_set : (b : List ℕ) (k v : ℕ) → 2 ≤ k → ((i : ℕ) → i < 10 → 6 + i ≡ k → ⊥) → SameModule b (set b k v)
same_set b k v lo apart = record {
  kind = get_or-set_other b k 0 v 0 (λ e. omega arith);
  count = get_or-set_other b k 1 v 0 (λ e. omega arith);
  fixed = λ i h. get_or-set_other b k (6 + i) v 0 (apart i h);
}

-- which places are used hangs on the module, the head and the fill
used-same : (b c : List ℕ) (i : ℕ) → kind_of c ≡ kind_of b → count_of c ≡ count_of b → head_of c ≡ head_of b → fill_of c ≡ fill_of b → is_used c i ≡ is_used b i
unfolding is_used
used-same b c i k r h f = rw (k, r, h, f)

-- status (word 2) or mask (word 3)
pub kept-lam : (b : List ℕ) (k v : ℕ) → FitBlock b → 2 ≤ k → k < 4 → v < 2 ^ sources_of b → Kept b (set b k v)
kept-lam b k v f lo hi h =
    let o : (j : ℕ) → (j ≡ k → ⊥) → get_or (set b k v) j 0 ≡ get_or b j 0 = λ j n. get_or-set_other b k j v 0 n in
    let s : SameModule b (set b k v) = same_set b k v lo (λ i t e. omega arith) in
    let h₄ = o 4 (λ e. omega arith) in
    let h₅ = o 5 (λ e. omega arith) in
    kept_by f s (length-set b k v)
    (below_set b k v 2 (2 ^ sources_of b) (omega arith) h f.status)
    (below_set b k v 3 (2 ^ sources_of b) (omega arith) h f.mask)
    (rw h₄ f.last_head)
    (rw h₅ f.most_fill)
    (λ i t. rw (o (16 + i) (λ e. omega arith)) (f.register i t))
    (λ i t e. o (16 + i) (λ e. omega arith) ∙ f.unused i t (sym (used-same b (set b k v) i s.kind s.count h₄ h₅) ∙ e))

pub kept-status : (b : List ℕ) (v : ℕ) → FitBlock b → v < 2 ^ sources_of b → Kept b (with_status b v)
kept-status b v f h = kept-lam b 2 v f (omega arith) (omega arith) h

pub kept-mask : (b : List ℕ) (v : ℕ) → FitBlock b → v < 2 ^ sources_of b → Kept b (with_mask b v)
kept-mask b v f h = kept-lam b 3 v f (omega arith) (omega arith) h

-- a bit of a source that there is stays below 2^s; a bit cleared does so anyhow
pub bit-set-below : (b : List ℕ) (x a : ℕ) → x < 2 ^ sources_of b → a < sources_of b → set_bits x (2 ^ a) < 2 ^ sources_of b
bit-set-below b x a h p = or_lt (sources_of b) x (2 ^ a) h (pow-lt p)

pub bits-clear-below : (x w m : ℕ) → x < m → clear_bits x w < m
bits-clear-below x w m h = lt_of_le_of_lt (clear-le x w) h

pub kept-status-bit : (b : List ℕ) (a : ℕ) → FitBlock b → a < sources_of b → Kept b (set_status_bit b a)
kept-status-bit b a f p = kept-status b _ f (bit-set-below b (status_of b) a f.status p)

pub kept-status-bit-when : (t : Bool) (b : List ℕ) (a : ℕ) → FitBlock b → a < sources_of b → Kept b (set_status_bit_when t b a)
kept-status-bit-when t b a f p = by_cases (Kept b) t (set_status_bit b a) b (λ e. kept-status-bit b a f p) (λ e. kept_here f)

-- a place below r of a module that is no buffer memory is used
used-below : (b : List ℕ) (a : ℕ) → (kind_of b ≡ 4 → ⊥) → a < count_of b → is_used b a ≡ true
unfolding is_used
used-below b a n h = simp (ne_eqb _ _ n, lt-ltb _ _ h)

-- register A below r of a module that is no buffer memory
pub kept_register : (b : List ℕ) (a v : ℕ) → FitBlock b → a < 16 → (kind_of b ≡ 4 → ⊥) → a < count_of b → v < 2 ^ 24 → Kept b (with_register b a v)
kept_register b a v f s n l h =
    let c : List ℕ = with_register b a v in
    let o : (j : ℕ) → (j ≡ 16 + a → ⊥) → get_or c j 0 ≡ get_or b j 0 = λ j n. get_or-set_other b (16 + a) j v 0 n in
    let m : SameModule b c = same_set b (16 + a) v (omega arith) (λ i t e. omega arith) in
    let h₄ = o 4 (λ e. omega arith) in
    let h₅ = o 5 (λ e. omega arith) in
    let u : (i : ℕ) → is_used c i ≡ is_used b i = λ i. used-same b c i m.kind m.count h₄ h₅ in
    kept_by f m (length-set b (16 + a) v)
    (rw (o 2 (λ e. omega arith)) f.status)
    (rw (o 3 (λ e. omega arith)) f.mask)
    (rw h₄ f.last_head)
    (rw h₅ f.most_fill)
    (λ i t. below_set b (16 + a) v (16 + i) (2 ^ 24) (omega arith) h (f.register i t))
    (λ i t e.
    ⊎_elim
    (λ (q : i ≡ a). absurd (true≢false (sym (rw q (used-below b a n l)) ∙ sym (u i) ∙ e)))
    (λ (q : i ≡ a → ⊥). o (16 + i) (λ w. q (omega arith)) ∙ f.unused i t (sym (u i) ∙ e))
    (alike i a))

-- ---- a block with its cover taken away
abbrev pub without_cover : List ℕ → List ℕ
without_cover b = set b 7 0

pub fit-uncovered : (b : List ℕ) → FitBlock b → FitBlock (without_cover b)
fit-uncovered b f =
    let o : (j : ℕ) → (j ≡ 7 → ⊥) → get_or (without_cover b) j 0 ≡ get_or b j 0 = λ j n. get_or-set_other b 7 j 0 0 n in
    let h₀ = o 0 (λ e. omega arith) in
    let h₁ = o 1 (λ e. omega arith) in
    let h₄ = o 4 (λ e. omega arith) in
    let h₅ = o 5 (λ e. omega arith) in
    fit-as b (without_cover b) f (length-set b 7 0) h₀ h₁ (o 6 (λ e. omega arith))
    (rw (get_or-set_same b 7 0 0 (omega (arith, f.long))) (omega arith))
    (λ i t. o (8 + i) (λ e. omega arith) ∙ f.spare i t)
    (rw (o 2 (λ e. omega arith)) f.status)
    (rw (o 3 (λ e. omega arith)) f.mask)
    (rw h₄ f.last_head)
    (rw h₅ f.most_fill)
    (λ i t. rw (o (16 + i) (λ e. omega arith)) (f.register i t))
    (λ i t e. o (16 + i) (λ e. omega arith) ∙ f.unused i t (sym (used-same b (without_cover b) i h₀ h₁ h₄ h₅) ∙ e))

-- ---- a buffer memory with place p holding v, and a new head and fill
abbrev pub moved : List ℕ → (p v head fill : ℕ) → List ℕ
moved b p v head fill = with_fill (with_head (with_register b p v) head) fill

module _ (b : List ℕ) (p v head fill : ℕ) (f : FitBlock b) (k : kind_of b ≡ 4) (hp : p < 16) (hh : head < 16) (hf : fill ≤ 16) where
  c : List ℕ
  c = moved b p v head fill

  moved_other : (j : ℕ) → (j ≡ 4 → ⊥) → (j ≡ 5 → ⊥) → (j ≡ 16 + p → ⊥) → get_or c j 0 ≡ get_or b j 0
  unfolding c
  moved_other j n₄ n₅ n =
      get_or-set_other (with_head (with_register b p v) head) 5 j fill 0 n₅ ∙ get_or-set_other (with_register b p v) 4 j head 0 n₄ ∙ get_or-set_other b (16 + p) j v 0 n

  moved-head : head_of c ≡ head
  unfolding c
  moved-head =
      get_or-set_other (with_head (with_register b p v) head) 5 4 fill 0 (λ e. omega arith)
      ∙ get_or-set_same (with_register b p v) 4 head 0 (simp length-set (omega (arith, f.long)))

  moved-fill : fill_of c ≡ fill
  unfolding c
  moved-fill = get_or-set_same (with_head (with_register b p v) head) 5 fill 0 (simp length-set (omega (arith, f.long)))

  moved-place : register_of c p ≡ v
  unfolding c
  moved-place =
      get_or-set_other (with_head (with_register b p v) head) 5 (16 + p) fill 0 (λ e. omega arith)
      ∙ get_or-set_other (with_register b p v) 4 (16 + p) head 0 (λ e. omega arith)
      ∙ get_or-set_same b (16 + p) v 0 (omega (arith, f.long))

  moved-long : length c ≡ length b
  unfolding c
  moved-long = simp length-set

  moved_same : SameModule b c
  moved_same = record {
    kind = moved_other 0 (λ e. omega arith) (λ e. omega arith) (λ e. omega arith);
    count = moved_other 1 (λ e. omega arith) (λ e. omega arith) (λ e. omega arith);
    fixed = λ i h. moved_other (6 + i) (λ e. omega arith) (λ e. omega arith) (λ e. omega arith);
  }

  -- what is known of a place that is not used afterwards
  unused-after : (i : ℕ) → is_used c i ≡ false → fill ≤ (i + 16 - head) % 16
  unfolding is_used
  unused-after i h = ltb-false _ _ (simp (moved_same.kind ∙ k, moved-head, moved-fill) at h)

  unused-before : (i : ℕ) → fill_of b ≤ (i + 16 - head_of b) % 16 → is_used b i ≡ false
  unfolding is_used
  unused-before i h = simp (eq-eqb _ _ k) (le-ltb ((i + 16 - head_of b) % 16) (fill_of b) h)

  -- where a place that is not used afterwards is p with v = 0, or was not used before
  kept-c : v < 2 ^ 24
      → ((i : ℕ) → i < 16 → fill ≤ (i + 16 - head) % 16 → (i ≡ p → v ≡ 0) × ((i ≡ p → ⊥) → fill_of b ≤ (i + 16 - head_of b) % 16)) → Kept b c
  kept-c small still =
      let o = moved_other in
      let r : (i : ℕ) → (i ≡ p → ⊥) → register_of c i ≡ register_of b i = λ i n. o (16 + i) (λ e. omega arith) (λ e. omega arith) (λ e. n (omega arith)) in
      kept_by f moved_same moved-long
      (rw (o 2 (λ e. omega arith) (λ e. omega arith) (λ e. omega arith)) f.status)
      (rw (o 3 (λ e. omega arith) (λ e. omega arith) (λ e. omega arith)) f.mask)
      (rw (moved-head, k) (omega arith))
      (rw (moved-fill, k) (omega arith))
      (λ i t.
      ⊎_elim
      (λ (e : i ≡ p). rw (e, moved-place) small)
      (λ (n : i ≡ p → ⊥). rw (r i n) (f.register i t))
      (alike i p))
      (λ i t h.
      let q = still i t (unused-after i h) in
      ⊎_elim
      (λ (e : i ≡ p). rw e (moved-place ∙ q.0 e))
      (λ (n : i ≡ p → ⊥). r i n ∙ f.unused i t (unused-before i (q.1 n)))
      (alike i p))

  pub kept-moved : v < 2 ^ 24
      → ((i : ℕ) → i < 16 → fill ≤ (i + 16 - head) % 16 → (i ≡ p → v ≡ 0) × ((i ≡ p → ⊥) → fill_of b ≤ (i + 16 - head_of b) % 16))
      → Kept b (moved b p v head fill)
  unfolding c
  kept-moved small still = kept-c small still

-- ---- a block with its registers zeroed
-- a block whose words from 16 on were lent and came back all zero
pub tail-zeroed : (xs ys : List ℕ) → length xs ≡ 32 → ys ≡ replicate (length (mid_of 16 (length xs - 16) xs)) 0
    → put_mid 16 (length xs - 16) xs ys ≡ take 16 xs ++ replicate 16 0
tail-zeroed xs ys e h =
    let m : length (take 16 (drop 16 xs)) ≡ 16 = length-take-le 16 (drop 16 xs) (simp length-drop (omega arith)) in
    let p : drop 16 (drop 16 xs) ≡ [] = drop_of_length-le (drop 16 xs) {i = 16} (simp length-drop (omega arith)) in
    rw (h, e, m, p) (ap (λ (t : List ℕ). take 16 xs ++ t) (append-nil _))

-- the first sixteen words, with words 2 to 5 stored
pub header-zeroed : (b : List ℕ) (status mask : ℕ) → length b ≡ 32
    → take 16 (with_fill (with_head (with_mask (with_status b status) mask) 0) 0) ++ replicate 16 0 ≡ zeroed_of b status mask
unfolding zeroed_of
header-zeroed [] status mask l = absurd (omega arith)
header-zeroed (_ ∷ []) status mask l = absurd (omega arith)
header-zeroed (_ ∷ _ ∷ []) status mask l = absurd (omega arith)
header-zeroed (_ ∷ _ ∷ _ ∷ []) status mask l = absurd (omega arith)
header-zeroed (_ ∷ _ ∷ _ ∷ _ ∷ []) status mask l = absurd (omega arith)
header-zeroed (_ ∷ _ ∷ _ ∷ _ ∷ _ ∷ []) status mask l = absurd (omega arith)
header-zeroed (x₀ ∷ x₁ ∷ x₂ ∷ x₃ ∷ x₄ ∷ x₅ ∷ xs) status mask l = refl

module _ (b : List ℕ) (status mask : ℕ) (l : length b ≡ 32) where
  fixed-long : length (take 10 (drop 6 b)) ≡ 10
  fixed-long = length-take-le 10 (drop 6 b) (simp length-drop (omega arith))

  pub zeroed-fixed : (i : ℕ) → i < 10 → fixed_of (zeroed_of b status mask) i ≡ fixed_of b i
  unfolding zeroed_of
  zeroed-fixed i h =
      get_or-append-add (kind_of b ∷ count_of b ∷ status ∷ mask ∷ 0 ∷ 0 ∷ []) (take 10 (drop 6 b) ++ replicate 16 0) i 0
      ∙ get_or-append (take 10 (drop 6 b)) (replicate 16 0) 0 i (rw fixed-long h)
      ∙ get_or-take 10 (drop 6 b) i 0 h
      ∙ get_or-drop 6 b i 0

  pub zeroed-register : (i : ℕ) → i < 16 → register_of (zeroed_of b status mask) i ≡ 0
  unfolding zeroed_of
  zeroed-register i h =
      let e : 16 + i ≡ 6 + (10 + i) = omega arith in
      rw e (
      get_or-append-add (kind_of b ∷ count_of b ∷ status ∷ mask ∷ 0 ∷ 0 ∷ []) (take 10 (drop 6 b) ++ replicate 16 0) (10 + i) 0
      ∙ subst (λ (n : ℕ). get_or (take 10 (drop 6 b) ++ replicate 16 0) (n + i) 0 ≡ 0) fixed-long
      (get_or-append-add (take 10 (drop 6 b)) (replicate 16 0) i 0 ∙ get_or-replicate 16 i 0 0 h)
      )

  pub zeroed-long : length (zeroed_of b status mask) ≡ 32
  unfolding zeroed_of
  zeroed-long = rw (length-append (take 10 (drop 6 b)) (replicate 16 0), fixed-long)

  -- the words before them are as stored
  pub zeroed-same : SameModule b (zeroed_of b status mask)
  unfolding zeroed_of
  zeroed-same = record { kind = refl; count = refl; fixed = zeroed-fixed }

  pub zeroed-lam : (status_of (zeroed_of b status mask) ≡ status) × (mask_of (zeroed_of b status mask) ≡ mask)
  unfolding zeroed_of
  zeroed-lam = (refl, refl)

  pub zeroed-places : (head_of (zeroed_of b status mask) ≡ 0) × (fill_of (zeroed_of b status mask) ≡ 0)
  unfolding zeroed_of
  zeroed-places = (refl, refl)

pub kept-zeroed : (b : List ℕ) (status mask : ℕ) → FitBlock b → status < 2 ^ sources_of b → mask < 2 ^ sources_of b → Kept b (zeroed_of b status mask)
kept-zeroed b status mask f hs hm =
    let l = f.long in
    let lam = zeroed-lam b status mask l in
    let places = zeroed-places b status mask l in
    kept_by f (zeroed-same b status mask l) (zeroed-long b status mask l ∙ sym l)
    (rw lam.0 hs)
    (rw lam.1 hm)
    (rw places.0 (omega arith))
    (rw places.1 (omega arith))
    (λ i t. rw (zeroed-register b status mask l i t) (omega arith))
    (λ i t e. zeroed-register b status mask l i t)
