-- Laws of flag words: those of a register, the words of a pass, the count of registers read, the loop, and the theorem that each window flags its list.
-- Assumes nothing.
use Prim.Native.Nat.{ℕ, zero, suc, ◌+◌, ◌-◌, ◌*◌, ◌/◌, ◌%◌, ◌≤◌, ◌<◌, min}
use mathlib.Core.Path.{◌≡◌, refl, sym, ap, ap₂, ◌∙◌}
use mathlib.Core.List.{List, [], ◌∷◌, ◌++◌, append_assoc}
use mathlib.Core.Bool.{Bool, true, false, cond, ◌&&◌}
use mathlib.Core.Logic.{⊎_elim}
use native.Mathlib.Nat.{not-suc-le-zero}
use native.Mathlib.Numerals.{add-one}
use native.Mathlib.Omega.{arith}
use borrow.Author.Tests.{ltb-true, ltb-false, le-leb}
use lib.Dec.{eqb, ltb}
use lib.ListN.{length, get_or, drop, set, length-append, length-drop, get_or-append}
use lib.Seq.{set_at, get_or_at, drop-cons}
use Rattle.std.specs.Prelude.{Some, None}
use Rattle.std.proofs.lemmas.Option.{cond_some, none-some}
use Rattle.word24.specs.Word.{bit_of, as_bit, bits_of}
use Rattle.word24.proofs.BitsOf.{bits-bit, bits-clear, bits-cong, bits_none}
use Rattle.blocks.specs.Blocks.{block_of}
use Rattle.kinds.proofs.TestLaws.{alike, decided, both_true}
use Rattle.kinds.specs.Cases.{is_one_of}
use Rattle.station.specs.Block.{kind_of, count_of, register_of}
use Rattle.station.proofs.KindTable.{count-few}
use Rattle.step.specs.Verdict.{within, places_of}
use Rattle.dataway.specs.Crate.{FitCrate}
use Rattle.windows.specs.Within.{listed_kinds, is_there, value_of, is_inside, picked, within_of}
use Rattle.windows.specs.Flags.{windows_in, low_of, high_of, flag_of, words_from, flags_of, read_in, read_from, read_of, flagged_by}
use Rattle.windows.proofs.WithinLaws.{picked-in, picked-out, picked_none, picked-few, picked-alike}

-- one subaddress more of a station of these kinds
least : (s : Bool) (a r : ℕ) → min (suc a) (cond s r 0) ≡ min a (cond s r 0) + as_bit (s && ltb a r)
least false a r = omega arith
least true a r = ⊎_elim
    (λ (e : ltb a r ≡ true). rw e (omega (arith, ltb-true a r e)))
    (λ (e : ltb a r ≡ false). rw e (omega (arith, ltb-false a r e)))
    (decided (ltb a r))

all_of : (s : Bool) (r : ℕ) → r ≤ 16 → min 16 (cond s r 0) ≡ cond s r 0
all_of true r h = omega arith
all_of false r h = omega arith

-- ---- the flag word of a register
module _ (sheet m : List ℕ) (p : ℕ) where
  pub flag-there : is_there m p ≡ true → bits_of (λ i. within (low_of sheet i) (value_of m p) (high_of sheet i)) (windows_in sheet) ≡ flag_of sheet m p
  unfolding flag_of is_inside
  flag-there e = bits-cong _ _ (windows_in sheet) (λ i. rw e)

  pub flag-absent : is_there m p ≡ false → 0 ≡ flag_of sheet m p
  unfolding flag_of is_inside
  flag-absent e = sym (bits_none (windows_in sheet)) ∙ bits-cong _ _ (windows_in sheet) (λ i. rw e)

-- ---- the words of a pass
module _ (g : ℕ → ℕ) (from : ℕ) where
  words-suc : (k : ℕ) → words_from g from (k + 1) ≡ words_from g from k ++ (g (from + k) ∷ [])
  unfolding words_from
  words-suc k = simp add-one

  words-none : words_from g from 0 ≡ []
  unfolding words_from
  words-none = refl

  pub words_long : (k : ℕ) → length (words_from g from k) ≡ k
  words_long zero = rw words-none
  words_long (suc k) =
      let ih = words_long k in
      rw (sym (add-one k), words-suc k) (omega (arith, length-append (words_from g from k) (g (from + k) ∷ [])))

  -- word j is that of the number from + j
  pub words-at : (k j : ℕ) → j < k → get_or (words_from g from k) j 0 ≡ g (from + j)
  words-at zero j h = absurd (not-suc-le-zero h)
  words-at (suc k) j h =
      rw (sym (add-one k), words-suc k)
      (⊎_elim
      (λ (e : j ≡ k). rw e (get_or_at (words_from g from k) (g (from + k)) [] 0 k (words_long k)))
      (λ (n : j ≡ k → ⊥). get_or-append (words_from g from k) (g (from + k) ∷ []) 0 j (omega (arith, words_long k)) ∙ words-at k j (omega arith))
      (alike j k))

  -- one word more
  pub words-next : (k : ℕ) (b₀ b : List ℕ) (v : ℕ) → v ≡ g (from + k) → k < length b₀ → b ≡ words_from g from k ++ drop k b₀
      → set b k v ≡ words_from g from (k + 1) ++ drop (k + 1) b₀
  words-next k b₀ b v e h eb =
      ap (λ (l : List ℕ). set l k v) (eb ∙ ap (λ (l : List ℕ). words_from g from k ++ l) (drop-cons b₀ k 0 h))
      ∙ set_at (words_from g from k) (get_or b₀ k 0) (drop (suc k) b₀) v k (words_long k)
      ∙ rw (e, words-suc k, add-one k) (sym (append_assoc (words_from g from k) (g (from + k) ∷ []) (drop (suc k) b₀)))

  pub words-starts : (b : List ℕ) → b ≡ words_from g from 0 ++ drop 0 b
  words-starts b = rw words-none

-- the word of station k and subaddress a
pub flags-at : (sheet m : List ℕ) (n to k a : ℕ) → n ≤ k → k ≤ to → a ≤ 15 → get_or (flags_of sheet m n to) (16 * (k - n) + a) 0 ≡ flag_of sheet m (16 * k + a)
unfolding flags_of
flags-at sheet m n to k a l h b =
    words-at (flag_of sheet m) (16 * n) (places_of n to) (16 * (k - n) + a) (omega arith) ∙ ap (flag_of sheet m) (omega arith)

-- ---- how many registers are read
-- one number more
picked_next : (t : ℕ → Bool) (from k : ℕ) → length (picked t from (k + 1)) ≡ length (picked t from k) + as_bit (t (from + k))
picked_next t from k =
    ⊎_elim
    (λ (e : t (from + k) ≡ true). rw (picked-in t from k e, e) (length-append (picked t from k) ((from + k) ∷ [])))
    (λ (e : t (from + k) ≡ false). rw (picked-out t from k e, e) (omega arith))
    (decided (t (from + k)))

module _ (m : List ℕ) where
  -- how many of the k numbers from `from` on are there
  abbrev pub there_from : (from k : ℕ) → ℕ
  there_from from k = length (picked (is_there m) from k)

  -- subaddress a of station n + j
  there-in : (n j a : ℕ) → a < 16
      → is_there m (16 * n + (16 * j + a)) ≡ is_one_of (kind_of (block_of m (n + j))) listed_kinds && ltb a (count_of (block_of m (n + j)))
  unfolding is_there
  there-in n j a h =
      let q : (16 * n + (16 * j + a)) / 16 ≡ n + j = omega arith in
      let r : (16 * n + (16 * j + a)) % 16 ≡ a = omega arith in
      rw (q, r)

  -- its first a subaddresses
  station-part : (n j a : ℕ) → a ≤ 16 → there_from (16 * n) (16 * j + a) ≡ there_from (16 * n) (16 * j) + min a (read_in (block_of m (n + j)))
  station-part n j zero h = let e : 16 * j + 0 ≡ 16 * j = omega arith in rw e (omega arith)
  station-part n j (suc a) h =
      let e : 16 * j + suc a ≡ 16 * j + a + 1 = omega arith in
      let ih = station-part n j a (omega arith) in
      rw (e, picked_next (is_there m) (16 * n) (16 * j + a), there-in n j a (omega arith))
      (omega (arith, ih, least (is_one_of (kind_of (block_of m (n + j))) listed_kinds) a (count_of (block_of m (n + j)))))

  -- what the pass counts is the sum of r over the stations
  pub reads-sum : FitCrate m → (n j : ℕ) → 1 ≤ n → n + j ≤ 24 → there_from (16 * n) (16 * j) ≡ read_from m n j
  unfolding read_from
  reads-sum f n zero l h = rw (picked_none (is_there m) (16 * n))
  reads-sum f n (suc j) l h =
      let e : 16 * suc j ≡ 16 * j + 16 = omega arith in
      let few = count-few (block_of m (n + j)) (f.station (n + j) (omega arith) (omega arith)) in
      ap (there_from (16 * n)) e ∙ station-part n j 16 (omega arith)
      ∙ ap₂ (λ (x y : ℕ). x + y) (reads-sum f n j l (omega arith)) (all_of (is_one_of (kind_of (block_of m (n + j))) listed_kinds) (count_of (block_of m (n + j))) few)

  -- of a fit crate all values lie from 0 to 16,777,215
  inside-all : FitCrate m → (p : ℕ) → 1 ≤ p / 16 → p / 16 ≤ 23 → is_inside m 0 16777215 p ≡ is_there m p
  unfolding is_inside value_of
  inside-all f p l h =
      rw (
        le-leb 0 (register_of (block_of m (p / 16)) (p % 16)) (omega arith),
        le-leb (register_of (block_of m (p / 16)) (p % 16)) 16777215 (omega (arith, (f.station (p / 16) l h).register (p % 16) (omega arith))),
      )
      (both_true (is_there m p))

  -- so a listing of all values lists as many
  pub reads_all : FitCrate m → (n to : ℕ) → 1 ≤ n → n ≤ to → to ≤ 23 → read_of m n to ≡ length (within_of m n to 0 16777215)
  unfolding within_of
  reads_all f n to l k h =
      sym (reads-sum f n (to + 1 - n) l (omega arith))
      ∙ ap length (picked-alike (is_there m) (is_inside m 0 16777215) (16 * n) (places_of n to)
      (λ j b. sym (inside-all f (16 * n + j) (omega arith) (omega arith))))

-- ---- the loop's turn
-- i words are written, for the numbers from `from` on, and `count` registers were read
pub record Pass (sheet m b₀ b : List ℕ) (from i count : ℕ) : Type 0 where
  pub words : b ≡ words_from (flag_of sheet m) from i ++ drop i b₀
  pub reads : count ≡ there_from m from i

pub pass-starts : (sheet m b : List ℕ) (from : ℕ) → Pass sheet m b b from 0 0
pass-starts sheet m b from = record { words = words-starts (flag_of sheet m) from b; reads = rw (picked_none (is_there m) from) }

pass-next : (sheet m b₀ b : List ℕ) (from i count v r : ℕ) → Pass sheet m b₀ b from i count → i < length b₀
    → v ≡ flag_of sheet m (from + i) → r ≡ as_bit (is_there m (from + i)) → Pass sheet m b₀ (set b i v) from (i + 1) (count + r)
pass-next sheet m b₀ b from i count v r h l ev er = record {
  words = words-next (flag_of sheet m) from i b₀ b v ev l h.words;
  reads = ap₂ (λ (x y : ℕ). x + y) h.reads er ∙ sym (picked_next (is_there m) from i);
}

-- the register is there, with the value v
pub pass-there : (sheet m b₀ b : List ℕ) (from i count v w : ℕ) → Pass sheet m b₀ b from i count → i < length b₀
    → cond (is_there m (from + i)) (Some (value_of m (from + i))) None ≡ Some v
    → w ≡ bits_of (λ j. within (low_of sheet j) v (high_of sheet j)) (windows_in sheet) → Pass sheet m b₀ (set b i w) from (i + 1) (count + 1)
pass-there sheet m b₀ b from i count v w h l e ew =
    let there = cond_some (is_there m (from + i)) (value_of m (from + i)) v e in
    pass-next sheet m b₀ b from i count w 1 h l
    (ew ∙ ap (λ (x : ℕ). bits_of (λ j. within (low_of sheet j) x (high_of sheet j)) (windows_in sheet)) (sym there.1) ∙ flag-there sheet m (from + i) there.0)
    (rw there.0)

-- or it is not
pub pass-absent : (sheet m b₀ b : List ℕ) (from i count : ℕ) → Pass sheet m b₀ b from i count → i < length b₀
    → cond (is_there m (from + i)) (Some (value_of m (from + i))) None ≡ None → Pass sheet m b₀ (set b i 0) from (i + 1) count
pass-absent sheet m b₀ b from i count h l e =
    let absent : is_there m (from + i) ≡ false = ⊎_elim
    (λ (t : is_there m (from + i) ≡ true). absurd (none-some _ (sym (rw t at e))))
    (λ (t : is_there m (from + i) ≡ false). t)
    (decided (is_there m (from + i))) in
    let none : count + 0 ≡ count = omega arith in
    rw none at (pass-next sheet m b₀ b from i count 0 0 h l (flag-absent sheet m (from + i) absent) (rw absent))

pub pass-few : {sheet m b₀ b : List ℕ} {from i count : ℕ} → Pass sheet m b₀ b from i count → count ≤ i
pass-few {m = m} {from = from} {i = i} h = omega (arith, h.reads, picked-few (is_there m) from i)

pub pass-long : {sheet m b₀ b : List ℕ} {from i count : ℕ} → Pass sheet m b₀ b from i count → i ≤ length b₀ → length b ≡ length b₀
pass-long {sheet} {m} {b₀} {b} {from} {i} h l =
    ap length h.words
    ∙ omega (arith, length-append (words_from (flag_of sheet m) from i) (drop i b₀), words_long (flag_of sheet m) from i, length-drop i b₀)

pub pass-ends : {sheet m b₀ b : List ℕ} {n i count : ℕ} (to : ℕ) → Pass sheet m b₀ b (16 * n) i count → i ≡ places_of n to
    → FitCrate m → 1 ≤ n → n ≤ to → to ≤ 23 → (count ≡ read_of m n to) × (b ≡ flags_of sheet m n to ++ drop (places_of n to) b₀)
unfolding flags_of
pass-ends {sheet} {m} {b₀} {b} {n} to h e f l k j = (
  h.reads ∙ ap (there_from m (16 * n)) e ∙ reads-sum m f n (to + 1 - n) l (omega arith),
  rw e at h.words,
)

-- ---- the theorem: for every window the flagged registers are exactly L9's list
eqb-bit : (s : Bool) → eqb (as_bit s) 1 ≡ s
eqb-bit true = refl
eqb-bit false = refl

module _ (sheet m : List ℕ) (i : ℕ) where
  -- bit i of a flag word is set exactly where window i holds the register
  pub flag-bit : (p : ℕ) → i < windows_in sheet → eqb (bit_of i (flag_of sheet m p)) 1 ≡ is_inside m (low_of sheet i) (high_of sheet i) p
  unfolding flag_of
  flag-bit p h = ap (λ (x : ℕ). eqb x 1) (bits-bit (λ j. is_inside m (low_of sheet j) (high_of sheet j) p) (windows_in sheet) i h) ∙ eqb-bit _

  -- a bit of no window is clear
  pub flag-clear : (p : ℕ) → windows_in sheet ≤ i → bit_of i (flag_of sheet m p) ≡ 0
  unfolding flag_of
  flag-clear p h = bits-clear (λ j. is_inside m (low_of sheet j) (high_of sheet j) p) (windows_in sheet) i h

  pub windows-list : (n to : ℕ) → i < windows_in sheet → flagged_by i (16 * n) (flags_of sheet m n to) ≡ within_of m n to (low_of sheet i) (high_of sheet i)
  unfolding flagged_by flags_of within_of
  windows-list n to h =
      let k : ℕ = places_of n to in
      let ws : List ℕ = words_from (flag_of sheet m) (16 * n) k in
      ap (picked (λ p. eqb (bit_of i (get_or ws (p - 16 * n) 0)) 1) (16 * n)) (words_long (flag_of sheet m) (16 * n) k)
      ∙ picked-alike (λ p. eqb (bit_of i (get_or ws (p - 16 * n) 0)) 1) (is_inside m (low_of sheet i) (high_of sheet i)) (16 * n) k
      (λ j l.
      let e : 16 * n + j - 16 * n ≡ j = omega arith in
      ap (λ (q : ℕ). eqb (bit_of i (get_or ws q 0)) 1) e
      ∙ ap (λ (w : ℕ). eqb (bit_of i w) 1) (words-at (flag_of sheet m) (16 * n) k j l) ∙ flag-bit (16 * n + j) h)
