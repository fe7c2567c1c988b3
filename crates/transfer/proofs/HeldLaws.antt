-- What a scan with F0 reads. F0 changes nothing, and at subaddress A it gives the word A of those that the station holds, with Q = 1, or Q = 0 where
-- there is none; so the scan stores the words of its stations one after the other, as many as the limit lets it.
-- Assumes nothing.
use mathlib.Core.Path.{◌≡◌, refl, sym, ap, ◌∙◌}
use mathlib.Core.Bool.{Bool, true, false}
use mathlib.Core.List.{List, [], ◌∷◌, ◌++◌, append_assoc, append-nil}
use mathlib.Core.Logic.{⊎_elim}
use Prim.Native.Nat.{ℕ, suc, ◌+◌, ◌-◌, ◌≤◌, ◌<◌}
use native.Mathlib.Omega.{arith}
use native.Mathlib.Decide.{dec_lt}
use native.Mathlib.Numerals.{add-one}
use borrow.Author.Tests.{eqb-true, eqb-false, lt-ltb, le-ltb}
use lib.Dec.{eqb}
use lib.ListN.{length, get_or, take, drop, length-append, length-drop, drop_of_length-le}
use lib.Seq.{length-take-le, take_all, take_at, drop-cons, get_or-take, get_or-drop}
use Rattle.blocks.specs.Blocks.{block_of, with_block}
use Rattle.blocks.proofs.Blocks.{put-block}
use Rattle.station.specs.Block.{kind_of, count_of, fill_of, is_buffer, FitBlock}
use Rattle.station.specs.Outcome.{Outcome, answer, gives}
use Rattle.station.specs.Group1.{read_of, register_kinds}
use Rattle.station.specs.Buffer.{buffer_read_of}
use Rattle.station.specs.Command.{command_of, functions_of}
use Rattle.kinds.specs.Cases.{is_one_of}
use Rattle.kinds.proofs.TestLaws.{decided, both_false}
use Rattle.station.proofs.KindTable.{count-few, register-kind}
use Rattle.station.specs.declared.Reply.{Reply}
use Rattle.dataway.specs.Crate.{FitCrate}
use Rattle.dataway.specs.Stations.{reply_of, after_command}
use Rattle.transfer.specs.Cycle.{Ended, reads, store}
use Rattle.transfer.specs.Scan.{scan_of}
use Rattle.transfer.specs.Held.{held_in, held_from}
use Rattle.transfer.proofs.ScanInduction.{Steps, scan-induction}

-- ---- F0 at a block
-- F0 at subaddress a of the block b: word a of those that the station holds is given, with Q = 1; or there is none there, and Q = 0. Nothing changes.
data Given (b : List ℕ) (a : ℕ) : Type 0 where
  word : a < length (held_in b) → read_of b a ≡ gives b (get_or (held_in b) a 0) → Given b a
  none : length (held_in b) ≤ a → (x : ℕ) → read_of b a ≡ answer b x 0 0 → Given b a

-- a buffer memory: its oldest word, if it has one, at A0
given-buffer : (b : List ℕ) (a : ℕ) → is_buffer b ≡ true → Given b a
unfolding held_in read_of buffer_read_of
given-buffer b a k = go (eqb (fill_of b) 0) (eqb a 0) refl refl
  where
    go : (s t : Bool) → eqb (fill_of b) 0 ≡ s → eqb a 0 ≡ t → Given b a
    go true true e h = none (rw (k, e) (omega arith)) 1 (rw (k, e, h))
    go true false e h = none (rw (k, e) (omega arith)) 0 (rw (k, e, h))
    go false true e h = word (rw (k, e) (omega (arith, eqb-true a 0 h))) (rw (k, e, eqb-true a 0 h))
    go false false e h = none (rw (k, e) (let p = eqb-false a 0 h in omega arith)) 0 (rw (k, e, h))

-- any other: registers 0 to r-1
registers-long : (b : List ℕ) → FitBlock b → length (take (count_of b) (drop 16 b)) ≡ count_of b
registers-long b f = length-take-le (count_of b) (drop 16 b) (omega (arith, length-drop 16 b, f.long, count-few b f))

given-registers : (b : List ℕ) (a : ℕ) → FitBlock b → is_buffer b ≡ false → Given b a
unfolding held_in read_of
given-registers b a f k = go (dec_lt a (count_of b))
  where
    go : Dec (a < count_of b) → Given b a
    go (yes l) =
        word (rw k (omega (arith, registers-long b f, l)))
        (rw (
          k,
          register-kind b a f (eqb-false (kind_of b) 4 k) l,
          lt-ltb a (count_of b) l,
          get_or-take (count_of b) (drop 16 b) a 0 l,
          get_or-drop 16 b a 0,
        ))
    go (no l) =
        none (rw k (omega (arith, registers-long b f, l))) 0
        (rw (k, le-ltb a (count_of b) (omega (arith, l)), both_false (is_one_of (kind_of b) register_kinds)))

given : (b : List ℕ) (a : ℕ) → FitBlock b → Given b a
given b a f = ⊎_elim (given-buffer b a) (given-registers b a f) (decided (is_buffer b))

-- no more than sixteen
held-few : (b : List ℕ) → FitBlock b → length (held_in b) ≤ 16
unfolding held_in
held-few b f = go (is_buffer b) (eqb (fill_of b) 0) refl refl
  where
    go : (s t : Bool) → is_buffer b ≡ s → eqb (fill_of b) 0 ≡ t → length (held_in b) ≤ 16
    go true true k e = rw (k, e) (omega arith)
    go true false k e = rw (k, e) (omega arith)
    go false t k e = rw k (omega (arith, registers-long b f, count-few b f))

-- ---- F0 at the crate
-- F0 is the reading
read_is : (b : List ℕ) (a : ℕ) → command_of b a 0 0 ≡ read_of b a
unfolding command_of functions_of
read_is b a = refl

-- nothing changes; with Q = 1 the word at A of those held is given, else there is none
record ReadAt (m : List ℕ) (n a : ℕ) : Type 0 where
  still : after_command m n a 0 0 ≡ m
  word-there : (reply_of m n a 0 0).q ≡ 1 → (a < length (held_in (block_of m n))) × ((reply_of m n a 0 0).r ≡ get_or (held_in (block_of m n)) a 0)
  none-there : ((reply_of m n a 0 0).q ≡ 1 → ⊥) → length (held_in (block_of m n)) ≤ a

read_at : (m : List ℕ) (n a : ℕ) → FitCrate m → 1 ≤ n → n ≤ 23 → ReadAt m n a
unfolding after_command reply_of
read_at m n a h lo hi = go (given (block_of m n) a (h.station n lo hi))
  where
    back : with_block m n (block_of m n) ≡ m
    back = put-block m n h.size (omega arith)

    memory : {o : Outcome} → read_of (block_of m n) a ≡ o → after_command m n a 0 0 ≡ with_block m n o.block
    memory e = ap (λ (o : Outcome). with_block m n o.block) (read_is (block_of m n) a ∙ e)

    reply : {o : Outcome} → read_of (block_of m n) a ≡ o → reply_of m n a 0 0 ≡ o.reply
    reply e = ap (λ (o : Outcome). o.reply) (read_is (block_of m n) a ∙ e)

    go : Given (block_of m n) a → ReadAt m n a
    go (word l e) = record {
      still = memory e ∙ back;
      word-there = λ q. (l, ap (λ (r : Reply). r.r) (reply e));
      none-there = λ q. absurd (q (ap (λ (r : Reply). r.q) (reply e)));
    }
    go (none l x e) = record {
      still = memory e ∙ back;
      word-there = λ q. absurd (omega (arith, sym q ∙ ap (λ (r : Reply). r.q) (reply e)));
      none-there = λ q. l;
    }

-- ---- the words from a place on
module _ (m : List ℕ) (to : ℕ) where
  -- what is left to read from n, a on
  abbrev left : (n a : ℕ) → List ℕ
  left n a = held_from m (to + 1 - n) n a

  left-past : (n a : ℕ) → to < n → left n a ≡ []
  unfolding held_from
  left-past n a l = rw (let e : to + 1 - n ≡ 0 = omega arith in e)

  left_here : (n a : ℕ) → n ≤ to → left n a ≡ drop a (held_in (block_of m n)) ++ left (n + 1) 0
  unfolding held_from
  left_here n a l = rw (let e : to + 1 - n ≡ suc (to + 1 - (n + 1)) = omega arith in e)

  left-miss : (n a : ℕ) → n ≤ to → length (held_in (block_of m n)) ≤ a → left n a ≡ left (n + 1) 0
  left-miss n a l h = left_here n a l ∙ ap (λ (x : List ℕ). x ++ left (n + 1) 0) (drop_of_length-le (held_in (block_of m n)) h)

  left-more : (n a : ℕ) → n ≤ to → a < length (held_in (block_of m n)) → left n a ≡ get_or (held_in (block_of m n)) a 0 ∷ left n (a + 1)
  left-more n a l h =
      left_here n a l ∙ ap (λ (x : List ℕ). x ++ left (n + 1) 0) (drop-cons (held_in (block_of m n)) a 0 h)
      ∙ ap (λ (x : List ℕ). get_or (held_in (block_of m n)) a 0 ∷ x) (sym (ap (left n) (add-one a) ∙ left_here n (suc a) l))

-- ---- the scan
module _ (m : List ℕ) (f : FitCrate m) (to limit : ℕ) (top : to ≤ 23) where
  -- from n, a with ws stored: the words are ws and what is left, up to the limit, and nothing changes
  abbrev Read : List ℕ → ℕ → ℕ → List ℕ → ℕ → Ended → Type 0
  Read m' n a ws c e = m' ≡ m → 1 ≤ n → length ws ≤ limit → (e.words ≡ take limit (ws ++ left m to n a)) × (e.memory ≡ m)

  module _ {m' : List ℕ} {n : ℕ} (a : ℕ) (same : m' ≡ m) (lo : 1 ≤ n) (onto : n ≤ to) where
    here : ReadAt m' n a
    here = rw same (read_at m n a f lo (omega arith))

    after : after_command m' n a 0 0 ≡ m
    after = here.still ∙ same

    none_left : ((reply_of m' n a 0 0).q ≡ 1 → ⊥) → left m to n a ≡ left m to (n + 1) 0
    none_left q = left-miss m to n a onto (rw same at (here.none-there q))

    one_left : (reply_of m' n a 0 0).q ≡ 1 → left m to n a ≡ (reply_of m' n a 0 0).r ∷ left m to n (a + 1)
    one_left q =
        let w = here.word-there q in
        rw (w.1, same) (left-more m to n a onto (rw same at w.0))

    -- A15 is the last
    last-left : a ≡ 15 → left m to n (a + 1) ≡ left m to (n + 1) 0
    last-left h = left-miss m to n (a + 1) onto (omega (arith, h, held-few (block_of m n) (f.station n lo (omega arith))))

  -- a word more, of those that were left
  stored : (r : Reply) (ws rest : List ℕ) {xs : List ℕ} → xs ≡ r.r ∷ rest → take limit (store r ws ++ rest) ≡ take limit (ws ++ xs)
  stored r ws rest e = ap (take limit) (append_assoc ws (r.r ∷ []) rest ∙ ap (λ (x : List ℕ). ws ++ x) (sym e))

  longer : (r : Reply) (ws : List ℕ) → length ws < limit → length (store r ws) ≤ limit
  longer r ws l = omega (arith, length-append ws (r.r ∷ []))

  read : Steps (reads 0) to limit Read
  read = record {
    full = λ {m = m'} {n} {a} {ws} h p e lo b. (sym (take_at ws (left m to n a) limit (omega arith)), e);
    past = λ {m = m'} {n} {a} {ws} h p o e lo b. (rw (left-past m to n a o, append-nil ws) (sym (take_all limit ws (omega arith))), e);
    miss = λ {a = a} h p o q i e lo b. rw (none_left a e lo o q) (i (after a e lo o) (omega arith) b);
    more = λ {m = m'} {n} {a} {ws} h p o q i e lo b.
        let t = i (after a e lo o) lo (longer (reply_of m' n a 0 0) ws p) in
        (t.0 ∙ stored (reply_of m' n a 0 0) ws (left m to n (a + 1)) (one_left a e lo o q), t.1);
    last = λ {m = m'} {n} {a} {ws} h p o q i e lo b.
        let t = i (after a e lo o) (omega arith) (longer (reply_of m' n a 0 0) ws p) in
        let l = one_left a e lo o q ∙ ap (λ (x : List ℕ). (reply_of m' n a 0 0).r ∷ x) (last-left a e lo o h) in
        (t.0 ∙ stored (reply_of m' n a 0 0) ws (left m to (n + 1) 0) l, t.1);
  }

  -- F0 from A on stores the first `limit` of the words that the stations hold, in their order, and leaves the crate as it was
  pub scan-held : (n a : ℕ) → 1 ≤ n → a ≤ 15 → ((scan_of m n a 0 to limit).words ≡ take limit (held_from m (to + 1 - n) n a)) × ((scan_of m n a 0 to limit).memory ≡ m)
  scan-held n a lo low = scan-induction read m n a [] 0 low refl lo (omega arith)
