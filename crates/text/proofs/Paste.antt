-- Laws of `pasted`, `Put` and `Behind`: a store is the paste of one byte, two pastes in a row are one, where a field ends, and a key that is put last.
use Prim.Native.Nat.{ℕ, suc, ◌+◌, ◌-◌, ◌/◌, ◌^◌, ◌≤◌, ◌<◌}
use mathlib.Core.Path.{◌≡◌, refl, sym, ◌∙◌, ap}
use mathlib.Core.List.{List, [], ◌∷◌, ◌++◌, append-nil, append_assoc}
use native.Mathlib.Nat.{add-zero}
use native.Mathlib.Numerals.{add-one}
use native.Mathlib.Omega.{arith}
use borrow.Rule.Slice.PartMut.{put_mid}
use lib.ListN.{length, take, drop, set, get_or, length-append, length-drop, take-append-drop}
use lib.Seq.{append_snoc, length-take-le, set_split, take-add, take-suc, take_at, take-append-le, take-length, drop_at, drop-drop, take-set-le}
use Rattle.text.specs.Digits.{digits}
use Rattle.text.specs.Paste.{pasted, Put, Behind}
use Rattle.text.specs.Text.{decimal}
use Rattle.text.proofs.Decimal.{decimal-one, field-short, length_digits, decimal-last}

pub paste-nothing : (o : List ℕ) (at : ℕ) → pasted o at [] ≡ o
unfolding pasted
paste-nothing o at = rw (add-zero at, append-nil (take at o), take-append-drop at o)

pub length-pasted : (o : List ℕ) (at : ℕ) (text : List ℕ) → at + length text ≤ length o → length (pasted o at text) ≡ length o
unfolding pasted
length-pasted o at text h = simp (length-append, length-take-le at o (omega arith), length-drop) (omega arith)

-- a store is the paste of one byte
pub paste-one : (o : List ℕ) (i x : ℕ) → i < length o → pasted o i (x ∷ []) ≡ set o i x
unfolding pasted
paste-one o i x h = rw (add-one i, append_snoc (take i o) x (drop (suc i) o)) (sym (set_split o i x h))

-- bytes copied into a part of a buffer are pasted there
pub paste-part : (o : List ℕ) (at k : ℕ) (u t : List ℕ) → u ≡ t → k ≡ length t → put_mid at k o u ≡ pasted o at t
unfolding pasted
paste-part o at k u t e n = rw (e, n, drop-drop (length t) at o) (sym (append_assoc (take at o) t (drop (at + length t) o)))

-- and the store of a digit the putting of a number below 10
pub put-digit : (o : List ℕ) (i n : ℕ) → n < 10 → i < length o → Put o i (decimal n) (set o i (48 + n)) (i + 1)
put-digit o i n small h = rw (decimal-one n small) (record { buffer = sym (paste-one o i (48 + n) h); place = refl })

-- a buffer up to the end of text that was pasted, and from there on
module _ (o : List ℕ) (at : ℕ) (a : List ℕ) (h : at ≤ length o) where
  front : length (take at o ++ a) ≡ at + length a
  front = length-append (take at o) a ∙ ap (λ (k : ℕ). k + length a) (length-take-le at o h)

  pub take-pasted : take (at + length a) (pasted o at a) ≡ take at o ++ a
  unfolding pasted
  take-pasted = take_at (take at o ++ a) (drop (at + length a) o) (at + length a) front

  pub drop-pasted : (n : ℕ) → drop (at + length a + n) (pasted o at a) ≡ drop (at + length a + n) o
  unfolding pasted
  drop-pasted n =
      let behind = drop_at (take at o ++ a) (drop (at + length a) o) (at + length a) front in
      sym (drop-drop n (at + length a) (pasted o at a)) ∙ ap (drop n) behind ∙ drop-drop n (at + length a) o

-- text that is pasted right after other text: the two joined
pub paste-then : (o : List ℕ) (at : ℕ) (a b : List ℕ) → at ≤ length o → pasted (pasted o at a) (at + length a) b ≡ pasted o at (a ++ b)
unfolding pasted
paste-then o at a b h =
    let r : at + length a + length b ≡ at + length (a ++ b) = simp length-append (omega arith) in
    rw (take-pasted o at a h, drop-pasted o at a h (length b), r, append_assoc (take at o) a b)

-- one byte more, stored right after text that was pasted
pub paste_more : (o : List ℕ) (at : ℕ) (a : List ℕ) (x : ℕ) → at + length a < length o
    → set (pasted o at a) (at + length a) x ≡ pasted o at (a ++ (x ∷ []))
paste_more o at a x h =
    let n : length (pasted o at a) ≡ length o = length-pasted o at a (omega arith) in
    sym (paste-one (pasted o at a) (at + length a) x (omega arith)) ∙ paste-then o at a (x ∷ []) (omega arith)

-- the same of the byte that follows the first i of a text
pub paste_next : (o p bytes : List ℕ) (at i : ℕ) → p ≡ pasted o at (take i bytes) → i < length bytes → at + length bytes ≤ length o
    → set p (at + i) (get_or bytes i 0) ≡ pasted o at (take (i + 1) bytes)
paste_next o p bytes at i e h room =
    let n : length (take i bytes) ≡ i = length-take-le i bytes (omega arith) in
    rw (e, add-one i, take-suc bytes i 0 h) (rw n at (paste_more o at (take i bytes) (get_or bytes i 0) (omega arith)))

-- a text pasted byte by byte
pub ruleset bytewise = (paste-nothing, paste_next)

-- after a store, what stands from its place on
from-store : (o : List ℕ) (i x : ℕ) → i < length o → drop i (set o i x) ≡ x ∷ drop (suc i) o
from-store o i x h = ap (drop i) (set_split o i x h) ∙ drop_at (take i o) (x ∷ drop (suc i) o) i (length-take-le i o (omega arith))

-- text that is pasted before a byte that was stored: the two joined
pub paste-before : (o : List ℕ) (at : ℕ) (a : List ℕ) (x : ℕ) → at + length a < length o
    → pasted (set o (at + length a) x) at a ≡ pasted o at (a ++ (x ∷ []))
unfolding pasted
paste-before o at a x h =
    let ahead = take-set-le at o (at + length a) x (omega arith) in
    let behind = from-store o (at + length a) x h in
    let r : at + length (a ++ (x ∷ [])) ≡ suc (at + length a) = simp length-append (omega arith) in
    rw (ahead, behind, r, ← append_assoc (take at o) a (x ∷ []), append_snoc (take at o ++ a) x (drop (suc (at + length a)) o))

-- two texts that were put one after the other were put as one
pub put_then : {o p q a b : List ℕ} {i j k : ℕ} → Put o i a p j → Put p j b q k → i ≤ length o → Put o i (a ++ b) q k
put_then {o} {p} {q} {a} {b} {i} {j} {k} f g h =
    record {
      buffer = g.buffer ∙ rw (f.buffer, f.place) (paste-then o i a b h);
      place = g.place ∙ rw (f.place, length-append a b) (omega arith);
    }

-- a key and a number end at most ten places past the key
pub after-field : {o p : List ℕ} {at next : ℕ} (key : List ℕ) (n : ℕ) → Put o at (key ++ decimal n) p next → next ≤ at + length key + 10
after-field key n f = omega (arith, f.place, field-short key n)

-- text that was put at the start of a buffer is its first bytes
pub put_first : {o t p : List ℕ} {next : ℕ} → Put o 0 t p next → take next p ≡ t
unfolding pasted
put_first {o} {t} {p} {next} f =
    let e : next ≡ length t = omega (arith, f.place) in
    ap (λ (n : ℕ). take n p) e ∙ ap (take (length t)) f.buffer ∙ take-append-le (length t) t (drop (0 + length t) o) (omega arith) ∙ take-length t

-- and lies within it
pub put-within : {o t p : List ℕ} {next : ℕ} → Put o 0 t p next → next ≤ length p
unfolding pasted
put-within {o} {t} f = omega (arith, ap length f.buffer ∙ length-append t (drop (0 + length t) o), f.place)

-- ---- text behind a gap
-- a paste further on is one that starts with the bytes that were there
paste-later : (o : List ℕ) (at m : ℕ) (t : List ℕ) → at + m ≤ length o → pasted o (at + m) t ≡ pasted o at (take m (drop at o) ++ t)
unfolding pasted
paste-later o at m t h =
    let w : length (take m (drop at o)) ≡ m = length-take-le m (drop at o) (rw length-drop (omega arith)) in
    let r : at + m + length t ≡ at + length (take m (drop at o) ++ t) = rw (length-append, w) (omega arith) in
    rw (take-add, r) (simp append_assoc)

-- text that follows other text where the gap ends
put-behind : {o p t : List ℕ} {at gap next : ℕ} (m : ℕ) (lead : List ℕ) → p ≡ pasted o (at + m) (lead ++ t) → next ≡ at + gap + length t
    → m + length lead ≡ gap → at + m ≤ length o → Behind o at gap t p next
put-behind {o} {p} {t} {at} {gap} {next} m lead e n w h =
    let free = take m (drop at o) ++ lead in
    let r : length (take m (drop at o)) ≡ m = length-take-le m (drop at o) (rw length-drop (omega arith)) in
    let wide : length free ≡ gap = rw (length-append, r) w in
    let joined = append_assoc (take m (drop at o)) lead t in
    record {
      free = free;
      width = wide;
      put = record { buffer = e ∙ paste-later o at m (lead ++ t) h ∙ ap (pasted o at) (sym joined); place = n ∙ rw (length-append, wide) (omega arith) };
    }

-- w digits that end where the number does: those before its own lie in the gap
pub digits-behind : {o p : List ℕ} {at gap n next : ℕ} (w start : ℕ) → p ≡ pasted o start (digits w n) → n < 2 ^ 32 → length (decimal n) ≤ w → at ≤ start
    → start + w ≡ at + gap + length (decimal n) → next ≡ start + w → next ≤ length o → Behind o at gap (decimal n) p next
digits-behind {o} {p} {at} {gap} {n} {next} w start e few short from end place room =
    let k = length (decimal n) in
    let long : length (digits (w - k) (n / 10 ^ k)) ≡ w - k = length_digits (w - k) (n / 10 ^ k) in
    let there : start ≡ at + (start - at) = omega arith in
    let text = e ∙ ap (λ (i : ℕ). pasted o i (digits w n)) there ∙ ap (pasted o (at + (start - at))) (decimal-last w n few short) in
    put-behind (start - at) (digits (w - k) (n / 10 ^ k)) text (omega arith) (omega arith) (omega arith)

-- other text over the gap
over : (o : List ℕ) (at : ℕ) (free key t : List ℕ) → length key ≡ length free → at ≤ length o
    → pasted (pasted o at (free ++ t)) at key ≡ pasted o at (key ++ t)
unfolding pasted
over o at free key t e h =
    let rest = drop (at + length (free ++ t)) o in
    let ahead = take_at (take at o) (free ++ (t ++ rest)) at (length-take-le at o h) in
    let behind = drop_at (take at o ++ free) (t ++ rest) (at + length key) (front o at free h ∙ ap (λ (n : ℕ). at + n) (sym e)) in
    let r : length (free ++ t) ≡ length (key ++ t) = simp (length-append, e) in
    simp append_assoc (rw (ahead, simp append_assoc at behind, r))

-- a key put over the gap
pub behind-key : {o p q t key : List ℕ} {at gap next j : ℕ} → Behind o at gap t p next → Put p at key q j → length key ≡ gap → at ≤ length o
    → Put o at (key ++ t) q next
behind-key {o} {p} {q} {t} {key} {at} {gap} {next} {j} f g e h =
    record {
      buffer = g.buffer ∙ rw f.put.buffer (over o at f.free key t (e ∙ sym f.width) h);
      place = f.put.place ∙ simp (length-append, e, f.width);
    }
