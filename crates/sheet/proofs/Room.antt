-- How many bytes the printed text takes, at most, and so where it ends.
use Prim.Native.Nat.{ℕ, ◌+◌, ◌*◌, ◌≤◌, ◌<◌}
use mathlib.Core.Path.{◌≡◌, sym, ap, subst, ◌∙◌}
use mathlib.Core.List.{List, [], ◌∷◌, ◌++◌, append-nil, append_assoc}
use native.Mathlib.Nat.{add-zero, min-le_right}
use native.Mathlib.Numerals.{add-one}
use native.Mathlib.Omega.{arith}
use lib.ListN.{length, take, get_or, length-append, length-take}
use lib.Seq.{length-take-le, take-suc, take-length}
use Rattle.text.specs.Text.{bytes, decimal}
use Rattle.text.specs.Paste.{Put}
use Rattle.text.proofs.Decimal.{length-ten, field-short}
use Rattle.text.proofs.Paste.{paste-nothing}
use Rattle.step.specs.Refusals.{refusal_number}
use Rattle.controller.specs.Steps.{Out}
use Rattle.controller.specs.declared.Answer.{Answer}
use Rattle.controller.specs.declared.Answer.TheVariants.{Replied, Taken, Done, Looked, Transferred, Wrote, Listed, Refused}
use Rattle.sheet.specs.Answers.{body, step_line, stored, word_line, word_lines, step_text}

-- room for a number of ten digits is room for any
pub field_room : (at k n len : ℕ) → at + k + 10 ≤ len → at + k + length (decimal n) ≤ len
field_room at k n len h = omega (arith, length-ten n)

-- three keys, each with a number
pub three-short : (a b c : List ℕ) (x y z : ℕ)
    → length ((a ++ decimal x) ++ (b ++ decimal y) ++ (c ++ decimal z)) ≤ length a + length b + length c + 30
three-short a b c x y z = simp length-append (omega (arith, length-ten x, length-ten y, length-ten z))

pub body-short : (a : Answer) → length (body a) ≤ 50
unfolding body
body-short (Replied p) = omega (arith, three-short (bytes " x=") (bytes " q=") (bytes " r=") p.x p.q p.r)
body-short (Taken v) = omega (arith, field-short (bytes " taken=") v)
body-short Done = omega arith
body-short (Looked p) = omega (arith, three-short (bytes " l=") (bytes " count=") (bytes " first=") p.l p.count p.first)
body-short (Transferred p) = three-short (bytes " end=") (bytes " words=") (bytes " cycles=") p.end p.words p.cycles
body-short (Wrote p) = three-short (bytes " end=") (bytes " words=") (bytes " cycles=") p.end p.words p.cycles
body-short (Listed count) = omega (arith, field-short (bytes " words=") count)
body-short (Refused q) = omega (arith, field-short (bytes " refused=") (refusal_number q))

pub line-short : (k : ℕ) (a : Answer) → length (step_line k a) ≤ 66
unfolding step_line
line-short k a = simp length-append (omega (arith, length-ten k, body-short a))

pub word-short : (w : ℕ) → length (word_line w) ≤ 16
unfolding word_line
word-short w = simp length-append (omega (arith, length-ten w))

pub words-short : (ws : List ℕ) → length (word_lines ws) ≤ 16 * length ws
words-short [] = omega arith
words-short (w ∷ ws) = rw (length-append (word_line w) (word_lines ws)) (omega (arith, word-short w, words-short ws))

-- no text at all
pub put-nothing : (o : List ℕ) (at : ℕ) → Put o at [] o at
put-nothing o at = record { buffer = sym (paste-nothing o at); place = sym (add-zero at) }

-- text of at most n bytes ends at most n places on
pub put-end : {o p t : List ℕ} {at next : ℕ} (n : ℕ) → Put o at t p next → length t ≤ n → next ≤ at + n
put-end n f h = omega (arith, f.place, h)

-- the word lines of the first i words
pub words-end : {o p : List ℕ} {at next : ℕ} (ws : List ℕ) (i : ℕ) → i ≤ length ws → Put o at (word_lines (take i ws)) p next → next ≤ at + 16 * i
words-end ws i h f = put-end (16 * i) f (omega (arith, words-short (take i ws), length-take-le i ws h))

-- one more word
one_more : (ws : List ℕ) (w : ℕ) → word_lines (ws ++ (w ∷ [])) ≡ word_lines ws ++ word_line w
one_more [] w = append-nil (word_line w)
one_more (v ∷ ws) w =
    ap (λ (l : List ℕ). word_line v ++ l) (one_more ws w) ∙ sym (append_assoc (word_line v) (word_lines ws) (word_line w))

pub next_word : (ws : List ℕ) (i : ℕ) → i < length ws → word_lines (take i ws) ++ word_line (get_or ws i 0) ≡ word_lines (take (i + 1) ws)
next_word ws i h = sym (rw (add-one i, take-suc ws i 0 h, one_more))

-- the same text, said otherwise
pub of-text : {o p t u : List ℕ} {at next : ℕ} → t ≡ u → Put o at t p next → Put o at u p next
of-text {o} {p} {t} {u} {at} {next} e f = subst (λ (v : List ℕ). Put o at v p next) e f

-- all the words
pub all_words : {o p : List ℕ} {at next : ℕ} (ws : List ℕ) (i : ℕ) → i ≡ length ws → Put o at (word_lines (take i ws)) p next → Put o at (word_lines ws) p next
all_words ws i e f = of-text (ap word_lines (ap (λ (n : ℕ). take n ws) e ∙ take-length ws)) f

-- what an arm put is the body of the answer that it matched
pub of-answer : {o p : List ℕ} {at next : ℕ} {a b : Answer} → a ≡ b → Put o at (body b) p next → Put o at (body a) p next
of-answer e f = of-text (ap body (sym e)) f

-- a step's text takes at most 8258 bytes, if its buffer has at most 512 words
pub stored-few : (a : Answer) (b : List ℕ) → length b ≤ 512 → length (stored a b) ≤ 512
stored-few (Replied p) b h = omega arith
stored-few (Taken v) b h = omega arith
stored-few Done b h = omega arith
stored-few (Looked p) b h = omega arith
stored-few (Transferred p) b h = simp length-take (omega (arith, min-le_right p.words (length b)))
stored-few (Wrote p) b h = omega arith
stored-few (Listed count) b h = simp length-take (omega (arith, min-le_right count (length b)))
stored-few (Refused q) b h = omega arith

pub step-short : (k : ℕ) (o : Out) → length o.buffer ≤ 512 → length (step_text k o) ≤ 8258
unfolding step_text
step-short k o h =
    let n = stored-few o.answer o.buffer h in
    let w = words-short (stored o.answer o.buffer) in
    rw (length-append (step_line k o.answer) (word_lines (stored o.answer o.buffer))) (omega (arith, line-short k o.answer, w, n))
