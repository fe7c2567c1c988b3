-- Registers inside a window: a listing that answers a count was done, from a fit crate and with fields within their bounds (`FinishedLaws`), so what it stored is
-- the definition's list, which has the registers inside (`within-listing`), and these are those that F0 finds (`inside_found`).
-- Assumes nothing.
use Prim.Native.Nat.{ℕ, ◌+◌, ◌-◌, ◌*◌, ◌/◌, ◌%◌, ◌≤◌}
use mathlib.Core.Path.{◌≡◌, refl, sym, ap, ◌∙◌}
use mathlib.Core.Bool.{true, ◌&&◌}
use mathlib.Core.List.{List}
use native.Mathlib.Omega.{arith}
use borrow.Author.Tests.{le-leb}
use lib.ListN.{length, get_or, take, drop}
use lib.Seq.{take-append_seam, drop-append_seam}
use Rattle.kinds.specs.Cases.{is_one_of}
use Rattle.kinds.proofs.TestLaws.{both-fst, both-snd}
use Rattle.dataway.proofs.CoveredLaws.{covered-empty}
use Rattle.station.specs.declared.Reply.{Reply}
use Rattle.windows.specs.Within.{is_inside, within_of, listed_in}
use Rattle.windows.specs.Found.{Found}
use Rattle.windows.proofs.WithinLaws.{within-listing}
use Rattle.windows.proofs.FoundLaws.{inside_found}
use Rattle.windows.proofs.Locality.{within-alike}
use Rattle.step.specs.Verdict.{within, within_verdict, step_verdict}
use Rattle.step.proofs.Fine.{within-bounds, within-fields}
use Rattle.step.specs.declared.Step.TheVariants.{Within}
use Rattle.controller.specs.declared.Answer.{Answer}
use Rattle.controller.specs.declared.Answer.TheVariants.{Listed}
use Rattle.controller.specs.Answers.{answer_words}
use Rattle.controller.specs.Steps.{Performed, judged_of, done_of, gives}
use Rattle.controller.specs.Listings.{listing, ListingFinds, ListingDone, ListingReads, CoveredUnlisted}
use Rattle.controller.proofs.StepLaws.{step-done}
use Rattle.controller.proofs.Sentences.{is_refused}
use Rattle.controller.proofs.FinishedLaws.{Did, step-did, did-answer}
use Rattle.std.specs.Prelude.{Ok, Err}
use Rattle.step.specs.Results.{Verdict}

module _ (m : List ℕ) (n to lo hi : ℕ) (b : List ℕ) (count : ℕ) (h : (gives m (listing n to lo hi b)).answer ≡ Listed count) where
  did : Did m (Within n to lo hi) b
  did = step-did m (Within n to lo hi) b (ap is_refused h)

  counted : length (within_of m n to lo hi) ≡ count
  counted = ap (λ (a : Answer). get_or (answer_words a) 1 0) (did-answer m (Within n to lo hi) b did h)

  buffer-left : (gives m (listing n to lo hi b)).buffer ≡ listed_in (within_of m n to lo hi) b
  buffer-left = ap (λ (p : Performed). p.out.buffer) did.did

  -- the words that stand first are the list, the others those of the buffer lent
  first : take count (gives m (listing n to lo hi b)).buffer ≡ within_of m n to lo hi
  first =
      ap (λ (k : ℕ). take k (gives m (listing n to lo hi b)).buffer) (sym counted)
      ∙ ap (take (length (within_of m n to lo hi))) buffer-left
      ∙ take-append_seam (within_of m n to lo hi) (drop (length (within_of m n to lo hi)) b)

  others : drop count (gives m (listing n to lo hi b)).buffer ≡ drop count b
  others =
      ap (λ (k : ℕ). drop k (gives m (listing n to lo hi b)).buffer) (sym counted)
      ∙ ap (drop (length (within_of m n to lo hi))) buffer-left
      ∙ drop-append_seam (within_of m n to lo hi) (drop (length (within_of m n to lo hi)) b)
      ∙ ap (λ (k : ℕ). drop k b) counted

  -- a number is among them exactly where its station is one of N to `to` and it is inside
  among : (p : ℕ) → is_one_of p (take count (gives m (listing n to lo hi b)).buffer) ≡ within n (p / 16) to && is_inside m lo hi p
  among p = ap (is_one_of p) first ∙ (within-listing m n to lo hi).exact p

  found_among : (k a : ℕ) → n ≤ k → k ≤ to → a ≤ 15 → Found m lo hi k a → is_one_of (16 * k + a) (take count (gives m (listing n to lo hi b)).buffer) ≡ true
  found_among k a u v l f =
      let s : (16 * k + a) / 16 ≡ k = omega arith in
      among (16 * k + a) ∙ rw (s, le-leb n k u, le-leb k to v) (inside_found.each m lo hi k a l f)

  among-found : (p : ℕ) → is_one_of p (take count (gives m (listing n to lo hi b)).buffer) ≡ true
      → (n ≤ p / 16) × (p / 16 ≤ to) × Found m lo hi (p / 16) (p % 16)
  among-found p e =
      let both = sym (among p) ∙ e in
      let w = within-bounds n (p / 16) to (both-fst (within n (p / 16) to) (is_inside m lo hi p) both) in
      (w.0, w.1, inside_found.only m lo hi p (both-snd (within n (p / 16) to) (is_inside m lo hi p) both))

pub listing-finds : ListingFinds
listing-finds m n to lo hi b count h = (
  record {
    each = found_among m n to lo hi b count h;
    only = among-found m n to lo hi b count h;
    ascending = rw (first m n to lo hi b count h) (within-listing m n to lo hi).ascending;
    long = ap length (first m n to lo hi b count h) ∙ counted m n to lo hi b count h;
    rest = others m n to lo hi b count h;
  },
  ap (λ (p : Performed). p.memory) (did m n to lo hi b count h).did,
)

-- ---- where it is done
fine-within : (n to lo hi lent : ℕ) → 1 ≤ n → n ≤ to → to ≤ 23 → lo ≤ hi → hi ≤ 16777215 → 16 * (to - n + 1) ≤ lent → within_verdict n to lo hi lent ≡ Ok tt
unfolding within_verdict
fine-within n to lo hi lent a b c d e f =
    rw (
      le-leb 1 n a,
      le-leb n 23 (omega arith),
      le-leb n to b,
      le-leb to 23 c,
      le-leb lo 16777215 (omega arith),
      le-leb hi 16777215 e,
      le-leb lo hi d,
      le-leb (16 * (to + 1 - n)) lent (omega arith),
    )

pub listing-done : ListingDone
unfolding done_of
listing-done = record {
  done = λ m n to lo hi b fit (u, v, w, x, y, z).
      step-done m (listing n to lo hi b) fit
      ∙ ap (λ (t : Verdict). judged_of t m (Within n to lo hi) b) (fine-within n to lo hi (length b) u v w x y z);
  only = λ m n to lo hi b count h.
      let d = did m n to lo hi b count h in
      let q = within-fields n to lo hi (length b) d.fine in
      (d.fit, (q.0, q.2, q.3, q.4, q.5, omega (arith, q.2, q.6)));
}

-- ---- what it reads: refused or not, its fields and its buffer decide, and the list hangs on its stations' blocks (`within-alike`)
pub listing-reads : ListingReads
unfolding done_of
listing-reads m m' n to lo hi b fit fit' e =
    ap (λ (p : Performed). p.out) (step-done m (listing n to lo hi b) fit)
    ∙ judged (step_verdict (Within n to lo hi) b)
    ∙ sym (ap (λ (p : Performed). p.out) (step-done m' (listing n to lo hi b) fit'))
  where
    judged : (v : Verdict) → (judged_of v m (Within n to lo hi) b).out ≡ (judged_of v m' (Within n to lo hi) b).out
    judged (Ok _) = rw (within-alike m m' n to lo hi e)
    judged (Err q) = refl

-- ---- covered stations: no command is accepted there
pub covered-unlisted : CoveredUnlisted
covered-unlisted m n to lo hi b count p h c e =
    let d = did m n to lo hi b count h in
    let q = within-fields n to lo hi (length b) d.fine in
    let f = among-found m n to lo hi b count h p e in
    let empty = covered-empty m d.fit (p / 16) (omega (arith, q.0, f.0)) (omega (arith, q.3, f.1)) c in
    omega (arith, f.2.answers, ap (λ (r : Reply). r.q) (empty.reply (p % 16) 0 0))
