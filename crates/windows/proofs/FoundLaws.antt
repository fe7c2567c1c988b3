-- What F0 reads at a scaler, an input register and an up-down counter: register A below r, and nothing at r and above. So the registers inside a window are
-- those where it reads a word of the window.
-- Assumes nothing.
use Prim.Native.Nat.{ℕ, ◌+◌, ◌*◌, ◌/◌, ◌%◌, ◌≤◌}
use mathlib.Core.Path.{◌≡◌, refl, sym, ap, ◌∙◌}
use mathlib.Core.Bool.{true, false, ◌&&◌}
use mathlib.Core.List.{List}
use mathlib.Core.Logic.{inl, inr, ⊎_elim}
use native.Mathlib.Omega.{arith}
use borrow.Author.Tests.{le-leb}
use lib.Dec.{ltb, eqb}
use Rattle.blocks.specs.Blocks.{block_of}
use Rattle.blocks.proofs.Blocks.{word-block}
use Rattle.kinds.specs.Cases.{is_one_of}
use Rattle.kinds.proofs.TestLaws.{both-fst, both-snd, decided, one_of_three}
use Rattle.station.specs.Block.{kind_of, count_of, register_of}
use Rattle.station.specs.Outcome.{Outcome, accept, gives}
use Rattle.station.specs.Group1.{read_of, register_kinds}
use Rattle.station.specs.Command.{command_of, functions_of}
use Rattle.station.specs.declared.Reply.{Reply}
use Rattle.dataway.specs.Stations.{reply_of}
use Rattle.step.specs.Verdict.{within}
use Rattle.step.proofs.Fine.{within-bounds}
use Rattle.windows.specs.Within.{holder, listed_kinds, is_there, value_of, is_inside}
use Rattle.windows.specs.Found.{ListedKind, Found, InsideFound}

-- the three kinds
is-listed : (kind : ℕ) → ListedKind kind → is_one_of kind listed_kinds ≡ true
is-listed kind (inl e) = rw e
is-listed kind (inr (inl e)) = rw e
is-listed kind (inr (inr e)) = rw e

-- ---- F0 at such a module
module _ (b : List ℕ) (a : ℕ) where
  read-kind : (kind : ℕ) → kind_of b ≡ kind → eqb kind 4 ≡ false → is_one_of kind register_kinds ≡ true
      → command_of b a 0 0 ≡ accept (ltb a (count_of b)) b (gives b (register_of b a))
  unfolding command_of functions_of read_of
  read-kind kind e n o = rw (e, n, o)

  read-listed : ListedKind (kind_of b) → command_of b a 0 0 ≡ accept (ltb a (count_of b)) b (gives b (register_of b a))
  read-listed (inl e) = read-kind 1 e refl refl
  read-listed (inr (inl e)) = read-kind 3 e refl refl
  read-listed (inr (inr e)) = read-kind 5 e refl refl

module _ (m : List ℕ) (n a : ℕ) (k : ListedKind (kind_of (block_of m n))) where
  reads-below : ltb a (count_of (block_of m n)) ≡ true → reply_of m n a 0 0 ≡ record { x = 1; q = 1; r = register_of (block_of m n) a }
  unfolding reply_of
  reads-below l = ap (λ (o : Outcome). o.reply) (read-listed (block_of m n) a k) ∙ rw l

  reads-above : ltb a (count_of (block_of m n)) ≡ false → reply_of m n a 0 0 ≡ record { x = 0; q = 0; r = 0 }
  unfolding reply_of
  reads-above l = ap (λ (o : Outcome). o.reply) (read-listed (block_of m n) a k) ∙ rw l

-- ---- found and inside
module _ (m : List ℕ) (lo hi n a : ℕ) (l : a ≤ 15) (f : Found m lo hi n a) where
  kind-found : ListedKind (kind_of (block_of m n))
  kind-found = rw (word-block m n 0 (omega arith)) f.kind

  number-inside : ltb a (count_of (block_of m n)) ≡ true → is_inside m lo hi (16 * n + a) ≡ true
  unfolding is_inside is_there value_of
  number-inside h =
      let s : (16 * n + a) / 16 ≡ n = omega arith in
      let t : (16 * n + a) % 16 ≡ a = omega arith in
      let v = ap (λ (r : Reply). r.r) (reads-below m n a kind-found h) in
      rw (
        s,
        t,
        is-listed (kind_of (block_of m n)) kind-found,
        h,
        le-leb lo (register_of (block_of m n) a) (omega (arith, f.low, v)),
        le-leb (register_of (block_of m n) a) hi (omega (arith, f.high, v)),
      )

  found_inside : is_inside m lo hi (16 * n + a) ≡ true
  found_inside =
      ⊎_elim number-inside
      (λ (h : ltb a (count_of (block_of m n)) ≡ false). absurd (omega (arith, f.answers, ap (λ (r : Reply). r.q) (reads-above m n a kind-found h))))
      (decided (ltb a (count_of (block_of m n))))

inside-only : (m : List ℕ) (lo hi p : ℕ) → is_inside m lo hi p ≡ true → Found m lo hi (p / 16) (p % 16)
unfolding is_inside is_there value_of
inside-only m lo hi p h =
    let b = holder m p in
    let listed = is_one_of (kind_of b) listed_kinds in
    let below = ltb (p % 16) (count_of b) in
    let held = within lo (register_of b (p % 16)) hi in
    let there = both-fst (listed && below) held h in
    let bounds = within-bounds lo (register_of b (p % 16)) hi (both-snd (listed && below) held h) in
    let kind = one_of_three (kind_of b) 1 3 5 (both-fst listed below there) in
    let reply = reads-below m (p / 16) (p % 16) kind (both-snd listed below there) in
    record {
      kind = rw (sym (word-block m (p / 16) 0 (omega arith))) kind;
      answers = ap (λ (r : Reply). r.q) reply;
      low = omega (arith, bounds.0, ap (λ (r : Reply). r.r) reply);
      high = omega (arith, bounds.1, ap (λ (r : Reply). r.r) reply);
    }

pub inside_found : InsideFound
inside_found = record { each = found_inside; only = inside-only }
