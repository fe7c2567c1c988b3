-- What a transfer under way has done to the two lent slices: the memory is fit and has its length, the words stored are the first of the buffer,
-- and the buffer past them is as it was. Shared by the three transfers, over plain values.
-- Assumes nothing.
use mathlib.Core.Path.{◌≡◌, refl, sym, ap, ◌∙◌}
use mathlib.Core.List.{List, [], ◌∷◌, ◌++◌}
use Prim.Native.Nat.{ℕ, ◌+◌, ◌≤◌, ◌<◌}
use native.Mathlib.Omega.{arith}
use native.Mathlib.Numerals.{add-one}
use lib.ListN.{length, drop, take, set, length-set, take-append-drop}
use lib.Seq.{take-suc-set, length-take-le, drop-set-lt}
use Rattle.acceptance.specs.declared.Span.{Span}
use Rattle.station.specs.declared.Reply.{Reply}
use Rattle.dataway.specs.Crate.{FitCrate}
use Rattle.dataway.specs.Stations.{reply_of, after_command, AcceptsAt}
use Rattle.dataway.proofs.StationLaws.{command-fit, command-accepts}
use Rattle.transfer.specs.declared.Transfer.{Transfer}
use Rattle.transfer.specs.Cycle.{Ended, ended, transfer_of, buffer_after, store}

-- The slices were m₀ and buf₀ and are m and buf, with so many words stored. Said of every place past them, so that it passes on from turn to turn.
pub record Lent (m₀ buf₀ m buf : List ℕ) (words : ℕ) : Type 0 where
  pub fit : FitCrate m
  pub size : length m ≡ length m₀
  pub long : length buf ≡ length buf₀
  pub past : (k : ℕ) → words ≤ k → drop k buf ≡ drop k buf₀

-- a station of the crate, and a subaddress of it
pub record Place (n a : ℕ) : Type 0 where
  pub from : 1 ≤ n
  pub station : n ≤ 23
  pub low : a ≤ 15

-- a command at n, a was made on m: its reply, and the memory after it
abbrev pub Made : (m : List ℕ) (n a f : ℕ) (reply : Reply) (m' : List ℕ) → Type 0
Made m n a f reply m' = record { answer : reply ≡ reply_of m n a f 0; memory : m' ≡ after_command m n a f 0 }

module _ {m₀ buf₀ m buf m' : List ℕ} {words n a : ℕ} {reply : Reply} (f : ℕ) (h : Lent m₀ buf₀ m buf words) (p : Place n a)
    (d : Made m n a f reply m') where
  after-fit : FitCrate m'
  after-fit = rw d.memory (command-fit m n h.fit p.from p.station a f 0 p.low (omega arith))

  -- and its station accepts F where it did
  pub still-accepts : (t : Span) → AcceptsAt m n f t → AcceptsAt m' n f t
  still-accepts t s = rw d.memory (command-accepts m n h.fit p.from p.station a f 0 p.low (omega arith) f t s)

  -- the command's word is not stored
  pub lent-kept : Lent m₀ buf₀ m' buf words
  lent-kept = record {
    fit = after-fit;
    size = after-fit.size ∙ sym h.fit.size ∙ h.size;
    long = h.long;
    past = h.past;
  }

  -- it is stored
  pub lent-put : Lent m₀ buf₀ m' (set buf words reply.r) (words + 1)
  lent-put = record {
    fit = lent-kept.fit;
    size = lent-kept.size;
    long = length-set buf words reply.r ∙ h.long;
    past = λ k p. drop-set-lt k buf words reply.r (omega arith) ∙ h.past k (omega arith);
  }

  -- and stands after those stored before
  pub put-words : words < length buf₀ → take (words + 1) (set buf words reply.r) ≡ store (reply_of m n a f 0) (take words buf)
  put-words l =
      rw add-one
      (take-suc-set buf words reply.r (omega (arith, h.long))
      ∙ ap (λ (x : Reply). take words buf ++ (x.r ∷ [])) d.answer)

-- there are as many words as are counted
pub lent-words : {m₀ buf₀ m buf : List ℕ} {words : ℕ} → Lent m₀ buf₀ m buf words → words ≤ length buf₀ → length (take words buf) ≡ words
lent-words {buf = buf} {words = words} h l = length-take-le words buf (omega (arith, h.long))

-- the three promises of a transfer's contract, about what it comes to
abbrev pub Done : Ended → List ℕ → Transfer → List ℕ → List ℕ → Type 0
Done e buf₀ answer m buf = record { answer : answer ≡ transfer_of e; memory : m ≡ e.memory; buffer : buf ≡ buffer_after e buf₀ }

-- where the transfer ends as its definition does, they are kept
pub finish : {e : Ended} {k : ℕ} {m₀ buf₀ m buf : List ℕ} {words cycles : ℕ} → Lent m₀ buf₀ m buf words → words ≤ length buf₀
    → e ≡ ended k m (take words buf) cycles → Done e buf₀ (record { end = k; words = words; cycles = cycles }) m buf
finish {buf = buf} {words = words} h l p =
    rw (p, lent-words h l)
    (record {
      answer = refl;
      memory = refl;
      buffer = sym (take-append-drop words buf) ∙ ap (λ (x : List ℕ). take words buf ++ x) (h.past words (omega arith));
    })

-- ---- a transfer that stays at its place

-- a transfer under way at n, a, whose station accepts F in the span t; the buffer has room for `limit` words
pub record Staying (n a f limit : ℕ) (t : Span) (m₀ buf₀ m buf : List ℕ) (words : ℕ) : Type 0 where
  pub place : Place n a
  pub room : limit ≤ length buf₀
  pub lent : Lent m₀ buf₀ m buf words
  pub accepts : AcceptsAt m n f t

module _ {m₀ buf₀ m buf m' : List ℕ} {words n a f limit : ℕ} {t : Span} {reply : Reply} (g : Staying n a f limit t m₀ buf₀ m buf words)
    (d : Made m n a f reply m') where
  -- the word of a cycle is not stored
  pub stay-kept : Staying n a f limit t m₀ buf₀ m' buf words
  stay-kept = record { place = g.place; room = g.room; lent = lent-kept f g.lent g.place d; accepts = still-accepts f g.lent g.place d t g.accepts }

  -- it is stored
  pub stay-put : Staying n a f limit t m₀ buf₀ m' (set buf words reply.r) (words + 1)
  stay-put = record { place = g.place; room = g.room; lent = lent-put f g.lent g.place d; accepts = still-accepts f g.lent g.place d t g.accepts }

  pub stay-words : words < limit → take (words + 1) (set buf words reply.r) ≡ store (reply_of m n a f 0) (take words buf)
  stay-words l = put-words f g.lent g.place d (omega (arith, g.room))
