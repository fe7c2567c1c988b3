-- What each call at the crate changes and reads: a command and a front event keep to their station (and Inhibit); Z, C, I, the Look-at-Me reading and a command
-- to N above 23 keep to all 23. No look at a kind or a function is needed.
-- Assumes nothing.
use Prim.Native.Nat.{ℕ, ◌≤◌, ◌<◌, ◌^◌}
use mathlib.Core.Path.{◌≡◌, refl, ap}
use mathlib.Core.List.{List}
use mathlib.Core.Bool.{Bool, true, false, cond}
use borrow.Author.Tests.{leb-true, eq-eqb}
use lib.Dec.{leb, eqb}
use lib.ListN.{length}
use Rattle.regroup.specs.Local.{All, Local}
use Rattle.regroup.proofs.Local.{local-one, local-all}
use Rattle.station.specs.Command.{command_of}
use Rattle.station.specs.Front.{front_of}
use Rattle.station.specs.declared.Reply.{Reply}
use Rattle.dataway.specs.Crate.{FitCrate}
use Rattle.dataway.specs.Stations.{reply_of, after_command, taken_of, after_front}
use Rattle.dataway.specs.Controls.{after_z, after_c, after_i}
use Rattle.dataway.specs.Addressed.{Commanded, sent_of}
use Rattle.dataway.proofs.StationLaws.{command-block, command-fit, front-block, front-fit}
use Rattle.dataway.proofs.ControlLaws.{z-fit, c-fit, i-fit}
use Rattle.dataway.proofs.AddressLaws.{sent-fit, sent-one}

pub crate-size : (m : List ℕ) → FitCrate m → length m ≡ 768
crate-size m f = f.size

-- two ways to say one thing of fit crates
pub local_same : {Out : Type 0} (on : ℕ → Bool) (f f' : List ℕ → List ℕ) (g g' : List ℕ → Out)
    → ((m : List ℕ) → FitCrate m → f' m ≡ f m) → ((m : List ℕ) → FitCrate m → g' m ≡ g m) → Local FitCrate on f g → Local FitCrate on f' g'
local_same on f f' g g' ef eg l = record {
  keeps = λ m q. rw (ef m q) (l.keeps m q);
  frame = λ m q n a b h. rw (ef m q) (l.frame m q n a b h);
  reads = λ m m' q q' s. rw (ef m q, ef m' q', eg m q, eg m' q') (l.reads m m' q q' s);
}

-- ---- one station
module _ (on : ℕ → Bool) (n : ℕ) (lo : 1 ≤ n) (hi : n ≤ 23) (here : on n ≡ true) where
  pub local-command : (a f w : ℕ) → a ≤ 15 → w ≤ 16777215
      → Local FitCrate on (λ (m : List ℕ). after_command m n a f w) (λ (m : List ℕ). reply_of m n a f w)
  unfolding after_command reply_of
  local-command a f w s l =
      local-one FitCrate crate-size on n lo hi here (λ (i : ℕ) (b : List ℕ). (command_of b a f w).block) (λ (i : ℕ) (b : List ℕ). (command_of b a f w).reply)
      (λ m q. (command-block m n q lo hi a f w s l).fit.long)
      (λ m q. command-fit m n q lo hi a f w s l)

  pub local-front : (a v : ℕ) → a ≤ 15 → v ≤ 16777215
      → Local FitCrate on (λ (m : List ℕ). after_front m n a v) (λ (m : List ℕ). taken_of m n a v)
  unfolding after_front taken_of
  local-front a v s l =
      local-one FitCrate crate-size on n lo hi here (λ (i : ℕ) (b : List ℕ). (front_of i b a v).block) (λ (i : ℕ) (b : List ℕ). (front_of i b a v).taken)
      (λ m q. (front-block m n q lo hi a v s l).fit.long)
      (λ m q. front-fit m n q lo hi a v s l)

-- ---- all 23, with any answer g
module _ {Out : Type 0} (on : ℕ → Bool) (all : All on) (g : List ℕ → Out) where
  pub local-z : Local FitCrate on after_z g
  local-z = local-all FitCrate crate-size on after_z g all z-fit

  pub local-c : Local FitCrate on after_c g
  local-c = local-all FitCrate crate-size on after_c g all c-fit

  pub local-i : (v : ℕ) → v ≤ 1 → Local FitCrate on (λ (m : List ℕ). after_i m v) g
  local-i v l = local-all FitCrate crate-size on (λ (m : List ℕ). after_i m v) g all (λ m h. i-fit m v h l)

  pub local-lam : Local FitCrate on (λ (m : List ℕ). m) g
  local-lam = local-all FitCrate crate-size on (λ (m : List ℕ). m) g all (λ m h. h)

-- ---- a command to whatever N: up to 23 it keeps to that station, above it to all 23
module _ (n a f w : ℕ) (lo : 1 ≤ n) (s : a ≤ 15) (l : w ≤ 16777215) (h : n ≡ 30 → a ≡ 8 → f ≡ 16 → w < 2 ^ 23) where
  abbrev kept-to : ℕ → Bool
  kept-to k = cond (leb n 23) (eqb n k) true

  abbrev after : List ℕ → List ℕ
  after m = (sent_of m n a f w).memory

  abbrev answer : List ℕ → Reply
  answer m = (sent_of m n a f w).reply

  pub local-sent : Local FitCrate kept-to after answer
  local-sent = go (leb n 23) refl
    where
      go : (t : Bool) → leb n 23 ≡ t → Local FitCrate kept-to after answer
      go true e =
          let hi = leb-true n 23 e in
          local_same kept-to (λ (m : List ℕ). after_command m n a f w) after (λ (m : List ℕ). reply_of m n a f w) answer
          (λ m q. ap (λ (o : Commanded). o.memory) (sent-one m n a f w hi))
          (λ m q. ap (λ (o : Commanded). o.reply) (sent-one m n a f w hi))
          (local-command kept-to n lo hi (rw e (eq-eqb n n refl)) a f w s l)
      go false e = local-all FitCrate crate-size kept-to after answer (λ k x y. rw e) (λ m q. sent-fit m q n a f w lo s l h)
