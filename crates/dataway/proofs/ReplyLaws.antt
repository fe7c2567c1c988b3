-- X, Q and R of a command at the crate: of one station they are those of its block; of many they are joined; of the controller they are as it says.
-- Assumes nothing.
use Prim.Native.Nat.{ℕ, zero, suc, ◌+◌, ◌≤◌, ◌<◌, ◌^◌}
use mathlib.Core.Path.{◌≡◌, refl, ap, ◌∙◌}
use mathlib.Core.Bool.{Bool, true, false, cond}
use mathlib.Core.List.{List}
use native.Mathlib.Omega.{arith}
use lib.Bits.{bit_and, bit_or, or_lt, or_add_and, and_le_l, and_le_r}
use Rattle.kinds.proofs.TestLaws.{by_cases}
use Rattle.blocks.specs.Blocks.{block_of, with_block}
use Rattle.blocks.proofs.Blocks.{put-block}
use Rattle.station.specs.Outcome.{Outcome}
use Rattle.station.specs.Command.{command_of}
use Rattle.station.specs.declared.Reply.{Reply}
use Rattle.station.specs.Answered.{Answered}
use Rattle.station.specs.Answered.Answered.{declined, accepted}
use Rattle.station.proofs.AnswerLaws.{command-q, command-answered}
use Rattle.dataway.specs.Crate.{FitCrate}
use Rattle.dataway.specs.Stations.{reply_of, after_command}
use Rattle.dataway.specs.Controls.{each_station}
use Rattle.dataway.specs.Addressed.{Commanded, is_addressed, joined, replies_to, command_where, obeyed, sent_of}
use Rattle.dataway.proofs.AddressLaws.{each_way}

-- Q is 0 or 1, whatever the memory
pub reply-q : (m : List ℕ) (n a f w : ℕ) → (reply_of m n a f w).q < 2
unfolding reply_of
reply-q m n a f w = command-q (block_of m n) a f w

-- of a fit crate X is 0 or 1, and R has 24 bits
pub reply-bounds : (m : List ℕ) (n a f w : ℕ) → FitCrate m → 1 ≤ n → n ≤ 23 → a ≤ 15
    → ((reply_of m n a f w).x < 2) × ((reply_of m n a f w).q < 2) × ((reply_of m n a f w).r < 2 ^ 24)
unfolding reply_of
reply-bounds m n a f w g lo hi l = go (command-answered (block_of m n) a f w (g.station n lo hi) (omega arith))
  where
    go : Answered (block_of m n) (command_of (block_of m n) a f w)
        → ((command_of (block_of m n) a f w).reply.x < 2) × ((command_of (block_of m n) a f w).reply.q < 2) × ((command_of (block_of m n) a f w).reply.r < 2 ^ 24)
    go (declined e) = (
      omega (arith, ap (λ (o : Outcome). o.reply.x) e),
      omega (arith, ap (λ (o : Outcome). o.reply.q) e),
      omega (arith, ap (λ (o : Outcome). o.reply.r) e),
    )
    go (accepted x q r) = (omega arith, q, r)

-- X = 0 is a command that is not accepted: Q and R are 0 too, and nothing changes
pub not-accepted : (m : List ℕ) (n a f w : ℕ) → FitCrate m → 1 ≤ n → n ≤ 23 → a ≤ 15 → (reply_of m n a f w).x ≡ 0
    → ((reply_of m n a f w).q ≡ 0) × ((reply_of m n a f w).r ≡ 0) × (after_command m n a f w ≡ m)
unfolding reply_of after_command
not-accepted m n a f w g lo hi l z = go (command-answered (block_of m n) a f w (g.station n lo hi) (omega arith))
  where
    go : Answered (block_of m n) (command_of (block_of m n) a f w)
        → ((command_of (block_of m n) a f w).reply.q ≡ 0) × ((command_of (block_of m n) a f w).reply.r ≡ 0)
        × (with_block m n (command_of (block_of m n) a f w).block ≡ m)
    go (declined e) = (
      ap (λ (o : Outcome). o.reply.q) e,
      ap (λ (o : Outcome). o.reply.r) e,
      ap (λ (o : Outcome). with_block m n o.block) e ∙ put-block m n g.size (omega arith),
    )
    go (accepted x q r) = absurd (omega arith)

-- ---- many stations
abbrev pub Bounds : Reply → Type 0
Bounds p = (p.x < 2) × (p.q < 2) × (p.r < 2 ^ 24)

joined-bounds : (p t : Reply) → Bounds p → Bounds t → Bounds (joined p t)
joined-bounds p t b c = (or_lt 1 p.x t.x b.0 c.0, or_lt 1 p.q t.q b.1 c.1, or_lt 24 p.r t.r b.2 c.2)

-- an OR is 0 only where both are
or-zero : (x y : ℕ) → bit_or x y ≡ 0 → (x ≡ 0) × (y ≡ 0)
or-zero x y e =
    let none : x + y ≤ bit_and x y = omega (arith, e, or_add_and x y) in
    (omega (arith, and_le_r x y), omega (arith, and_le_l x y))

-- X = 0 is a command that is not accepted: Q and R are 0 too, and nothing changes
abbrev pub Unaccepted : List ℕ → Commanded → Type 0
Unaccepted m o = o.reply.x ≡ 0 → (o.reply.q ≡ 0) × (o.reply.r ≡ 0) × (o.memory ≡ m)

module _ (m : List ℕ) (g : FitCrate m) (pattern a f w : ℕ) (l : a ≤ 15) where
  -- the answers of stations 1 to k, and the memory that they leave
  abbrev up_to : ℕ → Commanded
  up_to k = record { memory = each_station (command_where pattern a f w) k m; reply = replies_to pattern a f w k m }

  pub replies-bounds : (k : ℕ) → k ≤ 23 → Bounds (replies_to pattern a f w k m)
  unfolding replies_to
  replies-bounds zero h = (omega arith, omega arith, omega arith)
  replies-bounds (suc k) h =
      let before = replies-bounds k (omega arith) in
      by_cases Bounds (is_addressed pattern (suc k)) (joined (replies_to pattern a f w k m) (reply_of m (suc k) a f w)) (replies_to pattern a f w k m)
      (λ e. joined-bounds _ _ before (reply-bounds m (suc k) a f w g (omega arith) h l)) (λ e. before)

  -- one station more
  more-unaccepted : (k : ℕ) → suc k ≤ 23 → Unaccepted m (up_to k) → (t : Bool) → Unaccepted m (record {
    memory = with_block (up_to k).memory (suc k) (cond t (command_of (block_of m (suc k)) a f w).block (block_of m (suc k)));
    reply = cond t (joined (up_to k).reply (reply_of m (suc k) a f w)) (up_to k).reply;
  })
  unfolding after_command
  more-unaccepted k h before true z =
      let e = or-zero (up_to k).reply.x (reply_of m (suc k) a f w).x z in
      let p = before e.0 in
      let n = not-accepted m (suc k) a f w g (omega arith) h l e.1 in (
        ap (λ (x : ℕ). bit_or x (reply_of m (suc k) a f w).q) p.0 ∙ ap (bit_or 0) n.0,
        ap (λ (x : ℕ). bit_or x (reply_of m (suc k) a f w).r) p.1 ∙ ap (bit_or 0) n.1,
        ap (λ (x : List ℕ). with_block x (suc k) (command_of (block_of m (suc k)) a f w).block) p.2 ∙ n.2,
      )
  more-unaccepted k h before false z =
      let p = before z in
      (p.0, p.1, ap (λ (x : List ℕ). with_block x (suc k) (block_of m (suc k))) p.2 ∙ put-block m (suc k) g.size (omega arith))

  pub many-unaccepted : (k : ℕ) → k ≤ 23 → Unaccepted m (up_to k)
  unfolding replies_to each_station command_where
  many-unaccepted zero h = λ z. (refl, refl, refl)
  many-unaccepted (suc k) h = more-unaccepted k h (many-unaccepted k (omega arith)) (is_addressed pattern (suc k))

-- ---- every command: X and Q are 0 or 1, R has 24 bits; X = 0 leaves Q and R 0 and changes nothing
abbrev pub Proper : List ℕ → Commanded → Type 0
Proper m o = Bounds o.reply × Unaccepted m o

obeyed-proper : (m m' : List ℕ) (q : ℕ) → q < 2 → Proper m (obeyed m' q)
obeyed-proper m m' q l = ((omega arith, l, omega arith), λ z. absurd (omega arith))

pub sent-proper : (m : List ℕ) → FitCrate m → (n a f w : ℕ) → 1 ≤ n → a ≤ 15 → Proper m (sent_of m n a f w)
sent-proper m g n a f w lo l = each_way (Proper m) m n a f w (record {
  station = λ hi. (reply-bounds m n a f w g lo hi l, λ z. not-accepted m n a f w g lo hi l z);
  many = λ pattern. (replies-bounds m g pattern a f w l 23 (omega arith), many-unaccepted m g pattern a f w l 23 (omega arith));
  z = obeyed-proper m _ 0 (omega arith);
  c = obeyed-proper m _ 0 (omega arith);
  load = λ x y z. obeyed-proper m _ 0 (omega arith);
  inhibit = λ v h. obeyed-proper m _ 0 (omega arith);
  test = obeyed-proper m m _ g.inhibit;
  none = ((omega arith, omega arith, omega arith), λ z. (refl, refl, refl));
})
