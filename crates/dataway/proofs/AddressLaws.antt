-- A command to many stations: what is done at each is the station's own command, and so the crate stays fit; their answers are joined one by one. And every
-- command, to whatever N, leaves a fit crate fit.
-- Assumes nothing.
use Prim.Native.Nat.{ℕ, suc, ◌+◌, ◌-◌, ◌≤◌, ◌<◌, ◌^◌}
use mathlib.Core.Path.{◌≡◌, refl, sym, ap, ◌∙◌}
use mathlib.Core.List.{List, [], ◌∷◌}
use mathlib.Core.Bool.{Bool, true, false, cond}
use native.Mathlib.Omega.{arith}
use borrow.Author.Tests.{leb-true, le-leb, eq-eqb, ne_eqb}
use lib.Dec.{leb}
use lib.ListN.{length}
use Rattle.word24.specs.Word.{bit_of}
use Rattle.blocks.specs.Blocks.{block_of, with_block, inhibit_of, snr_of}
use Rattle.blocks.proofs.Blocks.{put-block}
use Rattle.kinds.specs.Cases.{Case, ◌does◌, case_of}
use Rattle.kinds.proofs.TestLaws.{by_cases, case-all}
use Rattle.station.specs.Block.{FitBlock}
use Rattle.station.specs.Kept.{Kept}
use Rattle.station.specs.Command.{command_of}
use Rattle.station.specs.declared.Reply.{Reply}
use Rattle.station.proofs.BlockLaws.{kept_here}
use Rattle.station.proofs.CommandLaws.{command-kept}
use Rattle.dataway.specs.Crate.{FitCrate}
use Rattle.dataway.specs.Stations.{reply_of, after_command}
use Rattle.dataway.specs.Controls.{each_station, after_z, after_c, after_i, after_snr}
use Rattle.dataway.specs.Addressed.{Commanded, is_addressed, silent, joined, joined_where, replies_to, command_where, many_of, all_stations, not_accepted, obeyed}
use Rattle.dataway.specs.Addressed.{common_of, internal_of, sent_of}
use Rattle.dataway.proofs.CrateLaws.{fit-snr}
use Rattle.dataway.proofs.StationLaws.{command-fit}
use Rattle.dataway.proofs.ControlLaws.{each-fit, each-later, each_more, z-fit, c-fit, i-fit}

-- ---- many stations
module _ (pattern a f w : ℕ) where
  -- no station yet
  pub replies-none : (m : List ℕ) → silent ≡ replies_to pattern a f w (1 - 1) m
  unfolding replies_to
  replies-none m = refl

  -- what comes of station n, where the memory is m and the answer of the stations before it is r
  abbrev pub Turn : (m : List ℕ) (n : ℕ) (r : Reply) (m' : List ℕ) (r' : Reply) → Type 0
  Turn m n r m' r' = (m' ≡ with_block m n (command_where pattern a f w n (block_of m n))) × (r' ≡ joined_where pattern n r (reply_of m n a f w))

  -- a station that is not addressed keeps its block, and adds nothing to the answer, whatever its own would be
  pub where-off : (m : List ℕ) (n : ℕ) (r t : Reply) (m' : List ℕ) (r' : Reply) → length m ≡ 768 → n ≤ 23 → (bit_of (n - 1) pattern ≡ 1 → ⊥) → m' ≡ m → r' ≡ r
      → (m' ≡ with_block m n (command_where pattern a f w n (block_of m n))) × (r' ≡ joined_where pattern n r t)
  unfolding command_where
  where-off m n r t m' r' size hi d e g =
      let off : is_addressed pattern n ≡ false = ne_eqb _ 1 d in
      (rw (e, off) (sym (put-block m n size (omega arith))), g ∙ ap (λ (u : Bool). cond u (joined r t) r) (sym off))

  -- one that is gets the command
  pub where-on : (m : List ℕ) (n : ℕ) (r : Reply) (m' : List ℕ) (r' : Reply) → bit_of (n - 1) pattern ≡ 1 → m' ≡ after_command m n a f w
      → r' ≡ joined r (reply_of m n a f w) → Turn m n r m' r'
  unfolding command_where after_command
  where-on m n r m' r' i e g =
      let on : is_addressed pattern n ≡ true = eq-eqb _ 1 i in
      (rw (e, on), g ∙ ap (λ (u : Bool). cond u (joined r (reply_of m n a f w)) r) (sym on))

  module _ (s : a ≤ 15) (l : w ≤ 16777215) where
    pub where-kept : (n : ℕ) (b : List ℕ) → FitBlock b → Kept b (command_where pattern a f w n b)
    unfolding command_where
    where-kept n b g =
        by_cases (Kept b) (is_addressed pattern n) (command_of b a f w).block b (λ e. command-kept b g a (omega arith) f w (omega arith)) (λ e. kept_here g)

    module _ (m : List ℕ) (q : FitCrate m) where
      pub many-fit : (k : ℕ) → k ≤ 23 → FitCrate (each_station (command_where pattern a f w) k m)
      many-fit k h = each-fit (command_where pattern a f w) where-kept m q k h

      -- one station more: its answer is that from the memory as it was
      replies-more : (k : ℕ) (x : List ℕ) (r t : Reply) → k < 23 → x ≡ each_station (command_where pattern a f w) k m → r ≡ replies_to pattern a f w k m
          → t ≡ joined_where pattern (suc k) r (reply_of x (suc k) a f w) → t ≡ replies_to pattern a f w (suc k) m
      unfolding replies_to reply_of
      replies-more k x r t h e p g =
          let block : block_of x (suc k) ≡ block_of m (suc k) =
          ap (λ (z : List ℕ). block_of z (suc k)) e ∙ each-later (command_where pattern a f w) where-kept m q k (suc k) (omega arith) (omega arith) in
          g
          ∙ ap (λ (z : Reply). joined_where pattern (suc k) z (command_of (block_of x (suc k)) a f w).reply) p
          ∙ ap (λ (b : List ℕ). joined_where pattern (suc k) (replies_to pattern a f w k m) (command_of b a f w).reply) block

      -- the loop's turn: the stations before n have had theirs, and then station n too
      pub many-more : (n : ℕ) (x : List ℕ) (r : Reply) (x' : List ℕ) (r' : Reply) → 1 ≤ n → n ≤ 23
          → x ≡ each_station (command_where pattern a f w) (n - 1) m → r ≡ replies_to pattern a f w (n - 1) m → Turn x n r x' r'
          → (x' ≡ each_station (command_where pattern a f w) (n + 1 - 1) m) × (r' ≡ replies_to pattern a f w (n + 1 - 1) m)
      many-more n x r x' r' lo hi e p t =
          let at : suc (n - 1) ≡ n = omega arith in
          let up : n + 1 - 1 ≡ suc (n - 1) = omega arith in (
            each_more (command_where pattern a f w) where-kept m q n x x' lo hi e t.0,
            rw up (replies-more (n - 1) x r r' (omega arith) e p (rw at t.1)),
          )

-- ---- every command: what holds of each way that a command can go holds of all
pub record EachWay (P : Commanded → Type 0) (m : List ℕ) (n a f w : ℕ) : Type 0 where
  pub station : n ≤ 23 → P (record { memory = after_command m n a f w; reply = reply_of m n a f w })
  pub many : (pattern : ℕ) → P (many_of m pattern a f w)
  pub z : P (obeyed (after_z m) 0)
  pub c : P (obeyed (after_c m) 0)
  pub load : n ≡ 30 → a ≡ 8 → f ≡ 16 → P (obeyed (after_snr m w) 0)
  pub inhibit : (v : ℕ) → v ≤ 1 → P (obeyed (after_i m v) 0)
  pub test : P (obeyed m (inhibit_of m))
  pub none : P (not_accepted m)

module _ (P : Commanded → Type 0) (m : List ℕ) (n a f w : ℕ) (each : EachWay P m n a f w) where
  abbrev controls : List (Case Commanded)
  controls = 8 does obeyed (after_z m) 0 ∷ 9 does obeyed (after_c m) 0 ∷ []

  abbrev loads : List (Case Commanded)
  loads = 16 does obeyed (after_snr m w) 0 ∷ []

  abbrev inhibits : List (Case Commanded)
  inhibits = 24 does obeyed (after_i m 0) 0 ∷ 26 does obeyed (after_i m 1) 0 ∷ 27 does obeyed m (inhibit_of m) ∷ []

  abbrev above : List (Case Commanded)
  above = 24 does many_of m (snr_of m) a f w ∷ 26 does many_of m all_stations a f w ∷ 28 does common_of m a f ∷ 30 does internal_of m a f w ∷ []

  common-way : P (common_of m a f)
  unfolding common_of
  common-way =
      case-all P f (26 does case_of a controls (not_accepted m) ∷ []) (not_accepted m)
      ((λ e. case-all P a controls (not_accepted m) (λ e. each.z, (λ e. each.c, tt)) each.none), tt) each.none

  internal-way : n ≡ 30 → P (internal_of m a f w)
  unfolding internal_of
  internal-way h =
      case-all P a (8 does case_of f loads (not_accepted m) ∷ 9 does case_of f inhibits (not_accepted m) ∷ []) (not_accepted m) (
        λ e. case-all P f loads (not_accepted m) ((λ g. each.load h e g), tt) each.none,
        (
          λ e.
              case-all P f inhibits (not_accepted m) (λ g. each.inhibit 0 (omega arith), (λ g. each.inhibit 1 (omega arith), (λ g. each.test, tt)))
              each.none,
          tt,
        ),
      ) each.none

  pub each_way : P (sent_of m n a f w)
  unfolding sent_of
  each_way =
      by_cases P (leb n 23) (record { memory = after_command m n a f w; reply = reply_of m n a f w }) (case_of n above (not_accepted m))
      (λ e. each.station (leb-true _ _ e))
      (λ e. case-all P n above (not_accepted m) (λ e. each.many (snr_of m), (λ e. each.many all_stations, (λ e. common-way, (λ e. internal-way e, tt)))) each.none)

-- it leaves the crate fit: a word that is loaded into the register has 23 bits, as the judging sees to
pub sent-fit : (m : List ℕ) → FitCrate m → (n a f w : ℕ) → 1 ≤ n → a ≤ 15 → w ≤ 16777215 → (n ≡ 30 → a ≡ 8 → f ≡ 16 → w < 2 ^ 23)
    → FitCrate (sent_of m n a f w).memory
sent-fit m q n a f w lo s l h = each_way (λ (o : Commanded). FitCrate o.memory) m n a f w (record {
  station = λ hi. command-fit m n q lo hi a f w s l;
  many = λ pattern. many-fit pattern a f w s l m q 23 (omega arith);
  z = z-fit m q;
  c = c-fit m q;
  load = λ x y z. fit-snr m w q (h x y z);
  inhibit = λ v l. i-fit m v q l;
  test = q;
  none = q;
})

-- ---- a command to a station is that station's
pub sent-one : (m : List ℕ) (n a f w : ℕ) → n ≤ 23 → sent_of m n a f w ≡ record { memory = after_command m n a f w; reply = reply_of m n a f w }
unfolding sent_of
sent-one m n a f w h = rw (le-leb n 23 h)
