-- Where a Repeat and a Stop end 3. F0, F2 and F3 are accepted at A below r, and a command keeps r; so a command that is accepted once is accepted in every
-- cycle, and one that is not ends the transfer in its first.
-- Assumes nothing.
use mathlib.Core.Path.{◌≡◌, refl, sym, ap, ◌∙◌}
use mathlib.Core.Bool.{true, false, true≢false, cond, ◌&&◌}
use mathlib.Core.Logic.{⊎_elim}
use mathlib.Core.List.{List, []}
use Prim.Native.Nat.{ℕ, zero, suc, ◌+◌, ◌≤◌, ◌<◌}
use native.Mathlib.Omega.{arith}
use native.Mathlib.Decide.{dec_lt, ℕ_discrete}
use borrow.Author.Tests.{eqb-true, eqb-false, ltb-true, lt-ltb}
use lib.Dec.{eqb, ltb}
use lib.ListN.{length}
use Rattle.blocks.specs.Blocks.{block_of}
use Rattle.blocks.proofs.Blocks.{block_same}
use Rattle.kinds.specs.Cases.{is_one_of}
use Rattle.kinds.proofs.TestLaws.{both-snd, by_cases}
use Rattle.station.specs.Block.{kind_of, count_of, fill_of, is_buffer, FitBlock}
use Rattle.station.specs.Outcome.{Outcome, accept, not_accepted, tells}
use Rattle.station.specs.Buffer.{unless_empty, buffer_read_of, buffer_read_and_clear_of, buffer_read_complement_of}
use Rattle.station.specs.Group1.{group1, register_kinds, read_of, read_and_clear_of, read_complement_of}
use Rattle.station.specs.Command.{command_of, functions_of}
use Rattle.station.proofs.KindTable.{register-kind}
use Rattle.dataway.specs.Stations.{reply_of, after_command}
use Rattle.dataway.proofs.StationLaws.{command-block, command-fit}
use Rattle.dataway.proofs.ReplyLaws.{not-accepted}
use Rattle.transfer.specs.Cycle.{Ended, ended, reads}
use Rattle.transfer.specs.Repeat.{repeat_from, repeat_of}
use Rattle.transfer.specs.Stop.{stop_from, stop_of}
use Rattle.transfer.specs.Faults.{Aimed, registers, AcceptedBelow, EndsThree, RepeatEndsThree, StopEndsThree}
use Rattle.transfer.proofs.RepeatLaws.{repeat-full, repeat-over, repeat-fault, repeat-more}
use Rattle.transfer.proofs.StopLaws.{stop-full, stop-fault, stop-miss, stop-more}

-- ---- F0, F2 and F3 at a block
module _ (b : List ℕ) (a : ℕ) (f : FitBlock b) where
  -- accepted at A below r, and nowhere else
  abbrev Below : Outcome → Type 0
  Below o = (a < count_of b → o.reply.x ≡ 1) × (count_of b ≤ a → o.reply.x ≡ 0)

  -- a buffer memory, whose r is 1: at A0, with a word in it or without
  at-buffer : (o : Outcome) → is_buffer b ≡ true → o.reply.x ≡ 1 → Below (accept (eqb a 0) b (unless_empty b o))
  at-buffer o k x =
      let lo : 1 ≤ count_of b = rw (eqb-true (kind_of b) 4 k) at f.least in
      let hi : count_of b ≤ 1 = rw (eqb-true (kind_of b) 4 k) at f.most in
      by_cases Below (eqb a 0) (unless_empty b o) (not_accepted b)
      (λ e. (
        λ l. by_cases (λ (u : Outcome). u.reply.x ≡ 1) (eqb (fill_of b) 0) (tells b 0) o (λ h. refl) (λ h. x),
        λ l. absurd (omega (arith, eqb-true a 0 e)),
      ))
      (λ e. (λ l. absurd (eqb-false a 0 e (omega arith)), λ l. refl))

  -- any other: a register at each A below r, and none in an empty station, whose r is 0
  at-registers : (o : Outcome) → is_buffer b ≡ false → o.reply.x ≡ 1 → Below (group1 register_kinds b a o)
  at-registers o k x =
      by_cases Below (is_one_of (kind_of b) register_kinds && ltb a (count_of b)) o (not_accepted b)
      (λ e. (λ l. x, λ l. absurd (omega (arith, ltb-true a (count_of b) (both-snd (is_one_of (kind_of b) register_kinds) (ltb a (count_of b)) e)))))
      (λ e. (λ l. absurd (true≢false (sym (found l) ∙ e)), λ l. refl))
    where
      found : a < count_of b → is_one_of (kind_of b) register_kinds && ltb a (count_of b) ≡ true
      found l = rw (register-kind b a f (eqb-false (kind_of b) 4 k) l, lt-ltb a (count_of b) l)

  -- a command that reads the one or the other
  reading : (o u : Outcome) → o.reply.x ≡ 1 → u.reply.x ≡ 1
      → Below (cond (is_buffer b) (accept (eqb a 0) b (unless_empty b o)) (group1 register_kinds b a u))
  reading o u x y =
      by_cases Below (is_buffer b) (accept (eqb a 0) b (unless_empty b o)) (group1 register_kinds b a u) (λ k. at-buffer o k x) (λ k. at-registers u k y)

  below-0 : Below (command_of b a 0 0)
  unfolding command_of functions_of read_of buffer_read_of
  below-0 = reading _ _ refl refl

  below-2 : Below (command_of b a 2 0)
  unfolding command_of functions_of read_and_clear_of buffer_read_and_clear_of
  below-2 = reading _ _ refl refl

  below-3 : Below (command_of b a 3 0)
  unfolding command_of functions_of read_complement_of buffer_read_complement_of
  below-3 = reading _ _ refl refl

-- ---- at the crate
pub accepted-below : AcceptedBelow
unfolding reply_of
accepted-below m n a f h =
    let b = block_of m n in
    let k = h.fit.station n h.first h.last in
    ⊎_elim (λ e. rw e (below-0 b a k)) (⊎_elim (λ e. rw e (below-2 b a k)) (λ e. rw e (below-3 b a k))) h.function

module _ (m : List ℕ) (n a f : ℕ) (h : Aimed m n a f) where
  -- the command leaves a crate at which it can be aimed again, with the same r
  again : Aimed (after_command m n a f 0) n a f
  again = record {
    fit = command-fit m n h.fit h.first h.last a f 0 h.subaddress (omega arith);
    first = h.first;
    last = h.last;
    subaddress = h.subaddress;
    function = h.function;
  }

  same-r : registers (after_command m n a f 0) n ≡ registers m n
  unfolding after_command
  same-r =
      let k = command-block m n h.fit h.first h.last a f 0 h.subaddress (omega arith) in
      ap count_of (block_same m n (command_of (block_of m n) a f 0).block h.fit.size (omega (arith, h.last)) k.fit.long) ∙ k.same.count

  -- not accepted: X is not 1, and the crate stays as it was
  no-x : (reply_of m n a f 0).x ≡ 0 → (reply_of m n a f 0).x ≡ 1 → ⊥
  no-x z o = omega arith

  as-was : (reply_of m n a f 0).x ≡ 0 → ended 3 (after_command m n a f 0) [] 1 ≡ ended 3 m [] 1
  as-was z = ap (λ (x : List ℕ). ended 3 x [] 1) (not-accepted m n a f 0 h.fit h.first h.last h.subaddress z).2

  -- a transfer that does not end 3 where its command is accepted, and does so at once where it is not
  one-or-other : {e : Ended} → (a < registers m n → e.end ≤ 2) → ((reply_of m n a f 0).x ≡ 0 → e ≡ ended 3 m [] 1) → EndsThree m n a f e
  one-or-other fine first = (
    first,
    λ t. elim (dec_lt a (registers m n)) [
      | yes l ↦ absurd (omega (arith, fine l, t))
      | no l ↦ (accepted-below m n a f h).1 (omega arith)
    ],
  )

-- ---- Repeat
-- accepted in every cycle
repeat-accepted : (n a f limit k : ℕ) (m ws : List ℕ) (c : ℕ) → Aimed m n a f → a < registers m n → (repeat_from k (reads f) n a limit m ws c).end ≤ 2
repeat-accepted n a f limit zero m ws c h l =
    elim (dec_lt (length ws) limit) [
      | yes p ↦ rw (repeat-over (reads f) n a limit m ws c p) (omega arith)
      | no p ↦ rw (repeat-full (reads f) n a limit m ws c 0 (omega arith)) (omega arith)
    ]
repeat-accepted n a f limit (suc k) m ws c h l =
    elim (dec_lt (length ws) limit) [
      | yes p ↦ rw (repeat-more (reads f) n a limit m ws c k p ((accepted-below m n a f h).0 l))
          (repeat-accepted n a f limit k _ _ (c + 1) (again m n a f h) (omega (arith, l, same-r m n a f h)))
      | no p ↦ rw (repeat-full (reads f) n a limit m ws c (suc k) (omega arith)) (omega arith)
    ]

-- not accepted in the first
repeat-first : (m : List ℕ) (n a f limit tries : ℕ) → Aimed m n a f → 1 ≤ limit → 1 ≤ tries → (reply_of m n a f 0).x ≡ 0
    → repeat_of m n a f limit tries ≡ ended 3 m [] 1
repeat-first m n a f limit zero h r s z = absurd (omega arith)
repeat-first m n a f limit (suc k) h r s z = repeat-fault (reads f) n a limit m [] 0 k (omega arith) (no-x m n a f h z) ∙ as-was m n a f h z

pub repeat-ends-three : RepeatEndsThree
repeat-ends-three m n a f limit tries h r s =
    one-or-other m n a f h (repeat-accepted n a f limit tries m [] 0 h) (repeat-first m n a f limit tries h r s)

-- ---- Stop
-- accepted in every cycle
stop-accepted : (n a f k : ℕ) (m ws : List ℕ) (c : ℕ) → Aimed m n a f → a < registers m n → (stop_from k (reads f) n a m ws c).end ≤ 2
stop-accepted n a f zero m ws c h l = rw (stop-full (reads f) n a m ws c) (omega arith)
stop-accepted n a f (suc k) m ws c h l =
    elim (ℕ_discrete (reply_of m n a f 0).q 1) [
      | yes q ↦ rw (stop-more (reads f) n a m ws c k ((accepted-below m n a f h).0 l) q)
          (stop-accepted n a f k _ _ (c + 1) (again m n a f h) (omega (arith, l, same-r m n a f h)))
      | no q ↦ rw (stop-miss (reads f) n a m ws c k ((accepted-below m n a f h).0 l) q) (omega arith)
    ]

-- not accepted in the first
stop-first : (m : List ℕ) (n a f limit : ℕ) → Aimed m n a f → 1 ≤ limit → (reply_of m n a f 0).x ≡ 0 → stop_of m n a f limit ≡ ended 3 m [] 1
stop-first m n a f zero h r z = absurd (omega arith)
stop-first m n a f (suc k) h r z = stop-fault (reads f) n a m [] 0 k (no-x m n a f h z) ∙ as-was m n a f h z

pub stop-ends-three : StopEndsThree
stop-ends-three m n a f limit h r = one-or-other m n a f h (stop-accepted n a f limit m [] 0 h) (stop-first m n a f limit h r)
