-- A scan is a walk, and a walk that ends 2 has been everywhere: it leaves a station only for A0 of the next, so it cannot pass `to` without a command at
-- each station on the way.
-- Assumes nothing.
use Prim.Native.Nat.{ℕ, ◌+◌, ◌≤◌, ◌<◌}
use mathlib.Core.Path.{◌≡◌, refl, sym, ap, subst, ◌∙◌}
use mathlib.Core.Bool.{Bool, cond}
use mathlib.Core.Logic.{inl, inr}
use mathlib.Core.List.{List, [], ◌∷◌, ◌++◌, append-nil, append_assoc}
use native.Mathlib.Decide.{ℕ_discrete}
use native.Mathlib.Omega.{arith}
use borrow.Author.Tests.{eq-eqb, ne_eqb}
use lib.ListN.{length, length-append}
use Rattle.station.specs.declared.Reply.{Reply}
use Rattle.dataway.specs.Stations.{reply_of}
use Rattle.dataway.proofs.ReplyLaws.{reply-q}
use Rattle.transfer.specs.Cycle.{Ended, reads}
use Rattle.transfer.specs.Scan.{scan_of}
use Rattle.transfer.specs.Walk.{Made, made, Walk, words_of, MadeAt, ScanWalks, SoleWalk, FinishedWalk}
use Rattle.transfer.specs.Walk.Walk.{limit-reached, past_to, up, over, on}
use Rattle.transfer.proofs.ScanInduction.{Steps, scan-induction}

-- ---- every scan is a walk
words-hit : (n a : ℕ) (r : Reply) (cs : List Made) → r.q ≡ 1 → words_of (made n a r ∷ cs) ≡ r.r ∷ words_of cs
words-hit n a r cs q = ap (λ (t : Bool). cond t (r.r ∷ words_of cs) (words_of cs)) (eq-eqb r.q 1 q)

words-miss : (n a : ℕ) (r : Reply) (cs : List Made) → (r.q ≡ 1 → ⊥) → words_of (made n a r ∷ cs) ≡ words_of cs
words-miss n a r cs q = ap (λ (t : Bool). cond t (r.r ∷ words_of cs) (words_of cs)) (ne_eqb r.q 1 q)

module _ (f to limit : ℕ) where
  -- what is left of a scan, with the words ws stored and c cycles made, is the rest of a walk
  abbrev Left : List ℕ → ℕ → ℕ → List ℕ → ℕ → Ended → Type 0
  Left m n a ws c e =
      (cs : List Made) × Walk f to limit m n a (length ws) cs e.end e.memory × (e.cycles ≡ c + length cs) × (e.words ≡ ws ++ words_of cs)

  -- Q is no other number than 0 and 1
  zero-q : (m : List ℕ) (n a : ℕ) → ((reply_of m n a f 0).q ≡ 1 → ⊥) → (reply_of m n a f 0).q ≡ 0
  zero-q m n a q = let z = reply-q m n a f 0 in omega arith

  one_more : (ws : List ℕ) (r : ℕ) → length (ws ++ (r ∷ [])) ≡ length ws + 1
  one_more ws r = length-append ws (r ∷ [])

  stored : (m : List ℕ) (n a : ℕ) (ws x : List ℕ) (cs : List Made) → (reply_of m n a f 0).q ≡ 1 → x ≡ (ws ++ ((reply_of m n a f 0).r ∷ [])) ++ words_of cs
      → x ≡ ws ++ words_of (made n a (reply_of m n a f 0) ∷ cs)
  stored m n a ws x cs q e =
      e ∙ append_assoc ws ((reply_of m n a f 0).r ∷ []) (words_of cs) ∙ ap (λ (l : List ℕ). ws ++ l) (sym (words-hit n a (reply_of m n a f 0) cs q))

  left : Steps (reads f) to limit Left
  left = record {
    full = λ {m} {n} {a} {ws} h p. ([], limit-reached p, omega arith, sym (append-nil ws));
    past = λ {m} {n} {a} {ws} h p l. ([], past_to p l, omega arith, sym (append-nil ws));
    miss = λ {m} {n} {a} {ws} h p l q i. (
      made n a (reply_of m n a f 0) ∷ i.0,
      on p l (zero-q m n a q) i.1,
      omega (arith, i.2),
      i.3 ∙ ap (λ (l : List ℕ). ws ++ l) (sym (words-miss n a (reply_of m n a f 0) i.0 q)),
    );
    more = λ {m} {n} {a} {ws} h p l q i. (
      made n a (reply_of m n a f 0) ∷ i.0,
      up p l q h (rw (one_more ws (reply_of m n a f 0).r) at i.1),
      omega (arith, i.2),
      stored m n a ws _ i.0 q i.3,
    );
    last = λ {m} {n} {a} {ws} h p l q i. (
      made n a (reply_of m n a f 0) ∷ i.0,
      over p l q h (rw (one_more ws (reply_of m n a f 0).r) at i.1),
      omega (arith, i.2),
      stored m n a ws _ i.0 q i.3,
    );
  }

pub scan-walks : ScanWalks
scan-walks m n a f to limit h =
    let w : (cs : List Made) × Walk f to limit m n a 0 cs (scan_of m n a f to limit).end (scan_of m n a f to limit).memory
    × ((scan_of m n a f to limit).cycles ≡ 0 + length cs) × ((scan_of m n a f to limit).words ≡ words_of cs) = scan-induction (left f to limit) m n a [] 0 h in
    (w.0, w.1, omega (arith, w.2), w.3)

-- ---- a walk that ends 2 has been everywhere
module _ (f to limit : ℕ) where
  -- it begins where it stands
  begins : {m m' : List ℕ} {n a k e : ℕ} {cs : List Made} → Walk f to limit m n a k cs e m' → e ≡ 2 → n ≤ to → MadeAt n a cs
  begins (limit-reached p) z l = absurd (omega arith)
  begins (past_to p q) z l = absurd (omega arith)
  begins (up p q r s w) z l = inl (refl, refl)
  begins (over p q r s w) z l = inl (refl, refl)
  begins (on p q r w) z l = inl (refl, refl)

  -- from A0 of station n on, or past it
  abbrev After : ℕ → List Made → Type 0
  After n cs = (x : ℕ) → n < x → x ≤ to → MadeAt x 0 cs

  crossed : (n a : ℕ) (r : Reply) (cs : List Made) → (n + 1 ≤ to → MadeAt (n + 1) 0 cs) → After (n + 1) cs → After n (made n a r ∷ cs)
  crossed n a r cs b h x lo hi =
      elim (ℕ_discrete x (n + 1)) [
        | yes e ↦ inr (subst (λ (z : ℕ). MadeAt z 0 cs) (sym e) (b (omega arith)))
        | no e ↦ inr (h x (omega arith) hi)
      ]

  after : {m m' : List ℕ} {n a k e : ℕ} {cs : List Made} → Walk f to limit m n a k cs e m' → e ≡ 2 → After n cs
  after (limit-reached p) z x lo hi = absurd (omega arith)
  after (past_to p q) z x lo hi = absurd (omega arith)
  after (up p q r s w) z x lo hi = inr (after w z x lo hi)
  after (over {m = m} {n = n} {a = a} {cs = cs} p q r s w) z x lo hi = crossed n a (reply_of m n a f 0) cs (λ l. begins w z l) (λ y b c. after w z y b c) x lo hi
  after (on {m = m} {n = n} {a = a} {cs = cs} p q r w) z x lo hi = crossed n a (reply_of m n a f 0) cs (λ l. begins w z l) (λ y b c. after w z y b c) x lo hi

  enough : {m m' : List ℕ} {n a k e : ℕ} {cs : List Made} → Walk f to limit m n a k cs e m' → e ≡ 2 → to + 1 ≤ n + length cs
  enough (limit-reached p) z = absurd (omega arith)
  enough (past_to p q) z = omega arith
  enough (up p q r s w) z = omega (arith, enough w z)
  enough (over p q r s w) z = omega (arith, enough w z)
  enough (on p q r w) z = omega (arith, enough w z)

pub finished-walk : FinishedWalk
finished-walk f to limit m n a k cs m' l w = ((begins f to limit w refl l, after f to limit w refl), omega (arith, enough f to limit w refl))

-- ---- a walk has one outcome
module _ (f to limit : ℕ) where
  abbrev One : List Made → List Made → ℕ → ℕ → List ℕ → List ℕ → Type 0
  One cs ds e d m' m'' = (cs ≡ ds) × (e ≡ d) × (m' ≡ m'')

  longer : (c : Made) (cs ds : List Made) (e d : ℕ) (m' m'' : List ℕ) → One cs ds e d m' m'' → One (c ∷ cs) (c ∷ ds) e d m' m''
  longer c cs ds e d m' m'' h = (ap (λ (l : List Made). c ∷ l) h.0, h.1, h.2)

  sole : {m m' m'' : List ℕ} {n a k e d : ℕ} {cs ds : List Made} → Walk f to limit m n a k cs e m' → Walk f to limit m n a k ds d m'' → One cs ds e d m' m''
  sole (limit-reached p) (limit-reached t) = (refl, refl, refl)
  sole (limit-reached p) (past_to t u) = absurd (omega arith)
  sole (limit-reached p) (up t u v x y) = absurd (omega arith)
  sole (limit-reached p) (over t u v x y) = absurd (omega arith)
  sole (limit-reached p) (on t u v y) = absurd (omega arith)
  sole (past_to p q) (limit-reached t) = absurd (omega arith)
  sole (past_to p q) (past_to t u) = (refl, refl, refl)
  sole (past_to p q) (up t u v x y) = absurd (omega arith)
  sole (past_to p q) (over t u v x y) = absurd (omega arith)
  sole (past_to p q) (on t u v y) = absurd (omega arith)
  sole (up p q r s w) (limit-reached t) = absurd (omega arith)
  sole (up p q r s w) (past_to t u) = absurd (omega arith)
  sole (up p q r s w) (up t u v x y) = longer _ _ _ _ _ _ _ (sole w y)
  sole (up p q r s w) (over t u v x y) = absurd (omega arith)
  sole (up p q r s w) (on t u v y) = absurd (omega arith)
  sole (over p q r s w) (limit-reached t) = absurd (omega arith)
  sole (over p q r s w) (past_to t u) = absurd (omega arith)
  sole (over p q r s w) (up t u v x y) = absurd (omega arith)
  sole (over p q r s w) (over t u v x y) = longer _ _ _ _ _ _ _ (sole w y)
  sole (over p q r s w) (on t u v y) = absurd (omega arith)
  sole (on p q r w) (limit-reached t) = absurd (omega arith)
  sole (on p q r w) (past_to t u) = absurd (omega arith)
  sole (on p q r w) (up t u v x y) = absurd (omega arith)
  sole (on p q r w) (over t u v x y) = absurd (omega arith)
  sole (on p q r w) (on t u v y) = longer _ _ _ _ _ _ _ (sole w y)

pub sole-walk : SoleWalk
sole-walk f to limit m n a k cs ds e d m' m'' w v = sole f to limit w v
