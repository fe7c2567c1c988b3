-- What a fine verdict says of a step's fields: each test of the list was passed, so each field is within its bounds.
use mathlib.Core.Path.{◌≡◌, refl}
use mathlib.Core.Bool.{Bool, true, false, false≢true, cond, ◌&&◌, and-eq-true_iff, or_assoc, or-false}
use mathlib.Core.Logic.{◌⊎◌}
use mathlib.Core.List.{List, [], ◌∷◌}
use Prim.Native.Nat.{ℕ, zero, suc, ◌≤◌}
use native.Mathlib.Omega.{arith}
use borrow.Author.Tests.{leb-true}
use lib.Dec.{leb, eqb}
use lib.ListN.{length, take, get_or}
use Rattle.kinds.proofs.TestLaws.{one_of_three}
use Rattle.step.specs.declared.Refusal.{Refusal}
use Rattle.step.specs.declared.Refusal.TheVariants.{NoSuchStation, NoSuchSubaddress, NoSuchFunction, OverwideWord, CrossedRange, BadLength, ShortBuffer, CrossedWindow}
use Rattle.step.specs.Verdict.{within, unless, is_fine, transfer, station_then, subaddress_then, transfer_then}
use Rattle.step.specs.Verdict.{command_verdict, front_verdict, inhibit_verdict, scan_verdict, repeat_verdict, stop_verdict}
use Rattle.step.specs.Verdict.{are_narrow, put_verdict, put_lent_verdict}
use Rattle.step.specs.Verdict.{places_of, window_then, within_verdict}
use Rattle.step.specs.Verdict.{command_station, command_station_then, widest_of}
use Rattle.std.specs.Prelude.{Ok}
use Rattle.step.specs.Results.{Verdict}

-- the test was passed, and what follows it is fine
pub unless-fine : (t : Bool) (q : Refusal) (v : Verdict) → is_fine (unless t q v) ≡ true → (t ≡ true) × (is_fine v ≡ true)
unless-fine true q v e = (refl, e)
unless-fine false q v e = absurd (false≢true e)

-- the test `within` as two bounds
pub within-bounds : (low x high : ℕ) → within low x high ≡ true → (low ≤ x) × (x ≤ high)
within-bounds low x high e =
    let p = (and-eq-true_iff (leb low x) (leb x high)).0 e in
    (leb-true low x p.0, leb-true x high p.1)

-- the functions of a transfer are 0, 2 and 3
pub transfer-one-of : (f : ℕ) → transfer f ≡ true → (f ≡ 0) ⊎ ((f ≡ 2) ⊎ (f ≡ 3))
transfer-one-of f e = one_of_three f 0 2 3 (rw (or-false (eqb f 3), ← or_assoc (eqb f 0) (eqb f 2) (eqb f 3)) e)

-- a row with an upper bound
most-fine : (x high : ℕ) (q : Refusal) (v : Verdict) → is_fine (unless (leb x high) q v) ≡ true → (x ≤ high) × (is_fine v ≡ true)
most-fine x high q v e = let p = unless-fine (leb x high) q v e in (leb-true x high p.0, p.1)

-- a row with two bounds
within-fine : (low x high : ℕ) (q : Refusal) (v : Verdict) → is_fine (unless (within low x high) q v) ≡ true
    → (low ≤ x) × (x ≤ high) × (is_fine v ≡ true)
within-fine low x high q v e =
    let p = unless-fine (within low x high) q v e in
    let b = within-bounds low x high p.0 in
    (b.0, b.1, p.1)

-- N and A, with which six kinds of step begin
address-fine : (n a : ℕ) (v : Verdict) → is_fine (station_then n (subaddress_then a v)) ≡ true → (1 ≤ n) × (n ≤ 23) × (a ≤ 15) × (is_fine v ≡ true)
address-fine n a v e =
    let p = within-fine 1 n 23 NoSuchStation (subaddress_then a v) e in
    let q = most-fine a 15 NoSuchSubaddress v p.2 in
    (p.0, p.1, q.0, q.1)

-- N, A and F of a transfer
transfer-fine : (n a f : ℕ) (v : Verdict) → is_fine (station_then n (subaddress_then a (transfer_then f v))) ≡ true
    → (1 ≤ n) × (n ≤ 23) × (a ≤ 15) × (transfer f ≡ true) × (is_fine v ≡ true)
transfer-fine n a f v e =
    let p = address-fine n a (transfer_then f v) e in
    let q = unless-fine (transfer f) NoSuchFunction v p.3 in
    (p.0, p.1, p.2, q.0, q.1)

-- N and A of a command
command-address : (n a : ℕ) (v : Verdict) → is_fine (command_station_then n (subaddress_then a v)) ≡ true → (command_station n ≡ true) × (a ≤ 15) × (is_fine v ≡ true)
command-address n a v e =
    let p = unless-fine (command_station n) NoSuchStation (subaddress_then a v) e in
    let q = most-fine a 15 NoSuchSubaddress v p.1 in
    (p.0, q.0, q.1)

-- the N of a command is not 0
station-low : (n : ℕ) → command_station n ≡ true → 1 ≤ n
station-low zero e = absurd (false≢true e)
station-low (suc n) e = omega arith

-- no command takes a word of more than 24 bits
widest-most : (n a f : ℕ) → widest_of n a f ≤ 16777215
widest-most n a f = go (eqb n 30 && eqb a 8 && eqb f 16)
  where
    go : (t : Bool) → cond t 8388607 16777215 ≤ 16777215
    go true = omega arith
    go false = omega arith

-- nor at N30 A8 F16 one of more than 23
widest-register : (n a f : ℕ) → n ≡ 30 → a ≡ 8 → f ≡ 16 → widest_of n a f ≡ 8388607
widest-register n a f p q r = rw (p, q, r)

-- the fields of a command
pub command-fine : (n a f w : ℕ) → is_fine (command_verdict n a f w) ≡ true
    → (1 ≤ n) × (a ≤ 15) × (f ≤ 31) × (w ≤ 16777215) × (n ≡ 30 → a ≡ 8 → f ≡ 16 → w ≤ 8388607)
unfolding command_verdict
command-fine n a f w e =
    let p = command-address n a _ e in
    let q = most-fine f 31 NoSuchFunction _ p.2 in
    let r = most-fine w (widest_of n a f) OverwideWord (Ok tt) q.1 in
    (station-low n p.0, p.1, q.0, omega (arith, r.0, widest-most n a f), λ x y z. omega (arith, r.0, widest-register n a f x y z))

-- the fields of a front event
pub front-fine : (n a v : ℕ) → is_fine (front_verdict n a v) ≡ true → (1 ≤ n) × (n ≤ 23) × (a ≤ 15) × (v ≤ 16777215)
unfolding front_verdict
front-fine n a v e =
    let p = address-fine n a _ e in
    let q = most-fine v 16777215 OverwideWord (Ok tt) p.3 in
    (p.0, p.1, p.2, q.0)

-- the field of I
pub inhibit-fine : (v : ℕ) → is_fine (inhibit_verdict v) ≡ true → v ≤ 1
unfolding inhibit_verdict
inhibit-fine v e = (most-fine v 1 OverwideWord (Ok tt) e).0

-- the fields of a scan, and its buffer
pub scan-fields : (n a f to limit lent : ℕ) → is_fine (scan_verdict n a f to limit lent) ≡ true
    → (1 ≤ n) × (n ≤ 23) × (a ≤ 15) × (transfer f ≡ true) × (n ≤ to) × (to ≤ 23) × (1 ≤ limit) × (limit ≤ 512) × (limit ≤ lent)
unfolding scan_verdict
scan-fields n a f to limit lent e =
    let p = transfer-fine n a f _ e in
    let q = within-fine n to 23 CrossedRange _ p.4 in
    let r = within-fine 1 limit 512 BadLength _ q.2 in
    let s = most-fine limit lent ShortBuffer (Ok tt) r.2 in
    (p.0, p.1, p.2, p.3, q.0, q.1, r.0, r.1, s.0)

-- of these, what keeps its walk inside the crate
pub scan-fine : (n a f to limit lent : ℕ) → is_fine (scan_verdict n a f to limit lent) ≡ true → (1 ≤ n) × (a ≤ 15) × (to ≤ 23)
scan-fine n a f to limit lent e = let p = scan-fields n a f to limit lent e in (p.0, p.2, p.5)

-- the fields of a Repeat, and its buffer
pub repeat-fields : (n a f limit tries lent : ℕ) → is_fine (repeat_verdict n a f limit tries lent) ≡ true
    → (1 ≤ n) × (n ≤ 23) × (a ≤ 15) × (transfer f ≡ true) × (1 ≤ limit) × (limit ≤ 512) × (1 ≤ tries) × (tries ≤ 4096) × (limit ≤ lent)
unfolding repeat_verdict
repeat-fields n a f limit tries lent e =
    let p = transfer-fine n a f _ e in
    let q = within-fine 1 limit 512 BadLength _ p.4 in
    let r = within-fine 1 tries 4096 BadLength _ q.2 in
    let s = most-fine limit lent ShortBuffer (Ok tt) r.2 in
    (p.0, p.1, p.2, p.3, q.0, q.1, r.0, r.1, s.0)

-- of these, where its commands go
pub repeat-fine : (n a f limit tries lent : ℕ) → is_fine (repeat_verdict n a f limit tries lent) ≡ true → (1 ≤ n) × (n ≤ 23) × (a ≤ 15)
repeat-fine n a f limit tries lent e = let p = repeat-fields n a f limit tries lent e in (p.0, p.1, p.2)

-- the fields of a Stop, and its buffer
pub stop-fields : (n a f limit lent : ℕ) → is_fine (stop_verdict n a f limit lent) ≡ true
    → (1 ≤ n) × (n ≤ 23) × (a ≤ 15) × (transfer f ≡ true) × (1 ≤ limit) × (limit ≤ 512) × (limit ≤ lent)
unfolding stop_verdict
stop-fields n a f limit lent e =
    let p = transfer-fine n a f _ e in
    let q = within-fine 1 limit 512 BadLength _ p.4 in
    let r = most-fine limit lent ShortBuffer (Ok tt) q.2 in
    (p.0, p.1, p.2, p.3, q.0, q.1, r.0)

-- of these, where its commands go
pub stop-fine : (n a f limit lent : ℕ) → is_fine (stop_verdict n a f limit lent) ≡ true → (1 ≤ n) × (n ≤ 23) × (a ≤ 15)
stop-fine n a f limit lent e = let p = stop-fields n a f limit lent e in (p.0, p.1, p.2)

-- ---- puts
-- words that are narrow are so at every place
pub narrow_at : (ws : List ℕ) → are_narrow ws ≡ true → (k : ℕ) → get_or ws k 0 ≤ 16777215
narrow_at [] e k = omega arith
narrow_at (w ∷ ws) e zero = leb-true w 16777215 ((and-eq-true_iff (leb w 16777215) (are_narrow ws)).0 e).0
narrow_at (w ∷ ws) e (suc k) = narrow_at ws ((and-eq-true_iff (leb w 16777215) (are_narrow ws)).0 e).1 k

-- the fields of a put
pub put-fields : (n a to limit w : ℕ) → is_fine (put_verdict n a to limit w) ≡ true
    → (1 ≤ n) × (n ≤ 23) × (a ≤ 15) × (n ≤ to) × (to ≤ 23) × (1 ≤ limit) × (limit ≤ 512) × (w ≤ 16777215)
unfolding put_verdict
put-fields n a to limit w e =
    let p = address-fine n a _ e in
    let q = within-fine n to 23 CrossedRange _ p.3 in
    let r = within-fine 1 limit 512 BadLength _ q.2 in
    let s = most-fine w 16777215 OverwideWord (Ok tt) r.2 in
    (p.0, p.1, p.2, q.0, q.1, r.0, r.1, s.0)

-- the fields of a put of lent words, and those words
pub put-lent-fields : (n a to limit : ℕ) (b : List ℕ) → is_fine (put_lent_verdict n a to limit b) ≡ true
    → (1 ≤ n) × (n ≤ 23) × (a ≤ 15) × (n ≤ to) × (to ≤ 23) × (1 ≤ limit) × (limit ≤ 512) × (limit ≤ length b) × (are_narrow (take limit b) ≡ true)
unfolding put_lent_verdict
put-lent-fields n a to limit b e =
    let p = address-fine n a _ e in
    let q = within-fine n to 23 CrossedRange _ p.3 in
    let r = within-fine 1 limit 512 BadLength _ q.2 in
    let s = most-fine limit (length b) ShortBuffer _ r.2 in
    let t = unless-fine (are_narrow (take limit b)) OverwideWord (Ok tt) s.1 in
    (p.0, p.1, p.2, q.0, q.1, r.0, r.1, s.0, t.0)

-- ---- windows
-- the bounds of a window
pub window-fine : (lo hi : ℕ) (v : Verdict) → is_fine (window_then lo hi v) ≡ true → (lo ≤ 16777215) × (hi ≤ 16777215) × (lo ≤ hi) × (is_fine v ≡ true)
window-fine lo hi v e =
    let p = most-fine lo 16777215 OverwideWord _ e in
    let q = most-fine hi 16777215 OverwideWord _ p.1 in
    let r = most-fine lo hi CrossedWindow v q.1 in
    (p.0, q.0, r.0, r.1)

-- the fields of a listing, and its buffer
pub within-fields : (n to lo hi lent : ℕ) → is_fine (within_verdict n to lo hi lent) ≡ true
    → (1 ≤ n) × (n ≤ 23) × (n ≤ to) × (to ≤ 23) × (lo ≤ hi) × (hi ≤ 16777215) × (places_of n to ≤ lent)
unfolding within_verdict
within-fields n to lo hi lent e =
    let p = within-fine 1 n 23 NoSuchStation _ e in
    let q = within-fine n to 23 CrossedRange _ p.2 in
    let r = window-fine lo hi _ q.2 in
    let s = most-fine (places_of n to) lent ShortBuffer (Ok tt) r.3 in
    (p.0, p.1, q.0, q.1, r.2, r.1, s.0)
