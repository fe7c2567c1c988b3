-- When a step is refused (RULES 6.2 to 6.8, 6.13 to 6.18, 6.21, 6.22, 6.24 to 6.29): each row of the table of refusals is said once, as a test with what follows it.
-- The verdict on a step is then the list of its fields from left to right, then the buffer: its length, and in a put of lent words the words.
use Rattle.std.specs.Prelude.{ℕ, ◌+◌, ◌-◌, ◌*◌, Bool, true, false, cond, ◌&&◌, ◌||◌, List, [], ◌∷◌, length, take, leb, eqb, Ok, Err}
use Rattle.kinds.specs.Cases.{is_one_of}
use Rattle.step.specs.declared.Refusal.{Refusal}
use Rattle.step.specs.declared.Refusal.TheVariants.{NoSuchStation, NoSuchSubaddress, NoSuchFunction, OverwideWord, CrossedRange, BadLength, ShortBuffer, LongTransfer, CrossedWindow}
use Rattle.step.specs.declared.Step.{Step}
use Rattle.step.specs.declared.Step.TheVariants.{Command, Front, Z, C, Inhibit, LookAtMe, Scan, Repeat, Stop, Put, PutLent, Processor, Within}
use Rattle.step.specs.declared.Short.{Short}
use Rattle.step.specs.declared.Short.TheVariants.{ShortScan, ShortRepeat, ShortStop}
use Rattle.step.specs.Results.{Reading, Verdict}

-- x is low to high, both included
abbrev pub within : ℕ → ℕ → ℕ → Bool
within low x high = leb low x && leb x high

-- what follows, unless the test fails
abbrev pub unless : Bool → Refusal → Verdict → Verdict
unless true q next = next
unless false q next = Err q

-- no refusal
abbrev pub is_fine : Verdict → Bool
is_fine (Ok _) = true
is_fine (Err q) = false

-- 2, no such station: N outside 1 to 23
abbrev pub station_then : ℕ → Verdict → Verdict
station_then n next = unless (within 1 n 23) NoSuchStation next

-- the N of a command: a station; 24 and 26, which send it to many; 28 and 30, the controller itself
abbrev pub command_station : ℕ → Bool
command_station n = within 1 n 23 || is_one_of n (24 ∷ 26 ∷ 28 ∷ 30 ∷ [])

-- 2, no such station: of a command
abbrev pub command_station_then : ℕ → Verdict → Verdict
command_station_then n next = unless (command_station n) NoSuchStation next

-- 3, no such subaddress: A above 15
abbrev pub subaddress_then : ℕ → Verdict → Verdict
subaddress_then a next = unless (leb a 15) NoSuchSubaddress next

-- 4, no such function: F above 31
abbrev pub function_then : ℕ → Verdict → Verdict
function_then f next = unless (leb f 31) NoSuchFunction next

-- the functions of a block transfer: F is 0, 2 or 3
abbrev pub transfer : ℕ → Bool
transfer f = eqb f 0 || eqb f 2 || eqb f 3

-- 4, no such function: in a transfer, not 0, 2, 3
abbrev pub transfer_then : ℕ → Verdict → Verdict
transfer_then f next = unless (transfer f) NoSuchFunction next

-- 5, overwide word: w or v above 16,777,215
abbrev pub word_then : ℕ → Verdict → Verdict
word_then w next = unless (leb w 16777215) OverwideWord next

-- the widest word of a command: 23 bits at N30 A8 F16, which loads the Station Number Register, else 24
abbrev pub widest_of : (n a f : ℕ) → ℕ
widest_of n a f = cond (eqb n 30 && eqb a 8 && eqb f 16) 8388607 16777215

-- 5, overwide word: of a command
abbrev pub command_word_then : (n a f w : ℕ) → Verdict → Verdict
command_word_then n a f w next = unless (leb w (widest_of n a f)) OverwideWord next

-- no word is above 16,777,215
abbrev pub are_narrow : List ℕ → Bool
are_narrow [] = true
are_narrow (w ∷ ws) = leb w 16777215 && are_narrow ws

-- 5, overwide word: an offered word above 16,777,215
abbrev pub offered_then : List ℕ → Verdict → Verdict
offered_then offered next = unless (are_narrow offered) OverwideWord next

-- 5, overwide word: for I, v above 1
abbrev pub inhibit_then : ℕ → Verdict → Verdict
inhibit_then v next = unless (leb v 1) OverwideWord next

-- 6, crossed range: `to` below N or above 23
abbrev pub range_then : ℕ → ℕ → Verdict → Verdict
range_then n to next = unless (within n to 23) CrossedRange next

-- 7, bad length: limit outside 1 to 512
abbrev pub limit_then : ℕ → Verdict → Verdict
limit_then limit next = unless (within 1 limit 512) BadLength next

-- 13, long transfer: at the trigger processor's entry, limit above 32
abbrev pub long_then : ℕ → Verdict → Verdict
long_then limit next = unless (leb limit 32) LongTransfer next

-- 7, bad length: tries outside 1 to 4096
abbrev pub tries_then : ℕ → Verdict → Verdict
tries_then tries next = unless (within 1 tries 4096) BadLength next

-- 8, short buffer: fewer than limit words lent
abbrev pub lent_then : ℕ → ℕ → Verdict → Verdict
lent_then limit lent next = unless (leb limit lent) ShortBuffer next

-- 14, crossed window: lo above hi
abbrev pub crossed_then : (lo hi : ℕ) → Verdict → Verdict
crossed_then lo hi next = unless (leb lo hi) CrossedWindow next

-- a window from lo to hi: 5 for lo, 5 for hi, then 14
abbrev pub window_then : (lo hi : ℕ) → Verdict → Verdict
window_then lo hi next = word_then lo (word_then hi (crossed_then lo hi next))

-- how many subaddresses the stations N to `to` have
abbrev pub places_of : (n to : ℕ) → ℕ
places_of n to = 16 * (to + 1 - n)

-- 8, short buffer: fewer words lent than subaddresses are asked for
abbrev pub room_then : (n to lent : ℕ) → Verdict → Verdict
room_then n to lent next = unless (leb (places_of n to) lent) ShortBuffer next

-- op=naf n= a= f= w=
unfoldable pub command_verdict : ℕ → ℕ → ℕ → ℕ → Verdict
command_verdict n a f w = command_station_then n (subaddress_then a (function_then f (command_word_then n a f w (Ok tt))))

-- op=front n= a= v=
unfoldable pub front_verdict : ℕ → ℕ → ℕ → Verdict
front_verdict n a v = station_then n (subaddress_then a (word_then v (Ok tt)))

-- op=i v=
unfoldable pub inhibit_verdict : ℕ → Verdict
inhibit_verdict v = inhibit_then v (Ok tt)

-- op=scan n= a= f= to= limit=, with so many words lent
unfoldable pub scan_verdict : ℕ → ℕ → ℕ → ℕ → ℕ → ℕ → Verdict
scan_verdict n a f to limit lent =
    station_then n (subaddress_then a (transfer_then f (range_then n to (limit_then limit (lent_then limit lent (Ok tt))))))

-- op=repeat n= a= f= limit= tries=, with so many words lent
unfoldable pub repeat_verdict : ℕ → ℕ → ℕ → ℕ → ℕ → ℕ → Verdict
repeat_verdict n a f limit tries lent =
    station_then n (subaddress_then a (transfer_then f (limit_then limit (tries_then tries (lent_then limit lent (Ok tt))))))

-- op=stop n= a= f= limit=, with so many words lent
unfoldable pub stop_verdict : ℕ → ℕ → ℕ → ℕ → ℕ → Verdict
stop_verdict n a f limit lent =
    station_then n (subaddress_then a (transfer_then f (limit_then limit (lent_then limit lent (Ok tt)))))

-- op=put n= a= to= limit= w=
unfoldable pub put_verdict : ℕ → ℕ → ℕ → ℕ → ℕ → Verdict
put_verdict n a to limit w = station_then n (subaddress_then a (range_then n to (limit_then limit (word_then w (Ok tt)))))

-- a put of lent words, of which the first `limit` are offered: the one step with something after 8
unfoldable pub put_lent_verdict : ℕ → ℕ → ℕ → ℕ → List ℕ → Verdict
put_lent_verdict n a to limit buffer =
    station_then n (subaddress_then a (range_then n to (limit_then limit (lent_then limit (length buffer) (offered_then (take limit buffer) (Ok tt))))))

-- the three transfers at the trigger processor's entry: the same fields, with one row more, behind limit's: so 0 and above 512 are 7, and 33 to 512 are 13
unfoldable pub short_scan_verdict : ℕ → ℕ → ℕ → ℕ → ℕ → ℕ → Verdict
short_scan_verdict n a f to limit lent =
    station_then n (subaddress_then a (transfer_then f (range_then n to (limit_then limit (long_then limit (lent_then limit lent (Ok tt)))))))

unfoldable pub short_repeat_verdict : ℕ → ℕ → ℕ → ℕ → ℕ → ℕ → Verdict
short_repeat_verdict n a f limit tries lent =
    station_then n (subaddress_then a (transfer_then f (limit_then limit (long_then limit (tries_then tries (lent_then limit lent (Ok tt)))))))

unfoldable pub short_stop_verdict : ℕ → ℕ → ℕ → ℕ → ℕ → Verdict
short_stop_verdict n a f limit lent =
    station_then n (subaddress_then a (transfer_then f (limit_then limit (long_then limit (lent_then limit lent (Ok tt))))))

abbrev pub short_verdict : Short → ℕ → Verdict
short_verdict (ShortScan n a f to limit) lent = short_scan_verdict n a f to limit lent
short_verdict (ShortRepeat n a f limit tries) lent = short_repeat_verdict n a f limit tries lent
short_verdict (ShortStop n a f limit) lent = short_stop_verdict n a f limit lent

-- op=within n= to= lo= hi=, with so many words lent
unfoldable pub within_verdict : (n to lo hi lent : ℕ) → Verdict
within_verdict n to lo hi lent = station_then n (range_then n to (window_then lo hi (room_then n to lent (Ok tt))))

-- the verdict on a step that is lent this buffer; nothing is wrong with Z, C and the Look-at-Me reading
abbrev pub step_verdict : Step → List ℕ → Verdict
step_verdict (Command n a f w) buffer = command_verdict n a f w
step_verdict (Front n a v) buffer = front_verdict n a v
step_verdict Z buffer = Ok tt
step_verdict C buffer = Ok tt
step_verdict (Inhibit v) buffer = inhibit_verdict v
step_verdict LookAtMe buffer = Ok tt
step_verdict (Scan n a f to limit) buffer = scan_verdict n a f to limit (length buffer)
step_verdict (Repeat n a f limit tries) buffer = repeat_verdict n a f limit tries (length buffer)
step_verdict (Stop n a f limit) buffer = stop_verdict n a f limit (length buffer)
step_verdict (Put n a to limit w) buffer = put_verdict n a to limit w
step_verdict (PutLent n a to limit) buffer = put_lent_verdict n a to limit buffer
step_verdict (Processor t) buffer = short_verdict t (length buffer)
step_verdict (Within n to lo hi) buffer = within_verdict n to lo hi (length buffer)

-- the verdict on a reading: one that is no step has its own refusal
abbrev pub verdict_of : Reading → List ℕ → Verdict
verdict_of (Ok s) buffer = step_verdict s buffer
verdict_of (Err q) buffer = Err q
