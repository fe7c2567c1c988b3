-- Laws of the sheet's refusals and of the call: the windows one after the other, what a fine verdict says, and what each way out of the call comes to.
-- Assumes nothing.
use Prim.Native.Nat.{ℕ, zero, suc, ◌+◌, ◌-◌, ◌*◌, ◌/◌, ◌%◌, ◌≤◌, ◌<◌}
use mathlib.Core.Path.{◌≡◌, refl, sym, ap, ◌∙◌}
use mathlib.Core.Bool.{Bool, true, false}
use mathlib.Core.List.{List, [], ◌∷◌, ◌++◌}
use native.Mathlib.Numerals.{add-one}
use native.Mathlib.Omega.{arith}
use borrow.Author.Tests.{leb-true, le-leb, eqb-true, eq-eqb}
use lib.Dec.{leb, eqb}
use lib.ListN.{length, get_or, take, drop, length-append, length-drop, get_or-append}
use Rattle.std.proofs.lemmas.List.{take_all}
use lib.Seq.{drop-cons, drop-append_seam, take_at}
use Rattle.kinds.proofs.TestLaws.{both-fst, both-snd}
use Rattle.step.specs.Verdict.{within, unless, is_fine, window_then, places_of, room_then}
use Rattle.step.proofs.Fine.{unless-fine, within-bounds, window-fine}
use Rattle.step.specs.declared.Refusal.{Refusal}
use Rattle.step.specs.declared.Refusal.TheVariants.{NoSuchStation, OverwideWord, CrossedRange, BadLength, ShortBuffer, CrossedWindow}
use Rattle.windows.specs.Flags.{windows_in, low_of, high_of, flags_of, flag_of, read_of, flagged_by}
use Rattle.windows.specs.Sheets.{is_sheet, windows_then, sheet_verdict, unflagged, sheet_of, EachWindow, GoodWindow, GoodSheet}
use Rattle.windows.proofs.FlagLaws.{words_long, windows-list}
use Rattle.std.specs.Prelude.{Ok, Err}
use Rattle.step.specs.Results.{Verdict}

-- ---- one window before the rest
window-good : (lo hi : ℕ) (next : Verdict) → lo ≤ hi → hi ≤ 16777215 → window_then lo hi next ≡ next
window-good lo hi next l h = rw (le-leb lo 16777215 (omega arith), le-leb hi 16777215 h, le-leb lo hi l)

-- the verdict v, and where v refuses nothing, that on what follows
abbrev pub behind : Verdict → Verdict → Verdict
behind (Ok _) next = next
behind (Err q) next = Err q

behind_assoc : (u v w : Verdict) → behind (behind u v) w ≡ behind u (behind v w)
behind_assoc (Ok _) v w = refl
behind_assoc (Err q) v w = refl

window-behind : (lo hi : ℕ) (next : Verdict) → window_then lo hi next ≡ behind (window_then lo hi (Ok tt)) next
window-behind lo hi next = go (leb lo 16777215) (leb hi 16777215) (leb lo hi)
  where
    go : (a b c : Bool) → unless a OverwideWord (unless b OverwideWord (unless c CrossedWindow next))
        ≡ behind (unless a OverwideWord (unless b OverwideWord (unless c CrossedWindow (Ok tt)))) next
    go true true true = refl
    go true true false = refl
    go true false c = refl
    go false b c = refl

-- one that is refused is refused whatever follows
window-bad : (lo hi : ℕ) (next : Verdict) (q : Refusal) → window_then lo hi (Ok tt) ≡ Err q → window_then lo hi next ≡ Err q
window-bad lo hi next q e = window-behind lo hi next ∙ ap (λ (v : Verdict). behind v next) e

-- ---- the windows as they are taken off the front of a sheet
-- fewer than two words are no window
pub windows_none : (sheet : List ℕ) (next : Verdict) → length sheet < 2 → windows_then sheet next ≡ next
unfolding windows_then
windows_none [] next h = refl
windows_none (x ∷ []) next h = refl
windows_none (x ∷ (y ∷ l)) next h = absurd (omega arith)

-- else the first window is judged, and then those behind it
pub windows_first : (sheet : List ℕ) (next : Verdict) → 2 ≤ length sheet
    → windows_then sheet next ≡ behind (window_then (get_or sheet 0 0) (get_or sheet 1 0) (Ok tt)) (windows_then (take (length sheet - 2) (drop 2 sheet)) next)
unfolding windows_then
windows_first [] next h = absurd (omega arith)
windows_first (lo ∷ []) next h = absurd (omega arith)
windows_first (lo ∷ (hi ∷ l)) next h =
    let n : suc (suc (length l)) - 2 ≡ length l = omega arith in
    window-behind lo hi (windows_then l next)
    ∙ ap (λ (k : List ℕ). behind (window_then lo hi (Ok tt)) (windows_then k next)) (sym (ap (λ (i : ℕ). take i l) n ∙ take_all (length l) l (omega arith)))

-- what stands behind the windows is judged where none of them is bad
pub windows_behind : (sheet : List ℕ) (next : Verdict) → windows_then sheet next ≡ behind (windows_then sheet (Ok tt)) next
unfolding windows_then
windows_behind [] next = refl
windows_behind (lo ∷ []) next = refl
windows_behind (lo ∷ (hi ∷ l)) next =
    let w : Verdict = window_then lo hi (Ok tt) in
    window-behind lo hi (windows_then l next)
    ∙ ap (behind w) (windows_behind l next)
    ∙ sym (behind_assoc w (windows_then l (Ok tt)) next)
    ∙ ap (λ (v : Verdict). behind v next) (sym (window-behind lo hi (windows_then l (Ok tt))))

-- ---- the windows one after the other
-- those before window i are good: the verdict on the sheet is that on its windows from i on
abbrev pub Past : (sheet : List ℕ) (rest : Verdict) (i : ℕ) → Type 0
Past sheet rest i = windows_then sheet rest ≡ windows_then (drop (2 * i) sheet) rest

module _ (sheet : List ℕ) (rest : Verdict) where
  two : (i : ℕ) → i < windows_in sheet → drop (2 * i) sheet ≡ low_of sheet i ∷ (high_of sheet i ∷ drop (2 * (i + 1)) sheet)
  two i h =
      let s : suc (2 * i) ≡ 2 * i + 1 = omega arith in
      let t : suc (2 * i + 1) ≡ 2 * (i + 1) = omega arith in
      drop-cons sheet (2 * i) 0 (omega arith)
      ∙ ap (λ (l : List ℕ). low_of sheet i ∷ l)
      (ap (λ (k : ℕ). drop k sheet) s ∙ drop-cons sheet (2 * i + 1) 0 (omega arith) ∙ ap (λ (k : ℕ). high_of sheet i ∷ drop k sheet) t)

  opened : (i : ℕ) → i < windows_in sheet → Past sheet rest i
      → windows_then sheet rest ≡ window_then (low_of sheet i) (high_of sheet i) (windows_then (drop (2 * (i + 1)) sheet) rest)
  unfolding windows_then
  opened i h p = p ∙ ap (λ (l : List ℕ). windows_then l rest) (two i h)

  pub windows-start : Past sheet rest 0
  windows-start = refl

  -- a good window is passed
  pub windows-next : (i : ℕ) → i < windows_in sheet → Past sheet rest i → GoodWindow sheet i → Past sheet rest (i + 1)
  windows-next i h p g = opened i h p ∙ window-good (low_of sheet i) (high_of sheet i) _ g.0 g.1

  -- a bad one decides
  pub windows-bad : (i : ℕ) → i < windows_in sheet → Past sheet rest i → (q : Refusal) → window_then (low_of sheet i) (high_of sheet i) (Ok tt) ≡ Err q
      → windows_then sheet rest ≡ Err q
  windows-bad i h p q e = opened i h p ∙ window-bad (low_of sheet i) (high_of sheet i) _ q e

  -- behind the last comes the rest
  pub windows-end : (i : ℕ) → i ≡ windows_in sheet → Past sheet rest i → windows_then sheet rest ≡ rest
  windows-end i e p = p ∙ windows_none (drop (2 * i) sheet) rest (omega (arith, length-drop (2 * i) sheet))

  -- good windows are passed
  pub windows-past : (i : ℕ) → i ≤ windows_in sheet → ((j : ℕ) → j < i → GoodWindow sheet j) → Past sheet rest i
  windows-past zero h g = windows-start
  windows-past (suc i) h g =
      rw (sym (add-one i)) (windows-next i (omega arith) (windows-past i (omega arith) (λ j l. g j (omega arith))) (g i (omega arith)))

  -- where the verdict is fine each window is good
  fine-good : is_fine (windows_then sheet rest) ≡ true → (i : ℕ) → i < windows_in sheet → Past sheet rest i → GoodWindow sheet i
  fine-good e i h p =
      let f = window-fine (low_of sheet i) (high_of sheet i) _ (ap is_fine (sym (opened i h p)) ∙ e) in
      (f.2, f.1)

  fine-past : is_fine (windows_then sheet rest) ≡ true → (i : ℕ) → i ≤ windows_in sheet → Past sheet rest i
  fine-past e zero h = windows-start
  fine-past e (suc i) h =
      let p = fine-past e i (omega arith) in
      rw (sym (add-one i)) (windows-next i (omega arith) p (fine-good e i (omega arith) p))

  pub windows-good : is_fine (windows_then sheet rest) ≡ true → (i : ℕ) → i < windows_in sheet → GoodWindow sheet i
  windows-good e i h = fine-good e i h (fine-past e i (omega arith))

  pub windows-fine : is_fine (windows_then sheet rest) ≡ true → is_fine rest ≡ true
  windows-fine e = ap is_fine (sym (windows-end (windows_in sheet) refl (fine-past e (windows_in sheet) (omega arith)))) ∙ e

-- two words that are cut off the front of what is left are the next window
pub window_cut : (sheet left pair after : List ℕ) (i : ℕ) → left ≡ drop (2 * i) sheet → left ≡ pair ++ after → length pair ≡ 2
    → (i < windows_in sheet) × (after ≡ drop (2 * (i + 1)) sheet) × (get_or pair 0 0 ≡ low_of sheet i) × (get_or pair 1 0 ≡ high_of sheet i)
window_cut sheet left pair after i el ec n =
    let long : length left ≡ length (pair ++ after) = ap length ec in
    let left-long : length left ≡ length (drop (2 * i) sheet) = ap length el in
    let few : i < windows_in sheet = omega (arith, long, left-long, length-append pair after, length-drop (2 * i) sheet) in
    let cut : pair ++ after ≡ low_of sheet i ∷ (high_of sheet i ∷ drop (2 * (i + 1)) sheet) = sym ec ∙ el ∙ two sheet (Ok tt) i few in (
      few,
      sym (drop-append_seam pair after) ∙ ap (λ (k : ℕ). drop k (pair ++ after)) n ∙ ap (drop 2) cut,
      sym (get_or-append pair after 0 0 (omega arith)) ∙ ap (λ (l : List ℕ). get_or l 0 0) cut,
      sym (get_or-append pair after 0 1 (omega arith)) ∙ ap (λ (l : List ℕ). get_or l 1 0) cut,
    )

-- ---- the verdict
module _ (n to : ℕ) (sheet : List ℕ) (lent : ℕ) where
  -- a fine verdict says that nothing is wrong
  pub sheet-fine : sheet_verdict n to sheet lent ≡ Ok tt → GoodSheet n to sheet lent
  unfolding sheet_verdict
  sheet-fine e =
      let room : Verdict = room_then n to lent (Ok tt) in
      let p = unless-fine (within 1 n 23) NoSuchStation _ (ap is_fine e) in
      let q = unless-fine (within n to 23) CrossedRange _ p.1 in
      let r = unless-fine (is_sheet (length sheet)) BadLength (windows_then sheet room) q.1 in
      let s = unless-fine (leb (places_of n to) lent) ShortBuffer (Ok tt) (windows-fine sheet room r.1) in
      let a = within-bounds 1 n 23 p.0 in
      let b = within-bounds n to 23 q.0 in
      let few : Bool = leb (windows_in sheet) 64 in
      let even : Bool = eqb (length sheet % 2) 0 in
      record {
        stations = (a.0, b.0, b.1);
        even = eqb-true (length sheet % 2) 0 (both-snd few even r.0);
        few = leb-true (windows_in sheet) 64 (both-fst few even r.0);
        windows = windows-good sheet room r.1;
        room = omega (arith, leb-true (places_of n to) lent s.0, b.0);
      }

  -- where the stations and the length of the sheet are good, its windows are judged
  pub sheet-windows : (1 ≤ n) × (n ≤ to) × (to ≤ 23) → length sheet % 2 ≡ 0 → windows_in sheet ≤ 64
      → sheet_verdict n to sheet lent ≡ windows_then sheet (room_then n to lent (Ok tt))
  unfolding sheet_verdict
  sheet-windows (a, b, c) e f =
      rw (le-leb 1 n a, le-leb n 23 (omega arith), le-leb n to b, le-leb to 23 c, le-leb (length sheet / 2) 64 f, eq-eqb (length sheet % 2) 0 e)

  pub good-fine : GoodSheet n to sheet lent → sheet_verdict n to sheet lent ≡ Ok tt
  good-fine g =
      let s = g.stations in
      sheet-windows s g.even g.few
      ∙ windows-end sheet (room_then n to lent (Ok tt)) (windows_in sheet) refl (windows-past sheet _ (windows_in sheet) (omega arith) g.windows)
      ∙ rw (le-leb (16 * (to + 1 - n)) lent (omega (arith, g.room, s.1)))

-- ---- the call
module _ (m : List ℕ) (n to : ℕ) (sheet flags : List ℕ) where
  pub sheet-refused : (v : Verdict) (q : Refusal) → v ≡ sheet_verdict n to sheet (length flags) → v ≡ Err q → sheet_of m n to sheet flags ≡ unflagged q flags
  unfolding sheet_of
  sheet-refused v q p h = rw (sym p ∙ h)

  pub sheet-flagged : (v : Verdict) (k : ℕ) (after : List ℕ) → v ≡ sheet_verdict n to sheet (length flags) → v ≡ Ok tt
      → k ≡ read_of m n to → after ≡ flags_of sheet m n to ++ drop (places_of n to) flags
      → sheet_of m n to sheet flags ≡ record { answer = Ok k; flags = after }
  unfolding sheet_of
  sheet-flagged v k after p h c f = rw (sym p ∙ h, c, f)

  pub flags_long : length (flags_of sheet m n to) ≡ places_of n to
  unfolding flags_of
  flags_long = words_long (flag_of sheet m) (16 * n) (places_of n to)

  pub each-window : (after : List ℕ) → after ≡ flags_of sheet m n to ++ drop (places_of n to) flags → EachWindow m n to sheet after
  each-window after e i h =
      ap (flagged_by i (16 * n)) (ap (take (places_of n to)) e ∙ take_at (flags_of sheet m n to) (drop (places_of n to) flags) (places_of n to) flags_long)
      ∙ windows-list sheet m i n to h

-- a refusal is no `Flagged`
pub refused-flagged : {A : Type 0} (q : Refusal) (k : ℕ) → Err q ≡ Ok k → A
refused-flagged q k e = let z : ◌≡◌ {A = ℕ} 0 1 = cc in absurd (omega arith)
