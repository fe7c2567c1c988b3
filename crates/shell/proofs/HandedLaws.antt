-- Parts of a file and whole files, one after the other, make a sheet, whatever was handed out between them.
-- Assumes nothing.
use Prim.Native.Nat.{ℕ, ◌+◌, ◌-◌, ◌≤◌}
use mathlib.Core.Path.{◌≡◌, refl, sym, ap, subst, ◌∙◌}
use mathlib.Core.Bool.{Bool, true, false, not, cond, true≢false}
use mathlib.Core.List.{List, [], ◌++◌, append_assoc, append-nil}
use native.Mathlib.Omega.{arith}
use borrow.Author.Tests.{not-true}
use lib.ListN.{length, take, drop, length-take, length-drop}
use lib.Seq.{take-take, take-add}
use Rattle.dataway.specs.Crate.{FitCrate, empty_crate}
use Rattle.dataway.proofs.CrateLaws.{empty-fit}
use Rattle.lines.specs.Cutting.{fresh as begin, feed, closed}
use Rattle.lines.proofs.CuttingLaws.{feed-append, closed-shut}
use Rattle.reader.specs.declared.Phase.{Phase}
use Rattle.reader.specs.declared.Phase.TheVariants.{CrateFile, RunFile}
use Rattle.reader.specs.declared.Reader.{Reader}
use Rattle.reader.specs.Reading.{State, is_open, rehearsing, start, second, under, state_of, Took, Held}
use Rattle.reader.proofs.ReadingLaws.{states, shut-ended}
use Rattle.reader.proofs.Whole.{feed-under, closed-under, took-both, took-none, sheet-law}
use Rattle.shell.specs.Handed.{Reached, Closed, Handed}
use Rattle.shell.specs.declared.Unwritten.{Unwritten}
use Rattle.std.specs.Prelude.{Result, Ok, Err, MatchResult}

-- what is said only of work that went well holds of work that failed
pub failed : {A : Type 0} (t : Bool) → not t ≡ true → t ≡ true → A
failed t f e = absurd (true≢false (sym e ∙ not-true t f))

-- the part of a text that is handed on, from place f on
pub rest : (text : List ℕ) (f : ℕ) → length (take (length text - f) (drop f text)) ≡ length text - f
rest text f = simp (length-take, length-drop) (omega arith)

-- what was taken, and n bytes of that part
pub pieces : (text : List ℕ) (f n : ℕ) → n ≤ length text - f → take f text ++ [] ++ take n (take (length text - f) (drop f text)) ≡ take (f + n) text
pieces text f n h = rw (append-nil (take f text), take-take n (length text - f) (drop f text) h) (sym (take-add f n text))

pub reached-none : (a : State) → Reached a a
reached-none a = record { read = []; took = took-none a }

pub reached-one : {a b : State} {t : List ℕ} → Took a t b → Reached a b
reached-one {t = t} f = record { read = t; took = f }

pub reached-both : {a b c : State} → Reached a b → Reached b c → Reached a c
reached-both f g = record { read = f.read ++ g.read; took = took-both f.took g.took }

-- room is made, and then the file ends
pub ended : {a b c : State} → Took a [] b → c ≡ closed rehearsing b → Closed a c
ended {a} {b} {c} f e = record { read = []; sent = f.sent; same = ap (closed rehearsing) f.same ∙ closed-under f.sent b ∙ ap (under f.sent) (sym e) }

-- some bytes of a file, and then the rest of it
pub closed-both : {a b c : State} → Reached a b → Closed b c → Closed a c
closed-both {a} {b} {c} f g =
    record {
      read = f.read ++ g.read;
      sent = f.took.sent ++ g.sent;
      same = ap (closed rehearsing) (feed-append rehearsing a f.read g.read)
          ∙ ap (λ (x : State). closed rehearsing (feed rehearsing x g.read)) f.took.same
          ∙ ap (closed rehearsing) (feed-under f.took.sent b g.read)
          ∙ closed-under f.took.sent (feed rehearsing b g.read)
          ∙ ap (under f.took.sent) g.same
          ∙ states refl refl refl refl refl (sym (append_assoc f.took.sent g.sent c.held.printed));
    }

second-under : (q : List ℕ) (s : State) → second (under q s) ≡ under q (second s)
second-under q s = go (is_open s.held.phase)
  where
    go : (t : Bool) → cond t (begin (record { phase = RunFile; previous = 0; memory = s.held.memory; printed = q ++ s.held.printed })) (under q s)
        ≡ under q (cond t (begin (record { phase = RunFile; previous = 0; memory = s.held.memory; printed = s.held.printed })) s)
    go true = refl
    go false = refl

-- a crate line was refused: the run file is not read
second-shut : (c : State) → is_open c.held.phase ≡ false → second c ≡ c
second-shut c h =
    ap (λ (t : Bool). cond t (begin (record { phase = RunFile; previous = 0; memory = c.held.memory; printed = c.held.printed })) c) h

closed-ended : (c : State) → is_open c.held.phase ≡ false → Closed (second c) c
closed-ended c h = record { read = []; sent = []; same = ap (closed rehearsing) (second-shut c h) ∙ closed-shut rehearsing c (shut-ended c h) }

-- else it is read from its first line on
second-open : (c : State) → is_open c.held.phase ≡ true
    → begin (record { phase = RunFile; previous = 0; memory = c.held.memory; printed = c.held.printed }) ≡ second c
second-open c h =
    sym (ap (λ (t : Bool). cond t (begin (record { phase = RunFile; previous = 0; memory = c.held.memory; printed = c.held.printed })) c) h)

-- both files
handed : {c d : State} → Closed start c → Closed (second c) d → Handed d.held.printed
handed {c} {d} f g =
    record {
      crate_file = f.read;
      run_file = g.read;
      sent = f.sent ++ g.sent;
      same = append_assoc f.sent g.sent d.held.printed
          ∙ sym (ap (λ (x : State). f.sent ++ x.held.printed) g.same)
          ∙ sym (ap (λ (x : State). x.held.printed) (closed-under f.sent (feed rehearsing (second c) g.read)))
          ∙ sym (ap (λ (x : State). (closed rehearsing x).held.printed) (feed-under f.sent (second c) g.read))
          ∙ sym (ap (λ (x : State). (closed rehearsing (feed rehearsing x g.read)).held.printed) (second-under f.sent c))
          ∙ sym (ap (λ (x : State). (closed rehearsing (feed rehearsing (second x) g.read)).held.printed) f.same)
          ∙ sheet-law f.read g.read;
    }

-- the crate file alone, where one of its lines was refused
pub handed-crate : {a c : State} → a ≡ start → Closed a c → is_open c.held.phase ≡ false → Handed c.held.printed
handed-crate {a} {c} e f h = handed (subst (λ (x : State). Closed x c) e f) (closed-ended c h)

-- the crate file, and then the run file from the state b
pub handed-both : {a b c d : State} → a ≡ start → Closed a c → is_open c.held.phase ≡ true
    → b ≡ begin (record { phase = RunFile; previous = 0; memory = c.held.memory; printed = c.held.printed }) → Closed b d → Handed d.held.printed
handed-both {a} {b} {c} {d} e f h k g =
    handed (subst (λ (x : State). Closed x c) e f) (subst (λ (x : State). Closed x d) (k ∙ second-open c h) g)

-- a reader that has read nothing, with a line buffer, an empty crate and an output buffer
abbrev fresh : (phase : Phase) (at : ℕ) → Reader
fresh phase at = record { fill = 0; number = 0; phase = phase; previous = 0; at = at }

pub start_is : (l m o : List ℕ) → m ≡ empty_crate → state_of (fresh CrateFile 0) l m o ≡ start
start_is l m o e = states refl refl refl refl e refl

pub start-held : {l m o : List ℕ} → length l ≡ 81 → m ≡ empty_crate → Held (fresh CrateFile 0) l m o
start-held {l} {m} {o} h e = record { filled = omega arith; lined = h; within = omega arith; fit = subst FitCrate (sym e) empty-fit }

-- the last bytes are those of the reader that was handed on
pub handed-as : {s t : Reader} (o : List ℕ) → s ≡ t → Handed (take t.at o) → Handed (take s.at o)
handed-as o e h = subst (λ (x : Reader). Handed (take x.at o)) (sym e) h

-- what holds of the length that was to be written holds of the length that is answered, whether or not it was written
pub told : (P : ℕ → Type 0) (r : Result ℕ Unwritten) (at : ℕ) → MatchResult r (λ n. n ≡ at) (λ u. u.at ≡ at) → P at → MatchResult r P (λ u. P u.at)
told P (Ok n) at e p = subst P (sym e) p
told P (Err u) at e p = subst P (sym e) p
