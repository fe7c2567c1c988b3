-- THE LAW OF THE READER: two files read byte by byte, in parts of any length, print exactly their sheet.
-- Assumes nothing.
use Prim.Native.Nat.{ℕ, ◌+◌}
use mathlib.Core.Path.{◌≡◌, refl, sym, ap, subst, ◌∙◌}
use mathlib.Core.Bool.{Bool, true, false, cond, ◌&&◌}
use mathlib.Core.List.{List, [], ◌∷◌, ◌++◌, map, append_assoc, append-nil}
use native.Mathlib.Omega.{arith}
use lib.Dec.{ltb, eqb}
use lib.ListN.{length, take, replicate}
use Rattle.runfile.specs.Read.{read_module}
use Rattle.runfile.proofs.Cut.{cut_line, cut-module}
use Rattle.regroup.specs.Lists.{outs}
use Rattle.dataway.specs.Crate.{empty_crate}
use Rattle.controller.specs.Steps.{order, leaves, gives, step_of}
use Rattle.rehearsal.specs.Modules.{install_of}
use Rattle.sheet.specs.Answers.{step_text, crate_text}
use Rattle.lines.specs.Lines.{lines_of}
use Rattle.lines.specs.Cutting.{fresh, opened, ended, kept, step, feed, closed, after_lines, feed_parts, join}
use Rattle.lines.proofs.CuttingLaws.{feed-append, feed-shut, closed-shut}
use Rattle.lines.proofs.Whole.{file-law, feed-parts}
use Rattle.sheet.specs.Sheet.{Built, whole, broken, station_of, build_from, line_order, run_text, printed, sheet_of}
use Rattle.reader.specs.declared.Phase.{Phase}
use Rattle.reader.specs.declared.Phase.TheVariants.{CrateFile, RunFile, Ended}
use Rattle.reader.specs.Reading.{Work, State, reads_run, is_open, next, after_module, after_step, module_line, run_line, answered, rehearsing, start, second, under, Took}
use Rattle.reader.proofs.ReadingLaws.{states, shut-ended}
use Rattle.std.specs.Prelude.{Ok, Err}
use Rattle.step.specs.Results.{ModuleLine, Reading, Verdict}

-- ---- what is printed before stays before
cond-ap : {A B : Type 0} (f : A → B) (t : Bool) (x y : A) → cond t (f x) (f y) ≡ f (cond t x y)
cond-ap f true x y = refl
cond-ap f false x y = refl

module-under : (q : List ℕ) (v : Verdict) (n : ℕ) (m : List ℕ) (s : State) → next (after_module v n m) (under q s) ≡ under q (next (after_module v n m) s)
module-under q (Ok _) n m s = refl
module-under q (Err r) n m s = states refl refl refl refl refl (append_assoc q s.held.printed (crate_text (s.number + 1) r))

ended-under : (q : List ℕ) (s : State) → ended rehearsing (under q s) ≡ under q (ended rehearsing s)
unfolding ended answered module_line run_line
ended-under q s = go (reads_run s.held.phase)
  where
    go : (t : Bool)
        → next (λ k h. cond t (run_line s.part k h) (module_line s.part k h)) (under q s)
        ≡ under q (next (λ k h. cond t (run_line s.part k h) (module_line s.part k h)) s)
    go true =
        let out = (step_of s.held.memory (line_order s.part)).out in
        states refl refl refl refl refl (append_assoc q s.held.printed (step_text (s.number + 1) out))
    go false =
        let i = install_of s.held.memory s.held.previous (read_module s.part) in
        module-under q i.verdict (station_of (read_module s.part)) i.memory s

step-under : (q : List ℕ) (s : State) (b : ℕ) → step rehearsing (under q s) b ≡ under q (step rehearsing s b)
unfolding step kept
step-under q s b =
    let o = opened rehearsing s in
    ap (λ (x : State). cond o (cond (eqb b 10) x (under q (kept s b))) (under q s)) (ended-under q s)
    ∙ ap (λ (x : State). cond o x (under q s)) (cond-ap (under q) (eqb b 10) (ended rehearsing s) (kept s b))
    ∙ cond-ap (under q) o (cond (eqb b 10) (ended rehearsing s) (kept s b)) s

pub feed-under : (q : List ℕ) (s : State) (t : List ℕ) → feed rehearsing (under q s) t ≡ under q (feed rehearsing s t)
feed-under q s [] = refl
feed-under q s (b ∷ t) = ap (λ (x : State). feed rehearsing x t) (step-under q s b) ∙ feed-under q (step rehearsing s b) t

pub closed-under : (q : List ℕ) (s : State) → closed rehearsing (under q s) ≡ under q (closed rehearsing s)
unfolding closed
closed-under q s =
    let t = opened rehearsing s && ltb 0 (length s.part) in
    ap (λ (x : State). cond t x (under q s)) (ended-under q s) ∙ cond-ap (under q) t (ended rehearsing s) s

-- what was taken and handed out in two parts
pub took-both : {a b c : State} {t u : List ℕ} → Took a t b → Took b u c → Took a (t ++ u) c
took-both {a} {b} {c} {t} {u} f g =
    record {
      sent = f.sent ++ g.sent;
      same = feed-append rehearsing a t u
          ∙ ap (λ (x : State). feed rehearsing x u) f.same
          ∙ feed-under f.sent b u
          ∙ ap (under f.sent) g.same
          ∙ states refl refl refl refl refl (sym (append_assoc f.sent g.sent c.held.printed));
    }

pub took-none : (a : State) → Took a [] a
took-none a = record { sent = []; same = refl }

pub took-as : {a b : State} {t u : List ℕ} → t ≡ u → Took a t b → Took a u b
took-as {a} {b} e f = record { sent = f.sent; same = ap (feed rehearsing a) (sym e) ∙ f.same }

-- nothing was handed out
pub took-kept : {a b : State} {t : List ℕ} → b ≡ feed rehearsing a t → Took a t b
took-kept {a} {b} {t} e = record { sent = []; same = sym e }

-- ---- lines, one after another
-- of a line the first 81 bytes say as much as the whole
short : (k : ℕ) (l : List ℕ) (s : Work) → answered k (take 81 l) s ≡ answered k l s
unfolding answered module_line run_line
short k l s =
    ap (λ (r : Reading). cond (reads_run s.phase) (after_step (step_of s.memory (order r (replicate 512 0))) k s) (module_line (take 81 l) k s)) (cut_line l)
    ∙ ap (λ (r : ModuleLine). let i = install_of s.memory s.previous r in
    cond (reads_run s.phase) (run_line l k s) (after_module i.verdict (station_of r) i.memory k s)) (cut-module l)

-- none is read once the program has ended
no_more : (ls : List (List ℕ)) (k : ℕ) (s : Work) → is_open s.phase ≡ false → after_lines rehearsing k s ls ≡ s
no_more [] k s e = refl
no_more (l ∷ ls) k s e = ap (λ (t : Bool). cond t (after_lines rehearsing (k + 1) (answered (k + 1) l s) ls) s) e

-- ---- the lines of the crate file
-- what is held after the crate file's lines has to do with what they come to
abbrev Ends : Built → Work → Type 0
Ends (whole m) s = (s.phase ≡ CrateFile) × (s.memory ≡ m) × (s.printed ≡ [])
Ends (broken k q) s = (s.phase ≡ Ended) × (s.printed ≡ crate_text k q)

-- one line, with the law for the lines after it
built-line : (ls : List (List ℕ))
    → ((k : ℕ) (x : Work) → x.phase ≡ CrateFile → x.printed ≡ [] → Ends (build_from (k + 1) x.previous x.memory ls) (after_lines rehearsing k x ls))
    → (k : ℕ) (s : Work) → s.printed ≡ [] → (v : Verdict) (n : ℕ) (m : List ℕ)
    → Ends (elim v [ (Ok tt) ↦ build_from (k + 1 + 1) n m ls | Err q ↦ broken (k + 1) q ]) (after_lines rehearsing (k + 1) (after_module v n m (k + 1) s) ls)
built-line ls ih k s o (Ok _) n m = ih (k + 1) (after_module (Ok tt) n m (k + 1) s) refl o
built-line ls ih k s o (Err q) n m =
    let x = after_module (Err q) n m (k + 1) s in
    let r : after_lines rehearsing (k + 1) x ls ≡ x = no_more ls (k + 1) x refl in
    (ap (λ (y : Work). y.phase) r, ap (λ (y : Work). y.printed) r ∙ ap (λ (t : List ℕ). t ++ crate_text (k + 1) q) o)

built : (ls : List (List ℕ)) (k : ℕ) (s : Work) → s.phase ≡ CrateFile → s.printed ≡ []
    → Ends (build_from (k + 1) s.previous s.memory ls) (after_lines rehearsing k s ls)
unfolding build_from answered module_line
built [] k s p o = (p, refl, o)
built (l ∷ ls) k s p o =
    let i = install_of s.memory s.previous (read_module l) in
    let first : after_lines rehearsing k s (l ∷ ls) ≡ after_lines rehearsing (k + 1) (module_line l (k + 1) s) ls =
    ap (λ (t : Bool). cond t (after_lines rehearsing (k + 1) (answered (k + 1) l s) ls) s) (ap is_open p)
    ∙ ap (λ (t : Bool). after_lines rehearsing (k + 1) (cond t (run_line l (k + 1) s) (module_line l (k + 1) s)) ls) (ap reads_run p) in
    subst (Ends (build_from (k + 1) s.previous s.memory (l ∷ ls))) (sym first)
    (built-line ls (λ j x. built ls j x) k s o i.verdict (station_of (read_module l)) i.memory)

-- ---- the lines of the run file
ran : (ls : List (List ℕ)) (k : ℕ) (s : Work) → s.phase ≡ RunFile
    → (after_lines rehearsing k s ls).printed ≡ s.printed ++ run_text (k + 1) (outs leaves gives s.memory (map line_order ls))
unfolding answered run_line
ran [] k s p = sym (append-nil s.printed)
ran (l ∷ ls) k s p =
    ap (λ (t : Bool). (cond t (after_lines rehearsing (k + 1) (answered (k + 1) l s) ls) s).printed) (ap is_open p)
    ∙ ap (λ (t : Bool). (after_lines rehearsing (k + 1) (cond t (run_line l (k + 1) s) (module_line l (k + 1) s)) ls).printed) (ap reads_run p)
    ∙ ran ls (k + 1) (run_line l (k + 1) s) refl
    ∙ append_assoc s.printed (step_text (k + 1) (gives s.memory (line_order l)))
    (run_text (k + 1 + 1) (outs leaves gives (leaves s.memory (line_order l)) (map line_order ls)))

-- ---- both files
of-built : (b : Built) (t : List ℕ) (x : State) → Ends b x.held → (closed rehearsing (feed rehearsing (second x) t)).held.printed ≡ printed b t
unfolding printed
of-built (whole m) t x h =
    let y : Work = record { phase = RunFile; previous = 0; memory = m; printed = [] } in
    let e : second x ≡ fresh y =
    ap (λ (k : Phase). cond (is_open k) (fresh (record { phase = RunFile; previous = 0; memory = x.held.memory; printed = x.held.printed })) x) h.0
    ∙ states refl refl refl refl h.1 h.2 in
    ap (λ (z : State). (closed rehearsing (feed rehearsing z t)).held.printed) e
    ∙ ap (λ (z : Work). z.printed) (file-law rehearsing short y t)
    ∙ ran (lines_of t) 0 y refl
of-built (broken k q) t x h =
    let shut : opened rehearsing x ≡ false = shut-ended x (ap is_open h.0) in
    let e : second x ≡ x =
    ap (λ (j : Phase). cond (is_open j) (fresh (record { phase = RunFile; previous = 0; memory = x.held.memory; printed = x.held.printed })) x) h.0 in
    ap (λ (z : State). (closed rehearsing (feed rehearsing z t)).held.printed) e
    ∙ ap (λ (z : State). (closed rehearsing z).held.printed) (feed-shut rehearsing x t shut)
    ∙ ap (λ (z : State). z.held.printed) (closed-shut rehearsing x shut)
    ∙ h.1

pub sheet-law : (crate_file run_file : List ℕ)
    → (closed rehearsing (feed rehearsing (second (closed rehearsing (feed rehearsing start crate_file))) run_file)).held.printed ≡ sheet_of crate_file run_file
unfolding sheet_of
sheet-law crate_file run_file =
    let h : Work = record { phase = CrateFile; previous = 0; memory = empty_crate; printed = [] } in
    let b = build_from 1 0 empty_crate (lines_of crate_file) in
    of-built b run_file (closed rehearsing (feed rehearsing start crate_file))
    (subst (Ends b) (sym (file-law rehearsing short h crate_file)) (built (lines_of crate_file) 0 h refl refl))

-- ---- whatever the parts in which the files are read
pub parts-law : (crate_parts run_parts : List (List ℕ))
    → (closed rehearsing (feed_parts rehearsing (second (closed rehearsing (feed_parts rehearsing start crate_parts))) run_parts)).held.printed
    ≡ sheet_of (join crate_parts) (join run_parts)
parts-law crate_parts run_parts =
    ap (λ (x : State). (closed rehearsing (feed_parts rehearsing (second (closed rehearsing x)) run_parts)).held.printed) (feed-parts rehearsing start crate_parts)
    ∙ ap (λ (x : State). (closed rehearsing x).held.printed)
    (feed-parts rehearsing (second (closed rehearsing (feed rehearsing start (join crate_parts)))) run_parts)
    ∙ sheet-law (join crate_parts) (join run_parts)
