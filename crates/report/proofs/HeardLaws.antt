-- Stations taken in turn: after each, the lines of the runs before the last are put, and the last run may go on.
-- Assumes nothing.
use Prim.Native.Nat.{ℕ, ◌+◌, ◌-◌, ◌*◌, ◌≤◌}
use mathlib.Core.Path.{◌≡◌, refl, sym, ap, subst, ◌∙◌}
use mathlib.Core.Bool.{Bool, true, false}
use mathlib.Core.List.{List, [], ◌∷◌, ◌++◌, append-nil, append_assoc}
use native.Mathlib.Omega.{arith}
use lib.ListN.{length, replicate, length-append, length-replicate, replicate-append-replicate}
use Rattle.text.specs.Paste.{Put}
use Rattle.text.proofs.Paste.{put_then}
use Rattle.sheet.proofs.Room.{put-nothing, put-end, of-text}
use Rattle.report.specs.Report.{PartsAs, EachParts, alike, run, runs, run_text, runs_text}
use Rattle.report.specs.Lines.{NoneParts, Taken, PutRuns}
use Rattle.report.specs.declared.Parting.{Parting}
use Rattle.std.specs.Prelude.{Option, None}
use Rattle.report.specs.declared.LastRun.{LastRun}
use Rattle.report.proofs.RunLaws.{alike-equal, apart_none, apart_other, row-text, text-end}
use Rattle.report.proofs.LineLaws.{run_short, each-nowhere, each_more}

abbrev last_run : ℕ → Option Parting → ℕ → LastRun
last_run a x at = record { low = a; parting = x; at = at }

-- ---- one station: the answer of the test says which case holds
pub taken-same : (o : List ℕ) (k : ℕ) (x : Option Parting) (last : LastRun) {b : Bool} → b ≡ alike last.parting x → b ≡ true
    → Taken (alike last.parting x) last o k x o last
taken-same o k x last e h = subst (λ (b : Bool). Taken b last o k x o last) (sym h ∙ e) (refl, refl)

pub taken-other : {o p : List ℕ} {next : ℕ} (k : ℕ) (x : Option Parting) (last : LastRun) {b : Bool} → b ≡ alike last.parting x → b ≡ false
    → Put o last.at (run_text (run last.low (k - 1) last.parting)) p next
    → Taken (alike last.parting x) last o k x p (last_run k x next)
taken-other {o} {p} {next} k x last e h f =
    subst (λ (b : Bool). Taken b last o k x p (last_run k x next)) (sym h ∙ e) (f, refl, refl)

-- ---- the stations before k were taken: those before the last run (`done`) are in the lines that were put (`text`), and the others, `many`, all part as the last run
-- does; whatever follows (`zs`), its lines stand behind the text (`cut`)
pub record Heard (us ws before : List ℕ) (k : ℕ) (after : List ℕ) (last : LastRun) : Type 0 where
  pub done : List (Option Parting)
  pub many : ℕ
  pub text : List ℕ
  pub starts : 1 + length done ≡ last.low
  pub ends : last.low + many ≡ k
  pub some : many ≡ 0 → last.parting ≡ None
  pub each : EachParts us ws 1 (done ++ replicate many last.parting)
  pub cut : (zs : List (Option Parting)) → runs_text (runs 1 (done ++ (replicate many last.parting ++ zs)))
      ≡ text ++ runs_text (runs last.low (replicate many last.parting ++ zs))
  pub put : Put before 0 text after last.at
  pub short : last.at ≤ 80 * (k - 1)

-- before the first that may part
pub heard-start : {us ws : List ℕ} (o : List ℕ) {from : ℕ} {last : LastRun} → 1 ≤ from → NoneParts us ws 1 from
    → last ≡ last_run 1 None 0 → Heard us ws o from o last
heard-start {us} {ws} o {from} {last} h b e = subst (Heard us ws o from o) (sym e) start
  where
    d : 1 + (from - 1) ≡ from
    d = omega arith

    start : Heard us ws o from o (last_run 1 None 0)
    start =
        record {
          done = [];
          many = from - 1;
          text = [];
          starts = refl;
          ends = d;
          some = λ n. refl;
          each = each-nowhere 1 (from - 1) (subst (NoneParts us ws 1) (sym d) b);
          cut = λ zs. refl;
          put = put-nothing o 0;
          short = omega arith;
        }

-- one more in the row
row_more : (m : ℕ) (x : Option Parting) (zs : List (Option Parting)) → replicate (m + 1) x ++ zs ≡ replicate m x ++ (x ∷ zs)
row_more m x zs = ap (λ (l : List (Option Parting)). l ++ zs) (sym (replicate-append-replicate m 1 x)) ∙ append_assoc (replicate m x) (replicate 1 x) zs

module _ {us ws o p : List ℕ} {k : ℕ} {last : LastRun} {x : Option Parting} (f : Heard us ws o k p last) (g : PartsAs us ws k x) where
  heard-long : 1 + length (f.done ++ replicate f.many last.parting) ≡ k
  heard-long = simp (length-append, length-replicate) (omega (arith, f.starts, f.ends))

  heard-each : EachParts us ws 1 ((f.done ++ replicate f.many last.parting) ++ (x ∷ []))
  heard-each = each_more 1 (f.done ++ replicate f.many last.parting) f.each (subst (λ (n : ℕ). PartsAs us ws n x) (sym heard-long) g)

  -- a station that goes into the last run
  heard-same : last.parting ≡ x → Heard us ws o (k + 1) p last
  heard-same e =
      let y = last.parting in
      let c : (f.done ++ replicate f.many y) ++ (y ∷ []) ≡ f.done ++ replicate (f.many + 1) y =
      append_assoc f.done (replicate f.many y) (y ∷ [])
      ∙ ap (λ (l : List (Option Parting)). f.done ++ l) (sym (row_more f.many y []) ∙ append-nil (replicate (f.many + 1) y)) in
      record {
        done = f.done;
        many = f.many + 1;
        text = f.text;
        starts = f.starts;
        ends = omega (arith, f.ends);
        some = λ n. absurd (omega (arith, n));
        each = subst (EachParts us ws 1) c (subst (λ (z : Option Parting). EachParts us ws 1 ((f.done ++ replicate f.many y) ++ (z ∷ []))) (sym e) heard-each);
        cut = λ zs. rw (row_more f.many y zs) (f.cut (y ∷ zs));
        put = f.put;
        short = omega (arith, f.short);
      }

  -- a station that begins the next
  heard-other : {q : List ℕ} {r : LastRun} → alike last.parting x ≡ false → Taken false last p k x q r → Heard us ws o (k + 1) q r
  heard-other {q} {r} h t =
      let y = last.parting in
      let line = run_text (run last.low (k - 1) y) in
      let next : Heard us ws o (k + 1) q (last_run k x r.at) =
      record {
        done = f.done ++ replicate f.many y;
        many = 1;
        text = f.text ++ line;
        starts = heard-long;
        ends = refl;
        some = λ n. absurd (omega (arith, n));
        each = heard-each;
        cut = λ zs. ap (λ (l : List (Option Parting)). runs_text (runs 1 l)) (append_assoc f.done (replicate f.many y) (x ∷ zs))
            ∙ f.cut (x ∷ zs)
            ∙ ap (λ (l : List ℕ). f.text ++ l) (row-text f.many last.low k y (x ∷ zs) (omega (arith, f.starts, f.ends)) f.ends f.some
            (apart_other (k - 1) y x zs h))
            ∙ sym (append_assoc f.text line (runs_text (runs k (x ∷ zs))));
        put = put_then f.put t.0 (omega arith);
        short = omega (arith, f.short, put-end 80 t.0 (run_short last.low (k - 1) y), f.starts, f.ends);
      } in
      let e : last_run k x r.at ≡ r = ap (λ (n : ℕ). last_run n x r.at) (sym t.1) ∙ ap (λ (z : Option Parting). last_run r.low z r.at) (sym t.2) in
      subst (Heard us ws o (k + 1) q) e next

pub heard-next : {us ws o p q : List ℕ} {k : ℕ} {last r : LastRun} {x : Option Parting} → Heard us ws o k p last → PartsAs us ws k x
    → Taken (alike last.parting x) last p k x q r → Heard us ws o (k + 1) q r
heard-next {us} {ws} {o} {p} {q} {k} {last} {r} {x} f g t = go (alike last.parting x) refl t
  where
    go : (b : Bool) → alike last.parting x ≡ b → Taken b last p k x q r → Heard us ws o (k + 1) q r
    go true h (e, d) = rw (d, e) (heard-same f g (alike-equal last.parting x h))
    go false h t = heard-other f g h t

-- all stations
pub heard_all : {us ws o p q : List ℕ} {k next : ℕ} {last : LastRun} → k ≡ 24 → Heard us ws o k p last
    → Put p last.at (run_text (run last.low 23 last.parting)) q next → PutRuns us ws o q next
heard_all {us} {ws} {o} {p} {q} {k} {next} {last} e f g =
    let y = last.parting in
    let row = replicate f.many y in
    let line = run_text (run last.low 23 y) in
    let end : last.low + f.many ≡ 24 = omega (arith, e, f.ends) in
    let c : runs_text (runs 1 (f.done ++ row)) ≡ f.text ++ line =
    ap (λ (l : List (Option Parting)). runs_text (runs 1 (f.done ++ l))) (sym (append-nil row))
    ∙ f.cut []
    ∙ ap (λ (l : List ℕ). f.text ++ l)
    (row-text f.many last.low 24 y [] (omega arith) end f.some (apart_none 23 y) ∙ text-end line) in
    record {
      stations = f.done ++ row;
      all = (simp (length-append, length-replicate) (omega (arith, f.starts, f.ends)), f.each);
      put = of-text (sym c) (put_then f.put g (omega arith));
      short = omega (arith, f.short, put-end 80 g (run_short last.low 23 last.parting));
    }
