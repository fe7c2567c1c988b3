-- The lines of the refusal numbers, and how stations, refusal numbers and verdict make the report.
-- Assumes nothing.
use Prim.Native.Nat.{ℕ, zero, suc, ◌+◌, ◌-◌, ◌≤◌}
use mathlib.Core.Path.{◌≡◌, refl, sym, ap, subst, ◌∙◌}
use mathlib.Core.List.{List, [], ◌∷◌, ◌++◌, append-nil, append_assoc}
use native.Mathlib.Nat.{add-zero}
use native.Mathlib.Omega.{arith}
use lib.ListN.{length, replicate, length-append, length-replicate}
use Rattle.text.specs.Text.{bytes, field}
use Rattle.text.specs.Paste.{Put}
use Rattle.text.proofs.Paste.{put_then}
use Rattle.sheet.proofs.Room.{put-nothing, put-end, of-text}
use Rattle.step.specs.Refusals.{refusals}
use Rattle.verdict.specs.Watches.{last_watch}
use Rattle.verdict.specs.Compared.{Compared}
use Rattle.verdict.specs.declared.Parted.{Parted}
use Rattle.report.specs.Report.{PartsAs, runs, line_text, runs_text, refusals_text, PutReport}
use Rattle.report.specs.Lines.{NoneParts, PutRuns, PutRefusals, PutLines}
use Rattle.report.specs.declared.Parting.{Parting}
use Rattle.std.specs.Prelude.{Option, None, Some}
use Rattle.report.proofs.RunLaws.{apart_none, row-text, text-end}
use Rattle.report.proofs.LineLaws.{refusal-short, each-nowhere, each_more}

-- ---- the refusal numbers
refusals-nowhere : (q n : ℕ) → refusals_text q (replicate n None) ≡ []
unfolding refusals_text
refusals-nowhere q zero = refl
refusals-nowhere q (suc n) = refusals-nowhere (suc q) n

pub refusals-start : {us ws : List ℕ} (o : List ℕ) (at from : ℕ) → 24 ≤ from → NoneParts us ws 24 from → PutRefusals us ws from o at o at
refusals-start {us} {ws} o at from h b =
    let d : 24 + (from - 24) ≡ from = omega arith in
    record {
      refused = replicate (from - 24) None;
      all = (rw (length-replicate {A = Option Parting} (from - 24) None) d, each-nowhere 24 (from - 24) (subst (NoneParts us ws 24) (sym d) b));
      put = of-text (sym (refusals-nowhere 1 (from - 24))) (put-nothing o at);
      short = omega arith;
    }

refusals-more : (q : ℕ) (xs : List (Option Parting)) (x : Option Parting)
    → refusals_text q (xs ++ (x ∷ [])) ≡ refusals_text q xs ++ line_text (field "refused=" (q + length xs)) x
unfolding refusals_text
refusals-more q [] x = rw (add-zero q) (append-nil (line_text (field "refused=" q) x))
refusals-more q (y ∷ ys) x =
    let e : suc q + length ys ≡ q + suc (length ys) = omega arith in
    ap (λ (l : List ℕ). line_text (field "refused=" q) y ++ l) (refusals-more (suc q) ys x ∙ rw e)
    ∙ sym (append_assoc (line_text (field "refused=" q) y) (refusals_text (suc q) ys) (line_text (field "refused=" (q + suc (length ys))) x))

pub refusals-next : {us ws o p q : List ℕ} {k at next end : ℕ} {x : Option Parting} → PutRefusals us ws k o at p next → PartsAs us ws k x → at ≤ length o
    → Put p next (line_text (field "refused=" (k - 23)) x) q end → PutRefusals us ws (k + 1) o at q end
refusals-next {us} {ws} {k = k} {x = x} f g h t =
    let e : 1 + length f.refused ≡ k - 23 = omega (arith, f.all.0) in
    let c : refusals_text 1 (f.refused ++ (x ∷ [])) ≡ refusals_text 1 f.refused ++ line_text (field "refused=" (k - 23)) x =
    refusals-more 1 f.refused x ∙ ap (λ (n : ℕ). refusals_text 1 f.refused ++ line_text (field "refused=" n) x) e in
    record {
      refused = f.refused ++ (x ∷ []);
      all = (simp length-append (omega (arith, f.all.0)), each_more 24 f.refused f.all.1 (subst (λ (n : ℕ). PartsAs us ws n x) (sym f.all.0) g));
      put = of-text (sym c) (put_then f.put t h);
      short = omega (arith, f.short, f.all.0, put-end 80 t (refusal-short (k - 23) x));
    }

-- ---- all lines
-- where no station parts
nowhere-text : runs_text (runs 1 (replicate 23 None)) ≡ []
nowhere-text = row-text 23 1 24 None [] (omega arith) refl (λ e. refl) (apart_none 23 None) ∙ text-end []

pub lines-refusals : {us ws o p : List ℕ} {from next : ℕ} → 24 ≤ from → NoneParts us ws 1 from → PutRefusals us ws (last_watch + 1) o 0 p next
    → PutLines us ws o p next
lines-refusals h b f =
    record {
      stations = replicate 23 None;
      refused = f.refused;
      all-stations = (refl, each-nowhere 1 23 (λ n p q. b n p (omega (arith, q))));
      all-refused = (omega (arith, f.all.0), f.all.1);
      put = of-text (sym (ap (λ (l : List ℕ). l ++ refusals_text 1 f.refused) nowhere-text)) f.put;
      short = omega (arith, f.short);
    }

pub lines-both : {us ws o p q : List ℕ} {at next : ℕ} → PutRuns us ws o p at → PutRefusals us ws (last_watch + 1) p at q next → PutLines us ws o q next
lines-both f g =
    record {
      stations = f.stations;
      refused = g.refused;
      all-stations = f.all;
      all-refused = (omega (arith, g.all.0), g.all.1);
      put = put_then f.put g.put (omega arith);
      short = omega (arith, f.short, g.short);
    }

-- ---- the report
pub report-same : {us ws o p : List ℕ} {next : ℕ} {v : Option Parted} → v ≡ None → Compared us ws v → Put o 0 (bytes "regrouped=1\n") p next
    → PutReport us ws o p next
report-same {us} {ws} e c f =
    let h : Compared us ws None = subst (Compared us ws) e c in
    let b : (a c : ℕ) → NoneParts us ws a c = λ a c n p q. (None, h.0 n, refl) in
    record {
      text = bytes "regrouped=1\n";
      report = record {
        stations = replicate 23 None;
        refused = replicate refusals None;
        verdict = None;
        all-stations = (refl, each-nowhere 1 23 (b 1 24));
        all-refused = (refl, each-nowhere 24 refusals (b 24 (last_watch + 1)));
        compared = h;
        printed = sym (rw (nowhere-text, refusals-nowhere 1 refusals));
      };
      put = f;
    }

pub report-parted : {us ws o p q : List ℕ} {at next : ℕ} {v : Option Parted} (d : Parted) → v ≡ Some d → Compared us ws v → PutLines us ws o p at
    → Put p at (bytes "regrouped=0\n") q next → PutReport us ws o q next
report-parted {us} {ws} d e c f g =
    record {
      text = runs_text (runs 1 f.stations) ++ refusals_text 1 f.refused ++ bytes "regrouped=0\n";
      report = record {
        stations = f.stations;
        refused = f.refused;
        verdict = Some d;
        all-stations = f.all-stations;
        all-refused = f.all-refused;
        compared = subst (Compared us ws) e c;
        printed = refl;
      };
      put = put_then f.put g (omega arith);
    }
