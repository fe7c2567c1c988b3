-- The cases of the state machine that the reader's branches take.
-- Assumes nothing.
use Prim.Native.Nat.{ℕ, ◌+◌, ◌≤◌}
use mathlib.Core.Path.{◌≡◌, refl, sym, ap, ◌∙◌}
use mathlib.Core.Bool.{Bool, true, false, cond}
use mathlib.Core.List.{List}
use native.Mathlib.Omega.{arith}
use lib.ListN.{length, replicate, length-append}
use lib.Seq.{length-take-le}
use Rattle.lines.specs.Cutting.{Cutting, opened, ended}
use Rattle.lines.proofs.CuttingLaws.{shut-ended as stopped}
use Rattle.lines.proofs.CuttingLaws as cutting
use Rattle.text.specs.Paste.{pasted, Put}
use Rattle.dataway.specs.Crate.{FitCrate}
use Rattle.dataway.proofs.CrateLaws.{facts-crate}
use Rattle.step.specs.declared.Refusal.{Refusal}
use Rattle.kinds.specs.declared.Module.{Module}
use Rattle.runfile.specs.Read.{read_line, read_module}
use Rattle.controller.specs.Placing.{Installed, place_of}
use Rattle.controller.specs.Steps.{Performed, order, done_of}
use Rattle.controller.proofs.StepLaws.{step-done}
use Rattle.rehearsal.proofs.ModuleLaws.{install-fit, install-bad}
use Rattle.sheet.specs.Sheet.{station_of, line_order}
use Rattle.reader.specs.declared.Phase.{Phase}
use Rattle.reader.specs.Reading.{Work, State, reads_run, is_open, next, after_module, after_step, uses_buffer, module_line, run_line, answered, rehearsing}
use Rattle.reader.proofs.Buffers.{as-good}
use Rattle.std.specs.Prelude.{Ok, Err}
use Rattle.step.specs.Results.{ModuleLine, Reading, Verdict}

-- two states with the same parts are one
pub states : {p q m n o x : List ℕ} {i j d e : ℕ} {k l : Phase} → p ≡ q → i ≡ j → k ≡ l → d ≡ e → m ≡ n → o ≡ x
    → ◌≡◌ {A = Cutting Work} (record { part = p; number = i; held = record { phase = k; previous = d; memory = m; printed = o } })
    (record { part = q; number = j; held = record { phase = l; previous = e; memory = n; printed = x } })
states a b c d e f = cc

module _ (s : State) where
  -- no line is read any more
  pub shut-ended : is_open s.held.phase ≡ false → opened rehearsing s ≡ false
  shut-ended h = stopped rehearsing s h

  -- ---- a line ends
  pub run-answered : reads_run s.held.phase ≡ true → next (run_line s.part) s ≡ ended rehearsing s
  unfolding ended answered
  run-answered h = sym (ap (λ (t : Bool). next (λ k x. cond t (run_line s.part k x) (module_line s.part k x)) s) h)

  pub module-answered : reads_run s.held.phase ≡ false → next (module_line s.part) s ≡ ended rehearsing s
  unfolding ended answered
  module-answered h = sym (ap (λ (t : Bool). next (λ k x. cond t (run_line s.part k x) (module_line s.part k x)) s) h)

module _ (s : State) (l : List ℕ) where
  -- a crate line that holds no module
  pub line-bad : (q : Refusal) (n : ℕ) → FitCrate s.held.memory → read_module l ≡ Err q → next (after_module (Err q) n s.held.memory) s ≡ next (module_line l) s
  unfolding module_line
  line-bad q n f e =
      sym (ap (λ (i : Installed). next (after_module i.verdict (station_of (read_module l)) i.memory) s)
      (install-bad s.held.memory s.held.previous (read_module l) q (facts-crate s.held.memory f) e))

  -- a crate line that holds one, with its verdict w
  pub line-placed : (p : Module) (v w : Verdict) (m : List ℕ) → FitCrate s.held.memory → read_module l ≡ Ok p
      → place_of s.held.memory s.held.previous (Ok p) ≡ record { verdict = v; memory = m } → v ≡ w → next (after_module w p.n m) s ≡ next (module_line l) s
  unfolding module_line
  line-placed p v w m f e h g =
      ap (λ (x : Verdict). next (after_module x p.n m) s) (sym g)
      ∙ sym (ap (λ (i : Installed). next (after_module i.verdict (station_of (read_module l)) i.memory) s)
      (install-fit s.held.memory s.held.previous (read_module l) (Ok p) (record { verdict = v; memory = m }) (facts-crate s.held.memory f) e h)
      ∙ ap (λ (r : ModuleLine). next (after_module v (station_of r) m) s) e)

  -- a run line, lent a buffer b that is 512 words of 0 where it is looked at
  pub line-done : (r : Reading) (b : List ℕ) → FitCrate s.held.memory → r ≡ read_line l → (uses_buffer r ≡ true → b ≡ replicate 512 0)
      → next (after_step (done_of s.held.memory (order r b))) s ≡ next (run_line l) s
  unfolding run_line
  line-done r b f e h =
      cutting.states refl refl (as-good b (replicate 512 0) (s.number + 1) s.held r h)
      ∙ sym (ap (λ (p : Performed). next (after_step p) s)
      (step-done s.held.memory (line_order l) f
      ∙ ap (λ (x : Reading). done_of s.held.memory (order x (replicate 512 0))) (sym e)))

-- ---- text that was put: where it ends
length-paste : (o : List ℕ) (i : ℕ) (t : List ℕ) → i ≤ length o → i + length t ≤ length (pasted o i t)
unfolding pasted
length-paste o i t h = simp (length-append, length-take-le i o h) (omega arith)

pub put-within : {o p t : List ℕ} {i j : ℕ} → Put o i t p j → i ≤ length o → j ≤ length p
put-within {o} {p} {t} {i} {j} f h = rw (f.place, f.buffer) (length-paste o i t h)
