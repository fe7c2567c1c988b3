-- What a fine verdict says of a crate line: a station of the crate above the one before and not covered, and a module of the table of kinds with room for its width.
use mathlib.Core.Path.{◌≡◌, refl}
use mathlib.Core.Bool.{Bool, true, false, false≢true, ◌||◌, and-eq-true_iff}
use Prim.Native.Nat.{ℕ, ◌≤◌, ◌<◌}
use native.Mathlib.Omega.{arith}
use borrow.Author.Tests.{leb-true, ltb-true, eqb-true}
use lib.Dec.{leb, ltb, eqb}
use Rattle.kinds.specs.Table.{in_table, FitModule}
use Rattle.kinds.specs.declared.Module.{Module}
use Rattle.step.specs.declared.Refusal.TheVariants.{NoSuchStation, BadModule, OutOfOrder, CoveredStation}
use Rattle.step.specs.Verdict.{within, is_fine}
use Rattle.step.specs.Modules.{fits_kind, has_room, fits_module, module_verdict}
use Rattle.step.proofs.Fine.{unless-fine, within-bounds}
use Rattle.std.specs.Prelude.{Ok}

-- a module two stations wide that has room stands below 23
room-below : (p : Module) → has_room p ≡ true → p.wide ≡ 2 → p.n < 23
room-below p e two = go (ltb p.wide 2) (ltb p.n 23) (ltb-true p.wide 2) (ltb-true p.n 23) e
  where
    go : (s t : Bool) → (s ≡ true → p.wide < 2) → (t ≡ true → p.n < 23) → (s || t) ≡ true → p.n < 23
    go true t narrow below e = absurd (omega (arith, narrow refl, two))
    go false true narrow below e = below refl
    go false false narrow below e = absurd (false≢true e)

module _ (previous covered : ℕ) (p : Module) (fine : is_fine (module_verdict previous covered p) ≡ true) where
  -- a fine line passed the tests
  passed : (within 1 p.n 23 ≡ true) × (ltb previous p.n ≡ true) × (eqb covered 0 ≡ true) × (leb 1 p.kind ≡ true)
      × (in_table p.kind p.r p.wide ≡ true) × (has_room p ≡ true)
  unfolding module_verdict
  passed =
      let s = unless-fine (within 1 p.n 23) NoSuchStation _ fine in
      let o = unless-fine (ltb previous p.n) OutOfOrder _ s.1 in
      let c = unless-fine (eqb covered 0) CoveredStation _ o.1 in
      let m = unless-fine (fits_module p) BadModule (Ok tt) c.1 in
      let f = (and-eq-true_iff (fits_kind p) (has_room p)).0 m.0 in
      let k = (and-eq-true_iff (leb 1 p.kind) (in_table p.kind p.r p.wide)).0 f.0 in
      (s.0, o.0, c.0, k.0, k.1, f.1)

  -- in a station that is not covered
  pub free-fine : covered ≡ 0
  free-fine = eqb-true covered 0 passed.2

  -- it names a module, not an empty station
  pub kind-fine : 1 ≤ p.kind
  kind-fine = leb-true 1 p.kind passed.3

  -- and the module may stand in the crate
  pub module-fine : FitModule p
  module-fine =
      let s = within-bounds 1 p.n 23 passed.0 in
      record {
        first = s.0;
        last = s.1;
        kind = kind-fine;
        table = passed.4;
        room = room-below p passed.5;
      }
