-- When a crate line is refused (RULES 6.2, 6.10, 6.11, 6.19, 6.23): its station, then its order after the line before, then the cover of its station,
-- then its kind, register count and width.
use Rattle.std.specs.Prelude.{ℕ, Bool, ◌&&◌, ◌||◌, leb, ltb, eqb, Ok}
use Rattle.kinds.specs.Table.{in_table}
use Rattle.kinds.specs.declared.Module.{Module}
use Rattle.step.specs.declared.Refusal.TheVariants.{BadModule, OutOfOrder, CoveredStation}
use Rattle.step.specs.Verdict.{unless, station_then}
use Rattle.step.specs.Results.{Verdict}

-- a kind of module (0 is an empty station), with r registers and a width as the table of kinds says
abbrev pub fits_kind : Module → Bool
fits_kind p = leb 1 p.kind && in_table p.kind p.r p.wide

-- one station wide, or with a station to its right
abbrev pub has_room : Module → Bool
has_room p = ltb p.wide 2 || ltb p.n 23

-- a module that fits the table and its station
abbrev pub fits_module : Module → Bool
fits_module p = fits_kind p && has_room p

-- 11, out of order: station not above that of the line before
abbrev pub order_then : ℕ → ℕ → Verdict → Verdict
order_then previous n next = unless (ltb previous n) OutOfOrder next

-- 12, covered station: the line names a station whose word 7 is not 0 (in a fit crate it is 0 or 1)
abbrev pub covered_then : ℕ → Verdict → Verdict
covered_then covered next = unless (eqb covered 0) CoveredStation next

-- 10, bad module: kind outside 1 to 5, r not of its kind, a width outside 1 and 2, or two wide in 23
abbrev pub module_then : Module → Verdict → Verdict
module_then p next = unless (fits_module p) BadModule next

-- n= kind= r= wide=, after a line for the station `previous`, 0 where there was none, in a station whose word 7 is `covered`: 2, 11, 12, 10
unfoldable pub module_verdict : (previous covered : ℕ) → Module → Verdict
module_verdict previous covered p = station_then p.n (order_then previous p.n (covered_then covered (module_then p (Ok tt))))
