-- Which subaddresses a station accepts for a function, as a span (RULES 2.31): those that the class of its kind has. And the functions of a block transfer (RULES 4.1).
use Rattle.std.specs.Prelude.{ℕ, ◌≡◌, ◌⊎◌, List}
use Rattle.acceptance.specs.declared.Span.{Span}
use Rattle.acceptance.specs.Classes.{class_of, Spans}
use Rattle.station.specs.Block.{kind_of, count_of, sources_of}

-- the span t has the subaddresses at which the block b accepts F
abbrev pub Accepts : List ℕ → ℕ → Span → Type 0
Accepts b f t = Spans t (class_of (kind_of b) f) (count_of b) (sources_of b)

-- F is 0, 2 or 3
abbrev pub ReadFunction : ℕ → Type 0
ReadFunction f = (f ≡ 0) ⊎ ((f ≡ 2) ⊎ (f ≡ 3))
