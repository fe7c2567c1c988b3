-- `command` meets its contract: what is not accepted is so by `admitted`; else the class gives each arm's function what it requires.
use Prim.Native.Nat.{ℕ}
use mathlib.Core.Bool.{Bool, true}
use mathlib.Core.List.{List, [], ◌∷◌}
use mathlib.Core.Path.{◌≡◌, sym, ◌∙◌}
use Rattle.acceptance.specs.declared.Class.TheVariants.{A12ToA14, A12AndA13, A13Only}
use Rattle.acceptance.specs.Classes.{class_of, admits}
use Rattle.station.specs.Block.{kind_of, count_of, sources_of}
use Rattle.station.specs.Command.{functions_of, command_of}
use Rattle.station.proofs.ClassLaws.{below-r, kinds-below-r, below-s, at-group2, at-thirteen, admitted}
use Rattle.station.proofs.command.Goals as goal

-- where the station accepts f, which is k, the class of k has A
class-has : (b : List ℕ) (a f k : ℕ) (r : Bool) → r ≡ admits (class_of (kind_of b) f) a (count_of b) (sources_of b) → r ≡ true → f ≡ k
    → admits (class_of (kind_of b) k) a (count_of b) (sources_of b) ≡ true
class-has b a f k r e t h = rw h at (sym e ∙ t)

pub returns-then-not-accepts : goal.returns-then-not-accepts
returns-then-not-accepts c = (admitted _ c.requires.fit_block _ _ _).outside (sym c.accepts.ensures ∙ c.if-not-accepts.true)

pub read-requires-clause-below_r : goal.read-requires-clause-below_r
unfolding class_of
read-requires-clause-below_r c =
    let h = class-has c.args.b.now c.args.a _ 0 _ c.accepts.ensures c.if-not-accepts.false c.in-0.is in
    below-r _ c.requires.fit_block _ h

pub read_and_clear-requires-clause-below_r : goal.read_and_clear-requires-clause-below_r
unfolding class_of
read_and_clear-requires-clause-below_r c =
    let h = class-has c.args.b.now c.args.a _ 2 _ c.accepts.ensures c.if-not-accepts.false c.in-2.is in
    below-r _ c.requires.fit_block _ h

pub read_complement-requires-clause-below_r : goal.read_complement-requires-clause-below_r
unfolding class_of
read_complement-requires-clause-below_r c =
    let h = class-has c.args.b.now c.args.a _ 3 _ c.accepts.ensures c.if-not-accepts.false c.in-3.is in
    below-r _ c.requires.fit_block _ h

pub clear-requires-clause-below_r : goal.clear-requires-clause-below_r
unfolding class_of
clear-requires-clause-below_r c =
    let h = class-has c.args.b.now c.args.a _ 9 _ c.accepts.ensures c.if-not-accepts.false c.in-9.is in
    below-r _ c.requires.fit_block _ h

pub test_lam-requires-clause-below_s : goal.test_lam-requires-clause-below_s
unfolding class_of
test_lam-requires-clause-below_s c =
    let h = class-has c.args.b.now c.args.a _ 8 _ c.accepts.ensures c.if-not-accepts.false c.in-8.is in
    below-s _ c.requires.fit_block _ h

pub clear_lam-requires-clause-below_s : goal.clear_lam-requires-clause-below_s
unfolding class_of
clear_lam-requires-clause-below_s c =
    let h = class-has c.args.b.now c.args.a _ 10 _ c.accepts.ensures c.if-not-accepts.false c.in-10.is in
    below-s _ c.requires.fit_block _ h

pub disable-requires-clause-below_s : goal.disable-requires-clause-below_s
unfolding class_of
disable-requires-clause-below_s c =
    let h = class-has c.args.b.now c.args.a _ 24 _ c.accepts.ensures c.if-not-accepts.false c.in-24.is in
    below-s _ c.requires.fit_block _ h

pub enable-requires-clause-below_s : goal.enable-requires-clause-below_s
unfolding class_of
enable-requires-clause-below_s c =
    let h = class-has c.args.b.now c.args.a _ 26 _ c.accepts.ensures c.if-not-accepts.false c.in-26.is in
    below-s _ c.requires.fit_block _ h

pub test_status-requires-clause-below_s : goal.test_status-requires-clause-below_s
unfolding class_of
test_status-requires-clause-below_s c =
    let h = class-has c.args.b.now c.args.a _ 27 _ c.accepts.ensures c.if-not-accepts.false c.in-27.is in
    below-s _ c.requires.fit_block _ h

pub overwrite-requires-clause-below_r : goal.overwrite-requires-clause-below_r
unfolding class_of
overwrite-requires-clause-below_r c =
    let h = class-has c.args.b.now c.args.a _ 16 _ c.accepts.ensures c.if-not-accepts.false c.in-16.is in
    (kinds-below-r _ c.requires.fit_block _ (2 ∷ 5 ∷ []) h).0

pub overwrite-requires-clause-kind : goal.overwrite-requires-clause-kind
unfolding class_of
overwrite-requires-clause-kind c =
    let h = class-has c.args.b.now c.args.a _ 16 _ c.accepts.ensures c.if-not-accepts.false c.in-16.is in
    (kinds-below-r _ c.requires.fit_block _ (2 ∷ 5 ∷ []) h).1

pub selective_set-requires-clause-below_r : goal.selective_set-requires-clause-below_r
unfolding class_of
selective_set-requires-clause-below_r c =
    let h = class-has c.args.b.now c.args.a _ 18 _ c.accepts.ensures c.if-not-accepts.false c.in-18.is in
    (kinds-below-r _ c.requires.fit_block _ (2 ∷ []) h).0

pub selective_set-requires-clause-kind : goal.selective_set-requires-clause-kind
unfolding class_of
selective_set-requires-clause-kind c =
    let h = class-has c.args.b.now c.args.a _ 18 _ c.accepts.ensures c.if-not-accepts.false c.in-18.is in
    (kinds-below-r _ c.requires.fit_block _ (2 ∷ []) h).1

pub selective_clear-requires-clause-below_r : goal.selective_clear-requires-clause-below_r
unfolding class_of
selective_clear-requires-clause-below_r c =
    let h = class-has c.args.b.now c.args.a _ 21 _ c.accepts.ensures c.if-not-accepts.false c.in-21.is in
    (kinds-below-r _ c.requires.fit_block _ (2 ∷ []) h).0

pub selective_clear-requires-clause-kind : goal.selective_clear-requires-clause-kind
unfolding class_of
selective_clear-requires-clause-kind c =
    let h = class-has c.args.b.now c.args.a _ 21 _ c.accepts.ensures c.if-not-accepts.false c.in-21.is in
    (kinds-below-r _ c.requires.fit_block _ (2 ∷ []) h).1

pub execute-requires-clause-below_r : goal.execute-requires-clause-below_r
unfolding class_of
execute-requires-clause-below_r c =
    let h = class-has c.args.b.now c.args.a _ 25 _ c.accepts.ensures c.if-not-accepts.false c.in-25.is in
    (kinds-below-r _ c.requires.fit_block _ (1 ∷ []) h).0

pub execute-requires-clause-kind : goal.execute-requires-clause-kind
unfolding class_of
execute-requires-clause-kind c =
    let h = class-has c.args.b.now c.args.a _ 25 _ c.accepts.ensures c.if-not-accepts.false c.in-25.is in
    (kinds-below-r _ c.requires.fit_block _ (1 ∷ []) h).1

pub read-requires-in-1-clause-has_sources : goal.read-requires-in-1-clause-has_sources
unfolding class_of
read-requires-in-1-clause-has_sources c =
    let h = class-has c.args.b.now c.args.a _ 1 _ c.accepts.ensures c.if-not-accepts.false c.in-1.is in
    (at-group2 _ c.requires.fit_block _ A12ToA14 h).0

pub read-requires-in-1-clause-subaddress : goal.read-requires-in-1-clause-subaddress
unfolding class_of admits
read-requires-in-1-clause-subaddress c =
    let h = class-has c.args.b.now c.args.a _ 1 _ c.accepts.ensures c.if-not-accepts.false c.in-1.is in
    (at-group2 _ c.requires.fit_block _ A12ToA14 h).1

pub clear-requires-in-11-clause-has_sources : goal.clear-requires-in-11-clause-has_sources
unfolding class_of
clear-requires-in-11-clause-has_sources c =
    let h = class-has c.args.b.now c.args.a _ 11 _ c.accepts.ensures c.if-not-accepts.false c.in-11.is in
    (at-group2 _ c.requires.fit_block _ A12AndA13 h).0

pub clear-requires-in-11-clause-subaddress : goal.clear-requires-in-11-clause-subaddress
unfolding class_of admits
clear-requires-in-11-clause-subaddress c =
    let h = class-has c.args.b.now c.args.a _ 11 _ c.accepts.ensures c.if-not-accepts.false c.in-11.is in
    (at-group2 _ c.requires.fit_block _ A12AndA13 h).1

pub selective_clear-requires-in-23-clause-has_sources : goal.selective_clear-requires-in-23-clause-has_sources
unfolding class_of
selective_clear-requires-in-23-clause-has_sources c =
    let h = class-has c.args.b.now c.args.a _ 23 _ c.accepts.ensures c.if-not-accepts.false c.in-23.is in
    (at-group2 _ c.requires.fit_block _ A12AndA13 h).0

pub selective_clear-requires-in-23-clause-subaddress : goal.selective_clear-requires-in-23-clause-subaddress
unfolding class_of admits
selective_clear-requires-in-23-clause-subaddress c =
    let h = class-has c.args.b.now c.args.a _ 23 _ c.accepts.ensures c.if-not-accepts.false c.in-23.is in
    (at-group2 _ c.requires.fit_block _ A12AndA13 h).1

pub overwrite-requires-in-17-clause-has_sources : goal.overwrite-requires-in-17-clause-has_sources
unfolding class_of
overwrite-requires-in-17-clause-has_sources c =
    let h = class-has c.args.b.now c.args.a _ 17 _ c.accepts.ensures c.if-not-accepts.false c.in-17.is in
    (at-group2 _ c.requires.fit_block _ A13Only h).0

pub selective_set-requires-in-19-clause-has_sources : goal.selective_set-requires-in-19-clause-has_sources
unfolding class_of
selective_set-requires-in-19-clause-has_sources c =
    let h = class-has c.args.b.now c.args.a _ 19 _ c.accepts.ensures c.if-not-accepts.false c.in-19.is in
    (at-group2 _ c.requires.fit_block _ A13Only h).0

pub returns-in-17 : goal.returns-in-17
unfolding command_of functions_of class_of
returns-in-17 c =
    let h = class-has c.args.b.now c.args.a _ 17 _ c.accepts.ensures c.if-not-accepts.false c.in-17.is in
    rw (c.in-17.is, at-thirteen _ c.requires.fit_block _ h) c.overwrite-in-17.ensures

pub returns-in-19 : goal.returns-in-19
unfolding command_of functions_of class_of
returns-in-19 c =
    let h = class-has c.args.b.now c.args.a _ 19 _ c.accepts.ensures c.if-not-accepts.false c.in-19.is in
    rw (c.in-19.is, at-thirteen _ c.requires.fit_block _ h) c.selective_set-in-19.ensures
