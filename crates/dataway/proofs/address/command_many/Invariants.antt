-- `command_many` meets its contract. The loop's invariant: the stations before n have had the command, where they are addressed, and `reply` joins their answers.
use Prim.Native.Nat.{◌-◌}
use mathlib.Core.Path.{◌≡◌}
use Rattle.dataway.specs.Controls.{each_station}
use Rattle.dataway.specs.Addressed.{replies_to, command_where}
use Rattle.dataway.proofs.address.command_many.Given as goal

abbrev pub invariant-loop-n : goal.invariant-loop-n
invariant-loop-n l = record {
  memory : l.memory ≡ each_station (command_where l.pattern l.a l.f l.w) (l.n - 1) l.initial.memory;
  reply : l.reply ≡ replies_to l.pattern l.a l.f l.w (l.n - 1) l.initial.memory;
}
