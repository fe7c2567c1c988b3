-- Without arguments the names are the usual ones, which stand at the starts of the buffers.
use mathlib.Core.Logic.{inl}
use native.Mathlib.Omega.{arith}
use Rattle.text.proofs.Paste.{put_first}
use Rattle.shell.proofs.arguments.files_named.Goals as goal

pub returns-in-0 : goal.returns-in-0
returns-in-0 g c = record {
  first-within = omega arith;
  second-within = omega arith;
  names = inl (put_first c.put_bytes.ensures, put_first c.put_bytes-in-0.ensures);
}
