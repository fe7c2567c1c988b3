-- `text::put_eight` meets its contract: the bytes of the sum, the lowest first, are the eight that are pasted.
use Prim.Native.Nat.{ℕ, ◌+◌}
use mathlib.Core.Path.{◌≡◌, ◌∙◌}
use native.Mathlib.Nat.{div-div-eq-div-mul}
use native.Mathlib.Omega.{arith}
use Rattle.std.specs.Int.{to_le_bytes, w64}
use Rattle.text.specs.Digits.{unpacked, zeros}
use Rattle.text.proofs.Paste.{paste-part}
use Rattle.text.proofs.put_eight.Goals as goal

-- the eight bytes of a number
unpacked-eight : (d : ℕ) → to_le_bytes w64 d ≡ unpacked 8 d
unpacked-eight d = simp div-div-eq-div-mul

pub returns : goal.returns
returns c =
    let sum = c.args.d + zeros in
    let copied = c.copy_from_slice.ensures.after ∙ c.to_le_bytes.ensures ∙ unpacked-eight sum in
    paste-part _ c.args.at _ _ (unpacked 8 sum) copied (omega arith)
