-- A window of walls meets its contract: each number is the wall's, and past the last there is none.
use native.Mathlib.Omega.{arith}
use Prim.Native.Nat.{ℕ}
use lib.ListN.{replicate, length-replicate, get_or-replicate}
use Rattle.std.proofs.lemmas.List.{get_or_past}
use Rattle.check_rows.specs.inner.Level.{wall}
use Rattle.check_rows.specs.inner.Window.{LowNumbers}
use Rattle.check_rows.proofs.window.Window.walls.Goals as goal

low : (n : ℕ) → LowNumbers (replicate n wall)
low n = record { low = λ z. grind (arith, get_or-replicate, get_or_past, length-replicate) }

pub invariant_of-result : goal.invariant_of-result
invariant_of-result c = record { low = low 390 }

pub returns : goal.returns
returns c = record { size = length-replicate 390 wall; walls = λ z h. get_or-replicate 390 z wall 0 h }
