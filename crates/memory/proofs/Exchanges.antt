-- What follows once an exchange is checked.
use Rattle.std.proofs.Common.{◌≡◌, ℕ, List, Ok, slice_set, arith}
use Rattle.memory.specs.declared.cells.Cell.{Cell}
use Rattle.memory.specs.declared.cells.Limits.{Limits}
use Rattle.memory.specs.Rules.{exchange_checked, after_exchange}

-- where the check finds no cause against it, the exchange is done
pub exchange_done : {X : Type 0} (limits : Limits) (cells : List Cell) (i : ℕ) (expected new : Cell) (x y : X) → Ok x ≡ exchange_checked limits cells i expected new y
    → after_exchange limits cells i expected new ≡ slice_set cells i new
exchange_done limits cells i expected new x y h = grind arith
