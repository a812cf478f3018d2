-- What a look finds.
use Rattle.std.proofs.Common.{◌≡◌, ℕ, ◌<◌, ◌≤◌, ltb, List, length, get_or, Some, None}
use Rattle.std.proofs.lemmas.Bool.{cond-true, cond-false, lt-ltb, le-ltb}
use Rattle.memory.specs.declared.cells.Cell.{Cell}
use Rattle.memory.specs.Cells.{fresh}
use Rattle.memory.specs.Rules.{look_at}

-- a look inside the list and outside
pub look_inside : (cs : List Cell) (i : ℕ) → i < length cs → look_at cs i ≡ Some (get_or cs i fresh)
look_inside cs i h = cond-true (ltb i (length cs)) (Some (get_or cs i fresh)) None (lt-ltb i (length cs) h)

pub look_outside : (cs : List Cell) (i : ℕ) → length cs ≤ i → look_at cs i ≡ None
look_outside cs i h = cond-false (ltb i (length cs)) (Some (get_or cs i fresh)) None (le-ltb i (length cs) h)
