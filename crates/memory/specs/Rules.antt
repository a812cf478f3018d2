-- What the calls of a memory do to its list of cells.
use Rattle.std.specs.Prelude.{ℕ, Bool, if◌then◌else◌, ◌&&◌, List, length, Some, None, Option, Ok, Err, Result, ◌==◌, nat_lt, slice_index_or, slice_set}
use Rattle.memory.specs.declared.cells.Cell.{Cell}
use Rattle.memory.specs.declared.cells.Limits.{Limits}
use Rattle.memory.specs.declared.rules.Declined.{Declined}
use Rattle.memory.specs.declared.rules.Declined.TheVariants.{NoCell, Unfit, Differs}
use Rattle.memory.specs.Cells.{fresh, fits}
use Rattle.memory.specs.Lists.{overwritten}

-- what a look at an index finds
abbrev pub look_at : List Cell → ℕ → Option Cell
look_at cells i = if nat_lt i (length cells) then Some (slice_index_or cells i fresh) else None

-- the same value and the same round
abbrev pub alike : Cell → Cell → Bool
alike a b = a.value == b.value && a.round == b.round

-- what an exchange answers where a look finds this: x, unless there is no cell, or the new one does not fit, or the one there is not the expected one
abbrev pub answer_at : {X : Type 0} → Limits → Option Cell → Cell → Cell → X → Result X Declined
answer_at limits None expected new x = Err NoCell
answer_at limits (Some found) expected new x = if fits limits new then if alike found expected then Ok x else Err Differs else Err Unfit

-- the same at an index of a list of cells
abbrev pub exchange_checked : {X : Type 0} → Limits → List Cell → ℕ → Cell → Cell → X → Result X Declined
exchange_checked limits cells i expected new x = answer_at limits (look_at cells i) expected new x

-- what an exchange answers: nothing more where it is done
abbrev pub exchange_answer : Limits → List Cell → ℕ → Cell → Cell → Result (Unit {0}) Declined
exchange_answer limits cells i expected new = exchange_checked limits cells i expected new tt

-- only an exchange that is done changes anything, and only that cell
abbrev pub stored_by : Result (Unit {0}) Declined → List Cell → ℕ → Cell → List Cell
stored_by (Ok done) cells i new = slice_set cells i new
stored_by (Err cause) cells i new = cells

-- the cells that an exchange leaves
abbrev pub after_exchange : Limits → List Cell → ℕ → Cell → Cell → List Cell
after_exchange limits cells i expected new = stored_by (exchange_answer limits cells i expected new) cells i new

-- the cells from `start` on, `count` of them, are empty at round 0
abbrev pub cleared : List Cell → ℕ → ℕ → List Cell
cleared cells start count = overwritten fresh cells start count

-- What a memory has besides its cells: no call changes it. Each is reached by a reference, which has a name of its own in proofs; that the name stays tells the lender what it holds once the memory has ended.
pub data Frame : Type 0 where
  -- a lent slice: the reference's name, and the bytes that belong to no cell
  lent : ℕ → List ℕ → Frame
  -- a part of a lent memory: the reference's name, the start and the count of the part, the cells before it and behind it, and that memory's own frame
  part : ℕ → ℕ → ℕ → List Cell → List Cell → Frame → Frame
