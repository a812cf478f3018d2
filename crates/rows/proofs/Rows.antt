-- A list of elements, seen as the cells that they hold.
use Rattle.std.proofs.Common.{◌≡◌, ℕ, List, map, Ok, sym, ap, ◌∙◌, slice_set}
use Rattle.std.proofs.lemmas.List.{map-set, map-id}
use Rattle.memory.specs.declared.cells.Cell.{Cell}
use Rattle.memory.specs.declared.cells.Limits.{Limits}
use Rattle.memory.specs.Cells.{fresh}
use Rattle.memory.specs.Lists.{overwritten}
use Rattle.memory.specs.Rules.{exchange_checked, after_exchange, cleared}
use Rattle.memory.proofs.Exchanges.{exchange_done}
use Rattle.memory.proofs.Overwriting.{overwritten-map}

-- an element that is stored by an exchange
pub row_exchanged : {E : Type 0} (f : E → Cell) (limits : Limits) (es : List E) (i : ℕ) (expected new : Cell) (e x : E) → Ok e ≡ exchange_checked limits (map f es) i expected new x → f e ≡ new
    → map f (slice_set es i e) ≡ after_exchange limits (map f es) i expected new
row_exchanged f limits es i expected new e x h k =
    map-set f es i e ∙ ap (λ (c : Cell). slice_set (map f es) i c) k ∙ sym (exchange_done limits (map f es) i expected new e x h)

-- elements that are overwritten by that of a fresh cell
pub row_cleared : {E : Type 0} (f : E → Cell) (clear : E) (es : List E) (start count : ℕ) → f clear ≡ fresh
    → map f (overwritten clear es start count) ≡ cleared (map f es) start count
row_cleared f clear es start count h = overwritten-map f clear es start count ∙ ap (λ (c : Cell). overwritten c (map f es) start count) h

-- a row of records holds the records
pub records_are_cells : (records : List Cell) → map (λ (c : Cell). c) records ≡ records
records_are_cells records = map-id records
