-- A part of a list of cells, and what lies around it.
use Rattle.std.specs.Prelude.{◌≡◌, ℕ, ◌+◌, if◌then◌else◌, ◌&&◌, List, length, take, drop, Some, None, Ok, Err, Option, Result, nat_le}
use Rattle.memory.specs.declared.cells.Cell.{Cell}
use Rattle.memory.specs.declared.cells.Limits.{Limits}
use Rattle.memory.specs.declared.refusals.Refusal.{Refusal}
use Rattle.memory.specs.declared.refusals.Refusal.TheVariants.{WindowOutside}
use Rattle.memory.specs.Rules.{Frame, part, look_at, after_exchange, cleared}

-- the cells from `start` on, `count` of them
abbrev pub windowed : ℕ → ℕ → List Cell → List Cell
windowed start count cells = take count (drop start cells)

-- what lies around them, in a memory of this frame that a reference of this name reaches
abbrev pub framed : ℕ → ℕ → ℕ → List Cell → Frame → Frame
framed name start count cells frame = part name start count (take start cells) (drop (start + count) cells) frame

-- what aiming a window at a part of these cells answers
abbrev pub aimed : ℕ → ℕ → List Cell → Result (Unit {0}) Refusal
aimed start count cells = if nat_le 1 count && nat_le (start + count) (length cells) then Ok tt else Err WindowOutside

-- index `at` of the window is index `below` of the cells: the window shows what lies there, and an exchange there is the exchange here and leaves what lies around
pub record SamePlace (start count : ℕ) (cells : List Cell) (at below : ℕ) : Type 0 where
  pub shows : look_at (windowed start count cells) at ≡ look_at cells below
  pub inside : (limits : Limits) (expected new : Cell) (after : List Cell) → after ≡ after_exchange limits cells below expected new → windowed start count after ≡ after_exchange limits (windowed start count cells) at expected new
  pub before : (limits : Limits) (expected new : Cell) (after : List Cell) → after ≡ after_exchange limits cells below expected new → take start after ≡ take start cells
  pub behind : (limits : Limits) (expected new : Cell) (after : List Cell) → after ≡ after_exchange limits cells below expected new → drop (start + count) after ≡ drop (start + count) cells

abbrev pub Reaches : ℕ → ℕ → List Cell → ℕ → Option ℕ → Type 0
Reaches start count cells at None = look_at (windowed start count cells) at ≡ None
Reaches start count cells at (Some below) = SamePlace start count cells at below

-- the cells from `below` on, `many` of them, are those of the window from `at` on, `wanted` of them: clearing those clears these and leaves what lies around
pub record SamePart (start count : ℕ) (cells : List Cell) (at wanted below many : ℕ) : Type 0 where
  pub inside : (after : List Cell) → after ≡ cleared cells below many → windowed start count after ≡ cleared (windowed start count cells) at wanted
  pub before : (after : List Cell) → after ≡ cleared cells below many → take start after ≡ take start cells
  pub behind : (after : List Cell) → after ≡ cleared cells below many → drop (start + count) after ≡ drop (start + count) cells
