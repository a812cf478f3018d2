-- A cell in one number: the round above a number of bits for the value.
use Rattle.std.specs.Prelude.{ℕ, ◌+◌, ◌*◌, ◌/◌, ◌%◌, ◌^◌, List, map}
use Rattle.memory.specs.declared.cells.Cell.{Cell}
use Rattle.memory.specs.declared.cells.Limits.{Limits}
use Rattle.memory.specs.Cells.{limited}

-- the number of a cell
abbrev pub packed : ℕ → Cell → ℕ
packed bits c = c.round * 2 ^ bits + c.value

-- the cell of a number
abbrev pub unpacked : ℕ → ℕ → Cell
unpacked bits word = record { value = word % 2 ^ bits; round = word / 2 ^ bits }

-- the limits of a word of 64 bits, 48 of them for the value
abbrev pub tagged : Limits
tagged = limited 281474976710655 65535

-- the cells that a row of tagged words means
abbrev pub word_cells : List ℕ → List Cell
word_cells words = map (unpacked 48) words
