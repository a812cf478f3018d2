-- Numbers and cells in bytes, high byte first.
use Rattle.std.specs.Prelude.{ℕ, List, take, drop}
use Rattle.std.specs.Int.{w64, to_be_bytes}
use Rattle.std.specs.Int.Digits.{number_from_digits}
use Rattle.memory.specs.declared.cells.Cell.{Cell}
use Rattle.memory.specs.Packing.{packed, unpacked}

-- the number that `count` bytes from `at` on write
abbrev pub field : ℕ → ℕ → List ℕ → ℕ
field at count bytes = number_from_digits 256 (take count (drop at bytes))

-- a cell in eight bytes: its tagged word, high byte first
abbrev pub cell_bytes : Cell → List ℕ
cell_bytes c = to_be_bytes w64 (packed 48 c)

-- the cell that eight bytes write
abbrev pub cell_from : List ℕ → Cell
cell_from bytes = unpacked 48 (number_from_digits 256 bytes)
