-- A cell is a value and a round. Value 0 marks an empty cell, any other value a filled one; the round counts how often the cell has been emptied.
use Rattle.std.specs.Prelude.{ℕ, ◌≤◌, Bool, not, ◌&&◌, ◌||◌, ◌==◌, nat_le, nat_lt}
use Rattle.memory.specs.declared.cells.Cell.{Cell}
use Rattle.memory.specs.declared.cells.Limits.{Limits}

abbrev pub filled : Cell → Bool
filled c = not (c.value == 0)

-- an empty cell that has never been emptied
abbrev pub fresh : Cell
fresh = record { value = 0; round = 0 }

-- a cell at index i is before a cell at index j where its round is lower, or where the rounds are the same and i is lower
abbrev pub before : Cell → ℕ → Cell → ℕ → Bool
before a i b j = nat_lt a.round b.round || (a.round == b.round && nat_lt i j)

-- the limits of a memory, by its largest value and its last round
abbrev pub limited : ℕ → ℕ → Limits
limited value round = record { value = value; round = round }

-- what limits a memory may name
abbrev pub Proper : Limits → Type 0
Proper limits = (1 ≤ limits.value) × (1 ≤ limits.round) × (limits.round ≤ 4294967295)

-- a cell that a memory of these limits can hold, as a fact and as a test
abbrev pub Within : Limits → Cell → Type 0
Within limits c = (c.value ≤ limits.value) × (c.round ≤ limits.round)

abbrev pub fits : Limits → Cell → Bool
fits limits c = nat_le c.value limits.value && nat_le c.round limits.round
