-- A memory in a page of bytes.
-- Byte 0 is the version, 1. Bytes 1 to 4 are the length of the whole page, bytes 5 and 6 the number of cells, and byte 7 is 0. The cells follow, of eight bytes each.
use Rattle.std.specs.Prelude.{◌≡◌, ℕ, ◌+◌, ◌*◌, Bool, not, List, [], ◌∷◌, ◌++◌, map, length, take, drop, IsOk, Ok, Err, Result, ◌==◌, nat_lt, All, flat_map}
use Rattle.std.specs.Int.{w16, w32, to_be_bytes}
use Rattle.std.specs.Simd.{first_chunks}
use Rattle.memory.specs.declared.cells.Cell.{Cell}
use Rattle.memory.specs.declared.refusals.Refusal.{Refusal}
use Rattle.memory.specs.declared.refusals.Refusal.TheVariants.{PageTooShort, PageVersion, PageLength, PageSize}
use Rattle.memory.specs.Cells.{Within}
use Rattle.memory.specs.Packing.{tagged}
use Rattle.memory.specs.Refusals.{unless}
use Rattle.memory.specs.Sizes.{is_ring_size, RingSize}
use Rattle.page.specs.Bytes.{field, cell_bytes, cell_from}

-- the head of a page of s cells
abbrev pub header : ℕ → List ℕ
header s = 1 ∷ (to_be_bytes w32 (8 + 8 * s) ++ (to_be_bytes w16 s ++ (0 ∷ [])))

-- the page that holds these cells
abbrev pub page_of : List Cell → List ℕ
page_of cells = header (length cells) ++ flat_map cell_bytes cells

-- why n bytes that begin with this head are no page, in the order of the numbers
abbrev pub head_causes : ℕ → List ℕ → List (Bool × Refusal)
head_causes n head = (nat_lt n 8, PageTooShort) ∷ (not (field 0 1 head == 1), PageVersion) ∷ (not (field 1 4 head == n), PageLength) ∷ []

abbrev pub size_causes : ℕ → ℕ → List (Bool × Refusal)
size_causes n s = (not (is_ring_size s), PageSize) ∷ (not (n == 8 + 8 * s), PageSize) ∷ []

abbrev pub page_causes : ℕ → List ℕ → List (Bool × Refusal)
page_causes n head = head_causes n head ++ (size_causes n (field 5 2 head) ++ ((not (field 7 1 head == 0), PageSize) ∷ []))

-- what the check answers: the number of cells, or the first cause that applies
abbrev pub checked_head : ℕ → List ℕ → Result ℕ Refusal
checked_head n head = unless (page_causes n head) (field 5 2 head)

abbrev pub checked : List ℕ → Result ℕ Refusal
checked bytes = checked_head (length bytes) (take 8 bytes)

-- the cells in n groups of eight bytes
abbrev pub cells_in : ℕ → List ℕ → List Cell
cells_in n bytes = map cell_from (first_chunks 8 n bytes)

-- the cells of a page: none where the check refuses it
abbrev pub cells_by : Result ℕ Refusal → List ℕ → List Cell
cells_by (Ok n) bytes = cells_in n (drop 8 bytes)
cells_by (Err cause) bytes = []

abbrev pub page_cells : List ℕ → List Cell
page_cells bytes = cells_by (checked bytes) bytes

-- the bytes that are part of no cell: the head of a page, and all bytes of a page that the check refuses
abbrev pub others_by : Result ℕ Refusal → List ℕ → List ℕ
others_by (Ok n) bytes = take 8 bytes
others_by (Err cause) bytes = bytes

abbrev pub other_bytes : List ℕ → List ℕ
other_bytes bytes = others_by (checked bytes) bytes

-- what laying out n bytes for s cells answers
abbrev pub laid_out : ℕ → ℕ → Result (Unit {0}) Refusal
laid_out n s = unless ((nat_lt n 8, PageTooShort) ∷ size_causes n s) tt

-- Bytes that are accepted are read as a list of cells that is written as these bytes; and a list of cells that is written as these bytes is the one that is read from them.
pub record RoundTrips (bytes : List ℕ) : Type 0 where
  pub sized : IsOk (checked bytes) → RingSize (length (page_cells bytes))
  pub within : IsOk (checked bytes) → All (Within tagged) (page_cells bytes)
  pub written : IsOk (checked bytes) → page_of (page_cells bytes) ≡ bytes
  pub accepted : (cells : List Cell) → RingSize (length cells) → page_of cells ≡ bytes → checked bytes ≡ Ok (length cells)
  pub recovered : (cells : List Cell) → RingSize (length cells) → All (Within tagged) cells → page_of cells ≡ bytes → page_cells bytes ≡ cells

-- these bytes with other cells in the place of their own: another page, or the same bytes where the check refuses them
abbrev pub rewritten_by : Result ℕ Refusal → List ℕ → List Cell → List ℕ
rewritten_by (Ok n) bytes cells = page_of cells
rewritten_by (Err cause) bytes cells = bytes

abbrev pub rewritten : List ℕ → List Cell → List ℕ
rewritten bytes cells = rewritten_by (checked bytes) bytes cells
