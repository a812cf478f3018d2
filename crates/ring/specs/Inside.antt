-- No index leaves the ring, so every look finds a cell: also where a board meets another memory at each dealing.
use Rattle.std.specs.Prelude.{◌≡◌, ℕ, ◌<◌, List, [], ◌∷◌, length, slice_index_or}
use Rattle.memory.specs.declared.cells.Cell.{Cell}
use Rattle.memory.specs.declared.cells.Limits.{Limits}
use Rattle.ring.specs.declared.board.Board.{Board}
use Rattle.ring.specs.declared.dealings.Dealing.{Dealing}
use Rattle.ring.specs.declared.seat.Seat.{Seat}
use Rattle.ring.specs.declared.seat.Seat.TheVariants.{Idle, Start, First, Look, Exchange, Note}
use Rattle.ring.specs.Rings.{ring_of}
use Rattle.ring.specs.Dealings.{deal}

abbrev pub IndexInside : ℕ → Seat → Type 0
IndexInside S Idle = Unit {0}
IndexInside S (Start call) = Unit {0}
IndexInside S (First call i) = i < S
IndexInside S (Look call i p) = i < S
IndexInside S (Exchange call i expected new) = i < S
IndexInside S (Note call i outcome) = i < S

-- a board of S cells, all of whose indices are below S
pub record Inside (S : ℕ) (board : Board) : Type 0 where
  pub size : board.size ≡ S
  pub sixteen : length board.seats ≡ 16
  pub put_hint : board.hints.put < S
  pub take_hint : board.hints.take < S
  pub seats : (s : ℕ) → s < 16 → IndexInside S (slice_index_or board.seats s Idle)

-- a dealing with a board and some memory
pub record Meeting : Type 0 where
  pub limits : Limits
  pub cells : List Cell
  pub dealing : Dealing

-- the board after some dealings, each with a memory of its own
unfoldable pub board_after : Board → List Meeting → Board
board_after board [] = board
board_after board (m ∷ ms) = board_after (deal m.limits (ring_of m.cells board) m.dealing).ring.board ms
