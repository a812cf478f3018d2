-- A ring is a board with the cells that it was made on: what each method leaves of it, and what the method answers.
use Rattle.std.specs.Prelude.{ℕ, zero, suc, Bool, true, false, not, ◌||◌, List, [], ◌∷◌, length, replicate, Some, None, Option, Ok, Err, Result, ◌==◌, nat_lt, slice_index_or, slice_set}
use Rattle.memory.specs.declared.cells.Cell.{Cell}
use Rattle.memory.specs.declared.cells.Limits.{Limits}
use Rattle.memory.specs.declared.refusals.Refusal.{Refusal}
use Rattle.memory.specs.declared.refusals.Refusal.TheVariants.{RingSize, NoSeat, OtherSize, SeatBusy, SeatIdle, ValueOutside, CountOutside}
use Rattle.memory.specs.Cells.{fresh}
use Rattle.memory.specs.Refusals.{unless}
use Rattle.memory.specs.Sizes.{is_ring_size}
use Rattle.ring.specs.declared.board.Board.{Board}
use Rattle.ring.specs.declared.calls.Answer.{Answer}
use Rattle.ring.specs.declared.calls.Task.{Task}
use Rattle.ring.specs.declared.calls.Task.TheVariants.{Put, Take}
use Rattle.ring.specs.declared.seat.Seat.{Seat}
use Rattle.ring.specs.declared.seat.Seat.TheVariants.{Idle, Start}
use Rattle.ring.specs.Looks.{beginning}
use Rattle.ring.specs.Seats.{Stepped, step_seat}

pub record Ring : Type 0 where
  pub cells : List Cell
  pub board : Board

abbrev pub ring_of : List Cell → Board → Ring
ring_of cells board = record { cells = cells; board = board }

abbrev pub seat_at : Ring → ℕ → Seat
seat_at ring seat = slice_index_or ring.board.seats seat Idle

abbrev pub is_idle : Seat → Bool
is_idle Idle = true
is_idle seat = false

-- a board with both hints at 0 and all seats idle; with size 0, one that no ring was made on
abbrev pub new_board : ℕ → Board
new_board size = record { size = size; hints = record { put = 0; take = 0 }; seats = replicate 16 Idle }

-- a ring as making leaves it
abbrev pub new_ring : ℕ → Ring
new_ring size = ring_of (replicate size fresh) (new_board size)

-- WHAT CHANGES: only the named seat, one cell or one hint

-- the ring with a call at its start in this seat
abbrev pub begun : Ring → ℕ → Task → Ring
begun ring seat task =
    ring_of ring.cells
    (record {
      size = ring.board.size;
      hints = ring.board.hints;
      seats = slice_set ring.board.seats seat (Start (beginning task));
    })

-- what a method leaves, and its answer
pub record Dealt (A : Type 0) : Type 0 where
  pub ring : Ring
  pub answer : A

-- the same, by the cells and the board that it leaves
abbrev pub after_method : {A : Type 0} → List Cell → Board → A → Dealt A
after_method cells board answer = record { ring = ring_of cells board; answer = answer }

-- the ring after a step of a seat, and the answer, if the step gave one
abbrev pub after_step : Ring → ℕ → Stepped → Dealt (Option Answer)
after_step ring seat step =
    after_method step.cells (record { size = ring.board.size; hints = step.hints; seats = slice_set ring.board.seats seat step.seat }) step.answer

-- one step of a seat
abbrev pub advanced : Limits → Ring → ℕ → Dealt (Option Answer)
advanced limits ring seat =
    after_step ring seat (step_seat limits ring.board.size ring.cells ring.board.hints (seat_at ring seat))

abbrev pub unless_answered : {X : Type 0} → Option Answer → X → X → X
unless_answered (Some answer) x rest = x
unless_answered None x rest = rest

-- up to a number of steps of one seat; an answer ends them
unfoldable pub run : Limits → ℕ → Ring → ℕ → Dealt (Option Answer)
run limits zero ring seat = record { ring = ring; answer = None }
run limits (suc n) ring seat =
    unless_answered (advanced limits ring seat).answer (advanced limits ring seat) (run limits n (advanced limits ring seat).ring seat)

-- the ring `after` and the answer x, unless the method is refused: then the ring stays
abbrev pub settled : {X : Type 0} → Result ℕ Refusal → Ring → Ring → X → Dealt (Result X Refusal)
settled (Ok n) ring after x = record { ring = after; answer = Ok x }
settled (Err cause) ring after x = record { ring = ring; answer = Err cause }

-- THE CAUSES OF REFUSAL, in the order of their numbers, each with whether it applies

-- those that every method has that names a seat, before others
abbrev pub seat_causes : Ring → ℕ → List (Bool × Refusal) → List (Bool × Refusal)
seat_causes ring seat others =
    (nat_lt 15 seat, NoSeat seat)
    ∷ (length ring.cells == 0 || not (length ring.cells == ring.board.size), OtherSize seat)
    ∷ others

-- a begin needs an idle seat
abbrev pub begin_causes : Ring → ℕ → List (Bool × Refusal) → List (Bool × Refusal)
begin_causes ring seat others = seat_causes ring seat ((not (is_idle (seat_at ring seat)), SeatBusy seat) ∷ others)

-- a begin of a put needs a value that the memory can hold
abbrev pub put_causes : Limits → Ring → ℕ → ℕ → List (Bool × Refusal)
put_causes limits ring seat value = begin_causes ring seat ((value == 0 || nat_lt limits.value value, ValueOutside seat) ∷ [])

-- a step needs a seat that carries a call
abbrev pub step_causes : Ring → ℕ → List (Bool × Refusal) → List (Bool × Refusal)
step_causes ring seat others = seat_causes ring seat ((is_idle (seat_at ring seat), SeatIdle seat) ∷ others)

-- a run alone makes at least one step, and at most 8,192
abbrev pub run_causes : Ring → ℕ → ℕ → List (Bool × Refusal)
run_causes ring seat count = step_causes ring seat ((count == 0 || nat_lt 8192 count, CountOutside seat) ∷ [])

-- making a ring needs a size that a ring can have
abbrev pub size_causes : Ring → List (Bool × Refusal)
size_causes ring = (not (is_ring_size (length ring.cells)), RingSize) ∷ []

-- THE METHODS
abbrev pub begin_put : Limits → Ring → ℕ → ℕ → Dealt (Result (Unit {0}) Refusal)
begin_put limits ring seat value = settled (unless (put_causes limits ring seat value) seat) ring (begun ring seat (Put value)) tt

abbrev pub begin_take : Ring → ℕ → Dealt (Result (Unit {0}) Refusal)
begin_take ring seat = settled (unless (begin_causes ring seat []) seat) ring (begun ring seat Take) tt

abbrev pub step_once : Limits → Ring → ℕ → Dealt (Result (Option Answer) Refusal)
step_once limits ring seat =
    settled (unless (step_causes ring seat []) seat) ring (advanced limits ring seat).ring (advanced limits ring seat).answer

abbrev pub run_alone : Limits → Ring → ℕ → ℕ → Dealt (Result (Option Answer) Refusal)
run_alone limits ring seat count =
    settled (unless (run_causes ring seat count) seat) ring (run limits count ring seat).ring (run limits count ring seat).answer

-- making a ring takes all of the memory
abbrev pub make_ring : Ring → Dealt (Result (Unit {0}) Refusal)
make_ring ring =
    settled (unless (size_causes ring) (length ring.cells)) ring (new_ring (length ring.cells)) tt
