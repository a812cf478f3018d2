-- What one step does: one access to a cell or to a hint, by the call that a seat carries.
use Rattle.std.specs.Prelude.{ℕ, List, Some, None, Option, Ok, Err, Result}
use Rattle.memory.specs.declared.cells.Cell.{Cell}
use Rattle.memory.specs.declared.cells.Limits.{Limits}
use Rattle.memory.specs.declared.rules.Declined.{Declined}
use Rattle.memory.specs.Rules.{exchange_answer, after_exchange}
use Rattle.ring.specs.declared.calls.Answer.{Answer}
use Rattle.ring.specs.declared.calls.Call.{Call}
use Rattle.ring.specs.declared.calls.Outcome.{Outcome}
use Rattle.ring.specs.declared.calls.Task.{Task}
use Rattle.ring.specs.declared.calls.Task.TheVariants.{Put, Take}
use Rattle.ring.specs.declared.looks.Verdict.{Verdict}
use Rattle.ring.specs.declared.looks.Verdict.TheVariants as verdicts
use Rattle.ring.specs.declared.seat.Hints.{Hints}
use Rattle.ring.specs.declared.seat.Seat.{Seat}
use Rattle.ring.specs.declared.seat.Seat.TheVariants.{Idle, Start, First, Look, Exchange, Note}
use Rattle.ring.specs.Looks.{previous, next, cell_at, verdict_of, outcome_of, one_step, one_failure}

abbrev pub hint_of : Hints → Task → ℕ
hint_of hints (Put value) = hints.put
hint_of hints Take = hints.take

abbrev pub hinted : Hints → Task → ℕ → Hints
hinted hints (Put value) i = record { put = i; take = hints.take }
hinted hints Take i = record { put = hints.put; take = i }

-- all that a step leaves, and the answer, if it gives one
pub record Stepped : Type 0 where
  pub cells : List Cell
  pub hints : Hints
  pub seat : Seat
  pub answer : Option Answer

-- the call goes on, in this seat
abbrev pub goes_on : List Cell → Hints → Seat → Stepped
goes_on cells hints seat = record { cells = cells; hints = hints; seat = seat; answer = None }

-- the call ends, and its seat is idle
abbrev pub ends : List Cell → Hints → Call → Outcome → Stepped
ends cells hints call outcome =
    record { cells = cells; hints = hints; seat = Idle; answer = Some (record { outcome = outcome; counts = call.counts }) }

-- after a look that read the cell u at index i
abbrev pub after_look : ℕ → List Cell → Hints → Call → ℕ → Cell → Verdict → Stepped
after_look size cells hints call i u (verdicts.Exchange expected new) = goes_on cells hints (Exchange call i expected new)
after_look size cells hints call i u (verdicts.Note outcome) = goes_on cells hints (Note call i outcome)
after_look size cells hints call i u (verdicts.Answer outcome) = ends cells hints call outcome
after_look size cells hints call i u verdicts.Onward = goes_on cells hints (Look call (next size i) u)

-- the seat after an exchange at index i with this answer
abbrev pub after_answer : ℕ → Call → ℕ → Cell → Result (Unit {0}) Declined → Seat
after_answer size call i expected (Ok done) = Note call (next size i) (outcome_of call.task expected)
after_answer size call i expected (Err cause) = Start (one_failure call)

abbrev pub step_seat : Limits → ℕ → List Cell → Hints → Seat → Stepped
step_seat limits size cells hints Idle = goes_on cells hints Idle
step_seat limits size cells hints (Start call) = goes_on cells hints (First (one_step call) (hint_of hints call.task))
step_seat limits size cells hints (First call i) = goes_on cells hints (Look (one_step call) i (cell_at cells (previous size i)))
step_seat limits size cells hints (Look call i p) =
    after_look size cells hints (one_step call) i (cell_at cells i) (verdict_of limits size call.task i p (cell_at cells i))
step_seat limits size cells hints (Exchange call i expected new) =
    goes_on (after_exchange limits cells i expected new) hints
    (after_answer size (one_step call) i expected (exchange_answer limits cells i expected new))
step_seat limits size cells hints (Note call i outcome) = ends cells (hinted hints call.task i) (one_step call) outcome
