-- A seat that carries a call is busy until its answer, which leaves it idle.
use Rattle.std.proofs.Common.{◌≡◌, ℕ, ◌<◌, true, false, not, length, None, Option, Ok, Err, Result, sym, refl, ap, ◌∙◌}
use Rattle.std.proofs.lemmas.Bool.{true≢false, not-true}
use Rattle.memory.specs.declared.cells.Cell.{Cell}
use Rattle.memory.specs.declared.cells.Limits.{Limits}
use Rattle.memory.specs.declared.rules.Declined.{Declined}
use Rattle.memory.specs.Rules.{exchange_answer}
use Rattle.ring.specs.declared.calls.Answer.{Answer}
use Rattle.ring.specs.declared.calls.Call.{Call}
use Rattle.ring.specs.declared.looks.Verdict.{Verdict}
use Rattle.ring.specs.declared.looks.Verdict.TheVariants as verdicts
use Rattle.ring.specs.declared.seat.Seat.{Seat}
use Rattle.ring.specs.declared.seat.Seat.TheVariants.{Idle, Start, First, Look, Exchange, Note}
use Rattle.ring.specs.Looks.{cell_at, verdict_of, one_step}
use Rattle.ring.specs.Seats.{Stepped, step_seat, after_look, after_answer}
use Rattle.ring.specs.Rings.{Ring, seat_at, is_idle, advanced}
use Rattle.ring.specs.Histories.{steps}
use Rattle.ring.specs.Law.{stays_open}
use Rattle.ring.proofs.Moves.{seat_here}

-- a step leaves its seat busy exactly if it leaves its call open
abbrev BusyWhileOpen : Stepped → Type 0
BusyWhileOpen x = stays_open (steps x.answer) ≡ not (is_idle x.seat)

look_busy_while_open : (size : ℕ) (r : Ring) (c : Call) (h : ℕ) (u : Cell) (m : Verdict) → BusyWhileOpen (after_look size r.cells r.board.hints c h u m)
look_busy_while_open size r c h u (verdicts.Exchange e n) = refl
look_busy_while_open size r c h u (verdicts.Note o) = refl
look_busy_while_open size r c h u (verdicts.Answer o) = refl
look_busy_while_open size r c h u verdicts.Onward = refl

exchange_leaves_busy : (size : ℕ) (c : Call) (h : ℕ) (e : Cell) (a : Result (Unit {0}) Declined) → true ≡ not (is_idle (after_answer size c h e a))
exchange_leaves_busy size c h e (Ok done) = refl
exchange_leaves_busy size c h e (Err cause) = refl

step_busy_while_open : (limits : Limits) (r : Ring) (t : Seat) → is_idle t ≡ false → BusyWhileOpen (step_seat limits r.board.size r.cells r.board.hints t)
step_busy_while_open limits r Idle busy = absurd (true≢false busy)
step_busy_while_open limits r (Start c) busy = refl
step_busy_while_open limits r (First c h) busy = refl
step_busy_while_open limits r (Look c h p) busy = look_busy_while_open r.board.size r (one_step c) h (cell_at r.cells h) (verdict_of limits r.board.size c.task h p (cell_at r.cells h))
step_busy_while_open limits r (Exchange c h e n) busy = exchange_leaves_busy r.board.size (one_step c) h e (exchange_answer limits r.cells h e n)
step_busy_while_open limits r (Note c h o) busy = refl

pub busy_while_open : (limits : Limits) (r : Ring) (s : ℕ) → s < length r.board.seats → is_idle (seat_at r s) ≡ false → stays_open (steps (advanced limits r s).answer) ≡ not (is_idle (seat_at (advanced limits r s).ring s))
busy_while_open limits r s l busy =
    let x : Stepped = step_seat limits r.board.size r.cells r.board.hints (seat_at r s) in
    rw (seat_here r s x.cells x.hints x.seat l) (step_busy_while_open limits r (seat_at r s) busy)

pub busy_on : (limits : Limits) (r : Ring) (s : ℕ) → s < length r.board.seats → is_idle (seat_at r s) ≡ false → (advanced limits r s).answer ≡ None → is_idle (seat_at (advanced limits r s).ring s) ≡ false
busy_on limits r s l busy on =
    not-true (is_idle (seat_at (advanced limits r s).ring s))
    (sym (busy_while_open limits r s l busy) ∙ ap (λ (p : Option Answer). stays_open (steps p)) on)
