-- No index leaves the ring.
use Rattle.std.proofs.Common.{ℕ, ◌<◌, ◌≤◌, List, [], ◌∷◌, set, Ok, Err, Result, sym, refl, ◌∙◌, subst, inl, inr, arith}
use lib.ListN.{get_or-replicate}
use Rattle.std.proofs.lemmas.Bool.{cases_eq}
use Rattle.std.proofs.lemmas.List.{get_or-set_same, get_or-set_other, length-set}
use Rattle.memory.specs.declared.cells.Cell.{Cell}
use Rattle.memory.specs.declared.cells.Limits.{Limits}
use Rattle.memory.specs.declared.rules.Declined.{Declined}
use Rattle.memory.specs.Rules.{exchange_answer}
use Rattle.ring.specs.declared.board.Board.{Board}
use Rattle.ring.specs.declared.calls.Call.{Call}
use Rattle.ring.specs.declared.looks.Verdict.{Verdict}
use Rattle.ring.specs.declared.looks.Verdict.TheVariants as verdicts
use Rattle.ring.specs.declared.seat.Hints.{Hints}
use Rattle.ring.specs.declared.seat.Seat.{Seat}
use Rattle.ring.specs.declared.seat.Seat.TheVariants.{Idle, Start, First, Look, Exchange, Note}
use Rattle.ring.specs.Looks.{cell_at, verdict_of, beginning, one_step}
use Rattle.ring.specs.Seats.{Stepped, after_look, after_answer, step_seat}
use Rattle.ring.specs.Rings.{Ring, ring_of, seat_at, new_board, advanced}
use Rattle.ring.specs.Dealings.{deal}
use Rattle.ring.specs.Inside.{IndexInside, Inside, Meeting, board_after}
use Rattle.ring.proofs.Indices.{next_inside, hint_inside, hinted_inside}
use Rattle.ring.proofs.Busy.{busy_on}
use Rattle.ring.proofs.Keeping.{deal_keeps}

-- A STEP, over any cells
module _ (S : ℕ) (limits : Limits) (cells : List Cell) (hints : Hints) (ph : hints.put < S) (th : hints.take < S) where
  -- what is left of hints and seat
  abbrev StepInside : Stepped → Type 0
  StepInside x = (x.hints.put < S) × (x.hints.take < S) × IndexInside S x.seat

  look_inside : (call : Call) (i : ℕ) (u : Cell) (m : Verdict) → i < S → StepInside (after_look S cells hints call i u m)
  look_inside call i u (verdicts.Exchange e n) l = (ph, th, l)
  look_inside call i u (verdicts.Note o) l = (ph, th, l)
  look_inside call i u (verdicts.Answer o) l = (ph, th, tt)
  look_inside call i u verdicts.Onward l = (ph, th, next_inside S i l)

  answer_inside : (call : Call) (i : ℕ) (e : Cell) (a : Result (Unit {0}) Declined) → i < S → IndexInside S (after_answer S call i e a)
  answer_inside call i e (Ok done) l = next_inside S i l
  answer_inside call i e (Err cause) l = tt

  seat_inside : (t : Seat) → IndexInside S t → StepInside (step_seat limits S cells hints t)
  seat_inside Idle l = (ph, th, tt)
  seat_inside (Start call) l = (ph, th, hint_inside S hints ph th call.task)
  seat_inside (First call i) l = (ph, th, l)
  seat_inside (Look call i p) l = look_inside (one_step call) i (cell_at cells i) (verdict_of limits S call.task i p (cell_at cells i)) l
  seat_inside (Exchange call i e n) l = (ph, th, answer_inside (one_step call) i e (exchange_answer limits cells i e n) l)
  seat_inside (Note call i o) l = let w = hinted_inside S hints ph th call.task i l in (w.0, w.1, tt)

-- A BOARD with other hints and another seat
with_inside : (S : ℕ) (b : Board) → Inside S b → (s : ℕ) → s < 16 → (hints : Hints) (t : Seat) → hints.put < S → hints.take < S → IndexInside S t → Inside S (record { size = b.size; hints = hints; seats = set b.seats s t })
with_inside S b w s sits hints t ph th l =
    record {
      size = w.size;
      sixteen = length-set b.seats s t ∙ w.sixteen;
      put_hint = ph;
      take_hint = th;
      seats = λ i k. elim (cases_eq i s) [
        | inl e ↦ rw (e, get_or-set_same b.seats s t Idle (omega (arith, w.sixteen))) l
        | inr n ↦ rw (get_or-set_other b.seats s i t Idle n) (w.seats i k)
      ];
    }

step_inside : (S : ℕ) (limits : Limits) (r : Ring) → Inside S r.board → (s : ℕ) → s < 16 → Inside S (advanced limits r s).ring.board
step_inside S limits r w s sits =
    let x : Stepped = step_seat limits r.board.size r.cells r.board.hints (seat_at r s) in
    let l = subst (λ (n : ℕ). StepInside S limits r.cells r.board.hints w.put_hint w.take_hint (step_seat limits n r.cells r.board.hints (seat_at r s))) (sym w.size)
    (seat_inside S limits r.cells r.board.hints w.put_hint w.take_hint (seat_at r s) (w.seats s sits)) in
    with_inside S r.board w s sits x.hints x.seat l.0 l.1 l.2

pub new_inside : (S : ℕ) → 2 ≤ S → Inside S (new_board S)
new_inside S two =
    record { size = refl; sixteen = refl; put_hint = omega arith; take_hint = omega arith; seats = λ s l. rw (get_or-replicate 16 s Idle Idle l) tt }

pub all_inside : (S : ℕ) (ms : List Meeting) (b : Board) → Inside S b → Inside S (board_after b ms)
unfolding board_after
all_inside S [] b w = w
all_inside S (m ∷ ms) b w =
    all_inside S ms (deal m.limits (ring_of m.cells b) m.dealing).ring.board
    (deal_keeps m.limits (λ _ r. Inside S r.board)
    (λ H r v s task sits free fits. with_inside S r.board v s sits r.board.hints (Start (beginning task)) v.put_hint v.take_hint tt)
    (λ H r v s sits busy. step_inside S m.limits r v s sits)
    (λ H r v s sits busy on. busy_on m.limits r s (omega (arith, v.sixteen)) busy on)
    m.dealing [] (ring_of m.cells b) w)
