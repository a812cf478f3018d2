-- Every run from a new ring is lawful.
use Rattle.std.proofs.Common.{◌≡◌, ℕ, ◌<◌, ◌≤◌, true, false, not, List, [], ◌∷◌, length, replicate, sym, refl, ap, ◌∙◌, subst, subst₂, inl, inr, arith}
use lib.ListN.{length-replicate, get_or-replicate}
use Rattle.std.proofs.lemmas.Bool.{cases_lt, cases_eq, true≢false, not-true, eq-eqb, ne_eqb}
use Rattle.std.proofs.lemmas.List.{get_or_past}
use Rattle.memory.specs.declared.cells.Cell.{Cell}
use Rattle.memory.specs.declared.cells.Limits.{Limits}
use Rattle.memory.specs.Cells.{fresh}
use Rattle.memory.specs.Sizes.{is_ring_size}
use Rattle.memory.proofs.Powers.{size_bounds, decides_ring_size}
use Rattle.ring.specs.declared.calls.Counts.{Counts}
use Rattle.ring.specs.declared.calls.Outcome.{Outcome}
use Rattle.ring.specs.declared.calls.Outcome.TheVariants.{Placed, Empty, Full, Taken, Worn}
use Rattle.ring.specs.declared.calls.Task.{Task}
use Rattle.ring.specs.declared.calls.Task.TheVariants.{Put, Take}
use Rattle.ring.specs.declared.dealings.Dealing.{Dealing}
use Rattle.ring.specs.declared.seat.Seat.{Seat}
use Rattle.ring.specs.declared.seat.Seat.TheVariants.{Idle, Start, First, Look, Exchange, Note}
use Rattle.ring.specs.Looks.{beginning}
use Rattle.ring.specs.Seats.{Stepped, step_seat}
use Rattle.ring.specs.Rings.{Ring, seat_at, is_idle, new_board, new_ring, begun, advanced}
use Rattle.ring.specs.Dealings.{ring_after}
use Rattle.ring.specs.Histories.{History, begin_moment, step_moment, observed_from}
use Rattle.ring.specs.Law.{Change, Account, changes, account_of, numbers_put, numbers_taken, is_open, Once, ExchangesAs, OpenCall, EveryTurn, EveryAnswer, Lawful, RunsLawfully}
use Rattle.ring.proofs.Differences.{differences_none}
use Rattle.ring.proofs.Shape.{Shape}
use Rattle.ring.proofs.Invariant.{Fitting, AtStart, SeatSound, RingSound}
use Rattle.ring.proofs.Attempts.{price_open, few_looks}
use Rattle.ring.proofs.Pasts.{new_account, other_quiet, own_begin, put_quiet, taken_quiet}
use Rattle.ring.proofs.Moves.{seat_here, seat_else, quiet}
use Rattle.ring.proofs.Stepping.{Holds, step_holds}
use Rattle.ring.proofs.Busy.{busy_while_open, busy_on}
use Rattle.ring.proofs.Keeping.{dealings_keep}
use Rattle.ring.proofs.Bounds.{new_inside, all_inside}

-- THE NEW RING
new_holds : (S : ℕ) (limits : Limits) → 2 ≤ S → Holds S limits [] (new_ring S)
new_holds S limits two =
    record {
      shape = record {
        several = two;
        size = length-replicate S fresh;
        less = omega arith;
        room = omega arith;
        most = omega arith;
        each = λ i l. rw (get_or-replicate S i fresh fresh l)
            (record { low = omega arith; high = omega arith; full = λ m. absurd (omega arith); holds = λ m. absurd (omega arith); empty = λ _. refl });
        first = refl;
      };
      size = refl;
      sixteen = refl;
      put_hint = omega arith;
      take_hint = omega arith;
      seats = λ s l. rw (get_or-replicate 16 s Idle Idle l) tt;
    }

-- A BEGIN
begin_holds : (S : ℕ) (limits : Limits) (H : History) (r : Ring) → Holds S limits H r → (s : ℕ) (task : Task) → s < 16 → Fitting limits task → Holds S limits (begin_moment s task r (begun r s task) ∷ H) (begun r s task)
begin_holds S limits H r inv s task sits fits =
    let x = begin_moment s task r (begun r s task) in
    let still : changes x ≡ [] = differences_none r.cells in
    let none : Counts = record { steps = 0; failed = 0 } in
    let own : AtStart S limits task none (new_account task) =
    record { carried = record { steps = refl; failed = refl; begun = refl; fits = fits }; none = refl; paid = omega arith } in
    let i : RingSound S limits (numbers_put H) (numbers_taken H) (λ i. account_of limits i (x ∷ H)) (begun r s task) =
    quiet S limits (numbers_put H) (numbers_taken H) (λ i. account_of limits i H) (λ i. account_of limits i (x ∷ H)) r inv s sits r.board.hints inv.put_hint inv.take_hint (Start (beginning task))
    (subst (λ (c : Account). AtStart S limits task none c) (sym (own_begin limits s task r (begun r s task) H still)) own)
    (λ i n. other_quiet limits i x H (ne_eqb s i (λ m. n (sym m))) still) in
    subst₂ (λ (p t : List ℕ). RingSound S limits p t (λ i. account_of limits i (x ∷ H)) (begun r s task)) (sym (put_quiet x H still)) (sym (taken_quiet x H still)) i

-- A CALL IS OPEN in the history exactly where a seat carries one
abbrev Tied : History → Ring → Type 0
Tied H r = (i : ℕ) → is_open i H ≡ not (is_idle (seat_at r i))

tied_new : (S i : ℕ) → is_idle (seat_at (new_ring S) i) ≡ true
tied_new S i =
    elim (cases_lt i 16) [
      | inl l ↦ rw (get_or-replicate 16 i Idle Idle l) refl
      | inr m ↦ rw (get_or_past (replicate 16 Idle) i Idle m) refl
    ]

tied_begin : (H : History) (r : Ring) → Tied H r → (s : ℕ) (task : Task) → s < 16 → length r.board.seats ≡ 16 → Tied (begin_moment s task r (begun r s task) ∷ H) (begun r s task)
tied_begin H r tied s task sits sixteen i =
    let t : Seat = Start (beginning task) in
    elim (cases_eq s i) [
      | inl e ↦ rw (eq-eqb s i e, ← e, seat_here r s r.cells r.board.hints t (omega arith)) refl
      | inr n ↦ rw (ne_eqb s i n, seat_else r s r.cells r.board.hints t i (λ z. n (sym z))) (tied i)
    ]

tied_step : (limits : Limits) (H : History) (r : Ring) → Tied H r → (s : ℕ) → s < 16 → length r.board.seats ≡ 16 → is_idle (seat_at r s) ≡ false → Tied (step_moment s r (advanced limits r s).ring (advanced limits r s).answer ∷ H) (advanced limits r s).ring
tied_step limits H r tied s sits sixteen busy i =
    let x : Stepped = step_seat limits r.board.size r.cells r.board.hints (seat_at r s) in
    elim (cases_eq s i) [
      | inl e ↦ rw (eq-eqb s i e, ← e) (busy_while_open limits r s (omega arith) busy)
      | inr n ↦ rw (ne_eqb s i n, seat_else r s x.cells x.hints x.seat i (λ z. n (sym z))) (tied i)
    ]

-- a seat that is not there carries no call
none_past : (r : Ring) (s : ℕ) → length r.board.seats ≡ 16 → is_idle (seat_at r s) ≡ false → s < 16
none_past r s sixteen busy =
    elim (cases_lt s 16) [
      | inl l ↦ l
      | inr m ↦ absurd (true≢false (rw (get_or_past r.board.seats s Idle (omega arith)) at busy))
    ]

-- WHAT HOLDS OF AN OPEN CALL
none_le : (made : List Change) → made ≡ [] → length made ≤ 1
none_le made e = rw e (omega arith)

once_le : (made : List Change) (P : Change → Type 0) → Once made P → length made ≤ 1
once_le (c ∷ []) P w = omega arith
once_le made P w = absurd w

exchanges_le : (task : Task) (o : Outcome) (made : List Change) → ExchangesAs task o made → length made ≤ 1
exchanges_le (Put v) Placed made w = once_le made _ w
exchanges_le (Put v) Full made w = none_le made w
exchanges_le (Put v) Worn made w = none_le made w
exchanges_le Take (Taken n) made w = once_le made _ w
exchanges_le Take Empty made w = none_le made w
exchanges_le Take Worn made w = none_le made w
exchanges_le task o made w = absurd w

open_call : (S : ℕ) (limits : Limits) (cells : List Cell) (puts takes : List ℕ) → Shape S limits.round cells puts takes → (t : Seat) (a : Account) → is_idle t ≡ false → SeatSound S limits cells (length puts) (length takes) t a → OpenCall S a
open_call S limits cells puts takes sh Idle a busy w = absurd (true≢false busy)
open_call S limits cells puts takes sh (Start c) a busy w = record { exchanges = none_le a.made w.none; bounded = omega (arith, w.paid) }
open_call S limits cells puts takes sh (First c h) a busy w =
    record { exchanges = none_le a.made w.none; bounded = omega (arith, w.paid, price_open S w.earlier a.others w.some_earlier) }
open_call S limits cells puts takes sh (Look c h p) a busy w =
    record {
      exchanges = none_le a.made w.none;
      bounded = omega (arith, w.paid, few_looks S limits cells puts takes sh c.task h p c.counts a w, price_open S w.earlier a.others w.some_earlier);
    }
open_call S limits cells puts takes sh (Exchange c h e n) a busy w =
    record { exchanges = none_le a.made w.none; bounded = omega (arith, w.paid, price_open S w.earlier a.others w.some_earlier) }
open_call S limits cells puts takes sh (Note c h o) a busy w =
    record { exchanges = exchanges_le a.task o a.made w.exchanges; bounded = omega (arith, w.paid) }

-- THE THEOREM
record Good (S : ℕ) (limits : Limits) (H : History) (r : Ring) : Type 0 where
  pub holds : Holds S limits H r
  pub turns : EveryTurn H
  pub answers : EveryAnswer S limits H
  pub tied : Tied H r

good_begin : (S : ℕ) (limits : Limits) (H : History) (r : Ring) → Good S limits H r → (s : ℕ) (task : Task) → s < 16 → is_idle (seat_at r s) ≡ true → Fitting limits task → Good S limits (begin_moment s task r (begun r s task) ∷ H) (begun r s task)
good_begin S limits H r g s task sits free fits =
    record {
      holds = begin_holds S limits H r g.holds s task sits fits;
      turns = ((g.tied s ∙ ap not free, differences_none r.cells), g.turns);
      answers = (tt, g.answers);
      tied = tied_begin H r g.tied s task sits g.holds.sixteen;
    }

good_step : (S : ℕ) (limits : Limits) (H : History) (r : Ring) → Good S limits H r → (s : ℕ) → s < 16 → is_idle (seat_at r s) ≡ false → Good S limits (step_moment s r (advanced limits r s).ring (advanced limits r s).answer ∷ H) (advanced limits r s).ring
good_step S limits H r g s sits busy =
    let m = step_holds S limits H r g.holds s sits busy in
    record {
      holds = m.0;
      turns = (g.tied s ∙ ap not busy, g.turns);
      answers = (m.1, g.answers);
      tied = tied_step limits H r g.tied s sits g.holds.sixteen busy;
    }

good_on : (S : ℕ) (limits : Limits) (ds : List Dealing) (H : History) (r : Ring) → Good S limits H r → Good S limits (observed_from limits r ds H) (ring_after limits r ds)
good_on S limits ds H r g =
    dealings_keep limits (Good S limits) (good_begin S limits) (good_step S limits)
    (λ H' r' g' s sits busy on. busy_on limits r' s (omega (arith, g'.holds.sixteen)) busy on) ds H r g

good_new : (S : ℕ) (limits : Limits) → 2 ≤ S → Good S limits [] (new_ring S)
good_new S limits two =
    record { holds = new_holds S limits two; turns = tt; answers = tt; tied = λ i. sym (ap not (tied_new S i)) }

good_lawful : (S : ℕ) (limits : Limits) (H : History) (r : Ring) → Good S limits H r → Lawful S limits H
good_lawful S limits H r g =
    record {
      first_in_first_out = g.holds.shape.first;
      one_call_at_a_time = g.turns;
      answered_calls = g.answers;
      open_calls = λ s o.
          let busy = not-true (is_idle (seat_at r s)) (sym (g.tied s) ∙ o) in
          open_call S limits r.cells (numbers_put H) (numbers_taken H) g.holds.shape (seat_at r s) (account_of limits s H) busy
          (g.holds.seats s (none_past r s g.holds.sixteen busy));
    }

pub runs_lawfully : (S : ℕ) (limits : Limits) (r : Ring) → 2 ≤ S → r ≡ new_ring S → RunsLawfully S limits r
runs_lawfully S limits r two e =
    subst (λ (x : Ring). RunsLawfully S limits x) (sym e)
    (record {
      lawful = λ ds. good_lawful S limits _ _ (good_on S limits ds [] (new_ring S) (good_new S limits two));
      stays_inside = λ ms. all_inside S ms (new_board S) (new_inside S two);
    })

-- the same of a size that a ring can have
pub sized_runs_lawfully : (S : ℕ) (limits : Limits) (r : Ring) → is_ring_size S ≡ true → r ≡ new_ring S → RunsLawfully S limits r
sized_runs_lawfully S limits r sized e = runs_lawfully S limits r (size_bounds S ((decides_ring_size S).0 sized)).0 e
