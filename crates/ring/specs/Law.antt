-- The law of whole runs: what holds of every history of a ring, from when it was new, whatever its dealings were and however their steps came between one another.
use Rattle.std.specs.Prelude.{◌≡◌, ℕ, ◌+◌, ◌*◌, ◌<◌, ◌≤◌, min, Bool, true, false, if◌then◌else◌, ◌&&◌, List, [], ◌∷◌, ◌++◌, map, length, take, Some, None, Option, is_err, ◌==◌}
use Rattle.std.specs.List.{count_by, flat_map, sum_by}
use Rattle.memory.specs.declared.cells.Cell.{Cell}
use Rattle.memory.specs.declared.cells.Limits.{Limits}
use Rattle.memory.specs.Rules.{alike, exchange_answer}
use Rattle.ring.specs.declared.calls.Answer.{Answer}
use Rattle.ring.specs.declared.calls.Outcome.{Outcome}
use Rattle.ring.specs.declared.calls.Outcome.TheVariants.{Placed, Empty, Full, Taken, Worn}
use Rattle.ring.specs.declared.calls.Task.{Task}
use Rattle.ring.specs.declared.calls.Task.TheVariants.{Put, Take}
use Rattle.ring.specs.declared.dealings.Dealing.{Dealing}
use Rattle.ring.specs.declared.dealings.Entry.{Entry}
use Rattle.ring.specs.declared.seat.Seat.{Seat}
use Rattle.ring.specs.declared.seat.Seat.TheVariants.{Look, Exchange}
use Rattle.ring.specs.Looks.{largest_count}
use Rattle.ring.specs.Rings.{Ring, seat_at}
use Rattle.ring.specs.Inside.{Meeting, board_after, Inside}
use Rattle.ring.specs.Histories.{Deed, begins, steps, Moment, History, history_of, told_from}

-- WHERE A CALL STOOD before a moment of its seat
abbrev pub stood : Moment → Seat
stood x = seat_at x.before x.seat

abbrev pub stands_at_look : Seat → Bool
stands_at_look (Look call i p) = true
stands_at_look seat = false

-- EXCHANGES

-- a successful exchange: a cell that is not as it was
pub record Change : Type 0 where
  pub was : Cell
  pub is : Cell

abbrev pub differences : List Cell → List Cell → List Change
differences [] after = []
differences (a ∷ cells) [] = []
differences (a ∷ cells) (b ∷ after) =
    if alike a b then differences cells after else (record { was = a; is = b } ∷ differences cells after)

abbrev pub changes : Moment → List Change
changes x = differences x.before.cells x.after.cells

-- a failed exchange: the memory answered it otherwise than 'done'
abbrev pub fails : Limits → List Cell → Seat → Bool
fails limits cells (Exchange call i expected new) = is_err (exchange_answer limits cells i expected new)
fails limits cells seat = false

-- CALLS: a put or a take, from its accepted begin on, open until its answer
abbrev pub is_begin : Deed → Bool
is_begin (begins task) = true
is_begin (steps answer) = false

abbrev pub is_step : Deed → Bool
is_step (begins task) = false
is_step (steps answer) = true

abbrev pub step_by : ℕ → Moment → Bool
step_by s x = x.seat == s && is_step x.deed

abbrev pub begin_by : ℕ → Moment → Bool
begin_by s x = x.seat == s && is_begin x.deed

-- the moments since the last begin of seat s, that begin included
abbrev pub since : ℕ → History → History
since s [] = []
since s (x ∷ H) = if begin_by s x then x ∷ [] else (x ∷ since s H)

-- of some moments: the steps of seat s, its failed exchanges, its changes, and how many changes others made
abbrev pub steps_of : ℕ → History → ℕ
steps_of s H = count_by (step_by s) H

abbrev pub failures_of : Limits → ℕ → History → ℕ
failures_of limits s H = count_by (λ x. step_by s x && fails limits x.before.cells (stood x)) H

abbrev pub changes_of : ℕ → History → List Change
changes_of s H = flat_map (λ x. if x.seat == s then changes x else []) H

abbrev pub others_of : ℕ → History → ℕ
others_of s H = sum_by (λ x. length (if x.seat == s then [] else changes x)) H

-- what the last call of seat s was begun as; a seat that has begun none counts as one of a take; in a lawful history it has no moment
abbrev pub task_of : Deed → Task → Task
task_of (begins task) earlier = task
task_of (steps answer) earlier = earlier

abbrev pub begun_as : ℕ → History → Task
begun_as s [] = Take
begun_as s (x ∷ H) = if x.seat == s then task_of x.deed (begun_as s H) else begun_as s H

-- the history up to the last look of the last call of seat s, that look included: its last step that stood at look
abbrev pub last_look : ℕ → History → Option History
last_look s [] = None
last_look s (x ∷ H) =
    if begin_by s x then None else if step_by s x && stands_at_look (stood x) then Some (x ∷ H) else last_look s H

-- an account of the call that seat s carries or last carried: what a history says of it
pub record Account : Type 0 where
  pub task : Task
  pub steps : ℕ
  pub failed : ℕ
  -- its successful exchanges, and how many others made while it was open
  pub made : List Change
  pub others : ℕ
  pub look : Option History

abbrev pub account_of : Limits → ℕ → History → Account
account_of limits s H =
    record {
      task = begun_as s H;
      steps = steps_of s (since s H);
      failed = failures_of limits s (since s H);
      made = changes_of s (since s H);
      others = others_of s (since s H);
      look = last_look s H;
    }

-- whether a call is open after this deed: its begin, or a step that gave no answer
abbrev pub stays_open : Deed → Bool
stays_open (begins task) = true
stays_open (steps None) = true
stays_open (steps (Some answer)) = false

-- whether seat s has an open call: what it did last left one open
abbrev pub is_open : ℕ → History → Bool
is_open s [] = false
is_open s (x ∷ H) = if x.seat == s then stays_open x.deed else is_open s H

-- WHAT MAY HAPPEN AT A SEAT, by whether it has an open call, and with which changes
-- A call begins where none is open, and changes no cell by that; a step is one of an open call.
-- So a call is answered at most once, and none is dropped for another.
abbrev pub InTurn : Deed → Bool → List Change → Type 0
InTurn (begins task) was_open made = (was_open ≡ false) × (made ≡ [])
InTurn (steps answer) was_open made = was_open ≡ true

-- every moment that there ever was came in its turn
abbrev pub EveryTurn : History → Type 0
EveryTurn [] = Unit {0}
EveryTurn (x ∷ H) = InTurn x.deed (is_open x.seat H) (changes x) × EveryTurn H

-- THE NUMBERS PUT AND TAKEN, in order: what puts stored and what takes removed, by successful exchanges
abbrev pub is_put : Task → Bool
is_put (Put value) = true
is_put Take = false

-- whether the newest moment is one of a put
abbrev pub by_put : Moment → History → Bool
by_put x H = is_put (begun_as x.seat (x ∷ H))

abbrev pub numbers_put : History → List ℕ
numbers_put [] = []
numbers_put (x ∷ H) = numbers_put H ++ (if by_put x H then map (λ c. c.is.value) (changes x) else [])

abbrev pub numbers_taken : History → List ℕ
numbers_taken [] = []
numbers_taken (x ∷ H) = numbers_taken H ++ (if by_put x H then [] else map (λ c. c.was.value) (changes x))

-- n numbers waited: how many had been put less how many had been taken
abbrev pub Waited : History → ℕ → Type 0
Waited H n = length (numbers_put H) ≡ length (numbers_taken H) + n

-- as many had been put as the rounds of S cells allow, and fewer than S waited
abbrev pub WornOut : ℕ → Limits → History → Type 0
WornOut S limits H = (length (numbers_put H) ≡ limits.round * S) × (length (numbers_put H) < length (numbers_taken H) + S)

-- WHAT AN ANSWER SAYS

-- exactly one successful exchange, of which P holds
abbrev pub Once : List Change → (Change → Type 0) → Type 0
Once (c ∷ []) P = P c
Once made P = ⊥

-- 'placed' and 'taken': one successful exchange, with the call's own number; 'full', 'none' and 'worn': no exchange. No put is answered as a take, and no take as a put.
abbrev pub ExchangesAs : Task → Outcome → List Change → Type 0
ExchangesAs (Put value) Placed made = Once made (λ c. c.is.value ≡ value)
ExchangesAs (Put value) Full made = made ≡ []
ExchangesAs (Put value) Worn made = made ≡ []
ExchangesAs Take (Taken n) made = Once made (λ c. c.was.value ≡ n)
ExchangesAs Take Empty made = made ≡ []
ExchangesAs Take Worn made = made ≡ []
ExchangesAs task outcome made = ⊥

-- the call has looked, and P held at its last look
abbrev pub AtLastLook : (History → Type 0) → Option History → Type 0
AtLastLook P None = ⊥
AtLastLook P (Some H) = P H

-- 'full': S numbers waited; 'none': none did; 'worn': the ring was worn out
abbrev pub TrueOf : ℕ → Limits → Outcome → Option History → Type 0
TrueOf S limits Placed look = Unit {0}
TrueOf S limits (Taken n) look = Unit {0}
TrueOf S limits Full look = AtLastLook (λ H. Waited H S) look
TrueOf S limits Empty look = AtLastLook (λ H. Waited H 0) look
TrueOf S limits Worn look = AtLastLook (WornOut S limits) look

-- the work of a call is bounded by what others did while it was open
abbrev pub Bounded : ℕ → Account → Type 0
Bounded S account = account.steps ≤ (S + 6) * (1 + account.others)

-- what holds of a call when it is answered
pub record AnsweredCall (S : ℕ) (limits : Limits) (account : Account) (answer : Answer) : Type 0 where
  pub exchanges : ExchangesAs account.task answer.outcome account.made
  pub truth : TrueOf S limits answer.outcome account.look
  pub bounded : Bounded S account
  -- the answer reports the steps and the failed exchanges, as far as counts go
  pub steps_told : answer.counts.steps ≡ min account.steps largest_count
  pub failed_told : answer.counts.failed ≡ min account.failed largest_count

-- what holds of a call while it is open
pub record OpenCall (S : ℕ) (account : Account) : Type 0 where
  pub exchanges : length account.made ≤ 1
  pub bounded : Bounded S account

-- if this deed is an answer, then its call is as an answered call is
abbrev pub AtAnswer : ℕ → Limits → Deed → Account → Type 0
AtAnswer S limits (begins task) account = Unit {0}
AtAnswer S limits (steps None) account = Unit {0}
AtAnswer S limits (steps (Some answer)) account = AnsweredCall S limits account answer

-- every answer that was ever given, at the moment when it was given
abbrev pub EveryAnswer : ℕ → Limits → History → Type 0
EveryAnswer S limits [] = Unit {0}
EveryAnswer S limits (x ∷ H) = AtAnswer S limits x.deed (account_of limits x.seat (x ∷ H)) × EveryAnswer S limits H

-- THE LAW, of a ring of S cells over a memory of these limits
pub record Lawful (S : ℕ) (limits : Limits) (H : History) : Type 0 where
  -- the numbers taken are the first of those put
  pub first_in_first_out : numbers_taken H ≡ take (length (numbers_taken H)) (numbers_put H)
  -- calls of a seat follow one another, and each is answered at most once
  pub one_call_at_a_time : EveryTurn H
  pub answered_calls : EveryAnswer S limits H
  pub open_calls : (s : ℕ) → is_open s H ≡ true → OpenCall S (account_of limits s H)

-- the law holds after each of some dealings: after none of them, after the first, and so on
abbrev pub LawfulThroughout : ℕ → Limits → Ring → List Dealing → Type 0
LawfulThroughout S limits ring dealings = (n : ℕ) → Lawful S limits (history_of limits ring (take n dealings))

-- the law holds of what a log tells, after each of its entries
pub record ToldLawfully (S : ℕ) (limits : Limits) (ring : Ring) (log : List Entry) : Type 0 where
  pub told : (n : ℕ) → Lawful S limits (told_from limits ring (take n log) [])

-- what is promised of a ring as it is now: whatever the dealings with it will be, and whatever memories its board will meet
pub record RunsLawfully (S : ℕ) (limits : Limits) (ring : Ring) : Type 0 where
  pub lawful : (dealings : List Dealing) → Lawful S limits (history_of limits ring dealings)
  pub stays_inside : (meetings : List Meeting) → Inside S (board_after ring.board meetings)
