-- What is true of a ring and of each of its seats after any dealings, and that the facts of a seat outlive what other seats do.
use Rattle.std.proofs.Common.{◌≡◌, ℕ, ◌+◌, ◌*◌, ◌<◌, ◌≤◌, min, Bool, if◌then◌else◌, List, [], ◌++◌, length, Option, arith}
use Rattle.memory.specs.declared.cells.Cell.{Cell}
use Rattle.memory.specs.declared.cells.Limits.{Limits}
use Rattle.ring.specs.declared.calls.Call.{Call}
use Rattle.ring.specs.declared.calls.Counts.{Counts}
use Rattle.ring.specs.declared.calls.Outcome.{Outcome}
use Rattle.ring.specs.declared.calls.Task.{Task}
use Rattle.ring.specs.declared.calls.Task.TheVariants.{Put, Take}
use Rattle.ring.specs.declared.seat.Seat.{Seat}
use Rattle.ring.specs.declared.seat.Seat.TheVariants.{Idle, Start, First, Look, Exchange, Note}
use Rattle.ring.specs.Looks.{cell_at, previous, emptied, largest_count}
use Rattle.ring.specs.Rings.{Ring, seat_at}
use Rattle.ring.specs.Histories.{History}
use Rattle.ring.specs.Law.{Change, Account, ExchangesAs, TrueOf}
use Rattle.ring.proofs.Places.{place}
use Rattle.ring.proofs.Shape.{place_at, Shape}

-- WHAT A SEAT KNOWS. P numbers were put and T were taken. Of the changes that others made while its call was open, `earlier` were made before its last start; since that start, `looks` of its looks went on to the next cell. A failed exchange needs a change by another since the last start: that is how the steps are paid for.

abbrev pub Fitting : Limits → Task → Type 0
Fitting limits (Put v) = (0 < v) × (v ≤ limits.value)
Fitting limits Take = Unit {0}

-- the counts are those of the history, the task is the one that was begun, and its value fits
pub record Carried (limits : Limits) (task : Task) (counts : Counts) (account : Account) : Type 0 where
  pub steps : counts.steps ≡ min account.steps largest_count
  pub failed : counts.failed ≡ min account.failed largest_count
  pub begun : account.task ≡ task
  pub fits : Fitting limits task

pub record AtStart (S : ℕ) (limits : Limits) (task : Task) (counts : Counts) (account : Account) : Type 0 where
  pub carried : Carried limits task counts account
  pub none : account.made ≡ []
  pub paid : account.steps ≤ (S + 6) * account.others

pub record AtFirst (S : ℕ) (limits : Limits) (task : Task) (h : ℕ) (counts : Counts) (account : Account) : Type 0 where
  pub carried : Carried limits task counts account
  pub none : account.made ≡ []
  pub inside : h < S
  pub earlier : ℕ
  pub some_earlier : earlier ≤ account.others
  pub paid : account.steps ≤ (S + 6) * earlier + 1

-- How far the cell p, read at the index before h, is from the end of the line that the call looks for.
abbrev pub Way : ℕ → ℕ → ℕ → Task → ℕ → Cell → ℕ → ℕ → ℕ → Type 0
Way S P T (Put v) h p others earlier looks =
    (0 < p.value → place S (previous S h) p < P)
    × (p.value ≡ 0 → P + looks + earlier ≤ place S (previous S h) p + others)
    × (P + looks + earlier ≤ place S (previous S h) p + S + others)
Way S P T Take h p others earlier looks = T + looks + earlier ≤ place S (previous S h) p + others

pub record AtLook (S : ℕ) (limits : Limits) (cells : List Cell) (P T : ℕ) (task : Task) (h : ℕ) (p : Cell) (counts : Counts) (account : Account) : Type 0 where
  pub carried : Carried limits task counts account
  pub none : account.made ≡ []
  pub inside : h < S
  pub earlier : ℕ
  pub looks : ℕ
  pub some_earlier : earlier ≤ account.others
  pub paid : account.steps ≤ (S + 6) * earlier + 2 + looks
  pub behind : place S (previous S h) p ≤ place_at S cells (previous S h)
  pub way : Way S P T task h p account.others earlier looks
  -- where no other has changed a cell since the start, p still stands
  pub still : account.others ≡ earlier → cell_at cells (previous S h) ≡ p

-- what an exchange at index h is to put in the place of the expected cell
abbrev pub renewed : Task → Cell → Cell
renewed (Put v) expected = record { value = v; round = expected.round }
renewed Take expected = emptied (expected.round + 1)

abbrev pub Ready : ℕ → Limits → List Cell → ℕ → Task → ℕ → Cell → Type 0
Ready S limits cells P (Put v) h expected = (expected ≡ emptied expected.round) × (expected.round < limits.round) × (place S h expected ≤ P)
Ready S limits cells P Take h expected =
    (0 < expected.value) × (expected.round < limits.round) × (place S h expected < place_at S cells (previous S h))

pub record AtExchange (S : ℕ) (limits : Limits) (cells : List Cell) (P : ℕ) (task : Task) (h : ℕ) (expected new : Cell) (counts : Counts) (account : Account) : Type 0 where
  pub carried : Carried limits task counts account
  pub none : account.made ≡ []
  pub inside : h < S
  pub earlier : ℕ
  pub some_earlier : earlier ≤ account.others
  pub paid : account.steps + earlier ≤ (S + 6) * earlier + S + 2 + account.others
  pub ready : Ready S limits cells P task h expected
  pub renews : new ≡ renewed task expected
  pub still : account.others ≡ earlier → cell_at cells h ≡ expected

pub record AtNote (S : ℕ) (limits : Limits) (task : Task) (h : ℕ) (outcome : Outcome) (counts : Counts) (account : Account) : Type 0 where
  pub carried : Carried limits task counts account
  pub inside : h < S
  pub paid : account.steps + 1 ≤ (S + 6) * (1 + account.others)
  pub exchanges : ExchangesAs account.task outcome account.made
  pub truth : TrueOf S limits outcome account.look

abbrev pub SeatSound : ℕ → Limits → List Cell → ℕ → ℕ → Seat → Account → Type 0
SeatSound S limits cells P T Idle account = Unit {0}
SeatSound S limits cells P T (Start call) account = AtStart S limits call.task call.counts account
SeatSound S limits cells P T (First call h) account = AtFirst S limits call.task h call.counts account
SeatSound S limits cells P T (Look call h p) account = AtLook S limits cells P T call.task h p call.counts account
SeatSound S limits cells P T (Exchange call h expected new) account = AtExchange S limits cells P call.task h expected new call.counts account
SeatSound S limits cells P T (Note call h outcome) account = AtNote S limits call.task h outcome call.counts account

abbrev pub carrying : Task → Counts → Call
carrying task counts = record { task = task; counts = counts }

-- WHAT IS TRUE OF A RING, of what was put and taken, and of the calls as they are known
pub record RingSound (S : ℕ) (limits : Limits) (puts takes : List ℕ) (accounts : ℕ → Account) (ring : Ring) : Type 0 where
  pub shape : Shape S limits.round ring.cells puts takes
  pub size : ring.board.size ≡ S
  pub sixteen : length ring.board.seats ≡ 16
  pub put_hint : ring.board.hints.put < S
  pub take_hint : ring.board.hints.take < S
  pub seats : (s : ℕ) → s < 16 → SeatSound S limits ring.cells (length puts) (length takes) (seat_at ring s) (accounts s)

-- 1 where the test holds, 0 where not
abbrev pub one : Bool → ℕ
one b = if b then 1 else 0

-- a call after a step of its own: f failed exchanges more, these changes, this last look
abbrev pub stepped : ℕ → List Change → Option History → Account → Account
stepped f made look account =
    record {
      task = account.task;
      steps = 1 + account.steps;
      failed = f + account.failed;
      made = made ++ account.made;
      others = account.others;
      look = look;
    }

-- a call after d changes by others
abbrev pub outdone : ℕ → Account → Account
outdone d account =
    record { task = account.task; steps = account.steps; failed = account.failed; made = account.made; others = d + account.others; look = account.look }

-- SURVIVAL: the facts of a seat outlive a change by another, since places only rise, and the numbers put and taken by one at most
module _ (S : ℕ) (limits : Limits) (cells cells' : List Cell) (P P' T T' : ℕ) (rises : (i : ℕ) → place_at S cells i ≤ place_at S cells' i) (more : P ≤ P') (one : P' ≤ P + 1) (one' : T' ≤ T + 1) where
  keeps_way : (task : Task) (h : ℕ) (p : Cell) (n a l : ℕ) → Way S P T task h p n a l → Way S P' T' task h p (1 + n) a l
  keeps_way (Put v) h p n a l w = (λ f. omega (arith, w.0 f), λ z. omega (arith, w.1 z), omega (arith, w.2))
  keeps_way Take h p n a l w = omega arith

  keeps_ready : (task : Task) (h : ℕ) (expected : Cell) → Ready S limits cells P task h expected → Ready S limits cells' P' task h expected
  keeps_ready (Put v) h expected w = (w.0, w.1, omega (arith, w.2))
  keeps_ready Take h expected w = (w.0, w.1, omega (arith, w.2, rises (previous S h)))

  keeps_carried : (task : Task) (counts : Counts) (account : Account) → Carried limits task counts account → Carried limits task counts (outdone 1 account)
  keeps_carried task counts account w = record { steps = w.steps; failed = w.failed; begun = w.begun; fits = w.fits }

  pub survives : (seat : Seat) (account : Account) → SeatSound S limits cells P T seat account → SeatSound S limits cells' P' T' seat (outdone 1 account)
  survives Idle account w = tt
  survives (Start call) account w =
      record { carried = keeps_carried call.task call.counts account w.carried; none = w.none; paid = omega (arith, w.paid) }
  survives (First call h) account w =
      record {
        carried = keeps_carried call.task call.counts account w.carried;
        none = w.none;
        inside = w.inside;
        earlier = w.earlier;
        some_earlier = omega (arith, w.some_earlier);
        paid = w.paid;
      }
  survives (Look call h p) account w =
      record {
        carried = keeps_carried call.task call.counts account w.carried;
        none = w.none;
        inside = w.inside;
        earlier = w.earlier;
        looks = w.looks;
        some_earlier = omega (arith, w.some_earlier);
        paid = w.paid;
        behind = omega (arith, w.behind, rises (previous S h));
        way = keeps_way call.task h p account.others w.earlier w.looks w.way;
        still = λ e. absurd (omega (arith, w.some_earlier));
      }
  survives (Exchange call h expected new) account w =
      record {
        carried = keeps_carried call.task call.counts account w.carried;
        none = w.none;
        inside = w.inside;
        earlier = w.earlier;
        some_earlier = omega (arith, w.some_earlier);
        paid = omega (arith, w.paid);
        ready = keeps_ready call.task h expected w.ready;
        renews = w.renews;
        still = λ e. absurd (omega (arith, w.some_earlier));
      }
  survives (Note call h outcome) account w =
      record {
        carried = keeps_carried call.task call.counts account w.carried;
        inside = w.inside;
        paid = omega (arith, w.paid);
        exchanges = w.exchanges;
        truth = w.truth;
      }
