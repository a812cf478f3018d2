-- Where a look leads, and what counts.
use Rattle.std.specs.Prelude.{ℕ, ◌+◌, ◌-◌, min, if◌then◌else◌, not, ◌&&◌, ◌||◌, List, ◌==◌, nat_le, nat_lt, slice_index_or}
use Rattle.memory.specs.declared.cells.Cell.{Cell}
use Rattle.memory.specs.declared.cells.Limits.{Limits}
use Rattle.memory.specs.Cells.{filled, fresh, before}
use Rattle.ring.specs.declared.calls.Call.{Call}
use Rattle.ring.specs.declared.calls.Counts.{Counts}
use Rattle.ring.specs.declared.calls.Outcome.{Outcome}
use Rattle.ring.specs.declared.calls.Outcome.TheVariants.{Placed, Empty, Full, Taken, Worn}
use Rattle.ring.specs.declared.calls.Task.{Task}
use Rattle.ring.specs.declared.calls.Task.TheVariants.{Put, Take}
use Rattle.ring.specs.declared.looks.Verdict.{Verdict}
use Rattle.ring.specs.declared.looks.Verdict.TheVariants.{Exchange, Note, Answer, Onward}

-- The index before and the index after, round the ring. Inside the ring they are (i + size − 1) mod size and (i + 1) mod size.
abbrev pub previous : ℕ → ℕ → ℕ
previous size i = if i == 0 then size - 1 else i - 1

abbrev pub next : ℕ → ℕ → ℕ
next size i = if nat_lt (i + 1) size then i + 1 else 0

-- The cell at an index. That a look outside reads a fresh cell is a formality: no dealings lead outside.
abbrev pub cell_at : List Cell → ℕ → Cell
cell_at cells i = slice_index_or cells i fresh

-- an empty cell of this round
abbrev pub emptied : ℕ → Cell
emptied round = record { value = 0; round = round }

-- the round at which a put finds the cell at index h empty, by the cell p before it
abbrev pub expected_round : Cell → ℕ → ℕ
expected_round p h =
    if filled p then if h == 0 then p.round + 1 else p.round else if h == 0 then p.round else p.round - 1

-- A put has read cell p and then, at the next index h, cell u: the earliest line that fits.
abbrev pub put_verdict : Limits → ℕ → ℕ → ℕ → Cell → Cell → Verdict
put_verdict limits size value h p u =
    let ordered = before p (previous size h) u h in
    let round = expected_round p h in
    if (filled p && not (filled u)) || (not ordered && (not (filled p) && not (filled u)))
    then if nat_le limits.round round then Answer Worn else Exchange (emptied round) (record { value = value; round = round })
    else if not ordered && (filled p && filled u) then Note Full
    else Onward

-- A take has read cell p and then, at the next index t, cell u.
abbrev pub take_verdict : Limits → ℕ → ℕ → Cell → Cell → Verdict
take_verdict limits size t p u =
    if before p (previous size t) u t then Onward
    else if not (filled u) then Answer Empty
    else if u.round == limits.round then Answer Worn
    else Exchange u (emptied (u.round + 1))

abbrev pub verdict_of : Limits → ℕ → Task → ℕ → Cell → Cell → Verdict
verdict_of limits size (Put value) i p u = put_verdict limits size value i p u
verdict_of limits size Take i p u = take_verdict limits size i p u

-- how a call ends whose exchange of this cell is done
abbrev pub outcome_of : Task → Cell → Outcome
outcome_of (Put value) expected = Placed
outcome_of Take expected = Taken expected.value

-- COUNTS: both stop at the largest number of 32 bits
abbrev pub largest_count : ℕ
largest_count = 4294967295

abbrev pub step_counted : Counts → Counts
step_counted counts = record { steps = min (counts.steps + 1) largest_count; failed = counts.failed }

abbrev pub failure_counted : Counts → Counts
failure_counted counts = record { steps = counts.steps; failed = min (counts.failed + 1) largest_count }

-- a call that has just begun, and one with a step or with a failed exchange more
abbrev pub beginning : Task → Call
beginning task = record { task = task; counts = record { steps = 0; failed = 0 } }

abbrev pub one_step : Call → Call
one_step call = record { task = call.task; counts = step_counted call.counts }

abbrev pub one_failure : Call → Call
one_failure call = record { task = call.task; counts = failure_counted call.counts }
