-- The number, the place and the layer of every refusal.
use Rattle.std.specs.Prelude.{ℕ, Bool, if◌then◌else◌, List, [], ◌∷◌, Ok, Err, Result, nat_le}
use Rattle.memory.specs.declared.refusals.Layer.{Layer}
use Rattle.memory.specs.declared.refusals.Layer.TheVariants.{Ring, Memory, Trace}
use Rattle.memory.specs.declared.refusals.Refusal.{Refusal}
use Rattle.memory.specs.declared.refusals.Refusal.TheVariants.{RingSize, NoSeat, OtherSize, SeatBusy, SeatIdle, ValueOutside, CountOutside, WindowOutside, PageTooShort, PageVersion, PageLength, PageSize, TraceHead}

abbrev pub number_of : Refusal → ℕ
number_of RingSize = 1
number_of (NoSeat seat) = 2
number_of (OtherSize seat) = 3
number_of (SeatBusy seat) = 4
number_of (SeatIdle seat) = 5
number_of (ValueOutside seat) = 6
number_of (CountOutside seat) = 7
number_of WindowOutside = 9
number_of PageTooShort = 10
number_of PageVersion = 11
number_of PageLength = 12
number_of PageSize = 13
number_of TraceHead = 14

abbrev pub place_of : Refusal → ℕ
place_of RingSize = 0
place_of (NoSeat seat) = seat
place_of (OtherSize seat) = seat
place_of (SeatBusy seat) = seat
place_of (SeatIdle seat) = seat
place_of (ValueOutside seat) = seat
place_of (CountOutside seat) = seat
place_of WindowOutside = 0
place_of PageTooShort = 0
place_of PageVersion = 0
place_of PageLength = 1
place_of PageSize = 5
place_of TraceHead = 0

-- ring for 1 to 8, memory for 9 to 13, trace for 14 to 16
abbrev pub layer_of : Refusal → Layer
layer_of r = if nat_le (number_of r) 8 then Ring else if nat_le (number_of r) 13 then Memory else Trace

-- the answer x, unless some cause applies: then the first that does
abbrev pub unless : {X : Type 0} → List (Bool × Refusal) → X → Result X Refusal
unless [] x = Ok x
unless (cause ∷ causes) x = if cause.0 then Err cause.1 else unless causes x

-- one judgement after another: the second answer, unless the first refuses
abbrev pub and_then : {X Y : Type 0} → Result X Refusal → Result Y Refusal → Result Y Refusal
and_then (Ok x) second = second
and_then (Err cause) second = Err cause
