-- The lines that are printed of a trace, and their texts, each without its line end.
use Rattle.std.specs.Prelude.{ℕ, List, ◌++◌, Ok, Err, codes, decimal, Result}
use Rattle.memory.specs.declared.refusals.Refusal.{Refusal}
use Rattle.memory.specs.Refusals.{number_of, place_of}
use Rattle.trace.specs.declared.head.Head.{Head}
use Rattle.trace.specs.declared.head.Kind.{Kind}
use Rattle.trace.specs.declared.lines.Line.{Line}
use Rattle.trace.specs.declared.lines.Line.TheVariants.{Ring, Fault}
use Rattle.trace.specs.Heads.{kind_number, head_of}

-- the first line of a ring of so many cells in such a memory
abbrev pub ring_line : ℕ → Kind → List ℕ
ring_line size kind = codes "ring " ++ (decimal size ++ (codes " kind " ++ decimal (kind_number kind)))

-- the line of a refusal of this number and this place
abbrev pub fault_line : ℕ → ℕ → List ℕ
fault_line number place = codes "fault " ++ (decimal number ++ (codes " " ++ decimal place))

-- the bytes that are printed of a line
abbrev pub text_of : Line → List ℕ
text_of (Ring size kind) = ring_line size kind
text_of (Fault number place) = fault_line number place

-- the line of a trace that is refused so
abbrev pub line_of_refusal : Refusal → Line
line_of_refusal refusal = Fault (number_of refusal) (place_of refusal)

-- the line of a trace whose head is read so
abbrev pub line_by : Result Head Refusal → Line
line_by (Ok head) = Ring head.size head.kind
line_by (Err refusal) = line_of_refusal refusal

-- the line of a trace of these bytes
abbrev pub line_of_trace : List ℕ → Line
line_of_trace bytes = line_by (head_of bytes)

-- its text
abbrev pub opening_line : List ℕ → List ℕ
opening_line bytes = text_of (line_of_trace bytes)
