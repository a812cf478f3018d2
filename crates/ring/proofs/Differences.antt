-- The cells that an exchange leaves different.
use Rattle.std.proofs.Common.{◌≡◌, ℕ, zero, suc, ◌<◌, true, false, eqb, List, [], ◌∷◌, length, set, refl, arith}
use Rattle.std.proofs.lemmas.Bool.{and_parts, and_from, eqb-true, eq-eqb}
use Rattle.memory.specs.declared.cells.Cell.{Cell}
use Rattle.memory.specs.Rules.{alike}
use Rattle.ring.specs.Looks.{cell_at}
use Rattle.ring.specs.Law.{differences}

pub cell_path : (a b : Cell) → a.value ≡ b.value → a.round ≡ b.round → a ≡ b
cell_path a b x y = λ i. record { value = x i; round = y i }

pub alike_same : (a b : Cell) → alike a b ≡ true → a ≡ b
alike_same a b e =
    let p = and_parts (eqb a.value b.value) (eqb a.round b.round) e in
    cell_path a b (eqb-true a.value b.value p.0) (eqb-true a.round b.round p.1)

pub alike_self : (a : Cell) → alike a a ≡ true
alike_self a =
    and_from (eqb a.value a.value) (eqb a.round a.round) (eq-eqb a.value a.value refl) (eq-eqb a.round a.round refl)

pub differences_none : (cells : List Cell) → differences cells cells ≡ []
differences_none [] = refl
differences_none (a ∷ cells) = rw (alike_self a) (differences_none cells)

pub differences_one : (cells : List Cell) (i : ℕ) (n : Cell) → i < length cells → alike (cell_at cells i) n ≡ false → differences cells (set cells i n) ≡ record { was = cell_at cells i; is = n } ∷ []
differences_one [] i n h e = absurd (omega arith)
differences_one (a ∷ cells) zero n h e = rw (e, differences_none cells) refl
differences_one (a ∷ cells) (suc i) n h e = rw (alike_self a) (differences_one cells i n (omega arith) e)
