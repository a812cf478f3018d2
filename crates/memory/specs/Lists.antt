-- Lists of any elements.
use Rattle.std.specs.Prelude.{ℕ, zero, suc, List, [], ◌∷◌}

-- x in the place of the elements from `start` on, `count` of them; places past the end are skipped
abbrev pub overwritten : {X : Type 0} → X → List X → ℕ → ℕ → List X
overwritten x [] start count = []
overwritten x (y ∷ ys) zero zero = y ∷ ys
overwritten x (y ∷ ys) zero (suc count) = x ∷ overwritten x ys zero count
overwritten x (y ∷ ys) (suc start) count = y ∷ overwritten x ys start count
