-- Lists with some of their elements overwritten.
use Rattle.std.proofs.Common.{◌≡◌, ℕ, zero, suc, ◌+◌, ◌-◌, ◌≤◌, min, List, [], ◌∷◌, map, length, set, replicate, take, drop, ◌++◌, sym, refl, ap, ◌∙◌, inl, inr, suc-add, arith}
use Rattle.std.proofs.lemmas.Bool.{cases_lt}
use Rattle.std.proofs.lemmas.List.{length-take, length-drop}
use Rattle.memory.specs.Lists.{overwritten}

pub length-overwritten : {X : Type 0} (x : X) (ys : List X) (s n : ℕ) → length (overwritten x ys s n) ≡ length ys
length-overwritten x [] s n = refl
length-overwritten x (y ∷ ys) zero zero = refl
length-overwritten x (y ∷ ys) zero (suc n) = ap suc (length-overwritten x ys zero n)
length-overwritten x (y ∷ ys) (suc s) n = ap suc (length-overwritten x ys s n)

pub overwritten_none : {X : Type 0} (x : X) (ys : List X) (s : ℕ) → overwritten x ys s 0 ≡ ys
overwritten_none x [] s = refl
overwritten_none x (y ∷ ys) zero = refl
overwritten_none x (y ∷ ys) (suc s) = ap (λ t. y ∷ t) (overwritten_none x ys s)

pub overwritten-map : {X Y : Type 0} (f : X → Y) (x : X) (ys : List X) (s n : ℕ) → map f (overwritten x ys s n) ≡ overwritten (f x) (map f ys) s n
overwritten-map f x [] s n = refl
overwritten-map f x (y ∷ ys) zero zero = refl
overwritten-map f x (y ∷ ys) zero (suc n) = ap (λ t. f x ∷ t) (overwritten-map f x ys zero n)
overwritten-map f x (y ∷ ys) (suc s) n = ap (λ t. f y ∷ t) (overwritten-map f x ys s n)

-- one element more: the step of a loop over a list
pub overwritten_step : {X : Type 0} (x : X) (ys : List X) (i : ℕ) → set (overwritten x ys 0 i) i x ≡ overwritten x ys 0 (i + 1)
overwritten_step x [] zero = refl
overwritten_step x [] (suc i) = refl
overwritten_step x (y ∷ ys) zero = ap (λ t. x ∷ t) (sym (overwritten_none x ys zero))
overwritten_step x (y ∷ ys) (suc i) = rw suc-add (ap (λ t. x ∷ t) (overwritten_step x ys i))

-- counts that reach the end are as good as one another
overwritten_all : {X : Type 0} (x : X) (ys : List X) (s n m : ℕ) → length ys ≤ s + n → length ys ≤ s + m → overwritten x ys s n ≡ overwritten x ys s m
overwritten_all x [] s n m h k = refl
overwritten_all x (y ∷ ys) zero zero m h k = absurd (omega arith)
overwritten_all x (y ∷ ys) zero (suc n) zero h k = absurd (omega arith)
overwritten_all x (y ∷ ys) zero (suc n) (suc m) h k = ap (λ t. x ∷ t) (overwritten_all x ys zero n m (omega arith) (omega arith))
overwritten_all x (y ∷ ys) (suc s) n m h k = ap (λ t. y ∷ t) (overwritten_all x ys s n m (omega arith) (omega arith))

-- a list that is overwritten as a whole
pub overwritten_whole : {X : Type 0} (x : X) (ys : List X) → overwritten x ys 0 (length ys) ≡ replicate (length ys) x
overwritten_whole x [] = refl
overwritten_whole x (y ∷ ys) = ap (λ t. x ∷ t) (overwritten_whole x ys)

-- nothing past the end is overwritten
overwritten_past : {X : Type 0} (x : X) (ys : List X) (s n : ℕ) → length ys ≤ s → overwritten x ys s n ≡ ys
overwritten_past x [] s n h = refl
overwritten_past x (y ∷ ys) zero n h = absurd (omega arith)
overwritten_past x (y ∷ ys) (suc s) n h = ap (λ t. y ∷ t) (overwritten_past x ys s n (omega arith))

-- the elements from `s` on, k of them, overwritten in a slice of their own
overwritten_slice : {X : Type 0} (x : X) (ys : List X) (s k i : ℕ) → s + k ≤ length ys → k ≤ i → take s ys ++ (overwritten x (take k (drop s ys)) 0 i ++ drop k (drop s ys)) ≡ overwritten x ys s k
overwritten_slice x ys zero zero i h l = sym (overwritten_none x ys zero)
overwritten_slice x [] zero (suc k) i h l = absurd (omega arith)
overwritten_slice x (y ∷ ys) zero (suc k) zero h l = absurd (omega arith)
overwritten_slice x (y ∷ ys) zero (suc k) (suc i) h l = ap (λ t. x ∷ t) (overwritten_slice x ys zero k i (omega arith) (omega arith))
overwritten_slice x [] (suc s) k i h l = absurd (omega arith)
overwritten_slice x (y ∷ ys) (suc s) k i h l = ap (λ t. y ∷ t) (overwritten_slice x ys s k i (omega arith) (omega arith))

-- a start and a count, clipped to the list
pub overwritten_clipped : {X : Type 0} (x : X) (ys : List X) (s n first many : ℕ) → first ≡ min s (length ys) → many ≡ min n (length ys - first) → overwritten x ys first many ≡ overwritten x ys s n
overwritten_clipped x ys s n first many p q = elim (cases_lt s (length ys)) [
  | inl h ↦
      let e : first ≡ s = omega arith in
      ap (λ (j : ℕ). overwritten x ys j many) e ∙ elim (cases_lt n (length ys - s)) [
        | inl k ↦ ap (λ (j : ℕ). overwritten x ys s j) (let f : many ≡ n = omega arith in f)
        | inr k ↦ overwritten_all x ys s many n (omega arith) (omega arith)
      ]
  | inr h ↦ overwritten_past x ys first many (omega arith) ∙ sym (overwritten_past x ys s n h)
]

-- a slice of a list from `first` to `end` that is overwritten as far as i, which is all of it
pub overwritten_part : {X : Type 0} (x : X) (ys : List X) (s n first end i : ℕ) → first ≡ min s (length ys) → end ≡ min (first + n) (length ys) → first ≤ end → length (take (end - first) (drop first ys)) ≤ i
    → take first ys ++ (overwritten x (take (end - first) (drop first ys)) 0 i ++ drop (end - first) (drop first ys)) ≡ overwritten x ys s n
overwritten_part x ys s n first end i p q o h =
    let l = length-take (end - first) (drop first ys) in
    let m = length-drop first ys in
    overwritten_slice x ys first (end - first) i (omega arith) (omega arith) ∙ overwritten_clipped x ys s n first (end - first) p (omega arith)
