-- The place of a cell in the order of all laps of a ring of S cells: round × S + index. Nothing outside this file looks into how cells are ordered or how a put finds its round.
use Rattle.std.proofs.Common.{◌≡◌, ℕ, ◌+◌, ◌-◌, ◌*◌, ◌<◌, ◌≤◌, true, false, ◌&&◌, eqb, ltb, ap, inl, inr, mul-le-mul_right, arith}
use Rattle.std.proofs.lemmas.Bool.{cases_lt, cases_eq, or_cases, or_parts, and_parts, and_cases, ltb-true, ltb-false, eqb-true, eqb-false}
use Rattle.std.proofs.lemmas.Bool.Decides.{nat_tests}
use Rattle.memory.specs.declared.cells.Cell.{Cell}
use Rattle.memory.specs.Cells.{before}
use Rattle.ring.specs.Looks.{previous, expected_round}
use Rattle.ring.proofs.Indices.{previous_is}

abbrev pub place : ℕ → ℕ → Cell → ℕ
place S i c = c.round * S + i

-- LAPS: a round more is S places more
pub lap_lt : (S a b : ℕ) → a < b → a * S + S ≤ b * S
lap_lt S a b h = omega (arith, mul-le-mul_right S h)

-- two laps that begin less than S places apart
lap_near : (S a b : ℕ) → a * S < b * S + S → a * S ≤ b * S
lap_near S a b h = elim (cases_lt b a) [ inl k ↦ omega (arith, lap_lt S b a k) | inr k ↦ mul-le-mul_right S k ]

pub lap_same : (S a b : ℕ) → 0 < S → a * S ≡ b * S → a ≡ b
lap_same S a b z e =
    elim (cases_lt b a) [
      | inl k ↦ omega (arith, lap_lt S b a k)
      | inr k ↦ elim (cases_lt a b) [ inl m ↦ omega (arith, lap_lt S a b m) | inr m ↦ omega arith ]
    ]

-- one place has one index
pub one_index : (S a b i j : ℕ) → i < S → j < S → a * S + i ≡ b * S + j → i ≡ j
one_index S a b i j hi hj e =
    let p : a * S ≤ b * S = lap_near S a b (omega arith) in
    let q : b * S ≤ a * S = lap_near S b a (omega arith) in
    omega arith

-- THE ORDER of cells is the order of their places
pub before_yes : (S i j : ℕ) (a b : Cell) → i < S → j < S → before a i b j ≡ true → place S i a < place S j b
before_yes S i j a b hi hj e =
    elim (or_cases (ltb a.round b.round) (eqb a.round b.round && ltb i j) e) [
      | inl t ↦ omega (arith, lap_lt S a.round b.round (ltb-true a.round b.round t))
      | inr t ↦
          let p = and_parts (eqb a.round b.round) (ltb i j) t in
          let q : a.round * S ≡ b.round * S = ap (λ n. n * S) (eqb-true a.round b.round p.0) in
          omega (arith, ltb-true i j p.1)
    ]

pub before_no : (S i j : ℕ) (a b : Cell) → i < S → j < S → before a i b j ≡ false → place S j b ≤ place S i a
before_no S i j a b hi hj e =
    let p = or_parts (ltb a.round b.round) (eqb a.round b.round && ltb i j) e in
    let m : b.round ≤ a.round = ltb-false a.round b.round p.0 in
    elim (and_cases (eqb a.round b.round) (ltb i j) p.1) [
      | inl t ↦
          let k : b.round < a.round = omega (arith, eqb-false a.round b.round t) in
          omega (arith, lap_lt S b.round a.round k)
      | inr t ↦ omega (arith, mul-le-mul_right S m, ltb-false i j t)
    ]

-- NEIGHBOURS: among S places from T on, the cell at index h, of round a, and the cell before it, of round p
pub previous_of_later : (S T h a p : ℕ) → h < S → a * S + h < T + S → T ≤ p * S + previous S h → p * S + previous S h < T + S → T < a * S + h → p * S + previous S h + 1 ≡ a * S + h
previous_of_later S T h a p l hi lo hi' after =
    elim (previous_is S h l) [
      | inl e ↦
          let x : (p + 1) * S ≤ a * S = lap_near S (p + 1) a (omega (arith, e)) in
          let y : a * S ≤ (p + 1) * S = lap_near S a (p + 1) (omega (arith, e)) in
          omega (arith, e)
      | inr e ↦
          let x : p * S ≤ a * S = lap_near S p a (omega (arith, e)) in
          let y : a * S ≤ p * S = lap_near S a p (omega (arith, e)) in
          omega (arith, e)
    ]

pub previous_of_tail : (S T h a p : ℕ) → h < S → a * S + h ≡ T → T ≤ p * S + previous S h → p * S + previous S h < T + S → p * S + previous S h + 1 ≡ T + S
previous_of_tail S T h a p l e lo hi =
    elim (previous_is S h l) [
      | inl k ↦
          let x : p * S ≤ a * S = lap_near S p a (omega (arith, k)) in
          let y : a * S ≤ p * S = lap_near S a p (omega (arith, k)) in
          omega (arith, k)
      | inr k ↦
          let x : p * S ≤ (a + 1) * S = lap_near S p (a + 1) (omega (arith, k)) in
          let y : (a + 1) * S ≤ p * S = lap_near S (a + 1) p (omega (arith, k)) in
          omega (arith, k)
    ]

-- THE EXPECTED ROUND is that of the next place, and a lap less where the cell before is empty
pub expected_after_filled : (S h : ℕ) (p : Cell) → h < S → 0 < p.value → expected_round p h * S + h ≡ place S (previous S h) p + 1
expected_after_filled S h p l f = elim (previous_is S h l) [ inl k ↦ start k.0 k.1 | inr k ↦ inside k ]
  where
    start : h ≡ 0 → previous S h + 1 ≡ S → expected_round p h * S + h ≡ place S (previous S h) p + 1
    start e k =
        let c : expected_round p h ≡ p.round + 1 = grind (arith, nat_tests) in
        let d : expected_round p h * S ≡ (p.round + 1) * S = ap (λ n. n * S) c in
        omega arith

    inside : previous S h + 1 ≡ h → expected_round p h * S + h ≡ place S (previous S h) p + 1
    inside k =
        let c : expected_round p h ≡ p.round = grind (arith, nat_tests) in
        let d : expected_round p h * S ≡ p.round * S = ap (λ n. n * S) c in
        omega arith

pub expected_after_empty : (S h : ℕ) (p u : Cell) → h < S → p.value ≡ 0 → place S h u ≤ place S (previous S h) p → expected_round p h * S + h + S ≡ place S (previous S h) p + 1
expected_after_empty S h p u l f b = elim (previous_is S h l) [ inl k ↦ start k.0 k.1 | inr k ↦ inside k ]
  where
    start : h ≡ 0 → previous S h + 1 ≡ S → expected_round p h * S + h + S ≡ place S (previous S h) p + 1
    start e k =
        let c : expected_round p h ≡ p.round = grind (arith, nat_tests) in
        let d : expected_round p h * S ≡ p.round * S = ap (λ n. n * S) c in
        omega arith

    inside : previous S h + 1 ≡ h → expected_round p h * S + h + S ≡ place S (previous S h) p + 1
    inside k =
        let c : expected_round p h ≡ p.round - 1 = grind (arith, nat_tests) in
        let d : expected_round p h * S ≡ (p.round - 1) * S = ap (λ n. n * S) c in
        elim (cases_eq p.round 0) [
          | inl z ↦ let y : p.round * S ≡ 0 * S = ap (λ n. n * S) z in omega arith
          | inr z ↦
              let w : p.round ≡ (p.round - 1) + 1 = omega (arith, z) in
              let y : p.round * S ≡ ((p.round - 1) + 1) * S = ap (λ n. n * S) w in
              omega arith
        ]
