-- What the verdict of a look says, in places.
use Rattle.std.proofs.Common.{◌≡◌, ℕ, ◌+◌, ◌*◌, ◌<◌, ◌≤◌, Bool, true, false, not, ◌&&◌, ◌||◌, eqb, leb, ◌⊎◌, sym, refl, inl, inr, arith}
use Rattle.std.proofs.lemmas.Bool.{cond_both, not-true, not-false, leb-true, leb-false, eqb-true, eqb-false, eq-eqb, true≢false}
use Rattle.memory.specs.declared.cells.Cell.{Cell}
use Rattle.memory.specs.declared.cells.Limits.{Limits}
use Rattle.memory.specs.Cells.{filled, before}
use Rattle.ring.specs.declared.calls.Outcome.TheVariants.{Empty, Full, Worn}
use Rattle.ring.specs.declared.looks.Verdict.{Verdict}
use Rattle.ring.specs.declared.looks.Verdict.TheVariants.{Exchange, Note, Answer, Onward}
use Rattle.ring.specs.Looks.{previous, expected_round, put_verdict, take_verdict, emptied}
use Rattle.ring.proofs.Indices.{previous_inside}
use Rattle.ring.proofs.Places.{place, before_yes, before_no, expected_after_filled, expected_after_empty}

-- round c at index h is the place after p, or the one a lap before that
abbrev pub Due : ℕ → ℕ → Cell → Cell → ℕ → Type 0
Due S h p u c =
    ((0 < p.value) × (c * S + h ≡ place S (previous S h) p + 1))
    ⊎ ((p.value ≡ 0) × (place S h u ≤ place S (previous S h) p) × (c * S + h + S ≡ place S (previous S h) p + 1))

abbrev pub PutMeans : ℕ → Limits → ℕ → ℕ → Cell → Cell → Verdict → Type 0
PutMeans S limits v h p u (Exchange e n) =
    (e ≡ emptied e.round) × (n ≡ record { value = v; round = e.round }) × (e.round < limits.round) × (u.value ≡ 0) × Due S h p u e.round
PutMeans S limits v h p u (Answer o) = (o ≡ Worn) × (limits.round ≤ expected_round p h) × (u.value ≡ 0) × Due S h p u (expected_round p h)
PutMeans S limits v h p u (Note o) = (o ≡ Full) × (0 < p.value) × (place S h u ≤ place S (previous S h) p)
PutMeans S limits v h p u Onward =
    ((place S (previous S h) p < place S h u) × (u.value ≡ 0 → p.value ≡ 0)) ⊎ ((p.value ≡ 0) × (0 < u.value))

abbrev pub TakeMeans : ℕ → Limits → ℕ → Cell → Cell → Verdict → Type 0
TakeMeans S limits h p u (Exchange e n) =
    (e ≡ u) × (n ≡ emptied (u.round + 1)) × (0 < u.value) × (u.round ≡ limits.round → ⊥) × (place S h u ≤ place S (previous S h) p)
TakeMeans S limits h p u (Answer Empty) = (u.value ≡ 0) × (place S h u ≤ place S (previous S h) p)
TakeMeans S limits h p u (Answer Worn) = (0 < u.value) × (u.round ≡ limits.round)
TakeMeans S limits h p u Onward = place S (previous S h) p < place S h u
TakeMeans S limits h p u verdict = ⊥

filled_yes : (c : Cell) → filled c ≡ true → 0 < c.value
filled_yes c e = omega (arith, eqb-false c.value 0 (not-true (eqb c.value 0) e))

filled_no : (c : Cell) → filled c ≡ false → c.value ≡ 0
filled_no c e = eqb-true c.value 0 (not-false (eqb c.value 0) e)

no_filled : (c : Cell) → c.value ≡ 0 → filled c ≡ false
no_filled c e = rw (eq-eqb c.value 0 e)

-- the lines of a put's look, by their tables: p and u are filled, p is before u
abbrev line_one : Bool → Bool → Bool → Bool
line_one p u b = (p && not u) || (not b && (not p && not u))

abbrev line_two : Bool → Bool → Bool → Bool
line_two p u b = not b && (p && u)

one_means : (p u b : Bool) → line_one p u b ≡ true → (u ≡ false) × ((p ≡ true) ⊎ ((p ≡ false) × (b ≡ false)))
one_means true false b e = (refl, inl refl)
one_means false false false e = (refl, inr (refl, refl))
one_means true true true e = absurd (true≢false (sym e))
one_means true true false e = absurd (true≢false (sym e))
one_means false true true e = absurd (true≢false (sym e))
one_means false true false e = absurd (true≢false (sym e))
one_means false false true e = absurd (true≢false (sym e))

two_means : (p u b : Bool) → line_two p u b ≡ true → (p ≡ true) × (u ≡ true) × (b ≡ false)
two_means true true false e = (refl, refl, refl)
two_means p u true e = absurd (true≢false (sym e))
two_means false u false e = absurd (true≢false (sym e))
two_means true false false e = absurd (true≢false (sym e))

neither_means : (p u b : Bool) → line_one p u b ≡ false → line_two p u b ≡ false → ((b ≡ true) × (u ≡ false → p ≡ false)) ⊎ ((p ≡ false) × (u ≡ true))
neither_means true false b e f = absurd (true≢false e)
neither_means false false false e f = absurd (true≢false e)
neither_means false false true e f = inl (refl, λ _. refl)
neither_means false true b e f = inr (refl, refl)
neither_means true true true e f = inl (refl, λ k. absurd (true≢false k))
neither_means true true false e f = absurd (true≢false f)

module _ (S : ℕ) (limits : Limits) (h : ℕ) (p u : Cell) (l : h < S) where
  abbrev ordered : Bool
  ordered = before p (previous S h) u h

  yes' : ordered ≡ true → place S (previous S h) p < place S h u
  yes' e = before_yes S (previous S h) h p u (previous_inside S h l) l e

  no' : ordered ≡ false → place S h u ≤ place S (previous S h) p
  no' e = before_no S (previous S h) h p u (previous_inside S h l) l e

  due_on_line_one : line_one (filled p) (filled u) ordered ≡ true → Due S h p u (expected_round p h)
  due_on_line_one e =
      elim (one_means (filled p) (filled u) ordered e).1 [
        | inl t ↦ let f = filled_yes p t in inl (f, expected_after_filled S h p l f)
        | inr t ↦ let z = filled_no p t.0 in inr (z, no' t.1, expected_after_empty S h p u l z (no' t.1))
      ]

  pub put_verdict_lem : (v : ℕ) → PutMeans S limits v h p u (put_verdict limits S v h p u)
  put_verdict_lem v =
      cond_both (line_one (filled p) (filled u) ordered) _ _ (PutMeans S limits v h p u)
      (λ e.
      let z : u.value ≡ 0 = filled_no u (one_means (filled p) (filled u) ordered e).0 in
      cond_both (leb limits.round (expected_round p h)) _ _ (PutMeans S limits v h p u)
      (λ f. (refl, leb-true limits.round (expected_round p h) f, z, due_on_line_one e))
      (λ f. (refl, refl, leb-false limits.round (expected_round p h) f, z, due_on_line_one e)))
      (λ e. cond_both (line_two (filled p) (filled u) ordered) _ _ (PutMeans S limits v h p u)
      (λ f. let t = two_means (filled p) (filled u) ordered f in (refl, filled_yes p t.0, no' t.2))
      (λ f. elim (neither_means (filled p) (filled u) ordered e f) [
        | inl t ↦ inl (yes' t.0, λ z. filled_no p (t.1 (no_filled u z)))
        | inr t ↦ inr (filled_no p t.0, filled_yes u t.1)
      ]))

  pub take_verdict_lem : TakeMeans S limits h p u (take_verdict limits S h p u)
  take_verdict_lem =
      cond_both ordered _ _ (TakeMeans S limits h p u) yes'
      (λ e. cond_both (not (filled u)) _ _ (TakeMeans S limits h p u)
      (λ f. (filled_no u (not-true (filled u) f), no' e))
      (λ f.
      let some = filled_yes u (not-false (filled u) f) in
      cond_both (eqb u.round limits.round) _ _ (TakeMeans S limits h p u)
      (λ g. (some, eqb-true u.round limits.round g))
      (λ g. (refl, refl, some, eqb-false u.round limits.round g, no' e))))
