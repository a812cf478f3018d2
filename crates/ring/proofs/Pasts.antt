-- What one moment more makes of what a history says.
use Rattle.std.proofs.Common.{◌≡◌, ℕ, ◌+◌, Bool, true, false, cond, eqb, List, [], ◌∷◌, ◌++◌, map, length, Some, None, Option, refl, ap, ◌∙◌, zero-add}
use Rattle.std.proofs.lemmas.Bool.{eq-eqb}
use Rattle.std.proofs.lemmas.List.{append-nil}
use Rattle.std.proofs.lemmas.List.Sums.{sum_by-cons}
use Rattle.memory.specs.declared.cells.Limits.{Limits}
use Rattle.ring.specs.declared.calls.Answer.{Answer}
use Rattle.ring.specs.declared.calls.Task.{Task}
use Rattle.ring.specs.Rings.{Ring, seat_at}
use Rattle.ring.specs.Histories.{Moment, History, begin_moment, step_moment}
use Rattle.ring.specs.Law.{Change, changes, fails, stands_at_look, by_put, numbers_put, numbers_taken, since, steps_of, failures_of, changes_of, others_of, begun_as, last_look, Account, account_of}
use Rattle.ring.proofs.Invariant.{outdone, stepped, one}

-- A MOMENT OF ANOTHER SEAT
module _ (limits : Limits) (i : ℕ) (x : Moment) (H : History) (n : eqb x.seat i ≡ false) where
  since_else : since i (x ∷ H) ≡ x ∷ since i H
  since_else = rw n

  others_else : others_of i (since i (x ∷ H)) ≡ length (changes x) + others_of i (since i H)
  others_else = ap (others_of i) since_else ∙ sum_by-cons _ x (since i H) ∙ rw n

  -- but for the changes of others, the call is as it was
  call_with : (m : ℕ) → others_of i (since i (x ∷ H)) ≡ m → account_of limits i (x ∷ H) ≡ record {
    task = begun_as i H;
    steps = steps_of i (since i H);
    failed = failures_of limits i (since i H);
    made = changes_of i (since i H);
    others = m;
    look = last_look i H;
  }
  call_with m e =
      let task : begun_as i (x ∷ H) ≡ begun_as i H = rw n in
      let steps : steps_of i (since i (x ∷ H)) ≡ steps_of i (since i H) = ap (steps_of i) since_else ∙ sum_by-cons _ x (since i H) ∙ rw n (zero-add (steps_of i (since i H))) in
      let failed : failures_of limits i (since i (x ∷ H)) ≡ failures_of limits i (since i H) =
      ap (failures_of limits i) since_else ∙ sum_by-cons _ x (since i H) ∙ rw n (zero-add (failures_of limits i (since i H))) in
      let made : changes_of i (since i (x ∷ H)) ≡ changes_of i (since i H) = ap (changes_of i) since_else ∙ rw n in
      let look : last_look i (x ∷ H) ≡ last_look i H = rw n in
      λ k. record { task = task k; steps = steps k; failed = failed k; made = made k; others = e k; look = look k }

  pub other_quiet : changes x ≡ [] → account_of limits i (x ∷ H) ≡ account_of limits i H
  other_quiet e = call_with (others_of i (since i H)) (others_else ∙ rw e (zero-add (others_of i (since i H))))

  pub other_changes : (c : Change) → changes x ≡ c ∷ [] → account_of limits i (x ∷ H) ≡ outdone 1 (account_of limits i H)
  other_changes c e = call_with (1 + others_of i (since i H)) (others_else ∙ rw e)

-- A STEP OF ITS OWN
module _ (limits : Limits) (s : ℕ) (r r' : Ring) (p : Option Answer) (H : History) where
  abbrev x' : Moment
  x' = step_moment s r r' p

  self : eqb s s ≡ true
  self = eq-eqb s s refl

  since_own : since s (x' ∷ H) ≡ x' ∷ since s H
  since_own = rw self

  pub own_step : account_of limits s (x' ∷ H) ≡ stepped (one (fails limits r.cells (seat_at r s))) (changes x') (cond (stands_at_look (seat_at r s)) (Some (x' ∷ H)) (last_look s H)) (account_of limits s H)
  own_step =
      let task : begun_as s (x' ∷ H) ≡ begun_as s H = rw self in
      let steps : steps_of s (since s (x' ∷ H)) ≡ 1 + steps_of s (since s H) = ap (steps_of s) since_own ∙ sum_by-cons _ x' (since s H) ∙ rw self in
      let failed : failures_of limits s (since s (x' ∷ H)) ≡ one (fails limits r.cells (seat_at r s)) + failures_of limits s (since s H) =
      ap (failures_of limits s) since_own ∙ sum_by-cons _ x' (since s H) ∙ rw self in
      let made : changes_of s (since s (x' ∷ H)) ≡ changes x' ++ changes_of s (since s H) = ap (changes_of s) since_own ∙ rw self in
      let others : others_of s (since s (x' ∷ H)) ≡ others_of s (since s H) = ap (others_of s) since_own ∙ sum_by-cons _ x' (since s H) ∙ rw self (zero-add (others_of s (since s H))) in
      let look : last_look s (x' ∷ H) ≡ cond (stands_at_look (seat_at r s)) (Some (x' ∷ H)) (last_look s H) = rw self in
      λ k. record { task = task k; steps = steps k; failed = failed k; made = made k; others = others k; look = look k }

-- A BEGIN OF ITS OWN
abbrev pub new_account : Task → Account
new_account task = record { task = task; steps = 0; failed = 0; made = []; others = 0; look = None }

module _ (limits : Limits) (s : ℕ) (t : Task) (r r' : Ring) (H : History) where
  abbrev y' : Moment
  y' = begin_moment s t r r'

  since_begin : since s (y' ∷ H) ≡ y' ∷ []
  since_begin = rw (eq-eqb s s refl)

  pub own_begin : changes y' ≡ [] → account_of limits s (y' ∷ H) ≡ new_account t
  own_begin quiet =
      let self' : eqb s s ≡ true = eq-eqb s s refl in
      let task : begun_as s (y' ∷ H) ≡ t = rw self' in
      let steps : steps_of s (since s (y' ∷ H)) ≡ 0 = ap (steps_of s) since_begin ∙ rw self' in
      let failed : failures_of limits s (since s (y' ∷ H)) ≡ 0 = ap (failures_of limits s) since_begin ∙ rw self' in
      let made : changes_of s (since s (y' ∷ H)) ≡ [] = ap (changes_of s) since_begin ∙ rw (self', quiet) in
      let others : others_of s (since s (y' ∷ H)) ≡ 0 = ap (others_of s) since_begin ∙ rw self' in
      let look : last_look s (y' ∷ H) ≡ None = rw self' in
      λ k. record { task = task k; steps = steps k; failed = failed k; made = made k; others = others k; look = look k }

-- THE NUMBERS PUT AND TAKEN
module _ (x : Moment) (H : History) where
  pub put_quiet : changes x ≡ [] → numbers_put (x ∷ H) ≡ numbers_put H
  put_quiet e = ap (λ (l : List ℕ). numbers_put H ++ l) (rw e (none (by_put x H))) ∙ append-nil (numbers_put H)
    where
      none : (b : Bool) → cond b (map {A = Change} {B = ℕ} (λ c. c.is.value) []) [] ≡ []
      none true = refl
      none false = refl

  pub taken_quiet : changes x ≡ [] → numbers_taken (x ∷ H) ≡ numbers_taken H
  taken_quiet e = ap (λ (l : List ℕ). numbers_taken H ++ l) (rw e (none (by_put x H))) ∙ append-nil (numbers_taken H)
    where
      none : (b : Bool) → cond b [] (map {A = Change} {B = ℕ} (λ c. c.was.value) []) ≡ []
      none true = refl
      none false = refl

  pub put_one : (c : Change) → changes x ≡ c ∷ [] → by_put x H ≡ true → numbers_put (x ∷ H) ≡ numbers_put H ++ c.is.value ∷ []
  put_one c e p = ap (λ (l : List ℕ). numbers_put H ++ l) (rw (p, e))

  pub taken_none : by_put x H ≡ true → numbers_taken (x ∷ H) ≡ numbers_taken H
  taken_none p = ap (λ (l : List ℕ). numbers_taken H ++ l) (rw p) ∙ append-nil (numbers_taken H)

  pub taken_one : (c : Change) → changes x ≡ c ∷ [] → by_put x H ≡ false → numbers_taken (x ∷ H) ≡ numbers_taken H ++ c.was.value ∷ []
  taken_one c e p = ap (λ (l : List ℕ). numbers_taken H ++ l) (rw (p, e))

  pub put_none : by_put x H ≡ false → numbers_put (x ∷ H) ≡ numbers_put H
  put_none p = ap (λ (l : List ℕ). numbers_put H ++ l) (rw p) ∙ append-nil (numbers_put H)
