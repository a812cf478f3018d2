-- What a step makes of the facts of its own seat.
use Rattle.std.proofs.Common.{◌≡◌, ℕ, ◌+◌, ◌-◌, ◌*◌, ◌<◌, ◌≤◌, true, leb, List, [], ◌∷◌, ◌++◌, length, set, Some, Option, Ok, sym, refl, ap, ◌∙◌, subst, subst₂, inl, inr, mul-le-mul_right, arith}
use Rattle.std.proofs.lemmas.Bool.{cases_lt, cases_eq, cond-true, and_from, le-leb}
use Rattle.std.proofs.lemmas.List.{length_push}
use Rattle.memory.specs.declared.cells.Cell.{Cell}
use Rattle.memory.specs.declared.cells.Limits.{Limits}
use Rattle.memory.specs.Cells.{fits}
use Rattle.memory.specs.Rules.{alike, answer_at, exchange_answer}
use Rattle.memory.proofs.Looks.{look_inside}
use Rattle.ring.specs.declared.calls.Counts.{Counts}
use Rattle.ring.specs.declared.calls.Outcome.{Outcome}
use Rattle.ring.specs.declared.calls.Outcome.TheVariants.{Empty, Full, Worn}
use Rattle.ring.specs.declared.calls.Task.{Task}
use Rattle.ring.specs.declared.calls.Task.TheVariants.{Put, Take}
use Rattle.ring.specs.declared.looks.Verdict.TheVariants as verdicts
use Rattle.ring.specs.Looks.{cell_at, previous, next, expected_round, outcome_of, step_counted, failure_counted}
use Rattle.ring.specs.Histories.{History}
use Rattle.ring.specs.Law.{Change, Account, ExchangesAs, TrueOf}
use Rattle.ring.proofs.Indices.{previous_inside, next_inside, previous_next}
use Rattle.ring.proofs.Places.{place, lap_same}
use Rattle.ring.proofs.Verdicts.{Due, PutMeans, TakeMeans}
use Rattle.ring.proofs.Differences.{cell_path, alike_self}
use Rattle.ring.proofs.Shape.{place_at, Stands, Shape, previous_later, not_before, set_rises, put_shape, take_shape}
use Rattle.ring.proofs.Invariant.{Carried, Way, renewed, AtStart, AtFirst, AtLook, AtExchange, AtNote, stepped}

-- THE PRICE of an attempt that fails, and of one that is open: a < n, or a ≤ n, changes by others
price_failed : (S a n : ℕ) → a < n → (S + 6) * a + S + 5 + n ≤ (S + 6) * n + a
price_failed S a n h =
    let d : ℕ = n - (a + 1) in
    let e : n ≡ a + (1 + d) = omega arith in
    let f : (S + 6) * n ≡ (S + 6) * (a + (1 + d)) = ap (λ k. (S + 6) * k) e in
    omega arith

pub price_open : (S a n : ℕ) → a ≤ n → (S + 6) * a + n ≤ (S + 6) * n + a
price_open S a n h =
    let d : ℕ = n - a in
    let e : n ≡ a + d = omega arith in
    let f : (S + 6) * n ≡ (S + 6) * (a + d) = ap (λ k. (S + 6) * k) e in
    omega arith

pub carried_on : (limits : Limits) (task : Task) (counts : Counts) (account : Account) (made : List Change) (look : Option History) → Carried limits task counts account → Carried limits task (step_counted counts) (stepped 0 made look account)
carried_on limits task counts account made look w =
    record { steps = omega (arith, w.steps); failed = omega (arith, w.failed); begun = w.begun; fits = w.fits }

carried_failed : (limits : Limits) (task : Task) (counts : Counts) (account : Account) (look : Option History) → Carried limits task counts account → Carried limits task (failure_counted (step_counted counts)) (stepped 1 [] look account)
carried_failed limits task counts account look w =
    record { steps = omega (arith, w.steps); failed = omega (arith, w.failed); begun = w.begun; fits = w.fits }

pub from_start : (S : ℕ) (limits : Limits) (task : Task) (counts : Counts) (account : Account) (h : ℕ) (look : Option History) → AtStart S limits task counts account → h < S → AtFirst S limits task h (step_counted counts) (stepped 0 [] look account)
from_start S limits task counts account h look w l =
    record {
      carried = carried_on limits task counts account [] look w.carried;
      none = w.none;
      inside = l;
      earlier = account.others;
      some_earlier = omega arith;
      paid = omega (arith, w.paid);
    }

-- the numbers put and taken, with an exchange of the expected cell
abbrev pub puts_with : Task → List ℕ → List ℕ
puts_with (Put v) puts = puts ++ v ∷ []
puts_with Take puts = puts

abbrev pub takes_with : Task → Cell → List ℕ → List ℕ
takes_with (Put v) expected takes = takes
takes_with Take expected takes = takes ++ expected.value ∷ []

pub one_more : (task : Task) (expected : Cell) (puts takes : List ℕ) → (length puts ≤ length (puts_with task puts)) × (length (puts_with task puts) ≤ length puts + 1) × (length (takes_with task expected takes) ≤ length takes + 1)
one_more (Put v) expected puts takes = let len = length_push puts v in (omega arith, omega arith, omega arith)
one_more Take expected puts takes = let len = length_push takes expected.value in (omega arith, omega arith, omega arith)

module _ (S : ℕ) (limits : Limits) (cells : List Cell) (puts takes : List ℕ) (sh : Shape S limits.round cells puts takes) where
  first_way : (task : Task) (h n a : ℕ) → h < S → a ≤ n → Way S (length puts) (length takes) task h (cell_at cells (previous S h)) n a 0
  first_way (Put v) h n a l m = (
    λ f. elim (cases_lt (place_at S cells (previous S h)) (length puts)) [ inl k ↦ k | inr k ↦ absurd (omega (arith, c.empty k)) ],
    λ z. elim (cases_lt (place_at S cells (previous S h)) (length puts)) [ inl k ↦ absurd (omega (arith, c.full k)) | inr k ↦ omega arith ],
    omega (arith, sh.room, c.low),
  )
    where
      c : Stands S puts takes (previous S h) (cell_at cells (previous S h))
      c = sh.each (previous S h) (previous_inside S h l)
  first_way Take h n a l m = let c = sh.each (previous S h) (previous_inside S h l) in omega (arith, c.low)

  pub from_first : (task : Task) (counts : Counts) (account : Account) (h : ℕ) (look : Option History) → AtFirst S limits task h counts account → AtLook S limits cells (length puts) (length takes) task h (cell_at cells (previous S h)) (step_counted counts) (stepped 0 [] look account)
  from_first task counts account h look w =
      record {
        carried = carried_on limits task counts account [] look w.carried;
        none = w.none;
        inside = w.inside;
        earlier = w.earlier;
        looks = 0;
        some_earlier = w.some_earlier;
        paid = omega (arith, w.paid);
        behind = omega arith;
        way = first_way task h account.others w.earlier w.inside w.some_earlier;
        still = λ _. refl;
      }

  -- FEW LOOKS: since its last start a call has looked less than S times, and once more for each change by another
  pub few_looks : (task : Task) (h : ℕ) (p : Cell) (counts : Counts) (account : Account) (w : AtLook S limits cells (length puts) (length takes) task h p counts account) → w.looks + w.earlier + 1 ≤ S + account.others
  few_looks (Put v) h p counts account w =
      let c = sh.each (previous S h) (previous_inside S h w.inside) in
      elim (cases_eq p.value 0) [
        | inl z ↦ omega (arith, w.way.1 z, w.behind, c.high, sh.less)
        | inr z ↦ omega (arith, w.way.0 (omega (arith, z)), w.way.2)
      ]
  few_looks Take h p counts account w =
      let c = sh.each (previous S h) (previous_inside S h w.inside) in
      omega (arith, w.way, w.behind, c.high)

  -- A PUT'S LOOK
  module _ (v h : ℕ) (p : Cell) (counts : Counts) (account : Account) (look : Option History) (w : AtLook S limits cells (length puts) (length takes) (Put v) h p counts account) where
    abbrev u : Cell
    u = cell_at cells h

    -- the place that the put aims at is not beyond the numbers put
    aims : (c : ℕ) → Due S h p u c → c * S + h ≤ length puts
    aims c d =
        elim d [
          | inl e ↦ omega (arith, e.1, w.way.0 e.0)
          | inr e ↦ omega (arith, e.2, not_before S limits.round cells puts takes sh h p w.inside w.behind e.1, sh.less)
        ]

    empty_place : u.value ≡ 0 → length puts ≤ place_at S cells h
    empty_place z =
        elim (cases_lt (place_at S cells h) (length puts)) [ inl m ↦ absurd (omega (arith, (sh.each h w.inside).full m)) | inr m ↦ m ]

    -- and where nothing has moved, it is the place of the cell that stands there
    aims_there : (c : ℕ) → u.value ≡ 0 → Due S h p u c → account.others ≡ w.earlier → c * S + h ≡ place_at S cells h
    aims_there c z d f =
        elim d [
          | inl e ↦
              let b : place_at S cells (previous S h) ≡ place S (previous S h) p = ap (place S (previous S h)) (w.still f) in
              let m = w.way.0 e.0 in
              let o = empty_place z in
              let low = (sh.each (previous S h) (previous_inside S h w.inside)).low in
              let t = previous_later S limits.round cells puts takes sh h w.inside (omega arith) in
              omega (arith, e.1)
          | inr e ↦ omega (arith, e.2, not_before S limits.round cells puts takes sh h p w.inside w.behind e.1)
        ]

    pub put_exchanges : (expected new : Cell) → PutMeans S limits v h p u (verdicts.Exchange expected new) → AtExchange S limits cells (length puts) (Put v) h expected new (step_counted counts) (stepped 0 [] look account)
    put_exchanges expected new d =
        record {
          carried = carried_on limits (Put v) counts account [] look w.carried;
          none = w.none;
          inside = w.inside;
          earlier = w.earlier;
          some_earlier = w.some_earlier;
          paid = omega (arith, w.paid, few_looks (Put v) h p counts account w);
          ready = (d.0, d.2, aims expected.round d.4);
          renews = d.1;
          still = λ f.
              cell_path u expected (d.3 ∙ sym (ap (λ (c : Cell). c.value) d.0))
              (lap_same S u.round expected.round (omega arith) (omega (arith, aims_there expected.round d.3 d.4 f)));
        }

    pub put_worn : (o : Outcome) → PutMeans S limits v h p u (verdicts.Answer o) → (length puts ≡ limits.round * S) × (length puts < length takes + S)
    put_worn o d =
        let x = aims (expected_round p h) d.3 in
        let y = mul-le-mul_right S d.1 in
        (omega (arith, sh.most), omega (arith, empty_place d.2, (sh.each h w.inside).high))

    pub put_full : (o : Outcome) → PutMeans S limits v h p u (verdicts.Note o) → length puts ≡ length takes + S
    put_full o d =
        let t = not_before S limits.round cells puts takes sh h p w.inside w.behind d.2 in
        omega (arith, w.way.0 d.1, sh.room)

    pub put_notes : (H : History) → TrueOf S limits Full (Some H) → AtNote S limits (Put v) h Full (step_counted counts) (stepped 0 [] (Some H) account)
    put_notes H full =
        record {
          carried = carried_on limits (Put v) counts account [] (Some H) w.carried;
          inside = w.inside;
          paid = omega (arith, w.paid, few_looks (Put v) h p counts account w, price_open S w.earlier account.others w.some_earlier);
          exchanges = rw w.carried.begun w.none;
          truth = full;
        }

    pub put_onward : PutMeans S limits v h p u verdicts.Onward → AtLook S limits cells (length puts) (length takes) (Put v) (next S h) u (step_counted counts) (stepped 0 [] look account)
    put_onward d =
        let n : previous S (next S h) ≡ h = previous_next S h w.inside in
        let c = sh.each h w.inside in
        let b = sh.each (previous S h) (previous_inside S h w.inside) in
        record {
          carried = carried_on limits (Put v) counts account [] look w.carried;
          none = w.none;
          inside = next_inside S h w.inside;
          earlier = w.earlier;
          looks = w.looks + 1;
          some_earlier = w.some_earlier;
          paid = omega (arith, w.paid);
          behind = rw n (omega arith);
          way = (
            λ f. elim (cases_lt (place_at S cells h) (length puts)) [ inl m ↦ omega (arith, m) | inr m ↦ absurd (omega (arith, c.empty m)) ],
            λ z. elim d [ inl e ↦ omega (arith, e.0, w.way.1 (e.1 z)) | inr e ↦ absurd (omega (arith, e.1)) ],
            elim d [ inl e ↦ omega (arith, e.0, w.way.2) | inr e ↦ omega (arith, w.way.1 e.0, w.behind, b.high, c.low) ],
          );
          still = λ _. ap (cell_at cells) n;
        }

  -- A TAKE'S LOOK
  module _ (h : ℕ) (p : Cell) (counts : Counts) (account : Account) (look : Option History) (w : AtLook S limits cells (length puts) (length takes) Take h p counts account) where
    abbrev u' : Cell
    u' = cell_at cells h

    pub take_exchanges : (expected new : Cell) → TakeMeans S limits h p u' (verdicts.Exchange expected new) → AtExchange S limits cells (length puts) Take h expected new (step_counted counts) (stepped 0 [] look account)
    take_exchanges expected new d =
        let t = not_before S limits.round cells puts takes sh h p w.inside w.behind d.4 in
        let c = sh.each h w.inside in
        let below : place_at S cells h < length puts = elim (cases_lt (place_at S cells h) (length puts)) [ inl m ↦ m | inr m ↦ absurd (omega (arith, c.empty m, d.2)) ] in
        let young : u'.round < limits.round =
        elim (cases_lt u'.round limits.round) [ inl m ↦ m | inr m ↦ absurd (omega (arith, mul-le-mul_right S m, sh.most)) ] in
        record {
          carried = carried_on limits Take counts account [] look w.carried;
          none = w.none;
          inside = w.inside;
          earlier = w.earlier;
          some_earlier = w.some_earlier;
          paid = omega (arith, w.paid, few_looks Take h p counts account w);
          ready = rw d.0 (d.2, young, omega (arith, w.behind, sh.several));
          renews = d.1 ∙ ap (renewed Take) (sym d.0);
          still = λ _. sym d.0;
        }

    pub take_none : TakeMeans S limits h p u' (verdicts.Answer Empty) → length puts ≡ length takes + 0
    take_none d =
        let t = not_before S limits.round cells puts takes sh h p w.inside w.behind d.1 in
        let c = sh.each h w.inside in
        elim (cases_lt (place_at S cells h) (length puts)) [ inl m ↦ absurd (omega (arith, c.full m, d.0)) | inr m ↦ omega (arith, sh.less) ]

    -- on a ring used from new no take is worn
    pub take_not_worn : TakeMeans S limits h p u' (verdicts.Answer Worn) → ⊥
    take_not_worn d =
        let c = sh.each h w.inside in
        let e : u'.round * S ≡ limits.round * S = ap (λ n. n * S) d.1 in
        elim (cases_lt (place_at S cells h) (length puts)) [ inl m ↦ omega (arith, sh.most) | inr m ↦ omega (arith, c.empty m, d.0) ]

    pub take_onward : TakeMeans S limits h p u' verdicts.Onward → AtLook S limits cells (length puts) (length takes) Take (next S h) u' (step_counted counts) (stepped 0 [] look account)
    take_onward d =
        let n : previous S (next S h) ≡ h = previous_next S h w.inside in
        record {
          carried = carried_on limits Take counts account [] look w.carried;
          none = w.none;
          inside = next_inside S h w.inside;
          earlier = w.earlier;
          looks = w.looks + 1;
          some_earlier = w.some_earlier;
          paid = omega (arith, w.paid);
          behind = rw n (omega arith);
          way = omega (arith, w.way);
          still = λ _. ap (cell_at cells) n;
        }

  -- AN EXCHANGE THAT IS DONE, where it found the cell that it expected
  pub exchanged_shape : (task : Task) (h : ℕ) (expected new : Cell) (counts : Counts) (account : Account) → AtExchange S limits cells (length puts) task h expected new counts account → cell_at cells h ≡ expected → Shape S limits.round (set cells h new) (puts_with task puts) (takes_with task expected takes)
  exchanged_shape (Put v) h expected new counts account w found =
      subst (λ (n : Cell). Shape S limits.round (set cells h n) (puts ++ v ∷ []) takes) (sym w.renews)
      (put_shape S limits.round cells puts takes sh h w.inside expected.round v (found ∙ w.ready.0) w.ready.1 w.ready.2 w.carried.fits.0)
  exchanged_shape Take h expected new counts account w found =
      subst (λ (n : Cell). Shape S limits.round (set cells h n) puts (takes ++ expected.value ∷ [])) (sym w.renews)
      (take_shape S limits.round cells puts takes sh h w.inside expected found w.ready.0 w.ready.2)

  pub exchanged_rises : (task : Task) (h : ℕ) (expected new : Cell) (counts : Counts) (account : Account) → AtExchange S limits cells (length puts) task h expected new counts account → cell_at cells h ≡ expected → (i : ℕ) → place_at S cells i ≤ place_at S (set cells h new) i
  exchanged_rises task h expected new counts account w found =
      set_rises S cells h new (omega (arith, w.inside, sh.size))
      (subst₂ (λ (a b : Cell). place S h a ≤ place S h b) (sym found) (sym w.renews) (renewed_rises task))
    where
      renewed_rises : (t : Task) → place S h expected ≤ place S h (renewed t expected)
      renewed_rises (Put v) = omega arith
      renewed_rises Take = omega arith

  -- it changes the value of its cell
  pub exchanged_value : (task : Task) (h : ℕ) (expected new : Cell) (counts : Counts) (account : Account) → AtExchange S limits cells (length puts) task h expected new counts account → cell_at cells h ≡ expected → (cell_at cells h).value ≡ new.value → ⊥
  exchanged_value (Put v) h expected new counts account w found same =
      let a : (cell_at cells h).value ≡ 0 = ap (λ (c : Cell). c.value) (found ∙ w.ready.0) in
      let b : new.value ≡ v = ap (λ (c : Cell). c.value) w.renews in
      omega (arith, w.carried.fits.0)
  exchanged_value Take h expected new counts account w found same =
      let a : (cell_at cells h).value ≡ expected.value = ap (λ (c : Cell). c.value) found in
      let b : new.value ≡ 0 = ap (λ (c : Cell). c.value) w.renews in
      omega (arith, w.ready.0)

  -- AN EXCHANGE fails only where another has changed a cell since the start
  module _ (task : Task) (h : ℕ) (expected new : Cell) (counts : Counts) (account : Account) (look : Option History) (w : AtExchange S limits cells (length puts) task h expected new counts account) where
    fitting : (t : Task) → AtExchange S limits cells (length puts) t h expected new counts account → ((renewed t expected).value ≤ limits.value) × ((renewed t expected).round ≤ limits.round)
    fitting (Put v) x = (x.carried.fits.1, omega (arith, x.ready.1))
    fitting Take x = (omega arith, omega (arith, x.ready.1))

    new_fits : fits limits new ≡ true
    new_fits =
        let f = fitting task w in
        rw w.renews
        (and_from (leb (renewed task expected).value limits.value) (leb (renewed task expected).round limits.round)
        (le-leb (renewed task expected).value limits.value f.0) (le-leb (renewed task expected).round limits.round f.1))

    done : account.others ≡ w.earlier → exchange_answer limits cells h expected new ≡ Ok tt
    done f =
        ap (λ (o : Option Cell). answer_at limits o expected new tt) (look_inside cells h (omega (arith, w.inside, sh.size)))
        ∙ cond-true (fits limits new) _ _ new_fits
        ∙ cond-true (alike (cell_at cells h) expected) _ _ (rw (w.still f) (alike_self expected))

    pub exchange_fails : (exchange_answer limits cells h expected new ≡ Ok tt → ⊥) → AtStart S limits task (failure_counted (step_counted counts)) (stepped 1 [] look account)
    exchange_fails refused =
        let later : w.earlier < account.others =
        elim (cases_eq account.others w.earlier) [ inl f ↦ absurd (refused (done f)) | inr n ↦ omega (arith, n, w.some_earlier) ] in
        record {
          carried = carried_failed limits task counts account look w.carried;
          none = w.none;
          paid = omega (arith, w.paid, price_failed S w.earlier account.others later);
        }

    pub exchange_done : (c : Change) → c.was ≡ expected → c.is ≡ new → AtNote S limits task (next S h) (outcome_of task expected) (step_counted counts) (stepped 0 (c ∷ []) look account)
    exchange_done c was is =
        record {
          carried = carried_on limits task counts account (c ∷ []) look w.carried;
          inside = next_inside S h w.inside;
          paid = omega (arith, w.paid, price_open S w.earlier account.others w.some_earlier);
          exchanges = rw (w.carried.begun, w.none) (own task w.renews);
          truth = free task;
        }
      where
        own : (t : Task) → new ≡ renewed t expected → ExchangesAs t (outcome_of t expected) (c ∷ [])
        own (Put v) r = ap (λ (x : Cell). x.value) (is ∙ r)
        own Take r = ap (λ (x : Cell). x.value) was

        free : (t : Task) → TrueOf S limits (outcome_of t expected) look
        free (Put v) = tt
        free Take = tt
