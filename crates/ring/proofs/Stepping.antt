-- A step of a seat keeps what is true of the ring, and an answer that it gives is as the law says.
use Rattle.std.proofs.Common.{◌≡◌, ℕ, ◌+◌, ◌*◌, ◌<◌, Bool, true, false, cond, eqb, List, [], ◌∷◌, ◌++◌, length, set, Some, None, Option, Ok, Err, Result, is_err, if◌then◌else◌, sym, refl, ap, ◌∙◌, subst, subst₂, inl, inr, arith}
use Rattle.std.proofs.lemmas.Bool.{cases_lt, true≢false, eq-eqb, ne_eqb, and_left}
use Rattle.memory.specs.declared.cells.Cell.{Cell}
use Rattle.memory.specs.declared.cells.Limits.{Limits}
use Rattle.memory.specs.declared.rules.Declined.{Declined}
use Rattle.memory.specs.declared.rules.Declined.TheVariants.{Unfit, Differs}
use Rattle.memory.specs.Cells.{fits}
use Rattle.memory.specs.Rules.{alike, answer_at, exchange_answer, stored_by}
use Rattle.memory.proofs.Looks.{look_inside, look_outside}
use Rattle.ring.specs.declared.calls.Answer.{Answer}
use Rattle.ring.specs.declared.calls.Counts.{Counts}
use Rattle.ring.specs.declared.calls.Outcome.{Outcome}
use Rattle.ring.specs.declared.calls.Outcome.TheVariants.{Empty, Full, Worn}
use Rattle.ring.specs.declared.calls.Task.{Task}
use Rattle.ring.specs.declared.calls.Task.TheVariants.{Put, Take}
use Rattle.ring.specs.declared.looks.Verdict.{Verdict}
use Rattle.ring.specs.declared.looks.Verdict.TheVariants as verdicts
use Rattle.ring.specs.declared.seat.Hints.{Hints}
use Rattle.ring.specs.declared.seat.Seat.{Seat}
use Rattle.ring.specs.declared.seat.Seat.TheVariants.{Idle, Start, First, Look, Exchange, Note}
use Rattle.ring.specs.Looks.{cell_at, previous, next, put_verdict, take_verdict, outcome_of, step_counted, failure_counted, one_step}
use Rattle.ring.specs.Seats.{Stepped, hint_of, hinted, goes_on, ends, after_look, after_answer, step_seat}
use Rattle.ring.specs.Rings.{Ring, seat_at, is_idle, after_step}
use Rattle.ring.specs.Histories.{Moment, History, steps, step_moment}
use Rattle.ring.specs.Law.{Change, Account, changes, fails, is_put, by_put, stands_at_look, last_look, account_of, numbers_put, numbers_taken, ExchangesAs, TrueOf, AnsweredCall, AtAnswer}
use Rattle.ring.proofs.Indices.{hint_inside, hinted_inside}
use Rattle.ring.proofs.Verdicts.{PutMeans, TakeMeans, put_verdict_lem, take_verdict_lem}
use Rattle.ring.proofs.Differences.{differences_none, differences_one, alike_same}
use Rattle.ring.proofs.Invariant.{SeatSound, RingSound, AtLook, AtExchange, AtNote, carrying, renewed, stepped, one}
use Rattle.ring.proofs.Attempts.{price_open, carried_on, from_start, from_first, few_looks, puts_with, takes_with, one_more, exchanged_shape, exchanged_rises, exchanged_value, put_exchanges, put_worn, put_full, put_notes, put_onward, take_exchanges, take_none, take_not_worn, take_onward, exchange_fails, exchange_done}
use Rattle.ring.proofs.Pasts.{other_quiet, other_changes, own_step, put_quiet, taken_quiet, put_one, taken_none, taken_one, put_none}
use Rattle.ring.proofs.Moves.{with_seat, quiet, changing}

-- what is true of a ring with this history
abbrev pub Holds : ℕ → Limits → History → Ring → Type 0
Holds S limits H r = RingSound S limits (numbers_put H) (numbers_taken H) (λ i. account_of limits i H) r

-- what is true once seat s has made this step
abbrev pub HoldsAfter : ℕ → Limits → History → Ring → ℕ → Stepped → Type 0
HoldsAfter S limits H r s x =
    let m = after_step r s x in
    let X = step_moment s r m.ring m.answer ∷ H in
    Holds S limits X m.ring × AtAnswer S limits (steps m.answer) (account_of limits s X)

-- AN EXCHANGE THAT IS DONE found the cell that it expected
abbrev answered : Bool → Bool → Result (Unit {0}) Declined
answered a b = if a then if b then Ok tt else Err Differs else Err Unfit

done_alike : (a b : Bool) → answered a b ≡ Ok tt → b ≡ true
done_alike true true e = refl
done_alike a b e = absurd (true≢false (ap is_err e))

done_found : (limits : Limits) (cells : List Cell) (h : ℕ) (e n : Cell) → exchange_answer limits cells h e n ≡ Ok tt → (h < length cells) × (cell_at cells h ≡ e)
done_found limits cells h e n d =
    elim (cases_lt h (length cells)) [
      | inl l ↦ (l, alike_same (cell_at cells h) e (done_alike (fits limits n) (alike (cell_at cells h) e) (sym (ap (λ (o : Option Cell). answer_at limits o e n tt) (look_inside cells h l)) ∙ d)))
      | inr l ↦ absurd (true≢false (ap is_err (sym (ap (λ (o : Option Cell). answer_at limits o e n tt) (look_outside cells h l)) ∙ d)))
    ]

-- and the numbers put and taken are those of before, with the one that it put or took
numbers_put_lem : (task : Task) (e n : Cell) → n ≡ renewed task e → (X : Moment) (H : History) (c : Change) → changes X ≡ c ∷ [] → by_put X H ≡ is_put task → c.is ≡ n → numbers_put (X ∷ H) ≡ puts_with task (numbers_put H)
numbers_put_lem (Put v) e n renews X H c one p is =
    put_one X H c one p ∙ ap (λ (x : Cell). numbers_put H ++ x.value ∷ []) (is ∙ renews)
numbers_put_lem Take e n renews X H c one p is = put_none X H p

numbers_taken_lem : (task : Task) (e : Cell) (X : Moment) (H : History) (c : Change) → changes X ≡ c ∷ [] → by_put X H ≡ is_put task → c.was ≡ e → numbers_taken (X ∷ H) ≡ takes_with task e (numbers_taken H)
numbers_taken_lem (Put v) e X H c one p was = taken_none X H p
numbers_taken_lem Take e X H c one p was = taken_one X H c one p ∙ ap (λ (x : Cell). numbers_taken H ++ x.value ∷ []) was

module _ (limits : Limits) (H : History) (r : Ring) (inv : Holds r.board.size limits H r) (s : ℕ) (sits : s < 16) where
  abbrev S : ℕ
  S = r.board.size

  abbrev account : Account
  account = account_of limits s H

  abbrev Puts : List ℕ
  Puts = numbers_put H

  abbrev Takes : List ℕ
  Takes = numbers_taken H

  abbrev Sound : Seat → Account → Type 0
  Sound t c = SeatSound S limits r.cells (length Puts) (length Takes) t c

  -- A STEP THAT CHANGES NO CELL, from a seat that stood at t, to the seat t'
  module _ (t : Seat) (is : seat_at r s ≡ t) (hints : Hints) (t' : Seat) (p : Option Answer) where
    abbrev x : Moment
    x = step_moment s r (with_seat r s r.cells hints t') p

    still : changes x ≡ []
    still = differences_none r.cells

    abbrev quietly : Account
    quietly = stepped (one (fails limits r.cells t)) [] (cond (stands_at_look t) (Some (x ∷ H)) (last_look s H)) account

    own_quiet : account_of limits s (x ∷ H) ≡ quietly
    own_quiet =
        let F : Seat → List Change → Account = λ u cs. stepped (one (fails limits r.cells u)) cs (cond (stands_at_look u) (Some (x ∷ H)) (last_look s H)) account in
        own_step limits s r (with_seat r s r.cells hints t') p H ∙ ap (λ u. F u (changes x)) is ∙ ap (F t) still

    same_puts : numbers_put (x ∷ H) ≡ Puts
    same_puts = put_quiet x H still

    same_takes : numbers_taken (x ∷ H) ≡ Takes
    same_takes = taken_quiet x H still

    -- so what was true of the numbers still is
    unchanged : (P : List ℕ → List ℕ → Type 0) → P Puts Takes → P (numbers_put (x ∷ H)) (numbers_taken (x ∷ H))
    unchanged P w = subst₂ P (sym same_puts) (sym same_takes) w

    quiet_holds : hints.put < S → hints.take < S → Sound t' quietly → Holds S limits (x ∷ H) (with_seat r s r.cells hints t')
    quiet_holds ph th own =
        let i : RingSound S limits Puts Takes (λ i. account_of limits i (x ∷ H)) (with_seat r s r.cells hints t') =
        quiet S limits Puts Takes (λ i. account_of limits i H) (λ i. account_of limits i (x ∷ H)) r inv s sits hints ph th t'
        (subst (λ (c : Account). Sound t' c) (sym own_quiet) own)
        (λ i n. other_quiet limits i x H (ne_eqb s i (λ m. n (sym m))) still) in
        unchanged (λ p t. RingSound S limits p t (λ i. account_of limits i (x ∷ H)) (with_seat r s r.cells hints t')) i

  -- one that goes on
  on_to : (t : Seat) (is : seat_at r s ≡ t) (t' : Seat) → Sound t' (quietly t is r.board.hints t' None) → HoldsAfter S limits H r s (goes_on r.cells r.board.hints t')
  on_to t is t' own = (quiet_holds t is r.board.hints t' None inv.put_hint inv.take_hint own, tt)

  -- one that answers
  ends_with : (t : Seat) (is : seat_at r s ≡ t) (hints : Hints) (task : Task) (k : Counts) (o : Outcome) → hints.put < S → hints.take < S → AnsweredCall S limits (quietly t is hints Idle (Some (record { outcome = o; counts = k }))) (record { outcome = o; counts = k }) → HoldsAfter S limits H r s (ends r.cells hints (carrying task k) o)
  ends_with t is hints task k o ph th w =
      let a : Answer = record { outcome = o; counts = k } in
      (quiet_holds t is hints Idle (Some a) ph th tt, subst (λ (c : Account). AnsweredCall S limits c a) (sym (own_quiet t is hints Idle (Some a))) w)

  -- one that answers at a look
  ends_look : (task : Task) (h : ℕ) (p : Cell) (k : Counts) (is : seat_at r s ≡ Look (carrying task k) h p) (o : Outcome) (w : AtLook S limits r.cells (length Puts) (length Takes) task h p k account) → ExchangesAs task o [] → TrueOf S limits o (Some (x (Look (carrying task k) h p) is r.board.hints Idle (Some (record { outcome = o; counts = step_counted k })) ∷ H)) → HoldsAfter S limits H r s (ends r.cells r.board.hints (carrying task (step_counted k)) o)
  ends_look task h p k is o w exchanges truth =
      let told = carried_on limits task k account [] (last_look s H) w.carried in
      ends_with (Look (carrying task k) h p) is r.board.hints task (step_counted k) o inv.put_hint inv.take_hint
      (record {
        exchanges = rw (w.carried.begun, w.none) exchanges;
        truth = truth;
        bounded = omega (arith, w.paid, few_looks S limits r.cells Puts Takes inv.shape task h p k account w, price_open S w.earlier account.others w.some_earlier);
        steps_told = told.steps;
        failed_told = told.failed;
      })

  -- A LOOK
  look_put : (v h : ℕ) (p : Cell) (k : Counts) (is : seat_at r s ≡ Look (carrying (Put v) k) h p) → Sound (Look (carrying (Put v) k) h p) account → (m : Verdict) → PutMeans S limits v h p (cell_at r.cells h) m → HoldsAfter S limits H r s (after_look S r.cells r.board.hints (carrying (Put v) (step_counted k)) h (cell_at r.cells h) m)
  look_put v h p k is w (verdicts.Exchange e n) d =
      on_to (Look (carrying (Put v) k) h p) is (Exchange (carrying (Put v) (step_counted k)) h e n) (put_exchanges S limits r.cells Puts Takes inv.shape v h p k account _ w e n d)
  look_put v h p k is w (verdicts.Answer o) d =
      subst (λ (o' : Outcome). HoldsAfter S limits H r s (ends r.cells r.board.hints (carrying (Put v) (step_counted k)) o')) (sym d.0)
      (ends_look (Put v) h p k is Worn w refl
      (unchanged (Look (carrying (Put v) k) h p) is r.board.hints Idle (Some (record { outcome = Worn; counts = step_counted k })) (λ p t. (length p ≡ limits.round * S) × (length p < length t + S))
      (put_worn S limits r.cells Puts Takes inv.shape v h p k account (last_look s H) w o d)))
  look_put v h p k is w (verdicts.Note o) d =
      subst (λ (o' : Outcome). HoldsAfter S limits H r s (goes_on r.cells r.board.hints (Note (carrying (Put v) (step_counted k)) h o'))) (sym d.0)
      (on_to (Look (carrying (Put v) k) h p) is (Note (carrying (Put v) (step_counted k)) h Full)
      (put_notes S limits r.cells Puts Takes inv.shape v h p k account (last_look s H) w _
      (unchanged (Look (carrying (Put v) k) h p) is r.board.hints (Note (carrying (Put v) (step_counted k)) h Full) None (λ p t. length p ≡ length t + S)
      (put_full S limits r.cells Puts Takes inv.shape v h p k account (last_look s H) w o d))))
  look_put v h p k is w verdicts.Onward d =
      on_to (Look (carrying (Put v) k) h p) is (Look (carrying (Put v) (step_counted k)) (next S h) (cell_at r.cells h)) (put_onward S limits r.cells Puts Takes inv.shape v h p k account _ w d)

  look_take : (h : ℕ) (p : Cell) (k : Counts) (is : seat_at r s ≡ Look (carrying Take k) h p) → Sound (Look (carrying Take k) h p) account → (m : Verdict) → TakeMeans S limits h p (cell_at r.cells h) m → HoldsAfter S limits H r s (after_look S r.cells r.board.hints (carrying Take (step_counted k)) h (cell_at r.cells h) m)
  look_take h p k is w (verdicts.Exchange e n) d =
      on_to (Look (carrying Take k) h p) is (Exchange (carrying Take (step_counted k)) h e n) (take_exchanges S limits r.cells Puts Takes inv.shape h p k account _ w e n d)
  look_take h p k is w (verdicts.Answer Empty) d =
      ends_look Take h p k is Empty w refl
      (unchanged (Look (carrying Take k) h p) is r.board.hints Idle (Some (record { outcome = Empty; counts = step_counted k })) (λ p t. length p ≡ length t + 0)
      (take_none S limits r.cells Puts Takes inv.shape h p k account (last_look s H) w d))
  look_take h p k is w (verdicts.Answer Worn) d = absurd (take_not_worn S limits r.cells Puts Takes inv.shape h p k account (last_look s H) w d)
  look_take h p k is w verdicts.Onward d =
      on_to (Look (carrying Take k) h p) is (Look (carrying Take (step_counted k)) (next S h) (cell_at r.cells h)) (take_onward S limits r.cells Puts Takes inv.shape h p k account _ w d)
  look_take h p k is w verdict d = absurd d

  look_step : (task : Task) (h : ℕ) (p : Cell) (k : Counts) (is : seat_at r s ≡ Look (carrying task k) h p) → Sound (Look (carrying task k) h p) account → HoldsAfter S limits H r s (step_seat limits S r.cells r.board.hints (Look (carrying task k) h p))
  look_step (Put v) h p k is w = look_put v h p k is w (put_verdict limits S v h p (cell_at r.cells h)) (put_verdict_lem S limits h p (cell_at r.cells h) w.inside v)
  look_step Take h p k is w = look_take h p k is w (take_verdict limits S h p (cell_at r.cells h)) (take_verdict_lem S limits h p (cell_at r.cells h) w.inside)

  -- AN EXCHANGE, by the answer of the memory
  module _ (task : Task) (h : ℕ) (e n : Cell) (k : Counts) (is : seat_at r s ≡ Exchange (carrying task k) h e n) (w : AtExchange S limits r.cells (length Puts) task h e n k account) where
    abbrev t₀ : Seat
    t₀ = Exchange (carrying task k) h e n

    fails_with : (cause : Declined) → exchange_answer limits r.cells h e n ≡ Err cause → HoldsAfter S limits H r s (goes_on r.cells r.board.hints (Start (carrying task (failure_counted (step_counted k)))))
    fails_with cause f =
        let t' : Seat = Start (carrying task (failure_counted (step_counted k))) in
        let lost : one (is_err (exchange_answer limits r.cells h e n)) ≡ 1 = ap (λ (a : Result (Unit {0}) Declined). one (is_err a)) f in
        on_to t₀ is t'
        (subst (λ (m : ℕ). Sound t' (stepped m [] (last_look s H) account)) (sym lost)
        (exchange_fails S limits r.cells Puts Takes inv.shape task h e n k account (last_look s H) w (λ g. true≢false (ap is_err (sym f ∙ g)))))

    abbrev change : Change
    change = record { was = cell_at r.cells h; is = n }

    done_with : exchange_answer limits r.cells h e n ≡ Ok tt → HoldsAfter S limits H r s (goes_on (set r.cells h n) r.board.hints (Note (carrying task (step_counted k)) (next S h) (outcome_of task e)))
    done_with ok =
        let there = done_found limits r.cells h e n ok in
        let found = there.1 in
        let t' : Seat = Note (carrying task (step_counted k)) (next S h) (outcome_of task e) in
        let r' : Ring = with_seat r s (set r.cells h n) r.board.hints t' in
        let X : Moment = step_moment s r r' None in
        let differs : alike (cell_at r.cells h) n ≡ false =
        and_left (eqb (cell_at r.cells h).value n.value) (eqb (cell_at r.cells h).round n.round)
        (ne_eqb (cell_at r.cells h).value n.value (exchanged_value S limits r.cells Puts Takes inv.shape task h e n k account w found)) in
        let stirred : changes X ≡ change ∷ [] = differences_one r.cells h n there.0 differs in
        let F : Seat → List Change → Account = λ u cs. stepped (one (fails limits r.cells u)) cs (cond (stands_at_look u) (Some (X ∷ H)) (last_look s H)) account in
        let own : account_of limits s (X ∷ H) ≡ stepped (one (is_err (exchange_answer limits r.cells h e n))) (change ∷ []) (last_look s H) account =
        own_step limits s r r' None H ∙ ap (λ u. F u (changes X)) is ∙ ap (F t₀) stirred in
        let own' : account_of limits s (X ∷ H) ≡ stepped 0 (change ∷ []) (last_look s H) account =
        own ∙ ap (λ (a : Result (Unit {0}) Declined). stepped (one (is_err a)) (change ∷ []) (last_look s H) account) ok in
        let by : by_put X H ≡ is_put task = rw (eq-eqb s s refl) (ap is_put w.carried.begun) in
        let more = one_more task e Puts Takes in
        let i : RingSound S limits (puts_with task Puts) (takes_with task e Takes) (λ i. account_of limits i (X ∷ H)) r' =
        changing S limits Puts Takes (λ i. account_of limits i H) (λ i. account_of limits i (X ∷ H)) r inv s sits r.board.hints inv.put_hint inv.take_hint t'
        (set r.cells h n) (puts_with task Puts) (takes_with task e Takes)
        (exchanged_shape S limits r.cells Puts Takes inv.shape task h e n k account w found)
        (exchanged_rises S limits r.cells Puts Takes inv.shape task h e n k account w found) more.0 more.1 more.2
        (subst (λ (c : Account). AtNote S limits task (next S h) (outcome_of task e) (step_counted k) c) (sym own')
        (exchange_done S limits r.cells Puts Takes inv.shape task h e n k account (last_look s H) w change found refl))
        (λ i m. other_changes limits i X H (ne_eqb s i (λ z. m (sym z))) change stirred) in (
          subst₂ (λ (p t : List ℕ). RingSound S limits p t (λ i. account_of limits i (X ∷ H)) r')
              (sym (numbers_put_lem task e n w.renews X H change stirred by refl)) (sym (numbers_taken_lem task e X H change stirred by found)) i,
          tt,
        )

    exchange_step : (a : Result (Unit {0}) Declined) → exchange_answer limits r.cells h e n ≡ a → HoldsAfter S limits H r s (goes_on (stored_by a r.cells h n) r.board.hints (after_answer S (carrying task (step_counted k)) h e a))
    exchange_step (Ok done) f = done_with f
    exchange_step (Err cause) f = fails_with cause f

  -- A NOTE
  note_step : (task : Task) (h : ℕ) (o : Outcome) (k : Counts) (is : seat_at r s ≡ Note (carrying task k) h o) (w : AtNote S limits task h o k account) → (hinted r.board.hints task h).put < S → (hinted r.board.hints task h).take < S → HoldsAfter S limits H r s (ends r.cells (hinted r.board.hints task h) (carrying task (step_counted k)) o)
  note_step task h o k is w ph th =
      let told = carried_on limits task k account [] (last_look s H) w.carried in
      ends_with (Note (carrying task k) h o) is (hinted r.board.hints task h) task (step_counted k) o ph th
      (record { exchanges = w.exchanges; truth = w.truth; bounded = omega (arith, w.paid); steps_told = told.steps; failed_told = told.failed })

  step_from : (t : Seat) → seat_at r s ≡ t → is_idle t ≡ false → Sound t account → HoldsAfter S limits H r s (step_seat limits S r.cells r.board.hints t)
  step_from Idle is busy w = absurd (true≢false busy)
  step_from (Start c) is busy w =
      on_to (Start c) is (First (one_step c) (hint_of r.board.hints c.task)) (from_start S limits c.task c.counts account (hint_of r.board.hints c.task) _ w (hint_inside S r.board.hints inv.put_hint inv.take_hint c.task))
  step_from (First c h) is busy w =
      on_to (First c h) is (Look (one_step c) h (cell_at r.cells (previous S h))) (from_first S limits r.cells Puts Takes inv.shape c.task c.counts account h _ w)
  step_from (Look c h p) is busy w = look_step c.task h p c.counts is w
  step_from (Exchange c h e n) is busy w = exchange_step c.task h e n c.counts is w (exchange_answer limits r.cells h e n) refl
  step_from (Note c h o) is busy w = let l = hinted_inside S r.board.hints inv.put_hint inv.take_hint c.task h w.inside in note_step c.task h o c.counts is w l.0 l.1

pub step_holds : (S : ℕ) (limits : Limits) (H : History) (r : Ring) → Holds S limits H r → (s : ℕ) → s < 16 → is_idle (seat_at r s) ≡ false → HoldsAfter S limits H r s (step_seat limits r.board.size r.cells r.board.hints (seat_at r s))
step_holds S limits H r inv s sits busy =
    subst (λ (n : ℕ). Holds n limits H r → HoldsAfter n limits H r s (step_seat limits r.board.size r.cells r.board.hints (seat_at r s))) inv.size
    (λ inv'. step_from limits H r inv' s sits (seat_at r s) refl busy (inv'.seats s sits)) inv
