-- A page is read as one list of cells, which is written as that page; a list of cells is written as a page, from which it is read.
use Rattle.std.proofs.Common.{◌≡◌, ℕ, zero, suc, ◌+◌, ◌-◌, ◌*◌, ◌^◌, ◌<◌, ◌≤◌, true, false, eqb, ltb, List, [], ◌∷◌, ◌++◌, length, get_or, take, drop, replicate, IsOk, is_ok, Ok, Err, Result, sym, Fits, w8, refl, ap, ◌∙◌, ap₂, inl, inr, arith}
use borrow.Rule.Slice.PartMut.{put_mid}
use Rattle.std.specs.Prelude.{All, flat_map}
use Rattle.std.specs.Int.{w64, to_be_bytes}
use Rattle.std.specs.Int.Digits.{number_from_digits}
use Rattle.std.proofs.lemmas.List.{nil_from_length, length-append, length-take-le, length-drop, length-replicate, get_or_past, take-append-drop, take_at, drop_at, drop_all, replicate-append-replicate, append-nil}
use Rattle.std.proofs.lemmas.List.Elements.{All-nil, All-cons, All-head, All-tail, All-take, All-drop, All-get_or, All-from_get_or, All-replicate}
use Rattle.std.proofs.lemmas.Nat.{be_bytes_2, be_bytes_4, be_bytes_8, from_be_bytes-to_be_bytes_8}
use Rattle.std.proofs.lemmas.Bool.{le-ltb, eq-eqb, cases_lt}
use Rattle.std.proofs.lemmas.Bool.Decides.{nat_tests}
use Rattle.memory.specs.declared.cells.Cell.{Cell}
use Rattle.memory.specs.declared.refusals.Refusal.{Refusal}
use Rattle.memory.specs.Cells.{fresh, Within}
use Rattle.memory.specs.Packing.{packed, unpacked, tagged}
use Rattle.memory.specs.Sizes.{is_ring_size, RingSize}
use Rattle.memory.proofs.Packs.{packed-unpacked, unpacked-packed}
use Rattle.memory.proofs.Powers.{decides_ring_size, size_bounds}
use Rattle.page.specs.Bytes.{field, cell_bytes, cell_from}
use Rattle.page.specs.Pages.{checked_head, checked, header, page_of, cells_in, cells_by, page_cells, others_by, other_bytes, rewritten_by, rewritten, RoundTrips}
use Rattle.page.proofs.BigEndian.{digits_2, digits_4, digits_8}
use Rattle.page.proofs.PageCells.{accepted_length, accepted_count, length-cells_in}

-- the elements of a list are bytes
abbrev Bytes : List ℕ → Type 0
Bytes xs = All (λ d. d < 256) xs

byte_at : (xs : List ℕ) → Bytes xs → (i : ℕ) → get_or xs i 0 < 256
byte_at xs u i = elim (cases_lt i (length xs)) [
  | inl h ↦ All-get_or (λ d. d < 256) xs i 0 h u
  | inr h ↦ let e = get_or_past xs i 0 h in omega arith
]

-- eight bytes that are read as a cell and written again
bytes_back : (xs : List ℕ) → length xs ≡ 8 → Bytes xs → cell_bytes (cell_from xs) ≡ xs
bytes_back xs l u =
    ap (to_be_bytes w64) (packed-unpacked 48 (number_from_digits 256 xs))
    ∙ be_bytes_8 xs (number_from_digits 256 xs) l (byte_at xs u) (digits_8 xs l)

cell_within : (xs : List ℕ) → length xs ≡ 8 → Bytes xs → Within tagged (cell_from xs)
cell_within xs l u =
    let b = byte_at xs u in
    let e = digits_8 xs l in
    let h : number_from_digits 256 xs < 256 ^ 8 = omega (arith, b 0, b 1, b 2, b 3, b 4, b 5, b 6, b 7) in
    (omega arith, omega arith)

-- a cell that fits a word comes back from its bytes
cell_back : (c : Cell) → Within tagged c → cell_from (cell_bytes c) ≡ c
cell_back c h =
    let v : c.value < 2 ^ 48 = omega arith in
    let w : packed 48 c < 2 ^ 64 = omega arith in
    ap (unpacked 48) (digits_8 (cell_bytes c) refl ∙ from_be_bytes-to_be_bytes_8 (packed 48 c) w) ∙ unpacked-packed 48 c v

-- the bytes of n cells, read and written again
read_cells : (n : ℕ) (xs : List ℕ) → length xs ≡ 8 * n → Bytes xs → (flat_map cell_bytes (cells_in n xs) ≡ xs) × All (Within tagged) (cells_in n xs)
read_cells zero xs l u = (sym (nil_from_length xs l), All-nil (Within tagged))
read_cells (suc n) xs l u =
    let ly : length (take 8 xs) ≡ 8 = length-take-le 8 xs (omega arith) in
    let uy = All-take (λ d. d < 256) 8 xs u in
    let rest = read_cells n (drop 8 xs) (omega (arith, length-drop 8 xs)) (All-drop (λ d. d < 256) 8 xs u) in (
      ap₂ (λ (p q : List ℕ). p ++ q) (bytes_back (take 8 xs) ly uy) rest.0 ∙ take-append-drop 8 xs,
      All-cons (Within tagged) (cell_from (take 8 xs)) (cells_in n (drop 8 xs)) (cell_within (take 8 xs) ly uy) rest.1,
    )

-- a head whose fields are those of a page of n cells is that page's
head_back : (hs : List ℕ) (n : ℕ) → length hs ≡ 8 → Bytes hs → field 0 1 hs ≡ 1 → field 1 4 hs ≡ 8 + 8 * n → field 5 2 hs ≡ n → field 7 1 hs ≡ 0 → header n ≡ hs
head_back (a ∷ b ∷ c ∷ d ∷ e ∷ f ∷ g ∷ h ∷ []) n l u v m s z =
    let four = b ∷ c ∷ d ∷ e ∷ [] in
    let two = f ∷ g ∷ [] in
    let tail = All-tail (λ x. x < 256) a (four ++ (two ++ (h ∷ []))) u in
    let p = be_bytes_4 four (8 + 8 * n) refl (byte_at four (All-take (λ x. x < 256) 4 (four ++ (two ++ (h ∷ []))) tail)) (sym m ∙ digits_4 four refl) in
    let q = be_bytes_2 two n refl (byte_at two (All-take (λ x. x < 256) 2 (two ++ (h ∷ [])) (All-drop (λ x. x < 256) 4 (four ++ (two ++ (h ∷ []))) tail))) (sym s ∙ digits_2 two refl) in
    let first : 1 ≡ a = omega arith in
    let last : 0 ≡ h = omega arith in
    ap₂ (λ (x : ℕ) (xs : List ℕ). x ∷ xs) first (ap₂ (λ (xs ys : List ℕ). xs ++ ys) p (ap₂ (λ (xs ys : List ℕ). xs ++ ys) q (ap (λ (x : ℕ). x ∷ []) last)))
head_back hs n l u v m s z = absurd (omega arith)

-- what the check has seen of a page that it accepts
module _ (bs : List ℕ) (n : ℕ) (e : checked bs ≡ Ok n) where
  accepted_version : field 0 1 (take 8 bs) ≡ 1
  accepted_version = grind (arith, nat_tests)

  accepted_field : field 1 4 (take 8 bs) ≡ 8 + 8 * n
  accepted_field = grind (arith, nat_tests)

  accepted_size : field 5 2 (take 8 bs) ≡ n
  accepted_size = grind (arith, nat_tests)

  accepted_last : field 7 1 (take 8 bs) ≡ 0
  accepted_last = grind (arith, nat_tests)

  accepted_power : is_ring_size n ≡ true
  accepted_power = grind (arith, nat_tests)

  accepted_head : Bytes bs → header n ≡ take 8 bs
  accepted_head u =
      head_back (take 8 bs) n (length-take-le 8 bs (omega (arith, accepted_length bs n e))) (All-take (λ d. d < 256) 8 bs u)
      accepted_version accepted_field accepted_size accepted_last

  cells_are : page_cells bs ≡ cells_in n (drop 8 bs)
  cells_are = ap (λ (r : Result ℕ Refusal). cells_by r bs) e

  sized_page : RingSize (length (page_cells bs))
  sized_page = rw (accepted_count bs n e) ((decides_ring_size n).0 accepted_power)

  body_back : Bytes bs → (flat_map cell_bytes (cells_in n (drop 8 bs)) ≡ drop 8 bs) × All (Within tagged) (cells_in n (drop 8 bs))
  body_back u = read_cells n (drop 8 bs) (omega (arith, accepted_length bs n e, length-drop 8 bs)) (All-drop (λ d. d < 256) 8 bs u)

  within_page : Bytes bs → All (Within tagged) (page_cells bs)
  within_page u = rw cells_are (body_back u).1

  written_page : Bytes bs → page_of (page_cells bs) ≡ bs
  written_page u =
      ap page_of cells_are
      ∙ ap₂ (λ (p q : List ℕ). p ++ q) (ap header (length-cells_in n (drop 8 bs)) ∙ accepted_head u) (body_back u).0
      ∙ take-append-drop 8 bs

-- a list of cells, written and read again
cells_back : (cs : List Cell) → All (Within tagged) cs → cells_in (length cs) (flat_map cell_bytes cs) ≡ cs
cells_back [] h = refl
cells_back (c ∷ cs) h =
    let rest = flat_map cell_bytes cs in
    ap₂ (λ (p q : List ℕ). cell_from p ∷ cells_in (length cs) q) (take_at (cell_bytes c) rest 8 refl) (drop_at (cell_bytes c) rest 8 refl)
    ∙ ap₂ (λ (x : Cell) (t : List Cell). x ∷ t) (cell_back c (All-head (Within tagged) c cs h)) (cells_back cs (All-tail (Within tagged) c cs h))

length_body : (cs : List Cell) → length (flat_map cell_bytes cs) ≡ 8 * length cs
length_body [] = refl
length_body (c ∷ cs) = length-append (cell_bytes c) (flat_map cell_bytes cs) ∙ omega (arith, length_body cs)

-- a head with the right fields is accepted
fields_checked : (m n : ℕ) (hs : List ℕ) → m ≡ 8 + 8 * n → is_ring_size n ≡ true → field 0 1 hs ≡ 1 → field 1 4 hs ≡ m → field 5 2 hs ≡ n → field 7 1 hs ≡ 0 → checked_head m hs ≡ Ok n
fields_checked m n hs l a v f s z =
    let p : is_ring_size (field 5 2 hs) ≡ true = ap is_ring_size s ∙ a in
    let long : ltb m 8 ≡ false = le-ltb m 8 (omega arith) in
    let length-fits : eqb m (8 + 8 * field 5 2 hs) ≡ true = eq-eqb _ _ (omega arith) in
    simp (long, eq-eqb _ _ v, eq-eqb _ _ f, p, length-fits, eq-eqb _ _ z) (ap Ok s)

header_checked : (m n : ℕ) → m ≡ 8 + 8 * n → is_ring_size n ≡ true → n ≤ 4096 → checked_head m (header n) ≡ Ok n
header_checked m n l a h =
    let f : field 1 4 (header n) ≡ m = omega arith in
    let s : field 5 2 (header n) ≡ n = omega arith in
    fields_checked m n (header n) l a refl f s refl

accepted_written : (cs : List Cell) → RingSize (length cs) → checked (page_of cs) ≡ Ok (length cs)
accepted_written cs a =
    header_checked (length (page_of cs)) (length cs) (length-append (header (length cs)) (flat_map cell_bytes cs) ∙ omega (arith, length_body cs))
    ((decides_ring_size (length cs)).1 a) (size_bounds (length cs) a).1

read_written : (cs : List Cell) → RingSize (length cs) → All (Within tagged) cs → page_cells (page_of cs) ≡ cs
read_written cs a w = ap (λ (r : Result ℕ Refusal). cells_by r (page_of cs)) (accepted_written cs a) ∙ cells_back cs w

ok_is : (r : Result ℕ Refusal) → IsOk r → (n : ℕ) × (r ≡ Ok n)
ok_is (Ok n) h = (n, refl)
ok_is (Err x) h = absurd cc

pub round_trips : (bs : List ℕ) → ((i : ℕ) → Fits w8 (get_or bs i 0)) → RoundTrips bs
round_trips bs small =
    let u : Bytes bs = All-from_get_or (λ d. d < 256) bs 0 (λ i h. (small i).fits) in
    record {
      sized = λ h. let p = ok_is (checked bs) h in sized_page bs p.0 p.1;
      within = λ h. let p = ok_is (checked bs) h in within_page bs p.0 p.1 u;
      written = λ h. let p = ok_is (checked bs) h in written_page bs p.0 p.1 u;
      accepted = λ cs a e. rw (← e) (accepted_written cs a);
      recovered = λ cs a w e. rw (← e) (read_written cs a w);
    }

-- the cells of a page and the bytes that are part of no cell leave no byte open
module _ (bs bs' : List ℕ) (trips : RoundTrips bs) (trips' : RoundTrips bs') (long : length (page_cells bs') ≡ length (page_cells bs)) (others : other_bytes bs' ≡ other_bytes bs) where
  accepted_fixed : (n : ℕ) (r : Result ℕ Refusal) → checked bs ≡ Ok n → checked bs' ≡ r → bs' ≡ rewritten bs (page_cells bs')
  accepted_fixed n (Ok m) e e' = sym (trips'.written (ap is_ok e')) ∙ ap (λ (r : Result ℕ Refusal). rewritten_by r bs (page_cells bs')) (sym e)
  accepted_fixed n (Err x) e e' =
      let none : length (page_cells bs') ≡ 0 = ap (λ (r : Result ℕ Refusal). length (cells_by r bs')) e' in
      let some = (size_bounds (length (page_cells bs)) (trips.sized (ap is_ok e))).0 in
      absurd (omega arith)

  refused_fixed : (x : Refusal) (r : Result ℕ Refusal) → checked bs ≡ Err x → checked bs' ≡ r → bs' ≡ rewritten bs (page_cells bs')
  refused_fixed x (Ok m) e e' =
      let none : length (page_cells bs) ≡ 0 = ap (λ (r : Result ℕ Refusal). length (cells_by r bs)) e in
      let some = (size_bounds (length (page_cells bs')) (trips'.sized (ap is_ok e'))).0 in
      absurd (omega arith)
  refused_fixed x (Err y) e e' =
      ap (λ (r : Result ℕ Refusal). others_by r bs') (sym e') ∙ others ∙ ap (λ (r : Result ℕ Refusal). others_by r bs) e
      ∙ ap (λ (r : Result ℕ Refusal). rewritten_by r bs (page_cells bs')) (sym e)

  fixed_by : (r : Result ℕ Refusal) → checked bs ≡ r → bs' ≡ rewritten bs (page_cells bs')
  fixed_by (Ok n) e = accepted_fixed n (checked bs') e refl
  fixed_by (Err x) e = refused_fixed x (checked bs') e refl

  pub every_byte_fixed : bs' ≡ rewritten bs (page_cells bs')
  every_byte_fixed = fixed_by (checked bs) refl

-- the page of cleared cells is read as cleared cells
pub fresh_cells : (s : ℕ) → is_ring_size s ≡ true → page_cells (page_of (replicate s fresh)) ≡ replicate s fresh
fresh_cells s h = read_written (replicate s fresh) (rw (length-replicate s fresh) ((decides_ring_size s).0 h)) (All-replicate (Within tagged) s fresh (omega arith, omega arith))

-- cleared cells are zeros
zeros : (n : ℕ) → flat_map cell_bytes (replicate n fresh) ≡ replicate (8 * n) 0
zeros zero = refl
zeros (suc n) =
    ap (λ (t : List ℕ). cell_bytes fresh ++ t) (zeros n) ∙ replicate-append-replicate 8 (8 * n) 0 ∙ ap (λ (k : ℕ). replicate k 0) (let e : 8 + 8 * n ≡ 8 * suc n = omega arith in e)

-- a head with zeros behind it
pub laid_out_lem : (xs z : List ℕ) (s : ℕ) → length xs ≡ 8 + 8 * s → take 8 xs ≡ header s → z ≡ replicate (length (take (length xs - 8) (drop 8 xs))) 0
    → put_mid 8 (length xs - 8) xs z ≡ page_of (replicate s fresh)
laid_out_lem xs z s l h ez =
    let d = length-drop 8 xs in
    let k : length (take (length xs - 8) (drop 8 xs)) ≡ 8 * s = length-take-le (length xs - 8) (drop 8 xs) (omega arith) ∙ (let e : length xs - 8 ≡ 8 * s = omega arith in e) in
    let none : drop (length xs - 8) (drop 8 xs) ≡ [] = drop_all (length xs - 8) (drop 8 xs) (omega arith) in
    let body : z ++ drop (length xs - 8) (drop 8 xs) ≡ flat_map cell_bytes (replicate s fresh) =
    ap (λ (t : List ℕ). z ++ t) none ∙ append-nil z ∙ ez ∙ ap (λ (j : ℕ). replicate j 0) k ∙ sym (zeros s) in
    ap₂ (λ (x y : List ℕ). x ++ y) (h ∙ ap header (sym (length-replicate s fresh))) body
