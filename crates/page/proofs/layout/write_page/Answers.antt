use Rattle.std.proofs.Common.{◌≡◌, ◌+◌, ◌*◌, ◌++◌, length, ap, ◌∙◌, arith}
use borrow.Rule.Slice.PartMut.{post_of}
use Rattle.std.proofs.lemmas.List.{length-append, length-drop, take_at}
use Rattle.page.specs.Pages.{page_cells}
use Rattle.page.proofs.RoundTrip.{laid_out_lem, fresh_cells}
use Rattle.page.proofs.layout.write_page.Goals as goal

pub returns : goal.returns
returns c =
    let bs = c.args.bytes.now in
    let h = c.copy_from_slice.new.self in
    let e = c.copy_from_slice.ensures.after ∙ c.head_of.ensures.head in
    let l8 : length h ≡ 8 = ap length e in
    let xs = h ++ post_of 0 8 bs in
    let l : length xs ≡ 8 + 8 * c.args.size = omega (arith, length-append h (post_of 0 8 bs), length-drop 8 bs) in
    let page = laid_out_lem xs c.fill.new.self c.args.size l (take_at h (post_of 0 8 bs) 8 l8 ∙ e) (c.fill.ensures.after (λ y q. q)) in
    record { bytes = page; cells = ap page_cells page ∙ fresh_cells c.args.size c.head_of.ensures.sized }
