use Rattle.std.proofs.Common.{◌≡◌, ◌+◌, ◌-◌, ◌*◌, min, length, replicate, ap, refl, ◌∙◌, arith, rules}
use borrow.Rule.Slice.PartMut.{mid_len}
use Rattle.std.proofs.lemmas.List.{length-replicate}
use Rattle.page.specs.Pages.{page_cells}
use Rattle.page.proofs.PageCells.{room, cleared_cells, cleared_none, put_others}
use Rattle.page.proofs.page.wipe.Goals as goal

pub returns-then-part : goal.returns-then-part
returns-then-part c =
    let bs = c.args.bytes.now in
    let part = c.clipped-part.ensures in
    let first = c.clipped-part.result.start in
    let end = c.clipped-part.result.end in
    let p = 8 + 8 * first in
    let n = 8 + 8 * end - p in
    let z = c.fill.new.self in
    let f : first ≡ min c.args.start (length (page_cells bs)) = search rules in
    let l : end ≡ min (first + c.args.count) (length (page_cells bs)) = search rules in
    let e : z ≡ replicate n 0 = rw (mid_len p (8 + 8 * end) bs (omega (arith, room bs))) at (c.fill.ensures.after (λ y q. q)) in
    record {
      cells = cleared_cells bs c.args.start c.args.count first end f l z p n c.if-part.true e refl (omega arith);
      others = put_others bs first (end - first) p n (omega arith) (omega arith) refl (omega arith) z (ap length e ∙ length-replicate n 0);
    }

pub returns-else-part-clause-cells : goal.returns-else-part-clause-cells
returns-else-part-clause-cells c = cleared_none c.args.bytes.now c.args.start c.args.count c.clipped-part.result.start c.clipped-part.result.end (search rules) (search rules) c.if-part.false
