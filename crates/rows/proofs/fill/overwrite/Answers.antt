use Rattle.std.proofs.Common.{sym, arith}
use Rattle.memory.proofs.Overwriting.{overwritten_none, overwritten_step, overwritten_part}
use Rattle.rows.proofs.fill.overwrite.Goals as goal

pub loop-element-init : goal.loop-element-init
loop-element-init g c = sym (overwritten_none _ _ 0)

pub loop-element-preserved : goal.loop-element-preserved
loop-element-preserved g c = rw c.loop-element.invariant (overwritten_step c.args.with _ c.loop-element.element-index)

pub returns : goal.returns
returns g c =
    let part = c.clipped-part.ensures in
    rw c.loop-element.invariant (overwritten_part _ c.args.row.now c.args.start c.args.count c.clipped-part.result.start c.clipped-part.result.end _ part.start part.end (omega (arith, part.start, part.end)) c.loop-element-test.false)
