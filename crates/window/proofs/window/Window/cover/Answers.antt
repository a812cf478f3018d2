use Rattle.std.proofs.Common.{sym, arith}
use Rattle.window.proofs.Parts.{length_of_window, same_part}
use Rattle.window.proofs.window.Window.cover.Goals as goal

pub returns : goal.returns
returns g c =
    let part = c.clipped-part.ensures in
    same_part _ _ _ _ _ _ _ _ (sym (length_of_window _ _ _ c.args.self.now.inside)) part.start (omega (arith, part.start, part.end))
