use Rattle.std.proofs.Common.{◌≡◌}
use Rattle.ring.specs.Rings.{ring_of}
use Rattle.ring.specs.Dealings.{ring_after, logged, dealings_of}
use Rattle.ring.proofs.Logs.{ring_at_end, log_at_end}
use Rattle.ring.proofs.board.Board.deal_each.Given as goal

-- what is left of the log leads where the whole log leads
abbrev pub invariant-loop-entry : goal.invariant-loop-entry
invariant-loop-entry g l =
    record {
      ring : ring_at_end g.M.Element.Element.LIMITS (ring_of (g.M.Memory.cells l.memory) l.self) l.log l.entry-index
          ≡ ring_after g.M.Element.Element.LIMITS (ring_of (g.M.Memory.cells l.initial.memory) l.initial.self) (dealings_of l.initial.log);
      replies : log_at_end g.M.Element.Element.LIMITS (ring_of (g.M.Memory.cells l.memory) l.self) l.log l.entry-index
          ≡ logged g.M.Element.Element.LIMITS (ring_of (g.M.Memory.cells l.initial.memory) l.initial.self) l.initial.log;
      apart : g.M.Memory.frame l.memory ≡ g.M.Memory.frame l.initial.memory;
    }
