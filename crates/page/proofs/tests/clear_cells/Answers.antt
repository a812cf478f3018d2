use Rattle.std.proofs.Common.{◌≡◌, ℕ, List, length, ap, ◌∙◌, rules}
use Rattle.memory.specs.Cells.{fresh}
use Rattle.memory.specs.Rules.{cleared}
use Rattle.memory.proofs.Overwriting.{length-overwritten}
use Rattle.page.specs.Pages.{page_cells, other_bytes, rewritten, RoundTrips}
use Rattle.page.proofs.RoundTrip.{every_byte_fixed}
use Rattle.page.proofs.tests.clear_cells.Goals as goal

cleared_page : (bs bs' : List ℕ) (start count : ℕ) → RoundTrips bs → RoundTrips bs' → page_cells bs' ≡ cleared (page_cells bs) start count → other_bytes bs' ≡ other_bytes bs
    → bs' ≡ rewritten bs (cleared (page_cells bs) start count)
cleared_page bs bs' start count trips trips' cells others =
    every_byte_fixed bs bs' trips trips' (ap length cells ∙ length-overwritten fresh (page_cells bs) start count) others ∙ ap (rewritten bs) cells

pub returns : goal.returns
returns c = cleared_page c.args.bytes.now _ c.args.start c.args.count c.check_page.ensures.trips c.check_page-2.ensures.trips (search rules) (search rules)
