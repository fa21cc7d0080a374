use Rattle.std.proofs.Common.{sym, subst, slice_index_or}
use Rattle.mars_tree.specs.Names.{AreDistinct}
use Rattle.mars_read.specs.NameLists.{NameLists, joined_names}
use Rattle.mars_read.proofs.MoreNameFacts.{place-at, distinct-added}
use Rattle.mars_read.proofs.more_names.MoreNames.index_of.Goals as goal

pub returns-then-is_at-clause-place : goal.returns-then-is_at-clause-place
returns-then-is_at-clause-place c =
    let now = c.args.self.now in
    let distinct = subst (λ (n : NameLists). AreDistinct (joined_names n)) c.self.view_is c.self.invariant.distinct in
    sym (place-at c.args.text.now now.added (slice_index_or c.self.inside.recent c.slot_of.result 0) (distinct-added now.known now.added distinct) (c.is_at.ensures c.if-is_at.true))
