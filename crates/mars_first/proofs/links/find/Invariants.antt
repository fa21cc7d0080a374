use Rattle.std.proofs.Common.{◌<◌, length}
use Rattle.mars_first.specs.LinksInside.{AreKeptLinks, LeadsTo}
use Rattle.mars_first.proofs.links.find.Given as goal

abbrev pub invariant-loop-at : goal.invariant-loop-at
invariant-loop-at l = record {
  within : l.at < length l.links.items;
  kept : AreKeptLinks l.initial.links.items l.links.items;
  leads : LeadsTo l.initial.links.items l.node l.at;
}

abbrev pub decreases-loop-at : goal.decreases-loop-at
decreases-loop-at l = l.at
