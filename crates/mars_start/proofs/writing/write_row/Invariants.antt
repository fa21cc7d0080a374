use Rattle.std.proofs.Common.{◌<◌, List, ℕ, length, vec_len, All}
use Rattle.mars_term.specs.declared.term.Term.{Term}
use Rattle.mars_rules.specs.PairedLists.{AllPaired}
use Rattle.mars_start.specs.WritingInside.{HasNames, HasMoreNodes, ShowsTerm, IsRowLeft}
use Rattle.mars_start.proofs.writing.write_row.Given as goal

-- what is left of the row, and the term of the last node, are the whole row
abbrev pub invariant-loop-first : goal.invariant-loop-first
invariant-loop-first l = record {
  more : HasMoreNodes l.fn.store l.store;
  first : All (λ node. node < length l.store.nodes) l.firsts.items;
  last : l.last < length l.store.nodes;
  row : (vars kept : List ℕ) (terms : List Term) (term : Term) → HasNames l.fn.store vars kept → AllPaired (ShowsTerm l.fn.store vars kept) terms l.initial.firsts.items
      → ShowsTerm l.fn.store vars kept term l.initial.last → IsRowLeft l.store vars kept terms term l.firsts.items l.last;
}

abbrev pub decreases-loop-first : goal.decreases-loop-first
decreases-loop-first l = vec_len l.firsts
