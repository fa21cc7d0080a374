-- A tree that is put has at most a node for each token of its text.
use Rattle.std.proofs.Common.{◌≡◌, ◌<◌, length, ap, ◌∙◌, refl, arith}
use Rattle.mars_grammar.specs.Building.{performs}
use Rattle.mars_forms.specs.declared.table.TheConstants.{TREE}
use Rattle.mars_graphs.specs.Steps.{nothing_written, writes_all}
use Rattle.mars_graphs.specs.Making.{Making, nothing_made, makes_all, made_graph}
use Rattle.mars_graphs.proofs.Sizes.{made-small}
use Rattle.mars_scripts.specs.declared.trees.TreeMaker.{TreeMaker}
use Rattle.mars_scripts.specs.Trees.{steps_told}
use Rattle.mars_scripts.specs.Scripts.{scripts_making}
use Rattle.mars_scripts.proofs.WellFormedLemmas.{makes-told, tells-tree}
use Rattle.mars_read.specs.Spelled.{events_told}
use Rattle.mars_read.specs.ReadInput.{PutsAreSmall}
use Rattle.mars_read.proofs.Counting.{steps-within, text-tokens, told-tokens}
use Rattle.mars_read.proofs.TreeTerms.{terms-left, tree-no_ends}

pub puts-small : PutsAreSmall
puts-small two m tokens events d v told new =
    let es = events_told v events in
    let made : (performs scripts_making es told).tree.graph ≡ makes_all nothing_made (steps_told es) =
    ap (λ (tree : TreeMaker). tree.graph) (tells-tree es told (tree-no_ends two m TREE.now tokens events d v refl)) ∙ makes-told es told.tree ∙
    ap (λ (g : Making). makes_all g (steps_told es)) new in
    let left = terms-left two m TREE.now tokens events d v nothing_written refl in
    let some : 0 < length (writes_all nothing_written (steps_told es)).terms = omega (arith, left) in
    omega (
      arith,
      ap (λ (g : Making). length (made_graph g)) made,
      made-small (steps_told es) some,
      steps-within es,
      told-tokens events v,
      text-tokens two m TREE.now tokens events d,
    )
