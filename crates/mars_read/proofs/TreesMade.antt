-- What is made of the text of a tree: its graph, and how large that is.
use Rattle.std.proofs.Common.{◌≡◌, ◌≤◌, ◌<◌, ℕ, List, length, refl, ap, sym, ◌∙◌, subst, arith, true}
use Rattle.mars_grammar.specs.Building.{both}
use Rattle.mars_grammar.proofs.Meaning.{both-second}
use Rattle.mars_forms.specs.declared.table.TheConstants.{TREE}
use Rattle.mars_forms.specs.declared.symbol.FormMode.TheVariants as mode
use Rattle.mars_clauses.specs.declared.counts.InputCounts.{InputCounts}
use Rattle.mars_clauses.specs.Limits.{counting, nothing_counted}
use Rattle.mars_graphs.specs.Systems.{IsSolution}
use Rattle.mars_graphs.specs.Steps.{nothing_written, writes_all}
use Rattle.mars_graphs.specs.Making.{Making, nothing_made, makes_all, made_graph, made_root}
use Rattle.mars_graphs.proofs.Telling.{made-solves}
use Rattle.mars_graphs.proofs.Sizes.{made-small}
use Rattle.mars_read.specs.Spellings.{Spellings, spellings_from}
use Rattle.mars_read.specs.Spelled.{events_told}
use Rattle.mars_scripts.specs.declared.trees.TreeMaker.{TreeMaker}
use Rattle.mars_scripts.specs.Trees.{tree_making, no_tree, steps_told}
use Rattle.mars_scripts.proofs.WellFormedLemmas.{makes-told}
use Rattle.mars_read.specs.ReadTree.{TreeValue, IsTreeText, system_told}
use Rattle.mars_read.proofs.Readings.{value-made, few-told}
use Rattle.mars_read.proofs.Counting.{steps-within}
use Rattle.mars_read.proofs.TreeTerms.{terms-left}

-- the beginning of what is made, part by part
pub begins-parts : (s t : Spellings) (c d : InputCounts) (g h : TreeMaker) → s ≡ t → c ≡ d → g ≡ h → ◌≡◌ {A = TreeValue} (s, (c, g)) (t, (d, h))
begins-parts s t c d g h e f i = ap (λ x. (x, (c, g))) e ∙ ap (λ x. (t, (x, g))) f ∙ ap (λ x. (t, (d, x))) i

module _ (bytes : List ℕ) (old : List (List ℕ)) (w : TreeValue) (r : IsTreeText bytes old w) where
  graph-read : w.1.1.graph ≡ makes_all nothing_made (steps_told (events_told (spellings_from bytes old) r.events))
  graph-read =
      ap (λ x. x.1.graph) (value-made true TREE.now (both counting tree_making) bytes old (nothing_counted true, no_tree) w r) ∙
      ap (λ x. x.graph) (both-second counting tree_making (events_told (spellings_from bytes old) r.events) (nothing_counted true, no_tree)) ∙
      makes-told (events_told (spellings_from bytes old) r.events) no_tree

  -- the graph is the solution of the system that is written
  pub solution-read : IsSolution (system_told (spellings_from bytes old) r.events) (made_graph w.1.1.graph) (made_root w.1.1.graph)
  solution-read =
      subst (λ (m : Making). IsSolution (system_told (spellings_from bytes old) r.events) (made_graph m) (made_root m)) (sym graph-read)
      (made-solves (steps_told (events_told (spellings_from bytes old) r.events)))

  -- a term is left
  term-read : 0 < length (writes_all nothing_written (steps_told (events_told (spellings_from bytes old) r.events))).terms
  term-read = let left = terms-left true mode.Free TREE.now r.lexemes r.events r.text (spellings_from bytes old) nothing_written refl in omega (arith, left)

  -- it has at most a node a byte
  pub small-read : length (made_graph w.1.1.graph) ≤ length bytes
  small-read =
      let steps = steps_told (events_told (spellings_from bytes old) r.events) in
      omega (
        arith,
        ap (λ (m : Making). length (made_graph m)) graph-read,
        made-small steps term-read,
        steps-within (events_told (spellings_from bytes old) r.events),
        few-told true TREE.now (both counting tree_making) bytes old (nothing_counted true, no_tree) w r,
      )
