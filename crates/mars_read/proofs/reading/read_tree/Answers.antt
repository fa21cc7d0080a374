use Rattle.std.proofs.Common.{◌≤◌, ◌∙◌, ℕ, List, ap, sym, subst, map, length, true, arith}
use Rattle.mars_tree.specs.Graph.{Node}
use Rattle.mars_graphs.specs.Systems.{IsSolution}
use Rattle.mars_graphs.specs.Making.{made_graph, made_root}
use Rattle.mars_read.specs.Spellings.{spellings_from, with_texts}
use Rattle.mars_read.specs.ReadTree.{system_told}
use Rattle.std.proofs.lemmas.List.{length-map}
use Rattle.mars_grammar.specs.Building.{both}
use Rattle.mars_forms.specs.declared.table.TheConstants.{TREE}
use Rattle.mars_clauses.specs.Limits.{counting, nothing_counted}
use Rattle.mars_scripts.specs.Trees.{tree_making, no_tree}
use Rattle.mars_read.proofs.Readings.{names-read, few-names}
use Rattle.mars_read.proofs.TreesMade.{solution-read, small-read}
use Rattle.mars_read.proofs.reading.read_tree.Goals as goal

pub returns-clause-read : goal.returns-clause-read
returns-clause-read c =
    let made = c.in_ok-parts.ensures.made in
    let old = c.args.names.now in
    let graph_is = c.in_ok-finish.ensures.graph ∙ ap made_graph made.graph in
    let root_is = c.in_ok-finish.ensures.root ∙ ap made_root made.graph in
    record {
      value = made.value;
      read = made.read;
      names = c.in_ok-add_names.ensures.ok ∙ ap (λ texts. with_texts old (map (λ text. text.items) texts)) c.as_slice.ensures.keys ∙ ap (with_texts old) made.added ∙ names-read true TREE.now (both counting tree_making) c.args.bytes.now old (nothing_counted true, no_tree) made.value made.read;
      graph = graph_is;
      root_is = root_is;
      solves =
          subst (λ (g : List Node). IsSolution (system_told (spellings_from c.args.bytes.now old) made.read.events) g c.in_ok-finish.field-0.1) (sym graph_is)
          (subst (λ (n : ℕ). IsSolution (system_told (spellings_from c.args.bytes.now old) made.read.events) (made_graph made.value.1.1.graph) n) (sym root_is)
          (solution-read c.args.bytes.now old made.value made.read));
    }

pub add_names-requires : goal.add_names-requires
add_names-requires c =
    let made = c.in_ok-parts.ensures.made in
    let few = few-names true TREE.now (both counting tree_making) c.args.bytes.now c.args.names.now (nothing_counted true, no_tree) made.value made.read in
    let texts = ap (map (λ text. text.items)) c.as_slice.ensures.keys ∙ made.added in
    omega (arith, few, c.requires, ap length texts, length-map c.as_slice.result.now (λ text. text.items))

pub returns-clause-small : goal.returns-clause-small
returns-clause-small c =
    let made = c.in_ok-parts.ensures.made in
    subst (λ (g : List Node). length g ≤ length c.args.bytes.now) (sym (c.in_ok-finish.ensures.graph ∙ ap made_graph made.graph)) (small-read c.args.bytes.now c.args.names.now made.value made.read)
