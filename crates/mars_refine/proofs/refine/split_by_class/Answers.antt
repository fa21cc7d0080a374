use Rattle.std.proofs.Common.{◌≡◌, ◌<◌, ◌+◌, List, length, drop, arith, ap, sym, subst, refl}
use Rattle.std.proofs.lemmas.List.{get_or_read, length-drop}
use Rattle.mars_refine.specs.declared.edge.Edge.{Edge}
use Rattle.mars_refine.specs.Classes.{Parted}
use Rattle.mars_refine.proofs.Refining.{refine_more}
use Rattle.mars_refine.proofs.Splitting.{IsParting, edge_nodes, found_are_kids, parting_start, parting_more, parting_passed}
use Rattle.mars_refine.proofs.refine.split_by_class.Goals as goal
use Rattle.mars_refine.proofs.refine.split_by_class.Goals.{then-last-entry+in_ok-split_by_place, else-last-entry}

pub loop-entry-init : goal.loop-entry-init
loop-entry-init c = parting_start c.args.graph.now c.args.classes.now c.args.class c.args.edges.now.edges.items c.args.edges.now.starts.items c.find_edges.new.found.edges.items c.find_edges.new.found.edges.items
    c.requires.graph c.requires.edges c.requires.size c.requires.free c.requires.refining c.in_ok-find_edges.ensures.edges refl

pub split_by_place-requires-clause-nodes : goal.split_by_place-requires-clause-nodes
split_by_place-requires-clause-nodes c k d h =
    let nodes = edge_nodes c.args.graph.now c.args.edges.now.edges.items c.args.edges.now.starts.items c.args.classes.now.of c.args.class c.find_edges.new.found.edges.items c.requires.edges c.requires.size c.in_ok-find_edges.ensures.edges in
    omega (arith, nodes k d h, c.loop-entry.invariant.size)

pub loop-entry-preserved : goal.loop-entry-preserved
loop-entry-preserved c =
    let found : List Edge = c.find_edges.new.found.edges.items in
    let i = c.loop-entry.invariant in
    let within : c.loop-entry.entry < length found = omega (arith, c.loop-entry-test.true, c.len-entry-end.ensures, c.find_edges.new.found.edges.ok.0) in
    let at : c.index.result.now.place ≡ _ = ap (λ (e : Edge). e.place) (get_or_read found c.loop-entry.entry c.index.result.now within c.index.ensures (record { node = 0; place = 0 })) in
    let kids = found_are_kids c.args.graph.now c.args.edges.now.edges.items c.args.edges.now.starts.items c.args.classes.now.of c.args.class found c.requires.graph c.requires.edges c.requires.size c.in_ok-find_edges.ensures.edges in
    let P : Parted → Type 0 = λ p. IsParting c.args.graph.now c.args.classes.now p c.args.class (drop (c.loop-entry.entry + 1) found) in
    elim c.if-last-entry.branch [
      | then-last-entry+in_ok-split_by_place w ↦
          subst P (sym w.classes-is) (parting_more c.args.graph.now c.args.classes.now c.loop-entry.classes w.split_by_place.new.classes c.args.class c.index.result.now.place c.loop-entry.entry found
          c.requires.graph c.requires.size c.requires.refining i within at kids w.in_ok-split_by_place.ensures)
      | else-last-entry w ↦
          subst P (sym w.classes-is) (parting_passed c.args.graph.now c.args.classes.now c.loop-entry.classes c.args.class c.index.result.now.place c.loop-entry.entry c.last.result found c.find_edges.new.found.by_place.keys
          i within at c.in_ok-find_edges.ensures.beside c.last.ensures w.if-last-entry.false)
    ]

pub returns-clause-refining : goal.returns-clause-refining
returns-clause-refining c =
    let found : List Edge = c.find_edges.new.found.edges.items in
    let none : length (drop c.loop-entry.entry found) ≡ 0 = omega (arith, length-drop c.loop-entry.entry found, c.loop-entry-test.false, c.len-entry-end.ensures, c.find_edges.new.found.edges.ok.0) in
    refine_more c.args.graph.now c.requires.graph c.args.classes.now.of c.loop-entry.classes.of c.args.class c.args.classes.now.count (drop c.loop-entry.entry found) c.requires.refining c.loop-entry.invariant.split none c.requires.class_in c.requires.size
