-- What holds of nodes still holds after others were added.
use Rattle.std.proofs.Common.{◌≡◌, ℕ, ◌<◌, List, length, slice_get, Option, Some, None, option_and_then, All, refl, sym, ap, ◌∙◌, subst, arith}
use Rattle.std.proofs.lemmas.List.Elements.{All-weaker, All-get_or}
use Rattle.std.proofs.lemmas.Option.{slice_get_within, get_or_from_slice_get}
use Rattle.mars_tree.specs.Graph.{Node, IsNode}
use Rattle.mars_store.specs.Valuation.{value}
use Rattle.mars_store.specs.System.{System, IsSystem, Grows, with_node}
use Rattle.mars_store.specs.Solutions.{InSol}
use Rattle.mars_store.specs.Growing.{cut}
use Rattle.mars_store.proofs.CallerLemmas.{grows-refl, grows-trans, grows-node, system-node, node_continued, older-value, restricted}
use Rattle.mars_term.specs.declared.term.Term.{Term}
use Rattle.mars_matching.specs.Trees.{Trees}
use Rattle.mars_rules.specs.PairedLists.{AllPaired}
use Rattle.mars_rules.specs.TermTrees.{tree_of_term}
use Rattle.mars_rules.proofs.Copies.{continues-refl, continues-trans}
use Rattle.mars_rules.proofs.Paired.{paired-weaker}
use Rattle.mars_start.specs.LoadingInside.{HasTree}
use Rattle.mars_start.specs.WritingInside.{HasMoreNodes, HasNames, trees_among, ShowsTerm}

-- nodes are inside still
pub inside-grows : (old new : System) → Grows old new → (nodes : List ℕ) → All (λ n. n < length old.nodes) nodes → All (λ n. n < length new.nodes) nodes
inside-grows old new grows nodes h = let more = grows.more_nodes in All-weaker (λ n. n < length old.nodes) (λ n. n < length new.nodes) (λ n k. omega arith) nodes h

-- no node more
pub more-refl : (s : System) → IsSystem s → HasMoreNodes s s
more-refl s sound = record {
  goes = record { sound = sound; grows = grows-refl s; on = λ v sol. (v, sol, continues-refl v) };
  system = sound;
}

pub more-trans : (a b c : System) → HasMoreNodes a b → HasMoreNodes b c → HasMoreNodes a c
more-trans a b c f g = record {
  goes = record {
    sound = f.goes.sound;
    grows = grows-trans a b c f.goes.grows g.goes.grows;
    on = λ v sol.
        let w = f.goes.on v sol in
        let u = g.goes.on w.0 w.1 in
        (u.0, u.1, continues-trans v w.0 u.0 w.2 u.2);
  };
  system = g.system;
}

pub more-node : (s : System) (node : Node) → IsSystem s → IsNode (length s.nodes) node → HasMoreNodes s (with_node s node)
more-node s node sound is = record {
  goes = record { sound = sound; grows = grows-node s node; on = node_continued s node sound is };
  system = system-node s node sound is;
}

-- names have their nodes still
pub names-grow : (old new : System) (vars kept : List ℕ) → HasNames old vars kept → HasMoreNodes old new → HasNames new vars kept
names-grow old new vars kept names more = record {
  system = more.system;
  vars_in = inside-grows old new more.goes.grows vars names.vars_in;
  kept_in = inside-grows old new more.goes.grows kept names.kept_in;
}

module _ (old new : System) (sound : IsSystem old) (grows : Grows old new) where
  -- a node has the same tree
  pub tree-grows : (graph : List Node) (n : ℕ) → HasTree old graph n → HasTree new graph n
  tree-grows graph n has = record {
    inside = let more = grows.more_nodes in let h = has.inside in omega arith;
    tree = λ v sol path. sym (older-value old new sound grows v sol n has.inside path) ∙ has.tree (cut (length old.nodes) v) (restricted old new sound grows v sol) path;
  }

  pub trees-grow : (graphs : List (List Node)) (nodes : List ℕ) → AllPaired (HasTree old) graphs nodes → AllPaired (HasTree new) graphs nodes
  trees-grow graphs nodes all = paired-weaker (HasTree old) (HasTree new) tree-grows graphs nodes all

  module _ (vars kept : List ℕ) (names : HasNames old vars kept) where
    -- the nodes of a list have the same trees
    among-cut : (v : _) → InSol new v → (nodes : List ℕ) → All (λ n. n < length old.nodes) nodes → trees_among (cut (length old.nodes) v) nodes ≡ trees_among v nodes
    among-cut v sol nodes inside i place path = go (slice_get nodes place) refl i
      where
        go : (o : Option ℕ) → slice_get nodes place ≡ o → option_and_then (λ n. value (cut (length old.nodes) v) n path) (slice_get nodes place) ≡ option_and_then (λ n. value v n path) (slice_get nodes place)
        go None e = rw e refl
        go (Some n) e =
            let h : n < length old.nodes =
            subst (λ n. n < length old.nodes) (get_or_from_slice_get nodes place n 0 e) (All-get_or (λ n. n < length old.nodes) nodes place 0 (slice_get_within nodes place n e) inside) in
            rw e (older-value old new sound grows v sol n h path)

    -- a node has the tree of the same term
    pub term-grows : (term : Term) (n : ℕ) → ShowsTerm old vars kept term n → ShowsTerm new vars kept term n
    term-grows term n shows = record {
      inside = let more = grows.more_nodes in let h = shows.inside in omega arith;
      tree = λ v sol path.
          sym (older-value old new sound grows v sol n shows.inside path)
          ∙ shows.tree (cut (length old.nodes) v) (restricted old new sound grows v sol) path
          ∙ ap (λ (t : Trees). tree_of_term t (trees_among (cut (length old.nodes) v) kept) term path) (among-cut v sol vars names.vars_in)
          ∙ ap (λ (t : Trees). tree_of_term (trees_among v vars) t term path) (among-cut v sol kept names.kept_in);
    }

    pub terms-grow : (terms : List Term) (nodes : List ℕ) → AllPaired (ShowsTerm old vars kept) terms nodes → AllPaired (ShowsTerm new vars kept) terms nodes
    terms-grow terms nodes all = paired-weaker (ShowsTerm old vars kept) (ShowsTerm new vars kept) term-grows terms nodes all
