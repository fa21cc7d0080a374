-- What a command does at a point is determined.
use Rattle.std.proofs.Common.{◌≡◌, ℕ, List, [], ◌∷◌, length, refl, ap, sym, ◌∙◌, arith, inl, inr}
use Rattle.std.specs.Prelude.{Option, Some, None}
use Rattle.mars_tree.specs.declared.label.NameId.{NameId}
use Rattle.mars_tree.specs.Graph.{Node, Same}
use Rattle.mars_tree.proofs.CallerLemmas.{roots_in}
use Rattle.mars_canon.specs.Canon.{Rooted, IsCanon}
use Rattle.mars_canon.proofs.Forms.{one_form_of_trees}
use Rattle.mars_rows.specs.TreeGraph.{IsTreeGraph, IsTreeGraphOf}
use Rattle.mars_script.specs.declared.script.Command.{Command}
use Rattle.mars_script.specs.declared.script.Command.TheVariants as command
use Rattle.mars_session.specs.declared.named.Named.{Named}
use Rattle.mars_session.specs.declared.named.TreeForm.{TreeForm}
use Rattle.mars_session.specs.declared.named.TreeForm.TheVariants.{Free, Large, Small}
use Rattle.mars_session.specs.SessionPoints.{SessionPoint, LatestAsk, under_name}
use Rattle.mars_session.specs.CommandActs.{CommandAct, IsTreeForm, form_act, KeepsTree, PutActs, KeepsRoot, KeepsVariable, KeepsLatest, KeepActs, variable_place, SameActs, ActsAt}

-- the canonical graph of a tree is one
tree_graph_one : (g : List Node) (n : ℕ) (t u : List Node) → IsTreeGraphOf g n t → IsTreeGraphOf g n u → t ≡ u
tree_graph_one g n t u a b =
    let c : Rooted = record { nodes = t; roots = 0 ∷ [] } in
    let d : Rooted = record { nodes = u; roots = 0 ∷ [] } in
    let same : Same t 0 u 0 = λ path. a.same path ∙ sym (b.same path) in
    ap (λ (c : Rooted). c.nodes) ((one_form_of_trees c d (answer_canon t a.is_tree) (answer_canon u b.is_tree)).1 (same, tt))
  where
    answer_canon : (t : List Node) → IsTreeGraph t → IsCanon (record { nodes = t; roots = 0 ∷ [] })
    answer_canon t is = record { graph = is.graph; canonical = is.canonical; roots_in = roots_in t (0 ∷ []) is.canonical }

form_one : (g : List Node) (n : ℕ) (a b : TreeForm) → IsTreeForm g n a → IsTreeForm g n b → a ≡ b
form_one g n Free Free h k = refl
form_one g n Free (Large count) h k = absurd (k.0 h.path h.leaf h.ends h.free)
form_one g n Free (Small tree) h k = absurd (k.0 h.path h.leaf h.ends h.free)
form_one g n (Large count) Free h k = absurd (h.0 k.path k.leaf k.ends k.free)
form_one g n (Large count) (Large other) h k = ap (λ m. Large m) (sym h.1.2 ∙ ap (λ (t : List Node). length t) (tree_graph_one g n h.1.0 k.1.0 h.1.1 k.1.1) ∙ k.1.2)
form_one g n (Large count) (Small tree) h k = let same = tree_graph_one g n h.1.0 tree h.1.1 k.1 in absurd (omega (arith, h.1.2, h.1.3, k.2.few, ap (λ (t : List Node). length t) same))
form_one g n (Small tree) Free h k = absurd (h.0 k.path k.leaf k.ends k.free)
form_one g n (Small tree) (Large count) h k = let same = tree_graph_one g n tree k.1.0 h.1 k.1.1 in absurd (omega (arith, k.1.2, k.1.3, h.2.few, ap (λ (t : List Node). length t) same))
form_one g n (Small tree) (Small other) h k = ap (λ t. Small t) (tree_graph_one g n tree other h.1 k.1)

keeps_one : (name : NameId) (g : List Node) (n : ℕ) (a b : CommandAct) → KeepsTree name g n a → KeepsTree name g n b → a ≡ b
keeps_one name g n a b h k = h.2 ∙ ap (form_act name) (form_one g n h.0 k.0 h.1 k.1) ∙ sym k.2

put_one : (o : Option Named) (name : NameId) (g : List Node) (n : ℕ) (a b : CommandAct) → PutActs o name g n a → PutActs o name g n b → a ≡ b
put_one (Some taken) name g n a b h k = h ∙ sym k
put_one None name g n a b h k = keeps_one name g n a b h k

root_one : (name : NameId) (c : Rooted) (o : Option ℕ) (a b : CommandAct) → KeepsRoot name c o a → KeepsRoot name c o b → a ≡ b
root_one name c None a b h k = h ∙ sym k
root_one name c (Some place) a b h k = keeps_one name c.nodes _ a b h k

variable_one : (name var : NameId) (vars : List NameId) (o : Option Rooted) (a b : CommandAct) → KeepsVariable name var vars o a → KeepsVariable name var vars o b → a ≡ b
variable_one name var vars None a b h k = h ∙ sym k
variable_one name var vars (Some c) a b h k = root_one name c (variable_place vars var) a b h k

latest_one : (name var : NameId) (o : Option LatestAsk) (a b : CommandAct) → KeepsLatest name var o a → KeepsLatest name var o b → a ≡ b
latest_one name var None a b h k = h ∙ sym k
latest_one name var (Some latest) a b h k = variable_one name var latest.vars latest.answer a b h k

keep_one : (o : Option Named) (name var : NameId) (latest : Option LatestAsk) (a b : CommandAct) → KeepActs o name var latest a → KeepActs o name var latest b → a ≡ b
keep_one (Some taken) name var latest a b h k = h ∙ sym k
keep_one None name var latest a b h k = latest_one name var latest a b h k

same_one : (o q : Option Named) (a b : CommandAct) → SameActs o q a → SameActs o q b → a ≡ b
same_one None right a b h k = h ∙ sym k
same_one (Some left) None a b h k = h ∙ sym k
same_one (Some left) (Some right) a b (inl h) (inl k) = h.1 ∙ sym k.1
same_one (Some left) (Some right) a b (inl h) (inr k) = absurd (k.0 h.0)
same_one (Some left) (Some right) a b (inr h) (inl k) = absurd (h.0 k.0)
same_one (Some left) (Some right) a b (inr h) (inr k) = h.1 ∙ sym k.1

pub acts_one : (p : SessionPoint) (command : Command) (a b : CommandAct) → ActsAt p command a → ActsAt p command b → a ≡ b
unfolding ActsAt
acts_one p (command.Put name graph root) a b h k = put_one (under_name p.names name) name graph root a b h k
acts_one p (command.Ask ask) a b h k = h ∙ sym k
acts_one p (command.Keep name var) a b h k = keep_one (under_name p.names name) name var p.latest a b h k
acts_one p (command.Same left right) a b h k = same_one (under_name p.names left) (under_name p.names right) a b h k
acts_one p (command.Show name) a b h k = h ∙ sym k
acts_one p (command.Pin new old) a b h k = h ∙ sym k
acts_one p (command.Drop name) a b h k = h ∙ sym k
acts_one p command.Sweep a b h k = h ∙ sym k
acts_one p command.Count a b h k = h ∙ sym k
