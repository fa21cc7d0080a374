-- Nodes that are added to a system, one at a time, and which variables equations use.
use Rattle.std.proofs.Common.{◌≡◌, ℕ, zero, suc, ◌+◌, ◌<◌, ◌≤◌, List, [], ◌∷◌, ◌++◌, length, length-append, add-zero, map, get_or, slice_get, Some, None, option_and_then, All, refl, sym, ap, ◌∙◌, arith}
use Rattle.std.proofs.lemmas.Option.{slice_get_past, none-some, same_Some}
use Rattle.std.proofs.lemmas.List.Elements.{All-nil, All-cons, All-weaker, All-push}
use Rattle.mars_tree.specs.declared.label.Label.{Label}
use Rattle.mars_tree.specs.Graph.{Node, IsNode, label_of, kids_of, free_leaf, at}
use Rattle.mars_store.specs.Valuation.{Valuation, value}
use Rattle.mars_store.specs.System.{System, IsSystem, with_node}
use Rattle.mars_store.specs.Solutions.{InSol, plain}
use Rattle.mars_store.specs.Growing.{Continues, cut}
use Rattle.mars_store.specs.Laws.{new_names}
use Rattle.mars_store.proofs.CallerLemmas.{plain_solves, grows-node, node_continued, label-within, leaf_node}
use Rattle.mars_term.specs.declared.term.Term.{Term, Kept}
use Rattle.mars_term.specs.declared.term.Term.TheViews.{outs-Kept}
use Rattle.mars_term.specs.declared.clause.Rule.{Rule}
use Rattle.mars_term.specs.Clauses.{IsRule}
use Rattle.mars_term.specs.Parts.{parts_of, number_of_var, number_of_kept}
use Rattle.mars_rules.specs.TermTrees.{label_of_term, arguments_of, own_tree}
use Rattle.mars_rules.specs.Instances.{TakeAnyTrees, new_variable}
use Rattle.mars_rules.proofs.RuleParts.{head-parts}
use Rattle.mars_rules.proofs.Copies.{copy-free}
use Rattle.mars_machine.specs.Subjects.{Subject, Renamed, Part, kept_trees, subject_value}
use Rattle.mars_machine.specs.Equations.{Equations, Solves, HaveOneTree, with_equality, with_variables}
use Rattle.mars_machine.specs.Children.{called_equations}
use Rattle.mars_bridge.specs.Represents.{of_vars, Represents, Denotes, DenoteAll}
use Rattle.mars_bridge.specs.Scoped.{UsesBelow, PairUsesBelow, IsScoped, IsTermOver, IsKeptBy}
use Rattle.mars_bridge.proofs.Growing.{kept_by}
use Rattle.mars_bridge.proofs.Variables.{last_trees, last_valid, represents_variables, denotes_still, earlier-hold}
use Rattle.mars_bridge.proofs.Copied.{over-parts}

pub empty_represented : (kept : List (List Node)) (system : System) → IsSystem system → Represents (record { kept = kept; next = 0; equal = [] }) system []
empty_represented kept system sound = record {
  one_each = refl;
  inside = All-nil (λ n. n < length system.nodes);
  solves = λ v sol. record {
    valuation = record { graph = sol.valuation.graph; ground = sol.valuation.ground; each = refl; inside = All-nil (λ n. n < length v.graph) };
    equal = All-nil (HaveOneTree kept (of_vars [] v));
  };
  solved = λ w k.
      let size = k.valuation.each in (
        plain system (new_names system),
        plain_solves system sound (new_names system),
        record { along = λ x path. sym (ap (option_and_then (λ n. at w.graph n path)) (slice_get_past w.nodes x (omega arith))) },
      );
}

-- a free node by itself
free-older : (place : ℕ) → IsNode place (get_or (free_leaf ∷ []) place free_leaf)
free-older zero = leaf_node zero
free-older (suc place) = leaf_node (suc place)

free-first : (x : ℕ) → x < 1 → label_of (free_leaf ∷ []) x ≡ None
free-first zero h = refl
free-first (suc x) h = refl

-- one free node more
module _ (e : Equations) (old : System) (vars : List ℕ) (r : Represents e old vars) (scoped : IsScoped e) (sound : IsSystem old) where
  abbrev new : System
  new = with_node old free_leaf

  abbrev one_more : List ℕ
  one_more = length old.nodes ∷ []

  any-trees : TakeAnyTrees old new 1 (new_variable old)
  any-trees = copy-free old sound (free_leaf ∷ []) free-older 1 (omega arith) free-first

  in-new : All (λ n. n < length new.nodes) one_more
  in-new = All-cons (λ n. n < length new.nodes) (length old.nodes) [] (omega (arith, length-append old.nodes (free_leaf ∷ []))) (All-nil (λ n. n < length new.nodes))

  takes : (w : Valuation) → Solves (with_variables e (e.next + 1)) w → (v : Valuation) → InSol old v → ((x : ℕ) (path : List ℕ) → value (of_vars vars v) x path ≡ value (cut e.next w) x path)
      → (u : Valuation) × InSol new u × Continues v u × ((x n : ℕ) → slice_get one_more x ≡ Some n → (path : List ℕ) → value u n path ≡ value (last_trees e.next w) x path)
  takes w k v sol same =
      let u = any-trees v (last_trees e.next w) sol (last_valid e.next 1 w k.valuation) in
      (u.0, u.1, u.2, λ x n there path. go path u.0 (u.3 0 (omega arith) path) x n there)
    where
      go : (path : List ℕ) (u : Valuation) → value u (new_variable old 0) path ≡ value (last_trees e.next w) 0 path → (x n : ℕ) → slice_get one_more x ≡ Some n
          → value u n path ≡ value (last_trees e.next w) x path
      go path u h zero n there =
          let own : new_variable old 0 ≡ n = add-zero (length old.nodes) ∙ same_Some (length old.nodes) n there in
          ap (λ n. value u n path) (sym own) ∙ h
      go path u h (suc x) n there = absurd (none-some n there)

  pub free_represented : Represents (with_variables e (e.next + 1)) new (vars ++ one_more)
  free_represented = represents_variables e old new vars r sound (grows-node old free_leaf) scoped 1 one_more refl in-new e.equal (λ w h. h)
      (earlier-hold e old new vars r sound (grows-node old free_leaf) scoped 1 one_more refl in-new e.equal) takes

  pub free_denotes : (n : ℕ) (subject : Subject) → UsesBelow e.next subject → Denotes e old vars n subject → Denotes (with_variables e (e.next + 1)) new (vars ++ one_more) n subject
  free_denotes = denotes_still e old new vars r sound (grows-node old free_leaf) scoped 1 one_more refl in-new e.equal

pub node_keeps : (e : Equations) (old : System) (vars : List ℕ) → Represents e old vars → IsSystem old → (node : Node) → IsNode (length old.nodes) node → IsKeptBy e old (with_node old node) vars
node_keeps e old vars r sound node is = kept_by e old (with_node old node) vars r (record { sound = sound; grows = grows-node old node; on = node_continued old node sound is })

-- kids that denote arguments show what these show
kids-show : (e : Equations) (system : System) (vars : List ℕ) (first : ℕ) (v : Valuation) → InSol system v → (kids : List ℕ) (terms : List Term)
    → DenoteAll e system vars kids (map (Renamed first) terms) → (place : ℕ) (path : List ℕ)
    → option_and_then (λ kid. value v kid path) (slice_get kids place) ≡ option_and_then (λ term. subject_value e.kept (of_vars vars v) (Renamed first term) path) (slice_get terms place)
kids-show e system vars first v sol [] [] st place path = refl
kids-show e system vars first v sol [] (t ∷ terms) st place path = absurd st
kids-show e system vars first v sol (n ∷ kids) [] st place path = absurd st
kids-show e system vars first v sol (n ∷ kids) (t ∷ terms) st zero path = st.0.tree v sol path
kids-show e system vars first v sol (n ∷ kids) (t ∷ terms) st (suc place) path = kids-show e system vars first v sol kids terms st.1 place path

pub label_denotes : (e : Equations) (system : System) (vars : List ℕ) (first n : ℕ) (term : Term) (label : Label) → label_of system.nodes n ≡ Some label → label_of_term term ≡ Some label
    → DenoteAll e system vars (kids_of system.nodes n) (map (Renamed first) (arguments_of term)) → Denotes e system vars n (Renamed first term)
label_denotes e system vars first n term label is own st = record {
  inside = label-within system.nodes n label is;
  tree = tree;
}
  where
    tree : (v : Valuation) → InSol system v → (path : List ℕ) → value v n path ≡ subject_value e.kept (of_vars vars v) (Renamed first term) path
    tree v sol [] = sol.labelled n label is [] ∙ rw own refl
    tree v sol (place ∷ path) =
        sol.labelled n label is (place ∷ path) ∙ kids-show e system vars first v sol (kids_of system.nodes n) (arguments_of term) st place path ∙ rw own refl

pub kept_denotes : (e : Equations) (system : System) (vars : List ℕ) (first number n : ℕ) (graph : List Node) → slice_get e.kept number ≡ Some graph → n < length system.nodes
    → ((v : Valuation) → InSol system v → (path : List ℕ) → value v n path ≡ at graph 0 path) → Denotes e system vars n (Renamed first (Kept number))
kept_denotes e system vars first number n graph is inside same = record {
  inside = inside;
  tree = λ v sol path. same v sol path ∙ sym (ap (option_and_then (λ (g : List Node). at g 0 path)) is) ∙ sym (own v path);
}
  where
    own : (v : Valuation) (path : List ℕ) → subject_value e.kept (of_vars vars v) (Renamed first (Kept number)) path ≡ kept_trees e.kept number path
    own v [] = rw (outs-Kept number, label_of_term, own_tree) refl
    own v (place ∷ path) = rw (outs-Kept number, label_of_term, own_tree) refl

-- more variables in use
pub uses_more : (next more : ℕ) → next ≤ more → (subject : Subject) → UsesBelow next subject → UsesBelow more subject
uses_more next more few (Renamed first term) h =
    All-weaker (λ part. All (λ x. first + x < next) (number_of_var part)) (λ part. All (λ x. first + x < more) (number_of_var part))
    (λ part. All-weaker (λ x. first + x < next) (λ x. first + x < more) (λ x k. omega arith) (number_of_var part)) (parts_of term) h
uses_more next more few (Part subject place) h = uses_more next more few subject h

-- a term of a rule, renamed
pub uses_renamed : (first count : ℕ) (term : Term) → IsTermOver count term → UsesBelow (first + count) (Renamed first term)
uses_renamed first count term over =
    All-weaker (λ part. All (λ x. x < count) (number_of_var part) × (number_of_kept part ≡ [])) (λ part. All (λ x. first + x < first + count) (number_of_var part))
    (λ part p. All-weaker (λ x. x < count) (λ x. first + x < first + count) (λ x k. omega arith) (number_of_var part) p.0) (parts_of term) over

pub equal_scoped : (e : Equations) (s t : Subject) → IsScoped e → UsesBelow e.next s → UsesBelow e.next t → IsScoped (with_equality e s t)
equal_scoped e s t scoped a b = All-push (PairUsesBelow e.next) e.equal (s, t) scoped (record { left = a; right = b })

pub call_scoped : (e : Equations) (call : Subject) (rule : Rule) → IsScoped e → UsesBelow e.next call → IsRule rule → IsScoped (called_equations e call rule)
call_scoped e call rule scoped uses is =
    let more : ℕ = e.next + rule.vars in
    All-push (PairUsesBelow more) e.equal (call, Renamed e.next rule.head)
    (All-weaker (PairUsesBelow e.next) (PairUsesBelow more)
    (λ pair p. record { left = uses_more e.next more (omega arith) pair.0 p.left; right = uses_more e.next more (omega arith) pair.1 p.right }) e.equal scoped)
    (record {
      left = uses_more e.next more (omega arith) call uses;
      right = uses_renamed e.next rule.vars rule.head (over-parts rule.vars rule.head (head-parts rule is));
    })
