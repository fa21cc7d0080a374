-- Terms, as they are written.
use Rattle.std.proofs.Common.{◌≡◌, ℕ, ℤ, zero, suc, ◌+◌, ◌<◌, ◌≤◌, ◌^◌, List, [], ◌∷◌, ◌++◌, length, take, length-append, get_or, slice_get, Some, Result, Ok, Err, option_and_then, All, refl, sym, ap, ◌∙◌, subst, arith}
use Rattle.std.specs.Result.{IfOk, OnOk}
use Rattle.std.proofs.lemmas.List.{get_or_at, get_or_default}
use Rattle.std.proofs.lemmas.List.Elements.{All-cons, All-nil, All-head, All-get_or}
use Rattle.std.proofs.lemmas.Option.{slice_get-get_or}
use Rattle.mars_tree.specs.declared.label.Label.{Label}
use Rattle.mars_tree.specs.declared.label.Label.TheVariants as label
use Rattle.mars_tree.specs.declared.label.NameId.{NameId}
use Rattle.mars_tree.specs.Label.{arity_of}
use Rattle.mars_tree.specs.Graph.{Node, IsNode, free_leaf, labelled}
use Rattle.mars_store.specs.Valuation.{Valuation, value}
use Rattle.mars_store.specs.System.{System, with_node}
use Rattle.mars_store.specs.Solutions.{InSol, over}
use Rattle.mars_term.specs.declared.term.Term.{Term, Var, Int, Name, Tup, Kept, Str}
use Rattle.mars_term.specs.declared.term.Term.TheViews.{outs-Var, outs-Kept}
use Rattle.mars_term.specs.Parts.{parts_of, HasShortList}
use Rattle.mars_rules.specs.PairedLists.{AllPaired}
use Rattle.mars_rules.specs.TermTrees.{label_of_term, arguments_of, own_tree, tree_of_term}
use Rattle.mars_rules.proofs.Paired.{paired-size, paired-step, paired-push, paired-all}
use Rattle.mars_rules.proofs.RuleParts.{own-part, short-name, short-tuple}
use Rattle.mars_rules.proofs.TermFacts.{label-Int, label-Name, label-Tup, label-Str, arguments-Int, arguments-Name, arguments-Tup, arguments-Str}
use Rattle.mars_start.specs.WritingInside.{IsAskPart, HasNames, HasMoreNodes, trees_among, ShowsTerm, IsTermWritten, AreTermsWritten}
use Rattle.mars_start.proofs.Growing.{more-refl, more-trans, more-node, names-grow, terms-grow}

-- nodes of terms are nodes of the store
pub shown-inside : (s : System) (vars kept : List ℕ) (terms : List Term) (nodes : List ℕ) → AllPaired (ShowsTerm s vars kept) terms nodes → All (λ n. n < length s.nodes) nodes
shown-inside s vars kept [] [] h = All-nil (λ n. n < length s.nodes)
shown-inside s vars kept [] (n ∷ nodes) h = absurd h
shown-inside s vars kept (t ∷ terms) [] h = absurd h
shown-inside s vars kept (t ∷ terms) (n ∷ nodes) h = All-cons (λ n. n < length s.nodes) n nodes (h.0).inside (shown-inside s vars kept terms nodes h.1)

-- kids that have the trees of arguments show what these show
kids-tree : (s : System) (vars kept : List ℕ) (v : Valuation) → InSol s v → (terms : List Term) (kids : List ℕ) → AllPaired (ShowsTerm s vars kept) terms kids → (place : ℕ) (path : List ℕ)
    → option_and_then (λ kid. value v kid path) (slice_get kids place) ≡ option_and_then (λ argument. tree_of_term (trees_among v vars) (trees_among v kept) argument path) (slice_get terms place)
kids-tree s vars kept v sol [] [] h place path = refl
kids-tree s vars kept v sol [] (n ∷ kids) h place path = absurd h
kids-tree s vars kept v sol (t ∷ terms) [] h place path = absurd h
kids-tree s vars kept v sol (t ∷ terms) (n ∷ kids) h zero path = (h.0).tree v sol path
kids-tree s vars kept v sol (t ∷ terms) (n ∷ kids) h (suc place) path = kids-tree s vars kept v sol terms kids h.1 place path

-- a label over nodes of terms has the tree of a term with these arguments
module _ (old : System) (vars kept : List ℕ) (term : Term) (own : Label) (terms : List Term) (kids : List ℕ) (names : HasNames old vars kept)
    (all : AllPaired (ShowsTerm old vars kept) terms kids) (is : label_of_term term ≡ Some own) (are : arguments_of term ≡ terms) (size : length terms ≡ arity_of own) where
  abbrev node : Node
  node = labelled own kids

  abbrev new : System
  new = with_node old node

  node-fits : IsNode (length old.nodes) node
  node-fits = record { kids = sym (paired-size (ShowsTerm old vars kept) terms kids all) ∙ size; in_range = shown-inside old vars kept terms kids all }

  label-more : HasMoreNodes old new
  label-more = more-node old node names.system node-fits

  last-node : get_or new.nodes (length old.nodes) free_leaf ≡ node
  last-node = get_or_at old.nodes node [] free_leaf (length old.nodes) refl

  kids-still : AllPaired (ShowsTerm new vars kept) terms kids
  kids-still = terms-grow old new names.system label-more.goes.grows vars kept names terms kids all

  label-tree : (v : Valuation) → InSol new v → (path : List ℕ) → value v (length old.nodes) path ≡ tree_of_term (trees_among v vars) (trees_among v kept) term path
  label-tree v sol [] = sol.labelled (length old.nodes) own (ap (λ (n : Node). n.label) last-node) [] ∙ rw is refl
  label-tree v sol (place ∷ path) =
      sol.labelled (length old.nodes) own (ap (λ (n : Node). n.label) last-node) (place ∷ path)
      ∙ ap (λ (n : Node). over own n.kids (value v) (place ∷ path)) last-node
      ∙ kids-tree new vars kept v sol terms kids kids-still place path
      ∙ rw (is, are) refl

  pub label-written : IsTermWritten old new vars kept term (length old.nodes)
  label-written = record {
    more = label-more;
    shows = record { inside = omega (arith, length-append old.nodes (node ∷ [])); tree = label-tree };
  }

-- a term whose label was added over nodes of its arguments
pub term-written : (old now new : System) (vars kept : List ℕ) (term : Term) (own : Label) (terms : List Term) (kids found : List ℕ) (n : ℕ) → HasNames old vars kept → AreTermsWritten old now vars kept terms kids
    → label_of_term term ≡ Some own → arguments_of term ≡ terms → length terms ≡ arity_of own → found ≡ kids → new ≡ with_node now (labelled own found) → n ≡ length now.nodes
    → IsTermWritten old new vars kept term n
term-written old now new vars kept term own terms kids found n names all is are size same made at =
    let there = label-written now vars kept term own terms kids (names-grow old now vars kept names all.more) all.shows is are size in
    let list : new ≡ with_node now (labelled own kids) = made ∙ ap (λ ks. with_node now (labelled own ks)) same in
    rw (list, at) (record { more = more-trans old now (with_node now (labelled own kids)) all.more there.more; shows = there.shows })

-- no terms yet
pub none-written : (s : System) (vars kept : List ℕ) → HasNames s vars kept → AreTermsWritten s s vars kept [] []
none-written s vars kept names = record { more = more-refl s names.system; shows = tt }

-- a term without arguments
pub leaf-written : (old new : System) (vars kept : List ℕ) (term : Term) (own : Label) (found : List ℕ) (n : ℕ) → HasNames old vars kept → label_of_term term ≡ Some own → arguments_of term ≡ []
    → 0 ≡ arity_of own → found ≡ [] → new ≡ with_node old (labelled own found) → n ≡ length old.nodes → IsTermWritten old new vars kept term n
leaf-written old new vars kept term own found n names is are size same made at = term-written old old new vars kept term own [] [] found n names (none-written old vars kept names) is are size same made at

-- a term more, of terms in a list
pub written-next : (old now new : System) (vars kept : List ℕ) (terms : List Term) (nodes after : List ℕ) (i : ℕ) (d : Term) (n : ℕ) → i < length terms → HasNames old vars kept
    → AreTermsWritten old now vars kept (take i terms) nodes → IsTermWritten now new vars kept (get_or terms i d) n → after ≡ nodes ++ n ∷ [] → AreTermsWritten old new vars kept (take (i + 1) terms) after
written-next old now new vars kept terms nodes after i d n h names all one e = record {
  more = more-trans old now new all.more one.more;
  shows = paired-step (ShowsTerm new vars kept) terms nodes after i d n h e
      (terms-grow now new all.more.system one.more.goes.grows vars kept (names-grow old now vars kept names all.more) (take i terms) nodes all.shows) one.shows;
}

pub written-whole : (old new : System) (vars kept : List ℕ) (terms : List Term) (nodes : List ℕ) (i : ℕ) → length terms ≤ i → AreTermsWritten old new vars kept (take i terms) nodes
    → AreTermsWritten old new vars kept terms nodes
written-whole old new vars kept terms nodes i h all = record { more = all.more; shows = paired-all (ShowsTerm new vars kept) terms nodes i h all.shows }

-- a term more, at the end of a list that grows with it
pub written-push : (old now new : System) (vars kept : List ℕ) (terms : List Term) (nodes after : List ℕ) (term : Term) (n : ℕ) → HasNames old vars kept
    → AreTermsWritten old now vars kept terms nodes → IsTermWritten now new vars kept term n → after ≡ nodes ++ n ∷ [] → AreTermsWritten old new vars kept (terms ++ term ∷ []) after
written-push old now new vars kept terms nodes after term n names all one e = record {
  more = more-trans old now new all.more one.more;
  shows = rw e (paired-push (ShowsTerm new vars kept) terms nodes term n
      (terms-grow now new all.more.system one.more.goes.grows vars kept (names-grow old now vars kept names all.more) terms nodes all.shows) one.shows);
}

-- the node of a variable, and of a kept name
at-place : (nodes : List ℕ) (count k n : ℕ) → k < length nodes → n ≡ get_or nodes k n → All (λ n. n < count) nodes → (slice_get nodes k ≡ Some n) × (n < count)
at-place nodes count k n h is inside =
    let own : get_or nodes k 0 ≡ n = get_or_default nodes k 0 n h ∙ sym is in
    (slice_get-get_or nodes k 0 h ∙ ap (λ n. Some n) own, subst (λ n. n < count) own (All-get_or (λ n. n < count) nodes k 0 h inside))

pub var-written : (s : System) (vars kept : List ℕ) (term : Term) (x n : ℕ) → HasNames s vars kept → term ≡ Var x → All (IsAskPart (length vars) (length kept)) (parts_of term) → n ≡ get_or vars x n
    → IsTermWritten s s vars kept term n
var-written s vars kept term x n names is parts at = rw is (record { more = more-refl s names.system; shows = record { inside = here.1; tree = λ v sol path. sym (own v path) } })
  where
    part : IsAskPart (length vars) (length kept) (Var x)
    part = subst (IsAskPart (length vars) (length kept)) is (own-part (IsAskPart (length vars) (length kept)) term parts)

    here : (slice_get vars x ≡ Some n) × (n < length s.nodes)
    here = at-place vars (length s.nodes) x n (All-head (λ x. x < length vars) x [] part.known) at names.vars_in

    own : (v : Valuation) (path : List ℕ) → tree_of_term (trees_among v vars) (trees_among v kept) (Var x) path ≡ value v n path
    own v [] = rw (outs-Var x, label_of_term, own_tree) (rw here.0 refl)
    own v (place ∷ path) = rw (outs-Var x, label_of_term, own_tree) (rw here.0 refl)

pub kept-written : (s : System) (vars kept : List ℕ) (term : Term) (k n : ℕ) → HasNames s vars kept → term ≡ Kept k → All (IsAskPart (length vars) (length kept)) (parts_of term) → n ≡ get_or kept k n
    → IsTermWritten s s vars kept term n
kept-written s vars kept term k n names is parts at = rw is (record { more = more-refl s names.system; shows = record { inside = here.1; tree = λ v sol path. sym (own v path) } })
  where
    part : IsAskPart (length vars) (length kept) (Kept k)
    part = subst (IsAskPart (length vars) (length kept)) is (own-part (IsAskPart (length vars) (length kept)) term parts)

    here : (slice_get kept k ≡ Some n) × (n < length s.nodes)
    here = at-place kept (length s.nodes) k n (All-head (λ k. k < length kept) k [] part.known_kept) at names.kept_in

    own : (v : Valuation) (path : List ℕ) → tree_of_term (trees_among v vars) (trees_among v kept) (Kept k) path ≡ value v n path
    own v [] = rw (outs-Kept k, label_of_term, own_tree) (rw here.0 refl)
    own v (place ∷ path) = rw (outs-Kept k, label_of_term, own_tree) (rw here.0 refl)

-- what holds of an answer by two facts
pub ok-by-both : {X Y : Type 0} (r : Result X Y) (P Q R : X → Type 0) → ((x : X) → P x → Q x → R x) → IfOk r P → IfOk r Q → IfOk r R
ok-by-both (Ok x) P Q R f p q = f x p q
ok-by-both (Err e) P Q R f p q = tt

-- lists of a term can be counted
pub name-fits : (vars kept : ℕ) (term : Term) (name : NameId) (terms : List Term) → term ≡ Name name terms → All (IsAskPart vars kept) (parts_of term) → length terms < 2 ^ 32
name-fits vars kept term name terms is parts = short-name name terms (subst (λ t. HasShortList t) is (own-part (IsAskPart vars kept) term parts).short)

pub tuple-fits : (vars kept : ℕ) (term : Term) (terms : List Term) → term ≡ Tup terms → All (IsAskPart vars kept) (parts_of term) → length terms < 2 ^ 32
tuple-fits vars kept term terms is parts = short-tuple terms (subst (λ t. HasShortList t) is (own-part (IsAskPart vars kept) term parts).short)

-- terms by their kinds
name-written : (old now new : System) (vars kept : List ℕ) (term : Term) (name : NameId) (terms : List Term) (arity : ℕ) (kids found : List ℕ) (n : ℕ) → HasNames old vars kept
    → AreTermsWritten old now vars kept terms kids → term ≡ Name name terms → arity ≡ length terms → found ≡ kids → new ≡ with_node now (labelled (label.Name name arity) found) → n ≡ length now.nodes
    → IsTermWritten old new vars kept term n
name-written old now new vars kept term name terms arity kids found n names all is size same made at =
    term-written old now new vars kept term (label.Name name arity) terms kids found n names all
    (ap label_of_term is ∙ label-Name name terms ∙ ap (λ n. Some (label.Name name n)) (sym size)) (ap arguments_of is ∙ arguments-Name name terms) (sym size) same made at

tuple-written : (old now new : System) (vars kept : List ℕ) (term : Term) (terms : List Term) (arity : ℕ) (kids found : List ℕ) (n : ℕ) → HasNames old vars kept
    → AreTermsWritten old now vars kept terms kids → term ≡ Tup terms → arity ≡ length terms → found ≡ kids → new ≡ with_node now (labelled (label.Tup arity) found) → n ≡ length now.nodes
    → IsTermWritten old new vars kept term n
tuple-written old now new vars kept term terms arity kids found n names all is size same made at =
    term-written old now new vars kept term (label.Tup arity) terms kids found n names all
    (ap label_of_term is ∙ label-Tup terms ∙ ap (λ n. Some (label.Tup n)) (sym size)) (ap arguments_of is ∙ arguments-Tup terms) (sym size) same made at

pub integer-written : (old new : System) (vars kept : List ℕ) (term : Term) (z found : ℤ) (kids : List ℕ) (n : ℕ) → HasNames old vars kept → found ≡ z → term ≡ Int z → kids ≡ []
    → new ≡ with_node old (labelled (label.Int found) kids) → n ≡ length old.nodes → IsTermWritten old new vars kept term n
integer-written old new vars kept term z found kids n names e is same made at =
    leaf-written old new vars kept term (label.Int found) kids n names (ap label_of_term is ∙ label-Int z ∙ ap (λ z. Some (label.Int z)) (sym e)) (ap arguments_of is ∙ arguments-Int z) refl same made at

pub string-written : (old new : System) (vars kept : List ℕ) (term : Term) (name : NameId) (kids : List ℕ) (n : ℕ) → HasNames old vars kept → term ≡ Str name → kids ≡ []
    → new ≡ with_node old (labelled (label.Str name) kids) → n ≡ length old.nodes → IsTermWritten old new vars kept term n
string-written old new vars kept term name kids n names is same made at =
    leaf-written old new vars kept term (label.Str name) kids n names (ap label_of_term is ∙ label-Str name) (ap arguments_of is ∙ arguments-Str name) refl same made at

-- the same of an answer, where the terms that were written are those of a list
pub name-added : {E : Type 0} (old now new : System) (vars kept : List ℕ) (term : Term) (name : NameId) (terms listed : List Term) (arity : ℕ) (kids found : List ℕ) (r : Result ℕ E) → HasNames old vars kept
    → AreTermsWritten old now vars kept listed kids → listed ≡ terms → term ≡ Name name terms → arity ≡ length kids → found ≡ kids → IfOk r (λ n. n ≡ length now.nodes)
    → OnOk r (new ≡ with_node now (labelled (label.Name name arity) found)) → IfOk r (λ n. IsTermWritten old new vars kept term n)
name-added old now new vars kept term name terms listed arity kids found r names all e is size same at made =
    ok-by-both r (λ n. n ≡ length now.nodes) (λ n. new ≡ with_node now (labelled (label.Name name arity) found)) (λ n. IsTermWritten old new vars kept term n)
    (λ n here there.
    let whole : AreTermsWritten old now vars kept terms kids = subst (λ ts. AreTermsWritten old now vars kept ts kids) e all in
    name-written old now new vars kept term name terms arity kids found n names whole is (size ∙ sym (paired-size (ShowsTerm now vars kept) terms kids whole.shows)) same there here) at made

pub tuple-added : {E : Type 0} (old now new : System) (vars kept : List ℕ) (term : Term) (terms listed : List Term) (arity : ℕ) (kids found : List ℕ) (r : Result ℕ E) → HasNames old vars kept
    → AreTermsWritten old now vars kept listed kids → listed ≡ terms → term ≡ Tup terms → arity ≡ length kids → found ≡ kids → IfOk r (λ n. n ≡ length now.nodes)
    → OnOk r (new ≡ with_node now (labelled (label.Tup arity) found)) → IfOk r (λ n. IsTermWritten old new vars kept term n)
tuple-added old now new vars kept term terms listed arity kids found r names all e is size same at made =
    ok-by-both r (λ n. n ≡ length now.nodes) (λ n. new ≡ with_node now (labelled (label.Tup arity) found)) (λ n. IsTermWritten old new vars kept term n)
    (λ n here there.
    let whole : AreTermsWritten old now vars kept terms kids = subst (λ ts. AreTermsWritten old now vars kept ts kids) e all in
    tuple-written old now new vars kept term terms arity kids found n names whole is (size ∙ sym (paired-size (ShowsTerm now vars kept) terms kids whole.shows)) same there here) at made
