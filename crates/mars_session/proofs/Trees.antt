-- The trees of kept names, one after another.
use Rattle.std.proofs.Common.{◌≡◌, List, [], ◌∷◌, ◌++◌, Option, Some, None, refl, ap, sym, ◌∙◌, append-nil, append_assoc}
use Rattle.std.specs.Prelude.{option_and_then}
use Rattle.std.specs.Option.{option_map}
use Rattle.mars_tree.specs.Graph.{Node}
use Rattle.mars_tree.specs.declared.label.NameId.{NameId}
use Rattle.mars_session.specs.declared.named.Named.{Named}
use Rattle.mars_session.specs.SessionPoints.{under_name, named_trees}

-- trees before others, where there are any
abbrev pub after_trees : List (List Node) → Option (List (List Node)) → Option (List (List Node))
after_trees trees rest = option_map (λ more. trees ++ more) rest

pub none_before : (rest : Option (List (List Node))) → after_trees [] rest ≡ rest
none_before None = refl
none_before (Some more) = refl

mapped_on : (trees : List (List Node)) (tree : List Node) (o : Option (List (List Node))) → after_trees trees (option_map (λ more. tree ∷ more) o) ≡ after_trees (trees ++ tree ∷ []) o
mapped_on trees tree None = refl
mapped_on trees tree (Some more) = ap (λ l. Some l) (sym (append_assoc trees (tree ∷ []) more))

pub trees_on : (names : List Named) (name : NameId) (kept : List NameId) (n : Named) (trees : List (List Node)) → under_name names name ≡ Some n
    → after_trees trees (named_trees names (name ∷ kept)) ≡ after_trees (trees ++ n.tree ∷ []) (named_trees names kept)
trees_on names name kept n trees is =
    ap (λ (o : Option Named). after_trees trees (option_and_then (λ n. option_map (λ more. n.tree ∷ more) (named_trees names kept)) o)) is ∙ mapped_on trees n.tree (named_trees names kept)

pub trees_stop : (names : List Named) (name : NameId) (kept : List NameId) (trees : List (List Node)) → under_name names name ≡ None
    → after_trees trees (named_trees names (name ∷ kept)) ≡ None
trees_stop names name kept trees is = ap (λ (o : Option Named). after_trees trees (option_and_then (λ n. option_map (λ more. n.tree ∷ more) (named_trees names kept)) o)) is

pub trees_end : (trees : List (List Node)) → after_trees trees (Some []) ≡ Some trees
trees_end trees = ap (λ l. Some l) (append-nil trees)
