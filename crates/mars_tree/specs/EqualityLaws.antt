-- That the tests of equality decide it, and the laws of the comparison and the hash, which the traits ask for.
use Rattle.std.specs.Prelude.{◌≡◌, ℕ, List, true, Option, Some, None, nat_eq, refl}
use Rattle.std.proofs.Common.{ap}
use Rattle.std.specs.Bool.{Decides}
use Rattle.std.specs.Cmp.{unsigned_Decides, signed_Decides, IsEquivalence, IsPartialEquivalence, partial_equiv_from_equiv}
use Rattle.std.specs.Option.{option_eq}
use Rattle.std.specs.Cmp.Lexicographic.{pointwise, pointwise_decides, bytes_decides}
pub use Rattle.mars_base.proofs.Deciding.{equivalence_from_decides}
use Rattle.mars_base.proofs.Deciding.{both, joined}
use Rattle.mars_tree.specs.declared.label.NameId.{NameId}
use Rattle.mars_tree.specs.declared.label.Label.{Label}
use Rattle.mars_tree.specs.declared.label.Label.TheVariants.{Name, Int, Dot, Tup, Str}
use Rattle.mars_tree.specs.Graph.{Node}
use Rattle.mars_tree.specs.NamesEquality.{same_names, names_writes}
use Rattle.mars_tree.specs.Equality.{same_label, same_node, same_nodes, node_writes}

one_name : (n m : NameId) (k j : ℕ) → n.0 ≡ m.0 → k ≡ j → Name n k ≡ Name m j
one_name n m k j e f i = Name (record { 0 = e i }) (f i)

one_string : (n m : NameId) → n.0 ≡ m.0 → Str n ≡ Str m
one_string n m e i = Str (record { 0 = e i })

pub label_decides : (a b : Label) → Decides (same_label a b) (a ≡ b)
label_decides (Name n k) (Name m j) = (
  λ e. let t = both (nat_eq n.0 m.0) (nat_eq k j) e in one_name n m k j ((unsigned_Decides n.0 m.0).0 t.0) ((unsigned_Decides k j).0 t.1),
  λ e. let id : n ≡ m = cc in
      let arity : k ≡ j = cc in
      joined (nat_eq n.0 m.0) (nat_eq k j) ((unsigned_Decides n.0 m.0).1 (ap (λ (id : NameId). id.0) id)) ((unsigned_Decides k j).1 arity),
)
label_decides (Name n k) (Int m) = (λ e. cc, λ e. cc)
label_decides (Name n k) Dot = (λ e. cc, λ e. cc)
label_decides (Name n k) (Tup m) = (λ e. cc, λ e. cc)
label_decides (Name n k) (Str m) = (λ e. cc, λ e. cc)
label_decides (Int n) (Name m j) = (λ e. cc, λ e. cc)
label_decides (Int n) (Int m) = (λ e. ap Int ((signed_Decides n m).0 e), λ e. (signed_Decides n m).1 (cc))
label_decides (Int n) Dot = (λ e. cc, λ e. cc)
label_decides (Int n) (Tup m) = (λ e. cc, λ e. cc)
label_decides (Int n) (Str m) = (λ e. cc, λ e. cc)
label_decides Dot (Name m j) = (λ e. cc, λ e. cc)
label_decides Dot (Int m) = (λ e. cc, λ e. cc)
label_decides Dot Dot = (λ e. refl, λ e. refl)
label_decides Dot (Tup m) = (λ e. cc, λ e. cc)
label_decides Dot (Str m) = (λ e. cc, λ e. cc)
label_decides (Tup n) (Name m j) = (λ e. cc, λ e. cc)
label_decides (Tup n) (Int m) = (λ e. cc, λ e. cc)
label_decides (Tup n) Dot = (λ e. cc, λ e. cc)
label_decides (Tup n) (Tup m) = (λ e. ap Tup ((unsigned_Decides n m).0 e), λ e. (unsigned_Decides n m).1 (cc))
label_decides (Tup n) (Str m) = (λ e. cc, λ e. cc)
label_decides (Str n) (Name m j) = (λ e. cc, λ e. cc)
label_decides (Str n) (Int m) = (λ e. cc, λ e. cc)
label_decides (Str n) Dot = (λ e. cc, λ e. cc)
label_decides (Str n) (Tup m) = (λ e. cc, λ e. cc)
label_decides (Str n) (Str m) = (
  λ e. one_string n m ((unsigned_Decides n.0 m.0).0 e),
  λ e. let id : n ≡ m = cc in (unsigned_Decides n.0 m.0).1 (ap (λ (id : NameId). id.0) id),
)

pub label_at_decides : (a b : Option Label) → Decides (option_eq same_label a b) (a ≡ b)
label_at_decides None None = (λ e. refl, λ e. refl)
label_at_decides (Some a) (Some b) = (λ e. ap Some ((label_decides a b).0 e), λ e. (label_decides a b).1 (cc))
label_at_decides None (Some b) = (λ e. cc, λ e. cc)
label_at_decides (Some a) None = (λ e. cc, λ e. cc)

same_parts : (v w : Node) → v.label ≡ w.label → v.kids ≡ w.kids → v ≡ w
same_parts v w e f i = record { label = e i; kids = f i }

pub node_decides : (v w : Node) → Decides (same_node v w) (v ≡ w)
node_decides v w = (
  λ e. let t = both (option_eq same_label v.label w.label) (pointwise nat_eq v.kids w.kids) e in
      same_parts v w ((label_at_decides v.label w.label).0 t.0) ((bytes_decides v.kids w.kids).0 t.1),
  λ e. joined (option_eq same_label v.label w.label) (pointwise nat_eq v.kids w.kids)
      ((label_at_decides v.label w.label).1 (ap (λ (n : Node). n.label) e)) ((bytes_decides v.kids w.kids).1 (ap (λ (n : Node). n.kids) e)),
)

pub nodes_decide : (g h : List Node) → Decides (same_nodes g h) (g ≡ h)
nodes_decide = pointwise_decides node_decides

pub nodes_equivalence : IsEquivalence same_nodes
nodes_equivalence = equivalence_from_decides same_nodes nodes_decide

pub nodes_partial_equivalence : IsPartialEquivalence same_nodes
nodes_partial_equivalence = partial_equiv_from_equiv nodes_equivalence

pub nodes_alike : (g h : List Node) → same_nodes g h ≡ true → node_writes g ≡ node_writes h
nodes_alike g h e = ap node_writes ((nodes_decide g h).0 e)

pub names_decide : (names others : List (List ℕ)) → Decides (same_names names others) (names ≡ others)
names_decide = pointwise_decides bytes_decides

pub names_equivalence : IsEquivalence same_names
names_equivalence = equivalence_from_decides same_names names_decide

pub names_partial_equivalence : IsPartialEquivalence same_names
names_partial_equivalence = partial_equiv_from_equiv names_equivalence

pub names_alike : (names others : List (List ℕ)) → same_names names others ≡ true → names_writes names ≡ names_writes others
names_alike names others e = ap names_writes ((names_decide names others).0 e)
