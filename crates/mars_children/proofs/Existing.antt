-- A call has its children by rules: on systems alone, each rule has a child or none.
use Rattle.std.proofs.Common.{◌≡◌, ℕ, zero, suc, ◌+◌, ◌<◌, ◌≤◌, List, [], ◌∷◌, ◌++◌, length, length-append, add-zero, map, get_or, slice_get, All, Some, refl, sym, ap, ◌∙◌, subst, arith, lit≤}
use Rattle.std.specs.List.{flat_map}
use Rattle.std.proofs.lemmas.List.{get_or-append-add}
use Rattle.std.proofs.lemmas.Option.{slice_get-get_or}
use Rattle.std.proofs.lemmas.List.Elements.{All-nil, All-cons, All-head}
use Rattle.mars_tree.specs.declared.label.Label.{Label}
use Rattle.mars_tree.specs.declared.label.Label.TheVariants as label
use Rattle.mars_tree.specs.Label.{arity_of}
use Rattle.mars_tree.specs.Graph.{Node, IsNode, labelled, free_leaf}
use Rattle.mars_store.specs.System.{System, IsSystem, with_node}
use Rattle.mars_store.proofs.CallerLemmas.{system-node}
use Rattle.mars_term.specs.declared.term.Term.{Term, Term-F, Var, Int, Name, Name', Tup, Tup', Dot, Dot', Kept, Str, out-Term}
use Rattle.mars_term.specs.declared.term.Term.TheOpen as one
use Rattle.mars_term.specs.declared.term.Term.TheViews.{outs-Var, outs-Name, outs-Tup, outs-Dot, outs-Kept}
use Rattle.mars_term.specs.Parts.{parts_of, number_of_var, number_of_kept}
use Rattle.mars_term.proofs.PartLemmas.{parts-Name, parts-Tup, parts-Dot}
use Rattle.mars_rules.specs.TermTrees.{label_of_term, arguments_of}
use Rattle.mars_rules.proofs.RuleParts.{own-part}
use Rattle.mars_machine.specs.Subjects.{Subject, Renamed}
use Rattle.mars_machine.specs.Equations.{Equations}
use Rattle.mars_bridge.specs.Represents.{Represents, Denotes, DenoteAll}
use Rattle.mars_bridge.specs.Scoped.{IsTermOver}
use Rattle.mars_children.specs.ExistingLaws.{IsSubjectWritten}
use Rattle.mars_bridge.proofs.Terms.{same-term, argument-parts}
use Rattle.mars_bridge.proofs.Parts.{variable_denoted}
use Rattle.mars_bridge.proofs.Building.{label_denotes, node_keeps}

-- a term is one of its parts, and has more parts than its arguments together
parts-some : (term : Term) → 0 < length (parts_of term)
parts-some (Var n) = lit≤ tt
parts-some (Int z) = lit≤ tt
parts-some (Name' name shape row) = omega arith
parts-some (Tup' shape row) = omega arith
parts-some (Dot' before left between right) = omega arith
parts-some (Kept k) = lit≤ tt
parts-some (Str name) = lit≤ tt

fewer-parts : (term : Term) → length (flat_map parts_of (arguments_of term)) < length (parts_of term)
fewer-parts term = go (out-Term term) refl
  where
    -- no arguments
    none : arguments_of term ≡ [] → length (flat_map parts_of (arguments_of term)) < length (parts_of term)
    none e = subst (λ (ts : List Term). length (flat_map parts_of ts) < length (parts_of term)) (sym e) (parts-some term)

    -- the parts of a term with these arguments
    some : (terms : List Term) → arguments_of term ≡ terms → length (flat_map parts_of terms) < length (parts_of term) → length (flat_map parts_of (arguments_of term)) < length (parts_of term)
    some terms e h = subst (λ (ts : List Term). length (flat_map parts_of ts) < length (parts_of term)) (sym e) h

    go : (o : Term-F Term) → out-Term term ≡ o → length (flat_map parts_of (arguments_of term)) < length (parts_of term)
    go (one.Name name terms) q =
        let same : term ≡ Name name terms = same-term term (Name name terms) (q ∙ sym (outs-Name name terms)) in
        let size = ap length (ap parts_of same ∙ parts-Name name terms) in
        some terms (rw (q, arguments_of) refl) (omega (arith, size))
    go (one.Tup terms) q =
        let same : term ≡ Tup terms = same-term term (Tup terms) (q ∙ sym (outs-Tup terms)) in
        let size = ap length (ap parts_of same ∙ parts-Tup terms) in
        some terms (rw (q, arguments_of) refl) (omega (arith, size))
    go (one.Dot left right) q =
        let same : term ≡ Dot left right = same-term term (Dot left right) (q ∙ sym (outs-Dot left right)) in
        let size = ap length (ap parts_of same ∙ parts-Dot left right) in
        let both = length-append (parts_of left) (parts_of right) in
        let apart = length-append (parts_of left) (parts_of right ++ []) in
        let last = length-append (parts_of right) [] in
        some (left ∷ right ∷ []) (rw (q, arguments_of) refl) (omega (arith, size, both, apart, last))
    go (one.Var n) q = none (rw (q, arguments_of) refl)
    go (one.Kept k) q = none (rw (q, arguments_of) refl)
    go (one.Int z) q = none (rw (q, arguments_of) refl)
    go (one.Str name) q = none (rw (q, arguments_of) refl)

record AreWritten (e : Equations) (s : System) (vars : List ℕ) (subjects : List Subject) : Type 0 where
  new : System
  system : IsSystem new
  represents : Represents e new vars
  kept : (n : ℕ) (other : Subject) → Denotes e s vars n other → Denotes e new vars n other
  nodes : List ℕ
  denote : DenoteAll e new vars nodes subjects

kept-all : (e : Equations) (s t : System) (vars : List ℕ) → ((n : ℕ) (other : Subject) → Denotes e s vars n other → Denotes e t vars n other)
    → (nodes : List ℕ) (subjects : List Subject) → DenoteAll e s vars nodes subjects → DenoteAll e t vars nodes subjects
kept-all e s t vars keep [] [] h = tt
kept-all e s t vars keep [] (x ∷ subjects) h = absurd h
kept-all e s t vars keep (n ∷ nodes) [] h = absurd h
kept-all e s t vars keep (n ∷ nodes) (x ∷ subjects) h = (keep n x h.0, kept-all e s t vars keep nodes subjects h.1)

all-inside : (e : Equations) (s : System) (vars nodes : List ℕ) (subjects : List Subject) → DenoteAll e s vars nodes subjects → All (λ n. n < length s.nodes) nodes
all-inside e s vars [] [] h = All-nil (λ n. n < length s.nodes)
all-inside e s vars [] (x ∷ subjects) h = absurd h
all-inside e s vars (n ∷ nodes) [] h = absurd h
all-inside e s vars (n ∷ nodes) (x ∷ subjects) h = All-cons (λ n. n < length s.nodes) n nodes (h.0).inside (all-inside e s vars nodes subjects h.1)

all-size : (e : Equations) (s : System) (vars nodes : List ℕ) (first : ℕ) (terms : List Term) → DenoteAll e s vars nodes (map (Renamed first) terms) → length nodes ≡ length terms
all-size e s vars [] first [] h = refl
all-size e s vars [] first (t ∷ terms) h = absurd h
all-size e s vars (n ∷ nodes) first [] h = absurd h
all-size e s vars (n ∷ nodes) first (t ∷ terms) h = ap suc (all-size e s vars nodes first terms h.1)

last-node : (nodes : List Node) (node : Node) → get_or (nodes ++ node ∷ []) (length nodes) free_leaf ≡ node
last-node nodes node = ap (λ n. get_or (nodes ++ node ∷ []) n free_leaf) (sym (add-zero (length nodes))) ∙ get_or-append-add nodes (node ∷ []) 0 free_leaf

module _ (e : Equations) (vars : List ℕ) (first count : ℕ) (known : first + count ≤ e.next) where
  abbrev Written : Term → System → Type 0
  Written term s = IsSystem s → Represents e s vars → IsSubjectWritten e s vars (Renamed first term)

  -- terms, one after the other, where each can be written
  write-all : (fuel : ℕ) → ((term : Term) → length (parts_of term) ≤ fuel → IsTermOver count term → (s : System) → Written term s)
      → (terms : List Term) → length (flat_map parts_of terms) ≤ fuel → ((place : ℕ) (term : Term) → slice_get terms place ≡ Some term → IsTermOver count term)
      → (s : System) → IsSystem s → Represents e s vars → AreWritten e s vars (map (Renamed first) terms)
  write-all fuel write [] few over s sound r = record { new = s; system = sound; represents = r; kept = λ n other h. h; nodes = []; denote = tt }
  write-all fuel write (term ∷ terms) few over s sound r =
      let size = length-append (parts_of term) (flat_map parts_of terms) in
      let one = write term (omega (arith, size)) (over 0 term refl) s sound r in
      let rest = write-all fuel write terms (omega (arith, size)) (λ place t h. over (suc place) t h) one.new one.system one.represents in
      record {
        new = rest.new;
        system = rest.system;
        represents = rest.represents;
        kept = λ n other h. rest.kept n other (one.kept n other h);
        nodes = one.node ∷ rest.nodes;
        denote = (rest.kept one.node (Renamed first term) one.denotes, rest.denote);
      }

  -- a label over arguments that are written
  write-label : (term : Term) (l : Label) (s : System) → label_of_term term ≡ Some l → length (arguments_of term) ≡ arity_of l
      → AreWritten e s vars (map (Renamed first) (arguments_of term)) → IsSubjectWritten e s vars (Renamed first term)
  write-label term l s own arity w =
      let node = labelled l w.nodes in
      let is : IsNode (length w.new.nodes) node = record {
        kids = all-size e w.new vars w.nodes first (arguments_of term) w.denote ∙ arity;
        in_range = all-inside e w.new vars w.nodes (map (Renamed first) (arguments_of term)) w.denote;
      } in
      let more = node_keeps e w.new vars w.represents w.system node is in
      let new = with_node w.new node in
      let last = last-node w.new.nodes node in
      record {
        new = new;
        system = system-node w.new node w.system is;
        represents = more.represents;
        kept = λ n other h. more.denotes n other (w.kept n other h);
        node = length w.new.nodes;
        denotes = label_denotes e new vars first (length w.new.nodes) term l (ap (λ (n : Node). n.label) last) own
            (subst (λ ks. DenoteAll e new vars ks (map (Renamed first) (arguments_of term))) (sym (ap (λ (n : Node). n.kids) last))
            (kept-all e w.new new vars more.denotes w.nodes (map (Renamed first) (arguments_of term)) w.denote));
      }

  -- a term whose arguments can be written
  write-by : (fuel : ℕ) → ((term : Term) → length (parts_of term) ≤ fuel → IsTermOver count term → (s : System) → Written term s)
      → (term : Term) → length (parts_of term) ≤ suc fuel → IsTermOver count term → (s : System) → IsSystem s → Represents e s vars
      → (o : Term-F Term) → out-Term term ≡ o → IsSubjectWritten e s vars (Renamed first term)
  write-by fuel write term few over s sound r o e' = go o e'
    where
      arguments : AreWritten e s vars (map (Renamed first) (arguments_of term))
      arguments =
          let less = fewer-parts term in
          write-all fuel write (arguments_of term) (omega (arith, less, few))
          (λ place t h. argument-parts (λ part. All (λ x. x < count) (number_of_var part) × (number_of_kept part ≡ [])) term place t over h) s sound r

      own : All (λ x. x < count) (number_of_var term) × (number_of_kept term ≡ [])
      own = own-part (λ part. All (λ x. x < count) (number_of_var part) × (number_of_kept part ≡ [])) term over

      no-kept : (k : ℕ) → k ∷ [] ≡ [] → ⊥
      no-kept k e = cc

      go : (o : Term-F Term) → out-Term term ≡ o → IsSubjectWritten e s vars (Renamed first term)
      go (one.Var n) q =
          let same : term ≡ Var n = same-term term (Var n) (q ∙ sym (outs-Var n)) in
          let low : n < count = All-head (λ x. x < count) n [] (subst (λ t. All (λ x. x < count) (number_of_var t)) same own.0) in
          let each = r.one_each in
          let node : ℕ = get_or vars (first + n) 0 in
          let at_n : slice_get vars (first + n) ≡ Some node = slice_get-get_or vars (first + n) 0 (omega arith) in
          record {
            new = s;
            system = sound;
            represents = r;
            kept = λ n other h. h;
            node = node;
            denotes = subst (λ t. Denotes e s vars node (Renamed first t)) (sym same) (variable_denoted e s vars r first n node at_n);
          }
      go (one.Kept k) q =
          let same : term ≡ Kept k = same-term term (Kept k) (q ∙ sym (outs-Kept k)) in
          absurd (no-kept k (subst (λ t. number_of_kept t ≡ []) same own.1))
      go (one.Name name terms) q = write-label term (label.Name name (length terms)) s (rw (q, label_of_term) refl) (ap length (names name terms q)) arguments
        where
          names : (name : _) (terms : List Term) → out-Term term ≡ one.Name name terms → arguments_of term ≡ terms
          names name terms q = rw (q, arguments_of) refl
      go (one.Tup terms) q = write-label term (label.Tup (length terms)) s (rw (q, label_of_term) refl) (ap length (tuples terms q)) arguments
        where
          tuples : (terms : List Term) → out-Term term ≡ one.Tup terms → arguments_of term ≡ terms
          tuples terms q = rw (q, arguments_of) refl
      go (one.Dot left right) q = write-label term label.Dot s (rw (q, label_of_term) refl) (ap length (dots left right q)) arguments
        where
          dots : (left right : Term) → out-Term term ≡ one.Dot left right → arguments_of term ≡ left ∷ right ∷ []
          dots left right q = rw (q, arguments_of) refl
      go (one.Int z) q = write-label term (label.Int z) s (rw (q, label_of_term) refl) (ap length (integers z q)) arguments
        where
          integers : (z : _) → out-Term term ≡ one.Int z → arguments_of term ≡ []
          integers z q = rw (q, arguments_of) refl
      go (one.Str name) q = write-label term (label.Str name) s (rw (q, label_of_term) refl) (ap length (strings name q)) arguments
        where
          strings : (name : _) → out-Term term ≡ one.Str name → arguments_of term ≡ []
          strings name q = rw (q, arguments_of) refl

  -- any term of the rule can be written
  pub write_term : (fuel : ℕ) (term : Term) → length (parts_of term) ≤ fuel → IsTermOver count term → (s : System) → IsSystem s → Represents e s vars → IsSubjectWritten e s vars (Renamed first term)
  write_term zero term few over s sound r = let some = parts-some term in absurd (omega (arith, some, few))
  write_term (suc fuel) term few over s sound r = write-by fuel (write_term fuel) term few over s sound r (out-Term term) refl
