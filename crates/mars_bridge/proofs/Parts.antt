-- Roots, kids and variables: which subjects they denote.
use Rattle.std.proofs.Common.{◌≡◌, ◌↔◌, ◌⊎◌, ℕ, ◌+◌, ◌<◌, List, [], ◌∷◌, length, map, get_or, slice_get, Some, None, option_and_then, sym, ap, ◌∙◌, subst, arith, inl, inr}
use Rattle.std.specs.Option.{option_map}
use Rattle.std.proofs.lemmas.Option.{slice_get-map, slice_get-get_or, slice_get_within, get_or_from_slice_get}
use Rattle.std.proofs.lemmas.List.Elements.{All-get_or}
use Rattle.mars_tree.specs.declared.label.Label.{Label}
use Rattle.mars_tree.specs.Graph.{label_of, kids_of, at}
use Rattle.mars_store.specs.Valuation.{Valuation, value}
use Rattle.mars_store.specs.System.{System, IsSystem, resolve}
use Rattle.mars_store.specs.Solutions.{plain}
use Rattle.mars_store.specs.Laws.{IsForced, new_names}
use Rattle.mars_store.proofs.CallerLemmas.{cases-label, same-label, label-within, solution-over, free_unforced, plain_solves}
use Rattle.mars_term.specs.declared.term.Term.{Var}
use Rattle.mars_machine.specs.Subjects.{Subject, Renamed, Part}
use Rattle.mars_machine.specs.Equations.{Equations, Forces}
use Rattle.mars_machine.proofs.Values.{value-variable}
use Rattle.mars_bridge.specs.Represents.{of_vars, Represents, Denotes}
use Rattle.mars_bridge.proofs.Carried.{forced_iff}

-- a variable's node has its tree
pub of-var : (vars : List ℕ) (v : Valuation) (x n : ℕ) → slice_get vars x ≡ Some n → n < length v.nodes → (path : List ℕ) → value (of_vars vars v) x path ≡ value v n path
of-var vars v x n e h path =
    let there : slice_get (map (λ n. get_or v.nodes n 0) vars) x ≡ slice_get v.nodes n =
    slice_get-map (λ n. get_or v.nodes n 0) vars x ∙ ap (option_map (λ n. get_or v.nodes n 0)) e ∙ sym (slice_get-get_or v.nodes n 0 h) in
    ap (option_and_then (λ m. at v.graph m path)) there

module _ (e : Equations) (system : System) (vars : List ℕ) (r : Represents e system vars) where
  -- the node of a variable denotes it
  pub variable_denoted : (first x n : ℕ) → slice_get vars (first + x) ≡ Some n → Denotes e system vars n (Renamed first (Var x))
  variable_denoted first x n at_x =
      let here : n < length system.nodes =
      subst (λ n. n < length system.nodes) (get_or_from_slice_get vars (first + x) n 0 at_x)
      (All-get_or (λ n. n < length system.nodes) vars (first + x) 0 (slice_get_within vars (first + x) n at_x) r.inside) in
      record {
        inside = here;
        tree = λ v sol path.
            let there : n < length v.nodes = omega (arith, sol.valuation.each) in
            sym (value-variable e.kept (of_vars vars v) first x path ∙ of-var vars v (first + x) n at_x there path);
      }

  -- the root of a node's tree has a label exactly where its subject's is forced
  pub root_iff : IsSystem system → (n : ℕ) (subject : Subject) → Denotes e system vars n subject → (label : Label)
      → (label_of system.nodes (resolve system.bound n) ≡ Some label) ↔ Forces e subject [] label
  root_iff sound n subject st label = (
    λ is. (forced_iff e system vars r n subject st [] label).0 (λ v sol. solution-over system v sol n label is []),
    λ f. back ((forced_iff e system vars r n subject st [] label).1 f) (cases-label (label_of system.nodes (resolve system.bound n))),
  )
    where
      back : IsForced system n [] label → (label_of system.nodes (resolve system.bound n) ≡ None) ⊎ ((own : Label) × (label_of system.nodes (resolve system.bound n) ≡ Some own)) → label_of system.nodes (resolve system.bound n) ≡ Some label
      back f (inl none) = absurd (free_unforced system sound n st.inside none label f)
      back f (inr (own, is)) =
          let v = plain system (new_names system) in
          let sol = plain_solves system sound (new_names system) in
          is ∙ ap Some (same-label own label (sym (solution-over system v sol n own is []) ∙ f v sol))

  -- a kid of a node's label denotes the part at its place
  pub part_denoted : IsSystem system → (n : ℕ) (subject : Subject) → Denotes e system vars n subject → (label : Label) → label_of system.nodes (resolve system.bound n) ≡ Some label
      → (place kid : ℕ) → slice_get (kids_of system.nodes (resolve system.bound n)) place ≡ Some kid → Denotes e system vars kid (Part subject place)
  part_denoted sound n subject st label is place kid at_place =
      let end : ℕ = resolve system.bound n in
      let within = label-within system.nodes end label is in
      let older : kid < end =
      subst (λ k. k < end) (get_or_from_slice_get (kids_of system.nodes end) place kid 0 at_place)
      (All-get_or (λ k. k < end) (kids_of system.nodes end) place 0 (slice_get_within (kids_of system.nodes end) place kid at_place) (sound.older end).in_range) in
      record {
        inside = omega arith;
        tree = λ v sol path.
            sym (solution-over system v sol n label is (place ∷ path) ∙ ap (option_and_then (λ kid. value v kid path)) at_place) ∙ st.tree v sol (place ∷ path);
      }
