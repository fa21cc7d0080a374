-- What follows from the plain valuation.
use Rattle.std.proofs.Common.{◌≡◌, ℕ, zero, suc, ◌+◌, ◌<◌, List, [], ◌∷◌, length, Some, None, refl, sym, ap, ◌∙◌, arith, All}
use Rattle.std.proofs.lemmas.List.Elements.{All-from_get_or, All-get_or, All-weaker}
use Rattle.std.proofs.lemmas.Option.{none-some}
use Rattle.mars_tree.specs.Graph.{Node, label as at_label, label_of}
use Rattle.mars_store.specs.Valuation.{value, Agree}
use Rattle.mars_store.specs.System.{System, IsSystem, resolve}
use Rattle.mars_store.specs.Solutions.{plain, constant}
use Rattle.mars_store.specs.Laws.{IsImplied, IsSolvable, past, unused, new_names, PlainSolves, PlainDecides, NewNames, FreeUnforced, DifsIndependent}
use Rattle.mars_store.proofs.Solving.{plain-solves, plain-faithful, plain-value, number-of, same-label}

pub plain_solves : PlainSolves
plain_solves system sound names = plain-solves system sound names

pub plain_decides : PlainDecides
plain_decides system sound names new x y hx hy agree v solves = plain-faithful system sound names new v solves x y hx hy agree

-- a name in the nodes is below the unused one
name-below : (nodes : List Node) (n name : ℕ) → label_of nodes n ≡ Some (constant name) → name < unused nodes
name-below [] n name e = absurd (none-some (constant name) e)
name-below (node ∷ nodes) zero name e =
    let here : past node.label ≡ name + 1 = ap past e in
    omega arith
name-below (node ∷ nodes) (suc n) name e = omega (arith, name-below nodes n name e)

pub new_names-new : NewNames
new_names-new system = record {
  new = λ n m e. let h = name-below system.nodes m (unused system.nodes + n) e in absurd (omega arith);
  different = λ n m e. omega arith;
}

free-value : (system : System) (sound : IsSystem system) (names : ℕ → ℕ) (n : ℕ) → n < length system.nodes
    → label_of system.nodes (resolve system.bound n) ≡ None → value (plain system names) n [] ≡ Some (at_label (constant (names (resolve system.bound n))))
free-value system sound names n h e = plain-value system sound names n h [] ∙ rw e refl

pub free_unforced : FreeUnforced
free_unforced system sound n h e label forced =
    let names : ℕ → ℕ = λ k. number-of label + 1 in
    let same : constant (number-of label + 1) ≡ label = same-label _ _ (sym (free-value system sound names n h e) ∙ forced (plain system names) (plain-solves system sound names)) in
    let number : number-of label + 1 ≡ number-of label = ap number-of same in
    omega arith

pub difs_independent : DifsIndependent
difs_independent system sound difs inside = (to, from)
  where
    to : IsSolvable system difs → All (λ dif. IsImplied system dif.0 dif.1 → ⊥) difs
    to solvable = All-weaker (λ dif. Agree solvable.v dif.0 dif.1 → ⊥) (λ dif. IsImplied system dif.0 dif.1 → ⊥) (λ dif differ implied. differ (implied solvable.v solvable.solves)) difs solvable.differ

    from : All (λ dif. IsImplied system dif.0 dif.1 → ⊥) difs → IsSolvable system difs
    from apart = record {
      v = plain system (new_names system);
      solves = plain-solves system sound (new_names system);
      differ = All-from_get_or (λ dif. Agree (plain system (new_names system)) dif.0 dif.1 → ⊥) difs (0, 0) (λ i h agree.
          let within = All-get_or (λ dif. (dif.0 < length system.nodes) × (dif.1 < length system.nodes)) difs i (0, 0) h inside in
          All-get_or (λ dif. IsImplied system dif.0 dif.1 → ⊥) difs i (0, 0) h apart
          (plain_decides system sound (new_names system) (new_names-new system) _ _ within.0 within.1 agree));
    }
