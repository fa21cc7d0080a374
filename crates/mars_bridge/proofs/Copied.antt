-- After a rule was copied the system represents the equations over its variables, too.
use Rattle.std.proofs.Common.{◌≡◌, ℕ, ◌+◌, ◌<◌, List, [], ◌∷◌, ◌++◌, length, slice_get, Some, All, sym, ap, ◌∙◌, subst, arith}
use Rattle.std.specs.List.{flat_map}
use Rattle.std.proofs.lemmas.List.FromFn.{get_or-map-range_with_len, length-map-range_with_len}
use Rattle.std.proofs.lemmas.Option.{same_Some, slice_get-get_or, slice_get_within}
use Rattle.std.proofs.lemmas.List.Elements.{All-weaker, All-from_get_or}
use Rattle.mars_store.specs.Valuation.{Valuation, value}
use Rattle.mars_store.specs.Solutions.{InSol}
use Rattle.mars_store.specs.Growing.{Continues, cut}
use Rattle.mars_store.specs.System.{System, IsSystem}
use Rattle.mars_term.specs.declared.term.Term.{Term}
use Rattle.mars_term.specs.declared.clause.Goal.{Goal}
use Rattle.mars_term.specs.declared.clause.Goal.TheVariants as goal
use Rattle.mars_term.specs.declared.clause.Rule.{Rule}
use Rattle.mars_term.specs.Parts.{parts_of, number_of_var, number_of_kept}
use Rattle.mars_term.specs.Clauses.{IsRule, parts_of_goal}
use Rattle.mars_rules.specs.LayingInside.{IsRulePart}
use Rattle.mars_rules.specs.PairedLists.{AllPaired}
use Rattle.mars_rules.specs.declared.goals.BodyGoal.{BodyGoal}
use Rattle.mars_rules.specs.declared.goals.BodyGoal.TheVariants as copied
use Rattle.mars_rules.specs.declared.goals.Instance.{Instance}
use Rattle.mars_rules.specs.Instances.{IsInstance, IsGoalOf, new_variable}
use Rattle.mars_rules.proofs.RuleParts.{head-parts, body-parts, all-before, all-after}
use Rattle.mars_machine.specs.Equations.{Equations, Solves, with_variables}
use Rattle.mars_bridge.specs.Represents.{of_vars, Represents}
use Rattle.mars_bridge.specs.Scoped.{IsScoped, IsTermOver, IsCopied, IsDenotedGoal, instance_variables}
use Rattle.mars_bridge.proofs.Variables.{last_trees, last_valid, represents_variables, denotes_still, denotes_term, earlier-hold}

pub over-parts : (vars : ℕ) (term : Term) → All (IsRulePart vars) (parts_of term) → IsTermOver vars term
over-parts vars term all =
    All-weaker (IsRulePart vars) (λ part. All (λ x. x < vars) (number_of_var part) × (number_of_kept part ≡ [])) (λ part p. (p.known, p.no_kept)) (parts_of term) all

module _ (e : Equations) (old new : System) (vars : List ℕ) (r : Represents e old vars) (scoped : IsScoped e) (sound : IsSystem old)
    (rule : Rule) (copy : Instance) (is : IsRule rule) (made : IsInstance old new rule copy) where
  abbrev more : List ℕ
  more = instance_variables old rule.vars

  size : length more ≡ rule.vars
  size = length-map-range_with_len (new_variable old) 0 rule.vars

  known : (x : ℕ) → x < rule.vars → slice_get more x ≡ Some (new_variable old x)
  known x h =
      let few = size in
      slice_get-get_or more x 0 (omega arith) ∙ ap Some (get_or-map-range_with_len (new_variable old) 0 rule.vars x x 0 h (omega arith))

  within : All (λ n. n < length new.nodes) more
  within = All-from_get_or (λ n. n < length new.nodes) more 0 (λ x h.
      let few = size in
      let fits = made.vars in
      subst (λ n. n < length new.nodes) (sym (get_or-map-range_with_len (new_variable old) 0 rule.vars x x 0 (omega arith) (omega arith))) (omega arith))

  takes : (w : Valuation) → Solves (with_variables e (e.next + rule.vars)) w → (v : Valuation) → InSol old v → ((x : ℕ) (path : List ℕ) → value (of_vars vars v) x path ≡ value (cut e.next w) x path)
      → (u : Valuation) × InSol new u × Continues v u × ((x n : ℕ) → slice_get more x ≡ Some n → (path : List ℕ) → value u n path ≡ value (last_trees e.next w) x path)
  takes w k v sol same =
      let u = made.free v (last_trees e.next w) sol (last_valid e.next rule.vars w k.valuation) in (
        u.0,
        u.1,
        u.2,
        λ x n there path.
            let few = size in
            let inside = slice_get_within more x n there in
            let h : x < rule.vars = omega arith in
            let own : new_variable old x ≡ n = same_Some (new_variable old x) n (sym (known x h) ∙ there) in
            ap (λ n. value u.0 n path) (sym own) ∙ u.3 x h path,
      )

  body-denoted : (goals : List Goal) (copies : List BodyGoal) → All (IsRulePart rule.vars) (flat_map parts_of_goal goals) → AllPaired (IsGoalOf new (new_variable old)) goals copies
      → AllPaired (IsDenotedGoal (with_variables e (e.next + rule.vars)) new (vars ++ more) e.next) goals copies
  body-denoted [] [] parts h = tt
  body-denoted [] (c ∷ copies) parts h = absurd h
  body-denoted (g ∷ goals) [] parts h = absurd h
  body-denoted (goal.Call term ∷ goals) (copied.Call node ∷ copies) parts h = (
    denotes_term e old new vars r sound made.grows scoped rule.vars more size within e.equal (new_variable old) known term node
        (over-parts rule.vars term (all-before (IsRulePart rule.vars) (parts_of term) (flat_map parts_of_goal goals) parts)) h.0,
    body-denoted goals copies (all-after (IsRulePart rule.vars) (parts_of term) (flat_map parts_of_goal goals) parts) h.1,
  )
  body-denoted (goal.Cut ∷ goals) (copied.Cut ∷ copies) parts h = (tt, body-denoted goals copies parts h.1)
  body-denoted (goal.Cut ∷ goals) (copied.Call node ∷ copies) parts h = absurd h.0
  body-denoted (goal.Call term ∷ goals) (copied.Cut ∷ copies) parts h = absurd h.0

  pub copied_denotes : IsCopied e old new vars rule copy
  copied_denotes = record {
    represents = represents_variables e old new vars r sound made.grows scoped rule.vars more size within e.equal (λ w h. h)
        (earlier-hold e old new vars r sound made.grows scoped rule.vars more size within e.equal) takes;
    denotes = denotes_still e old new vars r sound made.grows scoped rule.vars more size within e.equal;
    head = denotes_term e old new vars r sound made.grows scoped rule.vars more size within e.equal (new_variable old) known rule.head copy.head
        (over-parts rule.vars rule.head (head-parts rule is)) made.head;
    body = body-denoted rule.body copy.body (body-parts rule is) made.body;
  }
