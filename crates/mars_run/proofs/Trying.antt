-- Rules are tried on a call, one candidate after another.
use Rattle.std.proofs.Common.{◌≡◌, ℕ, ◌+◌, ◌≤◌, List, length, slice_get, subst, arith, sym, Option, Some, None, All}
use Rattle.std.proofs.lemmas.Option.{slice_get_within}
use Rattle.mars_tree.specs.declared.label.Label.{Label}
use Rattle.mars_term.specs.declared.clause.Rule.{Rule}
use Rattle.mars_term.specs.Clauses.{IsRule}
use Rattle.mars_rules.specs.Candidates.{FitsFirst, HasNone, IsFirstRule, IsLeastRule}
use Rattle.mars_rules.specs.declared.flat.FlatRule.{FlatRule}
use Rattle.mars_rules.specs.FlatRules.{IsFlatRule}
use Rattle.mars_machine.specs.Alternatives.{Alternative}
use Rattle.mars_memory.specs.Memory.{MemoryParts, root_of_node, first_of_node}
use Rattle.mars_memory.specs.Found.{IsTaken}
use Rattle.mars_run.specs.Choices.{IsChoiceOf}
use Rattle.mars_run.specs.Searching.{AreRulesTried}
use Rattle.mars_run.proofs.Scanning.{rule-at, candidate-passed, candidate-taken, candidates-ended, left-after}

module _ (rules : List Rule) (well : All IsRule rules) (m : MemoryParts) (node rest begin depth : ℕ) (root first : Option Label) (is_root : root ≡ root_of_node m.system node)
    (is_first : first ≡ first_of_node m.system node) where
  -- what the call had left from the first place on it has left from a later one on
  abbrev pub Passes : ℕ → Type 0
  Passes from = (asked : List ℕ) (groups : List (List Alternative)) (children : List Alternative) → length groups ≡ depth
      → IsChoiceOf asked rules m groups node rest begin children → IsChoiceOf asked rules m groups node rest from children

  -- there is no further candidate
  pub tried-none : (from : ℕ) → Passes from → (new : MemoryParts) → new ≡ m → HasNone (FitsFirst root first) rules from → AreRulesTried rules m node rest begin depth new None
  tried-none from passes new same none_left = (
    same,
    λ asked groups children is size. candidates-ended asked rules m groups node rest depth size well root first is_root is_first children from (passes asked groups children size is) none_left,
  )

  module _ (from : ℕ) (passes : Passes from) (rule : ℕ) (can : IsLeastRule (FitsFirst root first) rules from rule) (flat : FlatRule)
      (is_flat : (written : Rule) → slice_get rules rule ≡ Some written → IsFlatRule written flat) (next : ℕ) (is_next : next ≡ rule + 1) where
    -- the candidate has no child
    pub passes-on : (new : MemoryParts) → IsTaken m node rest depth flat new None → Passes next
    passes-on new taken asked groups children size is =
        subst (λ n. IsChoiceOf asked rules m groups node rest n children) (sym is_next)
        (candidate-passed asked rules m groups node rest depth size well root first is_root is_first children from (passes asked groups children size is) rule can
        (taken.1 can.rule (rule-at rules rule can.rule can.at well) (is_flat can.rule can.at)))

    pub next-within : next ≤ length rules
    next-within = let w = slice_get_within rules rule can.rule can.at in omega arith

    -- the candidate has a child
    pub tried-one : (new : MemoryParts) (list : ℕ) → IsTaken m node rest depth flat new (Some list) → (left : Option ℕ) → IsFirstRule (FitsFirst root first) rules next left
        → AreRulesTried rules m node rest begin depth new (Some (list, left))
    tried-one new list taken left later = (
      taken.0,
      taken.1,
      λ asked groups children is size.
          let found = candidate-taken asked rules m groups node rest depth size well root first is_root is_first children from (passes asked groups children size is) rule new list can
          (taken.2 can.rule (rule-at rules rule can.rule can.at well) (is_flat can.rule can.at)) in
          record {
            first = found.first;
            later = found.later;
            children_are = found.children_are;
            holds = found.holds;
            left_are = left-after asked rules m groups node rest depth size well root first is_root is_first found.later next
                (subst (λ n. IsChoiceOf asked rules m groups node rest n found.later) (sym is_next) found.left) left later;
          },
    )
