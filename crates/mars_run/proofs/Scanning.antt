-- From one rule to the next.
use Rattle.std.proofs.Common.{◌≡◌, ℕ, zero, suc, ◌+◌, ◌-◌, ◌<◌, ◌≤◌, List, [], ◌∷◌, length, drop, slice_get, add-zero, refl, sym, ap, ◌∙◌, subst, arith, inl, inr, Option, Some, None, All}
use Rattle.std.proofs.lemmas.List.{drop_more}
use Rattle.std.proofs.lemmas.List.Elements.{All-get_or}
use Rattle.std.proofs.lemmas.Option.{slice_get_within, get_or_from_slice_get, slice_get_cases}
use Rattle.std.proofs.Math.ListN.{drop_of_length-le}
use Rattle.mars_tree.specs.declared.label.Label.{Label}
use Rattle.mars_term.specs.declared.clause.Rule.{Rule}
use Rattle.mars_term.specs.Clauses.{IsRule}
use Rattle.mars_goals.specs.GoalLists.{list_at}
use Rattle.mars_rules.specs.Candidates.{FitsFirst, HasNone, IsFirstRule, IsLeastRule}
use Rattle.mars_machine.specs.Subjects.{Subject}
use Rattle.mars_machine.specs.Alternatives.{OpenGoal, Alternative}
use Rattle.mars_machine.specs.Children.{AreRuleChildren, IsRuleChild}
use Rattle.mars_machine.specs.Children.AreRuleChildren.{none as children-none, child as children-child, no_child as children-no_child}
use Rattle.mars_machine.proofs.Steps.{rule_child_once}
use Rattle.mars_memory.specs.Memory.{MemoryParts, root_of_node, first_of_node}
use Rattle.mars_memory.specs.Holding.{alternatives_of, HoldsAlternative}
use Rattle.mars_memory.specs.Found.{HasNoRuleChild, HasRuleChild}
use Rattle.mars_run.specs.Choices.{IsChoiceOf}
use Rattle.mars_run.specs.Searching.{IsLeftOver}
use Rattle.mars_run.proofs.Unfit.{unfit-childless}

module _ (parent : Alternative) (call : Subject) (others : List OpenGoal) (height : ℕ) where
  first-none : (rule : Rule) (rules : List Rule) (children : List Alternative)
      → AreRuleChildren parent call others height (rule ∷ rules) children → ((c : Alternative) → IsRuleChild parent call others height rule c → ⊥)
      → AreRuleChildren parent call others height rules children
  first-none rule rules children (children-child c rest) n = absurd (n _ c)
  first-none rule rules children (children-no_child m rest) n = rest

  first-one : (rule : Rule) (rules : List Rule) (children : List Alternative) (c : Alternative)
      → AreRuleChildren parent call others height (rule ∷ rules) children → IsRuleChild parent call others height rule c
      → (later : List Alternative) × (children ≡ c ∷ later) × AreRuleChildren parent call others height rules later
  first-one rule rules children c (children-child {children = later} d rest) is = (later, ap (λ x. x ∷ later) (rule_child_once parent call others height rule _ c d is), rest)
  first-one rule rules children c (children-no_child m rest) is = absurd (m c is)

  no-rules : (children : List Alternative) → AreRuleChildren parent call others height [] children → children ≡ []
  no-rules [] children-none = refl
  no-rules (_ ∷ _) c = elim c [ ]

drop-at : (rules : List Rule) (i : ℕ) (rule : Rule) → slice_get rules i ≡ Some rule → drop i rules ≡ rule ∷ drop (i + 1) rules
drop-at rules i rule e = drop_more rules i rule (slice_get_within rules i rule e) ∙ ap (λ r. r ∷ drop (i + 1) rules) (get_or_from_slice_get rules i rule rule e)

-- a rule of well-formed ones is well formed
pub rule-at : (rules : List Rule) (i : ℕ) (rule : Rule) → slice_get rules i ≡ Some rule → All IsRule rules → IsRule rule
rule-at rules i rule e all = subst IsRule (get_or_from_slice_get rules i rule rule e) (All-get_or IsRule rules i rule (slice_get_within rules i rule e) all)

module _ (asked : List ℕ) (rules : List Rule) (m : MemoryParts) (groups : List (List Alternative)) (node rest depth : ℕ) (size : length groups ≡ depth) where
  -- a rule without a child is passed over
  pub choice-passed : (from : ℕ) (rule : Rule) (children : List Alternative) → slice_get rules from ≡ Some rule → HasNoRuleChild m node rest depth rule
      → IsChoiceOf asked rules m groups node rest from children → IsChoiceOf asked rules m groups node rest (from + 1) children
  choice-passed from rule children at none_there is = record {
    parent = is.parent;
    call = is.call;
    others = is.others;
    is_call = is.is_call;
    within = let w = slice_get_within rules from rule at in omega arith;
    children_are = first-none is.parent is.call is.others (length (alternatives_of groups)) rule (drop (from + 1) rules) children
        (subst (λ rs. AreRuleChildren is.parent is.call is.others (length (alternatives_of groups)) rs children) (drop-at rules from rule at) is.children_are)
        (none_there asked groups is.parent is.call is.others is.is_call size);
  }

  -- a rule with a child gives the first one
  pub record IsTakenChild (from : ℕ) (children : List Alternative) (new : MemoryParts) (list : ℕ) : Type 0 where
    pub first : Alternative
    pub later : List Alternative
    pub children_are : children ≡ first ∷ later
    pub holds : HoldsAlternative asked new groups (list_at new.lists list) first
    pub left : IsChoiceOf asked rules m groups node rest (from + 1) later

  pub choice-taken : (from : ℕ) (rule : Rule) (children : List Alternative) (new : MemoryParts) (list : ℕ) → slice_get rules from ≡ Some rule → HasRuleChild m node rest depth rule new list
      → IsChoiceOf asked rules m groups node rest from children → IsTakenChild from children new list
  choice-taken from rule children new list at has is =
      let found = has asked groups is.parent is.call is.others is.is_call size in
      let split = first-one is.parent is.call is.others (length (alternatives_of groups)) rule (drop (from + 1) rules) children found.child
      (subst (λ rs. AreRuleChildren is.parent is.call is.others (length (alternatives_of groups)) rs children) (drop-at rules from rule at) is.children_are) found.is_child in
      record {
        first = found.child;
        later = split.0;
        children_are = split.1;
        holds = found.holds;
        left = record {
          parent = is.parent;
          call = is.call;
          others = is.others;
          is_call = is.is_call;
          within = let w = slice_get_within rules from rule at in omega arith;
          children_are = split.2;
        };
      }

  -- after the last rule there is none
  pub choice-ended : (from : ℕ) (children : List Alternative) → length rules ≤ from → IsChoiceOf asked rules m groups node rest from children → children ≡ []
  choice-ended from children h is =
      no-rules is.parent is.call is.others (length (alternatives_of groups)) children
      (subst (λ rs. AreRuleChildren is.parent is.call is.others (length (alternatives_of groups)) rs children) (drop_of_length-le rules h) is.children_are)

  -- rules that don't fit are passed over
  pub choice-skipped : All IsRule rules → (children : List Alternative) (count from : ℕ) → from + count ≤ length rules
      → ((place : ℕ) (rule : Rule) → from ≤ place → place < from + count → slice_get rules place ≡ Some rule → FitsFirst (root_of_node m.system node) (first_of_node m.system node) rule → ⊥)
      → IsChoiceOf asked rules m groups node rest from children → IsChoiceOf asked rules m groups node rest (from + count) children
  choice-skipped well children zero from h unfit is = subst (λ n. IsChoiceOf asked rules m groups node rest n children) (sym (add-zero from)) is
  choice-skipped well children (suc count) from h unfit is = elim (slice_get_cases rules from).1 [
    | inr past ↦ absurd (omega (arith, past.0))
    | inl (rule, within, at, same) ↦
        let own : IsRule rule = rule-at rules from rule at well in
        let step = choice-passed from rule children at (unfit-childless m node rest depth rule own (unfit from rule (omega arith) (omega arith) at)) is in
        let places : from + 1 + count ≡ from + suc count = omega arith in
        subst (λ n. IsChoiceOf asked rules m groups node rest n children) places
        (choice-skipped well children count (from + 1) (omega arith) (λ place other w l. unfit place other (omega arith) (omega arith)) step)
  ]

  module _ (well : All IsRule rules) (root first : Option Label) (is_root : root ≡ root_of_node m.system node) (is_first : first ≡ first_of_node m.system node)
      (children : List Alternative) (from : ℕ) (is : IsChoiceOf asked rules m groups node rest from children) where
    fits-here : (rule : Rule) → FitsFirst (root_of_node m.system node) (first_of_node m.system node) rule → FitsFirst root first rule
    fits-here rule f = subst (λ o. FitsFirst o first rule) (sym is_root) (subst (λ o. FitsFirst (root_of_node m.system node) o rule) (sym is_first) f)

    -- the rules before the first candidate are passed over
    pub to-candidate : (rule : ℕ) → IsLeastRule (FitsFirst root first) rules from rule → IsChoiceOf asked rules m groups node rest rule children
    to-candidate rule can =
        let late = can.late in
        let within = slice_get_within rules rule can.rule can.at in
        let places : from + (rule - from) ≡ rule = omega arith in
        subst (λ n. IsChoiceOf asked rules m groups node rest n children) places
        (choice-skipped well children (rule - from) from (omega arith) (λ place other l k at f. can.least place other l (omega arith) at (fits-here other f)) is)

    -- and a candidate without a child
    pub candidate-passed : (rule : ℕ) → (can : IsLeastRule (FitsFirst root first) rules from rule) → HasNoRuleChild m node rest depth can.rule → IsChoiceOf asked rules m groups node rest (rule + 1) children
    candidate-passed rule can none_there = choice-passed rule can.rule children can.at none_there (to-candidate rule can)

    -- a candidate with a child gives the first one
    pub candidate-taken : (rule : ℕ) (new : MemoryParts) (list : ℕ) → (can : IsLeastRule (FitsFirst root first) rules from rule) → HasRuleChild m node rest depth can.rule new list → IsTakenChild rule children new list
    candidate-taken rule new list can has = choice-taken rule can.rule children new list can.at has (to-candidate rule can)

    -- where there is no candidate nothing is left
    pub candidates-ended : HasNone (FitsFirst root first) rules from → children ≡ []
    candidates-ended none_left =
        let w = is.within in
        let places : from + (length rules - from) ≡ length rules = omega arith in
        choice-ended (from + (length rules - from)) children (omega arith)
        (choice-skipped well children (length rules - from) from (omega arith) (λ place other l k at f. none_left place other l at (fits-here other f)) is)

  -- what is left after a rule that was taken
  pub left-after : (well : All IsRule rules) (root first : Option Label) (is_root : root ≡ root_of_node m.system node) (is_first : first ≡ first_of_node m.system node)
      (later : List Alternative) (from : ℕ) → IsChoiceOf asked rules m groups node rest from later → (left : Option ℕ) → IsFirstRule (FitsFirst root first) rules from left
      → IsLeftOver asked rules m groups node rest left later
  left-after well root first is_root is_first later from is None can = candidates-ended well root first is_root is_first later from is can
  left-after well root first is_root is_first later from is (Some rule) can = to-candidate well root first is_root is_first later from is rule can
