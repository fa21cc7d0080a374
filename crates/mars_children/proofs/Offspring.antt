-- Each call has its children by rules.
use Rattle.std.proofs.Common.{◌≡◌, ◌⊎◌, ℕ, zero, suc, ◌+◌, ◌≤◌, List, [], ◌∷◌, ◌++◌, length, add-zero, All, Some, refl, sym, ap, ◌∙◌, subst, arith, inl, inr}
use Rattle.std.proofs.lemmas.Option.{none-some}
use Rattle.std.proofs.lemmas.List.Elements.{All-nil, All-cons, All-head, All-tail, All-weaker}
use Rattle.mars_tree.specs.declared.label.Label.TheVariants as label
use Rattle.mars_tree.specs.Graph.{label_of, free_leaf, label as at_label}
use Rattle.mars_store.specs.System.{System, IsSystem, resolve, with_node}
use Rattle.mars_store.specs.Growing.{cut}
use Rattle.mars_store.proofs.CallerLemmas.{system-node, leaf_node, cases-label}
use Rattle.mars_dif.specs.Inside.{IsInside}
use Rattle.mars_term.specs.declared.clause.Rule.{Rule}
use Rattle.mars_term.specs.Clauses.{IsRule}
use Rattle.mars_term.specs.Parts.{parts_of}
use Rattle.mars_rules.specs.TermTrees.{label_of_term}
use Rattle.mars_rules.proofs.TermFacts.{label-Name}
use Rattle.mars_rules.proofs.RuleParts.{head-parts}
use Rattle.mars_machine.specs.Subjects.{Subject, Renamed, subject_value}
use Rattle.mars_machine.specs.Equations.{Equations, AreSolvable, HaveOneTree, with_variables}
use Rattle.mars_machine.specs.Alternatives.{OpenGoal, Call, Alternative, opened_goals}
use Rattle.mars_machine.specs.Children.{Wakes, MayTake, IsRuleChild, AreRuleChildren, called_equations}
use Rattle.mars_machine.specs.Children.Wakes.{none as wake-none, wakes as wake-wakes, waits as wake-waits}
use Rattle.mars_machine.specs.Children.AreRuleChildren.{none as no-more, child as one-child, no_child as no-child}
use Rattle.mars_machine.proofs.Values.{value-name}
use Rattle.mars_machine.proofs.Steps.{shown-label}
use Rattle.mars_bridge.specs.Represents.{Represents, Denotes, DenotePairs}
use Rattle.mars_bridge.specs.Scoped.{UsesBelow, PairUsesBelow, IsScoped}
use Rattle.mars_children.specs.ChildrenLaws.{IsDenotedCall}
use Rattle.mars_bridge.proofs.Carried.{represents_equal, denotes_equal, apart_iff, solvable_iff}
use Rattle.mars_bridge.proofs.Parts.{root_iff}
use Rattle.mars_bridge.proofs.Variables.{within_value, cut-same, cut_solves}
use Rattle.mars_bridge.proofs.Copied.{over-parts}
use Rattle.mars_bridge.proofs.Matched.{split-last}
use Rattle.mars_bridge.proofs.Building.{free_represented, free_denotes, uses_more}
use Rattle.mars_children.proofs.Existing.{write_term}
use Rattle.mars_children.proofs.Deciding.{decide_equal, decide_difs}

-- so many variables more
record HasVariables (e : Equations) (s : System) (vars : List ℕ) (count : ℕ) : Type 0 where
  new : System
  all : List ℕ
  system : IsSystem new
  represents : Represents (with_variables e (e.next + count)) new all
  kept : (n : ℕ) (subject : Subject) → UsesBelow e.next subject → Denotes e s vars n subject → Denotes (with_variables e (e.next + count)) new all n subject

scoped-more : (e : Equations) (more : ℕ) → e.next ≤ more → IsScoped e → IsScoped (with_variables e more)
scoped-more e more few scoped =
    All-weaker (PairUsesBelow e.next) (PairUsesBelow more) (λ pair p. record { left = uses_more e.next more few pair.0 p.left; right = uses_more e.next more few pair.1 p.right }) e.equal scoped

add-variables : (count : ℕ) (e : Equations) (s : System) (vars : List ℕ) → Represents e s vars → IsScoped e → IsSystem s → HasVariables e s vars count
add-variables zero e s vars r scoped sound = record {
  new = s;
  all = vars;
  system = sound;
  represents = subst (λ n. Represents (with_variables e n) s vars) (sym (add-zero e.next)) r;
  kept = λ n subject uses h. subst (λ k. Denotes (with_variables e k) s vars n subject) (sym (add-zero e.next)) h;
}
add-variables (suc count) e s vars r scoped sound =
    let h = add-variables count e s vars r scoped sound in
    let now : Equations = with_variables e (e.next + count) in
    let ok = scoped-more e (e.next + count) (omega arith) scoped in
    let next : (e.next + count) + 1 ≡ e.next + suc count = omega arith in
    let more = h.all ++ length h.new.nodes ∷ [] in
    record {
      new = with_node h.new free_leaf;
      all = more;
      system = system-node h.new free_leaf h.system (leaf_node (length h.new.nodes));
      represents = subst (λ n. Represents (with_variables e n) (with_node h.new free_leaf) more) next (free_represented now h.new h.all h.represents ok h.system);
      kept = λ n subject uses d. subst (λ k. Denotes (with_variables e k) (with_node h.new free_leaf) more n subject) next
          (free_denotes now h.new h.all h.represents ok h.system n subject (uses_more e.next (e.next + count) (omega arith) subject uses) (h.kept n subject uses d));
    }

-- pairs that denoted still do
pub keep-pairs : (e f : Equations) (s t : System) (vars all : List ℕ) (next : ℕ) → ((n : ℕ) (subject : Subject) → UsesBelow next subject → Denotes e s vars n subject → Denotes f t all n subject)
    → (nodes : List (ℕ × ℕ)) (pairs : List (Subject × Subject)) → All (PairUsesBelow next) pairs → DenotePairs e s vars nodes pairs → DenotePairs f t all nodes pairs
keep-pairs e f s t vars all next keep [] [] uses h = tt
keep-pairs e f s t vars all next keep [] (p ∷ pairs) uses h = absurd h
keep-pairs e f s t vars all next keep (n ∷ nodes) [] uses h = absurd h
keep-pairs e f s t vars all next keep (n ∷ nodes) (p ∷ pairs) uses h =
    let own = All-head (PairUsesBelow next) p pairs uses in (
      record { first = keep n.0 p.0 own.left (h.0).first; second = keep n.1 p.1 own.right (h.0).second },
      keep-pairs e f s t vars all next keep nodes pairs (All-tail (PairUsesBelow next) p pairs uses) h.1,
    )

pub pairs-inside : (e : Equations) (s : System) (vars : List ℕ) (nodes : List (ℕ × ℕ)) (pairs : List (Subject × Subject)) → DenotePairs e s vars nodes pairs → All (IsInside s) nodes
pairs-inside e s vars [] [] h = All-nil (IsInside s)
pairs-inside e s vars [] (p ∷ pairs) h = absurd h
pairs-inside e s vars (n ∷ nodes) [] h = absurd h
pairs-inside e s vars (n ∷ nodes) (p ∷ pairs) h =
    All-cons (IsInside s) n nodes (record { left = (h.0).first.inside; right = (h.0).second.inside }) (pairs-inside e s vars nodes pairs h.1)

-- which goals wake is decided
record HasWoken (e : Equations) (pairs : List (Subject × Subject)) : Type 0 where
  woken : List OpenGoal
  left : List (Subject × Subject)
  wakes : Wakes e pairs woken left

decide-waking : (e : Equations) (s : System) (vars : List ℕ) → Represents e s vars → IsSystem s → (nodes : List (ℕ × ℕ)) (pairs : List (Subject × Subject)) → DenotePairs e s vars nodes pairs → HasWoken e pairs
decide-waking e s vars r sound [] [] h = record { woken = []; left = []; wakes = wake-none }
decide-waking e s vars r sound [] (p ∷ pairs) h = absurd h
decide-waking e s vars r sound (n ∷ nodes) [] h = absurd h
decide-waking e s vars r sound (n ∷ nodes) (p ∷ pairs) h =
    let rest = decide-waking e s vars r sound nodes pairs h.1 in
    let root = root_iff e s vars r sound n.0 p.0 (h.0).first in
    elim (cases-label (label_of s.nodes (resolve s.bound n.0))) [
      | inr (l, is) ↦ record { woken = Call p.1 ∷ rest.woken; left = rest.left; wakes = wake-wakes (l, (root l).0 is) rest.wakes }
      | inl free ↦ record { woken = rest.woken; left = p ∷ rest.left; wakes = wake-waits (λ k. none-some k.0 (sym free ∙ (root k.0).1 k.1)) rest.wakes }
    ]

pub weaken : (e : Equations) (differ : List (Subject × Subject)) → AreSolvable e differ → AreSolvable e []
weaken e differ h = record { v = h.v; solves = h.solves; apart = All-nil (λ pair. HaveOneTree e.kept h.v pair → ⊥) }

-- where the equations of the call by the rule have a solution, the head has the label that is forced
pub may-take : (e : Equations) (call : Subject) (rule : Rule) (differ : List (Subject × Subject)) → IsScoped e → UsesBelow e.next call → IsRule rule → AreSolvable (called_equations e call rule) differ → MayTake e call rule
may-take e call rule differ scoped uses is k l f =
    let w = k.v in
    let both = split-last (HaveOneTree e.kept w) e.equal (call, Renamed e.next rule.head) k.solves.equal in
    let small = cut_solves e rule.vars scoped w k.solves.valuation both.0 in
    let name = is.head.0 in
    let terms = is.head.1 in
    let root : subject_value e.kept w (Renamed e.next rule.head) [] ≡ Some (at_label (label.Name name (length terms))) =
    ap (λ t. subject_value e.kept w (Renamed e.next t) []) is.head.2 ∙ value-name e.kept w e.next name terms in
    let same : Some (at_label l) ≡ Some (at_label (label.Name name (length terms))) =
    sym (f (cut e.next w) small) ∙ within_value e.kept (cut e.next w) w e.next (cut-same e.next w) call uses [] ∙ both.1.along [] ∙ root in
    ap label_of_term is.head.2 ∙ label-Name name terms ∙ ap Some (sym (shown-label l (label.Name name (length terms)) same))

module _ (parent : Alternative) (s : System) (vars : List ℕ) (call : Subject) (node : ℕ) (difs frozen : List (ℕ × ℕ)) (d : IsDenotedCall parent s vars call node difs frozen)
    (others : List OpenGoal) (height : ℕ) where
  abbrev HasChild : Rule → Type 0
  HasChild rule = (child : Alternative) × IsRuleChild parent call others height rule child

  decide_rule : (rule : Rule) → IsRule rule → HasChild rule ⊎ ((child : Alternative) → IsRuleChild parent call others height rule child → ⊥)
  decide_rule rule is =
      let e : Equations = parent.equations in
      let v = add-variables rule.vars e s vars d.represents d.scoped d.system in
      let f : Equations = with_variables e (e.next + rule.vars) in
      let w = write_term f v.all e.next rule.vars (omega arith) (length (parts_of rule.head)) rule.head (omega arith) (over-parts rule.vars rule.head (head-parts rule is)) v.new v.system v.represents in
      let keep : (n : ℕ) (subject : Subject) → UsesBelow e.next subject → Denotes e s vars n subject → Denotes f w.new v.all n subject = λ n subject uses h. w.kept n subject (v.kept n subject uses h) in
      let goal = keep node call d.uses d.denotes in
      let head : Subject = Renamed e.next rule.head in
      elim (decide_equal w.new w.system node w.node goal.inside (w.denotes).inside) [
        | inr apart ↦ inr (λ child c. (apart_iff f w.new v.all w.represents node w.node call head goal w.denotes).0 apart (weaken (called_equations e call rule) parent.differ c.under.solvable))
        | inl h ↦
            let size = ap length h.extends.nodes in
            let made = represents_equal f w.new v.all w.represents h.new node w.node call head goal w.denotes size h.solved in
            let later : (n : ℕ) (subject : Subject) → UsesBelow e.next subject → Denotes e s vars n subject → Denotes (called_equations e call rule) h.new v.all n subject =
            λ n subject uses k. denotes_equal f w.new v.all w.represents h.new node w.node n call head subject size h.solved (keep n subject uses k) in
            let apart_pairs = keep-pairs e (called_equations e call rule) s h.new vars v.all e.next later difs parent.differ d.differ_use d.differ in
            let wait_pairs = keep-pairs e (called_equations e call rule) s h.new vars v.all e.next later frozen parent.frozen d.waiting_use d.waiting in
            let told = solvable_iff (called_equations e call rule) h.new v.all made difs parent.differ apart_pairs in
            elim (decide_difs h.new h.system difs (pairs-inside (called_equations e call rule) h.new v.all difs parent.differ apart_pairs)) [
              | inr none ↦ inr (λ child c. none (told.1 c.under.solvable))
              | inl some ↦
                  let solvable = told.0 some in
                  let waking = decide-waking (called_equations e call rule) h.new v.all made h.system frozen parent.frozen wait_pairs in
                  inl (
                    record parent { goals = waking.woken ++ (opened_goals height e.next rule.body ++ others); equations = called_equations e call rule; frozen = waking.left },
                    record {
                      takes = may-take e call rule parent.differ d.scoped d.uses is solvable;
                      under = record { solvable = solvable; equations_are = refl; differ_are = refl; woken = waking.woken; wakes = waking.wakes; goals_are = refl };
                    },
                  )
            ]
      ]

  pub children_exist : (rules : List Rule) → All IsRule rules → (children : List Alternative) × AreRuleChildren parent call others height rules children
  children_exist [] are = ([], no-more)
  children_exist (rule ∷ rules) are =
      let rest = children_exist rules (All-tail IsRule rule rules are) in
      elim (decide_rule rule (All-head IsRule rule rules are)) [
        | inl some ↦ (some.0 ∷ rest.0, one-child some.1 rest.1)
        | inr none ↦ (rest.0, no-child none rest.1)
      ]
