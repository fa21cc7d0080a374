-- A rule whose head has another label than a call, or another one at its first argument, has no child.
use Rattle.std.proofs.Common.{◌≡◌, ℕ, ◌<◌, List, [], ◌∷◌, length, slice_get, All, Option, Some, None, option_and_then, refl, sym, ap, ◌∙◌, subst}
use Rattle.mars_tree.specs.declared.label.Label.{Label}
use Rattle.mars_tree.specs.Graph.{label as at_label, kids_of}
use Rattle.mars_store.specs.System.{System, resolve}
use Rattle.mars_store.specs.Valuation.{Valuation}
use Rattle.mars_term.specs.declared.term.Term.{Term}
use Rattle.mars_term.specs.declared.clause.Rule.{Rule}
use Rattle.mars_term.specs.Clauses.{IsRule}
use Rattle.mars_rules.specs.TermTrees.{label_of_term, arguments_of}
use Rattle.mars_rules.specs.Candidates.{FitsGoal, FitsFirst, AllowsLabel, label_of_first}
use Rattle.mars_rules.proofs.TermFacts.{arguments-Name}
use Rattle.mars_goals.specs.declared.cells.Pending.TheVariants as pending
use Rattle.mars_goals.specs.GoalLists.{list_at}
use Rattle.mars_goals.specs.declared.cells.Pending.{Pending}
use Rattle.mars_machine.specs.Subjects.{Subject, Renamed, Part, subject_value}
use Rattle.mars_machine.specs.Equations.{Equations, HaveOneTree, Solves}
use Rattle.mars_machine.specs.Alternatives.{OpenGoal, Call, Alternative}
use Rattle.mars_machine.specs.Children.{IsRuleChild}
use Rattle.mars_machine.proofs.Values.{value-argument}
use Rattle.mars_machine.proofs.Steps.{shown-label}
use Rattle.mars_bridge.specs.Represents.{Denotes}
use Rattle.mars_bridge.specs.Scoped.{UsesBelow}
use Rattle.mars_bridge.proofs.Parts.{root_iff, part_denoted}
use Rattle.mars_bridge.proofs.Matched.{split-last}
use Rattle.mars_bridge.proofs.Variables.{within_value, cut-same, cut_solves}
use Rattle.mars_store.specs.Growing.{cut}
use Rattle.mars_memory.specs.Memory.{MemoryParts, root_of_node, root_of_first, first_of_node}
use Rattle.mars_memory.specs.Holding.{DenoteGoals, alternatives_of}
use Rattle.mars_memory.specs.Holding.DenoteGoals.{calls as goals-calls}
use Rattle.mars_memory.specs.Found.{HoldsCall, HasCall, HasNoRuleChild}

-- the node of a call denotes the call, over variables that are in use
pub record IsCallNode (e : Equations) (s : System) (vars : List ℕ) (node : ℕ) (call : Subject) : Type 0 where
  pub denotes : Denotes e s vars node call
  pub uses : UsesBelow e.next call

pub call-node : (e : Equations) (s : System) (vars : List ℕ) (groups : List (List Alternative)) (limit node : ℕ) (ps : List Pending) (goals : List OpenGoal) (call : Subject) (others : List OpenGoal)
    → DenoteGoals e s vars groups limit (pending.Call node ∷ ps) goals → goals ≡ Call call ∷ others → IsCallNode e s vars node call
call-node e s vars groups limit node ps goals call others (goals-calls {call = own} {goals = rest} d u more) is =
    let same : own ≡ call = cc in
    record { denotes = subst (Denotes e s vars node) same d; uses = subst (UsesBelow e.next) same u }

pub held-node : (asked : List ℕ) (m : MemoryParts) (groups : List (List Alternative)) (node rest : ℕ) (parent : Alternative) (call : Subject) (others : List OpenGoal)
    → (h : HoldsCall asked m groups node rest parent call others) → IsCallNode parent.equations m.system h.holds.writes.vars node call
held-node asked m groups node rest parent call others h =
    let w = h.holds.writes in
    call-node parent.equations m.system w.vars groups (length groups) node (list_at m.lists rest) parent.goals call others w.goals_are h.goals

-- the node of a call that is held is one of the store
pub held-inside : (m : MemoryParts) (node rest : ℕ) → HasCall m node rest → node < length m.system.nodes
held-inside m node rest h = ((held-node h.asked m h.groups node rest h.parent h.call h.others h.is_call).denotes).inside

-- a term with a label shows it
term-shows : (kept : _) (v : Valuation) (first : ℕ) (term : Term) (label : Label) → label_of_term term ≡ Some label → subject_value kept v (Renamed first term) [] ≡ Some (at_label label)
term-shows kept v first term label is = rw is refl

-- the first argument has a label that a solution allows
first-allowed : (e : Equations) (call : Subject) (rule : Rule) (w : Valuation) (terms : List Term) (label own : Label)
    → subject_value e.kept w (Part call 0) [] ≡ Some (at_label label)
    → subject_value e.kept w (Part call 0) [] ≡ option_and_then (λ term. subject_value e.kept w (Renamed e.next term) []) (slice_get terms 0)
    → label_of_first terms ≡ Some own → own ≡ label
first-allowed e call rule w [] label own shows same is = cc
first-allowed e call rule w (term ∷ terms) label own shows same is =
    shown-label own label (sym (term-shows e.kept w e.next term own is) ∙ sym same ∙ shows)

-- the first kid, where its label is known
first-kid : (s : System) (kids : List ℕ) (label : Label) → root_of_first s kids ≡ Some label → (kid : ℕ) × (slice_get kids 0 ≡ Some kid) × (root_of_node s kid ≡ Some label)
first-kid s [] label e = cc
first-kid s (kid ∷ kids) label e = (kid, refl, e)

allows : (label : Label) (own : Option Label) → ((l : Label) → own ≡ Some l → l ≡ label) → AllowsLabel label own
allows label None h = tt
allows label (Some l) h = h l refl

fits-by : (rule : Rule) (root first : Option Label) → ((label : Label) → root ≡ Some label → FitsGoal (Some label) rule)
    → ((label argument : Label) → root ≡ Some label → first ≡ Some argument → AllowsLabel argument (label_of_first (arguments_of rule.head))) → FitsFirst root first rule
fits-by rule None None g a = tt
fits-by rule None (Some argument) g a = tt
fits-by rule (Some label) None g a = g label refl
fits-by rule (Some label) (Some argument) g a = (g label refl, a label argument refl refl)

module _ (asked : List ℕ) (m : MemoryParts) (groups : List (List Alternative)) (node rest : ℕ) (parent : Alternative) (call : Subject) (others : List OpenGoal)
    (held : HoldsCall asked m groups node rest parent call others) (height : ℕ) (rule : Rule) (child : Alternative) (well : IsRule rule) (is : IsRuleChild parent call others height rule child) where
  abbrev eq : Equations
  eq = parent.equations

  abbrev v : Valuation
  v = is.under.solvable.v

  -- the solution of the child's equations gives the call and the head one tree, and solves the parent's equations
  both : All (HaveOneTree eq.kept v) eq.equal × HaveOneTree eq.kept v (call, Renamed eq.next rule.head)
  both = split-last (HaveOneTree eq.kept v) eq.equal (call, Renamed eq.next rule.head) is.under.solvable.solves.equal

  small : Solves eq (cut eq.next v)
  small = cut_solves eq rule.vars held.holds.writes.scoped v is.under.solvable.solves.valuation both.0

  below-head : subject_value eq.kept v (Part call 0) [] ≡ option_and_then (λ term. subject_value eq.kept v (Renamed eq.next term) []) (slice_get well.head.1 0)
  below-head =
      both.1.along (0 ∷ []) ∙ ap (λ t. subject_value eq.kept v (Renamed eq.next t) (0 ∷ [])) well.head.2
      ∙ value-argument eq.kept v eq.next well.head.0 well.head.1 0 []

  first-shows : (label argument : Label) → root_of_node m.system node ≡ Some label → first_of_node m.system node ≡ Some argument → subject_value eq.kept v (Part call 0) [] ≡ Some (at_label argument)
  first-shows label argument e f =
      let w = held.holds.writes in
      let n = held-node asked m groups node rest parent call others held in
      let kid = first-kid m.system (kids_of m.system.nodes (resolve m.system.bound node)) argument f in
      let denotes = part_denoted eq m.system w.vars w.represents w.sound node call n.denotes label e 0 kid.0 kid.1 in
      let forced = (root_iff eq m.system w.vars w.represents w.sound kid.0 (Part call 0) denotes argument).0 kid.2 in
      sym (within_value eq.kept (cut eq.next v) v eq.next (cut-same eq.next v) (Part call 0) n.uses []) ∙ forced (cut eq.next v) small

  -- a rule with a child fits
  pub child-fits : FitsFirst (root_of_node m.system node) (first_of_node m.system node) rule
  child-fits =
      let w = held.holds.writes in
      let n = held-node asked m groups node rest parent call others held in
      let arguments : arguments_of rule.head ≡ well.head.1 = ap arguments_of well.head.2 ∙ arguments-Name well.head.0 well.head.1 in
      fits-by rule (root_of_node m.system node) (first_of_node m.system node)
      (λ label e. is.takes label ((root_iff eq m.system w.vars w.represents w.sound node call n.denotes label).0 e))
      (λ label argument e f. allows argument (label_of_first (arguments_of rule.head))
      (λ own of. first-allowed eq call rule v well.head.1 argument own (first-shows label argument e f) below-head (ap label_of_first (sym arguments) ∙ of)))

-- a rule that doesn't fit has no child
pub unfit-childless : (m : MemoryParts) (node rest depth : ℕ) (rule : Rule) → IsRule rule → (FitsFirst (root_of_node m.system node) (first_of_node m.system node) rule → ⊥) → HasNoRuleChild m node rest depth rule
unfit-childless m node rest depth rule well unfit asked groups parent call others held size child is =
    unfit (child-fits asked m groups node rest parent call others held (length (alternatives_of groups)) rule child well is)
