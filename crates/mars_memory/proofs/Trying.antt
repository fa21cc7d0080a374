-- A rule that is tried on a call: what was matched and built writes the child by the rule.
use Rattle.std.proofs.Common.{◌≡◌, ℕ, ◌+◌, ◌-◌, ◌≤◌, List, [], ◌∷◌, ◌++◌, length, take, drop, All, Option, Some, None, refl, sym, ap, ◌∙◌, subst, arith}
use Rattle.std.specs.List.{flat_map}
use Rattle.std.proofs.lemmas.List.Elements.{All-head, All-tail}
use Rattle.mars_store.specs.System.{System}
use Rattle.mars_store.proofs.CallerLemmas.{grows-trans}
use Rattle.mars_dif.specs.Kept.{IsAfter}
use Rattle.mars_dif.proofs.CallerLemmas.{after-same}
use Rattle.mars_frozen.specs.Freezing.{IsLaterFrozen}
use Rattle.mars_frozen.proofs.CallerLemmas.{later-all}
use Rattle.mars_term.specs.declared.clause.Goal.{Goal}
use Rattle.mars_term.specs.declared.clause.Goal.TheVariants as goal
use Rattle.mars_term.specs.declared.clause.Rule.{Rule}
use Rattle.mars_term.specs.Clauses.{IsRule, parts_of_goal}
use Rattle.mars_term.specs.Parts.{parts_of}
use Rattle.mars_matching.specs.Matched.{IsMatched, IsRefused}
use Rattle.mars_rules.specs.PairedLists.{AllPaired}
use Rattle.mars_rules.specs.LayingInside.{IsRulePart}
use Rattle.mars_rules.specs.TakenRules.{HasGoalNode}
use Rattle.mars_rules.specs.declared.flat.FlatGoal.{FlatGoal}
use Rattle.mars_rules.specs.declared.flat.FlatGoal.TheVariants as flat
use Rattle.mars_rules.specs.declared.flat.FlatRule.{FlatRule}
use Rattle.mars_rules.specs.FlatRules.{IsFlatRule}
use Rattle.mars_rules.proofs.RuleParts.{body-parts, all-before, all-after}
use Rattle.mars_rules.proofs.Taken.{built-nodes}
use Rattle.mars_goals.specs.declared.cells.Pending.{Pending}
use Rattle.mars_goals.specs.declared.cells.Pending.TheVariants as pending
use Rattle.mars_goals.specs.declared.choice.MachineMark.{MachineMark}
use Rattle.mars_goals.specs.GoalLists.{list_at}
use Rattle.mars_machine.specs.Subjects.{Subject, Renamed}
use Rattle.mars_machine.specs.Equations.{Equations}
use Rattle.mars_machine.specs.Alternatives.{OpenGoal, Call, Alternative, opened_goals}
use Rattle.mars_machine.specs.Children.{called_equations}
use Rattle.mars_bridge.specs.Represents.{Denotes}
use Rattle.mars_bridge.specs.Scoped.{UsesBelow}
use Rattle.mars_bridge.specs.MatchedLaws.{register_nodes, IsHeldGoal}
use Rattle.mars_bridge.proofs.Building.{uses_more, uses_renamed, call_scoped}
use Rattle.mars_bridge.proofs.Copied.{over-parts}
use Rattle.mars_bridge.proofs.Matched.{called_by, refused_unsolvable, register-is}
use Rattle.mars_children.proofs.Offspring.{weaken, may-take}
use Rattle.mars_memory.specs.Memory.{MemoryParts, memory_undone, IsMemoryMark, IsLaterMemory}
use Rattle.mars_memory.specs.Holding.{alternatives_of, height_of, DenoteGoals, WritesAlternative}
use Rattle.mars_memory.specs.Holding.DenoteGoals.{calls, cuts}
use Rattle.mars_memory.specs.Found.{HoldsCall, HasCallAt, HasRule, HasWritten, IsTaken, IsAlternativeSettled}
use Rattle.mars_memory.specs.ListsInside.{pendings_of}
use Rattle.mars_memory.specs.TakingInside.{IsBodyWritten}
use Rattle.mars_memory.proofs.Marks.{memory_mark_kept, later_memory_follows}
use Rattle.mars_memory.proofs.Carrying.{Carries, keep_goals, carried}

-- the first goal, where it is a call
pub record IsFirstCall (e : Equations) (system : System) (vars : List ℕ) (groups : List (List Alternative)) (limit node : ℕ) (more : List Pending) (call : Subject) (others : List OpenGoal) : Type 0 where
  pub denotes : Denotes e system vars node call
  pub uses : UsesBelow e.next call
  pub rest : DenoteGoals e system vars groups limit more others

pub first_call : (e : Equations) (system : System) (vars : List ℕ) (groups : List (List Alternative)) (limit node : ℕ) (more : List Pending) (goals : List OpenGoal) (call : Subject) (others : List OpenGoal)
    → DenoteGoals e system vars groups limit (pending.Call node ∷ more) goals → goals ≡ Call call ∷ others → IsFirstCall e system vars groups limit node more call others
first_call e system vars groups limit node more goals call others (calls {call = s} {goals = gs} d u r) is =
    let same : s ≡ call = cc in
    let rest : gs ≡ others = cc in
    record {
      denotes = subst (Denotes e system vars node) same d;
      uses = subst (UsesBelow e.next) same u;
      rest = subst (DenoteGoals e system vars groups limit more) rest r;
    }

pub call_in : (asked : List ℕ) (m : MemoryParts) (groups : List (List Alternative)) (node rest : ℕ) (parent : Alternative) (call : Subject) (others : List OpenGoal)
    → (h : HoldsCall asked m groups node rest parent call others)
    → IsFirstCall parent.equations m.system h.holds.writes.vars groups (length groups) node (list_at m.lists rest) call others
call_in asked m groups node rest parent call others h =
    first_call parent.equations m.system h.holds.writes.vars groups (length groups) node (list_at m.lists rest) parent.goals call others h.holds.writes.goals_are h.goals

-- all choice points have all alternatives
pub height_all : (groups : List (List Alternative)) → height_of groups (length groups) ≡ length (alternatives_of groups)
height_all groups = let none : length groups - length groups ≡ 0 = omega arith in ap (λ n. length (alternatives_of (drop n groups))) none

-- the goals of a body over registers denote those of the rule, before others
module _ (f : Equations) (system : System) (vars : List ℕ) (groups : List (List Alternative)) (first count : ℕ) (registers : List (Option ℕ)) (in_use : first + count ≤ f.next)
    (more : List Pending) (others : List OpenGoal) (rest : DenoteGoals f system vars groups (length groups) more others) where
  pub body_goals : (goals : List Goal) (places : List FlatGoal) → All (IsRulePart count) (flat_map parts_of_goal goals) → All (HasGoalNode registers) places
      → AllPaired (IsHeldGoal f system vars first registers) goals places
      → DenoteGoals f system vars groups (length groups) (pendings_of registers (length groups) places ++ more) (opened_goals (length (alternatives_of groups)) first goals ++ others)
  body_goals [] [] parts nodes h = rest
  body_goals [] (p ∷ places) parts nodes h = absurd h
  body_goals (g ∷ goals) [] parts nodes h = absurd h
  body_goals (goal.Call term ∷ goals) (flat.Call place ∷ places) parts nodes h =
      let own = All-head (HasGoalNode registers) (flat.Call place) places nodes in
      calls (subst (λ n. Denotes f system vars n (Renamed first term)) (sym (register-is registers place own.0 own.1)) (h.0 own.0 own.1))
      (uses_more (first + count) f.next in_use (Renamed first term)
      (uses_renamed first count term (over-parts count term (all-before (IsRulePart count) (parts_of term) (flat_map parts_of_goal goals) parts))))
      (body_goals goals places (all-after (IsRulePart count) (parts_of term) (flat_map parts_of_goal goals) parts) (All-tail (HasGoalNode registers) (flat.Call place) places nodes) h.1)
  body_goals (goal.Cut ∷ goals) (flat.Cut ∷ places) parts nodes h =
      cuts (omega arith) (sym (height_all groups)) (body_goals goals places parts (All-tail (HasGoalNode registers) flat.Cut places nodes) h.1)
  body_goals (goal.Cut ∷ goals) (flat.Call place ∷ places) parts nodes h = absurd h.0
  body_goals (goal.Call term ∷ goals) (flat.Cut ∷ places) parts nodes h = absurd h.0

-- a head that is refused has no child
pub taken_none : (old new : MemoryParts) (node rest depth : ℕ) (laid : FlatRule) → new ≡ old → IsRefused laid.template old.system node → IsTaken old node rest depth laid new None
taken_none old new node rest depth laid same refused = (
  same,
  λ rule is fl asked groups parent call others h at child c.
      let w = h.holds.writes in
      let first = call_in asked old groups node rest parent call others h in
      refused_unsolvable parent.equations old.system w.vars w.represents w.scoped call node first.uses first.denotes rule laid is fl refused
      (weaken (called_equations parent.equations call rule) parent.differ c.under.solvable),
)

-- the head was matched in a store, and the body was built and its goals are before the list
module _ (old mid new : MemoryParts) (node rest depth list : ℕ) (laid : FlatRule) (before after : List (Option ℕ)) (matched : IsMatched laid.template old.system mid.system node before)
    (difs : mid.difs ≡ old.difs) (frozen : mid.frozen ≡ old.frozen) (lists : mid.lists ≡ old.lists) (written : IsBodyWritten mid new laid rest depth before after list) where
  -- the child that is to come: its equations may have no solution with the inequations
  abbrev to_come : Alternative → Subject → List OpenGoal → List (List Alternative) → Rule → Alternative
  to_come parent call others groups rule =
      record parent { goals = opened_goals (length (alternatives_of groups)) parent.equations.next rule.body ++ others; equations = called_equations parent.equations call rule }

  same_difs : new.difs ≡ old.difs
  same_difs = written.difs ∙ difs

  same_frozen : new.frozen ≡ old.frozen
  same_frozen = written.frozen ∙ frozen

  pub written_later : IsLaterMemory old new
  written_later = record {
    system = grows-trans old.system mid.system new.system matched.grows written.built.grows;
    difs = subst (IsAfter old.difs) (sym same_difs) (after-same old.difs);
    frozen = subst (IsLaterFrozen old.frozen) (sym same_frozen) (later-all old.frozen);
    more = let e = ap length lists in let m = written.pushed.more in omega (arith, e, m);
    lists = subst (λ ls. take (length ls) new.lists ≡ ls) lists written.pushed.front;
  }

  pub written_child : (rule : Rule) → IsRule rule → IsFlatRule rule laid → (asked : List ℕ) (groups : List (List Alternative)) (parent : Alternative) (call : Subject) (others : List OpenGoal)
      → HoldsCall asked old groups node rest parent call others → length groups ≡ depth → WritesAlternative asked new groups (list_at new.lists list) (to_come parent call others groups rule)
  written_child rule is fl asked groups parent call others h at =
      let w = h.holds.writes in
      let e : Equations = parent.equations in
      let f : Equations = called_equations e call rule in
      let first = call_in asked old groups node rest parent call others h in
      let by = called_by e old.system w.vars w.represents w.scoped call node first.uses first.denotes rule laid is fl mid.system new.system w.sound before after matched written.built in
      let all : List ℕ = w.vars ++ register_nodes after rule.vars in
      let c : Carries old new e f w.vars all = record {
        sound = written.built.system;
        represents = by.represents;
        scoped = call_scoped e call rule w.scoped first.uses is;
        more = omega arith;
        grows = grows-trans old.system mid.system new.system matched.grows written.built.grows;
        difs = same_difs;
        frozen = same_frozen;
        keep = by.denotes;
      } in
      let rest_goals = keep_goals old new e f w.vars all c groups (length groups) (list_at old.lists rest) others first.rest in
      let nodes = (built-nodes mid.system new.system rule laid before after fl written.built).1 in
      let goals = body_goals f new.system all groups e.next rule.vars after (omega arith) (list_at old.lists rest) others rest_goals rule.body laid.goals.items (body-parts rule is) nodes by.body in
      let list_is : list_at new.lists list ≡ pendings_of after (length groups) laid.goals.items ++ list_at old.lists rest =
      written.pushed.list_is ∙ ap (λ ls. pendings_of after depth laid.goals.items ++ list_at ls rest) lists ∙ ap (λ d. pendings_of after d laid.goals.items ++ list_at old.lists rest) (sym at) in
      carried asked old new groups (pending.Call node ∷ list_at old.lists rest) (list_at new.lists list) parent w f all c (opened_goals (length (alternatives_of groups)) e.next rule.body ++ others)
      (subst (λ ps. DenoteGoals f new.system all groups (length groups) ps (opened_goals (length (alternatives_of groups)) e.next rule.body ++ others)) (sym list_is) goals)

  pub written_has : HasCallAt old node rest depth → HasRule laid → HasWritten new list
  written_has has rule = record {
    asked = has.has.asked;
    groups = has.has.groups;
    alternative = to_come has.has.parent has.has.call has.has.others has.has.groups rule.rule;
    inside = written.pushed.inside;
    writes = written_child rule.rule rule.is_rule rule.is_flat has.has.asked has.has.groups has.has.parent has.has.call has.has.others has.has.is_call has.depth_is;
  }

  -- what is settled then is the child by the rule ..
  pub taken_some : (last : MemoryParts) (found : ℕ) → IsAlternativeSettled new list last (Some found) → IsTaken old node rest depth laid last (Some found)
  taken_some last found s = (
    later_memory_follows old new last written_later s.0,
    s.1,
    λ rule is fl asked groups parent call others h at.
        let w = h.holds.writes in
        let first = call_in asked old groups node rest parent call others h in
        let done = s.2 asked groups (to_come parent call others groups rule) (written_child rule is fl asked groups parent call others h at) in
        record {
          child = record (to_come parent call others groups rule) { goals = done.woken ++ (to_come parent call others groups rule).goals; frozen = done.left };
          is_child = record {
            takes = may-take parent.equations call rule parent.differ w.scoped first.uses is done.solvable;
            under = record { solvable = done.solvable; equations_are = refl; differ_are = refl; woken = done.woken; wakes = done.wakes; goals_are = refl };
          };
          holds = record { writes = done.writes; solvable = done.solvable };
        },
  )

  -- .. and where nothing is, there is none
  pub taken_undone : (last undone : MemoryParts) (mark : MachineMark) → IsAlternativeSettled new list last None → IsMemoryMark old mark → memory_undone old mark ≡ old → undone ≡ memory_undone last mark
      → IsTaken old node rest depth laid undone None
  taken_undone last undone mark s made back is_undone =
      let k = memory_mark_kept old last mark (later_memory_follows old new last written_later s.0) made in (
        is_undone ∙ k.1 ∙ back,
        λ rule is fl asked groups parent call others h size child c.
            s.1 asked groups (to_come parent call others groups rule) (written_child rule is fl asked groups parent call others h size) c.under.solvable,
      )
