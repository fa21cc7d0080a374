-- What is told of nodes is told of the terms that they denote.
use Rattle.std.proofs.Common.{◌≡◌, ℕ, ◌<◌, List, [], ◌∷◌, length, All, Option, Some, None, MatchOption, Result, Ok, Err, IfOk, sym, ◌∙◌, subst, arith}
use Rattle.std.proofs.lemmas.List.{take_all}
use Rattle.std.proofs.lemmas.List.Elements.{All-nil, All-cons}
use Rattle.mars_base.specs.declared.no_memory.NoMemory.{NoMemory}
use Rattle.mars_tree.specs.declared.label.Label.TheVariants.{Str}
use Rattle.mars_tree.specs.declared.label.NameId.{NameId}
use Rattle.mars_store.specs.System.{System}
use Rattle.mars_store.proofs.CallerLemmas.{grows-refl}
use Rattle.mars_dif.specs.Kept.{Kept, IsKeeper, IsCurrent, IsAfter, waiting_of}
use Rattle.mars_frozen.specs.Freezing.{waiting_pairs}
use Rattle.mars_frozen.proofs.CallerLemmas.{later-all}
use Rattle.mars_canon.specs.Canon.{Rooted}
use Rattle.mars_answer.specs.Answer.{IsAnswerGraph, ArePairsInside, roots_of}
use Rattle.mars_answer.specs.declared.answers.Answer.{Answer}
use Rattle.mars_rules.proofs.Paired.{paired-size}
use Rattle.mars_term.specs.declared.clause.Ask.{Ask}
use Rattle.mars_goals.specs.declared.cells.Pending.{Pending}
use Rattle.mars_machine.specs.declared.built_in.BuiltIn.TheVariants.{Out, OutText}
use Rattle.mars_machine.specs.Subjects.{Subject, Part}
use Rattle.mars_machine.specs.Equations.{Equations}
use Rattle.mars_machine.specs.Alternatives.{Alternative}
use Rattle.mars_machine.specs.BuiltIns.{built_in_label}
use Rattle.mars_machine.specs.TermAnswers.{IsTermAnswer, IsAnswerOf, answer_roots, ask_variables}
use Rattle.mars_bridge.specs.Represents.{DenotesPair, DenoteAll}
use Rattle.mars_bridge.proofs.Answered.{answer_denoted, roots_denoted}
use Rattle.mars_children.specs.DecidingLaws.{OpenTold}
use Rattle.mars_children.proofs.Deciding.{open_denoted}
use Rattle.mars_memory.specs.Memory.{MemoryParts, root_of_node, IsLaterMemory}
use Rattle.mars_memory.specs.Holding.{WritesAlternative, HoldsAlternative}
use Rattle.mars_memory.specs.Found.{IsCallOf, IsToldTree, IsToldText, IsToldAnswer}
use Rattle.mars_memory.proofs.Calls.{held-argument}
use Rattle.mars_memory.proofs.BuiltIns.{kid_is, forced-first, first-forced, pairs-inside}

pub tree-told : (m : MemoryParts) (node rest kid : ℕ) → IsCallOf m node Out → kid_is m node 0 kid → (canon : Rooted) → IsAnswerGraph m.system (kid ∷ []) canon → IsToldTree m node rest canon
tree-told m node rest kid is at canon graph = λ asked groups parent call others h.
    answer_denoted parent.equations m.system (h.holds.writes.vars) (h.holds.writes.represents) (kid ∷ []) (Part call 0 ∷ [])
    (held-argument asked m groups node rest parent call others h (built_in_label Out) is 0 kid at, tt) canon graph

pub text-told : (m : MemoryParts) (node rest kid : ℕ) → IsCallOf m node OutText → kid_is m node 0 kid → (r : Option NameId)
    → MatchOption r ((string : NameId) → root_of_node m.system kid ≡ Some (Str string) → ⊥) (λ string. root_of_node m.system kid ≡ Some (Str string)) → IsToldText m node rest r
text-told m node rest kid is at None none = λ asked groups parent call others h string f.
    none string (first-forced m node rest kid (built_in_label OutText) is at asked groups parent call others h (Str string) f)
text-told m node rest kid is at (Some string) root = λ asked groups parent call others h.
    forced-first m node rest kid (built_in_label OutText) is at asked groups parent call others h (Str string) root

-- nodes that denote subjects are nodes of the system
all-inside : (e : Equations) (system : System) (vars nodes : List ℕ) (subjects : List Subject) → DenoteAll e system vars nodes subjects → All (λ node. node < length system.nodes) nodes
all-inside e system vars [] [] h = All-nil (λ node. node < length system.nodes)
all-inside e system vars [] (s ∷ subjects) h = absurd h
all-inside e system vars (n ∷ nodes) [] h = absurd h
all-inside e system vars (n ∷ nodes) (s ∷ subjects) h = All-cons (λ node. node < length system.nodes) n nodes (h.0).inside (all-inside e system vars nodes subjects h.1)

-- a memory whose inequations were looked at again
abbrev pub with_difs : MemoryParts → Kept → MemoryParts
with_difs m difs = record m { difs = difs }

-- its inequations that wait are those that are open
abbrev pub AreLookedAt : MemoryParts → Kept → Type 0
AreLookedAt m difs = (added : List (ℕ × ℕ)) → IsKeeper m.difs m.system added → IsCurrent difs m.system added

module _ (m : MemoryParts) (difs : Kept) (looked : AreLookedAt m difs) (asked : List ℕ) (groups : List (List Alternative)) (goals : List Pending) (a : Alternative) (w : WritesAlternative asked m groups goals a) where
  open-told : OpenTold a.equations m.system w.vars a.differ (waiting_of difs)
  open-told = open_denoted a.equations m.system w.vars w.represents w.sound w.added (waiting_of difs) a.differ w.differ (looked w.added w.keeper).waiting

  asked-inside : All (λ node. node < length m.system.nodes) asked
  asked-inside = all-inside a.equations m.system w.vars asked (ask_variables (length asked)) w.asked_are

  difs-inside : All (ArePairsInside m.system) (waiting_of difs)
  difs-inside = let t = open-told in pairs-inside a.equations m.system w.vars (waiting_of difs) t.left t.denoted

  frozen-inside : All (ArePairsInside m.system) (waiting_pairs m.frozen)
  frozen-inside = pairs-inside a.equations m.system w.vars (waiting_pairs m.frozen) a.frozen w.frozen

  answer-is : (ask : Ask) → length ask.vars ≡ length asked → (answer : Answer) → IsAnswerGraph m.system (roots_of asked (waiting_of difs) (waiting_pairs m.frozen)) answer.canon
      → answer.vars ≡ length asked → answer.difs ≡ length (waiting_of difs) → answer.frozen ≡ length (waiting_pairs m.frozen) → IsAnswerOf ask a answer
  answer-is ask size answer graph vars count frozen =
      let t = open-told in
      record {
        differ = t.left;
        open_are = t.open_are;
        graph = subst (λ n. IsTermAnswer a.equations (answer_roots n t.left a.frozen) answer.canon) (sym size)
            (answer_denoted a.equations m.system w.vars w.represents (roots_of asked (waiting_of difs) (waiting_pairs m.frozen)) (answer_roots (length asked) t.left a.frozen)
            (roots_denoted a.equations m.system w.vars (length asked) asked (waiting_of difs) (waiting_pairs m.frozen) t.left a.frozen w.asked_are t.denoted w.frozen) answer.canon graph);
        vars = vars ∙ sym size;
        difs = count ∙ paired-size (DenotesPair a.equations m.system w.vars) (waiting_of difs) t.left t.denoted;
        frozen = frozen ∙ paired-size (DenotesPair a.equations m.system w.vars) (waiting_pairs m.frozen) a.frozen w.frozen;
      }

-- a memory that was looked at again, as it was said to be
module _ (old new : MemoryParts) (e : new ≡ with_difs old new.difs) where
  pub later-looked : IsAfter old.difs new.difs → IsLaterMemory old new
  later-looked later = subst (IsLaterMemory old) (sym e) (record {
    system = grows-refl old.system;
    difs = later;
    frozen = later-all old.frozen;
    more = omega arith;
    lists = take_all (length old.lists) old.lists (omega arith);
  })

  module _ (looked : AreLookedAt old new.difs) (asked : List ℕ) where
    pub inside-looked : (groups : List (List Alternative)) (goals : List Pending) (a : Alternative) → HoldsAlternative asked old groups goals a
        → All (λ node. node < length new.system.nodes) asked × All (ArePairsInside new.system) (waiting_of new.difs) × All (ArePairsInside new.system) (waiting_pairs new.frozen)
    inside-looked groups goals a h =
        subst (λ n. All (λ node. node < length n.system.nodes) asked × All (ArePairsInside n.system) (waiting_of new.difs) × All (ArePairsInside n.system) (waiting_pairs n.frozen)) (sym e)
        (asked-inside old new.difs looked asked groups goals a h.writes, difs-inside old new.difs looked asked groups goals a h.writes, frozen-inside old new.difs looked asked groups goals a h.writes)

    answer-told : (answer : Answer) → IsAnswerGraph new.system (roots_of asked (waiting_of new.difs) (waiting_pairs new.frozen)) answer.canon
        → answer.vars ≡ length asked → answer.difs ≡ length (waiting_of new.difs) → answer.frozen ≡ length (waiting_pairs new.frozen) → IsToldAnswer old asked answer
    answer-told answer graph vars difs frozen = λ ask groups goals a size h.
        answer-is old new.difs looked asked groups goals a h.writes ask size answer
        (subst (λ n. IsAnswerGraph n.system (roots_of asked (waiting_of new.difs) (waiting_pairs n.frozen)) answer.canon) e graph) vars difs (subst (λ n. answer.frozen ≡ length (waiting_pairs n.frozen)) e frozen)

    pub told-where-ok : (r : Result Answer NoMemory) → IfOk r (λ answer. IsAnswerGraph new.system (roots_of asked (waiting_of new.difs) (waiting_pairs new.frozen)) answer.canon)
        → IfOk r (λ answer. answer.vars ≡ length asked) → IfOk r (λ answer. answer.difs ≡ length (waiting_of new.difs)) → IfOk r (λ answer. answer.frozen ≡ length (waiting_pairs new.frozen))
        → IfOk r (λ answer. IsToldAnswer old asked answer)
    told-where-ok (Ok answer) graph vars difs frozen = answer-told answer graph vars difs frozen
    told-where-ok (Err error) graph vars difs frozen = tt
