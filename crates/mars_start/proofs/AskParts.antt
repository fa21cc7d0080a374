-- The parts of an ask that is well formed.
use Rattle.std.proofs.Common.{ℕ, ◌+◌, ◌<◌, ◌≤◌, max, List, [], ◌∷◌, length, All, arith}
use Rattle.std.specs.List.{AllByRecursion, flat_map}
use Rattle.std.proofs.lemmas.List.Elements.{All-from_recursion, All-cons, All-nil, All-head, All-tail}
use Rattle.mars_term.specs.declared.term.Term.{Term}
use Rattle.mars_term.specs.declared.clause.Ask.{Ask}
use Rattle.mars_term.specs.Parts.{vars_of, kept_of, number_of_var, number_of_kept, HasShortList}
use Rattle.mars_term.specs.Clauses.{NumberedByAppearance, IsAsk, parts_of_goal, parts_of_goals}
use Rattle.mars_rules.proofs.RuleParts.{all-before, all-after}
use Rattle.mars_start.specs.WritingInside.{IsAskPart}

-- numbers that go by first appearance are below the number of those that are known at last
numbered-below : (next total : ℕ) (ns : List ℕ) → NumberedByAppearance next total ns → (next ≤ total) × All (λ n. n < total) ns
numbered-below next total [] e = (omega arith, All-nil (λ n. n < total))
numbered-below next total (n ∷ ns) h =
    let rest = numbered-below (max next (n + 1)) total ns h.1 in
    let most = rest.0 in
    (omega arith, All-cons (λ n. n < total) n ns (omega arith) rest.1)

parts-are : (vars kept : ℕ) (parts : List Term) → All (λ number. number < vars) (vars_of parts) → All (λ number. number < kept) (kept_of parts) → All HasShortList parts → AllByRecursion (IsAskPart vars kept) parts
parts-are vars kept [] known known_kept short = tt
parts-are vars kept (part ∷ parts) known known_kept short = (
  record {
    known = all-before (λ number. number < vars) (number_of_var part) (vars_of parts) known;
    known_kept = all-before (λ number. number < kept) (number_of_kept part) (kept_of parts) known_kept;
    short = All-head HasShortList part parts short;
  },
  parts-are vars kept parts (all-after (λ number. number < vars) (number_of_var part) (vars_of parts) known) (all-after (λ number. number < kept) (number_of_kept part) (kept_of parts) known_kept)
      (All-tail HasShortList part parts short),
)

pub ask-parts : (ask : Ask) → IsAsk ask → All (IsAskPart (length ask.vars) (length ask.kept)) (flat_map parts_of_goal ask.goals)
ask-parts ask is =
    All-from_recursion (IsAskPart (length ask.vars) (length ask.kept)) (parts_of_goals ask.goals)
    (parts-are (length ask.vars) (length ask.kept) (parts_of_goals ask.goals) (numbered-below 0 (length ask.vars) (vars_of (parts_of_goals ask.goals)) is.numbered).1 is.kept is.short)
