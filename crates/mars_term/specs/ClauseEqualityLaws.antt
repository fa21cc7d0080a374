-- That the tests of goals, rules and asks decide equality, and the laws of the comparisons and hashes.
use Rattle.std.specs.Prelude.{◌≡◌, ℕ, List, true, Option, Some, None, ◌&&◌, nat_eq, refl}
use Rattle.std.proofs.Common.{ap}
use Rattle.std.specs.Bool.{Decides}
use Rattle.std.specs.Cmp.{unsigned_Decides, IsEquivalence, IsPartialEquivalence, partial_equiv_from_equiv}
use Rattle.std.specs.Option.{option_eq}
use Rattle.std.specs.Cmp.Lexicographic.{pointwise, pointwise_decides}
use Rattle.mars_base.proofs.Deciding.{both, joined}
use Rattle.mars_tree.specs.declared.label.NameId.{NameId}
use Rattle.mars_tree.specs.EqualityLaws.{equivalence_from_decides}
use Rattle.mars_term.specs.declared.clause.Goal.{Goal}
use Rattle.mars_term.specs.declared.clause.Goal.TheVariants.{Call, Cut}
use Rattle.mars_term.specs.declared.clause.Rule.{Rule}
use Rattle.mars_term.specs.declared.clause.Ask.{Ask}
use Rattle.mars_term.specs.TermEquality.{same_name, same_term}
use Rattle.mars_term.specs.TermEqualityLaws.{name_decides, term_decides}
use Rattle.mars_term.specs.ClauseEquality.{same_goal, same_rule, same_ask, rule_writes, ask_writes}

pub goal_decides : (goal other : Goal) → Decides (same_goal goal other) (goal ≡ other)
goal_decides (Call t) (Call u) = (λ e. ap Call ((term_decides t u).0 e), λ e. let one : t ≡ u = cc in (term_decides t u).1 one)
goal_decides (Call t) Cut = (λ e. cc, λ e. cc)
goal_decides Cut (Call u) = (λ e. cc, λ e. cc)
goal_decides Cut Cut = (λ e. refl, λ e. refl)

goals_decide : (goals others : List Goal) → Decides (pointwise same_goal goals others) (goals ≡ others)
goals_decide = pointwise_decides goal_decides

names_are : (names others : List NameId) → Decides (pointwise same_name names others) (names ≡ others)
names_are = pointwise_decides name_decides

most_decides : (most other : Option ℕ) → Decides (option_eq nat_eq most other) (most ≡ other)
most_decides None None = (λ e. refl, λ e. refl)
most_decides (Some n) (Some m) = (λ e. ap Some ((unsigned_Decides n m).0 e), λ e. let one : n ≡ m = cc in (unsigned_Decides n m).1 one)
most_decides None (Some m) = (λ e. cc, λ e. cc)
most_decides (Some n) None = (λ e. cc, λ e. cc)

one_rule : (r s : Rule) → r.head ≡ s.head → r.body ≡ s.body → r.vars ≡ s.vars → r ≡ s
one_rule r s e f g i = record { head = e i; body = f i; vars = g i }

pub rule_decides : (r s : Rule) → Decides (same_rule r s) (r ≡ s)
rule_decides r s =
    let bodies = pointwise same_goal r.body s.body in
    let vars = nat_eq r.vars s.vars in (
      λ e. let t = both (same_term r.head s.head) (bodies && vars) e in
          let u = both bodies vars t.1 in
          one_rule r s ((term_decides r.head s.head).0 t.0) ((goals_decide r.body s.body).0 u.0) ((unsigned_Decides r.vars s.vars).0 u.1),
      λ e. joined (same_term r.head s.head) (bodies && vars) ((term_decides r.head s.head).1 (ap (λ (t : Rule). t.head) e))
          (joined bodies vars ((goals_decide r.body s.body).1 (ap (λ (t : Rule). t.body) e)) ((unsigned_Decides r.vars s.vars).1 (ap (λ (t : Rule). t.vars) e))),
    )

pub rules_equivalence : IsEquivalence same_rule
rules_equivalence = equivalence_from_decides same_rule rule_decides

pub rules_partial_equivalence : IsPartialEquivalence same_rule
rules_partial_equivalence = partial_equiv_from_equiv rules_equivalence

pub rules_alike : (r s : Rule) → same_rule r s ≡ true → rule_writes r ≡ rule_writes s
rules_alike r s e = ap rule_writes ((rule_decides r s).0 e)

one_ask : (a b : Ask) → a.most ≡ b.most → a.goals ≡ b.goals → a.vars ≡ b.vars → a.kept ≡ b.kept → a ≡ b
one_ask a b e f g h i = record { most = e i; goals = f i; vars = g i; kept = h i }

pub ask_decides : (a b : Ask) → Decides (same_ask a b) (a ≡ b)
ask_decides a b =
    let most = option_eq nat_eq a.most b.most in
    let goals = pointwise same_goal a.goals b.goals in
    let vars = pointwise same_name a.vars b.vars in
    let kept = pointwise same_name a.kept b.kept in (
      λ e. let t = both most (goals && (vars && kept)) e in
          let u = both goals (vars && kept) t.1 in
          let v = both vars kept u.1 in
          one_ask a b ((most_decides a.most b.most).0 t.0) ((goals_decide a.goals b.goals).0 u.0) ((names_are a.vars b.vars).0 v.0) ((names_are a.kept b.kept).0 v.1),
      λ e. joined most (goals && (vars && kept)) ((most_decides a.most b.most).1 (ap (λ (x : Ask). x.most) e))
          (joined goals (vars && kept) ((goals_decide a.goals b.goals).1 (ap (λ (x : Ask). x.goals) e))
          (joined vars kept ((names_are a.vars b.vars).1 (ap (λ (x : Ask). x.vars) e)) ((names_are a.kept b.kept).1 (ap (λ (x : Ask). x.kept) e)))),
    )

pub asks_equivalence : IsEquivalence same_ask
asks_equivalence = equivalence_from_decides same_ask ask_decides

pub asks_partial_equivalence : IsPartialEquivalence same_ask
asks_partial_equivalence = partial_equiv_from_equiv asks_equivalence

pub asks_alike : (a b : Ask) → same_ask a b ≡ true → ask_writes a ≡ ask_writes b
asks_alike a b e = ap ask_writes ((ask_decides a b).0 e)
