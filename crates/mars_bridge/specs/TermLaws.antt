-- Laws: the tree of a term is told by the trees of the variables and kept names that it has.
use Rattle.std.specs.Prelude.{◌≡◌, ℕ, List, All}
use Rattle.mars_term.specs.declared.term.Term.{Term}
use Rattle.mars_term.specs.Parts.{parts_of, number_of_var, number_of_kept}
use Rattle.mars_matching.specs.Trees.{Trees}
use Rattle.mars_rules.specs.TermTrees.{tree_of_term}

-- a variable or a kept name has the same tree in both
pub record IsAlike (vars others kept most : Trees) (part : Term) : Type 0 where
  pub vars_are : All (λ x. (path : List ℕ) → vars x path ≡ others x path) (number_of_var part)
  pub kept_are : All (λ k. (path : List ℕ) → kept k path ≡ most k path) (number_of_kept part)

-- terms show the same where their variables and kept names do
abbrev pub AlikeTermsSame : Type 0
AlikeTermsSame = (vars others kept most : Trees) (path : List ℕ) (term : Term) → All (IsAlike vars others kept most) (parts_of term)
    → tree_of_term vars kept term path ≡ tree_of_term others most term path
