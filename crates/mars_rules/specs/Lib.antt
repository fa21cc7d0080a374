-- Promised: lists of rules and their equality, the trees of terms, which rules a call may take, rules as templates, and
-- copies of rules.
pub mod BaseEquality
pub mod Candidates
pub mod FlatRules
pub mod Instances
pub mod PairedLists
pub mod RuleLists
pub mod TermTrees
-- Laws: that equality is equality of the rules and the version, and what a goal that takes a rule by matching says of all
-- solutions.
pub mod BaseEqualityLaws
pub mod TakenRules
-- Inside: the code's own steps, promised to nobody.
pub mod BaseInside
pub mod CopyingInside
pub mod LayingInside
pub mod PlacesInside
