-- Inside: what a rule base keeps beside its rules.
use Rattle.std.specs.Prelude.{◌≡◌, ℕ, min, List, Option, Some, None, All}
use Rattle.mars_rules.specs.PairedLists.{AllPaired}
use Rattle.std.specs.Global.{Vec}
use Rattle.mars_term.specs.Clauses.{IsRule}
use Rattle.mars_term.specs.declared.clause.Rule.{Rule}
use Rattle.mars_rules.specs.declared.flat.FlatRule.{FlatRule}
use Rattle.mars_rules.specs.declared.keys.HeadKey.{HeadKey}
use Rattle.mars_rules.specs.TermTrees.{label_of_term, arguments_of}
use Rattle.mars_rules.specs.Candidates.{label_of_first}
use Rattle.mars_rules.specs.FlatRules.{IsFlatRule}
use Rattle.mars_rules.specs.PlacesInside.{AreFiledPlaces}

-- the key of the head's label alone
pub record IsHeadKey (rule : Rule) (key : HeadKey) : Type 0 where
  pub label : label_of_term rule.head ≡ Some key.label
  pub first : key.first ≡ None

-- the key of the labels of the head and of its first argument
pub record IsFirstKey (rule : Rule) (key : HeadKey) : Type 0 where
  pub label : label_of_term rule.head ≡ Some key.label
  pub first : key.first ≡ label_of_first (arguments_of rule.head)

-- the rules' places are filed by the labels of their heads
pub record AreFiledHeads (rules : List Rule) (entries : List (HeadKey × Vec ℕ)) : Type 0 where
  pub keys : List HeadKey
  pub each : AllPaired IsHeadKey rules keys
  pub filed : AreFiledPlaces keys entries

-- the rules are well formed, each is laid out as nodes and has its key with the first argument's label, and their places
-- are filed by both kinds of keys
pub record IsBase (rules : List Rule) (flat : List FlatRule) (keys : List HeadKey) (heads firsts : List (HeadKey × Vec ℕ)) : Type 0 where
  pub rules_are : All IsRule rules
  pub flat_are : AllPaired IsFlatRule rules flat
  pub keys_are : AllPaired IsFirstKey rules keys
  pub heads_are : AreFiledHeads rules heads
  pub firsts_are : AreFiledPlaces keys firsts

-- the lesser of two places, either of which may be missing
abbrev pub earlier_of : Option ℕ → Option ℕ → Option ℕ
earlier_of None b = b
earlier_of (Some a) None = Some a
earlier_of (Some a) (Some b) = Some (min a b)
