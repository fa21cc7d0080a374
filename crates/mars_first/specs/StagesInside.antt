-- Stages: the nodes at the ends of paths, one node for each class of nodes that are taken for one.
use Rattle.std.specs.Prelude.{◌≡◌, ◌≢◌, ◌⊎◌, ℕ, ◌<◌, ◌≤◌, ◌+◌, ◌-◌, ◌*◌, List, [], ◌∷◌, ◌++◌, length, Some, None, slice_get, Contains}
use Rattle.std.specs.List.{sum_by}
use Rattle.mars_first.specs.First.{IsBefore}
use Rattle.mars_first.specs.LinksInside.{link_of, IsFalling, total_of_links, AreSeveral, AreOne}
use Rattle.mars_first.specs.PlacesInside.{kids_of_place, number_at, number_along}
use Rattle.mars_first.specs.declared.places.Places.{Places}
use Rattle.mars_first.specs.declared.links.Classes.{Classes}
use Rattle.mars_first.specs.declared.stages.Stage.{Stage}
use Rattle.mars_first.specs.declared.stages.Search.{Search}

-- kids at one place: none from both, or one from each, of which something holds
pub data KidsAt (kids : ℕ → List ℕ) (P : ℕ → Type 0) (a b k : ℕ) : Type 0 where
  no_kid : slice_get (kids a) k ≡ None → slice_get (kids b) k ≡ None → KidsAt kids P a b k
  both : (x y : ℕ) → slice_get (kids a) k ≡ Some x → slice_get (kids b) k ≡ Some y → P x → P y → KidsAt kids P a b k

-- nodes that links join whose paths have a bound
pub data Chain (Link : List ℕ → ℕ → ℕ → Type 0) (Bound : List ℕ → Type 0) : ℕ → ℕ → Type 0 where
  itself : (x : ℕ) → Chain Link Bound x x
  linked : (x y z : ℕ) (p : List ℕ) → Bound p → Link p x y ⊎ Link p y x → Chain Link Bound y z → Chain Link Bound x z

-- a stage has the path and the node
pub record InStage (paths : List (List ℕ)) (stages : List Stage) (path : List ℕ) (node : ℕ) : Type 0 where
  pub place : ℕ
  pub stage : Stage
  pub here : slice_get stages place ≡ Some stage
  pub path_here : slice_get paths place ≡ Some path
  pub among : Contains stage.nodes.items node

-- two heads of a stage's classes, where these are several
pub record AreJoined (paths : List (List ℕ)) (classes : List Classes) (path : List ℕ) (a b : ℕ) : Type 0 where
  pub place : ℕ
  pub of_stage : Classes
  pub here : slice_get classes place ≡ Some of_stage
  pub path_here : slice_get paths place ≡ Some path
  pub several : AreSeveral of_stage.heads.items
  pub left : Contains of_stage.heads.items a
  pub right : Contains of_stage.heads.items b

-- the class of a stage's node, by joins of stages before it
pub record IsOfClass (paths : List (List ℕ)) (classes : List Classes) (path : List ℕ) (c : Classes) (j node : ℕ) : Type 0 where
  pub slot : ℕ
  pub head : ℕ
  pub at : slice_get c.slots.items j ≡ Some slot
  pub there : slice_get c.heads.items slot ≡ Some head
  pub chain : Chain (AreJoined paths classes) (λ p. IsBefore p path) node head

-- a stage that is done: one row, classes, and where these are several, the kids of their heads are in stages
pub record IsDone (s : Places) (paths : List (List ℕ)) (stages : List Stage) (classes : List Classes) (stage : Stage) (c : Classes) (path : List ℕ) : Type 0 where
  pub level : (x y : ℕ) → Contains stage.nodes.items x → Contains stage.nodes.items y → number_at s x ≡ number_at s y
  pub count : length c.slots.items ≡ length stage.nodes.items
  pub class : (j node : ℕ) → slice_get stage.nodes.items j ≡ Some node → IsOfClass paths classes path c j node
  pub node : (k head : ℕ) → slice_get c.heads.items k ≡ Some head → (j : ℕ) × (slice_get c.slots.items j ≡ Some k)
  pub kids : AreOne c.heads.items ⊎ ((a b k : ℕ) → Contains c.heads.items a → Contains c.heads.items b → KidsAt (kids_of_place s) (InStage paths stages (path ++ k ∷ [])) a b k)

-- the kids with one number of nodes, in their order
pub record AreKids (s : Places) (kid : ℕ) (nodes kids : List ℕ) : Type 0 where
  pub count : length kids ≡ length nodes
  pub each : (l x : ℕ) → slice_get nodes l ≡ Some x → (y : ℕ) × (slice_get (kids_of_place s x) kid ≡ Some y) × (slice_get kids l ≡ Some y)

-- a stage that comes from another has the kids of the heads of that one's classes
pub record IsFrom (s : Places) (paths : List (List ℕ)) (classes : List Classes) (i : ℕ) (stage : Stage) (path : List ℕ) : Type 0 where
  pub front : List ℕ
  pub of_front : Classes
  pub before : stage.from < i
  pub front_here : slice_get paths stage.from ≡ Some front
  pub classes_here : slice_get classes stage.from ≡ Some of_front
  pub is_path : path ≡ front ++ stage.kid ∷ []
  pub kids : AreKids s stage.kid of_front.heads.items stage.nodes.items

-- stages in the order of their paths, of which so many are done as there are classes
pub record IsPathSearch (s : Places) (stages : List Stage) (classes : List Classes) (links : List ℕ) : Type 0 where
  pub paths : List (List ℕ)
  pub sizes : length paths ≡ length stages
  pub count : length classes ≤ length stages
  pub root_path : slice_get paths 0 ≡ Some []
  pub rise : (i j : ℕ) (p q : List ℕ) → i < j → slice_get paths i ≡ Some p → slice_get paths j ≡ Some q → IsBefore p q
  pub nodes_in : (i k x : ℕ) (stage : Stage) → slice_get stages i ≡ Some stage → slice_get stage.nodes.items k ≡ Some x → x < length s.numbers.items
  pub some : (i : ℕ) (stage : Stage) → slice_get stages i ≡ Some stage → 0 < length stage.nodes.items
  pub from : (i : ℕ) (stage : Stage) (path : List ℕ) → 0 < i → slice_get stages i ≡ Some stage → slice_get paths i ≡ Some path → IsFrom s paths classes i stage path
  pub done : (i : ℕ) (c : Classes) (stage : Stage) (path : List ℕ) → slice_get classes i ≡ Some c → slice_get stages i ≡ Some stage → slice_get paths i ≡ Some path → IsDone s paths stages classes stage c path
  pub size : length links ≡ length s.numbers.items
  pub falling : IsFalling links
  pub chains : (x : ℕ) → x < length links → Chain (AreJoined paths classes) (λ p. Unit {0}) x (link_of links x)
  pub numbers : (x : ℕ) → x < length links → number_at s (link_of links x) ≡ number_at s x

-- all places have one number, or two differ
abbrev pub AreLevel : Places → List ℕ → Type 0
AreLevel s nodes = (x y : ℕ) → Contains nodes x → Contains nodes y → number_at s x ≡ number_at s y

abbrev pub AreUneven : Places → List ℕ → Type 0
AreUneven s nodes = (j k x y : ℕ) × (slice_get nodes j ≡ Some x) × (slice_get nodes k ≡ Some y) × (number_at s x ≢ number_at s y)

-- what holds between the steps of a search
abbrev pub IsSearchOf : Places → Search → Type 0
IsSearchOf s search = IsPathSearch s search.stages.items search.classes.items search.links.items × (length search.marks.items ≡ length s.numbers.items)

-- falls with each stage that is done: a join lowers the links, and brings at most as many stages as there are kids
abbrev pub all_kids_at : Places → ℕ
all_kids_at s = sum_by (λ v. length v.items) s.kids.items

abbrev pub search_work : ℕ → ℕ → ℕ → ℕ → ℕ
search_work kids links stages classes = links * (kids + 1) + (stages - classes)

abbrev pub work_of : Places → Search → ℕ
work_of s search = search_work (all_kids_at s) (total_of_links search.links.items) (length search.stages.items) (length search.classes.items)

-- the stage of the kids with one number of heads
pub record IsKidStage (s : Places) (from kid : ℕ) (heads : List ℕ) (stage : Stage) : Type 0 where
  pub from_is : stage.from ≡ from
  pub kid_is : stage.kid ≡ kid
  pub kids : AreKids s kid heads stage.nodes.items

abbrev pub AreKidStages : Places → ℕ → List ℕ → List Stage → Type 0
AreKidStages s from heads some = (k : ℕ) (stage : Stage) → slice_get some k ≡ Some stage → IsKidStage s from k heads stage

-- the stages of the kids of heads go last
pub record HasKidStages (s : Places) (from : ℕ) (heads : List ℕ) (count : ℕ) (old new : List Stage) : Type 0 where
  pub some : List Stage
  pub parts : new ≡ old ++ some
  pub size : length some ≡ count
  pub are : AreKidStages s from heads some

-- slots lead from a node of a stage to one of the last stage
pub data Trace (stages : List Stage) (classes : List Classes) (last : ℕ) : ℕ → ℕ → ℕ → Type 0 where
  ends : (i j node : ℕ) (stage : Stage) → i ≡ last → slice_get stages last ≡ Some stage → slice_get stage.nodes.items j ≡ Some node → Trace stages classes last i j node
  back : (from i j slot node : ℕ) (stage : Stage) (c : Classes) → stage.from ≡ from → 0 < i → slice_get stages i ≡ Some stage → slice_get classes from ≡ Some c → slice_get c.slots.items j ≡ Some slot →
      Trace stages classes last i slot node → Trace stages classes last from j node

-- the row at the end of the traces of nodes
pub record HasTrace (s : Places) (stages : List Stage) (classes : List Classes) (last i j : ℕ) (rows : List ℕ) : Type 0 where
  pub node : ℕ
  pub trace : Trace stages classes last i j node
  pub row : slice_get rows j ≡ Some (number_at s node)

pub record AreTraced (s : Places) (stages : List Stage) (classes : List Classes) (last i : ℕ) (rows : List ℕ) : Type 0 where
  pub count : (stage : Stage) → slice_get stages i ≡ Some stage → length rows ≡ length stage.nodes.items
  pub each : (j : ℕ) → j < length rows → HasTrace s stages classes last i j rows

-- the numbers of the rows of candidates at the end of the first path at which they differ
pub record AreRowsApart (s : Places) (candidates rows : List ℕ) : Type 0 where
  pub path : List ℕ
  pub count : length rows ≡ length candidates
  pub at_path : (j a : ℕ) → slice_get candidates j ≡ Some a → number_along s a path ≡ slice_get rows j
  pub differ : (j k x y : ℕ) × (slice_get rows j ≡ Some x) × (slice_get rows k ≡ Some y) × (x ≢ y)
  pub alike : (q : List ℕ) → IsBefore q path → (a b : ℕ) → Contains candidates a → Contains candidates b → number_along s a q ≡ number_along s b q

-- candidates that no path tells apart
abbrev pub NeverDiffer : Places → List ℕ → Type 0
NeverDiffer s candidates = (q : List ℕ) (a b : ℕ) → Contains candidates a → Contains candidates b → number_along s a q ≡ number_along s b q

-- each link leads to its own place
pub record AreOwn (count : ℕ) (links : List ℕ) : Type 0 where
  pub size : length links ≡ count
  pub own : (x y : ℕ) → slice_get links x ≡ Some y → y ≡ x

-- the one stage of candidates
pub record IsFirstStage (candidates : List ℕ) (stages : List Stage) : Type 0 where
  pub stage : Stage
  pub is : stages ≡ stage ∷ []
  pub nodes : stage.nodes.items ≡ candidates

-- the first stage has the candidates
abbrev pub IsRooted : List ℕ → Search → Type 0
IsRooted candidates search = (stage : Stage) × (slice_get search.stages.items 0 ≡ Some stage) × (stage.nodes.items ≡ candidates)
