-- Laws: what is known of a system is read off its one graph, by walks; and there is one answer.
use Rattle.std.specs.Prelude.{◌≡◌, ◌↔◌, ℕ, ◌<◌, List, length, map, All}
use Rattle.mars_tree.specs.Graph.{Node, IsNode}
use Rattle.mars_tree.specs.Canonical.{KeepsWalks}
use Rattle.mars_store.specs.System.{System, IsSystem, resolve, with_node}
use Rattle.mars_store.specs.Shown.{resolved}
use Rattle.mars_canon.specs.Canon.{Rooted, IsCanon}
use Rattle.mars_answer.specs.Walks.{ShowsKnown, AreKnownAlike, HaveAlikeTrees}
use Rattle.mars_answer.specs.Answer.{IsAnswerGraph}

-- the system's one graph shows all that is known of some nodes, from the ends of their links
abbrev pub WalksShown : Type 0
WalksShown = (system : System) → IsSystem system → (roots : List ℕ) → All (λ root. root < length system.nodes) roots
    → ShowsKnown system roots (resolved system) (map (resolve system.bound) roots)

-- a graph that keeps its walks shows the same
abbrev pub KnownKept : Type 0
KnownKept = (system : System) (roots : List ℕ) (g : List Node) (others : List ℕ) (h : List Node) (kept : List ℕ)
    → ShowsKnown system roots g others → KeepsWalks g others h kept → ShowsKnown system roots h kept

-- a canonical graph is the answer graph exactly where it shows all that is known
abbrev pub AnswerShows : Type 0
AnswerShows = (system : System) (roots : List ℕ) (c : Rooted) → IsCanon c → IsAnswerGraph system roots c ↔ ShowsKnown system roots c.nodes c.roots

-- a list of roots has an answer graph ..
abbrev pub ThereIsAnswer : Type 0
ThereIsAnswer = (system : System) → IsSystem system → (roots : List ℕ) → All (λ root. root < length system.nodes) roots → (c : Rooted) × IsAnswerGraph system roots c

-- .. and no other
abbrev pub OneAnswer : Type 0
OneAnswer = (system : System) (roots : List ℕ) (c d : Rooted) → IsAnswerGraph system roots c → IsAnswerGraph system roots d → c ≡ d

-- roots of two systems of which the same is known have the same answer graph
abbrev pub AnswerCarried : Type 0
AnswerCarried = (system : System) (roots : List ℕ) (another : System) (others : List ℕ) (c : Rooted) → AreKnownAlike system roots another others
    → IsAnswerGraph system roots c → IsAnswerGraph another others c

-- the same is known where solutions give the same trees ..
abbrev pub AlikeKnown : Type 0
AlikeKnown = (system : System) (roots : List ℕ) (another : System) (others : List ℕ) → HaveAlikeTrees system roots another others → AreKnownAlike system roots another others

-- .. as they do when a node is added
abbrev pub NodeAlike : Type 0
NodeAlike = (system : System) (node : Node) → IsSystem system → IsNode (length system.nodes) node
    → (roots : List ℕ) → All (λ root. root < length system.nodes) roots → HaveAlikeTrees system roots (with_node system node) roots
