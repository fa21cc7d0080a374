-- Nodes and their links as they are kept in cells.
use Rattle.std.proofs.Common.{◌≡◌, ℕ, ◌<◌, ◌+◌, List, [], ◌∷◌, ◌++◌, None, length, set, take, get_or, sym, ap, ◌∙◌, arith, All}
use Rattle.std.proofs.lemmas.List.{length-map, get_or-map, map-append, map-set, take-map}
use Rattle.std.proofs.lemmas.List.Elements.{All-weaker}
use Rattle.std.proofs.Math.Seq.{map-set_same}
use Rattle.mars_tree.specs.Graph.{IsGraph, label_of, arity_at}
use Rattle.mars_tree.specs.Stored.{IsLaid, nodes_of}
use Rattle.mars_tree.proofs.Laid.{seen-length, seen-label, seen-start, seen-push, laid-push, laid_like}
use Rattle.mars_tree.proofs.Cut.{laid-cut}
use Rattle.mars_store.specs.declared.nodes.Cell.{Cell}
use Rattle.mars_store.specs.CellsInside.{LinkedNodes, with_cell, labels_in, starts_in, links_in}

-- what cells and kids are seen as
abbrev pub seen_of : List Cell → List ℕ → LinkedNodes
seen_of cells kids = record { nodes = nodes_of (labels_in cells) kids; links = links_in cells }

pub same-linked : (a b : LinkedNodes) → a.nodes ≡ b.nodes → a.links ≡ b.links → a ≡ b
same-linked a b e f i = record { nodes = e i; links = f i }

pub nodes-seen : (cells : List Cell) (kids : List ℕ) (all : LinkedNodes) → seen_of cells kids ≡ all → nodes_of (labels_in cells) kids ≡ all.nodes
nodes-seen cells kids all view = ap (λ (a : LinkedNodes). a.nodes) view

pub links-seen : (cells : List Cell) (kids : List ℕ) (all : LinkedNodes) → seen_of cells kids ≡ all → links_in cells ≡ all.links
links-seen cells kids all view = ap (λ (a : LinkedNodes). a.links) view

-- as many nodes and links as cells
pub cells-nodes : (cells : List Cell) (kids : List ℕ) (all : LinkedNodes) → seen_of cells kids ≡ all → length cells ≡ length all.nodes
cells-nodes cells kids all view = sym (length-map cells (λ (cell : Cell). cell.label)) ∙ seen-length (labels_in cells) kids all.nodes (nodes-seen cells kids all view)

pub cells-links : (cells : List Cell) (kids : List ℕ) (all : LinkedNodes) → seen_of cells kids ≡ all → length cells ≡ length all.links
cells-links cells kids all view = sym (length-map cells (λ (cell : Cell). cell.link)) ∙ ap (λ (a : LinkedNodes). length a.links) view

-- what the cell of a node has
pub cell-label : (cells : List Cell) (kids : List ℕ) (all : LinkedNodes) (n : ℕ) (cell : Cell) → seen_of cells kids ≡ all → n < length cells → cell ≡ get_or cells n cell → cell.label ≡ label_of all.nodes n
cell-label cells kids all n cell view h read =
    ap (λ (c : Cell). c.label) read ∙ sym (get_or-map (λ (c : Cell). c.label) cells n cell None h) ∙ seen-label (labels_in cells) kids all.nodes n (nodes-seen cells kids all view)

pub cell-start : (cells : List Cell) (n : ℕ) (cell : Cell) → n < length cells → cell ≡ get_or cells n cell → cell.start ≡ get_or (starts_in cells) n cell.start
cell-start cells n cell h read = ap (λ (c : Cell). c.start) read ∙ sym (get_or-map (λ (c : Cell). c.start) cells n cell cell.start h)

pub cell-link : (cells : List Cell) (kids : List ℕ) (all : LinkedNodes) (n : ℕ) (cell : Cell) → seen_of cells kids ≡ all → n < length cells → cell ≡ get_or cells n cell → cell.link ≡ get_or all.links n cell.link
cell-link cells kids all n cell view h read =
    ap (λ (c : Cell). c.link) read ∙ sym (get_or-map (λ (c : Cell). c.link) cells n cell cell.link h) ∙ ap (λ (ls : List ℕ). get_or ls n cell.link) (links-seen cells kids all view)

-- one cell more
pub cells-push : (cells new : List Cell) (kids more next : List ℕ) (all : LinkedNodes) (cell : Cell) → IsLaid (labels_in cells) (starts_in cells) kids → seen_of cells kids ≡ all
    → new ≡ cells ++ cell ∷ [] → next ≡ kids ++ more → cell.start ≡ length kids → cell.link ≡ length cells → length more ≡ arity_at cell.label → All (λ kid. kid < length all.nodes) more
    → IsLaid (labels_in new) (starts_in new) next × (seen_of new next ≡ with_cell all (record { label = cell.label; kids = more }))
cells-push cells new kids more next all cell laid view put kept start link arity inside = (
  laid_like _ _ _ _ _ _ labels starts kept
      (laid-push (labels_in cells) (starts_in cells) kids cell.label more laid arity
      (All-weaker (λ kid. kid < length all.nodes) (λ kid. kid < length (labels_in cells) + 1) (λ kid h. omega (arith, size, h)) more inside)),
  same-linked (seen_of new next) (with_cell all (record { label = cell.label; kids = more }))
      (ap (λ ls. nodes_of ls next) labels ∙ ap (nodes_of (labels_in cells ++ cell.label ∷ [])) kept
      ∙ seen-push (labels_in cells) (starts_in cells) kids all.nodes cell.label more laid (nodes-seen cells kids all view) arity)
      (ap links_in put ∙ map-append (λ (c : Cell). c.link) cells (cell ∷ []) ∙ ap (λ (n : ℕ). links_in cells ++ n ∷ []) (link ∙ cells-links cells kids all view)
      ∙ ap (λ (ls : List ℕ). ls ++ length all.links ∷ []) (links-seen cells kids all view)),
)
  where
    labels : labels_in new ≡ labels_in cells ++ cell.label ∷ []
    labels = ap labels_in put ∙ map-append (λ (c : Cell). c.label) cells (cell ∷ [])

    starts : starts_in new ≡ starts_in cells ++ length kids ∷ []
    starts = ap starts_in put ∙ map-append (λ (c : Cell). c.start) cells (cell ∷ []) ∙ ap (λ (n : ℕ). starts_in cells ++ n ∷ []) start

    size : length (labels_in cells) ≡ length all.nodes
    size = seen-length (labels_in cells) kids all.nodes (nodes-seen cells kids all view)

-- another link
pub cells-set : (cells : List Cell) (kids : List ℕ) (all : LinkedNodes) (n to : ℕ) (cell : Cell) → IsLaid (labels_in cells) (starts_in cells) kids → seen_of cells kids ≡ all → n < length cells → cell ≡ get_or cells n cell
    → (new : List Cell) → new ≡ set cells n (record { label = cell.label; start = cell.start; link = to })
    → IsLaid (labels_in new) (starts_in new) kids × (nodes_of (labels_in new) kids ≡ all.nodes) × (links_in new ≡ set all.links n to)
cells-set cells kids all n to cell laid view h read new put = (
  laid_like _ _ _ _ _ _ labels starts (λ i. kids) laid,
  ap (λ ls. nodes_of ls kids) labels ∙ nodes-seen cells kids all view,
  ap links_in put ∙ map-set (λ (c : Cell). c.link) cells n other ∙ ap (λ (ls : List ℕ). set ls n to) (links-seen cells kids all view),
)
  where
    other : Cell
    other = record { label = cell.label; start = cell.start; link = to }

    labels : labels_in new ≡ labels_in cells
    labels = ap labels_in put ∙ map-set_same (λ (c : Cell). c.label) cells n other cell (ap (λ (c : Cell). c.label) read)

    starts : starts_in new ≡ starts_in cells
    starts = ap starts_in put ∙ map-set_same (λ (c : Cell). c.start) cells n other cell (ap (λ (c : Cell). c.start) read)

-- the first cells
pub cells-cut : (cells new : List Cell) (kids next : List ℕ) (all : LinkedNodes) (n : ℕ) (cell : Cell) → IsLaid (labels_in cells) (starts_in cells) kids → seen_of cells kids ≡ all
    → n < length cells → IsGraph (take n all.nodes) → cell ≡ get_or cells n cell → new ≡ take n cells → next ≡ take cell.start kids
    → IsLaid (labels_in new) (starts_in new) next × (seen_of new next ≡ record { nodes = take n all.nodes; links = take n all.links })
cells-cut cells new kids next all n cell laid view h graph read put kept =
    let within : n < length all.nodes = omega (arith, cells-nodes cells kids all view) in
    let nodes = nodes-seen cells kids all view in
    let start = seen-start (labels_in cells) (starts_in cells) kids all.nodes n cell.start laid nodes within (cell-start cells n cell h read) in
    let cut =
    laid-cut (labels_in cells) (labels_in new) (starts_in cells) (starts_in new) kids next all.nodes n cell.start laid nodes (omega arith) graph start
    (ap labels_in put ∙ sym (take-map (λ (c : Cell). c.label) n cells)) (ap starts_in put ∙ sym (take-map (λ (c : Cell). c.start) n cells)) kept in (
      cut.0,
      same-linked (seen_of new next) (record { nodes = take n all.nodes; links = take n all.links }) cut.1
          (ap links_in put ∙ sym (take-map (λ (c : Cell). c.link) n cells) ∙ ap (take n) (links-seen cells kids all view)),
    )
