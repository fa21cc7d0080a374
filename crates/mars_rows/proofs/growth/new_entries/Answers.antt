use Rattle.std.proofs.Common.{◌≡◌, ℕ, ◌<◌, ◌+◌, ◌^◌, ◌++◌, List, length, map, All, subst, sym, ap, ◌∙◌}
use Rattle.std.specs.List.{range_with_len}
use Rattle.std.proofs.lemmas.List.{length-map}
use Rattle.std.proofs.lemmas.List.FromFn.{length-range_with_len}
use Rattle.mars_base.proofs.ListFacts.{All-get}
use Rattle.mars_rows.specs.IndexInside.{AreMade}
use Rattle.mars_rows.specs.Object.{fresh_before, row_number}
use Rattle.mars_rows.specs.RowsInside.{rows_of}
use Rattle.mars_rows.specs.StockInside.{number_of_node}
use Rattle.mars_rows.proofs.Grows.{places_in, places_few, grown_index}
use Rattle.mars_rows.proofs.LookedUp.{tree_parted}
use Rattle.mars_rows.proofs.growth.new_entries.Goals as goal

pub names_at-requires : goal.names_at-requires
names_at-requires c =
    let q = c.requires in
    let g = c.args.stock.now.nodes in
    let ns = c.args.stock.now.numbers.items in
    subst (λ (xs : List ℕ). All (λ place. c.args.next + place < length xs + 2 ^ 128) c.deref-2.result.now) (sym c.deref.ensures.value)
    (subst (All (λ place. c.args.next + place < length ns + 2 ^ 128)) (sym c.deref-2.ensures.value) (places_few g ns q.stock c.args.tree.now q.tree c.args.numbered.now.numbers.items q.numbers c.args.next q.enough))

pub entries_of-requires-clause-parted : goal.entries_of-requires-clause-parted
entries_of-requires-clause-parted c = tree_parted c.args.tree.now c.args.numbered.now.parts c.requires.tree c.requires.parts

pub entries_of-requires-clause-names : goal.entries_of-requires-clause-names
entries_of-requires-clause-names c =
    let q = c.requires in
    let g = c.args.stock.now.nodes in
    let ns = c.args.stock.now.numbers.items in
    let tree = c.args.tree.now in
    let places = c.args.numbered.now.numbers.items in
    let count : ℕ = fresh_before (rows_of g) tree (length tree) in
    let all : All (λ place. place < length c.deref.result.now + count) c.deref-2.result.now =
    subst (λ (xs : List ℕ). All (λ place. place < length xs + count) c.deref-2.result.now) (sym c.deref.ensures.value)
    (subst (All (λ place. place < length ns + count)) (sym c.deref-2.ensures.value) (places_in g ns q.stock tree q.tree places q.numbers)) in
    let names = c.in_ok-names.ensures count all in
    ap length c.deref-4.ensures.value ∙ ap length names ∙ length-map c.deref-2.result.now (number_of_node (c.deref.result.now ++ range_with_len c.args.next count))
    ∙ ap length c.deref-2.ensures.value ∙ ap length q.numbers ∙ length-map (range_with_len 0 (length tree)) (row_number (rows_of g) (length g) tree) ∙ length-range_with_len 0 (length tree)

pub returns : goal.returns
returns c index leads =
    let q = c.requires in
    let g = c.args.stock.now.nodes in
    let ns = c.args.stock.now.numbers.items in
    let tree = c.args.tree.now in
    let numbered = c.args.numbered.now in
    let places = numbered.numbers.items in
    let missed = numbered.missed.items in
    let entries = c.in_ok-entries.entries.items in
    let count : ℕ = fresh_before (rows_of g) tree (length tree) in
    let all : All (λ place. place < length c.deref.result.now + count) c.deref-2.result.now =
    subst (λ (xs : List ℕ). All (λ place. place < length xs + count) c.deref-2.result.now) (sym c.deref.ensures.value)
    (subst (All (λ place. place < length ns + count)) (sym c.deref-2.ensures.value) (places_in g ns q.stock tree q.tree places q.numbers)) in
    let names : c.in_ok-names.names.items ≡ map (number_of_node (ns ++ range_with_len c.args.next count)) places =
    c.in_ok-names.ensures count all ∙ ap (λ xs. map (number_of_node (xs ++ range_with_len c.args.next count)) c.deref-2.result.now) c.deref.ensures.value
    ∙ ap (map (number_of_node (ns ++ range_with_len c.args.next count))) c.deref-2.ensures.value in
    let made : AreMade tree numbered.parts c.in_ok-names.names.items missed entries =
    subst (λ (xs : List ℕ). AreMade tree numbered.parts xs missed entries) c.deref-4.ensures.value
    (subst (λ (xs : List ℕ). AreMade tree numbered.parts c.deref-4.result.now xs entries) c.deref-3.ensures.value c.in_ok-entries.ensures) in
    grown_index g ns q.stock tree q.tree c.args.next q.below places c.in_ok-names.names.items q.numbers names numbered.parts missed q.parts q.missing
    (λ k m e. All-get (λ m. m < length tree) missed k m q.missed_in e) c.args.stock.now.index.entries q.index entries made index leads
