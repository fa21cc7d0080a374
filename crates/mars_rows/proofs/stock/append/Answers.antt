use Rattle.std.proofs.Common.{◌≡◌, ℕ, ◌<◌, ◌+◌, List, length, vec_len, All, Contains, sym, ap, subst, ◌∙◌, ◌++◌, arith, rules, Some}
use Rattle.std.specs.List.{range_with_len}
use Rattle.std.proofs.lemmas.List.{get_or_read}
use Rattle.std.proofs.lemmas.Option.{slice_get-get_or}
use Rattle.mars_base.proofs.ListFacts.{All-from_gets, Contains-get, get-append}
use Rattle.mars_tree.specs.Renumbered.{renumbered, HaveKids, KidsFit}
use Rattle.mars_rows.specs.FreshInside.{at_places}
use Rattle.mars_rows.specs.Object.{fresh_before, row_number}
use Rattle.mars_rows.specs.RowsInside.{rows_of}
use Rattle.mars_rows.specs.StockInside.{number_of_node, stock_rows, IsStock}
use Rattle.mars_rows.proofs.Grown.{number_in, fresh_within}
use Rattle.mars_rows.proofs.Stocked.{fresh_stock, stock_grown, number_grown, is_grown, below_grown}
use Rattle.mars_rows.proofs.TreeFacts.{tree_some}
use Rattle.mars_rows.proofs.WithFresh.{HasGrown, numbers_size, root_number, has_grown, fresh_below, fresh_have_kids, fresh_kids_fit, fresh_count}
use Rattle.mars_rows.proofs.stock.append.Goals as goal

pub append_renumbered-requires-clause-nodes_in : goal.append_renumbered-requires-clause-nodes_in
append_renumbered-requires-clause-nodes_in c =
    let g = c.args.stock.now.nodes in
    let ns = c.args.stock.now.numbers.items in
    let tree = c.args.tree.now in
    let n = c.args.numbered.now in
    let q = c.requires in
    let s = q.stock in
    let is : c.deref.result.now ≡ n.fresh.items = c.deref.ensures.value in
    subst (λ (xs : List ℕ). All (λ k. k < length tree) xs) (sym is) (fresh_below g tree n.numbers.items n.fresh.items s.graph s.labels s.apart q.tree q.numbers q.fresh)

pub append_renumbered-requires-clause-numbered : goal.append_renumbered-requires-clause-numbered
append_renumbered-requires-clause-numbered c =
    let g = c.args.stock.now.nodes in
    let ns = c.args.stock.now.numbers.items in
    let tree = c.args.tree.now in
    let n = c.args.numbered.now in
    let q = c.requires in
    let s = q.stock in
    let is : c.deref.result.now ≡ n.fresh.items = c.deref.ensures.value in
    subst (λ (xs : List ℕ). HaveKids (λ k. k < length n.numbers.items) tree xs) (sym is) (fresh_have_kids g tree n.numbers.items n.fresh.items s.graph s.labels s.apart q.tree q.numbers q.fresh)

pub append_renumbered-requires-clause-fits : goal.append_renumbered-requires-clause-fits
append_renumbered-requires-clause-fits c =
    let g = c.args.stock.now.nodes in
    let ns = c.args.stock.now.numbers.items in
    let tree = c.args.tree.now in
    let n = c.args.numbered.now in
    let q = c.requires in
    let s = q.stock in
    let is : c.deref.result.now ≡ n.fresh.items = c.deref.ensures.value in
    let count : length g + length c.deref.result.now ≡ length g + length n.fresh.items = omega (arith, ap length is) in
    subst (λ (k : ℕ). KidsFit tree (at_places n.numbers.items) k c.deref.result.now) (sym count)
    (subst (λ (xs : List ℕ). KidsFit tree (at_places n.numbers.items) (length g + length n.fresh.items) xs) (sym is) (fresh_kids_fit g tree n.numbers.items n.fresh.items s.graph s.labels s.apart q.tree q.numbers q.fresh))

pub push_next-requires-clause-below : goal.push_next-requires-clause-below
push_next-requires-clause-below c =
    let g = c.args.stock.now.nodes in
    let ns = c.args.stock.now.numbers.items in
    let tree = c.args.tree.now in
    let n = c.args.numbered.now in
    let q = c.requires in
    let s = q.stock in
    let size : c.len-2.result ≡ length n.fresh.items = search rules in
    omega (arith, size, fresh_count g tree n.numbers.items n.fresh.items s.graph s.labels s.apart q.tree q.numbers q.fresh, fresh_within (rows_of g) tree (length tree), q.enough)

pub index-requires : goal.index-requires
index-requires c =
    let g = c.args.stock.now.nodes in
    let ns = c.args.stock.now.numbers.items in
    let tree = c.args.tree.now in
    let n = c.args.numbered.now in
    let q = c.requires in
    let s = q.stock in
    let size : vec_len n.numbers ≡ length n.numbers.items = search rules in
    omega (arith, size, numbers_size g tree n.numbers.items n.fresh.items s.graph s.labels s.apart q.tree q.numbers q.fresh, tree_some tree q.tree)

pub index-requires-2 : goal.index-requires-2
index-requires-2 c =
    let g = c.args.stock.now.nodes in
    let ns = c.args.stock.now.numbers.items in
    let tree = c.args.tree.now in
    let n = c.args.numbered.now in
    let q = c.requires in
    let s = q.stock in
    let is : c.deref.result.now ≡ n.fresh.items = c.deref.ensures.value in
    let grown = c.append_renumbered.new.self in
    let has : HasGrown g tree grown = has_grown g tree n.numbers.items n.fresh.items s.graph s.labels s.apart q.tree q.numbers q.fresh grown (c.in_ok-append_renumbered.ensures.ok ∙ ap (λ xs. g ++ renumbered tree (at_places n.numbers.items) xs) is) in
    let size : c.len-2.result ≡ length n.fresh.items = search rules in
    let count : c.len-2.result ≡ fresh_before (rows_of g) tree (length tree) = size ∙ fresh_count g tree n.numbers.items n.fresh.items s.graph s.labels s.apart q.tree q.numbers q.fresh in
    let numbers : c.push_next.new.numbers.items ≡ ns ++ range_with_len c.args.next (fresh_before (rows_of g) tree (length tree)) =
    c.push_next.ensures ∙ ap (λ xs. xs ++ range_with_len c.args.next c.len-2.result) c.in_ok-reserve.ensures.items ∙ ap (λ k. ns ++ range_with_len c.args.next k) count in
    let some : 0 < length tree = tree_some tree q.tree in
    let first : 0 < length n.numbers.items = omega (arith, numbers_size g tree n.numbers.items n.fresh.items s.graph s.labels s.apart q.tree q.numbers q.fresh, some) in
    let place : c.index.result.now ≡ row_number (rows_of g) (length g) tree 0 = get_or_read n.numbers.items _ _ first c.index.ensures 0 ∙ root_number g tree n.numbers.items n.fresh.items s.graph s.labels s.apart q.tree q.numbers q.fresh in
    let whole : vec_len c.push_next.new.numbers ≡ length c.push_next.new.numbers.items = search rules in
    let lt : row_number (rows_of g) (length g) tree 0 < length grown = number_in g tree grown s.graph s.labels s.apart q.tree has.graph has.labels has.rows 0 some in
    omega (arith, whole, ap length numbers, (is_grown g ns s tree q.tree c.args.next q.below grown has).size, lt, place)

pub returns-clause-rows : goal.returns-clause-rows
returns-clause-rows c =
    let g = c.args.stock.now.nodes in
    let ns = c.args.stock.now.numbers.items in
    let tree = c.args.tree.now in
    let n = c.args.numbered.now in
    let q = c.requires in
    let s = q.stock in
    let is : c.deref.result.now ≡ n.fresh.items = c.deref.ensures.value in
    let grown = c.append_renumbered.new.self in
    let has : HasGrown g tree grown = has_grown g tree n.numbers.items n.fresh.items s.graph s.labels s.apart q.tree q.numbers q.fresh grown (c.in_ok-append_renumbered.ensures.ok ∙ ap (λ xs. g ++ renumbered tree (at_places n.numbers.items) xs) is) in
    let size : c.len-2.result ≡ length n.fresh.items = search rules in
    let count : c.len-2.result ≡ fresh_before (rows_of g) tree (length tree) = size ∙ fresh_count g tree n.numbers.items n.fresh.items s.graph s.labels s.apart q.tree q.numbers q.fresh in
    let numbers : c.push_next.new.numbers.items ≡ ns ++ range_with_len c.args.next (fresh_before (rows_of g) tree (length tree)) =
    c.push_next.ensures ∙ ap (λ xs. xs ++ range_with_len c.args.next c.len-2.result) c.in_ok-reserve.ensures.items ∙ ap (λ k. ns ++ range_with_len c.args.next k) count in
    ap (stock_rows grown) numbers ∙ stock_grown g ns s tree q.tree c.args.next q.below grown has

pub returns-clause-stock : goal.returns-clause-stock
returns-clause-stock c =
    let g = c.args.stock.now.nodes in
    let ns = c.args.stock.now.numbers.items in
    let tree = c.args.tree.now in
    let n = c.args.numbered.now in
    let q = c.requires in
    let s = q.stock in
    let is : c.deref.result.now ≡ n.fresh.items = c.deref.ensures.value in
    let grown = c.append_renumbered.new.self in
    let has : HasGrown g tree grown = has_grown g tree n.numbers.items n.fresh.items s.graph s.labels s.apart q.tree q.numbers q.fresh grown (c.in_ok-append_renumbered.ensures.ok ∙ ap (λ xs. g ++ renumbered tree (at_places n.numbers.items) xs) is) in
    let size : c.len-2.result ≡ length n.fresh.items = search rules in
    let count : c.len-2.result ≡ fresh_before (rows_of g) tree (length tree) = size ∙ fresh_count g tree n.numbers.items n.fresh.items s.graph s.labels s.apart q.tree q.numbers q.fresh in
    let numbers : c.push_next.new.numbers.items ≡ ns ++ range_with_len c.args.next (fresh_before (rows_of g) tree (length tree)) =
    c.push_next.ensures ∙ ap (λ xs. xs ++ range_with_len c.args.next c.len-2.result) c.in_ok-reserve.ensures.items ∙ ap (λ k. ns ++ range_with_len c.args.next k) count in
    subst (IsStock grown) (sym numbers) (is_grown g ns s tree q.tree c.args.next q.below grown has)

pub returns-clause-below : goal.returns-clause-below
returns-clause-below c =
    let g = c.args.stock.now.nodes in
    let ns = c.args.stock.now.numbers.items in
    let tree = c.args.tree.now in
    let n = c.args.numbered.now in
    let q = c.requires in
    let s = q.stock in
    let is : c.deref.result.now ≡ n.fresh.items = c.deref.ensures.value in
    let grown = c.append_renumbered.new.self in
    let has : HasGrown g tree grown = has_grown g tree n.numbers.items n.fresh.items s.graph s.labels s.apart q.tree q.numbers q.fresh grown (c.in_ok-append_renumbered.ensures.ok ∙ ap (λ xs. g ++ renumbered tree (at_places n.numbers.items) xs) is) in
    let size : c.len-2.result ≡ length n.fresh.items = search rules in
    let count : c.len-2.result ≡ fresh_before (rows_of g) tree (length tree) = size ∙ fresh_count g tree n.numbers.items n.fresh.items s.graph s.labels s.apart q.tree q.numbers q.fresh in
    let numbers : c.push_next.new.numbers.items ≡ ns ++ range_with_len c.args.next (fresh_before (rows_of g) tree (length tree)) =
    c.push_next.ensures ∙ ap (λ xs. xs ++ range_with_len c.args.next c.len-2.result) c.in_ok-reserve.ensures.items ∙ ap (λ k. ns ++ range_with_len c.args.next k) count in
    let same : fresh_before (stock_rows g ns) tree (length tree) ≡ fresh_before (rows_of g) tree (length tree) = fresh_stock g ns s tree q.tree (length tree) (omega arith) in
    subst (λ (xs : List ℕ). All (λ number. number < c.args.next + fresh_before (stock_rows g ns) tree (length tree)) xs) (sym numbers)
    (subst (λ (k : ℕ). All (λ number. number < c.args.next + k) (ns ++ range_with_len c.args.next (fresh_before (rows_of g) tree (length tree)))) (sym same) (below_grown g ns s tree q.tree c.args.next q.below grown has))

pub returns-clause-kept : goal.returns-clause-kept
returns-clause-kept c =
    let g = c.args.stock.now.nodes in
    let ns = c.args.stock.now.numbers.items in
    let tree = c.args.tree.now in
    let n = c.args.numbered.now in
    let q = c.requires in
    let s = q.stock in
    let is : c.deref.result.now ≡ n.fresh.items = c.deref.ensures.value in
    let grown = c.append_renumbered.new.self in
    let has : HasGrown g tree grown = has_grown g tree n.numbers.items n.fresh.items s.graph s.labels s.apart q.tree q.numbers q.fresh grown (c.in_ok-append_renumbered.ensures.ok ∙ ap (λ xs. g ++ renumbered tree (at_places n.numbers.items) xs) is) in
    let size : c.len-2.result ≡ length n.fresh.items = search rules in
    let count : c.len-2.result ≡ fresh_before (rows_of g) tree (length tree) = size ∙ fresh_count g tree n.numbers.items n.fresh.items s.graph s.labels s.apart q.tree q.numbers q.fresh in
    let numbers : c.push_next.new.numbers.items ≡ ns ++ range_with_len c.args.next (fresh_before (rows_of g) tree (length tree)) =
    c.push_next.ensures ∙ ap (λ xs. xs ++ range_with_len c.args.next c.len-2.result) c.in_ok-reserve.ensures.items ∙ ap (λ k. ns ++ range_with_len c.args.next k) count in
    subst (λ (xs : List ℕ). All (Contains xs) ns) (sym numbers) (All-from_gets (Contains (ns ++ range_with_len c.args.next (fresh_before (rows_of g) tree (length tree)))) ns (λ k x e.
    Contains-get (ns ++ range_with_len c.args.next (fresh_before (rows_of g) tree (length tree))) k x (get-append ns (range_with_len c.args.next (fresh_before (rows_of g) tree (length tree))) k x e)))

pub returns-clause-count : goal.returns-clause-count
returns-clause-count c =
    let g = c.args.stock.now.nodes in
    let ns = c.args.stock.now.numbers.items in
    let tree = c.args.tree.now in
    let n = c.args.numbered.now in
    let q = c.requires in
    let s = q.stock in
    let is : c.deref.result.now ≡ n.fresh.items = c.deref.ensures.value in
    let grown = c.append_renumbered.new.self in
    let has : HasGrown g tree grown = has_grown g tree n.numbers.items n.fresh.items s.graph s.labels s.apart q.tree q.numbers q.fresh grown (c.in_ok-append_renumbered.ensures.ok ∙ ap (λ xs. g ++ renumbered tree (at_places n.numbers.items) xs) is) in
    let size : c.len-2.result ≡ length n.fresh.items = search rules in
    let count : c.len-2.result ≡ fresh_before (rows_of g) tree (length tree) = size ∙ fresh_count g tree n.numbers.items n.fresh.items s.graph s.labels s.apart q.tree q.numbers q.fresh in
    let numbers : c.push_next.new.numbers.items ≡ ns ++ range_with_len c.args.next (fresh_before (rows_of g) tree (length tree)) =
    c.push_next.ensures ∙ ap (λ xs. xs ++ range_with_len c.args.next c.len-2.result) c.in_ok-reserve.ensures.items ∙ ap (λ k. ns ++ range_with_len c.args.next k) count in
    let same : fresh_before (stock_rows g ns) tree (length tree) ≡ fresh_before (rows_of g) tree (length tree) = fresh_stock g ns s tree q.tree (length tree) (omega arith) in
    omega (arith, has.count, same)

pub returns-clause-root : goal.returns-clause-root
returns-clause-root c =
    let g = c.args.stock.now.nodes in
    let ns = c.args.stock.now.numbers.items in
    let tree = c.args.tree.now in
    let n = c.args.numbered.now in
    let q = c.requires in
    let s = q.stock in
    let is : c.deref.result.now ≡ n.fresh.items = c.deref.ensures.value in
    let grown = c.append_renumbered.new.self in
    let has : HasGrown g tree grown = has_grown g tree n.numbers.items n.fresh.items s.graph s.labels s.apart q.tree q.numbers q.fresh grown (c.in_ok-append_renumbered.ensures.ok ∙ ap (λ xs. g ++ renumbered tree (at_places n.numbers.items) xs) is) in
    let size : c.len-2.result ≡ length n.fresh.items = search rules in
    let count : c.len-2.result ≡ fresh_before (rows_of g) tree (length tree) = size ∙ fresh_count g tree n.numbers.items n.fresh.items s.graph s.labels s.apart q.tree q.numbers q.fresh in
    let numbers : c.push_next.new.numbers.items ≡ ns ++ range_with_len c.args.next (fresh_before (rows_of g) tree (length tree)) =
    c.push_next.ensures ∙ ap (λ xs. xs ++ range_with_len c.args.next c.len-2.result) c.in_ok-reserve.ensures.items ∙ ap (λ k. ns ++ range_with_len c.args.next k) count in
    let some : 0 < length tree = tree_some tree q.tree in
    let first : 0 < length n.numbers.items = omega (arith, numbers_size g tree n.numbers.items n.fresh.items s.graph s.labels s.apart q.tree q.numbers q.fresh, some) in
    let place : c.index.result.now ≡ row_number (rows_of g) (length g) tree 0 = get_or_read n.numbers.items _ _ first c.index.ensures 0 ∙ root_number g tree n.numbers.items n.fresh.items s.graph s.labels s.apart q.tree q.numbers q.fresh in
    let lt : row_number (rows_of g) (length g) tree 0 < length grown = number_in g tree grown s.graph s.labels s.apart q.tree has.graph has.labels has.rows 0 some in
    let within : c.index.result.now < length c.push_next.new.numbers.items = omega (arith, ap length numbers, (is_grown g ns s tree q.tree c.args.next q.below grown has).size, lt, place) in
    get_or_read c.push_next.new.numbers.items _ _ within c.index-2.ensures 0 ∙ ap (λ xs. number_of_node xs c.index.result.now) numbers
    ∙ ap (number_of_node (ns ++ range_with_len c.args.next (fresh_before (rows_of g) tree (length tree)))) place ∙ number_grown g ns s tree q.tree c.args.next q.below grown has 0 some

pub returns-clause-root_in : goal.returns-clause-root_in
returns-clause-root_in c =
    let g = c.args.stock.now.nodes in
    let ns = c.args.stock.now.numbers.items in
    let tree = c.args.tree.now in
    let n = c.args.numbered.now in
    let q = c.requires in
    let s = q.stock in
    let is : c.deref.result.now ≡ n.fresh.items = c.deref.ensures.value in
    let grown = c.append_renumbered.new.self in
    let has : HasGrown g tree grown = has_grown g tree n.numbers.items n.fresh.items s.graph s.labels s.apart q.tree q.numbers q.fresh grown (c.in_ok-append_renumbered.ensures.ok ∙ ap (λ xs. g ++ renumbered tree (at_places n.numbers.items) xs) is) in
    let size : c.len-2.result ≡ length n.fresh.items = search rules in
    let count : c.len-2.result ≡ fresh_before (rows_of g) tree (length tree) = size ∙ fresh_count g tree n.numbers.items n.fresh.items s.graph s.labels s.apart q.tree q.numbers q.fresh in
    let numbers : c.push_next.new.numbers.items ≡ ns ++ range_with_len c.args.next (fresh_before (rows_of g) tree (length tree)) =
    c.push_next.ensures ∙ ap (λ xs. xs ++ range_with_len c.args.next c.len-2.result) c.in_ok-reserve.ensures.items ∙ ap (λ k. ns ++ range_with_len c.args.next k) count in
    let some : 0 < length tree = tree_some tree q.tree in
    let first : 0 < length n.numbers.items = omega (arith, numbers_size g tree n.numbers.items n.fresh.items s.graph s.labels s.apart q.tree q.numbers q.fresh, some) in
    let place : c.index.result.now ≡ row_number (rows_of g) (length g) tree 0 = get_or_read n.numbers.items _ _ first c.index.ensures 0 ∙ root_number g tree n.numbers.items n.fresh.items s.graph s.labels s.apart q.tree q.numbers q.fresh in
    let lt : row_number (rows_of g) (length g) tree 0 < length grown = number_in g tree grown s.graph s.labels s.apart q.tree has.graph has.labels has.rows 0 some in
    let within : c.index.result.now < length c.push_next.new.numbers.items = omega (arith, ap length numbers, (is_grown g ns s tree q.tree c.args.next q.below grown has).size, lt, place) in
    Contains-get c.push_next.new.numbers.items c.index.result.now c.index-2.result.now
    (slice_get-get_or c.push_next.new.numbers.items c.index.result.now 0 within ∙ ap (λ k. Some k) (sym (get_or_read c.push_next.new.numbers.items _ _ within c.index-2.ensures 0)))
