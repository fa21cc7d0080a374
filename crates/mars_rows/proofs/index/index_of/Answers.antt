use Rattle.std.proofs.Common.{◌≡◌, ℕ, List, [], subst, ◌∙◌}
use Rattle.mars_rows.specs.IndexInside.{Pair, AreMade}
use Rattle.mars_rows.proofs.Grows.{stock_index}
use Rattle.mars_rows.proofs.index.index_of.Goals as goal

pub returns : goal.returns
returns c =
    let g = c.args.nodes.now in
    let ns = c.args.numbers.now in
    let parts = c.in_ok-parts.parts in
    let heads = c.in_ok-heads.heads.items in
    let entries : List Pair = c.in_ok-entries.entries.items in
    let old : List Pair = c.reserve.new.self.entries in
    let none : old ≡ [] = c.in_ok-reserve.ensures.entries ∙ c.new-index.ensures.empty in
    let made : AreMade g parts ns heads entries = subst (λ (xs : List ℕ). AreMade g parts ns xs entries) c.deref.ensures.value c.in_ok-entries.ensures in
    stock_index g ns c.requires parts heads c.in_ok-parts.ensures c.in_ok-heads.ensures entries old none made c.put_entries.new.index.entries c.put_entries.ensures
