use Rattle.std.proofs.Common.{◌≡◌, ℕ, [], ◌∷◌, ◌++◌, All, Contains, subst, sym, ap, ◌∙◌}
use Rattle.std.proofs.lemmas.List.Elements.{All-append, All-cons, All-nil}
use Rattle.mars_rows.specs.Rows.{HasRow}
use Rattle.mars_rows.specs.RowsObject.{RowsObject}
use Rattle.mars_rows.specs.StoreInside.{rows_object_of}
use Rattle.mars_rows.proofs.Stocked.{stock_contains}
use Rattle.mars_rows.proofs.store.Rows.pin.Goals as goal

pub invariant_of-self : goal.invariant_of-self
invariant_of-self c =
    let p = c.self.inside in
    let i = c.self.invariant in
    record {
      stock = i.stock;
      indexed = i.indexed;
      below = i.below;
      pinned = subst (All (λ (pin : ℕ × ℕ). Contains p.stock.numbers.items pin.1)) (sym c.in_err-reserve.ensures.items) i.pinned;
      within = i.within;
      fits = i.fits;
      trees = i.trees;
      small = i.small;
    }

pub invariant_of-self-2 : goal.invariant_of-self-2
invariant_of-self-2 c =
    let p = c.self.inside in
    let i = c.self.invariant in
    let ns = p.stock.numbers.items in
    let pins : c.push_reserved.new.self.items ≡ p.pins.items ++ (c.args.who, c.args.id) ∷ [] = c.push_reserved.ensures.items ∙ ap (λ xs. xs ++ (c.args.who, c.args.id) ∷ []) c.in_ok-reserve.ensures.items in
    let has : HasRow (rows_object_of p).table.rows c.args.id = subst (λ (o : RowsObject). HasRow o.table.rows c.args.id) (sym c.self.view_is) c.requires in
    record {
      stock = i.stock;
      indexed = i.indexed;
      below = i.below;
      pinned = subst (All (λ (pin : ℕ × ℕ). Contains ns pin.1)) (sym pins) (All-append (λ (pin : ℕ × ℕ). Contains ns pin.1) p.pins.items ((c.args.who, c.args.id) ∷ []) i.pinned
          (All-cons (λ (pin : ℕ × ℕ). Contains ns pin.1) (c.args.who, c.args.id) [] (stock_contains p.stock.nodes ns i.stock c.args.id has) (All-nil (λ (pin : ℕ × ℕ). Contains ns pin.1))));
      within = i.within;
      fits = i.fits;
      trees = i.trees;
      small = i.small;
    }
